use Rattle.sb_nested.proofs.store_word.+look_on.Given as goal

abbrev pub decreases-look_on : goal.decreases-look_on
decreases-look_on g l = l.count
