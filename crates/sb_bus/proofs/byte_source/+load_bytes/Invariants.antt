use Rattle.sb_bus.proofs.byte_source.+load_bytes.Given as goal

abbrev pub decreases-load_bytes : goal.decreases-load_bytes
decreases-load_bytes g l = l.size
