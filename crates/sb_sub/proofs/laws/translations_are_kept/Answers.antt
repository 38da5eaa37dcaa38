use Rattle.sb_sub.proofs.SeenAfter.{register_stays}
use Rattle.sb_sub.proofs.Translated.{translations_kept}
use Rattle.sb_sub.proofs.laws.translations_are_kept.Goals as goal

pub returns-clause-kept : goal.returns-clause-kept
returns-clause-kept c = translations_kept

pub returns-clause-register : goal.returns-clause-register
returns-clause-register c = register_stays
