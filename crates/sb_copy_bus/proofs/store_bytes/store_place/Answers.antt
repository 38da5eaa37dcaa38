use Rattle.std.proofs.Common.{ap, ◌∙◌}
use Rattle.sb_memory.specs.Physical.{Physical}
use Rattle.sb_memory.specs.Accounts.{ReadByte}
use Rattle.sb_agree.specs.Noted.{noted_rule}
use Rattle.sb_copy_bus.proofs.Again.{byte_made}
use Rattle.sb_copy_bus.proofs.store_bytes.store_place.Goals as goal

pub returns-in-Ok-clause-made : goal.returns-in-Ok-clause-made
returns-in-Ok-clause-made c =
    byte_made c.args.part.now.memory c.read_byte.new.self.memory c.args.eptp c.args.cr3 c.place.new.part.noted
    c.read_byte.new.self.noted c.place.new.made c.in-Some.place.0 c.place.ensures.made
    (c.read_byte.ensures.same ∙ c.place.ensures.same)
    (c.read_byte.ensures.account
    ∙ ap (λ (memory : Physical). noted_rule (ReadByte c.in-Some.place.0) memory c.place.new.part.noted) c.place.ensures.same)

pub returns-in-Err-clause-made : goal.returns-in-Err-clause-made
returns-in-Err-clause-made c =
    byte_made c.args.part.now.memory c.read_byte.new.self.memory c.args.eptp c.args.cr3 c.place.new.part.noted
    c.read_byte.new.self.noted c.place.new.made c.in-Some.place.0 c.place.ensures.made
    (c.read_byte.ensures.same ∙ c.place.ensures.same)
    (c.read_byte.ensures.account
    ∙ ap (λ (memory : Physical). noted_rule (ReadByte c.in-Some.place.0) memory c.place.new.part.noted) c.place.ensures.same)
