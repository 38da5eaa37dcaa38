-- Reading an instruction: its fields one after another, each as the fields before it decide.
use Rattle.std.specs.Prelude.{ℕ, List, Option, Ok, Err}
use Rattle.sb_insn.specs.declared.insn.Insn.{Insn}
use Rattle.sb_insn.specs.declared.insn.Disp.{Disp}
use Rattle.sb_insn.specs.declared.insn.Imm.{Imm}
use Rattle.sb_insn.specs.OpcodeMap.{cell_of}
use Rattle.sb_insn.specs.Fields.{disp_kind_of, rule_of, imm_kind_of}
use Rattle.sb_decode.specs.declared.lead.Lead.{Lead}
use Rattle.sb_decode.specs.Reading.{Read, field_pair}
use Rattle.sb_decode.specs.LeadReader.{lead_at}
use Rattle.sb_decode.specs.FieldReaders.{modrm_at, sib_at, disp_at, imm_at}

-- the lead, and behind it ModRM, SIB, the displacement and the immediate
abbrev pub Parts : Type 0
Parts = Lead × (Option ℕ × (Option ℕ × (Disp × Imm)))

abbrev pub insn_of : Parts → Insn
insn_of parts =
    record {
      lock = parts.0.lock;
      rex = parts.0.rex;
      op = parts.0.op;
      modrm = parts.1.0;
      sib = parts.1.1.0;
      disp = parts.1.1.1.0;
      imm = parts.1.1.1.1;
    }

unfoldable pub parts_at : List ℕ → Read Parts
parts_at =
    field_pair lead_at (λ lead.
    field_pair (modrm_at (cell_of lead.op) lead.lock lead.rex) (λ modrm.
    field_pair (sib_at modrm) (λ sib.
    field_pair (disp_at (disp_kind_of modrm sib)) (λ disp.
    imm_at (imm_kind_of (rule_of (cell_of lead.op) modrm) lead.rex)))))

abbrev pub from_parts : Read Parts → Read Insn
from_parts (Ok read) = Ok (insn_of read.0, read.1)
from_parts (Err fault) = Err fault
