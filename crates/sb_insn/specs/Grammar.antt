-- Which instructions are of the subset, and which bytes begin with one.
use Rattle.std.specs.Prelude.{◌≡◌, ℕ, ◌<◌, IsTrue, List, ◌++◌, Option, Some, None, FitsSigned}
use Rattle.std.specs.Int.{w8, w32, w64}
use Rattle.sb_insn.specs.declared.insn.Insn.{Insn}
use Rattle.sb_insn.specs.declared.insn.Disp.{Disp}
use Rattle.sb_insn.specs.declared.insn.Disp.TheVariants as disp
use Rattle.sb_insn.specs.declared.insn.Imm.{Imm}
use Rattle.sb_insn.specs.declared.insn.Imm.TheVariants as imm
use Rattle.sb_insn.specs.OpcodeMap.{cell_of}
use Rattle.sb_insn.specs.Spelling.{spelling}
use Rattle.sb_insn.specs.Fields.{is_rex_field, is_modrm_field, is_sib_field, kind_of_disp, disp_kind_of, kind_of_imm, imm_kind_of, rule_of}

-- ---- the range of each field's type

abbrev pub IsByte : Option ℕ → Type 0
IsByte None = Unit {0}
IsByte (Some byte) = byte < 256

abbrev pub FitsDisp : Disp → Type 0
FitsDisp disp.None = Unit {0}
FitsDisp (disp.D8 value) = FitsSigned w8 value
FitsDisp (disp.D32 value) = FitsSigned w32 value

abbrev pub FitsImm : Imm → Type 0
FitsImm imm.None = Unit {0}
FitsImm (imm.I8 value) = FitsSigned w8 value
FitsImm (imm.I32 value) = FitsSigned w32 value
FitsImm (imm.I64 value) = FitsSigned w64 value

-- ---- the grammar

-- Each field is one that the fields before it permit.
pub record IsValid (insn : Insn) : Type 0 where
  pub rex : IsTrue (is_rex_field insn.rex)
  pub modrm : IsTrue (is_modrm_field (cell_of insn.op) insn.lock insn.rex insn.modrm)
  pub modrm_byte : IsByte insn.modrm
  pub sib : IsTrue (is_sib_field insn.modrm insn.sib)
  pub sib_byte : IsByte insn.sib
  pub disp : kind_of_disp insn.disp ≡ disp_kind_of insn.modrm insn.sib
  pub disp_fits : FitsDisp insn.disp
  pub imm : kind_of_imm insn.imm ≡ imm_kind_of (rule_of (cell_of insn.op) insn.modrm) insn.rex
  pub imm_fits : FitsImm insn.imm

-- these bytes spell the instruction
abbrev pub Spells : List ℕ → Insn → Type 0
Spells bytes insn = IsValid insn × (bytes ≡ spelling insn)

-- the bytes begin with the spelling of the instruction
abbrev pub BeginsWith : List ℕ → Insn → Type 0
BeginsWith bytes insn = IsValid insn × ((rest : List ℕ) × (bytes ≡ spelling insn ++ rest))

-- no instruction begins the bytes, and one begins some longer input
abbrev pub IsShort : List ℕ → Type 0
IsShort bytes = ((insn : Insn) → ¬ BeginsWith bytes insn) × ((more : List ℕ) × (insn : Insn) × BeginsWith (bytes ++ more) insn)

-- no instruction begins the bytes, however they go on
abbrev pub IsUndecoded : List ℕ → Type 0
IsUndecoded bytes = (more : List ℕ) (insn : Insn) → ¬ BeginsWith (bytes ++ more) insn
