-- VMFUNC is fetched where its bytes stand, and where it is fetched its bytes stand.
use Rattle.std.proofs.Common.{◌≡◌, ◌∙◌, ap, subst, ℕ, Bool, true, false, ◌++◌, refl, Result, Ok, rules}
use Rattle.std.specs.Prelude.{Option, Some, None, IsTrue}
use Rattle.std.specs.Option.{option_to_list}
use Rattle.sb_insn.specs.declared.insn.Insn.{Insn}
use Rattle.sb_insn.specs.declared.insn.Op.{Op}
use Rattle.sb_insn.specs.declared.insn.Op.TheVariants.{Vmfunc}
use Rattle.sb_insn.specs.declared.insn.Disp.{Disp}
use Rattle.sb_insn.specs.declared.insn.Disp.TheVariants as disp
use Rattle.sb_insn.specs.declared.insn.Imm.{Imm}
use Rattle.sb_insn.specs.declared.insn.Imm.TheVariants as imm
use Rattle.sb_insn.specs.OpcodeMap.{cell_of}
use Rattle.sb_insn.specs.Fields.{is_modrm_field, is_sib_field, disp_kind_of, kind_of_disp, rule_of, imm_kind_of, kind_of_imm}
use Rattle.sb_insn.specs.Spelling.{spelling, lead_bytes, disp_bytes, imm_bytes}
use Rattle.sb_insn.specs.Grammar.{IsValid}
use Rattle.sb_bus.specs.declared.stop.BusStop.{BusStop}
use Rattle.sb_exec.specs.Fetching.{Stands, Fetches}
use Rattle.sb_scan.specs.Pattern.{pattern}
use Rattle.sb_tramp.specs.Forms.{opcode_alone}
use Rattle.sb_exec.proofs.OneFetch.{short_prefixes}

-- ---- its spelling

spelled_by : (lock : Bool) (rex modrm sib : Option ℕ) (displacement : Disp) (immediate : Imm)
    → IsTrue (is_modrm_field (cell_of Vmfunc) lock rex modrm)
    → IsTrue (is_sib_field modrm sib) → kind_of_disp displacement ≡ disp_kind_of modrm sib
    → kind_of_imm immediate ≡ imm_kind_of (rule_of (cell_of Vmfunc) modrm) rex
    → lead_bytes lock rex Vmfunc ++
    (option_to_list modrm ++ (option_to_list sib ++ (disp_bytes displacement ++ imm_bytes immediate))) ≡ pattern
spelled_by lock rex (Some modrm) sib displacement immediate is_modrm is_sib disp_is imm_is = absurd cc
spelled_by true rex None sib displacement immediate is_modrm is_sib disp_is imm_is = absurd cc
spelled_by false (Some rex) None sib displacement immediate is_modrm is_sib disp_is imm_is = absurd cc
spelled_by false None None (Some sib) displacement immediate is_modrm is_sib disp_is imm_is = absurd cc
spelled_by false None None None (disp.D8 value) immediate is_modrm is_sib disp_is imm_is = absurd cc
spelled_by false None None None (disp.D32 value) immediate is_modrm is_sib disp_is imm_is = absurd cc
spelled_by false None None None disp.None (imm.I8 value) is_modrm is_sib disp_is imm_is = absurd cc
spelled_by false None None None disp.None (imm.I32 value) is_modrm is_sib disp_is imm_is = absurd cc
spelled_by false None None None disp.None (imm.I64 value) is_modrm is_sib disp_is imm_is = absurd cc
spelled_by false None None None disp.None imm.None is_modrm is_sib disp_is imm_is = refl

pub vmfunc_spelled : (insn : Insn) → IsValid insn → insn.op ≡ Vmfunc → spelling insn ≡ pattern
vmfunc_spelled insn valid is =
    ap (λ (op : Op). lead_bytes insn.lock insn.rex op ++
    (option_to_list insn.modrm ++ (option_to_list insn.sib ++ (disp_bytes insn.disp ++ imm_bytes insn.imm)))) is
    ∙ spelled_by insn.lock insn.rex insn.modrm insn.sib insn.disp insn.imm
    (subst (λ (op : Op). IsTrue (is_modrm_field (cell_of op) insn.lock insn.rex insn.modrm)) is valid.modrm) valid.sib valid.disp
    (subst (λ (op : Op). kind_of_imm insn.imm ≡ imm_kind_of (rule_of (cell_of op) insn.modrm) insn.rex) is valid.imm)

pub vmfunc_valid : IsValid (opcode_alone Vmfunc)
vmfunc_valid = search rules

-- ---- fetching

-- where it is fetched its bytes stand
pub vmfunc_stands : (fetch : ℕ → Result ℕ BusStop) (address asked : ℕ) (insn : Insn) → insn.op ≡ Vmfunc
    → Fetches fetch address (Ok insn) asked → Stands fetch address pattern
vmfunc_stands fetch address asked insn is fetched =
    subst (Stands fetch address) (fetched.ends.0.1 ∙ vmfunc_spelled insn fetched.ends.0.0 is) fetched.stands

-- where they stand it is fetched
pub vmfunc_fetched : (fetch : ℕ → Result ℕ BusStop) (address : ℕ) → Stands fetch address pattern
    → Fetches fetch address (Ok (opcode_alone Vmfunc)) 3
vmfunc_fetched fetch address stands =
    record {
      bytes = pattern;
      stands = stands;
      prefixes = short_prefixes (opcode_alone Vmfunc) vmfunc_valid;
      ends = ((vmfunc_valid, refl), refl);
    }
