-- What is said of an answer: how many bytes it has, and that the bytes of VMFUNC do not stand in it.
use Rattle.std.specs.Prelude.{◌≡◌, ℕ, ◌+◌, ◌*◌, ◌≤◌, List, ◌++◌, length, replicate}
use Rattle.sb_abi.specs.declared.space.TheConstants.{TEXT_ADDRESS, AREA_ADDRESS, AREA_PAGES}
use Rattle.sb_memory.specs.declared.page.TheConstants.{PAGE_SIZE}
use Rattle.sb_insn.specs.declared.insn.Insn.{Insn}
use Rattle.sb_insn.specs.Spelling.{spelling}
use Rattle.sb_scan.specs.Pattern.{HasNoPattern}
use Rattle.sb_forms.specs.Places.{text_end}
use Rattle.sb_forms.specs.declared.slots.Site.{Site}
use Rattle.sb_forms.specs.declared.answer.Form.{Form}
use Rattle.sb_forms.specs.declared.answer.Form.TheVariants as form

-- ---- lengths

-- the address after the last of the rewrite area
abbrev pub area_end : ℕ
area_end = AREA_ADDRESS + AREA_PAGES * PAGE_SIZE

-- a slot in the rewrite area, and a next instruction behind one of a text
pub record IsSite (site : Site) : Type 0 where
  pub behind : TEXT_ADDRESS ≤ site.next
  pub next : site.next ≤ text_end + 16
  pub slot : site.slot ≤ area_end

-- a slot of 74 bytes at most
pub record FitsSlot (pre main post : List ℕ) : Type 0 where
  pub before : length pre ≤ 50
  pub work : length main ≤ 9
  pub behind : length post ≤ 24
  pub whole : length pre + length main + length post ≤ 74

abbrev pub IsSmall : Form → Type 0
IsSmall form.Keep = Unit {0}
IsSmall (form.InPlace bytes) = Unit {0}
IsSmall (form.Moved pre main post) = FitsSlot pre main post
IsSmall form.Unmovable = Unit {0}

-- In place stand as many bytes as the instruction has; one that is moved has room for a jump of five bytes.
abbrev pub HasRoom : Insn → Form → Type 0
HasRoom insn form.Keep = Unit {0}
HasRoom insn (form.InPlace bytes) = length bytes ≡ length (spelling insn)
HasRoom insn (form.Moved pre main post) = (5 ≤ length (spelling insn)) × FitsSlot pre main post
HasRoom insn form.Unmovable = Unit {0}

-- ---- the bytes of VMFUNC

-- they stand nowhere in these bytes, alone or with bytes CC around them
abbrev pub IsClean : List ℕ → Type 0
IsClean bytes = (before behind : ℕ) → HasNoPattern (replicate before 0xCC ++ (bytes ++ replicate behind 0xCC))

-- nowhere in what stands in place of the instruction, and nowhere in its slot
abbrev pub IsCleanForm : Insn → Form → Type 0
IsCleanForm insn form.Keep = HasNoPattern (spelling insn)
IsCleanForm insn (form.InPlace bytes) = IsClean bytes
IsCleanForm insn (form.Moved pre main post) = IsClean (pre ++ (main ++ post))
IsCleanForm insn form.Unmovable = Unit {0}
