-- What keeps VMFUNC's bytes out of code: all that holds of pages but that what is loaded is a byte.
use Rattle.std.specs.Prelude.{◌≡◌, ℕ, false, List, length, Some}
use Rattle.sb_tramp.specs.Home.{home_page}
use Rattle.sb_tramp.specs.Server.{server_page}
use Rattle.sb_state.specs.declared.page.PageName.{PageName}
use Rattle.sb_state.specs.declared.page.PageName.TheVariants.{Text, Area, Heap, HomeTrampoline, ServerTrampoline}
use Rattle.sb_state.specs.declared.page.Page.{Page}
use Rattle.sb_state.specs.State.{find_page}
use Rattle.sb_trace.specs.Code.{code_byte, HasNoCodePattern}
use Rattle.sb_trace.specs.Sound.{HasPage, is_code_name, ArePagesSound}
use Rattle.sb_trace.specs.Changes.{AreBytes}

-- Each page has 4,096 bytes, the trampoline stands, and VMFUNC's bytes stand in no text, rewrite area or executable heap.
pub record AreCodePagesSound (pages : List Page) : Type 0 where
  pub sizes : (name : PageName) (page : Page) → find_page pages name ≡ Some page → length page.bytes ≡ 4096
  pub home : HasPage pages HomeTrampoline home_page
  pub server : HasPage pages ServerTrampoline server_page
  pub text : (process : ℕ) → HasNoCodePattern (code_byte pages (Text process))
  pub area : (process : ℕ) → HasNoCodePattern (code_byte pages (Area process))
  pub heap : (process : ℕ) → HasNoCodePattern (code_byte pages (Heap process))

-- it is a part of what holds of pages
pub code_pages_of : (pages : List Page) → ArePagesSound pages → AreCodePagesSound pages
code_pages_of pages sound = record {
  sizes = sound.sizes;
  home = sound.home;
  server = sound.server;
  text = sound.text;
  area = sound.area;
  heap = sound.heap;
}

-- what can be loaded is a byte
abbrev pub HaveBytes : List Page → Type 0
HaveBytes pages = (name : PageName) (page : Page) → is_code_name name ≡ false → find_page pages name ≡ Some page
    → AreBytes page.bytes

-- the two are all
pub pages_of : (pages : List Page) → AreCodePagesSound pages → HaveBytes pages → ArePagesSound pages
pages_of pages code bytes = record {
  sizes = code.sizes;
  bytes = bytes;
  home = code.home;
  server = code.server;
  text = code.text;
  area = code.area;
  heap = code.heap;
}
