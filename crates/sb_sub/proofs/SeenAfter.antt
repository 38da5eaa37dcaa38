-- What is seen stays seen after register.
use Rattle.std.proofs.Common.{◌≡◌, ◌∙◌, sym, ap, subst, ℕ, ◌*◌, ◌^◌, ◌-◌, Bool, true, false, List, ◌++◌, refl}
use Rattle.std.specs.Prelude.{Option, Some, None}
use Rattle.std.specs.Option.{option_map, option_and_then}
use Rattle.sb_memory.specs.Words.{put_word}
use Rattle.sb_state.specs.declared.page.PageName.{PageName}
use Rattle.sb_state.specs.declared.page.PageName.TheVariants.{Pool}
use Rattle.sb_state.specs.declared.page.Page.{Page}
use Rattle.sb_state.specs.declared.page.SeenPage.{SeenPage}
use Rattle.sb_trace.specs.PageName.{same_name}
use Rattle.sb_trace.specs.PageWords.{with_word}
use Rattle.sb_trace.specs.State.{find_page, with_page_bytes, contents, with_contents}
use Rattle.sb_trace.specs.Start.{pages_from}
use Rattle.sb_trace.specs.SyscallRegister.{server_stack_page, with_server}
use Rattle.sb_trace.specs.Windows.{name_at, process_shown, page_by_name, page_and_mode, page_for}
use Rattle.sb_state.proofs.Names.{name_same}
use Rattle.sb_state.proofs.PageLists.{either, found_added, found_other, found_same, with_bytes as page_with}
use Rattle.sb_shows.proofs.Bytes.{IsFound, seen_there}
use Rattle.sb_sub.specs.Translations.{RegisterStays}

seen_with : (name : PageName) (bytes : List ℕ) (found : Option Page)
    → option_map (page_and_mode name) (option_map (page_with bytes) found) ≡ option_map (page_and_mode name) found
seen_with name bytes None = refl
seen_with name bytes (Some page) = refl

replaced_seen : (test : Bool) (pages : List Page) (one name : PageName) (bytes : List ℕ) → same_name one name ≡ test
    → page_by_name (with_page_bytes pages one bytes) name ≡ page_by_name pages name
replaced_seen true pages one name bytes is =
    let same = name_same one name is in
    ap (option_map (page_and_mode name)) (ap (find_page (with_page_bytes pages one bytes)) (sym same)
    ∙ found_same pages one bytes)
    ∙ (seen_with name bytes (find_page pages one)
    ∙ ap (λ (n : PageName). option_map (page_and_mode name) (find_page pages n)) same)
replaced_seen false pages one name bytes is = ap (option_map (page_and_mode name)) (found_other pages one name bytes is)

added_seen : (name : PageName) (one : SeenPage) (found rest : Option Page) → option_map (page_and_mode name) found ≡ Some one
    → option_map (page_and_mode name) (either found rest) ≡ Some one
added_seen name one None rest is = absurd (let e = is in cc)
added_seen name one (Some page) rest is = is

seen_after : (pages extra : List Page) (pool : PageName) (bytes : List ℕ) (name : Option PageName) (one : SeenPage)
    → option_and_then (page_by_name pages) name ≡ Some one
    → option_and_then (page_by_name (with_page_bytes pages pool bytes ++ extra)) name ≡ Some one
seen_after pages extra pool bytes None one is = absurd (let e = is in cc)
seen_after pages extra pool bytes (Some name) one is =
    ap (option_map (page_and_mode name)) (found_added (with_page_bytes pages pool bytes) extra name)
    ∙ added_seen name one (find_page (with_page_bytes pages pool bytes) name) (find_page extra name)
    (replaced_seen (same_name pool name) pages pool name bytes refl ∙ is)

pub register_stays : RegisterStays
unfolding page_for with_server with_word with_contents
register_stays placement after state process handler stacks thread index stays page one is = (
  seen_after state.pages (pages_from (server_stack_page process) 0 (4 * stacks)) (Pool process)
      (put_word (contents state (Pool process)) 0 (2 ^ stacks - 1))
      (option_and_then (name_at state.threads thread index page) (process_shown state.threads thread index)) one is,
  stays.frames one.name (subst (IsFound state.pages) is (seen_there state thread index page)),
)
