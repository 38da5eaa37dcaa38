-- A pool word is a word, since its page has bytes.
use Rattle.std.proofs.Common.{◌≡◌, ℕ, zero, suc, ◌^◌, ◌<◌, List, [], ◌∷◌, refl, arith}
use Rattle.std.specs.Prelude.{Option, Some, None, slice_index}
use Rattle.byteorder.specs.Numbers.{little_from-lt}
use Rattle.sb_memory.specs.Words.{word_at}
use Rattle.sb_state.specs.declared.page.Page.{Page}
use Rattle.sb_state.specs.declared.page.PageName.TheVariants.{Pool}
use Rattle.sb_state.specs.State.{State, find_page, bytes_of, contents}
use Rattle.sb_trace.specs.KernelCall.{pool_word}
use Rattle.sb_trace.specs.Sound.{ArePagesSound, is_code_name}
use Rattle.sb_trace.specs.Changes.{AreBytes}

-- an element of bytes is a byte, and so is 0 behind them
pub byte_below : (bytes : List ℕ) (place : ℕ) → AreBytes bytes → slice_index bytes place < 256
byte_below [] place all = omega arith
byte_below (byte ∷ bytes) zero all = all.0
byte_below (byte ∷ bytes) (suc place) all = byte_below bytes place all.1

-- where each page that is there has bytes, one that may be absent has
pub bytes_by : (found : Option Page) → ((page : Page) → found ≡ Some page → AreBytes page.bytes) → AreBytes (bytes_of found)
bytes_by None all = tt
bytes_by (Some page) all = all page refl

-- the bytes of a pool page are bytes
pub pool_page_bytes : (state : State) (server : ℕ) → ArePagesSound state.pages → AreBytes (contents state (Pool server))
unfolding contents is_code_name
pool_page_bytes state server sound =
    bytes_by (find_page state.pages (Pool server)) (λ page. sound.bytes (Pool server) page refl)

-- the pool word of a server is below 2^64
pub pool_below : (state : State) (server : ℕ) → ArePagesSound state.pages → pool_word state server < 2 ^ 64
unfolding word_at
pool_below state server sound =
    little_from-lt 0 8 (contents state (Pool server))
    (λ place. byte_below (contents state (Pool server)) place (pool_page_bytes state server sound))
