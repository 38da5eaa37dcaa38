-- A store changes no thread.
use Rattle.std.proofs.Common.{◌≡◌, ◌∙◌, ℕ, List, [], ◌∷◌, refl}
use Rattle.sb_pages.specs.declared.page.PageName.{PageName}
use Rattle.sb_state.specs.State.{State, with_contents}
use Rattle.sb_state.specs.PlainMemory.{ByteToPut, bytes_to_put, put_byte, put_all, plain_stored}

pub put_threads : (state : State) (name : PageName) (offset value : ℕ)
    → (put_byte state name offset value).threads ≡ state.threads
unfolding put_byte with_contents
put_threads state name offset value = refl

all_threads : (state : State) (bytes : List ByteToPut) → (put_all state bytes).threads ≡ state.threads
all_threads state [] = refl
all_threads state (byte ∷ others) =
    all_threads (put_byte state byte.name byte.offset byte.value) others ∙ put_threads state byte.name byte.offset byte.value

pub stored_threads : (thread view : ℕ) (state : State) (address size value : ℕ)
    → (plain_stored thread view state address size value).threads ≡ state.threads
unfolding plain_stored
stored_threads thread view state address size value = all_threads state (bytes_to_put state thread view address size value)
