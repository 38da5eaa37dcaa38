-- The bundle that is generated from a number (docs/FORMATS.md): three servers, five clients that call them, and a random
-- schedule of eight cores.
use Rattle.std.specs.Prelude.{ℕ, zero, suc, ◌+◌, ◌*◌, ◌/◌, ◌%◌, ◌^◌, List, [], ◌∷◌, ◌++◌, map, replicate, Ok}
use Rattle.std.specs.List.{range_with_len}
use Rattle.sb_bundle.specs.declared.bundle.Bundle.{Bundle}
use Rattle.sb_bundle.specs.declared.bundle.Image.{Image}
use Rattle.sb_bundle.specs.declared.bundle.CoreStart.{CoreStart}
use Rattle.sb_bundle.specs.Spelling.{number_bytes}
use Rattle.sb_rewrite.specs.Listing.{text_address}
use Rattle.sb_load.specs.Loading.{Load, Loads}

-- ---- draws

-- each draw makes the state anew
abbrev pub next_state : ℕ → ℕ
next_state state = (state * 6364136223846793005 + 1442695040888963407) % 2 ^ 64

-- the state after so many draws; the number is the first
unfoldable pub state_after : ℕ → ℕ → ℕ
state_after number zero = number
state_after number (suc count) = next_state (state_after number count)

-- what the draw gives that so many come before: the upper 31 bits of its state
abbrev pub draw : ℕ → ℕ → ℕ
draw number before = state_after number (before + 1) / 2 ^ 33

-- ---- texts

-- registers its handler with two stacks and exits; the handler adds 1 to the first word of its data, and returns what it was
abbrev pub server_text : List ℕ
server_text =
    0xBF ∷ 0x17 ∷ 0x00 ∷ 0x40 ∷ 0x00  -- mov edi, 400017
    ∷ 0xBE ∷ 0x02 ∷ 0x00 ∷ 0x00 ∷ 0x00  -- mov esi, 2
    ∷ 0xB8 ∷ 0x02 ∷ 0x00 ∷ 0x00 ∷ 0x00  -- mov eax, 2
    ∷ 0x0F ∷ 0x05  -- syscall
    ∷ 0x31 ∷ 0xFF  -- xor edi, edi
    ∷ 0x31 ∷ 0xC0  -- xor eax, eax
    ∷ 0x0F ∷ 0x05  -- syscall
    ∷ 0xBA ∷ 0x01 ∷ 0x00 ∷ 0x00 ∷ 0x00  -- 400017: mov edx, 1
    ∷ 0xF0 ∷ 0x48 ∷ 0x0F ∷ 0xC1 ∷ 0x14 ∷ 0x25 ∷ 0x00 ∷ 0x00 ∷ 0x80 ∷ 0x00  -- lock xadd [800000], rdx
    ∷ 0xC3 ∷ []  -- ret

-- binds to the server until that succeeds, calls it so many times, prints what each call returned, and exits
abbrev pub client_text : ℕ → ℕ → List ℕ
client_text server calls =
    (0xBF ∷ number_bytes 4 server)  -- mov edi, server
    ++ (0xB8 ∷ 0x03 ∷ 0x00 ∷ 0x00 ∷ 0x00  -- mov eax, 3
    ∷ 0x0F ∷ 0x05  -- syscall
    ∷ 0x85 ∷ 0xC0  -- test eax, eax
    ∷ 0x75 ∷ 0xF0  -- jne 400000
    ∷ 0x49 ∷ 0x89 ∷ 0xD4  -- mov r12, rdx
    ∷ 0x4D ∷ 0x89 ∷ 0xC5  -- mov r13, r8
    ∷ 0x41 ∷ 0xBE ∷ number_bytes 4 calls)  -- mov r14d, calls
    ++ (0x4C ∷ 0x89 ∷ 0xE7  -- 40001c: mov rdi, r12
    ∷ 0x4C ∷ 0x89 ∷ 0xEE  -- mov rsi, r13
    ∷ 0xE8 ∷ 0xD9 ∷ 0xFF ∷ 0xBF ∷ 0x6F  -- call 70000000
    ∷ 0x48 ∷ 0x89 ∷ 0xD7  -- mov rdi, rdx
    ∷ 0xB8 ∷ 0x01 ∷ 0x00 ∷ 0x00 ∷ 0x00  -- mov eax, 1
    ∷ 0x0F ∷ 0x05  -- syscall
    ∷ 0x41 ∷ 0xFF ∷ 0xCE  -- dec r14d
    ∷ 0x75 ∷ 0xE6  -- jne 40001c
    ∷ 0x31 ∷ 0xFF  -- xor edi, edi
    ∷ 0x31 ∷ 0xC0  -- xor eax, eax
    ∷ 0x0F ∷ 0x05 ∷ [])  -- syscall

-- ---- processes

-- a server has one word of data, 0
abbrev pub server_image : Image
server_image = record { text = server_text; initial = replicate 8 0; heap_pages = 0 }

-- the number of a client's server, and how many calls it makes: two draws for each client, from a state on
abbrev pub server_of : ℕ → ℕ → ℕ
server_of state client = draw state (2 * client) % 3

abbrev pub calls_of : ℕ → ℕ → ℕ
calls_of state client = 200 + draw state (2 * client + 1) % 100

unfoldable pub client_image : ℕ → ℕ → Image
client_image state client =
    record { text = client_text (server_of state client) (calls_of state client); initial = []; heap_pages = 0 }

-- ---- lists, each drawn from a state on

-- a key word is the whole state
unfoldable pub keys_of : ℕ → ℕ → List ℕ
keys_of state count = map (λ before. state_after state (before + 1)) (range_with_len 0 count)

unfoldable pub clients_of : ℕ → ℕ → List Image
clients_of state count = map (client_image state) (range_with_len 0 count)

unfoldable pub schedule_of : ℕ → ℕ → List ℕ
schedule_of state count = map (λ before. draw state before % 8) (range_with_len 0 count)

-- each core starts in the process of its own number
abbrev pub core_start : ℕ → CoreStart
core_start core = record { process = core; entry = text_address }

unfoldable pub cores_of : ℕ → List CoreStart
cores_of count = map core_start (range_with_len 0 count)

-- ---- the bundle

-- The draws come in this order: 5 key words, server and calls of 5 clients, 200,000 entries of the schedule.
unfoldable pub generated : ℕ → Bundle
generated number = record {
  frames = 1024;
  keys = keys_of number 5;
  images = replicate 3 server_image ++ clients_of (state_after number 5) 5;
  cores = cores_of 8;
  schedule = schedule_of (state_after number 15) 200000;
}

-- ---- what holds of it

-- the loader accepts each generated bundle
abbrev pub GeneratedIsLoadable : Type 0
GeneratedIsLoadable = (number : ℕ) → (load : Load) × Loads (generated number) (Ok load)
