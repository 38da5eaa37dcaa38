-- Where the buffer of a view lies, and what its record page says (docs/LAYOUT.md).
use Rattle.std.specs.Prelude.{ℕ, ◌+◌, ◌*◌}
use Rattle.sb_abi.specs.declared.space.TheConstants.{BUFFERS_ADDRESS, BUFFERS_PER_THREAD, BUFFER_DISTANCE, FIRST_STACK_TOP}
use Rattle.sb_tramp.specs.declared.record_words.RecordWords.{RecordWords}

-- the first byte of the buffer of a thread's view of this index
abbrev pub buffer_address : ℕ → ℕ → ℕ
buffer_address thread index = BUFFERS_ADDRESS + (BUFFERS_PER_THREAD * thread + index) * BUFFER_DISTANCE

-- the record page of a view of a server: the thread and its home, and the key and the handler of the server
abbrev pub server_record : ℕ → ℕ → ℕ → ℕ → RecordWords
server_record thread home key handler =
    record { key = key; base = FIRST_STACK_TOP; handler = handler; thread = thread; save = 0; home = home }
