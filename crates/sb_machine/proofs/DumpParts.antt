-- The parts of which the text of a dump is made.
use Rattle.std.proofs.Common.{◌≡◌, ◌∙◌, sym, ap, ℕ, ◌==◌, true, false, cond, List, [], ◌++◌, length, append_assoc}
use Rattle.std.specs.Prelude.{codes, flat_map, filter, not}
use Rattle.std.specs.List.{list_any, range_with_len}
use Rattle.std.specs.Fmt.{decimal}
use Rattle.sb_memory.specs.Frames.{frame_bytes}
use Rattle.sb_memory.specs.Physical.{Physical, frame_count}
use Rattle.sb_trace.specs.EndText.{hex}
use Rattle.sb_trace.specs.Report.{line_feed}
use Rattle.sb_shows.specs.Dump.{core_line, bytes_line, frame_text, has_nonzero_byte}
use Rattle.sb_machine.specs.Dump.{machine_dump}
use Rattle.sb_machine.specs.Machine.{Machine, words_of}
use Rattle.sb_machine.specs.Writing.{frame_part, texts}
use Rattle.sb_machine.proofs.Writing.{parts_of_passed}

-- a line of three parts, with a text behind it
line_on : (one two three rest : List ℕ) → (one ++ (two ++ three)) ++ rest ≡ one ++ (two ++ (three ++ rest))
line_on one two three rest =
    append_assoc one (two ++ three) rest ∙ ap (λ behind. one ++ behind) (append_assoc two three rest)

-- ---- a frame

abbrev pub frame_head : ℕ → List ℕ
frame_head frame = codes "frame " ++ (hex frame ++ line_feed)

-- a frame of zeros has no text
pub frame_none : (memory : Physical) (frame : ℕ) (bytes : List ℕ) → bytes ≡ frame_bytes memory frame
    → list_any (λ byte. not (byte == 0)) bytes ≡ false → frame_part memory frame ≡ []
unfolding frame_part
frame_none memory frame bytes same none =
    ap (λ test. cond test (frame_text memory frame) [])
    (sym (ap (λ bytes. list_any (λ byte. not (byte == 0)) bytes) same) ∙ none)

-- another has its head and the lines of its bytes
pub frame_some : (memory : Physical) (frame : ℕ) (bytes : List ℕ) → bytes ≡ frame_bytes memory frame
    → list_any (λ byte. not (byte == 0)) bytes ≡ true
    → frame_head frame ++ texts (bytes_line bytes) 64 ≡ frame_part memory frame
unfolding frame_part texts
frame_some memory frame bytes same some =
    ap (λ bytes. frame_head frame ++ texts (bytes_line bytes) 64) same
    ∙ (line_on (codes "frame ") (hex frame) line_feed (texts (bytes_line (frame_bytes memory frame)) 64)
    ∙ sym (ap (λ test. cond test (frame_text memory frame) [])
    (sym (ap (λ bytes. list_any (λ byte. not (byte == 0)) bytes) same) ∙ some)))

-- ---- the whole

abbrev pub dump_head : ℕ → List ℕ
dump_head frames = codes "dump " ++ (decimal frames ++ line_feed)

frames_are : (memory : Physical) (frames : ℕ) (behind : List ℕ)
    → texts (frame_part memory) frames ++ behind
    ≡ flat_map (frame_text memory) (filter (has_nonzero_byte memory) (range_with_len 0 frames)) ++ behind
unfolding frame_part texts
frames_are memory frames behind =
    ap (λ text. text ++ behind) (parts_of_passed (has_nonzero_byte memory) (frame_text memory) (range_with_len 0 frames))

dump_is : (machine : Machine)
    → dump_head (frame_count machine.memory)
    ++ (texts (core_line (words_of machine)) (length machine.cores)
    ++ (texts (frame_part machine.memory) (frame_count machine.memory) ++ codes "end\n"))
    ≡ machine_dump machine
unfolding texts
dump_is machine =
    line_on (codes "dump ") (decimal (frame_count machine.memory)) line_feed _
    ∙ ap (λ text. codes "dump " ++ (decimal (frame_count machine.memory) ++ (line_feed
    ++ (texts (core_line (words_of machine)) (length machine.cores) ++ text))))
    (frames_are machine.memory (frame_count machine.memory) (codes "end\n"))

-- what is written one behind another, for a head and a memory that are the machine's
pub dump_whole : (machine : Machine) (memory : Physical) (head : List ℕ) (frames : ℕ) → memory ≡ machine.memory
    → frames ≡ frame_count memory → head ≡ dump_head frames
    → head
    ++ (texts (core_line (words_of machine)) (length machine.cores)
    ++ (texts (frame_part memory) (frame_count memory) ++ codes "end\n"))
    ≡ machine_dump machine
dump_whole machine memory head frames same count is =
    let front : head ≡ dump_head (frame_count machine.memory) =
    is ∙ ap dump_head (count ∙ ap (λ memory. frame_count memory) same) in
    ap (λ head. head
    ++ (texts (core_line (words_of machine)) (length machine.cores)
    ++ (texts (frame_part memory) (frame_count memory) ++ codes "end\n"))) front
    ∙ (ap (λ memory. dump_head (frame_count machine.memory)
    ++ (texts (core_line (words_of machine)) (length machine.cores)
    ++ (texts (frame_part memory) (frame_count memory) ++ codes "end\n"))) same
    ∙ dump_is machine)
