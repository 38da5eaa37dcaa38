-- The text of the report: a head line, a line for each step, the threads at the end, and what is left.
use Rattle.std.specs.Prelude.{ℕ, ◌+◌, List, [], ◌∷◌, ◌++◌, Option, Some, None, codes, flat_map}
use Rattle.std.specs.Fmt.{decimal}
use Rattle.sb_insn.specs.declared.registers.Regs.{Regs}
use Rattle.sb_insn.specs.Registers.{flags_image}
use Rattle.sb_trace.specs.declared.end.ThreadEnd.{ThreadEnd}
use Rattle.sb_trace.specs.declared.end.EndState.{EndState}
use Rattle.sb_trace.specs.declared.event.Line.{Line}
use Rattle.sb_state.specs.EndText.{hex, state_text}
use Rattle.sb_trace.specs.EventText.{line_text}

abbrev pub line_feed : List ℕ
line_feed = 10 ∷ []

-- ---- the steps

abbrev pub whole_line : Line → List ℕ
whole_line line = line_text line ++ line_feed

abbrev pub lines_text : List Line → List ℕ
lines_text lines = flat_map whole_line lines

-- ---- the threads at the end

abbrev pub thread_line : ℕ → ThreadEnd → List ℕ
thread_line number thread =
    codes "thread " ++ (decimal number ++ (codes " home " ++ (decimal thread.home ++ (codes " view " ++ (decimal thread.view
    ++ (codes " at " ++ (decimal thread.present ++ (codes " " ++ (state_text thread.state ++ line_feed)))))))))

abbrev pub register_text : ℕ → List ℕ
register_text value = codes " " ++ hex value

abbrev pub registers_text : List ℕ → List ℕ
registers_text general = flat_map register_text general

-- the registers in the order of their numbers
abbrev pub regs_line : ℕ → Regs → List ℕ
regs_line number regs =
    (codes "regs " ++ (decimal number ++ (codes " rip " ++ (hex regs.rip ++ (codes " flags " ++ hex (flags_image regs.flags))))))
    ++ (registers_text regs.general ++ line_feed)

-- a thread in flight has a further line
abbrev pub flight_line : ℕ → Option ℕ → List ℕ
flight_line number None = []
flight_line number (Some phase) = codes "flight " ++ (decimal number ++ (codes " " ++ (decimal phase ++ line_feed)))

abbrev pub thread_text : ℕ → ThreadEnd → List ℕ
thread_text number thread = thread_line number thread ++ (regs_line number thread.regs ++ flight_line number thread.flight)

-- threads in order, of which the first has this number
abbrev pub threads_text : ℕ → List ThreadEnd → List ℕ
threads_text number [] = []
threads_text number (thread ∷ threads) = thread_text number thread ++ threads_text (number + 1) threads

-- ---- the whole

abbrev pub counts_text : EndState → List ℕ
counts_text end = codes "free " ++ (decimal end.free ++ (codes "\nkeys " ++ (decimal end.keys ++ codes "\nend\n")))

abbrev pub report_text : List Line → EndState → List ℕ
report_text lines end = codes "skybridge report 1\n" ++ (lines_text lines ++ (threads_text 0 end.threads ++ counts_text end))
