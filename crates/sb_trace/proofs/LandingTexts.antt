-- A report without its landing and flight lines is the report of the machine that calls in one step.
use Rattle.std.proofs.Common.{◌≡◌, ℕ, zero, suc, ◌+◌, ◌/◌, ◌%◌, ◌<◌, Bool, true, false, ◌&&◌, ◌==◌, List, [], ◌∷◌, ◌++◌, Option, Some, None, refl, ap, sym, ◌∙◌, rules, arith, append_assoc, ne_eqb, le-leb, lt-ltb, mod-lt}
use Rattle.std.specs.Prelude.{if◌then◌else◌, nat_lt, nat_le, codes}
use Rattle.std.specs.List.{onto_first, starts_with}
use Rattle.std.specs.Option.{option_map}
use Rattle.std.specs.Fmt.{decimal, digits, digits_onto, digit_glyph}
use Rattle.sb_bus.specs.declared.stop.FaultKind.{FaultKind}
use Rattle.sb_bus.specs.declared.stop.FaultKind.TheVariants.{Canon, Memory, Undefined, Switch}
use Rattle.sb_insn.specs.declared.registers.Regs.{Regs}
use Rattle.sb_insn.specs.Registers.{flags_image}
use Rattle.sb_state.specs.EndText.{hex, state_text}
use Rattle.sb_state.specs.declared.end_kind.EndKind.{EndKind}
use Rattle.sb_state.specs.declared.end_kind.EndKind.TheVariants.{Running, Ended, Faulted}
use Rattle.sb_state.specs.declared.state.Flight.{Flight}
use Rattle.sb_state.specs.declared.state.Thread.{Thread}
use Rattle.sb_state.specs.State.{State, flight_at}
use Rattle.sb_trace.specs.declared.event.Event.{Event}
use Rattle.sb_trace.specs.declared.event.Event.TheVariants.{Step, Extra, Stray, Printed, Sys, Exit, Fault, ServerFault, ServerExit, Entered, WrongKey, PoolEmpty, Unbound, BadLeaf, Return, Turn, Landing, Idle}
use Rattle.sb_trace.specs.declared.event.Line.{Line}
use Rattle.sb_trace.specs.declared.end.ThreadEnd.{ThreadEnd}
use Rattle.sb_trace.specs.declared.end.EndState.{EndState}
use Rattle.sb_trace.specs.End.{end_of, thread_end, thread_ends, phase_of}
use Rattle.sb_trace.specs.EventText.{line_text, event_text, phase_text, fault_text}
use Rattle.sb_trace.specs.OneStep.{without_flights, without_landings, with_line}
use Rattle.sb_trace.specs.Report.{line_feed, whole_line, lines_text, thread_line, registers_text, regs_line, flight_line, thread_text, threads_text, counts_text}
use Rattle.sb_trace.specs.Laws.{ReportsDrop}
use Rattle.sb_trace.specs.LandingText.{lines_in, behind_digits, tells_of_landing, without_landing_lines}

-- ---- pieces of a line

-- the piece has no line feed
abbrev is_clean : List ℕ → Bool
is_clean [] = true
is_clean (code ∷ piece) = if code == 10 then false else is_clean piece

-- nothing is left
abbrev is_nil : List ℕ → Bool
is_nil [] = true
is_nil (code ∷ text) = false

-- a line feed ends the text, and stands nowhere before
abbrev is_line : List ℕ → Bool
is_line [] = false
is_line (code ∷ text) = if code == 10 then is_nil text else is_line text

-- two clean pieces
clean_join : (one other : List ℕ) → is_clean one ≡ true → is_clean other ≡ true → is_clean (one ++ other) ≡ true
clean_join [] other clean rest = rest
clean_join (code ∷ one) other clean rest = by (code == 10) (λ clean. clean_join one other clean rest) clean
  where
    by : (feed : Bool) → (is_clean one ≡ true → is_clean (one ++ other) ≡ true) → (if feed then false else is_clean one) ≡ true
        → (if feed then false else is_clean (one ++ other)) ≡ true
    by true more clean = clean
    by false more clean = more clean

-- behind a clean piece
behind_piece : (piece text : List ℕ) → is_clean piece ≡ true → is_line text ≡ true → is_line (piece ++ text) ≡ true
behind_piece [] text clean line = line
behind_piece (code ∷ piece) text clean line = by (code == 10) (λ clean. behind_piece piece text clean line) clean
  where
    by : (feed : Bool) → (is_clean piece ≡ true → is_line (piece ++ text) ≡ true)
        → (if feed then false else is_clean piece) ≡ true
        → (if feed then is_nil (piece ++ text) else is_line (piece ++ text)) ≡ true
    by true more clean = search (rules, clean)
    by false more clean = more clean

-- ---- digits

-- digits of the base up to 16 are no line feeds
glyph_clean : (digit : ℕ) (rest : List ℕ) → is_clean rest ≡ true → is_clean (digit_glyph false digit ∷ rest) ≡ true
glyph_clean digit rest clean = by (nat_lt digit 10)
  where
    by : (small : Bool) → is_clean ((if small then 48 + digit else 87 + digit) ∷ rest) ≡ true
    by true = rw (ne_eqb (48 + digit) 10 (λ same. omega (arith, same))) clean
    by false = rw (ne_eqb (87 + digit) 10 (λ same. omega (arith, same))) clean

onto_clean : (count base n : ℕ) (rest : List ℕ) → is_clean rest ≡ true → is_clean (digits_onto count base false n rest) ≡ true
onto_clean zero base n rest clean = clean
onto_clean (suc count) base n rest clean =
    by (n / base == 0) _ _ (glyph_clean (n % base) rest clean)
    (onto_clean count base (n / base) _ (glyph_clean (n % base) rest clean))
  where
    by : (last : Bool) (xs ys : List ℕ) → is_clean xs ≡ true → is_clean ys ≡ true → is_clean (if last then xs else ys) ≡ true
    by true xs ys one other = one
    by false xs ys one other = other

digits_clean : (base n : ℕ) → is_clean (digits base false n) ≡ true
unfolding digits
digits_clean base n = onto_clean 64 base n [] refl

-- so no number has a line feed
decimal_clean : (n : ℕ) → is_clean (decimal n) ≡ true
decimal_clean n = digits_clean 10 n

hex_clean : (n : ℕ) → is_clean (hex n) ≡ true
hex_clean n = digits_clean 16 n

-- ---- lines

-- a line in front of a text is the first of its lines
line_first : (line text : List ℕ) → is_line line ≡ true → lines_in (line ++ text) ≡ line ∷ lines_in text
line_first [] text is = search (rules, is)
line_first (code ∷ line) text is = by (code == 10) (λ is. line_first line text is) is
  where
    nothing : (line : List ℕ) → is_nil line ≡ true → (code ∷ []) ∷ lines_in (line ++ text) ≡ (code ∷ line) ∷ lines_in text
    nothing [] nil = refl
    nothing (next ∷ line) nil = search (rules, nil)

    by : (feed : Bool) → (is_line line ≡ true → lines_in (line ++ text) ≡ line ∷ lines_in text)
        → (if feed then is_nil line else is_line line) ≡ true
        → (if feed then (code ∷ []) ∷ lines_in (line ++ text) else onto_first code (lines_in (line ++ text)))
        ≡ (code ∷ line) ∷ lines_in text
    by true more is = nothing line is
    by false more is = ap (λ (lines : List (List ℕ)). onto_first code lines) (more is)

-- a line that tells of no landing stays
line_stays : (line text : List ℕ) → is_line line ≡ true → tells_of_landing line ≡ false
    → without_landing_lines (line ++ text) ≡ line ++ without_landing_lines text
line_stays line text is tells = rw (line_first line text is, tells) refl

-- and one that does is dropped
line_goes : (line text : List ℕ) → is_line line ≡ true → tells_of_landing line ≡ true
    → without_landing_lines (line ++ text) ≡ without_landing_lines text
line_goes line text is tells = rw (line_first line text is, tells) refl

-- ---- the pieces of a report have no line feed

state_clean : (state : EndKind) → is_clean (state_text state) ≡ true
state_clean Running = refl
state_clean (Ended status) = decimal_clean status
state_clean (Faulted Canon at) = hex_clean at
state_clean (Faulted Memory at) = hex_clean at
state_clean (Faulted Undefined at) = hex_clean at
state_clean (Faulted Switch at) = hex_clean at

fault_clean : (kind : FaultKind) (at : ℕ) → is_clean (fault_text kind at) ≡ true
fault_clean Canon at = hex_clean at
fault_clean Memory at = hex_clean at
fault_clean Undefined at = hex_clean at
fault_clean Switch at = hex_clean at

phase_clean : (phase : ℕ) → is_clean (phase_text phase) ≡ true
phase_clean phase = by (phase == 25)
  where
    by : (vmfunc : Bool) → is_clean (if vmfunc then codes "v" else decimal phase) ≡ true
    by true = refl
    by false = decimal_clean phase

event_clean : (event : Event) → is_clean (event_text event) ≡ true
event_clean (Step rip) = hex_clean rip
event_clean (Extra rip) = hex_clean rip
event_clean (Stray rip) = hex_clean rip
event_clean (Printed value) = decimal_clean value
event_clean (Sys number answer) =
    clean_join (decimal number) (codes " " ++ decimal answer) (decimal_clean number) (decimal_clean answer)
event_clean (Exit status) = decimal_clean status
event_clean (Fault kind at) = fault_clean kind at
event_clean (ServerFault kind at) = fault_clean kind at
event_clean (ServerExit status) = decimal_clean status
event_clean (Entered index slot) =
    clean_join (decimal index) (codes " entered " ++ decimal slot) (decimal_clean index) (decimal_clean slot)
event_clean (WrongKey index) = clean_join (decimal index) (codes " wrong key") (decimal_clean index) refl
event_clean (PoolEmpty index) = clean_join (decimal index) (codes " pool empty") (decimal_clean index) refl
event_clean (Unbound index) = clean_join (decimal index) (codes " unbound") (decimal_clean index) refl
event_clean (BadLeaf index) = clean_join (decimal index) (codes " bad leaf") (decimal_clean index) refl
event_clean Return = refl
event_clean Turn = refl
event_clean (Landing phase) = phase_clean phase
event_clean Idle = refl

-- the line of a step
abbrev line_of : ℕ → Event → Line
line_of core event = record { core = core; event = event }

whole_is_line : (core : ℕ) (event : Event) → is_line (whole_line (line_of core event)) ≡ true
whole_is_line core event =
    behind_piece (line_text (line_of core event)) line_feed
    (clean_join (decimal core) (codes " " ++ event_text event) (decimal_clean core) (event_clean event)) refl

-- ---- behind the number of a core

digit_first : (digit : ℕ) → digit < 10 → (nat_le 48 (48 + digit) && nat_le (48 + digit) 57) ≡ true
digit_first digit small = rw (le-leb 48 (48 + digit) (omega arith), le-leb (48 + digit) 57 (omega (arith, small))) refl

-- digits are passed over
glyph_behind : (digit : ℕ) (text : List ℕ) → digit < 10
    → behind_digits (digit_glyph false digit ∷ text) ≡ behind_digits text
glyph_behind digit text small = rw (lt-ltb digit 10 small, digit_first digit small) refl

onto_behind : (count n : ℕ) (later text : List ℕ)
    → behind_digits (digits_onto count 10 false n later ++ text) ≡ behind_digits (later ++ text)
onto_behind zero n later text = refl
onto_behind (suc count) n later text =
    let next : List ℕ = digit_glyph false (n % 10) ∷ later in
    by (n / 10 == 0) next _ (onto_behind count (n / 10) next text)
    ∙ glyph_behind (n % 10) (later ++ text) (mod-lt n (omega arith))
  where
    by : (last : Bool) (one more : List ℕ) → behind_digits (more ++ text) ≡ behind_digits (one ++ text)
        → behind_digits ((if last then one else more) ++ text) ≡ behind_digits (one ++ text)
    by true one more same = refl
    by false one more same = same

decimal_behind : (n : ℕ) (text : List ℕ) → behind_digits (decimal n ++ text) ≡ behind_digits text
unfolding digits
decimal_behind n text = onto_behind 64 n [] text

-- whether a text begins with `flight`
abbrev is_flight : List ℕ → Bool
is_flight line = starts_with (λ a b. a == b) line (codes "flight ")

-- digits do not begin so
glyph_no_flight : (digit : ℕ) (text : List ℕ) → digit < 10 → is_flight (digit_glyph false digit ∷ text) ≡ false
glyph_no_flight digit text small =
    rw (lt-ltb digit 10 small, ne_eqb 102 (48 + digit) (λ same. omega (arith, same, small))) refl

onto_no_flight : (count n : ℕ) (later text : List ℕ) → is_flight (later ++ text) ≡ false
    → is_flight (digits_onto count 10 false n later ++ text) ≡ false
onto_no_flight zero n later text none = none
onto_no_flight (suc count) n later text none =
    let next : List ℕ = digit_glyph false (n % 10) ∷ later in
    let first = glyph_no_flight (n % 10) (later ++ text) (mod-lt n (omega arith)) in
    by (n / 10 == 0) next _ first (onto_no_flight count (n / 10) next text first)
  where
    by : (last : Bool) (one more : List ℕ) → is_flight (one ++ text) ≡ false → is_flight (more ++ text) ≡ false
        → is_flight ((if last then one else more) ++ text) ≡ false
    by true one more first rest = first
    by false one more first rest = rest

decimal_no_flight : (n : ℕ) (text : List ℕ) → is_flight text ≡ false → is_flight (decimal n ++ text) ≡ false
unfolding digits
decimal_no_flight n text none = onto_no_flight 64 n [] text none

-- the event tells whether the line of a step belongs to a landing
event_tells : (core : ℕ) (event : Event)
    → tells_of_landing (whole_line (line_of core event))
    ≡ starts_with (λ a b. a == b) (codes " " ++ (event_text event ++ line_feed)) (codes " landing ")
event_tells core event =
    let rest : List ℕ = codes " " ++ (event_text event ++ line_feed) in
    ap tells_of_landing (append_assoc (decimal core) (codes " " ++ event_text event) line_feed)
    ∙ rw (decimal_no_flight core rest refl, decimal_behind core rest) refl

-- ---- the lines of the steps

-- the line of a step that is none of a landing stays
line_alike : (core : ℕ) (event : Event) (lines : List Line) (text rest : List ℕ)
    → starts_with (λ a b. a == b) (codes " " ++ (event_text event ++ line_feed)) (codes " landing ") ≡ false
    → without_landing_lines text ≡ lines_text lines ++ rest
    → without_landing_lines (whole_line (line_of core event) ++ text) ≡ lines_text (line_of core event ∷ lines) ++ rest
line_alike core event lines text rest tells same =
    line_stays (whole_line (line_of core event)) text (whole_is_line core event) (event_tells core event ∙ tells)
    ∙ (ap (λ (more : List ℕ). whole_line (line_of core event) ++ more) same
    ∙ sym (append_assoc (whole_line (line_of core event)) (lines_text lines) rest))

-- the line of a step stays in the text where it stays among the lines
event_alike : (core : ℕ) (event : Event) (lines : List Line) (text rest : List ℕ)
    → without_landing_lines text ≡ lines_text lines ++ rest
    → without_landing_lines (whole_line (line_of core event) ++ text)
    ≡ lines_text (with_line (line_of core event) event lines) ++ rest
event_alike core (Landing phase) lines text rest same =
    line_goes (whole_line (line_of core (Landing phase))) text (whole_is_line core (Landing phase))
    (event_tells core (Landing phase)) ∙ same
event_alike core (Step rip) lines text rest same = line_alike core (Step rip) lines text rest refl same
event_alike core (Extra rip) lines text rest same = line_alike core (Extra rip) lines text rest refl same
event_alike core (Stray rip) lines text rest same = line_alike core (Stray rip) lines text rest refl same
event_alike core (Printed value) lines text rest same = line_alike core (Printed value) lines text rest refl same
event_alike core (Sys number answer) lines text rest same = line_alike core (Sys number answer) lines text rest refl same
event_alike core (Exit status) lines text rest same = line_alike core (Exit status) lines text rest refl same
event_alike core (Fault kind at) lines text rest same = line_alike core (Fault kind at) lines text rest refl same
event_alike core (ServerFault kind at) lines text rest same = line_alike core (ServerFault kind at) lines text rest refl same
event_alike core (ServerExit status) lines text rest same = line_alike core (ServerExit status) lines text rest refl same
event_alike core (Entered index slot) lines text rest same = line_alike core (Entered index slot) lines text rest refl same
event_alike core (WrongKey index) lines text rest same = line_alike core (WrongKey index) lines text rest refl same
event_alike core (PoolEmpty index) lines text rest same = line_alike core (PoolEmpty index) lines text rest refl same
event_alike core (Unbound index) lines text rest same = line_alike core (Unbound index) lines text rest refl same
event_alike core (BadLeaf index) lines text rest same = line_alike core (BadLeaf index) lines text rest refl same
event_alike core Return lines text rest same = line_alike core Return lines text rest refl same
event_alike core Turn lines text rest same = line_alike core Turn lines text rest refl same
event_alike core Idle lines text rest same = line_alike core Idle lines text rest refl same

-- so do the lines of a run
lines_drop : (lines : List Line) (text : List ℕ)
    → without_landing_lines (lines_text lines ++ text) ≡ lines_text (without_landings lines) ++ without_landing_lines text
lines_drop [] text = refl
lines_drop (line ∷ lines) text =
    ap without_landing_lines (append_assoc (whole_line line) (lines_text lines) text)
    ∙ event_alike line.core line.event (without_landings lines) (lines_text lines ++ text) (without_landing_lines text)
    (lines_drop lines text)

-- ---- the threads

thread_is_line : (number : ℕ) (thread : ThreadEnd) → is_line (thread_line number thread) ≡ true
thread_is_line number thread =
    behind_piece (decimal number) _ (decimal_clean number)
    (behind_piece (decimal thread.home) _ (decimal_clean thread.home)
    (behind_piece (decimal thread.view) _ (decimal_clean thread.view)
    (behind_piece (decimal thread.present) _ (decimal_clean thread.present)
    (behind_piece (state_text thread.state) line_feed (state_clean thread.state) refl))))

registers_clean : (general : List ℕ) → is_clean (registers_text general) ≡ true
registers_clean [] = refl
registers_clean (value ∷ general) =
    clean_join (hex value) (registers_text general) (hex_clean value) (registers_clean general)

regs_is_line : (number : ℕ) (regs : Regs) → is_line (regs_line number regs) ≡ true
regs_is_line number regs =
    behind_piece (codes "regs "
    ++ (decimal number ++ (codes " rip " ++ (hex regs.rip ++ (codes " flags " ++ hex (flags_image regs.flags))))))
    (registers_text regs.general ++ line_feed)
    (clean_join (decimal number) _ (decimal_clean number)
    (clean_join (hex regs.rip) _ (hex_clean regs.rip) (hex_clean (flags_image regs.flags))))
    (behind_piece (registers_text regs.general) line_feed (registers_clean regs.general) refl)

flight_is_line : (number phase : ℕ) → is_line (flight_line number (Some phase)) ≡ true
flight_is_line number phase =
    behind_piece (decimal number) _ (decimal_clean number) (behind_piece (decimal phase) line_feed (decimal_clean phase) refl)

-- brackets of three pieces before a text
three_pieces : (one two rest text : List ℕ) → (one ++ (two ++ rest)) ++ text ≡ one ++ (two ++ (rest ++ text))
three_pieces one two rest text =
    append_assoc one (two ++ rest) text ∙ ap (λ (more : List ℕ). one ++ more) (append_assoc two rest text)

-- the line of a flight is dropped, if there is one
flight_drops : (number : ℕ) (flight : Option ℕ) (text : List ℕ)
    → without_landing_lines (flight_line number flight ++ text) ≡ without_landing_lines text
flight_drops number None text = refl
flight_drops number (Some phase) text =
    line_goes (flight_line number (Some phase)) text (flight_is_line number phase) refl

-- a thread stays, but for its flight
thread_drops : (number : ℕ) (thread : Thread) (flight : Option Flight) (text : List ℕ)
    → without_landing_lines (thread_text number (thread_end thread flight) ++ text)
    ≡ thread_text number (thread_end thread None) ++ without_landing_lines text
thread_drops number thread flight text =
    let first : List ℕ = thread_line number (thread_end thread None) in
    let second : List ℕ = regs_line number thread.regs in
    let last : List ℕ = flight_line number (option_map phase_of flight) in
    ap without_landing_lines (three_pieces first second last text)
    ∙ (line_stays first (second ++ (last ++ text)) (thread_is_line number (thread_end thread None)) refl
    ∙ (ap (λ (more : List ℕ). first ++ more)
    (line_stays second (last ++ text) (regs_is_line number thread.regs) refl
    ∙ ap (λ (more : List ℕ). second ++ more) (flight_drops number (option_map phase_of flight) text))
    ∙ sym (three_pieces first second [] (without_landing_lines text))))

no_flight : (state : State) (number : ℕ) → flight_at (without_flights state) number ≡ None
unfolding flight_at
no_flight state number = refl

-- so do all threads
threads_drop : (state : State) (number : ℕ) (threads : List Thread) (text : List ℕ)
    → without_landing_lines (threads_text number (thread_ends state number threads) ++ text)
    ≡ threads_text number (thread_ends (without_flights state) number threads) ++ without_landing_lines text
threads_drop state number [] text = refl
threads_drop state number (thread ∷ threads) text =
    let one : List ℕ = thread_text number (thread_end thread None) in
    let others : List ℕ = threads_text (number + 1) (thread_ends (without_flights state) (number + 1) threads) in
    ap without_landing_lines (append_assoc (thread_text number (thread_end thread (flight_at state number)))
    (threads_text (number + 1) (thread_ends state (number + 1) threads)) text)
    ∙ (thread_drops number thread (flight_at state number)
    (threads_text (number + 1) (thread_ends state (number + 1) threads) ++ text)
    ∙ (ap (λ (more : List ℕ). one ++ more) (threads_drop state (number + 1) threads text)
    ∙ (sym (append_assoc one others (without_landing_lines text))
    ∙ ap (λ (flight : Option Flight). (thread_text number (thread_end thread flight) ++ others) ++ without_landing_lines text)
    (sym (no_flight state number)))))

-- ---- the whole

abbrev free_line : EndState → List ℕ
free_line end = codes "free " ++ (decimal end.free ++ line_feed)

abbrev keys_line : EndState → List ℕ
keys_line end = codes "keys " ++ (decimal end.keys ++ line_feed)

counts_lines : (end : EndState) → counts_text end ≡ free_line end ++ (keys_line end ++ codes "end\n")
counts_lines end =
    sym (three_pieces (codes "free ") (decimal end.free) line_feed (keys_line end ++ codes "end\n")
    ∙ ap (λ (more : List ℕ). codes "free " ++ (decimal end.free ++ (line_feed ++ more)))
    (three_pieces (codes "keys ") (decimal end.keys) line_feed (codes "end\n")))

-- the counts stay
counts_stay : (end : EndState) → without_landing_lines (counts_text end) ≡ counts_text end
counts_stay end =
    ap without_landing_lines (counts_lines end)
    ∙ (line_stays (free_line end) (keys_line end ++ codes "end\n")
    (behind_piece (decimal end.free) line_feed (decimal_clean end.free) refl) refl
    ∙ (ap (λ (more : List ℕ). free_line end ++ more)
    (line_stays (keys_line end) (codes "end\n") (behind_piece (decimal end.keys) line_feed (decimal_clean end.keys) refl) refl)
    ∙ sym (counts_lines end)))

pub reports_drop : ReportsDrop
reports_drop lines end =
    let threads : List ℕ = threads_text 0 (thread_ends end 0 end.threads) in
    let shown : List ℕ = threads_text 0 (thread_ends (without_flights end) 0 end.threads) in
    ap (λ (text : List ℕ). codes "skybridge report 1\n" ++ text)
    (lines_drop lines (threads ++ counts_text (end_of end))
    ∙ ap (λ (text : List ℕ). lines_text (without_landings lines) ++ text)
    (threads_drop end 0 end.threads (counts_text (end_of end))
    ∙ ap (λ (text : List ℕ). shown ++ text) (counts_stay (end_of end))))
