-- The summary of a run: how many lines of each kind its report has (docs/FORMATS.md).
use Rattle.std.specs.Prelude.{ℕ, Bool, true, false, List, [], ◌∷◌, ◌++◌, codes, flat_map}
use Rattle.std.specs.List.{count_by}
use Rattle.std.specs.Fmt.{decimal}
use Rattle.sb_trace.specs.declared.end.EndState.{EndState}
use Rattle.sb_trace.specs.declared.event.Event.{Event}
use Rattle.sb_trace.specs.declared.event.Event.TheVariants as event
use Rattle.sb_trace.specs.declared.event.Line.{Line}
use Rattle.sb_generator.specs.declared.summary.LineKind.{LineKind}
use Rattle.sb_generator.specs.declared.summary.LineKind.TheVariants as kind

-- What a line counts as. Instructions that the rewriter added, and those that strayed, count as steps.
abbrev pub counts_as : LineKind → Event → Bool
counts_as kind.Step (event.Step rip) = true
counts_as kind.Step (event.Extra rip) = true
counts_as kind.Step (event.Stray rip) = true
counts_as kind.Print (event.Printed value) = true
counts_as kind.Sys (event.Sys number answer) = true
counts_as kind.Exit (event.Exit status) = true
counts_as kind.Fault (event.Fault fault at) = true
counts_as kind.ServerFault (event.ServerFault fault at) = true
counts_as kind.ServerExit (event.ServerExit status) = true
counts_as kind.Entered (event.Entered index slot) = true
counts_as kind.WrongKey (event.WrongKey index) = true
counts_as kind.PoolEmpty (event.PoolEmpty index) = true
counts_as kind.Unbound (event.Unbound index) = true
counts_as kind.BadLeaf (event.BadLeaf index) = true
counts_as kind.Return event.Return = true
counts_as kind.Turn event.Turn = true
counts_as kind.Landing (event.Landing phase) = true
counts_as kind.Idle event.Idle = true
counts_as kind event = false

-- the words with which such lines begin, behind the number of the core or of the binding
abbrev pub kind_text : LineKind → List ℕ
kind_text kind.Step = codes "step"
kind_text kind.Print = codes "print"
kind_text kind.Sys = codes "sys"
kind_text kind.Exit = codes "exit"
kind_text kind.Fault = codes "fault"
kind_text kind.ServerFault = codes "server fault"
kind_text kind.ServerExit = codes "server exit"
kind_text kind.Entered = codes "entered"
kind_text kind.WrongKey = codes "wrong key"
kind_text kind.PoolEmpty = codes "pool empty"
kind_text kind.Unbound = codes "unbound"
kind_text kind.BadLeaf = codes "bad leaf"
kind_text kind.Return = codes "return"
kind_text kind.Turn = codes "turn"
kind_text kind.Landing = codes "landing"
kind_text kind.Idle = codes "idle"

-- all kinds, in the order of the summary
abbrev pub kinds : List LineKind
kinds =
    kind.Step ∷ kind.Print ∷ kind.Sys ∷ kind.Exit ∷ kind.Fault ∷ kind.ServerFault ∷ kind.ServerExit ∷ kind.Entered
    ∷ kind.WrongKey ∷ kind.PoolEmpty ∷ kind.Unbound ∷ kind.BadLeaf ∷ kind.Return ∷ kind.Turn ∷ kind.Landing ∷ kind.Idle ∷ []

-- how many lines are of the kind
abbrev pub count_of : List Line → LineKind → ℕ
count_of lines kind = count_by (λ line. counts_as kind line.event) lines

abbrev pub count_line : List Line → LineKind → List ℕ
count_line lines kind = kind_text kind ++ (codes " " ++ (decimal (count_of lines kind) ++ codes "\n"))

-- a line for each kind
unfoldable pub counts_text : List Line → List ℕ
counts_text lines = flat_map (count_line lines) kinds

-- the number from which the bundle was generated, the counts, and the frames that are free at the end
abbrev pub summary_text : ℕ → List Line → EndState → List ℕ
summary_text number lines end =
    codes "gen " ++
    (decimal number ++ (codes "\n" ++ (counts_text lines ++ (codes "free " ++ (decimal end.free ++ codes "\nend\n")))))
