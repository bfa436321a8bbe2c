-- When a spot of a flat source is refused: each rule is a condition on the spot (docs/formats.md, "Refusals of a design").
use Rattle.std.specs.Prelude.{◌≡◌, ◌≢◌, ℕ, ◌==◌, Bool, true, false, not, [], length, Option, Some, None, Contains, unwrap_or}
use Rattle.vlog_tree.specs.declared.expression.RangeExpr.{RangeExpr}
use Rattle.vlog_tree.specs.declared.statement.StmtKind.TheOpen as o
use Rattle.vlog_tree.specs.declared.module.Port.{Port}
use Rattle.scope_meaning.specs.Declared.{is_in, Declared, DeclaredAs, output_wire, output_reg, wire, reg, integer}
use Rattle.scope_meaning.specs.Scope.{Here, At, Meant, a_constant, a_variable, meaning_of}
use Rattle.flat_source_meaning.specs.Environments.{Inside}
use Rattle.flat_source_meaning.specs.Targets.{values_taken}
use Rattle.flat_source_meaning.specs.ProcessLoops.{ProcessLoop}
use Rattle.vlog_tree.specs.Trees.{StmtLayer}
use Rattle.flat_source_meaning.specs.Clocks.{IsClock}
use Rattle.flat_source_meaning.specs.Variables.{Source, is_loop_variable, is_integer}
use Rattle.flat_source_meaning.specs.FlatSpots.{FlatSpot, at_port, at_copy}
use Rattle.flat_source_meaning.specs.FlatNames.{Use, loop_heads, clock_uses, handed, written, read_names, apart_from_clocks}

-- what a name means where it is used
abbrev pub meant : Use → Option Meant
meant u = meaning_of u.0.frames u.1

-- a constant or a variable
abbrev pub has_value : Option Meant → Bool
has_value (Some (a_constant c)) = true
has_value (Some (a_variable s d)) = true
has_value _ = false

-- a process writes regs and integers, an assignment or connection wires; nothing writes an input
abbrev pub a_process_writes : DeclaredAs → Bool
a_process_writes output_reg = true
a_process_writes reg = true
a_process_writes integer = true
a_process_writes _ = false

-- wires
abbrev pub an_assignment_writes : DeclaredAs → Bool
an_assignment_writes output_wire = true
an_assignment_writes wire = true
an_assignment_writes _ = false

-- what a name means may be written at a spot; unknown names are refused before
abbrev pub may_write : FlatSpot → Option Meant → Bool
may_write (at_copy k c) (Some (a_variable s d)) = a_process_writes d.kind
may_write spot (Some (a_variable s d)) = an_assignment_writes d.kind
may_write spot (Some (a_constant c)) = false
may_write spot _ = true

-- the name means a clock signal
abbrev pub MeansClock : Source → Use → Type 0
MeansClock w u = (s : ℕ) × (d : Declared) × (meant u ≡ Some (a_variable s d)) × IsClock w.vs w.clock s d.name

-- the name means a loop variable
abbrev pub MeansLoopVariable : Source → Use → Type 0
MeansLoopVariable w u = (s : ℕ) × (d : Declared) × (meant u ≡ Some (a_variable s d)) × (is_loop_variable w.vs s d.name ≡ true)

-- the name means a loop variable, and no loop around has a value for it
abbrev pub IsOutsideItsLoops : Source → Use → Type 0
IsOutsideItsLoops w u =
    (s : ℕ) × (d : Declared) × (meant u ≡ Some (a_variable s d)) × (is_loop_variable w.vs s d.name ≡ true) × (is_in u.1 u.0.loops ≡ false)

-- a clock signal is missing or misused: `posedge` names none; one is used otherwise; one has a range, or is connected to an
-- input with a range
pub data IsBadClock (w : Source) : FlatSpot → Type 0 where
  no_clock : {spot : FlatSpot} {u : Use} → Contains (clock_uses w spot) u → (MeansClock w u → ⊥) → IsBadClock w spot
  used : {spot : FlatSpot} {u : Use} → Contains (apart_from_clocks w spot) u → MeansClock w u → IsBadClock w spot
  vector : {here : Here} {at : At} {p : Port} {r : RangeExpr} → p.range ≡ Some r → IsClock w.vs w.clock here.number p.name → IsBadClock w (at_port here at p)
  to_vector : {spot : FlatSpot} {p : Port} {u : Use} {r : RangeExpr} → Contains (handed w spot) (p, u) → p.range ≡ Some r → MeansClock w u → IsBadClock w spot

-- an integer that no loop around turns over
abbrev pub IsFreeInteger : Use → Type 0
IsFreeInteger u = (s : ℕ) × (d : Declared) × (meant u ≡ Some (a_variable s d)) × (is_integer d.kind ≡ true) × (is_in u.1 u.0.loops ≡ false)

-- a loop variable is misused: the head of a loop has two names, or one that is no free integer; one is written outside heads,
-- or read outside its loops
pub data IsBadLoop (w : Source) : FlatSpot → Type 0 where
  two_names : {spot : FlatSpot} {inside : Inside} {l : ProcessLoop} → Contains (loop_heads spot) (inside, l) → l.name ≢ l.step_name → IsBadLoop w spot
  no_integer : {spot : FlatSpot} {inside : Inside} {l : ProcessLoop} → Contains (loop_heads spot) (inside, l)
      → (IsFreeInteger (inside, l.name) → ⊥) → IsBadLoop w spot
  written_outside_heads : {spot : FlatSpot} {u : Use} → Contains (written w spot) u → MeansLoopVariable w u → IsBadLoop w spot
  read_outside_its_loops : {spot : FlatSpot} {u : Use} → Contains (read_names w spot) u → IsOutsideItsLoops w u → IsBadLoop w spot

-- so many values are wanted and given
abbrev pub agrees : Option ℕ → ℕ → Bool
agrees (Some n) m = n == m
agrees None m = false

-- a `$display` whose text has a format that is none, or whose formats and values differ in number
abbrev pub is_bad_format : StmtLayer → Bool
is_bad_format (o.Show text values) = not (agrees (values_taken (unwrap_or text [])) (length values))
is_bad_format _ = false

-- `$display`, `$finish`, `$stop`
abbrev pub shows_or_ends : StmtLayer → Bool
shows_or_ends (o.Show text values) = true
shows_or_ends o.Finish = true
shows_or_ends o.Stop = true
shows_or_ends _ = false
