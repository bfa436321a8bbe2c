-- The variables of a design, numbered in the order of the walk, ports before items (IEEE 1364-2005, 4.2, 4.3, 4.9). The
-- clock signals and the loop variables are none.
use Rattle.std.specs.Prelude.{◌≡◌, ℕ, ◌==◌, ◌&&◌, Bool, true, false, if◌then◌else◌, List, [], ◌∷◌, ◌++◌, map, Option, Some, None, unwrap_or}
use Rattle.std.specs.List.{flat_map, list_any}
use Rattle.vlog_tree.specs.declared.expression.Expr.{Expr}
use Rattle.vlog_tree.specs.declared.statement.Stmt.{Stmt, fold-Stmt}
use Rattle.vlog_tree.specs.declared.statement.StmtKind.TheOpen as s
use Rattle.vlog_tree.specs.declared.item.NamePlace.{NamePlace}
use Rattle.vlog_tree.specs.declared.item.RegName.{RegName}
use Rattle.vlog_tree.specs.declared.item.ItemKind.TheOpen as i
use Rattle.vlog_tree.specs.declared.module.Module.{Module}
use Rattle.vlog_tree.specs.declared.module.Port.{Port}
use Rattle.vlog_tree.specs.declared.module.PortKind.{PortKind}
use Rattle.vlog_tree.specs.declared.module.PortKind.TheVariants as port
use Rattle.cov_types.specs.declared.kind.VarKind.{VarKind}
use Rattle.cov_types.specs.declared.kind.VarKind.TheVariants as kind
use Rattle.elab_types.specs.declared.flat_source.FlatVar.{FlatVar}
use Rattle.scope_meaning.specs.Constants.{Names, option_of}
use Rattle.scope_meaning.specs.Ranges.{Span, scalar, span, words, assigned, constant_value}
use Rattle.scope_meaning.specs.Constants.{and_then}
use Rattle.scope_meaning.specs.Declared.{DeclaredAs, integer}
use Rattle.scope_meaning.specs.Scope.{Meant, a_variable, meaning_of, frames}
use Rattle.scope_meaning.specs.Heads.{names_here}
use Rattle.vlog_tree.specs.Trees.{Layer, layer}
use Rattle.scope_meaning.specs.Visits.{Visits, Visit, sees, a_port, an_item}
use Rattle.flat_source_meaning.specs.Environments.{is_variable}
use Rattle.flat_source_meaning.specs.Clocks.{IsClock, Keeps}
use Rattle.flat_source_meaning.specs.Names.{NameList}
use Rattle.vlog_tree.specs.declared.expression.RangeExpr.{RangeExpr}

-- ---- loop variables

-- the names in the heads of all loops in a statement, however often they turn, by its kind
abbrev pub head_names : s.StmtKind-F NameList NameList NameList → NameList
head_names (s.Block body last) = flat_map (λ ns. ns) body
head_names (s.If test first other) = first ++ unwrap_or other []
head_names (s.Case wild on arms) = flat_map (λ ns. ns) arms
head_names (s.For name from test step_name step body) = name ∷ step_name ∷ body
head_names _ = []

-- those names in a statement
abbrev pub loop_names : Stmt → NameList
loop_names = fold-Stmt NameList NameList NameList head_names (λ arm. arm.body) (λ stmt. stmt.what)

-- those names in the body of an item that is a process
abbrev pub names_of_loops : Layer → NameList
names_of_loops (i.Initial body) = loop_names body
names_of_loops (i.Always clock body) = loop_names body
names_of_loops _ = []

-- what is declared is an integer
abbrev pub is_integer : DeclaredAs → Bool
is_integer integer = true
is_integer _ = false

-- a name means the integer of this scope and name
abbrev pub means_integer : ℕ → List ℕ → Option Meant → Bool
means_integer s n (Some (a_variable k d)) = is_variable s n k d.name && is_integer d.kind
means_integer s n _ = false

-- the head of a loop at a visit names the integer of this scope and name
abbrev pub loops_over : ℕ → List ℕ → Visit → Bool
loops_over s n (sees (an_item here at a)) = list_any (λ m. means_integer s n (meaning_of (frames here at) m)) (names_of_loops (layer a))
loops_over s n _ = false

-- An integer is a loop variable where the head of some loop of a process names it.
abbrev pub is_loop_variable : Visits → ℕ → List ℕ → Bool
is_loop_variable vs s n = list_any (loops_over s n) vs

-- ---- what a port or an item declares

-- the bits of a declared range; without one there is one bit
abbrev pub span_or_scalar : Names → Option RangeExpr → Span
span_or_scalar names range = unwrap_or (span names range) scalar

-- a variable that is no memory and no integer, with its start
abbrev pub variable : ℕ → VarKind → Bool → Span → NamePlace → ℕ → FlatVar
variable scope kind signed r n start = record {
  scope = scope;
  name = n.name;
  place = n.place;
  kind = kind;
  width = r.width;
  low = r.low;
  vector = r.vector;
  signed = signed;
  integer = false;
  words = 1;
  word_low = 0;
  memory = false;
  start = start;
}

-- an input of the top alone is an input of the design
abbrev pub port_variable_kind : ℕ → PortKind → VarKind
port_variable_kind scope port.Input = if scope == 0 then kind.Input else kind.Wire
port_variable_kind scope port.OutputWire = kind.Wire
port_variable_kind scope port.OutputReg = kind.Reg

-- the variable of a port
abbrev pub port_variable : Names → ℕ → Port → FlatVar
port_variable names scope p =
    variable scope (port_variable_kind scope p.kind) p.signed (span_or_scalar names p.range) (record { place = p.name_place; name = p.name }) 0

-- what a reg holds at first: its start constant, sized as an assignment to it, else 0
abbrev pub start_of : Names → ℕ → Option Expr → ℕ
start_of names width None = 0
start_of names width (Some e) = unwrap_or (option_of (assigned width) (constant_value names e)) 0

-- a variable with so many words from a lowest number on
abbrev pub as_memory : FlatVar → Option (ℕ × ℕ) → FlatVar
as_memory x (Some w) = record x { words = w.0; word_low = w.1; memory = true }
as_memory x None = x

-- the variables of the declarations: a reg, which may be a memory; an integer of 32 bits; and all of an item
abbrev pub reg_variable : Names → ℕ → Bool → Span → RegName → FlatVar
reg_variable names scope signed r n =
    as_memory (variable scope kind.Reg signed r n.name (start_of names r.width n.start)) (and_then n.words (words names))

abbrev pub integer_variable : ℕ → NamePlace → FlatVar
integer_variable scope n = record (variable scope kind.Reg true (record { width = 32; low = 0; vector = true }) n 0) { integer = true }

abbrev pub declared_variables : Names → ℕ → Layer → List FlatVar
declared_variables names scope (i.Wire signed range all) = map (λ w. variable scope kind.Wire signed (span_or_scalar names range) w.name 0) all
declared_variables names scope (i.Reg signed range all) = map (reg_variable names scope signed (span_or_scalar names range)) all
declared_variables names scope (i.Integer all) = map (integer_variable scope) all
declared_variables names scope _ = []

-- what a visit of the walk declares
abbrev pub variables_at : Visit → List FlatVar
variables_at (sees (a_port here at p)) = port_variable (names_here here at) here.number p ∷ []
variables_at (sees (an_item here at a)) = declared_variables (names_here here at) here.number (layer a)
variables_at _ = []

-- ---- the variables

-- neither a clock signal nor a loop variable
abbrev pub IsKept : Visits → List ℕ → FlatVar → Type 0
IsKept vs clock x = (IsClock vs clock x.scope x.name → ⊥) × (is_loop_variable vs x.scope x.name ≡ false)

-- The variables of a walk: those that its visits declare and that are kept, in their order.
abbrev pub AreVariables : Visits → List ℕ → List FlatVar → Type 0
AreVariables vs clock vars = Keeps (IsKept vs clock) (flat_map variables_at vs) vars

-- ---- a source

-- The modules, the walk through the design, the name of the clock, and the variables.
pub record Source : Type 0 where
  pub design : List Module
  pub vs : Visits
  pub clock : List ℕ
  pub vars : List FlatVar
