-- What is refused of the expressions of a flat source (docs/formats.md, "Refusals of a design"; IEEE 1364-2005, 4.9, 4.10,
-- 5.1.14 and 5.2): selects that can't be, and sizes past 128.
use Rattle.std.specs.Prelude.{Bool, true, false, ◌&&◌, ◌||◌, not, nat_le, if◌then◌else◌, List, [], ◌∷◌, ◌++◌, map, flat_map, pos, int_le, unwrap_or}
use Rattle.std.specs.List.{list_all}
use Rattle.cov_types.specs.declared.place.Place.{Place}
use Rattle.elab_types.specs.declared.flat_source.FlatVar.{FlatVar}
use Rattle.elab_types.specs.declared.flat_expression.FlatExpr.{FlatExpr, FlatExpr-F, fold-FlatExpr}
use Rattle.elab_types.specs.declared.flat_expression.FlatExpr.TheOpen as x
use Rattle.elab_types.specs.declared.flat_statement.FlatStmt.{FlatStmt, fold-FlatStmt}
use Rattle.elab_types.specs.declared.flat_statement.FlatKind.TheOpen as k
use Rattle.source_meaning.specs.Meaning.{Object, whole, word, Meaning, fixed_integer}
use Rattle.source_meaning.specs.Selects.{Selection, at, between, up, down}
use Rattle.flat_meaning.specs.Expressions.{expression}

-- a meaning, whether all selects inside can be, and whether all sizes inside are at most 128
pub record Checked : Type 0 where
  pub meaning : Meaning
  pub selects : Bool
  pub sizes : Bool

-- the same of a select
pub record CheckedSelection : Type 0 where
  pub selection : Selection
  pub selects : Bool
  pub sizes : Bool

-- what each of them means
abbrev pub meanings : List Checked → List Meaning
meanings = map (λ c. c.meaning)

-- a part range doesn't ascend, and a width is at least 1
abbrev pub has_bits : Selection → Bool
has_bits (at i) = true
has_bits (between high low) = int_le (fixed_integer low) (fixed_integer high)
has_bits (up i count) = int_le (pos 1) (fixed_integer count)
has_bits (down i count) = int_le (pos 1) (fixed_integer count)

-- it is a select by one index
abbrev pub is_plain : Selection → Bool
is_plain (at i) = true
is_plain _ = false

-- A select is of a vector, or the plain one that a memory needs; of a word it is of a vector's bits.
abbrev pub can_select : List Object → Selection → Bool
can_select (whole v ∷ []) s = if v.memory then is_plain s else v.vector && has_bits s
can_select (word v k ∷ []) s = v.vector && has_bits s
can_select _ s = false

-- what may stand by itself: a memory may not
abbrev pub stands : List Object → Bool
stands (whole v ∷ []) = not v.memory
stands _ = true

-- an expression's own meaning and what holds of its parts
abbrev pub checked : Meaning → Bool → Bool → Checked
checked m selects sizes = record { meaning = m; selects = selects && stands m.objects; sizes = sizes && nat_le m.size 128 }

-- all selects inside can be
abbrev pub all_selects : List Checked → Bool
all_selects = list_all (λ c. c.selects)

-- all sizes inside are at most 128
abbrev pub all_sizes : List Checked → Bool
all_sizes = list_all (λ c. c.sizes)

-- the base of a select may be a memory, so its own selects count and not whether it may stand by itself
abbrev pub base_selects : Checked → Bool
base_selects c = c.selects || not (stands c.meaning.objects)

-- one clause for each form of an expression
abbrev pub checked_node : List FlatVar → FlatExpr-F Checked CheckedSelection → Checked
checked_node vars (x.Number w sg n free) = checked (expression vars (x.Number w sg n free)) true true
checked_node vars (x.Var n) = checked (expression vars (x.Var n)) true true
checked_node vars (x.Select b s) =
    checked (expression vars (x.Select b.meaning s.selection)) (base_selects b && s.selects && can_select b.meaning.objects s.selection) (b.sizes && s.sizes)
checked_node vars (x.Unary op a) = checked (expression vars (x.Unary op a.meaning)) a.selects a.sizes
checked_node vars (x.Binary op a b) = checked (expression vars (x.Binary op a.meaning b.meaning)) (a.selects && b.selects) (a.sizes && b.sizes)
checked_node vars (x.Choose t a b) =
    checked (expression vars (x.Choose t.meaning a.meaning b.meaning)) (t.selects && a.selects && b.selects)
    (t.sizes && a.sizes && b.sizes)
checked_node vars (x.Join parts) = record (checked (expression vars (x.Join (meanings parts))) true (all_sizes parts)) { selects = all_selects parts }
checked_node vars (x.Repeat n parts) =
    checked (expression vars (x.Repeat n.meaning (meanings parts)))
    (n.selects && all_selects parts && int_le (pos 1) (fixed_integer n.meaning)) (n.sizes && all_sizes parts)
checked_node vars (x.Call name a) = checked (expression vars (x.Call name a.meaning)) a.selects a.sizes

-- one clause for each form of a select
abbrev pub checked_selection : x.FlatSelect-F Checked CheckedSelection → CheckedSelection
checked_selection (x.At i) = record { selection = at i.meaning; selects = i.selects; sizes = i.sizes }
checked_selection (x.Between h l) = record { selection = between h.meaning l.meaning; selects = h.selects && l.selects; sizes = h.sizes && l.sizes }
checked_selection (x.Up i n) = record { selection = up i.meaning n.meaning; selects = i.selects && n.selects; sizes = i.sizes && n.sizes }
checked_selection (x.Down i n) = record { selection = down i.meaning n.meaning; selects = i.selects && n.selects; sizes = i.sizes && n.sizes }

-- an expression, checked
abbrev pub check : List FlatVar → FlatExpr → Checked
check vars = fold-FlatExpr Checked CheckedSelection (checked_node vars) checked_selection

-- ---- the faults of statements, in order, each with the statement's place

-- why a statement is refused
pub data Fault : Type 0 where
  bad_select : Fault
  width_past_128 : Fault

-- the fault of a statement's own expressions, if there is one
abbrev pub own_fault : List FlatVar → Place → List FlatExpr → List (Place × Fault)
own_fault vars p es =
    if not (list_all (λ e. (check vars e).selects) es) then (p, bad_select) ∷ []
    else if not (list_all (λ e. (check vars e).sizes) es) then (p, width_past_128) ∷ []
    else []

-- an arm of a `case`: its items, which stand at the `case`, and the faults of its body
pub record ArmFaults : Type 0 where
  pub items : List FlatExpr
  pub faults : List (Place × Fault)

-- those of a statement at a place, by its kind: its own before those inside
abbrev pub kind_faults : List FlatVar → k.FlatKind-F (Place → List (Place × Fault)) ArmFaults (List (Place × Fault)) → Place → List (Place × Fault)
kind_faults vars (k.Block body last) p = flat_map (λ faults. faults) body
kind_faults vars (k.If test first second) p = own_fault vars p (test ∷ []) ++ first ++ unwrap_or second []
kind_faults vars (k.Case wild on arms) p = own_fault vars p (on ∷ flat_map (λ a. a.items) arms) ++ flat_map (λ a. a.faults) arms
kind_faults vars (k.Set target e) p = own_fault vars p (target ∷ e ∷ [])
kind_faults vars (k.Later target e) p = own_fault vars p (target ∷ e ∷ [])
kind_faults vars (k.Show text values) p = own_fault vars p values
kind_faults vars _ p = []

-- the faults of a statement, the first one first
abbrev pub faults : List FlatVar → FlatStmt → List (Place × Fault)
faults vars =
    fold-FlatStmt (Place → List (Place × Fault)) ArmFaults (List (Place × Fault)) (kind_faults vars)
    (λ a. record { items = a.items; faults = a.body }) (λ s. s.what s.place)
