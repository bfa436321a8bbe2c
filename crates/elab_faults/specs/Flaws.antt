-- What is wrong with the expressions and ranges at a place (docs/formats.md, "Refusals of a design").
use Rattle.std.specs.Prelude.{◌≡◌, Bool, true, false, ◌||◌, if◌then◌else◌, List, [], ◌∷◌, map, Option, Some, None, Result, Ok, Err}
use Rattle.std.specs.List.{list_any, flat_map}
use Rattle.vlog_tree.specs.declared.expression.Expr.{Expr}
use Rattle.vlog_tree.specs.declared.expression.RangeExpr.{RangeExpr}
use Rattle.scope_meaning.specs.Constants.{Names, Wrong, constants, read}
use Rattle.scope_meaning.specs.Ranges.{is_bad_range, has_bad_bound, is_wide_range}
use Rattle.scope_meaning.specs.Wanted.{Wanted, want, bounds}
use Rattle.scope_meaning.specs.Standing.{Standing}
use Rattle.elab_constants.specs.declared.fault.ConstantFault.{ConstantFault}
use Rattle.elab_constants.specs.declared.fault.ConstantFault.TheVariants as reading
use Rattle.elab_ranges.specs.declared.fault.RangeFault.{RangeFault}
use Rattle.elab_ranges.specs.declared.fault.RangeFault.TheVariants as fault

-- which of the four rules on expressions and ranges refuse
pub record Flaws : Type 0 where
  pub name : Bool
  pub select : Bool
  pub range : Bool
  pub wide : Bool

abbrev pub flaws : Bool → Bool → Bool → Bool → Flaws
flaws n s r w = record { name = n; select = s; range = r; wide = w }

abbrev pub no_flaws : Flaws
no_flaws = flaws false false false false

abbrev pub both_flaws : Flaws → Flaws → Flaws
both_flaws a b = flaws (a.name || b.name) (a.select || b.select) (a.range || b.range) (a.wide || b.wide)

-- what is wrong in an expression that has to be a constant
abbrev pub wrong_in : Wanted → Wrong
wrong_in w = (read (constants w.names) w.expr).wrong

-- of some vector ranges, memory ranges and expressions
abbrev pub flaws_of : Names → List RangeExpr → List RangeExpr → List Wanted → Flaws
flaws_of known vectors memories wanted =
    flaws (list_any (λ w. w.name) (map wrong_in wanted)) (list_any (λ w. w.select) (map wrong_in wanted))
    (list_any (is_bad_range known) vectors || list_any (has_bad_bound known) memories)
    (list_any (λ w. w.wide) (map wrong_in wanted) || list_any (is_wide_range known) vectors)

-- of what stands at a place
abbrev pub flaws_at : Standing → Flaws
flaws_at x = flaws_of x.known x.vectors x.memories x.wanted

-- of expressions alone, and of the range of a vector or a memory with its bounds
abbrev pub flaws_in : List Wanted → Flaws
flaws_in wanted = flaws_of (λ name. None) [] [] wanted

abbrev pub vector_flaws : Names → List RangeExpr → Flaws
vector_flaws known rs = flaws_of known rs [] (map (want known) (flat_map bounds rs))

abbrev pub memory_flaws : Names → List RangeExpr → Flaws
memory_flaws known rs = flaws_of known [] rs (map (want known) (flat_map bounds rs))

-- the first of them, by the rules in their order
abbrev pub first_flaw : Flaws → Option RangeFault
first_flaw w =
    if w.name then Some fault.NotConstant
    else (if w.select then Some fault.BadSelect
    else (if w.range then Some fault.BadRange
    else (if w.wide then Some fault.WidthPast128 else None)))

-- the fault is the first flaw, want of memory aside
abbrev pub IsFlaw : Flaws → RangeFault → Type 0
IsFlaw w fault.NoMemory = Unit {0}
IsFlaw w fault.NotConstant = first_flaw w ≡ Some fault.NotConstant
IsFlaw w fault.BadSelect = first_flaw w ≡ Some fault.BadSelect
IsFlaw w fault.BadRange = first_flaw w ≡ Some fault.BadRange
IsFlaw w fault.WidthPast128 = first_flaw w ≡ Some fault.WidthPast128

-- there is no flaw and it is what was asked for, or that is the first flaw
abbrev pub Finds : {A : Type 0} → (A → Type 0) → Flaws → Result A RangeFault → Type 0
Finds is w (Ok a) = (first_flaw w ≡ None) × is a
Finds is w (Err f) = IsFlaw w f

-- ---- of the code

-- the first of two: want of memory, then by the rules
abbrev pub earlier : RangeFault → RangeFault → RangeFault
earlier fault.NoMemory g = fault.NoMemory
earlier fault.NotConstant fault.NoMemory = fault.NoMemory
earlier fault.NotConstant g = fault.NotConstant
earlier fault.BadSelect fault.NoMemory = fault.NoMemory
earlier fault.BadSelect fault.NotConstant = fault.NotConstant
earlier fault.BadSelect g = fault.BadSelect
earlier fault.BadRange fault.WidthPast128 = fault.BadRange
earlier fault.BadRange g = g
earlier fault.WidthPast128 g = g

abbrev pub both : {A B : Type 0} → Result A RangeFault → Result B RangeFault → Result (A × B) RangeFault
both (Ok a) (Ok b) = Ok (a, b)
both (Ok a) (Err g) = Err g
both (Err f) (Ok b) = Err f
both (Err f) (Err g) = Err (earlier f g)

abbrev pub of_constant : ConstantFault → RangeFault
of_constant reading.NotConstant = fault.NotConstant
of_constant reading.BadSelect = fault.BadSelect
of_constant reading.WidthPast128 = fault.WidthPast128
of_constant reading.NoMemory = fault.NoMemory
