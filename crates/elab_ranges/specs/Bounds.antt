-- What the bounds of a declared range say, and the first thing that is wrong with it (docs/formats.md, "Refusals of a
-- design").
use Rattle.std.specs.Prelude.{◌≡◌, ◌+◌, ◌-◌, ℕ, max, min, Bool, true, false, ◌||◌, ◌&&◌, if◌then◌else◌, nat_lt, Option, Some, None, Result, Ok, Err}
use Rattle.vlog_tree.specs.declared.expression.Expr.{Expr}
use Rattle.vlog_tree.specs.declared.expression.RangeExpr.{RangeExpr}
use Rattle.scope_meaning.specs.Constants.{Names, Wrong, constants, read, option_both}
use Rattle.scope_meaning.specs.Ranges as ranges
use Rattle.elab_constants.specs.declared.fault.ConstantFault.{ConstantFault}
use Rattle.elab_constants.specs.declared.fault.ConstantFault.TheVariants as reading
use Rattle.elab_ranges.specs.declared.fault.RangeFault.{RangeFault}
use Rattle.elab_ranges.specs.declared.fault.RangeFault.TheVariants as fault
use Rattle.elab_ranges.specs.declared.range.Span.{Span}
use Rattle.elab_ranges.specs.declared.range.Words.{Words}

-- what is wrong in a bound, whether it is a constant that no bound may be, and the number that it is
pub record Facts : Type 0 where
  pub wrong : Wrong
  pub outside : Bool
  pub bound : Option ℕ

abbrev pub facts : Names → Expr → Facts
facts known e = record { wrong = (read (constants known) e).wrong; outside = ranges.outside (ranges.integer_at known e); bound = ranges.bound known e }

-- The first thing that is wrong with a range, by the rules in the order of the refusals; a vector's descends, and has at
-- most 128 bits.
abbrev pub range_fault : Bool → Facts → Facts → Option RangeFault
range_fault is_vector high low =
    if high.wrong.name || low.wrong.name then Some fault.NotConstant
    else (if high.wrong.select || low.wrong.select then Some fault.BadSelect
    else (if (high.outside || low.outside) || (ranges.is_true (option_both nat_lt high.bound low.bound) && is_vector) then Some fault.BadRange
    else (if (high.wrong.wide || low.wrong.wide) || (ranges.is_true (option_both (λ h l. nat_lt 127 (h - l)) high.bound low.bound) && is_vector)
    then Some fault.WidthPast128
    else None)))

abbrev pub span_of : Span → ranges.Span
span_of s = record { width = s.width; low = s.low; vector = true }

-- The range has this size, and nothing is wrong with it; or that is the first thing that is wrong, want of memory aside.
abbrev pub IsVector : Names → RangeExpr → Result Span RangeFault → Type 0
IsVector known r (Ok s) = (range_fault true (facts known r.high) (facts known r.low) ≡ None) × (ranges.span known (Some r) ≡ Some (span_of s))
IsVector known r (Err fault.NoMemory) = Unit {0}
IsVector known r (Err f) = range_fault true (facts known r.high) (facts known r.low) ≡ Some f

-- The range has so many words, and nothing is wrong with it; or that is the first thing that is wrong, want of memory aside.
abbrev pub IsMemory : Names → RangeExpr → Result Words RangeFault → Type 0
IsMemory known r (Ok w) = (range_fault false (facts known r.high) (facts known r.low) ≡ None) × (ranges.words known r ≡ Some (w.count, w.low))
IsMemory known r (Err fault.NoMemory) = Unit {0}
IsMemory known r (Err f) = range_fault false (facts known r.high) (facts known r.low) ≡ Some f

-- ---- of the code

abbrev pub right : Wrong
right = record { name = false; select = false; wide = false }

-- what reading a bound gives
abbrev pub IsBound : Facts → Result (Option ℕ) ConstantFault → Type 0
IsBound f (Ok (Some n)) = f ≡ record { wrong = right; outside = false; bound = Some n }
IsBound f (Ok None) = f ≡ record { wrong = right; outside = true; bound = None }
IsBound f (Err reading.NoMemory) = Unit {0}
IsBound f (Err reading.NotConstant) = f.wrong.name ≡ true
IsBound f (Err reading.BadSelect) = (f.wrong.name ≡ false) × (f.wrong.select ≡ true)
IsBound f (Err reading.WidthPast128) = f ≡ record { wrong = record right { wide = true }; outside = false; bound = None }

-- both bounds, or the first thing that is wrong in one
abbrev pub both_bounds : Result (Option ℕ) ConstantFault → Result (Option ℕ) ConstantFault → Result (ℕ × ℕ) RangeFault
both_bounds (Err reading.NoMemory) y = Err fault.NoMemory
both_bounds x (Err reading.NoMemory) = Err fault.NoMemory
both_bounds (Err reading.NotConstant) y = Err fault.NotConstant
both_bounds x (Err reading.NotConstant) = Err fault.NotConstant
both_bounds (Err reading.BadSelect) y = Err fault.BadSelect
both_bounds x (Err reading.BadSelect) = Err fault.BadSelect
both_bounds (Ok None) y = Err fault.BadRange
both_bounds x (Ok None) = Err fault.BadRange
both_bounds (Ok (Some high)) (Ok (Some low)) = Ok (high, low)
both_bounds _ _ = Err fault.WidthPast128

abbrev pub between : ℕ → ℕ → Result Span RangeFault
between high low =
    if nat_lt high low then Err fault.BadRange
    else (if nat_lt 127 (high - low) then Err fault.WidthPast128 else Ok (record { width = high - low + 1; low = low }))

abbrev pub words_between : ℕ → ℕ → Words
words_between one other = record { count = max one other - min one other + 1; low = min one other }
