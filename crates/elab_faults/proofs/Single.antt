-- The flaws of one range, and of one expression.
use Rattle.std.proofs.Common.{◌≡◌, ◌∙◌, sym, ap, refl, subst, ℕ, ◌-◌, Bool, true, false, cond, nat_lt, ◌||◌, ◌&&◌, List, [], ◌∷◌, Option, Some, None, Result}
use Rattle.std.proofs.Common.{Ok, Err}
use Rattle.std.specs.List.{list_any}
use Rattle.vlog_tree.specs.declared.expression.Expr.{Expr}
use Rattle.vlog_tree.specs.declared.expression.RangeExpr.{RangeExpr}
use Rattle.source_meaning.specs.Meaning.{Meaning}
use Rattle.scope_meaning.specs.Constants.{Names, Wrong, is_wrong, constants, read, option_of, option_both}
use Rattle.scope_meaning.specs.Ranges as ranges
use Rattle.scope_meaning.specs.ScopeRules.{is_past}
use Rattle.scope_meaning.specs.Wanted.{want}
use Rattle.elab_constants.specs.declared.fault.ConstantFault.{ConstantFault}
use Rattle.elab_constants.specs.declared.fault.ConstantFault.TheVariants as reading
use Rattle.elab_constants.specs.declared.sized.SizedTerm.{SizedTerm}
use Rattle.elab_constants.specs.Faults.{first_wrong}
use Rattle.elab_constants.specs.Sized.{IsSized}
use Rattle.elab_constants.specs.Reads.{IsFault, Reads}
use Rattle.elab_ranges.specs.declared.fault.RangeFault.{RangeFault}
use Rattle.elab_ranges.specs.declared.fault.RangeFault.TheVariants as fault
use Rattle.elab_ranges.specs.declared.range.Span.{Span}
use Rattle.elab_ranges.specs.declared.range.Words.{Words}
use Rattle.elab_ranges.specs.Bounds.{Facts, facts, range_fault, IsVector, IsMemory}
use Rattle.elab_faults.specs.Flaws.{first_flaw, IsFlaw, Finds, vector_flaws, memory_flaws, flaws_in, of_constant}
use Rattle.elab_faults.specs.Judged.{Nothing}
use Rattle.elab_faults.proofs.Flaws.{first, out}

pub or_false : (a : Bool) → (a || false) ≡ a
or_false true = refl
or_false false = refl

and_true : (a : Bool) → (a && true) ≡ a
and_true true = refl
and_true false = refl

and_false : (a : Bool) → (a && false) ≡ false
and_false true = refl
and_false false = refl

firsts : (a b c d e f g h : Bool) → a ≡ e → b ≡ f → c ≡ g → d ≡ h → first a b c d ≡ first e f g h
firsts a b c d e f g h p q r s = ap (λ x. first x b c d) p ∙ ap (λ x. first e x c d) q ∙ ap (λ x. first e f x d) r ∙ ap (λ x. first e f g x) s

-- ---- a vector

vector-first : (known : Names) (r : RangeExpr) → first_flaw (vector_flaws known (r ∷ [])) ≡ range_fault true (facts known r.high) (facts known r.low)
vector-first known r =
    let h = facts known r.high in
    let l = facts known r.low in
    let up : Bool = ranges.is_true (option_both nat_lt h.bound l.bound) in
    let far : Bool = ranges.is_true (option_both (λ x y. nat_lt 127 (x - y)) h.bound l.bound) in
    firsts _ _ _ _ (h.wrong.name || l.wrong.name) (h.wrong.select || l.wrong.select) ((h.outside || l.outside) || (up && true))
    ((h.wrong.wide || l.wrong.wide) || (far && true))
    (ap (λ b. h.wrong.name || b) (or_false l.wrong.name)) (ap (λ b. h.wrong.select || b) (or_false l.wrong.select))
    (or_false (((h.outside || l.outside) || up) || false) ∙ or_false ((h.outside || l.outside) || up)
    ∙ ap (λ b. (h.outside || l.outside) || b) (sym (and_true up)))
    (ap (λ b. (h.wrong.wide || b) || (far || false)) (or_false l.wrong.wide)
    ∙ ap (λ b. (h.wrong.wide || l.wrong.wide) || b) (or_false far ∙ sym (and_true far)))

pub vector-ok : (known : Names) (r : RangeExpr) (s : Span) → IsVector known r (Ok s) → Finds Nothing (vector_flaws known (r ∷ [])) (Ok tt)
vector-ok known r s h = (vector-first known r ∙ h.0, tt)

pub vector-err : (known : Names) (r : RangeExpr) (f : RangeFault) → IsVector known r (Err f) → IsFlaw (vector_flaws known (r ∷ [])) f
vector-err known r fault.NoMemory h = tt
vector-err known r fault.NotConstant h = vector-first known r ∙ h
vector-err known r fault.BadSelect h = vector-first known r ∙ h
vector-err known r fault.BadRange h = vector-first known r ∙ h
vector-err known r fault.WidthPast128 h = vector-first known r ∙ h

-- ---- a memory

memory-first : (known : Names) (r : RangeExpr) → first_flaw (memory_flaws known (r ∷ [])) ≡ range_fault false (facts known r.high) (facts known r.low)
memory-first known r =
    let h = facts known r.high in
    let l = facts known r.low in
    let up : Bool = ranges.is_true (option_both nat_lt h.bound l.bound) in
    let far : Bool = ranges.is_true (option_both (λ x y. nat_lt 127 (x - y)) h.bound l.bound) in
    firsts _ _ _ _ (h.wrong.name || l.wrong.name) (h.wrong.select || l.wrong.select) ((h.outside || l.outside) || (up && false))
    ((h.wrong.wide || l.wrong.wide) || (far && false))
    (ap (λ b. h.wrong.name || b) (or_false l.wrong.name)) (ap (λ b. h.wrong.select || b) (or_false l.wrong.select))
    (ap (λ b. (h.outside || l.outside) || b) (sym (and_false up)))
    (ap (λ b. (h.wrong.wide || b) || false) (or_false l.wrong.wide) ∙ ap (λ b. (h.wrong.wide || l.wrong.wide) || b) (sym (and_false far)))

pub memory-ok : (known : Names) (r : RangeExpr) (w : Words) (large : Bool) → IsMemory known r (Ok w) → large ≡ nat_lt 65536 w.count
    → Finds (λ (b : Bool). b ≡ is_past (ranges.words known r)) (memory_flaws known (r ∷ [])) (Ok large)
memory-ok known r w large h is = (memory-first known r ∙ h.0, is ∙ sym (ap is_past h.1))

pub memory-err : (known : Names) (r : RangeExpr) (f : RangeFault) → IsMemory known r (Err f) → IsFlaw (memory_flaws known (r ∷ [])) f
memory-err known r fault.NoMemory h = tt
memory-err known r fault.NotConstant h = memory-first known r ∙ h
memory-err known r fault.BadSelect h = memory-first known r ∙ h
memory-err known r fault.BadRange h = memory-first known r ∙ h
memory-err known r fault.WidthPast128 h = memory-first known r ∙ h

-- ---- an expression

by_flags : (n s w : Bool) → first n s false w
    ≡ option_of of_constant (cond n (Some reading.NotConstant) (cond s (Some reading.BadSelect) (cond w (Some reading.WidthPast128) None)))
by_flags true s w = refl
by_flags false true w = refl
by_flags false false true = refl
by_flags false false false = refl

expr-first : (known : Names) (e : Expr) → first_flaw (flaws_in (want known e ∷ [])) ≡ option_of of_constant (first_wrong (read (constants known) e).wrong)
expr-first known e =
    let w = (read (constants known) e).wrong in
    firsts _ _ _ _ w.name w.select false w.wide (or_false w.name) (or_false w.select) refl (or_false (w.wide || false) ∙ or_false w.wide)
    ∙ by_flags w.name w.select w.wide

pub expr-ok : (known : Names) (e : Expr) → first_wrong (read (constants known) e).wrong ≡ None → first_flaw (flaws_in (want known e ∷ [])) ≡ None
expr-ok known e h = expr-first known e ∙ ap (option_of of_constant) h

pub expr-err : (known : Names) (e : Expr) (f : ConstantFault) → IsFault (read (constants known) e).wrong f
    → IsFlaw (flaws_in (want known e ∷ [])) (of_constant f)
expr-err known e reading.NoMemory h = tt
expr-err known e reading.NotConstant h = expr-first known e ∙ ap (option_of of_constant) h
expr-err known e reading.BadSelect h = expr-first known e ∙ ap (option_of of_constant) h
expr-err known e reading.WidthPast128 h = expr-first known e ∙ ap (option_of of_constant) h

-- where nothing is wrong there is a value, and else none
no_flag : (n s w : Bool) → option_of of_constant (cond n (Some reading.NotConstant) (cond s (Some reading.BadSelect) (cond w (Some reading.WidthPast128) None)))
    ≡ None → is_wrong (record { name = n; select = s; wide = w }) ≡ false
no_flag true s w h = cc
no_flag false true w h = cc
no_flag false false true h = cc
no_flag false false false h = refl

some_flag : (n s w : Bool) (f : RangeFault)
    → option_of of_constant (cond n (Some reading.NotConstant) (cond s (Some reading.BadSelect) (cond w (Some reading.WidthPast128) None))) ≡ Some f
    → is_wrong (record { name = n; select = s; wide = w }) ≡ true
some_flag true s w f h = refl
some_flag false true w f h = refl
some_flag false false true f h = refl
some_flag false false false f h = cc

pub expr-right : (known : Names) (e : Expr) → first_flaw (flaws_in (want known e ∷ [])) ≡ None
    → ranges.constant_value known e ≡ Some (read (constants known) e).meaning
expr-right known e h =
    let w = (read (constants known) e).wrong in
    ap (λ b. cond b None (Some (read (constants known) e).meaning)) (no_flag w.name w.select w.wide (sym (expr-first known e) ∙ h))

pub expr-wrong : (known : Names) (e : Expr) (f : RangeFault) → first_flaw (flaws_in (want known e ∷ [])) ≡ Some f → ranges.constant_value known e ≡ None
expr-wrong known e f h =
    let w = (read (constants known) e).wrong in
    ap (λ b. cond b None (Some (read (constants known) e).meaning)) (some_flag w.name w.select w.wide f (sym (expr-first known e) ∙ h))
