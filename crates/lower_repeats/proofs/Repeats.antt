-- Replications, and `$clog2`.
use Rattle.std.proofs.Common.{◌≡◌, ◌∙◌, sym, ap, subst, ℕ, zero, suc, ◌*◌, ◌≤◌, ◌⊎◌, inl, inr, min, Bool, true, false, ◌&&◌, List, map, Result, Ok, Err}
use Rattle.std.proofs.Common.{arith, rules, refl, ℤ, pos, int_le, ◌<◌, ◌^◌}
use Rattle.std.proofs.lemmas.Bool.{cases_lt}
use Rattle.std.proofs.Math.Nat.{mul-le-mul_left, mul-le-mul_right}
use Rattle.vlog_tree.specs.declared.operator.SystemCall.TheVariants as call
use Rattle.elab_types.specs.declared.flat_source.FlatVar.{FlatVar}
use Rattle.elab_types.specs.declared.flat_expression.FlatExpr.{FlatExpr}
use Rattle.elab_types.specs.declared.flat_expression.FlatExpr.TheVariants as e
use Rattle.design_tree.specs.declared.typed.Typed.{Typed}
use Rattle.design_tree.specs.declared.typed.Typed.TheVariants as t
use Rattle.source_meaning.specs.Meaning.{Meaning, total_size, fixed_value, fixed_integer, at_least_0}
use Rattle.source_meaning.specs.Joins.{ceil_log2}
use Rattle.scope_meaning.specs.Constants.{is_wrong}
use Rattle.flat_meaning.specs.Expressions.{meaning}
use Rattle.flat_meaning.specs.Faults.{check, all_selects, all_sizes}
use Rattle.flat_meaning.proofs.Meanings as of
use Rattle.typed_form.specs.Nodes.{widened}
use Rattle.typed_form.specs.TypedExpressions.{IsTyped, AreJoined, size}
use Rattle.typed_form.specs.TypedExpressions as typed
use Rattle.elab_constants.specs.declared.fault.ConstantFault.{ConstantFault}
use Rattle.flat_constants.specs.declared.value.FixedValue.{FixedValue}
use Rattle.flat_constants.specs.declared.span.Span.{Span}
use Rattle.flat_constants.specs.declared.span.Span.TheVariants as span
use Rattle.flat_constants.specs.Spans.{IsSpan}
use Rattle.flat_constants.specs.Values.{IsValue, GivesValue}
use Rattle.lower_forms.specs.declared.form.Form.TheVariants as f
use Rattle.lower_forms.specs.declared.sized.SizedForm.{SizedForm}
use Rattle.lower_meaning.specs.Constants.{said, is_right}
use Rattle.lower_meaning.specs.SoundExpressions.{has_some}
use Rattle.lower_meaning.proofs.RightLaws.{right}
use Rattle.lower_nodes.specs.declared.fault.ExpressionFault.{ExpressionFault}
use Rattle.lower_nodes.specs.declared.fault.ExpressionFault.TheVariants.{BadSelect, WidthPast128, NoMemory}
use Rattle.lower_nodes.specs.declared.braces.Parts.{Parts}
use Rattle.lower_nodes.specs.Faults.{both}
use Rattle.lower_nodes.specs.Operators.{Is}
use Rattle.lower_nodes.specs.Joins.{ArePartsOf, Gathers, AreJoinedIn, HaveNoJoin, IsJoining}
use Rattle.lower_nodes.specs.Reads.{Gives, IsForm, Lowers}
use Rattle.lower_nodes.proofs.Flags.{fails, reads, gives_both}
use Rattle.lower_nodes.proofs.Forms.{alone_is}
use Rattle.lower_nodes.proofs.NodeFlags.{repeat_flags}
use Rattle.lower_nodes.proofs.Others.{not_wrong, too_wide, joined_parts, not_joined}
use Rattle.lower_repeats.specs.Repeats.{IsCount, GivesCount, HasCopies, AreRepeatedIn, IsRepeated, IsRepeating}

abbrev pub Reading : Type 0
Reading = Result SizedForm ExpressionFault

-- ---- counts

at_least_1 : (k : ℕ) → 1 ≤ k → int_le (pos 1) (pos k) ≡ true
at_least_1 k h = search (rules)

pub below : (z : ℤ) (s : Span) → s ≡ span.Below1 → IsSpan z s → GivesCount z (Err BadSelect)
below z s i h = let P : Span → Type 0 = IsSpan z in subst P i h

few : (z : ℤ) (k : ℕ) → IsSpan z (span.Bits k) → GivesCount z (Ok k)
few z k h = (
  ap (int_le (pos 1)) h.0 ∙ at_least_1 k h.1,
  refl,
  record { number = k; is = h.0; some = h.1; count = within k h.2 },
)
  where
    within : (k : ℕ) → k ≤ 128 → k ≡ min k 129
    within k h = omega arith

pub some : (z : ℤ) (s : Span) (k : ℕ) → s ≡ span.Bits k → IsSpan z s → GivesCount z (Ok k)
some z s k i h = let P : Span → Type 0 = IsSpan z in few z k (subst P i h)

many_copies : (z : ℤ) → IsSpan z span.Past128 → GivesCount z (Ok 129)
many_copies z h = (
  ap (int_le (pos 1)) h.1 ∙ at_least_1 h.0 (one h.0 h.2),
  refl,
  record { number = h.0; is = h.1; some = one h.0 h.2; count = past h.0 h.2 },
)
  where
    one : (k : ℕ) → 129 ≤ k → 1 ≤ k
    one k h = omega arith

    past : (k : ℕ) → 129 ≤ k → 129 ≡ min k 129
    past k h = omega arith

pub above : (z : ℤ) (s : Span) → s ≡ span.Past128 → IsSpan z s → GivesCount z (Ok 129)
above z s i h = let P : Span → Type 0 = IsSpan z in many_copies z (subst P i h)

-- the value that was read
pub value_of : (m : Meaning) (y : Result FixedValue ConstantFault) (v : FixedValue) → y ≡ Ok v → GivesValue m y → IsValue m v
value_of m y v i h = let P : Result FixedValue ConstantFault → Type 0 = GivesValue m in subst P i h

-- ---- copies

-- copies of what has some bits, from all their bits
pub copies_some : (k size bits : ℕ) (all : Typed) (r : Reading) → bits ≡ k * size → 1 ≤ size → HasCopies k bits all r → IsRepeated k size all r
copies_some k size bits all (Ok form) e l h =
    (subst (λ n. n ≤ 128) e h.0, subst (λ n. Is n false (f.Alone n (t.Repeat k all)) form) e h.1)
copies_some k size bits all (Err NoMemory) e l h = tt
copies_some k size bits all (Err BadSelect) e l h = absurd h
copies_some k size bits all (Err WidthPast128) e l (inl none) = inl (no_copies k size l (sym e ∙ none))
  where
    no_copies : (k size : ℕ) → 1 ≤ size → k * size ≡ 0 → k ≡ 0
    no_copies k size l h = let least = mul-le-mul_left k l in omega (arith, least, h)
copies_some k size bits all (Err WidthPast128) e l (inr wide) = inr (subst (λ n. 129 ≤ n) e wide)

not_below : (n : ℕ) → (n < 2 ^ 8 → ⊥) → 129 ≤ n
not_below n h = by_case (cases_lt n 129)
  where
    by_case : (n < 129) ⊎ (129 ≤ n) → 129 ≤ n
    by_case (inl l) = absurd (h (omega arith))
    by_case (inr w) = w

pub copies_none : (k size : ℕ) (all : Typed) → (k * size < 2 ^ 8 → ⊥) → IsRepeated k size all (Err WidthPast128)
copies_none k size all h = inr (not_below (k * size) h)

-- so many copies of parts, from the parts beside one another
pub repeating_ok : (k : ℕ) (parts : Parts) (size : ℕ) (all : Typed) (r : Reading) → AreJoinedIn parts size all → IsRepeated k size all r
    → IsRepeating k parts r
repeating_ok k parts size all (Ok form) j h = record { size = size; all = all; joined = j; few = h.0; is = h.1 }
repeating_ok k parts size all (Err NoMemory) j h = tt
repeating_ok k parts size all (Err BadSelect) j h = absurd h
repeating_ok k parts size all (Err WidthPast128) j (inl none) = inr (inl none)
repeating_ok k parts size all (Err WidthPast128) j (inr wide) = inr (inr (subst (λ z. 129 ≤ k * z) j.size wide))

pub repeating_err : (k : ℕ) (parts : Parts) (f : ExpressionFault) → IsJoining parts (Err f) → IsRepeating k parts (Err f)
repeating_err k parts NoMemory h = tt
repeating_err k parts BadSelect h = absurd h
repeating_err k parts WidthPast128 h = inl h

module _ (vars : List FlatVar) where
  -- the form of `$clog2`
  pub logarithm_form : (a : FlatExpr) (n : ℕ) (y : SizedForm) → is_wrong (said (e.Call call.CeilLog2 a)).wrong ≡ false
      → n ≡ fixed_value (meaning vars (e.Call call.CeilLog2 a)) → Is 32 true (f.Alone 32 (t.Number 32 n)) y → Lowers vars (e.Call call.CeilLog2 a) (Ok y)
  logarithm_form a n y w h is =
      let r = right vars (e.Call call.CeilLog2 a) w in
      let value : n ≡ ceil_log2 (fixed_value (meaning vars a)) = h ∙ ap fixed_value (of.of-Call vars call.CeilLog2 a) in (
        r.selects,
        r.sizes,
        alone_is vars (e.Call call.CeilLog2 a) 32 true (t.Number 32 n) y is (sym (ap (λ m. m.size) (of.of-Call vars call.CeilLog2 a)))
            (sym (ap (λ m. m.signed) (of.of-Call vars call.CeilLog2 a)))
            (λ m b. subst (λ z. IsTyped vars (e.Call call.CeilLog2 a) m b (widened 32 m b (t.Number 32 z))) (sym value) (typed.logarithm a)),
      )

  -- from the value of the call
  pub logarithm_value : (a : FlatExpr) (x : Result FixedValue ConstantFault) (v : FixedValue) (y : SizedForm) → x ≡ Ok v
      → is_right (e.Call call.CeilLog2 a) ≡ true → GivesValue (meaning vars (e.Call call.CeilLog2 a)) x
      → Is 32 true (f.Alone 32 (t.Number 32 v.value.bits)) y → Lowers vars (e.Call call.CeilLog2 a) (Ok y)
  logarithm_value a x v y i h k is =
      let Q : Result FixedValue ConstantFault → Type 0 = GivesValue (meaning vars (e.Call call.CeilLog2 a)) in
      let g = subst Q i k in
      logarithm_form a v.value.bits y (not_wrong (is_wrong (said (e.Call call.CeilLog2 a)).wrong) h) g.number is

  -- ---- replications

  repeat_size : (n : FlatExpr) (ps : List FlatExpr) (k : ℕ) → fixed_integer (meaning vars n) ≡ pos k
      → k * total_size (map (meaning vars) ps) ≡ size vars (e.Repeat n ps)
  repeat_size n ps k h =
      ap (λ z. at_least_0 z * total_size (map (meaning vars) ps)) (sym h) ∙ sym (ap (λ m. m.size) (of.of-Repeat vars n ps))

  -- a count that is small enough is the number
  exact : (m k size : ℕ) → k ≡ min m 129 → k * size ≤ 128 → 1 ≤ size → m ≡ k
  exact m k size e h l = let few : k ≤ 128 = less k size h l in omega (arith, e, few)
    where
      less : (k size : ℕ) → k * size ≤ 128 → 1 ≤ size → k ≤ 128
      less k size h l = let least = mul-le-mul_left k l in omega (arith, least, h)

  repeat_typed : (n : FlatExpr) (ps : List FlatExpr) (k w m : ℕ) (b : Bool) (all : Typed) → fixed_integer (meaning vars n) ≡ pos k → 1 ≤ k
      → w ≡ size vars (e.Repeat n ps) → AreJoined vars ps all → IsTyped vars (e.Repeat n ps) m b (widened w m b (t.Repeat k all))
  repeat_typed n ps zero w m b all h some width j = absurd (none some)
    where
      none : 1 ≤ 0 → ⊥
      none q = omega arith
  repeat_typed n ps (suc k) w m b all h some width j =
      subst (λ z. IsTyped vars (e.Repeat n ps) m b (widened z m b (t.Repeat (suc k) all))) (sym width) (typed.repeat n h j)

  abbrev IsCounted : FlatExpr → List FlatExpr → ℕ × Parts → Type 0
  IsCounted n ps p = IsCount (fixed_integer (meaning vars n)) p.0 × ArePartsOf vars ps p.1

  abbrev Counted : FlatExpr → List FlatExpr → Result (ℕ × Parts) ExpressionFault → Type 0
  Counted n ps = Gives (int_le (pos 1) (fixed_integer (meaning vars n)) && all_selects (map (check vars) ps)) (true && all_sizes (map (check vars) ps))
      (IsCounted n ps)

  pub counted : (n : FlatExpr) (ps : List FlatExpr) (x : Result ℕ ExpressionFault) (y : Result Parts ExpressionFault)
      (all z : Result (ℕ × Parts) ExpressionFault)
      → all ≡ both x y → all ≡ z → Gives (int_le (pos 1) (fixed_integer (meaning vars n))) true (IsCount (fixed_integer (meaning vars n))) x
      → Gathers vars ps y → Counted n ps z
  counted n ps x y all z i j h k =
      subst (Counted n ps) (sym i ∙ j)
      (gives_both (IsCount (fixed_integer (meaning vars n))) (ArePartsOf vars ps) (int_le (pos 1) (fixed_integer (meaning vars n))) true
      (all_selects (map (check vars) ps)) (all_sizes (map (check vars) ps)) x y h k)

  repeat_form : (n : FlatExpr) (ps : List FlatExpr) (k : ℕ) (parts : Parts) (y : SizedForm) → IsCount (fixed_integer (meaning vars n)) k
      → ArePartsOf vars ps parts → AreRepeatedIn k parts y → IsForm vars (e.Repeat n ps) y
  repeat_form n ps k parts y c a r =
      let both = joined_parts vars ps parts r.size r.all a r.joined in
      let some : 1 ≤ r.size = subst (λ z. 1 ≤ z) (sym r.joined.size) r.joined.some in
      let number : c.number ≡ k = exact c.number k r.size c.count r.few some in
      let is : fixed_integer (meaning vars n) ≡ pos k = c.is ∙ ap pos number in
      let width : k * r.size ≡ size vars (e.Repeat n ps) = ap (λ z. k * z) both.1 ∙ repeat_size n ps k is in
      alone_is vars (e.Repeat n ps) (k * r.size) false (t.Repeat k r.all) y r.is width (sym (ap (λ m. m.signed) (of.of-Repeat vars n ps)))
      (λ m b. repeat_typed n ps k (k * r.size) m b r.all is (subst (λ z. 1 ≤ z) number c.some) width both.0)

  -- what can't be repeated is too wide
  many : (n : FlatExpr) (ps : List FlatExpr) (k : ℕ) (parts : Parts) → has_some ps ≡ true → IsCount (fixed_integer (meaning vars n)) k
      → ArePartsOf vars ps parts → HaveNoJoin parts ⊎ ((k ≡ 0) ⊎ (129 ≤ k * parts.size)) → 129 ≤ size vars (e.Repeat n ps)
  many n ps k parts h c a (inl p) =
      let total = total_size (map (meaning vars) ps) in
      let least = mul-le-mul_right total c.some in
      subst (λ z. 129 ≤ z) (repeat_size n ps c.number c.is) (omega (arith, least, not_joined vars ps parts h a p))
  many n ps k parts h c a (inr (inl none)) = let count = c.count in let some = c.some in omega (arith, count, some, none)
  many n ps k parts h c a (inr (inr wide)) =
      let total = total_size (map (meaning vars) ps) in
      let fewer : k ≤ c.number = omega (arith, c.count) in
      let shorter : parts.size ≤ total = omega (arith, a.size) in
      let one = mul-le-mul_right parts.size fewer in
      let two = mul-le-mul_left c.number shorter in
      subst (λ z. 129 ≤ z) (repeat_size n ps c.number c.is) (omega (arith, wide, one, two))

  pub repeat_reads : (n : FlatExpr) (ps : List FlatExpr) (p : ℕ × Parts) (r : Result SizedForm ExpressionFault) → is_wrong (said n).wrong ≡ false
      → has_some ps ≡ true → Counted n ps (Ok p) → IsRepeating p.0 p.1 r → Lowers vars (e.Repeat n ps) r
  repeat_reads n ps p (Ok y) w h c k =
      reads vars (IsCounted n ps) (e.Repeat n ps) (int_le (pos 1) (fixed_integer (meaning vars n)) && all_selects (map (check vars) ps))
      (true && all_sizes (map (check vars) ps)) p y (repeat_flags vars n ps w) c (repeat_form n ps p.0 p.1 y c.2.0 c.2.1 k)
  repeat_reads n ps p (Err NoMemory) w h c k = tt
  repeat_reads n ps p (Err BadSelect) w h c k = absurd k
  repeat_reads n ps p (Err WidthPast128) w h c k =
      too_wide vars (IsCounted n ps) (e.Repeat n ps) (int_le (pos 1) (fixed_integer (meaning vars n)) && all_selects (map (check vars) ps))
      (true && all_sizes (map (check vars) ps)) p (repeat_flags vars n ps w) c (many n ps p.0 p.1 h c.2.0 c.2.1 k)

  pub repeat_fails : (n : FlatExpr) (ps : List FlatExpr) (g : ExpressionFault) → is_wrong (said n).wrong ≡ false → Counted n ps (Err g)
      → Lowers vars (e.Repeat n ps) (Err g)
  repeat_fails n ps g w c =
      fails vars (IsCounted n ps) (IsForm vars (e.Repeat n ps)) (e.Repeat n ps)
      (int_le (pos 1) (fixed_integer (meaning vars n)) && all_selects (map (check vars) ps))
      (true && all_sizes (map (check vars) ps)) g (repeat_flags vars n ps w) c

  pub repeat_gives : (n : FlatExpr) (ps : List FlatExpr) (x : Result ℕ ExpressionFault) (y : Result Parts ExpressionFault)
      (all : Result (ℕ × Parts) ExpressionFault) (p : ℕ × Parts) (r : Reading) → all ≡ both x y → all ≡ Ok p → is_right n ≡ true → has_some ps ≡ true
      → Gives (int_le (pos 1) (fixed_integer (meaning vars n))) true (IsCount (fixed_integer (meaning vars n))) x → Gathers vars ps y
      → IsRepeating p.0 p.1 r → Lowers vars (e.Repeat n ps) r
  repeat_gives n ps x y all p r i j w h k g l =
      repeat_reads n ps p r (not_wrong (is_wrong (said n).wrong) w) h (counted n ps x y all (Ok p) i j k g) l

  pub repeat_lacks : (n : FlatExpr) (ps : List FlatExpr) (x : Result ℕ ExpressionFault) (y : Result Parts ExpressionFault)
      (all : Result (ℕ × Parts) ExpressionFault) (f : ExpressionFault) → all ≡ both x y → all ≡ Err f → is_right n ≡ true
      → Gives (int_le (pos 1) (fixed_integer (meaning vars n))) true (IsCount (fixed_integer (meaning vars n))) x → Gathers vars ps y
      → Lowers vars (e.Repeat n ps) (Err f)
  repeat_lacks n ps x y all f i j w k g =
      repeat_fails n ps f (not_wrong (is_wrong (said n).wrong) w) (counted n ps x y all (Err f) i j k g)
