-- Numbers, calls, parts in braces and replications.
use Rattle.std.proofs.Common.{◌≡◌, ◌∙◌, sym, ap, ap₂, refl, subst, ℕ, zero, suc, ◌+◌, ◌*◌, ◌≤◌, ◌<◌, ◌⊎◌, inl, inr, min, Bool, true, false, not, ◌&&◌}
use Rattle.std.proofs.Common.{List, [], ◌∷◌, ◌++◌, map, length, Result, Ok, Err, arith, pos, int_le}
use Rattle.std.specs.Prelude.{nat_le, nat_lt, ◌^◌}
use Rattle.std.specs.List.{AllZip, list_all}
use Rattle.std.proofs.lemmas.List.{map-append, length-append}
use Rattle.design_meaning.proofs.ListLaws.{all_append}
use Rattle.elab_constants.proofs.Joins.{total_more}
use Rattle.vlog_tree.specs.declared.operator.SystemCall.{SystemCall}
use Rattle.vlog_tree.specs.declared.operator.SystemCall.TheVariants as call
use Rattle.elab_types.specs.declared.flat_source.FlatVar.{FlatVar}
use Rattle.elab_types.specs.declared.flat_expression.FlatExpr.{FlatExpr}
use Rattle.elab_types.specs.declared.flat_expression.FlatExpr.TheVariants as e
use Rattle.design_tree.specs.declared.typed.Typed.{Typed}
use Rattle.design_tree.specs.declared.typed.Typed.TheVariants as t
use Rattle.source_meaning.specs.Meaning.{total_size}
use Rattle.flat_meaning.specs.Expressions.{meaning}
use Rattle.flat_meaning.specs.Faults.{Checked, check, all_selects, all_sizes}
use Rattle.flat_meaning.proofs.Meanings as of
use Rattle.typed_form.specs.Nodes.{widened}
use Rattle.typed_form.specs.TypedExpressions.{IsTyped, IsTypedAlone, AreJoined, last, more, size, signed}
use Rattle.typed_form.specs.TypedExpressions as typed
use Rattle.lower_forms.specs.declared.form.Form.TheVariants as f
use Rattle.lower_forms.specs.declared.sized.SizedForm.{SizedForm}
use Rattle.lower_meaning.specs.SoundExpressions.{has_some, is_sound_number}
use Rattle.lower_meaning.proofs.CheckMeans.{check_means}
use Rattle.lower_nodes.specs.declared.fault.ExpressionFault.{ExpressionFault}
use Rattle.lower_nodes.specs.declared.fault.ExpressionFault.TheVariants.{BadSelect, WidthPast128, NoMemory}
use Rattle.lower_nodes.specs.declared.braces.Parts.{Parts}
use Rattle.lower_nodes.specs.Faults.{both}
use Rattle.lower_nodes.specs.Operators.{own, Is, IsSigned, sign_call}
use Rattle.lower_nodes.specs.Joins.{sum, joined_onto, IsWith, ArePartsOf, Gathers, AreJoinedIn, HaveNoJoin}
use Rattle.lower_nodes.specs.Reads.{Gives, IsForm, Lowers}
use Rattle.lower_nodes.proofs.Flags.{Flags, fails, reads, right_false, and_true, gives_both, other_fault}
use Rattle.lower_nodes.proofs.Forms.{alone_is, own_typed}
use Rattle.lower_nodes.proofs.NodeFlags.{number_flags, join_flags}

no : {A : Type 0} → false ≡ true → A
no e = cc

pub not_wrong : (b : Bool) → not b ≡ true → b ≡ false
not_wrong true h = sym h
not_wrong false h = refl

above : (n : ℕ) → 129 ≤ n → nat_le n 128 ≡ false
above n h = grind (arith)

one_more : (w : ℕ) (b : Bool) → w ≡ 0 → (nat_le 1 w && b) ≡ true → false ≡ true
one_more zero b e h = h
one_more (suc w) b e h = absurd (above_none w e)
  where
    above_none : (w : ℕ) → suc w ≡ 0 → ⊥
    above_none w e = omega arith

-- a number has at least one bit
pub no_number : {A : Type 0} (w n : ℕ) → w ≡ 0 → is_sound_number w n ≡ true → A
no_number w n e h = no (one_more w (nat_lt n (2 ^ w)) e h)

module _ (vars : List FlatVar) where
  -- a size past 128 is refused where nothing is refused inside
  pub too_wide : {A : Type 0} (P : A → Type 0) (a : FlatExpr) (s z : Bool) (x : A) → Flags vars a s z → Gives s z P (Ok x) → 129 ≤ size vars a
      → Lowers vars a (Err WidthPast128)
  too_wide P a s z x g h k =
      let wide : nat_le (check vars a).meaning.size 128 ≡ false = ap (λ m. nat_le m.size 128) (check_means vars a) ∙ above (size vars a) k in
      (g.selects ∙ h.0, g.sizes ∙ right_false z (nat_le (check vars a).meaning.size 128) wide)

  -- ---- numbers and calls

  pub number_wide : (w : ℕ) (sg : Bool) (n free : ℕ) → 129 ≤ w → Lowers vars (e.Number w sg n free) (Err WidthPast128)
  number_wide w sg n free h =
      too_wide (λ (u : Unit {0}). Unit {0}) (e.Number w sg n free) true true tt (number_flags vars w sg n free) (refl, refl, tt)
      (subst (λ z. 129 ≤ z) (sym (ap (λ m. m.size) (of.of-Number vars w sg n free))) h)

  pub number_form : (w : ℕ) (sg : Bool) (n free : ℕ) (x : SizedForm) → Is w sg (f.Alone w (t.Number w n)) x → Lowers vars (e.Number w sg n free) (Ok x)
  number_form w sg n free x is =
      reads vars (λ (u : Unit {0}). Unit {0}) (e.Number w sg n free) true true tt x (number_flags vars w sg n free) (refl, refl, tt)
      (alone_is vars (e.Number w sg n free) w sg (t.Number w n) x is (sym (ap (λ m. m.size) (of.of-Number vars w sg n free)))
      (sym (ap (λ m. m.signed) (of.of-Number vars w sg n free))) (λ m b. typed.number))

  signed_typed : (s : Bool) (a : FlatExpr) (n m : ℕ) (b : Bool) (x : Typed) → n ≡ size vars a → IsTypedAlone vars a x
      → IsTyped vars (e.Call (sign_call s) a) m b (widened n m b x)
  signed_typed true a n m b x h k = subst (λ z. IsTyped vars (e.Call call.Signed a) m b (widened z m b x)) (sym h) (typed.as_signed k)
  signed_typed false a n m b x h k = subst (λ z. IsTyped vars (e.Call call.Unsigned a) m b (widened z m b x)) (sym h) (typed.as_unsigned k)

  size_of_sign : (s : Bool) (a : FlatExpr) → size vars a ≡ size vars (e.Call (sign_call s) a)
  size_of_sign true a = sym (ap (λ m. m.size) (of.of-Call vars call.Signed a))
  size_of_sign false a = sym (ap (λ m. m.size) (of.of-Call vars call.Unsigned a))

  sign_of_sign : (s : Bool) (a : FlatExpr) → s ≡ signed vars (e.Call (sign_call s) a)
  sign_of_sign true a = sym (ap (λ m. m.signed) (of.of-Call vars call.Signed a))
  sign_of_sign false a = sym (ap (λ m. m.signed) (of.of-Call vars call.Unsigned a))

  -- the form of `$signed` and `$unsigned`
  pub signed_form : (s : Bool) (a : FlatExpr) (x y : SizedForm) → IsForm vars a x → IsSigned s x y → IsForm vars (e.Call (sign_call s) a) y
  signed_form s a x y k is =
      alone_is vars (e.Call (sign_call s) a) x.size s (own x) y is (k.size ∙ size_of_sign s a) (sign_of_sign s a)
      (λ m b. signed_typed s a x.size m b (own x) k.size (own_typed vars a x k))

  -- ---- parts in braces

  joins : (before : List Typed) (final : Typed) (ps : List FlatExpr) → AllZip (IsTypedAlone vars) ps (before ++ final ∷ [])
      → AreJoined vars ps (joined_onto before final)
  joins [] final [] h = absurd h
  joins [] final (p ∷ []) h = last h.0
  joins [] final (p ∷ q ∷ ps) h = absurd h.1
  joins (a ∷ before) final [] h = absurd h
  joins (a ∷ before) final (p ∷ []) h = absurd (no_more before final h.1)
    where
      no_more : (before : List Typed) (final : Typed) → AllZip (IsTypedAlone vars) [] (before ++ final ∷ []) → ⊥
      no_more [] final k = k
      no_more (b ∷ before) final k = k
  joins (a ∷ before) final (p ∷ q ∷ ps) h = more h.0 (joins before final (q ∷ ps) h.1)

  -- parts in braces, from their typed forms
  pub joined_parts : (ps : List FlatExpr) (parts : Parts) (n : ℕ) (all : Typed) → ArePartsOf vars ps parts → AreJoinedIn parts n all
      → AreJoined vars ps all × (n ≡ total_size (map (meaning vars) ps))
  joined_parts ps parts n all k j =
      let total = total_size (map (meaning vars) ps) in (
        subst (AreJoined vars ps) (sym j.whole) (joins j.before j.last ps (subst (AllZip (IsTypedAlone vars) ps) j.typed k.typed)),
        omega (arith, j.size, k.size, j.few),
      )

  some_parts : (ps : List FlatExpr) → has_some ps ≡ true → 1 ≤ length ps
  some_parts [] h = no h
  some_parts (p ∷ ps) h = omega arith

  no_parts : (ps : List FlatExpr) (ts : List Typed) → has_some ps ≡ true → AllZip (IsTypedAlone vars) ps ts → ts ≡ [] → ⊥
  no_parts [] ts h k e = no h
  no_parts (p ∷ ps) ts h k e = subst (AllZip (IsTypedAlone vars) (p ∷ ps)) e k

  -- where they can't be joined they are too wide
  pub not_joined : (ps : List FlatExpr) (parts : Parts) → has_some ps ≡ true → ArePartsOf vars ps parts → HaveNoJoin parts
      → 129 ≤ total_size (map (meaning vars) ps)
  not_joined ps parts h k (inl wide) = omega (arith, k.size, wide)
  not_joined ps parts h k (inr (inl none)) = let some = some_parts ps h in omega (arith, k.size, k.least, none, some)
  not_joined ps parts h k (inr (inr none)) = absurd (no_parts ps parts.typed h k.typed none)

  join_size : (ps : List FlatExpr) → total_size (map (meaning vars) ps) ≡ size vars (e.Join ps)
  join_size ps = sym (ap (λ m. m.size) (of.of-Join vars ps))

  -- the form of parts in braces
  pub join_reads : (ps : List FlatExpr) (parts : Parts) (n : ℕ) (all : Typed) (y : SizedForm) → Gathers vars ps (Ok parts) → AreJoinedIn parts n all
      → Is n false (f.Alone n all) y → Lowers vars (e.Join ps) (Ok y)
  join_reads ps parts n all y g j is =
      let both = joined_parts ps parts n all g.2 j in
      let fits = both.1 ∙ join_size ps in
      reads vars (ArePartsOf vars ps) (e.Join ps) (all_selects (map (check vars) ps)) (all_sizes (map (check vars) ps)) parts y (join_flags vars ps) g
      (alone_is vars (e.Join ps) n false all y is fits (sym (ap (λ m. m.signed) (of.of-Join vars ps)))
      (λ m b. subst (λ z. IsTyped vars (e.Join ps) m b (widened z m b all)) (sym fits) (typed.join both.0)))

  pub join_wide : (ps : List FlatExpr) (parts : Parts) → has_some ps ≡ true → Gathers vars ps (Ok parts) → HaveNoJoin parts
      → Lowers vars (e.Join ps) (Err WidthPast128)
  join_wide ps parts h g k =
      too_wide (ArePartsOf vars ps) (e.Join ps) (all_selects (map (check vars) ps)) (all_sizes (map (check vars) ps)) parts (join_flags vars ps) g
      (subst (λ z. 129 ≤ z) (join_size ps) (not_joined ps parts h g.2 k))

  -- ---- one part more

  zip_more : (ps : List FlatExpr) (ts : List Typed) (p : FlatExpr) (u : Typed) → AllZip (IsTypedAlone vars) ps ts → IsTypedAlone vars p u
      → AllZip (IsTypedAlone vars) (ps ++ p ∷ []) (ts ++ u ∷ [])
  zip_more [] [] p u h k = (k, h)
  zip_more [] (t ∷ ts) p u h k = absurd h
  zip_more (q ∷ ps) [] p u h k = absurd h
  zip_more (q ∷ ps) (t ∷ ts) p u h k = (h.0, zip_more ps ts p u h.1 k)

  sum_is : (t s : ℕ) → sum (min t 129) s ≡ min (t + s) 129
  sum_is t s = grind (arith)

  total_of_more : (ps : List FlatExpr) (p : FlatExpr) → total_size (map (meaning vars) (ps ++ p ∷ [])) ≡ total_size (map (meaning vars) ps) + size vars p
  total_of_more ps p = ap total_size (map-append (meaning vars) ps (p ∷ [])) ∙ total_more (map (meaning vars) ps) (meaning vars p)

  parts_more : (ps : List FlatExpr) (p : FlatExpr) (before after : Parts) (x : SizedForm) → ArePartsOf vars ps before → IsForm vars p x
      → IsWith before x after
      → ArePartsOf vars (ps ++ p ∷ []) after
  parts_more ps p before after x k j w =
      let more = total_of_more ps p in
      record {
        typed = subst (AllZip (IsTypedAlone vars) (ps ++ p ∷ [])) (sym w.typed) (zip_more ps before.typed p (own x) k.typed (own_typed vars p x j));
        size = w.size ∙ ap₂ sum k.size j.size ∙ sum_is (total_size (map (meaning vars) ps)) (size vars p) ∙ ap (λ z. min z 129) (sym more);
        least = let l = length-append ps (p ∷ []) in omega (arith, more, l, k.least, j.size, x.at_least);
      }

  all_more : (g : Checked → Bool) (ps : List FlatExpr) (p : FlatExpr)
      → (list_all g (map (check vars) ps) && g (check vars p)) ≡ list_all g (map (check vars) (ps ++ p ∷ []))
  all_more g ps p =
      ap (λ z. list_all g (map (check vars) ps) && z) (sym (and_true (g (check vars p))))
      ∙ sym (ap (list_all g) (map-append (check vars) ps (p ∷ [])) ∙ all_append g (map (check vars) ps) (check vars p ∷ []))

  abbrev ArePart : List FlatExpr → FlatExpr → Parts × SizedForm → Type 0
  ArePart ps p q = ArePartsOf vars ps q.0 × IsForm vars p q.1

  gathered : (ps : List FlatExpr) (p : FlatExpr) (x : Result Parts ExpressionFault) (y : Result SizedForm ExpressionFault)
      (all z : Result (Parts × SizedForm) ExpressionFault) → all ≡ both x y → all ≡ z → Gathers vars ps x → Lowers vars p y
      → Gives (all_selects (map (check vars) (ps ++ p ∷ []))) (all_sizes (map (check vars) (ps ++ p ∷ []))) (ArePart ps p) z
  gathered ps p x y all z i j h k =
      subst (λ s. Gives s (all_sizes (map (check vars) (ps ++ p ∷ []))) (ArePart ps p) z) (all_more (λ c. c.selects) ps p)
      (subst (λ w. Gives (all_selects (map (check vars) ps) && (check vars p).selects) w (ArePart ps p) z) (all_more (λ c. c.sizes) ps p)
      (subst (Gives (all_selects (map (check vars) ps) && (check vars p).selects) (all_sizes (map (check vars) ps) && (check vars p).sizes) (ArePart ps p))
      (sym i ∙ j)
      (gives_both (ArePartsOf vars ps) (IsForm vars p) (all_selects (map (check vars) ps)) (all_sizes (map (check vars) ps)) (check vars p).selects
      (check vars p).sizes x y h k)))

  pub gather_fails : (ps : List FlatExpr) (p : FlatExpr) (x : Result Parts ExpressionFault) (y : Result SizedForm ExpressionFault)
      (all : Result (Parts × SizedForm) ExpressionFault) (f : ExpressionFault) → all ≡ both x y → all ≡ Err f → Gathers vars ps x → Lowers vars p y
      → Gathers vars (ps ++ p ∷ []) (Err f)
  gather_fails ps p x y all f i j h k =
      other_fault (ArePart ps p) (ArePartsOf vars (ps ++ p ∷ [])) (all_selects (map (check vars) (ps ++ p ∷ [])))
      (all_sizes (map (check vars) (ps ++ p ∷ []))) f
      (gathered ps p x y all (Err f) i j h k)

  pub gather_reads : (ps : List FlatExpr) (p : FlatExpr) (x : Result Parts ExpressionFault) (y : Result SizedForm ExpressionFault)
      (all : Result (Parts × SizedForm) ExpressionFault) (q : Parts × SizedForm) (after : Parts) → all ≡ both x y → all ≡ Ok q → Gathers vars ps x
      → Lowers vars p y
      → IsWith q.0 q.1 after → Gathers vars (ps ++ p ∷ []) (Ok after)
  gather_reads ps p x y all q after i j h k w =
      let g = gathered ps p x y all (Ok q) i j h k in
      (g.0, g.1, parts_more ps p q.0 after q.1 g.2.0 g.2.1 w)
