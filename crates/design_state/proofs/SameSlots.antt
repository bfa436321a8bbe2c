-- States of one shape have their words at the same places.
use Rattle.std.proofs.Common.{◌≡◌, ◌∙◌, sym, ap, subst, refl, ℕ, suc, ◌+◌, List, [], ◌∷◌, length, drop, arith}
use Rattle.std.proofs.lemmas.List.{length-drop, length-take-le}
use Rattle.circuit_run.specs.States.{State}
use Rattle.design_state.specs.declared.state.Slot.{Slot}
use Rattle.design_state.specs.Layout.{split, AreLaid}
use Rattle.design_state.specs.Shapes.{HaveOneShape}

same_slot : (a b : Slot) → a.base ≡ b.base → a.count ≡ b.count → a.width ≡ b.width → a ≡ b
same_slot a b e f g =
    let with_base : ℕ → Slot = λ n. record { base = n; count = a.count; width = a.width } in
    let with_count : ℕ → Slot = λ n. record { base = b.base; count = n; width = a.width } in
    let with_width : ℕ → Slot = λ n. record { base = b.base; count = b.count; width = n } in
    ap with_base e ∙ ap with_count f ∙ ap with_width g

module _ (base : ℕ) (a b : Slot) (xs ys : List Slot) (us ws : List ℕ) (h : AreLaid base (a ∷ xs) us) (k : AreLaid base (b ∷ ys) ws)
    (shape : HaveOneShape (split (a ∷ xs) us) (split (b ∷ ys) ws)) where
  same_count : a.count ≡ b.count
  same_count = sym (length-take-le a.count us h.0.enough) ∙ shape.words 0 (omega arith) ∙ length-take-le b.count ws k.0.enough

  others : HaveOneShape (split xs (drop a.count us)) (split ys (drop b.count ws))
  others = record {
    variables = omega (arith, shape.variables);
    widths = λ v lt. shape.widths (suc v) (omega (arith, lt));
    words = λ v lt. shape.words (suc v) (omega (arith, lt));
  }

  first_and_rest : (xs ≡ ys) × (length (drop a.count us) ≡ length (drop b.count ws)) → (a ∷ xs ≡ b ∷ ys) × (length us ≡ length ws)
  first_and_rest rest = (
    ap (λ s. s ∷ xs) (same_slot a b (h.0.begins ∙ sym k.0.begins) same_count (shape.widths 0 (omega arith))) ∙ ap (λ l. b ∷ l) rest.0,
    omega (arith, rest.1, same_count, h.0.enough, k.0.enough, length-drop a.count us, length-drop b.count ws),
  )

-- the slots are the same, and there are as many words
pub same_slots : (base : ℕ) (xs ys : List Slot) (us ws : List ℕ) → AreLaid base xs us → AreLaid base ys ws → HaveOneShape (split xs us) (split ys ws)
    → (xs ≡ ys) × (length us ≡ length ws)
same_slots base [] [] us ws h k shape = (refl, ap length (h ∙ sym k))
same_slots base [] (b ∷ ys) us ws h k shape = absurd (omega (arith, shape.variables))
same_slots base (a ∷ xs) [] us ws h k shape = absurd (omega (arith, shape.variables))
same_slots base (a ∷ xs) (b ∷ ys) us ws h k shape = first_and_rest base a b xs ys us ws h k shape
    (same_slots (base + a.count) xs ys (drop a.count us) (drop b.count ws) h.1
    (subst (λ n. AreLaid (base + n) ys (drop b.count ws)) (sym (same_count base a b xs ys us ws h k shape)) k.1) (others base a b xs ys us ws h k shape))

-- the same of two lists by the states that they are
pub same_places : (xs ys : List Slot) (us ws : List ℕ) (s t : State) → AreLaid 0 xs us → AreLaid 0 ys ws → split xs us ≡ s → split ys ws ≡ t
    → HaveOneShape s t → (xs ≡ ys) × (length us ≡ length ws)
same_places xs ys us ws s t h k e f shape = same_slots 0 xs ys us ws h k
    (subst (HaveOneShape (split xs us)) (sym f) (subst (λ s. HaveOneShape s t) (sym e) shape))
