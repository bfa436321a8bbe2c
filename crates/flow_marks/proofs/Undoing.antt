-- Putting back what is on the trail.
use Rattle.std.proofs.Common.{◌≡◌, ◌∙◌, sym, ap, subst, refl, arith, ℕ, ◌<◌, ◌≤◌, Bool, true, false, ◌||◌, List, [], ◌∷◌, ◌++◌, length, get_or, take, drop}
use Rattle.std.proofs.lemmas.List.{drop-append-le, take-append-le, length_push, drop_all, take_all, get_or_append_left}
use Rattle.circuit_run.specs.States.{Bit}
use Rattle.flow_marks.specs.declared.slot.Slot.{Slot}
use Rattle.flow_marks.specs.declared.trail.Spot.{Spot}
use Rattle.flow_marks.specs.Slots.{IsIn, is_same}
use Rattle.flow_marks.specs.Sets.{MarkSet, has}
use Rattle.flow_marks.specs.Takes.{spot_bit, is_listed, AreIn}
use Rattle.flow_marks.proofs.Taking.{listed_append}

pub record Undoing (old now : MarkSet) (trail left : List Spot) (from : ℕ) : Type 0 where
  pub slots : now.slots ≡ old.slots
  pub room : from ≤ length left
  pub inside : AreIn old.slots left
  pub front : take from left ≡ take from trail
  pub bits : (b : Bit) → IsIn old.slots b → (is_listed (drop from left) b || has now b) ≡ (is_listed (drop from trail) b || has old b)

pub undo_start : (m : MarkSet) (trail : List Spot) (from : ℕ) → AreIn m.slots trail → from ≤ length trail → Undoing m m trail trail from
undo_start m trail from h l = record { slots = refl; room = l; inside = h; front = refl; bits = λ b i. refl }

either : (a b c : Bool) → ((a || (b || false)) || c) ≡ (a || (b || c))
either true b c = refl
either false true c = refl
either false false c = refl

pub undo_one : (old now next : MarkSet) (trail left rest : List Spot) (x : Spot) (from : ℕ) → Undoing old now trail left from → left ≡ rest ++ x ∷ []
    → from < length left
    → next.slots ≡ now.slots → ((b : Bit) → IsIn now.slots b → has next b ≡ (is_same (spot_bit x) b || has now b)) → Undoing old next trail rest from
undo_one old now next trail left rest x from u e l k h =
    let n : from ≤ length rest = omega (arith, ap length e, length_push rest x) in
    let i : AreIn old.slots (rest ++ x ∷ []) = subst (λ z. AreIn old.slots z) e u.inside in
    record {
      slots = k ∙ u.slots;
      room = n;
      inside = λ j d m. subst (λ z. IsIn old.slots (spot_bit z)) (get_or_append_left rest (x ∷ []) d j m) (i j d (omega (arith, length_push rest x)));
      front = sym (take-append-le from rest (x ∷ []) n) ∙ (ap (λ z. take from z) (sym e) ∙ u.front);
      bits = λ b g.
          ap (λ r. is_listed (drop from rest) b || r) (h b (subst (λ (z : List Slot). IsIn z b) (sym u.slots) g))
          ∙ sym (either (is_listed (drop from rest) b) (is_same (spot_bit x) b) (has now b))
          ∙ ap (λ r. r || has now b) (sym (listed_append (drop from rest) (x ∷ []) b))
          ∙ ap (λ z. is_listed z b || has now b) (sym (drop-append-le from rest (x ∷ []) n) ∙ ap (λ z. drop from z) (sym e))
          ∙ u.bits b g;
    }

pub undo_bits : (old now : MarkSet) (trail left : List Spot) (from : ℕ) → Undoing old now trail left from → length left ≤ from
    → (b : Bit) → IsIn old.slots b → has now b ≡ (is_listed (drop from trail) b || has old b)
undo_bits old now trail left from u l b h = ap (λ z. is_listed z b || has now b) (sym (drop_all from left l)) ∙ u.bits b h

pub undo_trail : (old now : MarkSet) (trail left : List Spot) (from : ℕ) → Undoing old now trail left from → length left ≤ from → left ≡ take from trail
undo_trail old now trail left from u l = sym (take_all from left l) ∙ u.front

-- the bit on top of the trail
pub undo_top : (old now : MarkSet) (trail left : List Spot) (from n : ℕ) (x : Spot) → Undoing old now trail left from → n < length left
    → x ≡ get_or left n x → IsIn now.slots (spot_bit x)
undo_top old now trail left from n x u l e =
    subst (λ (z : List Slot). IsIn z (spot_bit x)) (sym u.slots) (subst (λ z. IsIn old.slots (spot_bit z)) (sym e) (u.inside n x l))
