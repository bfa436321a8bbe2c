-- Each variable's words stand where its slot says.
use Rattle.std.proofs.Common.{◌≡◌, ◌∙◌, sym, ap, subst, refl, ℕ, zero, suc, ◌+◌, ◌<◌, ◌^◌, List, [], ◌∷◌, length, take, drop, inl, inr, arith}
use Rattle.std.specs.Prelude.{slice_set, slice_index_or, All}
use Rattle.std.proofs.lemmas.List.{length-drop, drop-drop, length-set, take-set-le, drop-set-lt, drop-set-add, get_or-set_same, get_or-set_other}
use Rattle.std.proofs.lemmas.Bool.{cases_eq}
use Rattle.std.proofs.Math.Seq.{take-set-lt}
use Rattle.design_state.specs.declared.state.Slot.{Slot}
use Rattle.design_state.specs.Layout.{split, AreLaid, Stands}

drop-add : (n m : ℕ) (words : List ℕ) → drop (n + m) words ≡ drop m (drop n words)
drop-add n m words = sym (drop-drop m n words)

from_0 : (n : ℕ) → 0 + n ≡ n
from_0 n = omega arith

-- a list of numbers that fit, with one more that fits
pub all_set : (most w x : ℕ) (words : List ℕ) → x < most → All (λ n. n < most) words → All (λ n. n < most) (slice_set words w x)
all_set most w x words small fit k d lt = elim (cases_eq w k) [
  | inl e ↦ subst (λ m. slice_index_or (slice_set words w x) m d < most) e
      (subst (λ m. m < most) (sym (get_or-set_same words w x d (omega (arith, e, lt, length-set words w x)))) small)
  | inr ne ↦ subst (λ m. m < most) (sym (get_or-set_other words w k x d (λ e. ne (sym e)))) (fit k d (omega (arith, lt, length-set words w x)))
]

first : (base : ℕ) (slot : Slot) (slots : List Slot) (words : List ℕ) → AreLaid base (slot ∷ slots) words → Stands base (slot ∷ slots) words 0 0 slot
first base slot slots words h = record {
  holds = refl;
  some = h.0.some;
  most = h.0.most;
  within = omega (arith, h.0.enough);
  fit = h.0.fit;
  sets = sets;
  stays = stays;
}
  where
    sets : (w x : ℕ) → w < slot.count → split (slot ∷ slots) (slice_set words (0 + w) x)
        ≡ slice_set (split (slot ∷ slots) words) 0 (record { width = slot.width; words = slice_set (take slot.count (drop 0 words)) w x })
    sets w x lt = rw (from_0 w, take-set-lt slot.count words w x lt, drop-set-lt slot.count words w x lt) refl

    stays : (w x : ℕ) → w < slot.count → x < 2 ^ slot.width → AreLaid base (slot ∷ slots) (slice_set words (0 + w) x)
    stays w x lt small = rw (from_0 w) (
      record {
        begins = h.0.begins;
        some = h.0.some;
        most = h.0.most;
        enough = omega (arith, h.0.enough, length-set words w x);
        fit = subst (All (λ n. n < 2 ^ slot.width)) (sym (take-set-lt slot.count words w x lt))
            (all_set (2 ^ slot.width) w x (take slot.count words) small h.0.fit);
      },
      subst (AreLaid (base + slot.count) slots) (sym (drop-set-lt slot.count words w x lt)) h.1,
    )

next : (base : ℕ) (head : Slot) (slots : List Slot) (words : List ℕ) (v at : ℕ) (slot : Slot) → AreLaid base (head ∷ slots) words
    → Stands (base + head.count) slots (drop head.count words) v at slot → Stands base (head ∷ slots) words (suc v) (head.count + at) slot
next base head slots words v at slot h k = record {
  holds = k.holds ∙ ap (λ ws. record { width = slot.width; words = take slot.count ws }) (sym (drop-add head.count at words));
  some = k.some;
  most = k.most;
  within = omega (arith, h.0.enough, k.within, length-drop head.count words);
  fit = subst (λ ws. All (λ n. n < 2 ^ slot.width) (take slot.count ws)) (sym (drop-add head.count at words)) k.fit;
  sets = sets;
  stays = stays;
}
  where
    place : (w : ℕ) → (head.count + at) + w ≡ head.count + (at + w)
    place w = omega arith

    sets : (w x : ℕ) → w < slot.count → split (head ∷ slots) (slice_set words ((head.count + at) + w) x)
        ≡ slice_set (split (head ∷ slots) words) (suc v) (record { width = slot.width; words = slice_set (take slot.count (drop (head.count + at) words)) w x })
    sets w x lt = rw (
      place w,
      take-set-le head.count words (head.count + (at + w)) x (omega arith),
      drop-set-add head.count words (at + w) x,
      drop-add
          head.count at words,
    )
        (ap (λ t. record { width = head.width; words = take head.count words } ∷ t) (k.sets w x lt))

    stays : (w x : ℕ) → w < slot.count → x < 2 ^ slot.width → AreLaid base (head ∷ slots) (slice_set words ((head.count + at) + w) x)
    stays w x lt small = rw (place w) (
      record {
        begins = h.0.begins;
        some = h.0.some;
        most = h.0.most;
        enough = omega (arith, h.0.enough, length-set words (head.count + (at + w)) x);
        fit = subst (All (λ n. n < 2 ^ head.width)) (sym (take-set-le head.count words (head.count + (at + w)) x (omega arith))) h.0.fit;
      },
      subst (AreLaid (base + head.count) slots) (sym (drop-set-add head.count words (at + w) x)) (k.stays w x lt small),
    )

pub stands : (base : ℕ) (slots : List Slot) (words : List ℕ) (v : ℕ) (none : Slot) → AreLaid base slots words → v < length slots
    → (at : ℕ) × ((slice_index_or slots v none).base ≡ base + at) × Stands base slots words v at (slice_index_or slots v none)
stands base [] words v none h lt = absurd (omega (arith, lt))
stands base (slot ∷ slots) words zero none h lt = (0, omega (arith, h.0.begins), first base slot slots words h)
stands base (slot ∷ slots) words (suc v) none h lt =
    let k : (at : ℕ) × ((slice_index_or slots v none).base
    ≡ (base + slot.count) + at) × Stands (base + slot.count) slots (drop slot.count words) v at (slice_index_or slots v none)
    = stands (base + slot.count) slots (drop slot.count words) v none h.1 (omega (arith, lt)) in
    (slot.count + k.0, omega (arith, k.1), next base slot slots words v k.0 (slice_index_or slots v none) h k.2)

pub stands_at_base : (slots : List Slot) (words : List ℕ) (v : ℕ) (none : Slot) → AreLaid 0 slots words → v < length slots
    → Stands 0 slots words v (slice_index_or slots v none).base (slice_index_or slots v none)
stands_at_base slots words v none h lt =
    let k : (at : ℕ) × ((slice_index_or slots v none).base
    ≡ 0 + at) × Stands 0 slots words v at (slice_index_or slots v none) = stands 0 slots words v none h lt in
    let e : k.0 ≡ (slice_index_or slots v none).base = omega (arith, k.1) in
    subst (λ at. Stands 0 slots words v at (slice_index_or slots v none)) e k.2

pub length_split : (slots : List Slot) (words : List ℕ) → length (split slots words) ≡ length slots
length_split [] words = refl
length_split (slot ∷ slots) words = ap suc (length_split slots (drop slot.count words))
