-- Marks that are put one after the other.
use Rattle.std.proofs.Common.{◌≡◌, ◌∙◌, sym, ap, subst, refl, ℕ, ◌+◌, ◌<◌, ◌≤◌, ◌*◌, ◌||◌, ◌==◌, inl, inr, Bool, true, false, List, length, arith}
use Rattle.std.specs.Prelude.{◌⊎◌, All, IsTrue, slice_index, slice_index_or}
use Rattle.std.proofs.lemmas.Bool.{cases_lt, eq-eqb}
use Rattle.std.proofs.lemmas.List.{ext_get_or}
use Rattle.design_tree.specs.declared.design.Design.{Design}
use Rattle.circuit_run.specs.States.{State, AreWordsOf, held}
use Rattle.design_meaning.specs.States.{IsStateOf, var_of}
use Rattle.place_marks.specs.Marked.{is_marked}
use Rattle.cycle_wakes.specs.Changes.{Changes, HasMarked, HasRoomFor, IsNoted, IsQuiet, KeepsMarks}
use Rattle.cycle_wakes.specs.Wakes.{Wakes, readers_of}

-- ---- marks of one set

pub none_marked : (marks places : List ℕ) → HasMarked marks marks places 0
none_marked marks places = record { room = refl; kept = λ k h. h; there = λ j lt. absurd (omega (arith, lt)) }

pub right_true : (a b : Bool) → IsTrue b → IsTrue (a || b)
right_true true b h = refl
right_true false b h = h

pub one_marked : (old a b places : List ℕ) (n place : ℕ) → place ≡ slice_index_or places n 0 → HasMarked old a places n → length b ≡ length a
    → ((k : ℕ) → is_marked b k ≡ (place == k || is_marked a k)) → HasMarked old b places (n + 1)
one_marked old a b places n place is h room marks = record {
  room = room ∙ h.room;
  kept = λ k m. stays k (h.kept k m);
  there = λ j lt. elim (cases_lt j n) [
    | inl less ↦ stays (slice_index_or places j 0) (h.there j less)
    | inr more ↦ subst (λ j. IsTrue (is_marked b (slice_index_or places j 0))) (last n j lt more)
        (subst (λ k. IsTrue (is_marked b k)) is (marks place ∙ ap (λ x. x || is_marked a place) (eq-eqb place place refl)))
  ];
}
  where
    stays : (k : ℕ) → IsTrue (is_marked a k) → IsTrue (is_marked b k)
    stays k m = marks k ∙ right_true (place == k) (is_marked a k) m

    last : (n j : ℕ) → j < n + 1 → n ≤ j → n ≡ j
    last n j lt more = omega (arith, lt, more)

-- ---- changes

pub same_marks : (c : Changes) → KeepsMarks c c
same_marks c = record { room_places = refl; room_vars = refl; places = λ k h. h; vars = λ v h. h }

pub both_kept : (a b c : Changes) → KeepsMarks a b → KeepsMarks b c → KeepsMarks a c
both_kept a b c h g = record {
  room_places = g.room_places ∙ h.room_places;
  room_vars = g.room_vars ∙ h.room_vars;
  places = λ k m. g.places k (h.places k m);
  vars = λ v m. g.vars v (h.vars v m);
}

pub still_noted : (w : Wakes) (a b : Changes) (v : ℕ) → KeepsMarks a b → IsNoted w a v → IsNoted w b v
still_noted w a b v h i = record { marked = h.vars v i.marked; woken = λ k d lt. h.places (slice_index_or (readers_of w v) k d) (i.woken k d lt) }

pub still_room : (w : Wakes) (a b : Changes) → KeepsMarks a b → HasRoomFor w a → HasRoomFor w b
still_room w a b h r = record {
  vars = omega (arith, r.vars, h.room_vars);
  places = λ v k d lt. omega (arith, r.places v k d lt, h.room_places);
}

-- of a list of variables the first n hold of changes what stays as marks grow
pub record AreNoted (P : Changes → ℕ → Type 0) (vars : List ℕ) (n : ℕ) (old new : Changes) : Type 0 where
  pub keeps : KeepsMarks old new
  pub each : (j : ℕ) → j < n → (d : ℕ) → P new (slice_index_or vars j d)

pub none_noted : (P : Changes → ℕ → Type 0) (vars : List ℕ) (c : Changes) → AreNoted P vars 0 c c
none_noted P vars c = record { keeps = same_marks c; each = λ j lt. absurd (omega (arith, lt)) }

pub one_noted : (P : Changes → ℕ → Type 0) → ((a b : Changes) (v : ℕ) → KeepsMarks a b → P a v → P b v) → (vars : List ℕ) (n : ℕ) (old a b : Changes)
    → AreNoted P vars n old a → KeepsMarks a b → ((d : ℕ) → P b (slice_index_or vars n d)) → AreNoted P vars (n + 1) old b
one_noted P stays vars n old a b h g one = record {
  keeps = both_kept old a b h.keeps g;
  each = λ j lt d. elim (cases_lt j n) [
    | inl less ↦ stays a b (slice_index_or vars j d) g (h.each j less d)
    | inr more ↦ subst (λ j. P b (slice_index_or vars j d)) (last n j lt more) (one d)
  ];
}
  where
    last : (n j : ℕ) → j < n + 1 → n ≤ j → n ≡ j
    last n j lt more = omega (arith, lt, more)

-- a variable is quiet in two states, or it is noted
abbrev pub QuietOrNoted : Wakes → State → State → Changes → ℕ → Type 0
QuietOrNoted w now before c v = IsQuiet now before v ⊎ IsNoted w c v

pub still_either : (w : Wakes) (now before : State) (a b : Changes) (v : ℕ) → KeepsMarks a b → QuietOrNoted w now before a v → QuietOrNoted w now before b v
still_either w now before a b v h (inl quiet) = inl quiet
still_either w now before a b v h (inr noted) = inr (still_noted w a b v h noted)

-- ---- a variable of one word

pub quiet_word : (d : Design) (s t : State) (v : ℕ) → IsStateOf d s → IsStateOf d t → v < length d.vars → (var_of d v).words ≡ 1
    → slice_index (held s v).words 0 ≡ slice_index (held t v).words 0 → IsQuiet s t v
quiet_word d s t v hs ht lt one same =
    let a : AreWordsOf (var_of d v) (held s v) = hs.each v lt in
    let c : AreWordsOf (var_of d v) (held t v) = ht.each v lt in
    let words : (held s v).words ≡ (held t v).words = ext_get_or 0 (held s v).words (held t v).words (a.as_many ∙ sym c.as_many) (λ w hw.
    subst (λ w. slice_index (held s v).words w ≡ slice_index (held t v).words w) (first w (omega (arith, hw, a.as_many, one))) same) in
    λ k. record { width = (a.as_wide ∙ sym c.as_wide) k; words = words k }
  where
    first : (w : ℕ) → w < 1 → 0 ≡ w
    first w lt = omega (arith, lt)
