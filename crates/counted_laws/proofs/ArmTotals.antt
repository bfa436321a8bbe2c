-- The entries of the arms of a point come to the entries of each.
use Rattle.std.proofs.Common.{◌≡◌, ℕ, zero, suc, ◌+◌, ◌<◌, Bool, true, false, cond, eqb, List, [], ◌∷◌, length, map, Option, None, refl, sym, ◌∙◌}
use Rattle.std.proofs.Common.{ap, ap₂, arith}
use Rattle.std.specs.Prelude.{filter, slice_index_or}
use Rattle.std.proofs.lemmas.Bool.{eq-eqb, ne_eqb}
use Rattle.circuit_run.specs.Lists.{how_many, numbered, total}
use Rattle.counted_circuit.specs.Counts.{is_number}
use Rattle.counted_circuit.proofs.HowMany.{how_many_more, length_pick, zero_plus}
use Rattle.counted_laws.proofs.Sums.{sum_split, sum_same, sum_zero}

-- the numbers of the arms of a point, from a number on
abbrev arms_from : ℕ → ℕ → List (Option ℕ) → List ℕ
arms_from k n points = map (λ a. a.0) (filter (λ a. is_number k a.1) (numbered n points))

-- 1 where two numbers are one
abbrev hit : ℕ → ℕ → ℕ
hit m a = cond (eqb m a) 1 0

hit_same : (m a : ℕ) → m ≡ a → hit m a ≡ 1
hit_same m a same = ap (λ (b : Bool). cond b 1 0) (eq-eqb m a same)

hit_other : (m a : ℕ) → (m ≡ a → ⊥) → hit m a ≡ 0
hit_other m a differ = ap (λ (b : Bool). cond b 1 0) (ne_eqb m a differ)

-- one arm more
step_sum : (f : ℕ → ℕ) (b : Bool) (n : ℕ) (point : Option ℕ) (rest : List (ℕ × Option ℕ))
    → total (map f (map (λ (a : ℕ × Option ℕ). a.0) (cond b ((n, point) ∷ rest) rest))) ≡ cond b (f n) 0 + total (map f (map (λ (a : ℕ × Option ℕ). a.0) rest))
step_sum f true n point rest = refl
step_sum f false n point rest = sym (zero_plus (total (map f (map (λ (a : ℕ × Option ℕ). a.0) rest))))

nothing : (b : Bool) → ◌≡◌ {A = ℕ} (cond b 0 0) 0
nothing true = refl
nothing false = refl

misses : (k m n : ℕ) (points : List (Option ℕ)) → m < n → total (map (hit m) (arms_from k n points)) ≡ 0
misses k m n [] less = refl
misses k m n (point ∷ points) less =
    step_sum (hit m) (is_number k point) n point (filter (λ a. is_number k a.1) (numbered (n + 1) points))
    ∙ ap₂ (λ (a b : ℕ). a + b)
    (ap (λ (x : ℕ). cond (is_number k point) x 0) (hit_other m n (λ same. absurd (omega arith))) ∙ nothing (is_number k point))
    (misses k m (n + 1) points (omega arith))

plus_none : (a : ℕ) → a + 0 ≡ a
plus_none a = omega arith

hits : (k n : ℕ) (points : List (Option ℕ)) (i : ℕ) → total (map (hit (n + i)) (arms_from k n points)) ≡ cond (is_number k (slice_index_or points i None)) 1 0
hits k n [] i = refl
hits k n (point ∷ points) zero =
    step_sum (hit (n + 0)) (is_number k point) n point (filter (λ a. is_number k a.1) (numbered (n + 1) points))
    ∙ (ap₂ (λ (a b : ℕ). a + b)
    (ap (λ (x : ℕ). cond (is_number k point) x 0) (hit_same (n + 0) n (omega arith))) (misses k (n + 0) (n + 1) points (omega arith))
    ∙ plus_none (cond (is_number k point) 1 0))
hits k n (point ∷ points) (suc i) =
    let along : n + suc i ≡ n + 1 + i = omega arith in
    step_sum (hit (n + suc i)) (is_number k point) n point (filter (λ a. is_number k a.1) (numbered (n + 1) points))
    ∙ (ap₂ (λ (a b : ℕ). a + b)
    (ap (λ (x : ℕ). cond (is_number k point) x 0) (hit_other (n + suc i) n (λ same. absurd (omega arith))) ∙ nothing (is_number k point))
    (ap (λ (x : ℕ). total (map (hit x) (arms_from k (n + 1) points))) along ∙ hits k (n + 1) points i)
    ∙ zero_plus (cond (is_number k (slice_index_or points i None)) 1 0))

pub arm_total : (k : ℕ) (points : List (Option ℕ)) (notes : List ℕ)
    → total (map (λ a. how_many a notes) (arms_from k 0 points)) ≡ length (filter (λ arm. is_number k (slice_index_or points arm None)) notes)
arm_total k points [] = sum_zero (λ a. how_many a []) (arms_from k 0 points) (λ a. refl)
arm_total k points (m ∷ ms) =
    sum_same (λ a. how_many a (m ∷ ms)) (λ a. hit m a + how_many a ms) (arms_from k 0 points) (λ a. how_many_more a m ms)
    ∙ (sum_split (hit m) (λ a. how_many a ms) (arms_from k 0 points)
    ∙ (ap₂ (λ (a b : ℕ). a + b)
    (ap (λ (x : ℕ). total (map (hit x) (arms_from k 0 points))) (sym (zero_plus m)) ∙ hits k 0 points m) (arm_total k points ms)
    ∙ sym (length_pick (is_number k (slice_index_or points m None)) m (filter (λ arm. is_number k (slice_index_or points arm None)) ms))))
