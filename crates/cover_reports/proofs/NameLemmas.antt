-- What stands behind the last `/`.
use Rattle.std.proofs.Common.{◌≡◌, ◌==◌, ℕ, ◌<◌, ◌≤◌, ◌-◌, ◌+◌, true, false, not, List, length, drop, get_or, refl, ap, subst, arith}
use Rattle.std.specs.List.{suffix_len}
use Rattle.std.proofs.lemmas.List.Sums.{suffix_len_is}
use Rattle.report_text.specs.FileNames.{base_name}

other : (n : ℕ) → (n ≡ 47 → ⊥) → not (n == 47) ≡ true
other n not_so = elim (n == 47) as (λ b. (n == 47) ≡ b → not b ≡ true) [
  | true ↦ λ e. absurd (not_so (grind arith))
  | false ↦ λ e. refl
] refl

base_from : (name : List ℕ) (from : ℕ) → from ≤ length name → ((k : ℕ) → from ≤ k → k < length name → get_or name k 0 ≡ 47 → ⊥) → (0 < from
    → get_or name (from - 1) 0 ≡ 47)
    → drop from name ≡ base_name name
base_from name from within passed stop =
    let suffix =
    suffix_len_is (λ (x : ℕ). not (x == 47)) name from 0 within (λ k a b. other (get_or name k 0) (passed k a b))
    (λ some. ap (λ (n : ℕ). not (n == 47)) (stop some)) in
    ap (λ (n : ℕ). drop n name) {x = from} {y = length name - suffix_len (λ (x : ℕ). not (x == 47)) name} (omega (arith, suffix))

-- behind the last `/`
pub base_behind : (name : List ℕ) (at : ℕ) → at < length name → get_or name at 0 ≡ 47 → ((i : ℕ) → at < i → i < length name → get_or name i 0 ≡ 47 → ⊥)
    → drop (at + 1) name ≡ base_name name
base_behind name at within is passed =
    let same : at ≡ at + 1 - 1 = omega arith in
    base_from name (at + 1) (omega arith) (λ k a b. passed k (omega (arith, a)) b) (λ some. subst (λ (n : ℕ). get_or name n 0 ≡ 47) same is)

-- without a `/` it is the whole name
pub base_whole : (name : List ℕ) → ((i : ℕ) → i < length name → get_or name i 0 ≡ 47 → ⊥) → name ≡ base_name name
base_whole name passed = base_from name 0 (omega arith) (λ k a b. passed k b) (λ some. absurd (omega (arith, some)))
