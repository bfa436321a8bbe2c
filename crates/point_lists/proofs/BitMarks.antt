-- The points that have bits are no more than the bits.
use Rattle.std.proofs.Common.{◌≡◌, ℕ, ◌+◌, ◌<◌, ◌≤◌, zero, suc, Bool, true, false, ◌||◌, List, [], ◌∷◌, length, set, inl, inr, refl, sym, ◌∙◌, ap, subst, arith}
use Rattle.std.proofs.Common.{get_or-set_same, get_or-set_other}
use Rattle.std.specs.Prelude.{◌⊎◌, Option, ◌==◌}
use Rattle.std.proofs.lemmas.Bool.{cases_eq, cases_lt, eq-eqb, ne_eqb}
use Rattle.std.proofs.lemmas.List.{get_or_past}
use Rattle.std.specs.List.{list_any}
use Rattle.cov_points.specs.declared.table.TogglePoint.{TogglePoint}
use Rattle.mark_numbers.specs.Numbers.{is_set, how_many_set, HaveNumbers}
use Rattle.point_lists.specs.Bits.{AreBitCounters}

none_of : (flags : List Bool) → ((k : ℕ) → is_set flags k ≡ false) → how_many_set flags ≡ 0
none_of [] h = refl
none_of (true ∷ flags) h = absurd (let e : true ≡ false = h 0 in cc)
none_of (false ∷ flags) h = none_of flags (λ k. h (suc k))

set_one : (flags : List Bool) (i : ℕ) (b : Bool) → how_many_set flags ≤ how_many_set (set flags i b) + 1
set_one [] i b = omega arith
set_one (true ∷ flags) zero true = omega arith
set_one (true ∷ flags) zero false = omega arith
set_one (false ∷ flags) zero true = omega arith
set_one (false ∷ flags) zero false = omega arith
set_one (true ∷ flags) (suc i) b = let h = set_one flags i b in omega arith
set_one (false ∷ flags) (suc i) b = let h = set_one flags i b in omega arith

-- some of these bits are of the point with the number k
abbrev has_bits : List TogglePoint → ℕ → Bool
has_bits toggles k = list_any (λ t. t.point == k) toggles

few_flags : (toggles : List TogglePoint) (flags : List Bool) → ((k : ℕ) → is_set flags k ≡ has_bits toggles k)
    → how_many_set flags ≤ length toggles
few_flags [] flags h = let e = none_of flags h in omega arith
few_flags (t ∷ toggles) flags h =
    let r = few_flags toggles (set flags t.point (has_bits toggles t.point)) (λ k. rest k (cases_eq k t.point)) in
    let s = set_one flags t.point (has_bits toggles t.point) in
    omega arith
  where
    first : is_set flags t.point ≡ true
    first = h t.point ∙ ap (λ b. b || has_bits toggles t.point) (eq-eqb t.point t.point refl)

    inside : t.point < length flags
    inside = elim (cases_lt t.point (length flags)) [
      | inl lt ↦ lt
      | inr past ↦ absurd (let e : false ≡ true = sym (get_or_past flags t.point false past) ∙ first in cc)
    ]

    rest : (k : ℕ) → (k ≡ t.point) ⊎ (k ≡ t.point → ⊥) → is_set (set flags t.point (has_bits toggles t.point)) k ≡ has_bits toggles k
    rest k (inl e) =
        subst (λ j. is_set (set flags t.point (has_bits toggles t.point)) j ≡ has_bits toggles j) (sym e)
        (get_or-set_same flags t.point (has_bits toggles t.point) false inside)
    rest k (inr ne) =
        get_or-set_other flags t.point k (has_bits toggles t.point) false ne
        ∙ (h k ∙ ap (λ b. b || has_bits toggles k) (ne_eqb t.point k (λ e. ne (sym e))))

pub bit_counters : (toggles : List TogglePoint) (first next : ℕ) (flags : List Bool) (numbers : List (Option ℕ))
    → ((k : ℕ) → is_set flags k ≡ list_any (λ t. t.point == k) toggles) → HaveNumbers flags first next numbers
    → AreBitCounters toggles first next numbers
bit_counters toggles first next flags numbers marked h = record {
  given = λ k e. h.given k (marked k ∙ e);
  none = λ k e. h.none k (marked k ∙ e);
  within = h.within;
  apart = h.apart;
  few = let e = h.next_is in let f = few_flags toggles flags marked in omega arith;
  after = let e = h.next_is in omega arith;
}
