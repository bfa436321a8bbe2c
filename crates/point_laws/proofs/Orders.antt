-- A list of the points of a source stays one in any order.
use Rattle.std.proofs.Common.{◌≡◌, ℕ, zero, suc, ◌+◌, ◌<◌, Bool, true, false, ◌&&◌, List, [], ◌∷◌, length, get_or, Some, inl, inr}
use Rattle.std.proofs.Common.{refl, sym, ◌∙◌, ap, subst, arith}
use Rattle.std.specs.Prelude.{Contains, slice_get}
use Rattle.std.specs.List.{AllByRecursion, IsDistinct}
use Rattle.std.specs.List.Sorted.{IsPermutation}
use Rattle.std.specs.Str.{bytes_eq}
use Rattle.std.proofs.lemmas.Bool.{true≢false, cases_Bool}
use Rattle.std.proofs.lemmas.List.Sorted.{Contains-permutation, IsPermutation-sym}
use Rattle.std.proofs.lemmas.Map.Keys.{IsDistinct-IsPermutation}
use Rattle.std.proofs.lemmas.Option.{slice_get-get_or}
use Rattle.cov_points.specs.declared.options.CoverOptions.{CoverOptions}
use Rattle.cov_points.specs.declared.point.Point.{Point}
use Rattle.cov_points.specs.KeyText.{kind_text}
use Rattle.point_meaning.specs.Source.{Source}
use Rattle.point_meaning.specs.Candidates.{Identity}
use Rattle.point_meaning.specs.Points.{identity_in, IsRowOf, ArePoints}
use Rattle.point_meaning.specs.Occurrences.{is_same_kind, is_same_place}
use Rattle.point_meaning.specs.PointLaws.{OrderIsFree}
use Rattle.point_laws.proofs.Names.{got}
use Rattle.point_laws.proofs.Same.{both, joined, bytes_tell, bytes_same, kinds_tell, places_tell, place_same, identity_is}

-- two points are one
abbrev is_same : Point → Point → Bool
is_same p q = (is_same_kind p.kind q.kind && bytes_eq p.module q.module) && (is_same_place p.place q.place && bytes_eq p.comment q.comment)

tells : (p q : Point) → is_same p q ≡ true → identity_in p ≡ identity_in q
tells p q is =
    let parts = both (is_same_kind p.kind q.kind && bytes_eq p.module q.module) (is_same_place p.place q.place && bytes_eq p.comment q.comment) is in
    let left = both (is_same_kind p.kind q.kind) (bytes_eq p.module q.module) parts.0 in
    let right = both (is_same_place p.place q.place) (bytes_eq p.comment q.comment) parts.1 in
    identity_is (identity_in p) (identity_in q) (kinds_tell p.kind q.kind left.0) (bytes_tell p.module q.module left.1)
    (places_tell p.place q.place right.0) (bytes_tell p.comment q.comment right.1)

itself : (i : Identity) → ((is_same_kind i.kind i.kind && bytes_eq i.module_text i.module_text)
    && (is_same_place i.place i.place && bytes_eq i.comment i.comment)) ≡ true
itself i = joined (is_same_kind i.kind i.kind && bytes_eq i.module_text i.module_text) (is_same_place i.place i.place && bytes_eq i.comment i.comment)
    (joined (is_same_kind i.kind i.kind) (bytes_eq i.module_text i.module_text) (bytes_same (kind_text i.kind)) (bytes_same i.module_text))
    (joined (is_same_place i.place i.place) (bytes_eq i.comment i.comment) (place_same i.place) (bytes_same i.comment))

told : (p q : Point) → identity_in p ≡ identity_in q → is_same p q ≡ true
told p q same = subst (λ (i : Identity). ((is_same_kind p.kind i.kind && bytes_eq p.module i.module_text)
    && (is_same_place p.place i.place && bytes_eq p.comment i.comment)) ≡ true) same (itself (identity_in p))

flips : (p q : Point) → is_same p q ≡ is_same q p
flips p q = elim (cases_Bool (is_same p q)) as (λ _. is_same p q ≡ is_same q p) [
  | inl equal ↦ equal ∙ sym (told q p (sym (tells p q equal)))
  | inr none ↦ elim (cases_Bool (is_same q p)) as (λ _. is_same p q ≡ is_same q p) [
    | inl equal ↦ told p q (sym (tells q p equal)) ∙ sym equal
    | inr neither ↦ none ∙ sym neither
  ]
]

abbrev Once : List Point → Type 0
Once points = (j k : ℕ) (p q : Point) → slice_get points j ≡ Some p → slice_get points k ≡ Some q → identity_in p ≡ identity_in q → j ≡ k

-- ---- each once, as it is kept when points change places

apart : (p : Point) (ps : List Point) → ((k : ℕ) (q : Point) → slice_get ps k ≡ Some q → identity_in p ≡ identity_in q → ⊥)
    → AllByRecursion (λ q. is_same p q ≡ false) ps
apart p [] differ = tt
apart p (q ∷ ps) differ = (
  elim (cases_Bool (is_same p q)) as (λ _. is_same p q ≡ false) [ inl equal ↦ absurd (differ 0 q refl (tells p q equal)) | inr none ↦ none ],
  apart p ps (λ k r at same. differ (suc k) r at same),
)

distinct : (ps : List Point) → Once ps → IsDistinct is_same ps
unfolding IsDistinct
distinct [] once = tt
distinct (p ∷ ps) once = (
  apart p ps (λ k q at same. absurd (let e : 0 ≡ suc k = once 0 (suc k) p q refl at same in omega arith)),
  distinct ps (λ j k q r first second same. let e : suc j ≡ suc k = once (suc j) (suc k) q r first second same in omega arith),
)

behind : (p : Point) (ps : List Point) (k : ℕ) (q : Point) → AllByRecursion (λ q. is_same p q ≡ false) ps → slice_get ps k ≡ Some q
    → identity_in p ≡ identity_in q → ⊥
behind p [] k q all at same = absurd (cc)
behind p (r ∷ ps) zero q all at same = let e : r ≡ q = cc in true≢false (sym (told p r (same ∙ sym (ap identity_in e))) ∙ all.0)
behind p (r ∷ ps) (suc k) q all at same = behind p ps k q all.1 at same

once_again : (ps : List Point) → IsDistinct is_same ps → Once ps
unfolding IsDistinct
once_again [] d j k p q first second same = absurd (cc)
once_again (r ∷ ps) d zero zero p q first second same = refl
once_again (r ∷ ps) d zero (suc k) p q first second same =
    let e : r ≡ p = cc in absurd (behind r ps k q d.0 second (ap identity_in e ∙ same))
once_again (r ∷ ps) d (suc j) zero p q first second same =
    let e : r ≡ q = cc in absurd (behind r ps j p d.0 first (ap identity_in e ∙ sym same))
once_again (r ∷ ps) d (suc j) (suc k) p q first second same = ap suc (once_again ps d.1 j k p q first second same)

-- ---- the whole

at_place : (ps : List Point) (p : Point) → Contains ps p → (k : ℕ) × (slice_get ps k ≡ Some p)
at_place ps p has = (has.0, slice_get-get_or ps has.0 p has.1 ∙ ap Some has.2)

pub order_is_free : OrderIsFree
order_is_free source options ps qs moved are =
    let back = IsPermutation-sym ps qs moved in
    record {
      rows = λ k p at. let old = at_place ps p (Contains-permutation qs ps p back (got qs k p at)) in are.rows old.0 p old.1;
      all = λ point is.
          let old = are.all point is in
          let new = at_place qs old.1 (Contains-permutation ps qs old.1 moved (got ps old.0 old.1 old.2)) in
          (new.0, old.1, new.1, old.3);
      once = once_again qs (IsDistinct-IsPermutation is_same flips ps qs moved (distinct ps are.once));
    }
