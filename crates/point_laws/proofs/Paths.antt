-- The hierarchy text of several paths is what its computation gives.
use Rattle.std.proofs.Common.{◌≡◌, ℕ, zero, suc, ◌<◌, ◌≤◌, Bool, true, false, List, [], ◌∷◌, ◌++◌, length, get_or, map, drop, refl, sym, ◌∙◌, ap, subst, arith}
use Rattle.std.specs.Prelude.{◌≢◌, codes, reverse, Contains}
use Rattle.std.specs.List.{AllByRecursion, IsDistinct, IsDistinctByAny}
use Rattle.std.specs.Str.{bytes_eq}
use Rattle.std.proofs.Math.Seq.{drop-append_seam}
use Rattle.std.proofs.lemmas.Bool.{true≢false}
use Rattle.std.proofs.lemmas.List.{reverse-append, reverse-reverse, length-reverse}
use Rattle.std.proofs.lemmas.List.Elements.{All-contains, All-from_recursion, recursion_from_All, Contains-get_or}
use Rattle.std.proofs.lemmas.List.Prefix.{front_fits}
use Rattle.std.proofs.lemmas.Slice.Eq.{bytes_eq-Decides}
use Rattle.point_meaning.specs.Hier.{BeginsWith, EndsWith, IsLongestFront, IsLongestBack, one, several, front_of_all, HierIsComputed}
use Rattle.point_laws.proofs.Fronts.{of_map, to_map, all_begin, longest}

-- what holds of each text, and of each that the list has
has_all : (P : List ℕ → Type 0) (ps : List (List ℕ)) (t : List ℕ) → AllByRecursion P ps → Contains ps t → P t
has_all P ps t a has = All-contains P ps t (All-from_recursion P ps a) has

by_all : (P : List ℕ → Type 0) (ps : List (List ℕ)) → ((t : List ℕ) → Contains ps t → P t) → AllByRecursion P ps
by_all P ps each = recursion_from_All P ps (λ k d within. each (get_or ps k d) (Contains-get_or ps k d within))

-- a text turned round
ends_turned : (t f : List ℕ) → BeginsWith (reverse t) f → EndsWith t (reverse f)
ends_turned t f a = (reverse a.0, sym (reverse-reverse t) ∙ (ap reverse a.1 ∙ reverse-append f a.0))

begins_turned : (t f : List ℕ) → EndsWith t f → BeginsWith (reverse t) (reverse f)
begins_turned t f a = (reverse a.0, ap reverse a.1 ∙ reverse-append a.0 f)

module _ (p : List ℕ) (ps : List (List ℕ)) where
  abbrev has : List ℕ → Type 0
  has t = Contains (p ∷ ps) t

  abbrev front : List ℕ
  front = front_of_all (p ∷ ps)

  begins : (t : List ℕ) → has t → BeginsWith t front
  begins t h = has_all (λ t. BeginsWith t front) (p ∷ ps) t (all_begin p ps) h

  front_is : IsLongestFront has front
  front_is = record {
    of_all = begins;
    longest = λ other each. let b = longest p ps other (by_all (λ t. BeginsWith t other) (p ∷ ps) each) in front_fits front other b.0 b.1;
  }

  -- what remains of a path behind the front, and that turned round
  abbrev rest_of : List ℕ → List ℕ
  rest_of t = drop (length front) t

  abbrev turned : List ℕ
  turned = front_of_all (map reverse (map rest_of (p ∷ ps)))

  ends : AllByRecursion (λ t. BeginsWith (reverse (rest_of t)) turned) (p ∷ ps)
  ends = of_map (λ t. BeginsWith (reverse t) turned) rest_of (p ∷ ps)
      (of_map (λ t. BeginsWith t turned) reverse (map rest_of (p ∷ ps)) (all_begin (reverse (rest_of p)) (map reverse (map rest_of ps))))

  remains : (t : List ℕ) → has (front ++ t) → EndsWith t (reverse turned)
  remains t h = ends_turned t turned (subst (λ (x : List ℕ). BeginsWith (reverse x) turned) (drop-append_seam front t)
      (has_all (λ t. BeginsWith (reverse (rest_of t)) turned) (p ∷ ps) (front ++ t) ends h))

  whole : (t : List ℕ) → BeginsWith t front → front ++ rest_of t ≡ t
  whole t b = ap (λ (x : List ℕ). front ++ x) (ap rest_of b.1 ∙ drop-append_seam front b.0) ∙ sym b.1

  back_is : IsLongestBack (λ rest. has (front ++ rest)) (reverse turned)
  back_is = record {
    of_all = remains;
    longest = λ other each.
        let all = by_all (λ t. BeginsWith (reverse (rest_of t)) (reverse other)) (p ∷ ps)
        (λ t h. begins_turned (rest_of t) other (each (rest_of t) (subst has (sym (whole t (begins t h))) h))) in
        let b = longest (reverse (rest_of p)) (map reverse (map rest_of ps)) (reverse other)
        (to_map (λ t. BeginsWith t (reverse other)) reverse (map rest_of (p ∷ ps))
        (to_map (λ t. BeginsWith (reverse t) (reverse other)) rest_of (p ∷ ps) all)) in
        let fits = front_fits turned (reverse other) b.0 b.1 in
        omega (arith, fits, length-reverse other, length-reverse turned);
  }

first_alone : (p t : List ℕ) → Contains (p ∷ []) t → t ≡ p
first_alone p t (zero, within, is) = sym is
first_alone p t (suc k, within, is) = absurd (omega arith)

apart : (p q : List ℕ) (ps : List (List ℕ)) → IsDistinctByAny (p ∷ q ∷ ps) → p ≢ q
unfolding IsDistinct
apart p q ps d same = let e = (d bytes_eq).0.0 in true≢false (sym ((bytes_eq-Decides p q).1 same) ∙ e)

pub hier_is_computed : HierIsComputed
hier_is_computed p [] d = one (0, omega arith, refl) (first_alone p)
hier_is_computed p (q ∷ ps) d =
    several (0, omega arith, refl) (1, omega arith, refl) (apart p q ps d) (front_is p (q ∷ ps)) (back_is p (q ∷ ps))
