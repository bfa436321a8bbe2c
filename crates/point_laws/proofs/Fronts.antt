-- What texts begin with in common.
use Rattle.std.proofs.Common.{◌≡◌, ℕ, Bool, true, false, cond, eqb, List, [], ◌∷◌, ◌++◌, map, refl, sym, ◌∙◌, ap, append_assoc, subst}
use Rattle.std.specs.List.{AllByRecursion}
use Rattle.std.proofs.lemmas.Bool.{eqb-true, eqb-false}
use Rattle.std.proofs.lemmas.List.{append-nil}
use Rattle.point_meaning.specs.Hier.{BeginsWith, common_front, front_of_all}

pub of_map : {X Y : Type 0} (P : Y → Type 0) (f : X → Y) (xs : List X) → AllByRecursion P (map f xs) → AllByRecursion (λ x. P (f x)) xs
of_map P f [] a = tt
of_map P f (x ∷ xs) a = (a.0, of_map P f xs a.1)

pub to_map : {X Y : Type 0} (P : Y → Type 0) (f : X → Y) (xs : List X) → AllByRecursion (λ x. P (f x)) xs → AllByRecursion P (map f xs)
to_map P f [] a = tt
to_map P f (x ∷ xs) a = (a.0, to_map P f xs a.1)

weaker : {X : Type 0} (P Q : X → Type 0) (xs : List X) → ((x : X) → P x → Q x) → AllByRecursion P xs → AllByRecursion Q xs
weaker P Q [] how a = tt
weaker P Q (x ∷ xs) how a = (how x a.0, weaker P Q xs how a.1)

-- ---- of two

front_left : (p q : List ℕ) → BeginsWith p (common_front p q)
front_left [] q = ([], refl)
front_left (a ∷ p) [] = (a ∷ p, refl)
front_left (a ∷ p) (b ∷ q) = elim (eqb a b) as (λ t. BeginsWith (a ∷ p) (cond t (a ∷ common_front p q) [])) [
  | true ↦ let r = front_left p q in (r.0, ap (λ (xs : List ℕ). a ∷ xs) r.1)
  | false ↦ (a ∷ p, refl)
]

right_step : (a b : ℕ) (p q : List ℕ) (t : Bool) → eqb a b ≡ t → BeginsWith q (common_front p q) → BeginsWith (b ∷ q) (cond t (a ∷ common_front p q) [])
right_step a b p q true is r = (r.0, ap (λ (xs : List ℕ). b ∷ xs) r.1 ∙ ap (λ (x : ℕ). x ∷ (common_front p q ++ r.0)) (sym (eqb-true a b is)))
right_step a b p q false is r = (b ∷ q, refl)

front_right : (p q : List ℕ) → BeginsWith q (common_front p q)
front_right [] q = (q, refl)
front_right (a ∷ p) [] = ([], refl)
front_right (a ∷ p) (b ∷ q) = right_step a b p q (eqb a b) refl (front_right p q)

meets_step : (a b c : ℕ) (p q cs : List ℕ) (t : Bool) → eqb a b ≡ t → a ≡ c → b ≡ c → BeginsWith (common_front p q) cs
    → BeginsWith (cond t (a ∷ common_front p q) []) (c ∷ cs)
meets_step a b c p q cs true is first second r = (r.0, ap (λ (xs : List ℕ). a ∷ xs) r.1 ∙ ap (λ (x : ℕ). x ∷ (cs ++ r.0)) first)
meets_step a b c p q cs false is first second r = absurd (eqb-false a b is (first ∙ sym second))

-- what both begin with their common front begins with
meets : (p q other : List ℕ) → BeginsWith p other → BeginsWith q other → BeginsWith (common_front p q) other
meets p q [] g h = (common_front p q, refl)
meets [] q (c ∷ cs) g h = let e = g.1 in absurd (cc)
meets (a ∷ p) [] (c ∷ cs) g h = let e = h.1 in absurd (cc)
meets (a ∷ p) (b ∷ q) (c ∷ cs) g h =
    let e : ◌≡◌ {A = List ℕ} (a ∷ p) (c ∷ (cs ++ g.0)) = g.1 in
    let f : ◌≡◌ {A = List ℕ} (b ∷ q) (c ∷ (cs ++ h.0)) = h.1 in
    let first : a ≡ c = cc in
    let second : b ≡ c = cc in
    let left : p ≡ cs ++ g.0 = cc in
    let right : q ≡ cs ++ h.0 = cc in
    meets_step a b c p q cs (eqb a b) refl first second (meets p q cs (g.0, left) (h.0, right))

-- ---- of all

further : (t f g : List ℕ) → BeginsWith t f → BeginsWith f g → BeginsWith t g
further t f g a b = (b.0 ++ a.0, a.1 ∙ (ap (λ (xs : List ℕ). xs ++ a.0) b.1 ∙ append_assoc g b.0 a.0))

pub all_begin : (p : List ℕ) (ps : List (List ℕ)) → AllByRecursion (λ t. BeginsWith t (front_of_all (p ∷ ps))) (p ∷ ps)
all_begin p [] = (([], sym (append-nil p)), tt)
all_begin p (q ∷ ps) =
    let rest = front_of_all (q ∷ ps) in (
      front_left p rest,
      weaker (λ t. BeginsWith t rest) (λ t. BeginsWith t (common_front p rest)) (q ∷ ps)
          (λ t h. further t rest (common_front p rest) h (front_right p rest)) (all_begin q ps),
    )

pub longest : (p : List ℕ) (ps : List (List ℕ)) (other : List ℕ) → AllByRecursion (λ t. BeginsWith t other) (p ∷ ps)
    → BeginsWith (front_of_all (p ∷ ps)) other
longest p [] other a = a.0
longest p (q ∷ ps) other a = meets p (front_of_all (q ∷ ps)) other a.0 (longest q ps other a.1)
