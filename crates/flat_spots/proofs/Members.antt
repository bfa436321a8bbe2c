-- What lists made of others have.
use Rattle.std.proofs.Common.{◌≡◌, ◌∙◌, sym, ap, refl, subst, inl, inr, ℕ, zero, suc, ◌<◌, Bool, true, false, ◌||◌, cond, List, [], ◌∷◌, ◌++◌, length}
use Rattle.std.proofs.Common.{Option, Some, None, get_or, arith}
use Rattle.std.specs.Prelude.{◌⊎◌, Contains}
use Rattle.std.specs.List.{filter, filter_map, flat_map, list_any, cons_option, AllZip}
use Rattle.std.proofs.lemmas.List.Elements.{Contains-append_left, Contains-append_right, Contains-append_cases}

pub first_of : {X : Type 0} (x : X) (xs : List X) → Contains (x ∷ xs) x
first_of x xs = (zero, omega arith, refl)

pub later : {X : Type 0} (x : X) (xs : List X) (y : X) → Contains xs y → Contains (x ∷ xs) y
later x xs y h = let lt = h.1 in (suc h.0, omega arith, h.2)

pub none_in : {X : Type 0} (x : X) → Contains [] x → ⊥
none_in x h = let lt = h.1 in absurd (omega arith)

pub first_or_later : {X : Type 0} (x : X) (xs : List X) (y : X) → Contains (x ∷ xs) y → (x ≡ y) ⊎ Contains xs y
first_or_later {X} x xs y h = by h.0 h.1 h.2
  where
    by : (k : ℕ) → k < length (x ∷ xs) → get_or (x ∷ xs) k y ≡ y → (x ≡ y) ⊎ Contains xs y
    by zero lt e = inl e
    by (suc k) lt e = inr (k, omega arith, e)

-- ---- flat_map

pub in_flat_map : {X A : Type 0} (f : X → List A) (xs : List X) (a : A) → Contains (flat_map f xs) a → (x : X) × Contains xs x × Contains (f x) a
in_flat_map f [] a h = absurd (none_in a h)
in_flat_map {X} {A} f (x ∷ xs) a h = by (in_flat_map f xs a) (Contains-append_cases (f x) (flat_map f xs) a h)
  where
    by : (Contains (flat_map f xs) a → (y : X) × Contains xs y × Contains (f y) a) → Contains (f x) a ⊎ Contains (flat_map f xs) a
        → (y : X) × Contains (x ∷ xs) y × Contains (f y) a
    by rest (inl p) = (x, first_of x xs, p)
    by rest (inr p) = let r = rest p in (r.0, later x xs r.0 r.1, r.2)

pub to_flat_map : {X A : Type 0} (f : X → List A) (xs : List X) (x : X) (a : A) → Contains xs x → Contains (f x) a → Contains (flat_map f xs) a
to_flat_map f [] x a h k = absurd (none_in x h)
to_flat_map {X} {A} f (y ∷ ys) x a h k = by (to_flat_map f ys x a) (first_or_later y ys x h)
  where
    by : (Contains ys x → Contains (f x) a → Contains (flat_map f ys) a) → (y ≡ x) ⊎ Contains ys x → Contains (flat_map f (y ∷ ys)) a
    by rest (inl e) = Contains-append_left (f y) (flat_map f ys) a (subst (λ (z : X). Contains (f z) a) (sym e) k)
    by rest (inr p) = Contains-append_right (f y) (flat_map f ys) a (rest p k)

-- ---- filter_map

behind : {Y : Type 0} (o : Option Y) (ys : List Y) (y : Y) → Contains ys y → Contains (cons_option o ys) y
behind None ys y h = h
behind (Some x) ys y h = later x ys y h

pub in_filter_map : {X Y : Type 0} (f : X → Option Y) (xs : List X) (y : Y) → Contains (filter_map f xs) y → (x : X) × Contains xs x × (f x ≡ Some y)
in_filter_map f [] y h = absurd (none_in y h)
in_filter_map {X} {Y} f (x ∷ xs) y h = by (in_filter_map f xs y) (f x) refl h
  where
    by : (Contains (filter_map f xs) y → (z : X) × Contains xs z × (f z ≡ Some y)) → (o : Option Y) → f x ≡ o
        → Contains (cons_option o (filter_map f xs)) y → (z : X) × Contains (x ∷ xs) z × (f z ≡ Some y)
    by rest None e k = let r = rest k in (r.0, later x xs r.0 r.1, r.2)
    by rest (Some v) e k = elim (first_or_later v (filter_map f xs) y k) [
      | inl s ↦ (x, first_of x xs, e ∙ ap Some s)
      | inr p ↦ let r = rest p in (r.0, later x xs r.0 r.1, r.2)
    ]

pub to_filter_map : {X Y : Type 0} (f : X → Option Y) (xs : List X) (x : X) (y : Y) → Contains xs x → f x ≡ Some y → Contains (filter_map f xs) y
to_filter_map f [] x y h e = absurd (none_in x h)
to_filter_map {X} {Y} f (z ∷ zs) x y h e = by (to_filter_map f zs x y) (first_or_later z zs x h)
  where
    by : (Contains zs x → f x ≡ Some y → Contains (filter_map f zs) y) → (z ≡ x) ⊎ Contains zs x → Contains (cons_option (f z) (filter_map f zs)) y
    by rest (inl s) = subst (λ (o : Option Y). Contains (cons_option o (filter_map f zs)) y) (sym (ap f s ∙ e)) (first_of y (filter_map f zs))
    by rest (inr p) = behind (f z) (filter_map f zs) y (rest p e)

-- ---- filter

pub in_filter : {X : Type 0} (p : X → Bool) (xs : List X) (x : X) → Contains (filter p xs) x → Contains xs x × (p x ≡ true)
in_filter p [] x h = absurd (none_in x h)
in_filter {X} p (y ∷ ys) x h = by (in_filter p ys x) (p y) refl h
  where
    by : (Contains (filter p ys) x → Contains ys x × (p x ≡ true)) → (b : Bool) → p y ≡ b
        → Contains (cond b (y ∷ filter p ys) (filter p ys)) x → Contains (y ∷ ys) x × (p x ≡ true)
    by rest true e k = elim (first_or_later y (filter p ys) x k) [
      | inl s ↦ (subst (Contains (y ∷ ys)) s (first_of y ys), sym (ap p s) ∙ e)
      | inr c ↦ let r = rest c in (later y ys x r.0, r.1)
    ]
    by rest false e k = let r = rest k in (later y ys x r.0, r.1)

pub to_filter : {X : Type 0} (p : X → Bool) (xs : List X) (x : X) → Contains xs x → p x ≡ true → Contains (filter p xs) x
to_filter p [] x h e = absurd (none_in x h)
to_filter {X} p (y ∷ ys) x h e = by (to_filter p ys x) (first_or_later y ys x h)
  where
    kept : (b : Bool) → Contains (filter p ys) x → Contains (cond b (y ∷ filter p ys) (filter p ys)) x
    kept true k = later y (filter p ys) x k
    kept false k = k

    by : (Contains ys x → p x ≡ true → Contains (filter p ys) x) → (y ≡ x) ⊎ Contains ys x → Contains (cond (p y) (y ∷ filter p ys) (filter p ys)) x
    by rest (inl s) = subst (λ (b : Bool). Contains (cond b (y ∷ filter p ys) (filter p ys)) x) (sym (ap p s ∙ e))
        (subst (λ (z : X). Contains (y ∷ filter p ys) z) s (first_of y (filter p ys)))
    by rest (inr c) = kept (p y) (rest c e)

-- ---- tests

pub in_any : {X : Type 0} (p : X → Bool) (xs : List X) → list_any p xs ≡ true → (x : X) × Contains xs x × (p x ≡ true)
in_any p [] h = cc
in_any {X} p (y ∷ ys) h = by (in_any p ys) (p y) refl h
  where
    by : (list_any p ys ≡ true → (x : X) × Contains ys x × (p x ≡ true)) → (b : Bool) → p y ≡ b → (b || list_any p ys) ≡ true
        → (x : X) × Contains (y ∷ ys) x × (p x ≡ true)
    by rest true e k = (y, first_of y ys, e)
    by rest false e k = let r = rest k in (r.0, later y ys r.0 r.1, r.2)

pub to_any : {X : Type 0} (p : X → Bool) (xs : List X) (x : X) → Contains xs x → p x ≡ true → list_any p xs ≡ true
to_any p [] x h e = absurd (none_in x h)
to_any {X} p (y ∷ ys) x h e = by (to_any p ys x) (first_or_later y ys x h)
  where
    kept : (b : Bool) → list_any p ys ≡ true → (b || list_any p ys) ≡ true
    kept true k = refl
    kept false k = k

    by : (Contains ys x → p x ≡ true → list_any p ys ≡ true) → (y ≡ x) ⊎ Contains ys x → (p y || list_any p ys) ≡ true
    by rest (inl s) = ap (λ b. b || list_any p ys) (ap p s ∙ e)
    by rest (inr c) = kept (p y) (rest c e)

-- ---- lists place by place

pub zip_left : {A B : Type 0} (R : A → B → Type 0) (xs : List A) (ys : List B) (x : A) → AllZip R xs ys → Contains xs x → (y : B) × Contains ys y × R x y
zip_left R [] ys x h c = absurd (none_in x c)
zip_left R (a ∷ xs) [] x h c = absurd h
zip_left {A} {B} R (a ∷ xs) (b ∷ ys) x h c = by (zip_left R xs ys x h.1) (first_or_later a xs x c)
  where
    by : (Contains xs x → (y : B) × Contains ys y × R x y) → (a ≡ x) ⊎ Contains xs x → (y : B) × Contains (b ∷ ys) y × R x y
    by rest (inl s) = (b, first_of b ys, subst (λ (z : A). R z b) s h.0)
    by rest (inr p) = let r = rest p in (r.0, later b ys r.0 r.1, r.2)

pub zip_right : {A B : Type 0} (R : A → B → Type 0) (xs : List A) (ys : List B) (y : B) → AllZip R xs ys → Contains ys y → (x : A) × Contains xs x × R x y
zip_right R xs [] y h c = absurd (none_in y c)
zip_right R [] (b ∷ ys) y h c = absurd h
zip_right {A} {B} R (a ∷ xs) (b ∷ ys) y h c = by (zip_right R xs ys y h.1) (first_or_later b ys y c)
  where
    by : (Contains ys y → (x : A) × Contains xs x × R x y) → (b ≡ y) ⊎ Contains ys y → (x : A) × Contains (a ∷ xs) x × R x y
    by rest (inl s) = (a, first_of a xs, subst (λ (z : B). R a z) s h.0)
    by rest (inr p) = let r = rest p in (r.0, later a xs r.0 r.1, r.2)
