-- What ascends is told by its last.
use Rattle.std.proofs.Common.{◌≡◌, ℕ, Bool, true, false, List, [], ◌∷◌, ◌++◌, Some, refl, sym, ◌∙◌, ap, arith}
use Rattle.std.specs.Prelude.{◌&&◌, nat_lt}
use Rattle.std.specs.List.{list_all}
use Rattle.std.proofs.lemmas.Bool.{true≢false}
use Rattle.std.proofs.lemmas.Bool.Decides.{nat_tests}
use Rattle.std.specs.Ordering.{nat_cmp, is_lt}
use Rattle.std.specs.declared.cmp.Ordering.{Ordering}
use Rattle.std.specs.declared.cmp.Ordering.TheVariants.{Less, Equal, Greater}
use Rattle.std.specs.Cmp.Lexicographic.{slice_cmp, nat_list_cmp_total}
use Rattle.cvd_text.specs.Sections.{is_below}
use Rattle.cvd_sections.specs.Places.{IsLastOf}

pub all_of_joined : {A : Type 0} (p : A → Bool) (xs ys : List A) → list_all p (xs ++ ys) ≡ (list_all p xs && list_all p ys)
all_of_joined p [] ys = refl
all_of_joined p (x ∷ xs) ys = by (p x) (all_of_joined p xs ys)
  where
    by : (b : Bool) → list_all p (xs ++ ys) ≡ (list_all p xs && list_all p ys) → (b && list_all p (xs ++ ys)) ≡ ((b && list_all p xs) && list_all p ys)
    by true e = e
    by false e = refl

module _ {A K : Type 0} (below : K → K → Bool) (key_of : A → K) (passes : (a b c : K) → below a b ≡ true → below b c ≡ true → below a c ≡ true) where
  -- what is below one is below what that one is below
  all_pass : (xs : List A) (a b : K) → below a b ≡ true → list_all (λ x. below (key_of x) a) xs ≡ true → list_all (λ x. below (key_of x) b) xs ≡ true
  all_pass [] a b h e = refl
  all_pass (x ∷ xs) a b h e = by (below (key_of x) a) refl e (all_pass xs a b h)
    where
      by : (t : Bool) → below (key_of x) a ≡ t → (t && list_all (λ y. below (key_of y) a) xs) ≡ true
          → (list_all (λ y. below (key_of y) a) xs ≡ true → list_all (λ y. below (key_of y) b) xs ≡ true)
          → (below (key_of x) b && list_all (λ y. below (key_of y) b) xs) ≡ true
      by true p e later = ap (λ t. t && list_all (λ y. below (key_of y) b) xs) (passes (key_of x) a b p h) ∙ later e
      by false p e later = absurd (true≢false (sym e))

  pub last_of_more : (before : List A) (x : A) → list_all (λ y. below (key_of y) (key_of x)) before ≡ true
      → IsLastOf below key_of (before ++ x ∷ []) (Some (key_of x))
  last_of_more before x h key = all_of_joined (λ y. below (key_of y) key) before (x ∷ []) ∙ by (below (key_of x) key) refl
    where
      by : (t : Bool) → below (key_of x) key ≡ t → (list_all (λ y. below (key_of y) key) before && (t && true)) ≡ t
      by true p = ap (λ t. t && true) (all_pass before (key_of x) key p h)
      by false p = never (list_all (λ y. below (key_of y) key) before)
        where
          never : (b : Bool) → (b && false) ≡ false
          never true = refl
          never false = refl

pub less_passes : (a b c : ℕ) → nat_lt a b ≡ true → nat_lt b c ≡ true → nat_lt a c ≡ true
less_passes a b c h k = grind (arith, nat_tests)

less_when : (o : Ordering) → is_lt o ≡ true → o ≡ Less
less_when Less e = refl
less_when Equal e = absurd (true≢false (sym e))
less_when Greater e = absurd (true≢false (sym e))

pub below_passes : (a b c : List ℕ) → is_below a b ≡ true → is_below b c ≡ true → is_below a c ≡ true
below_passes a b c h k =
    ap is_lt (nat_list_cmp_total.trans a b c (less_when (slice_cmp nat_cmp a b) h) (less_when (slice_cmp nat_cmp b c) k))
