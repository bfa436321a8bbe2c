use Rattle.std.proofs.Common.{◌≡◌, ℕ, Bool, true, false, not, cond, ◌||◌, List, [], ◌∷◌, ◌++◌, filter, refl, sym, ap, ◌∙◌}
use Rattle.std.specs.List.{AllByRecursion, IsDistinct, list_any}
use Rattle.std.specs.Str.{bytes_eq}
use Rattle.std.proofs.lemmas.Cmp.{nat_list_eq_equiv}
use Rattle.cov_dat.specs.Merging.{first_keys}

-- the keys but this one
abbrev pub without : List ℕ → List (List ℕ) → List (List ℕ)
without key ks = filter (λ q. not (bytes_eq key q)) ks

-- to take another key out leaves a key where it is
pub any-without : (q x : List ℕ) (ks : List (List ℕ)) → bytes_eq q x ≡ false → list_any (bytes_eq q) (without x ks) ≡ list_any (bytes_eq q) ks
any-without q x [] apart = refl
any-without q x (k ∷ ks) apart =
    elim (bytes_eq x k) as (λ t. bytes_eq x k ≡ t
    → list_any (bytes_eq q) (cond (not t) (k ∷ without x ks) (without x ks)) ≡ (bytes_eq q k || list_any (bytes_eq q) ks)) [
      | true ↦ λ is.
          let other : bytes_eq q k ≡ false = nat_list_eq_equiv.symm q k ∙ nat_list_eq_equiv.congr k x q (nat_list_eq_equiv.symm k x ∙ is)
          ∙ nat_list_eq_equiv.symm x q ∙ apart in
          any-without q x ks apart ∙ ap (λ (t : Bool). t || list_any (bytes_eq q) ks) (sym other)
      | false ↦ λ is. ap (λ (t : Bool). bytes_eq q k || t) (any-without q x ks apart)
    ] refl

-- the first keys are the keys
pub any-first_keys : (q : List ℕ) (ks : List (List ℕ)) → list_any (bytes_eq q) (first_keys ks) ≡ list_any (bytes_eq q) ks
any-first_keys q [] = refl
any-first_keys q (k ∷ ks) =
    elim (bytes_eq q k) as (λ t. bytes_eq q k ≡ t → (t || list_any (bytes_eq q) (without k (first_keys ks))) ≡ (t || list_any (bytes_eq q) ks)) [
      | true ↦ λ is. refl
      | false ↦ λ is. any-without q k (first_keys ks) is ∙ any-first_keys q ks
    ] refl

-- a key is taken out of both parts of a list
without-append : (x : List ℕ) (ks ls : List (List ℕ)) → without x (ks ++ ls) ≡ without x ks ++ without x ls
without-append x [] ls = refl
without-append x (k ∷ ks) ls =
    elim (bytes_eq x k) as (λ t. cond (not t) (k ∷ without x (ks ++ ls)) (without x (ks ++ ls))
    ≡ cond (not t) (k ∷ without x ks) (without x ks) ++ without x ls) [
      | true ↦ without-append x ks ls
      | false ↦ ap (λ (ms : List (List ℕ)). k ∷ ms) (without-append x ks ls)
    ]

-- nothing behind a list changes nothing
no_more : (ks : List (List ℕ)) → ks ++ [] ≡ ks
no_more [] = refl
no_more (k ∷ ks) = ap (λ (ls : List (List ℕ)). k ∷ ls) (no_more ks)

-- the keys with one more behind them, where it is new
abbrev pub with_key : List (List ℕ) → List ℕ → List (List ℕ)
with_key ks k = cond (list_any (bytes_eq k) ks) ks (ks ++ k ∷ [])

-- the key that is taken out anyway may stand behind the others or not
without-same : (t : Bool) (x k : List ℕ) (ks : List (List ℕ)) → bytes_eq x k ≡ true → without x (cond t ks (ks ++ k ∷ [])) ≡ without x ks
without-same true x k ks same = refl
without-same false x k ks same = without-append x ks (k ∷ []) ∙ ap (λ (t : Bool). without x ks ++ cond (not t) (k ∷ []) []) same ∙ no_more (without x ks)

-- another key that goes last still does once a key is taken out
without-other : (t : Bool) (x k : List ℕ) (ks : List (List ℕ)) → bytes_eq x k ≡ false
    → without x (cond t ks (ks ++ k ∷ [])) ≡ cond t (without x ks) (without x ks ++ k ∷ [])
without-other true x k ks apart = refl
without-other false x k ks apart = without-append x ks (k ∷ []) ∙ ap (λ (t : Bool). without x ks ++ cond (not t) (k ∷ []) []) apart

-- a key in front goes in front of both lists
onto-with : (t : Bool) (x k : List ℕ) (ks : List (List ℕ)) → x ∷ cond t ks (ks ++ k ∷ []) ≡ cond t (x ∷ ks) (x ∷ ks ++ k ∷ [])
onto-with true x k ks = refl
onto-with false x k ks = refl

-- one key more at the end is one first key more, where it is new
pub first_keys-push : (ks : List (List ℕ)) (k : List ℕ) → first_keys (ks ++ k ∷ []) ≡ with_key (first_keys ks) k
first_keys-push [] k = refl
first_keys-push (x ∷ ks) k =
    let fs = first_keys ks in
    ap (λ (ls : List (List ℕ)). x ∷ without x ls) (first_keys-push ks k)
    ∙ elim (bytes_eq k x) as (λ t. bytes_eq k x ≡ t
    → x ∷ without x (with_key fs k) ≡ cond (t || list_any (bytes_eq k) (without x fs)) (x ∷ without x fs) (x ∷ without x fs ++ k ∷ [])) [
      | true ↦ λ is. ap (λ (ls : List (List ℕ)). x ∷ ls) (without-same (list_any (bytes_eq k) fs) x k fs (nat_list_eq_equiv.symm x k ∙ is))
      | false ↦ λ is. ap (λ (ls : List (List ℕ)). x ∷ ls) (without-other (list_any (bytes_eq k) fs) x k fs (nat_list_eq_equiv.symm x k ∙ is))
          ∙ ap (λ (t : Bool). x ∷ cond t (without x fs) (without x fs ++ k ∷ [])) (sym (any-without k x fs is))
          ∙ onto-with (list_any (bytes_eq k) (without x fs)) x k (without x fs)
    ] refl

-- what is left differs from the key that was taken out
apart-without : (x : List ℕ) (ks : List (List ℕ)) → AllByRecursion (λ y. bytes_eq x y ≡ false) (without x ks)
apart-without x [] = tt
apart-without x (k ∷ ks) =
    elim (bytes_eq x k) as (λ t. bytes_eq x k ≡ t → AllByRecursion (λ y. bytes_eq x y ≡ false) (cond (not t) (k ∷ without x ks) (without x ks))) [
      | true ↦ λ is. apart-without x ks
      | false ↦ λ is. (is, apart-without x ks)
    ] refl

-- what holds of all keys holds of those that are left
all-without : (P : List ℕ → Type 0) (x : List ℕ) (ks : List (List ℕ)) → AllByRecursion P ks → AllByRecursion P (without x ks)
all-without P x [] all = tt
all-without P x (k ∷ ks) all =
    elim (bytes_eq x k) as (λ t. AllByRecursion P (cond (not t) (k ∷ without x ks) (without x ks))) [
      | true ↦ all-without P x ks all.1
      | false ↦ (all.0, all-without P x ks all.1)
    ]

-- distinct keys stay distinct
distinct-without : (x : List ℕ) (ks : List (List ℕ)) → IsDistinct bytes_eq ks → IsDistinct bytes_eq (without x ks)
unfolding IsDistinct
distinct-without x [] distinct = tt
distinct-without x (k ∷ ks) distinct =
    elim (bytes_eq x k) as (λ t. IsDistinct bytes_eq (cond (not t) (k ∷ without x ks) (without x ks))) [
      | true ↦ distinct-without x ks distinct.1
      | false ↦ (all-without (λ y. bytes_eq k y ≡ false) x ks distinct.0, distinct-without x ks distinct.1)
    ]

-- no first key stands twice
pub first_keys-distinct : (ks : List (List ℕ)) → IsDistinct bytes_eq (first_keys ks)
unfolding IsDistinct
first_keys-distinct [] = tt
first_keys-distinct (k ∷ ks) = (apart-without k (first_keys ks), distinct-without k (first_keys ks) (first_keys-distinct ks))
