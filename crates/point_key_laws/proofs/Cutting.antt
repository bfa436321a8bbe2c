-- A text without signs, before a rest that begins with a sign or is empty, is told by the whole.
use Rattle.std.proofs.Common.{◌≡◌, ℕ, Bool, true, false, List, [], ◌∷◌, ◌++◌, refl, sym, ◌∙◌, ap, ap₂}
use Rattle.std.specs.Prelude.{⊤}
use Rattle.std.specs.List.{AllByRecursion}
use Rattle.std.proofs.lemmas.Bool.{true≢false}

-- a text without signs
abbrev pub HasNone : (ℕ → Bool) → List ℕ → Type 0
HasNone is_sign bs = AllByRecursion (λ b. is_sign b ≡ false) bs

-- what is empty or begins with a sign
abbrev pub EndsText : (ℕ → Bool) → List ℕ → Type 0
EndsText is_sign [] = ⊤
EndsText is_sign (b ∷ bs) = is_sign b ≡ true

pub all-append : (P : ℕ → Type 0) (xs ys : List ℕ) → AllByRecursion P xs → AllByRecursion P ys → AllByRecursion P (xs ++ ys)
all-append P [] ys a b = b
all-append P (x ∷ xs) ys a b = (a.0, all-append P xs ys a.1 b)

pub all-weaker : (P Q : ℕ → Type 0) (xs : List ℕ) → ((x : ℕ) → P x → Q x) → AllByRecursion P xs → AllByRecursion Q xs
all-weaker P Q [] how a = tt
all-weaker P Q (x ∷ xs) how a = (how x a.0, all-weaker P Q xs how a.1)

module _ (is_sign : ℕ → Bool) where
  no_front : (b : ℕ) (bs r : List ℕ) → is_sign b ≡ false → EndsText is_sign r → r ≡ b ∷ bs → ⊥
  no_front b bs [] plain ends is = absurd (cc)
  no_front b bs (c ∷ cs) plain ends is = let same : c ≡ b = cc in true≢false (sym ends ∙ (ap is_sign same ∙ plain))

  pub cut : (xs ys r s : List ℕ) → HasNone is_sign xs → HasNone is_sign ys → EndsText is_sign r → EndsText is_sign s → xs ++ r ≡ ys ++ s
      → (xs ≡ ys) × (r ≡ s)
  cut [] [] r s a b e f is = (refl, is)
  cut [] (y ∷ ys) r s a b e f is = absurd (no_front y (ys ++ s) r b.0 e is)
  cut (x ∷ xs) [] r s a b e f is = absurd (no_front x (xs ++ r) s a.0 f (sym is))
  cut (x ∷ xs) (y ∷ ys) r s a b e f is =
      let head : x ≡ y = cc in
      let tail : xs ++ r ≡ ys ++ s = cc in
      let more = cut xs ys r s a.1 b.1 e f tail in
      (ap₂ (λ (z : ℕ) (zs : List ℕ). z ∷ zs) head more.0, more.1)
