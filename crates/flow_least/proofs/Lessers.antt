-- The least number of one kind or another.
use Rattle.std.proofs.Common.{◌≡◌, ◌∙◌, sym, ap, subst, refl, ℕ, ◌<◌, ◌≤◌, ◌⊎◌, inl, inr, Bool, true, false, Option, Some, None, arith}
use Rattle.std.specs.Prelude.{nat_lt, if◌then◌else◌}
use Rattle.std.proofs.lemmas.Bool.{cases_lt}
use Rattle.std.proofs.lemmas.Bool.Decides.{nat_tests}
use Rattle.flow_least.specs.Least.{IsLeastOf, lesser_of}

pub least_same : (P Q : ℕ → Type 0) (a : Option ℕ) → ((v : ℕ) → P v → Q v) → ((v : ℕ) → Q v → P v) → IsLeastOf P a → IsLeastOf Q a
least_same P Q None f g h = λ v x. h v (g v x)
least_same P Q (Some v) f g h = (f v h.0, λ w l x. h.1 w l (g w x))

pub least_none : (P : ℕ → Type 0) → ((v : ℕ) → P v → ⊥) → IsLeastOf P None
least_none P h = h

chosen_left : (a b : ℕ) → a ≤ b → (if nat_lt b a then Some b else Some a) ≡ Some a
chosen_left a b h = grind (arith, nat_tests)

chosen_right : (a b : ℕ) → b < a → (if nat_lt b a then Some b else Some a) ≡ Some b
chosen_right a b h = grind (arith, nat_tests)

-- of one kind or of the other
pub least_both : (P Q : ℕ → Type 0) (a b : Option ℕ) → IsLeastOf P a → IsLeastOf Q b → IsLeastOf (λ v. P v ⊎ Q v) (lesser_of a b)
least_both P Q None None h k = λ v x. elim x [ inl p ↦ h v p | inr q ↦ k v q ]
least_both P Q None (Some b) h k = (inr k.0, λ w l x. elim x [ inl p ↦ h w p | inr q ↦ k.1 w l q ])
least_both P Q (Some a) None h k = (inl h.0, λ w l x. elim x [ inl p ↦ h.1 w l p | inr q ↦ k w q ])
least_both P Q (Some a) (Some b) h k = elim (cases_lt b a) [
  | inl l ↦ subst (IsLeastOf (λ v. P v ⊎ Q v)) (sym (chosen_right a b l)) (inr k.0, λ w m x. elim x [ inl p ↦ h.1 w (omega arith) p | inr q ↦ k.1 w m q ])
  | inr l ↦ subst (IsLeastOf (λ v. P v ⊎ Q v)) (sym (chosen_left a b l)) (inl h.0, λ w m x. elim x [ inl p ↦ h.1 w m p | inr q ↦ k.1 w (omega arith) q ])
]

-- one number more is of the kind
pub least_more : (P Q : ℕ → Type 0) (a : Option ℕ) (v : ℕ) → IsLeastOf P a → ((w : ℕ) → P w → Q w) → Q v → ((w : ℕ) → Q w → P w ⊎ (w ≡ v))
    → IsLeastOf Q (lesser_of a (Some v))
least_more P Q a v h f y g = least_same (λ w. P w ⊎ (w ≡ v)) Q (lesser_of a (Some v)) (λ w x. elim x [ inl p ↦ f w p | inr e ↦ subst Q (sym e) y ]) g
    (least_both P (λ w. w ≡ v) a (Some v) h (refl, λ w l e. absurd (omega (arith, l, e))))

pub lesser_assoc : (a b c : Option ℕ) → lesser_of (lesser_of a b) c ≡ lesser_of a (lesser_of b c)
lesser_assoc None b c = refl
lesser_assoc (Some a) None c = refl
lesser_assoc (Some a) (Some b) None = cut (nat_lt b a)
  where
    cut : (t : Bool) → lesser_of (if t then Some b else Some a) None ≡ (if t then Some b else Some a)
    cut true = refl
    cut false = refl
lesser_assoc (Some a) (Some b) (Some c) = elim (cases_lt b a) [
  | inl l ↦ elim (cases_lt c b) [
    | inl m ↦ rw (chosen_right a b l, chosen_right b c m) (sym (chosen_right a c (omega arith)))
    | inr m ↦ rw (chosen_right a b l, chosen_left b c m) (sym (chosen_right a b l))
  ]
  | inr l ↦ elim (cases_lt c b) [
    | inl m ↦ rw (chosen_left a b l, chosen_right b c m) refl
    | inr m ↦ rw (chosen_left a b l, chosen_left b c m) (chosen_left a c (omega arith) ∙ sym (chosen_left a b l))
  ]
]
