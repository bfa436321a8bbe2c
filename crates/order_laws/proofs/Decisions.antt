-- Facts that are decided: they hold, or they don't.
use Rattle.std.proofs.Common.{◌≡◌, ℕ, zero, suc, ◌<◌, ◌⊎◌, inl, inr, Bool, true, false, refl, subst, arith}
use Rattle.std.proofs.lemmas.Bool.{cases_order, true≢false, false≢true}
use Rattle.std.specs.Prelude.{IsTrue}

pub both : {A B : Type 0} → Dec A → Dec B → Dec (A × B)
both (no n) b = no (λ h. n h.0)
both (yes a) (no n) = no (λ h. n h.1)
both (yes a) (yes b) = yes (a, b)

pub either : {A B : Type 0} → Dec A → Dec B → Dec (A ⊎ B)
either (yes a) b = yes (inl a)
either (no n) (yes b) = yes (inr b)
either (no n) (no m) = no (λ h. elim h [
  | inl a ↦ n a
  | inr b ↦ m b
])

pub denied : {A : Type 0} → Dec A → Dec (A → ⊥)
denied (yes a) = no (λ h. h a)
denied (no n) = yes n

pub told : (b : Bool) → Dec (IsTrue b)
told true = yes refl
told false = no false≢true

pub untold : (b : Bool) → Dec (b ≡ false)
untold true = no true≢false
untold false = yes refl

-- ---- numbers

-- the least number that has a property
pub record IsLeastOf (P : ℕ → Type 0) (k : ℕ) : Type 0 where
  pub holds : P k
  pub least : (j : ℕ) → j < k → P j → ⊥

-- the least number that has it, or none below n does
pub least_below : (P : ℕ → Type 0) → ((k : ℕ) → Dec (P k)) → (n : ℕ) → ((k : ℕ) × IsLeastOf P k) ⊎ ((k : ℕ) → k < n → P k → ⊥)
least_below P decides zero = inr (λ k lt h. absurd (omega (arith, lt)))
least_below P decides (suc n) = elim (least_below P decides n) [
  | inl found ↦ inl found
  | inr none ↦ elim (decides n) [
    | yes here ↦ inl (n, record { holds = here; least = none })
    | no past ↦ inr (λ k lt h. elim (cases_order k n) [
      | inl e ↦ past (subst P e h)
      | inr o ↦ elim o [
        | inl less ↦ none k less h
        | inr more ↦ absurd (omega (arith, lt, more))
      ]
    ])
  ]
]

-- whether some number has it, where all that do are below n
pub some_below : (P : ℕ → Type 0) → ((k : ℕ) → Dec (P k)) → (n : ℕ) → ((k : ℕ) → P k → k < n) → Dec ((k : ℕ) × P k)
some_below P decides n within = elim (least_below P decides n) [
  | inl found ↦ yes (found.0, found.1.holds)
  | inr none ↦ no (λ h. none h.0 (within h.0 h.1) h.1)
]
