-- Each design flows, or has a fault.
use Rattle.std.proofs.Common.{ℕ, ◌<◌, ◌⊎◌, inl, inr, length, subst, refl}
use Rattle.design_tree.specs.declared.design.Design.{Design}
use Rattle.circuit_run.specs.Kinds.{settles, is_comb, is_clocked}
use Rattle.design_meaning.specs.Reach.{event_drives, event_defers}
use Rattle.design_meaning.specs.Flow.{Condition, HasTwoDrivers, IsMixed, IsNotPrivate, IsLatch, IsReadBeforeWrite, IsOnCycle}
use Rattle.design_meaning.specs.FlowFaults.{Keeps, IsLeast, two_drivers, mixed_driver, not_private, latch, read_before_write, comb_loop}
use Rattle.design_meaning.specs.SettledLaws.{FlowsOrFaults}
use Rattle.order_laws.proofs.Decisions.{least_below, some_below}
use Rattle.order_laws.proofs.Bits.{numbered}
use Rattle.order_laws.proofs.Bounds.{above_all, set_below, deferred_below}
use Rattle.order_laws.proofs.Circles.{on_circle, circles_below}
use Rattle.order_laws.proofs.Conditions.{has_number, two_drivers_told, mixed_told, not_private_told, latch_told, read_before_write_told}

-- it fails for no process and variable, or for a least process and then a least variable
abbrev KeptOrNot : Condition → Design → Type 0
KeptOrNot Fails d = Keeps Fails d ⊎ ((p : ℕ) × (v : ℕ) × IsLeast Fails d p v)

-- so each condition that is decided and fails only below bounds
kept_or_not : (Fails : Condition) (d : Design) → ((p v : ℕ) → Dec (Fails d p v)) → (bound : ℕ → ℕ)
    → ((p v : ℕ) → Fails d p v → (p < length d.processes) × (v < bound p)) → KeptOrNot Fails d
kept_or_not Fails d decides bound within = elim (least_below (λ p. (v : ℕ) × Fails d p v) some (length d.processes)) [
  | inr none ↦ inl (λ p v f. none p (within p v f).0 (v, f))
  | inl found ↦ elim (least_below (Fails d found.0) (decides found.0) (bound found.0)) [
    | inr none ↦ let f : (v : ℕ) × Fails d found.0 v = found.1.holds in absurd (none f.0 (within found.0 f.0 f.1).1 f.1)
    | inl least ↦ inr (
      found.0,
      least.0,
      record { fails = least.1.holds; least_process = λ q w less f. found.1.least q less (w, f); least_variable = least.1.least },
    )
  ]
]
  where
    some : (p : ℕ) → Dec ((v : ℕ) × Fails d p v)
    some p = some_below (Fails d p) (decides p) (bound p) (λ v f. (within p v f).1)

module _ (d : Design) where
  abbrev all_variables : ℕ → ℕ
  all_variables p = length d.vars

  two_drivers_or_not : KeptOrNot HasTwoDrivers d
  two_drivers_or_not = kept_or_not HasTwoDrivers d (two_drivers_told d) all_variables
      (λ p v f. (has_number d (event_drives f.shared) p f.driven, subst (λ x. x < length d.vars) f.of_variable f.here.of_variable))

  mixed_or_not : KeptOrNot IsMixed d
  mixed_or_not = kept_or_not IsMixed d (mixed_told d) (above_all d) (λ p v f. (has_number d (event_defers v) p f.deferred, deferred_below d p v f.deferred))

  private_or_not : KeptOrNot IsNotPrivate d
  private_or_not = kept_or_not IsNotPrivate d (not_private_told d) (above_all d)
      (λ p v f. (numbered d (λ x. is_clocked x.kind) refl p f.kinds, set_below d p v f.assigned))

  latch_or_not : KeptOrNot IsLatch d
  latch_or_not = kept_or_not IsLatch d (latch_told d) all_variables
      (λ p v f. (numbered d (λ x. settles x.kind) refl p f.kinds, subst (λ x. x < length d.vars) f.of_variable f.here.of_variable))

  early_or_not : KeptOrNot IsReadBeforeWrite d
  early_or_not = kept_or_not IsReadBeforeWrite d (read_before_write_told d) all_variables
      (λ p v f. (numbered d (λ x. is_comb x.kind) refl p f.kinds, subst (λ x. x < length d.vars) f.of_variable f.here.of_variable))

pub flows_or_faults : FlowsOrFaults
flows_or_faults d valid = elim (two_drivers_or_not d) [
  | inr a ↦ inr (two_drivers a.0 a.1, a.2)
  | inl one ↦ elim (mixed_or_not d) [
    | inr a ↦ inr (mixed_driver a.0 a.1, (one, a.2))
    | inl pure ↦ elim (private_or_not d) [
      | inr a ↦ inr (not_private a.0 a.1, (one, pure, a.2))
      | inl own ↦ elim (latch_or_not d) [
        | inr a ↦ inr (latch a.0 a.1, (one, pure, own, a.2))
        | inl full ↦ elim (early_or_not d) [
          | inr a ↦ inr (read_before_write a.0 a.1, (one, pure, own, full, a.2))
          | inl first ↦ elim (least_below (IsOnCycle d) (on_circle d) (length d.processes)) [
            | inr none ↦ inl (record {
              one_driver = one;
              not_mixed = pure;
              private = own;
              no_latch = full;
              written_first = first;
              no_loop = λ p c. none p (circles_below d p c) c;
            })
            | inl found ↦ inr (
              comb_loop found.1.holds.0,
              (one, pure, own, full, first, record { first = found.0; circle = found.1.holds.1; least = found.1.least }),
            )
          ]
        ]
      ]
    ]
  ]
]
