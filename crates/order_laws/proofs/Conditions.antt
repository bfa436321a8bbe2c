-- Whether a flow condition fails for a process and a variable is decided.
use Rattle.std.proofs.Common.{◌≡◌, ℕ, ◌<◌, Bool, false, ◌||◌, List, length, inl, inr, refl}
use Rattle.std.proofs.lemmas.Bool.{or_cases}
use Rattle.std.proofs.Math.Decide.{map_dec, dec_lt, ℕ_discrete}
use Rattle.std.specs.Prelude.{IsTrue, Contains, slice_index_or}
use Rattle.std.specs.List.{list_any}
use Rattle.design_tree.specs.declared.design.Design.{Design}
use Rattle.circuit_run.specs.States.{Bit}
use Rattle.circuit_run.specs.Kinds.{settles, is_comb, is_clocked, is_initial}
use Rattle.design_meaning.specs.States.{IsBitOf}
use Rattle.design_meaning.specs.Paths.{Event, paths}
use Rattle.design_meaning.specs.Processes.{kind_of}
use Rattle.design_meaning.specs.Reach.{event_sets, event_defers, event_reads, somewhere, reads_bit, drives}
use Rattle.design_meaning.specs.Reach.{sets_var, defers_var, always_writes, reads_early}
use Rattle.design_meaning.specs.Flow.{clash, HasTwoDrivers, IsMixed, IsShared, IsNotPrivate, IsLatch, IsReadBeforeWrite}
use Rattle.order_laws.proofs.Decisions.{both, either, denied, told, untold, some_below}
use Rattle.order_laws.proofs.Bits.{numbered, some_bit}

contains : (xs : List ℕ) (x : ℕ) → Dec (Contains xs x)
contains xs x = map_dec (λ h. (h.0, h.1.0, h.1.1)) (λ h. (h.0, (h.1, h.2)))
    (some_below (λ k. (k < length xs) × (slice_index_or xs k x ≡ x))
    (λ k. both (dec_lt k (length xs)) (ℕ_discrete (slice_index_or xs k x) x)) (length xs) (λ k h. h.0))

module _ (d : Design) where
  -- only a process of the design has an event on a path
  pub has_number : (test : Event → Bool) (p : ℕ) → IsTrue (somewhere test d p) → p < length d.processes
  has_number test p h = numbered d (λ x. list_any (list_any test) (paths x.body)) refl p h

  module _ (p v : ℕ) where
    abbrev Driven : ℕ → Bit → Type 0
    Driven other b = (b.var ≡ v) × (IsTrue (drives d p b) × IsTrue (drives d other b))

    abbrev Other : ℕ → Type 0
    Other other = (other < p) × (IsTrue (clash (kind_of d p) (kind_of d other)) × ((b : Bit) × IsBitOf d b × Driven other b))

    other_driver : (other : ℕ) → Dec (Other other)
    other_driver other = both (dec_lt other p) (both (told (clash (kind_of d p) (kind_of d other)))
        (some_bit d (Driven other) (λ b. both (ℕ_discrete b.var v) (both (told (drives d p b)) (told (drives d other b))))))

    pub two_drivers_told : Dec (HasTwoDrivers d p v)
    two_drivers_told = map_dec
        (λ h. record {
          other = h.0;
          less = h.1.0;
          kinds = h.1.1.0;
          shared = h.1.1.1.0;
          of_variable = h.1.1.1.2.0;
          here = h.1.1.1.1;
          driven = h.1.1.1.2.1.0;
          by_other = h.1.1.1.2.1.1;
        })
        (λ h. (h.other, (h.less, (h.kinds, (h.shared, h.here, (h.of_variable, (h.driven, h.by_other)))))))
        (some_below Other other_driver p (λ k h. h.0))

    pub mixed_told : Dec (IsMixed d p v)
    mixed_told = map_dec (λ h. record { deferred = h.0; kinds = h.1 }) (λ h. (h.deferred, h.kinds))
        (both (told (defers_var d p v)) (either (told (is_comb (kind_of d p))) (both (told (is_clocked (kind_of d p))) (told (sets_var d p v)))))

    abbrev Read : ℕ → Bit → Type 0
    Read other b = (b.var ≡ v) × IsTrue (reads_bit d other b)

    shared : (other : ℕ) → Dec (IsShared d p v other)
    shared other = map_dec (λ h. record { apart = h.0; kinds = h.1.0; touched = h.1.1 }) (λ h. (h.apart, (h.kinds, h.touched)))
        (both (denied (ℕ_discrete other p)) (both (untold (is_initial (kind_of d other)))
        (either (map_dec (λ h. (h.0, h.1, h.2.0, h.2.1)) (λ h. (h.0, h.1, (h.2, h.3)))
        (some_bit d (Read other) (λ b. both (ℕ_discrete b.var v) (told (reads_bit d other b)))))
        (told (sets_var d other v || defers_var d other v)))))

    shared_by : (other : ℕ) → IsShared d p v other → other < length d.processes
    shared_by other h = elim h.touched [
      | inl read ↦ has_number (event_reads read.0) other read.3
      | inr written ↦ elim (or_cases (sets_var d other v) (defers_var d other v) written) [
        | inl now ↦ has_number (event_sets v) other now
        | inr later ↦ has_number (event_defers v) other later
      ]
    ]

    pub not_private_told : Dec (IsNotPrivate d p v)
    not_private_told = map_dec (λ h. record { kinds = h.0; assigned = h.1.0; seen = h.1.1 }) (λ h. (h.kinds, (h.assigned, h.seen)))
        (both (told (is_clocked (kind_of d p))) (both (told (sets_var d p v))
        (either (some_below (IsShared d p v) shared (length d.processes) shared_by) (contains d.outputs v))))

    abbrev Kept : Bit → Type 0
    Kept b = (b.var ≡ v) × (IsTrue (drives d p b) × (always_writes d p b ≡ false))

    pub latch_told : Dec (IsLatch d p v)
    latch_told = map_dec
        (λ h. record { kinds = h.0; kept = h.1.0; of_variable = h.1.2.0; here = h.1.1; driven = h.1.2.1.0; unwritten = h.1.2.1.1 })
        (λ h. (h.kinds, (h.kept, h.here, (h.of_variable, (h.driven, h.unwritten)))))
        (both (told (settles (kind_of d p)))
        (some_bit d Kept (λ b. both (ℕ_discrete b.var v) (both (told (drives d p b)) (untold (always_writes d p b))))))

    abbrev Early : Bit → Type 0
    Early b = (b.var ≡ v) × (IsTrue (drives d p b) × IsTrue (reads_early d p b))

    pub read_before_write_told : Dec (IsReadBeforeWrite d p v)
    read_before_write_told = map_dec
        (λ h. record { kinds = h.0; early = h.1.0; of_variable = h.1.2.0; here = h.1.1; driven = h.1.2.1.0; read = h.1.2.1.1 })
        (λ h. (h.kinds, (h.early, h.here, (h.of_variable, (h.driven, h.read)))))
        (both (told (is_comb (kind_of d p)))
        (some_bit d Early (λ b. both (ℕ_discrete b.var v) (both (told (drives d p b)) (told (reads_early d p b))))))
