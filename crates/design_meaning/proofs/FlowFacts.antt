-- What the flow conditions say of the assignments and combinational processes of a design.
use Rattle.std.proofs.Common.{◌≡◌, refl, ℕ, ◌⊎◌, inl, inr, Bool, true, false, not, ◌||◌, ◌&&◌, [], ◌∷◌}
use Rattle.std.proofs.lemmas.Bool.{cases_order, cases_Bool}
use Rattle.std.specs.Prelude.{IsTrue}
use Rattle.cov_types.specs.declared.kind.ProcessKind.{ProcessKind}
use Rattle.cov_types.specs.declared.kind.ProcessKind.TheVariants as kind
use Rattle.design_tree.specs.declared.design.Design.{Design}
use Rattle.circuit_run.specs.States.{Bit}
use Rattle.design_meaning.specs.States.{IsBitOf}
use Rattle.circuit_run.specs.Kinds.{settles, is_assign, is_comb, is_initial}
use Rattle.design_meaning.specs.Processes.{kind_of}
use Rattle.design_meaning.specs.Reach.{drives, always_writes, reads_early}
use Rattle.design_meaning.specs.Flow.{clash}
use Rattle.design_meaning.specs.FlowFaults.{Flows}
use Rattle.design_meaning.specs.RunLaws.{EarlyReadsAreReads}

or_mid : (x y z : Bool) → y ≡ true → ((x || y) || z) ≡ true
or_mid true y z h = refl
or_mid false true z h = refl
or_mid false false z h = absurd cc

clash_settles : (a b : ProcessKind) → IsTrue (settles a) → IsTrue (clash a b)
clash_settles a b h = or_mid (not (is_initial a) && not (is_initial b)) (settles a) (settles b) h

-- an assignment or a combinational process
which : (k : ProcessKind) → IsTrue (settles k) → IsTrue (is_assign k) ⊎ IsTrue (is_comb k)
which kind.Assign h = inl refl
which kind.Comb h = inr refl
which kind.Clocked h = absurd cc
which kind.Initial h = absurd cc
which kind.Cover h = absurd cc

abbrev pub Settling : Design → ℕ → Type 0
Settling d p = IsTrue (settles (kind_of d p))

module _ (d : Design) (flows : Flows d) where
  -- no bit is driven by two of them
  pub alone : (p q : ℕ) (b : Bit) → Settling d p → Settling d q → IsBitOf d b → IsTrue (drives d p b) → IsTrue (drives d q b) → p ≡ q
  alone p q b sp sq hb dp dq = elim (cases_order p q) [
    | inl e ↦ e
    | inr o ↦ elim o [
      | inl less ↦ absurd (flows.one_driver q b.var
          (record {
            other = p;
            less = less;
            kinds = clash_settles (kind_of d q) (kind_of d p) sq;
            shared = b;
            of_variable = refl;
            here = hb;
            driven = dq;
            by_other = dp;
          }))
      | inr more ↦ absurd (flows.one_driver p b.var
          (record {
            other = q;
            less = more;
            kinds = clash_settles (kind_of d p) (kind_of d q) sp;
            shared = b;
            of_variable = refl;
            here = hb;
            driven = dp;
            by_other = dq;
          }))
    ]
  ]

  -- a driven bit is written on every path
  pub written : (p : ℕ) (b : Bit) → Settling d p → IsBitOf d b → IsTrue (drives d p b) → IsTrue (always_writes d p b)
  written p b sp hb dp = elim (cases_Bool (always_writes d p b)) [
    | inl yes' ↦ yes'
    | inr no' ↦ absurd (flows.no_latch p b.var (record { kinds = sp; kept = b; of_variable = refl; here = hb; driven = dp; unwritten = no' }))
  ]

  -- a bit that is read early is not driven by the process itself
  pub not_own : EarlyReadsAreReads → (p : ℕ) (b : Bit) → Settling d p → IsBitOf d b → IsTrue (reads_early d p b) → IsTrue (drives d p b) → ⊥
  not_own reads p b sp hb rp dp = elim (which (kind_of d p) sp) [
    | inl assign ↦ flows.no_loop p (p ∷ [], (refl, record { from = sp; to = sp; apart = inr assign; along = b; here = hb; driven = dp; read = reads d p b rp }))
    | inr comb ↦ flows.written_first p b.var (record { kinds = comb; early = b; of_variable = refl; here = hb; driven = dp; read = rp })
  ]
