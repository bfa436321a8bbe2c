-- Two combinational processes, the first of which reads what the second drives: c = ~b, and b = ~a.
use Rattle.std.proofs.Common.{◌≡◌, ◌≢◌, ℕ, zero, suc, ◌<◌, [], ◌∷◌, refl, arith}
use Rattle.std.proofs.lemmas.Bool.{ne_eqb}
use Rattle.std.specs.Prelude.{IsTrue, codes, All, AllPairs, Contains}
use Rattle.bit_values.specs.Values.{number_of}
use Rattle.design_tree.specs.declared.operator.TypedUnary.TheVariants as unary
use Rattle.design_tree.specs.declared.typed.Typed.TheVariants as e
use Rattle.design_tree.specs.declared.step.Target.TheVariants as target
use Rattle.design_tree.specs.declared.step.Step.TheVariants as step
use Rattle.cov_types.specs.declared.kind.VarKind.TheVariants as var_kind
use Rattle.cov_types.specs.declared.kind.ProcessKind.TheVariants as kind
use Rattle.design_tree.specs.declared.design.Process.{Process}
use Rattle.design_tree.specs.declared.design.Design.{Design}
use Rattle.circuit_run.specs.States.{State, AreWordsOf, held}
use Rattle.design_meaning.specs.States.{IsStateOf, var_of}
use Rattle.design_meaning.specs.Steps.{run_of}
use Rattle.circuit_run.specs.Kinds.{settles, is_comb}
use Rattle.circuit_run.specs.Circuits.{states_after}
use Rattle.design_meaning.specs.Processes.{kind_of}
use Rattle.design_meaning.specs.Settled.{IsRegisterBit, IsUndrivenBit, IsSettled}
use Rattle.design_meaning.specs.Reach.{drives, reads_bit}
use Rattle.design_meaning.specs.Circuit.{circuit_of}
use Rattle.design_meaning.specs.Flow.{Leads}
use Rattle.design_meaning.specs.Orders.{IsOrder}
use Rattle.design_meaning.proofs.TypedFolds.{typed_folds}
use Rattle.design_meaning.proofs.StepFolds.{step_folds}
use Rattle.design_meaning.proofs.Equations.{all_do, all_reads}
use Rattle.design_meaning.proofs.ByNumber.{driven_none}
use Rattle.design_meaning.proofs.LoopExample.{lies}

-- a process that sets variable v to the negation of variable w
abbrev negates : ℕ → ℕ → Process
negates v w = record { kind = kind.Comb; body = step.Set (target.Whole v ∷ []) (e.Unary unary.Not (e.Var w)) ∷ [] }

abbrev pub chain : Design
chain = record {
  vars = record { width = 1; words = 1; start = 0; kind = var_kind.Input }
      ∷ record { width = 1; words = 1; start = 0; kind = var_kind.Reg }
      ∷ record { width = 1; words = 1; start = 0; kind = var_kind.Reg } ∷ [];
  inputs = record { var = 0; name = codes "a" } ∷ [];
  outputs = 2 ∷ [];
  processes = negates 2 1 ∷ negates 1 0 ∷ [];
}

abbrev holds : ℕ → ℕ → ℕ → State
holds a b c = record { width = 1; words = a ∷ [] } ∷ record { width = 1; words = b ∷ [] } ∷ record { width = 1; words = c ∷ [] } ∷ []

is_state : (a b c : ℕ) → a < 2 → b < 2 → c < 2 → IsStateOf chain (holds a b c)
is_state a b c ha hb hc = record { as_many = refl; each = each }
  where
    one : (n : ℕ) → n < 2 → All (λ m. m < 2) (n ∷ [])
    one n h zero x lt = h
    one n h (suc k) x lt = absurd (omega (arith, lt))

    each : (v : ℕ) → v < 3 → AreWordsOf (var_of chain v) (held (holds a b c) v)
    each zero h = record { as_wide = refl; as_many = refl; fit = one a ha }
    each (suc zero) h = record { as_wide = refl; as_many = refl; fit = one b hb }
    each (suc (suc zero)) h = record { as_wide = refl; as_many = refl; fit = one c hc }
    each (suc (suc (suc v))) h = absurd (omega (arith, h))

-- each bit of b and c is driven, so no bit is a register bit
drives_c : (i : ℕ) → IsTrue (drives chain 0 (record { var = 2; word = 0; place = i }))
drives_c i = simp (step_folds, all_reads)

drives_b : (i : ℕ) → IsTrue (drives chain 1 (record { var = 1; word = 0; place = i }))
drives_b i = simp (step_folds, all_reads)

no_register : (v w i : ℕ) → IsRegisterBit chain (record { var = v; word = w; place = i }) → ⊥
no_register zero w i h = cc h.of_reg
no_register (suc zero) zero i h = driven_none chain is_comb refl (record { var = 1; word = 0; place = i }) h.kept 1 refl (drives_b i)
no_register (suc zero) (suc w) i h = omega (arith, h.here.of_word)
no_register (suc (suc zero)) zero i h = driven_none chain is_comb refl (record { var = 2; word = 0; place = i }) h.kept 0 refl (drives_c i)
no_register (suc (suc zero)) (suc w) i h = omega (arith, h.here.of_word)
no_register (suc (suc (suc v))) w i h = omega (arith, h.here.of_variable)

no_wire : (v w i : ℕ) → IsUndrivenBit chain (record { var = v; word = w; place = i }) → ⊥
no_wire zero w i h = cc h.of_wire
no_wire (suc zero) w i h = cc h.of_wire
no_wire (suc (suc zero)) w i h = cc h.of_wire
no_wire (suc (suc (suc v))) w i h = omega (arith, h.here.of_variable)

still_0 : (run_of (negates 2 1) (holds 1 0 1)).state ≡ holds 1 0 1
unfolding number_of
still_0 = simp (all_do, typed_folds)

still_1 : (run_of (negates 1 0) (holds 1 0 1)).state ≡ holds 1 0 1
unfolding number_of
still_1 = simp (all_do, typed_folds)

-- where a is 1, b is 0 and c is 1, whatever the registers were
pub settled : (r : State) → IsSettled chain r (1 ∷ []) (holds 1 0 1)
settled r = record {
  agrees = record {
    is_state = is_state 1 0 1 (omega arith) (omega arith) (omega arith);
    registers = λ b h. absurd (no_register b.var b.word b.place h);
    inputs = refl;
    undriven = λ b h. absurd (no_wire b.var b.word b.place h);
  };
  still = still;
}
  where
    still : All (λ after. after ≡ holds 1 0 1) (states_after settles (circuit_of chain) (holds 1 0 1))
    still zero p h = still_0
    still (suc zero) p h = still_1
    still (suc (suc k)) p h = absurd (omega (arith, h))

-- ---- the order: b's process, then c's

-- c's process drives bits of c alone, and b's reads bits of a alone
apart : (v w i : ℕ) → IsTrue (drives chain 0 (record { var = v; word = w; place = i }))
    → IsTrue (reads_bit chain 1 (record { var = v; word = w; place = i })) → ⊥
apart zero w i h r = lies (simp step_folds at h)
apart (suc v) w i h r = lies (simp (step_folds, all_reads, ne_eqb 0 (suc v) (λ e. omega (arith, e))) at r)

settling : (p : ℕ) → IsTrue (settles (kind_of chain p)) → Contains (1 ∷ 0 ∷ []) p
settling zero h = (1, omega arith, refl)
settling (suc zero) h = (0, omega arith, refl)
settling (suc (suc p)) h = absurd (lies h)

pub order : IsOrder chain (1 ∷ 0 ∷ [])
order = record { all = settling; only = only; once = once; written_first = first }
  where
    only : All (λ p. IsTrue (settles (kind_of chain p))) (1 ∷ 0 ∷ [])
    only zero p h = refl
    only (suc zero) p h = refl
    only (suc (suc k)) p h = absurd (omega (arith, h))

    once : AllPairs {X = ℕ} (λ p q. p ≢ q) (1 ∷ 0 ∷ [])
    once zero zero d h k = absurd (omega (arith, h))
    once zero (suc zero) d h k = λ e. omega (arith, e)
    once zero (suc (suc j)) d h k = absurd (omega (arith, k))
    once (suc i) zero d h k = absurd (omega (arith, h))
    once (suc i) (suc zero) d h k = absurd (omega (arith, h))
    once (suc i) (suc (suc j)) d h k = absurd (omega (arith, k))

    first : AllPairs (λ p q. Leads chain q p → ⊥) (1 ∷ 0 ∷ [])
    first zero zero d h k = absurd (omega (arith, h))
    first zero (suc zero) d h k = λ l. apart l.along.var l.along.word l.along.place l.driven l.read
    first zero (suc (suc j)) d h k = absurd (omega (arith, k))
    first (suc i) zero d h k = absurd (omega (arith, h))
    first (suc i) (suc zero) d h k = absurd (omega (arith, h))
    first (suc i) (suc (suc j)) d h k = absurd (omega (arith, k))
