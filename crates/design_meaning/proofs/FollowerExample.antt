-- A register of one bit that follows its input, with one counter: its settled states and its edge.
use Rattle.std.proofs.Common.{◌≡◌, ◌≢◌, ℕ, zero, suc, ◌<◌, List, [], ◌∷◌, ◌++◌, refl, sym, subst, arith}
use Rattle.std.specs.Prelude.{false, codes, All}
use Rattle.design_tree.specs.declared.typed.Typed.TheVariants as e
use Rattle.design_tree.specs.declared.step.Target.TheVariants as target
use Rattle.design_tree.specs.declared.step.Step.TheVariants as step
use Rattle.cov_types.specs.declared.kind.VarKind.TheVariants as var_kind
use Rattle.cov_types.specs.declared.kind.ProcessKind.TheVariants as kind
use Rattle.design_tree.specs.declared.instrumented.PointRow.{PointRow}
use Rattle.design_tree.specs.declared.instrumented.Instrumented.{Instrumented}
use Rattle.circuit_run.specs.States.{State, Bit, bit, AreWordsOf, held}
use Rattle.design_meaning.specs.States.{IsStateOf, var_of}
use Rattle.circuit_run.specs.Kinds.{settles, runs_at_edge}
use Rattle.circuit_run.specs.Circuits.{is_driven, states_after}
use Rattle.circuit_run.specs.Edges.{IsBlockedFrom}
use Rattle.design_meaning.specs.Settled.{IsRegisterBit, IsUndrivenBit, IsSettled}
use Rattle.design_meaning.specs.Circuit.{circuit_of}
use Rattle.design_meaning.proofs.TypedFolds.{typed_folds}
use Rattle.design_meaning.proofs.Equations.{all_do}

-- the key of a block's point
abbrev pub its_key : List ℕ
its_key = 1 ∷ codes "t" ++ 2 ∷ codes "line" ++ 1 ∷ codes "o" ++ 2 ∷ codes "block"

abbrev pub its_point : PointRow
its_point = record { plus = 0 ∷ []; minus = []; key = its_key }

abbrev pub follower : Instrumented
follower = record {
  design = record {
    vars = record { width = 1; words = 1; start = 0; kind = var_kind.Input } ∷ record { width = 1; words = 1; start = 0; kind = var_kind.Reg } ∷ [];
    inputs = record { var = 0; name = codes "d" } ∷ [];
    outputs = 1 ∷ [];
    processes = record { kind = kind.Clocked; body = step.Count 0 ∷ step.Later (target.Whole 1 ∷ []) (e.Var 0) ∷ [] } ∷ [];
  };
  counters = 1;
  toggles = [];
  points = its_point ∷ [];
}

-- the input and the register
abbrev pub both : ℕ → ℕ → State
both d q = record { width = 1; words = d ∷ [] } ∷ record { width = 1; words = q ∷ [] } ∷ []

pub is_state : (d q : ℕ) → d < 2 → q < 2 → IsStateOf follower.design (both d q)
is_state d q hd hq = record { as_many = refl; each = each }
  where
    one : (n : ℕ) → n < 2 → All (λ m. m < 2) (n ∷ [])
    one n h zero x lt = h
    one n h (suc k) x lt = absurd (omega (arith, lt))

    each : (v : ℕ) → v < 2 → AreWordsOf (var_of follower.design v) (held (both d q) v)
    each zero h = record { as_wide = refl; as_many = refl; fit = one d hd }
    each (suc zero) h = record { as_wide = refl; as_many = refl; fit = one q hq }
    each (suc (suc v)) h = absurd (omega (arith, h))

-- no process settles, so each bit of the register is a register bit
pub none_settled : (b : Bit) → is_driven settles (circuit_of follower.design) b ≡ false
none_settled b = refl

registers : (d e q v w i : ℕ) → IsRegisterBit follower.design (record { var = v; word = w; place = i })
    → bit (both d q) (record { var = v; word = w; place = i }) ≡ bit (both e q) (record { var = v; word = w; place = i })
registers d e q zero w i h = absurd (cc h.of_reg)
registers d e q (suc zero) w i h = refl
registers d e q (suc (suc v)) w i h = refl

undriven : (d q v w i : ℕ) → IsUndrivenBit follower.design (record { var = v; word = w; place = i })
    → bit (both d q) (record { var = v; word = w; place = i }) ≡ 0
undriven d q zero w i h = absurd (cc h.of_wire)
undriven d q (suc zero) w i h = absurd (cc h.of_wire)
undriven d q (suc (suc v)) w i h = absurd (omega (arith, h.here.of_variable))

pub settled : (d e q : ℕ) → d < 2 → q < 2 → IsSettled follower.design (both e q) (d ∷ []) (both d q)
settled d e q hd hq = record {
  agrees = record {
    is_state = is_state d q hd hq;
    registers = λ b. registers d e q b.var b.word b.place;
    inputs = refl;
    undriven = λ b. undriven d q b.var b.word b.place;
  };
  still = λ k p h. absurd (omega (arith, h));
}

-- the clocked process leaves the settled state alone
pub blocked : (d q : ℕ) → d < 2 → q < 2 → states_after runs_at_edge (circuit_of follower.design) (both d q) ≡ both d q ∷ []
    → IsBlockedFrom (circuit_of follower.design) (both d q) (both d q)
blocked d q hd hq left = record {
  is_state = is_state d q hd hq;
  changed = λ b. subst (All (λ after. bit after b ≢ bit (both d q) b → bit (both d q) b ≡ bit after b)) (sym left) (one b);
  kept = λ b h. refl;
}
  where
    one : (b : Bit) → All (λ after. bit after b ≢ bit (both d q) b → bit (both d q) b ≡ bit after b) (both d q ∷ [])
    one b zero x lt apart = refl
    one b (suc k) x lt apart = absurd (omega (arith, lt))

pub left_10 : states_after runs_at_edge (circuit_of follower.design) (both 1 0) ≡ both 1 0 ∷ []
left_10 = simp (all_do, typed_folds)

pub left_01 : states_after runs_at_edge (circuit_of follower.design) (both 0 1) ≡ both 0 1 ∷ []
left_01 = simp (all_do, typed_folds)
