-- The register that follows its input is a valid design.
use Rattle.std.proofs.Common.{◌≡◌, ◌≢◌, ℕ, zero, suc, ◌<◌, ◌≤◌, [], ◌∷◌, length, refl, inl, arith}
use Rattle.std.specs.Prelude.{IsTrue, codes, All, AllPairs, Contains}
use Rattle.cov_types.specs.Key.{IsKey, IsField}
use Rattle.std.specs.List.{AllByRecursion}
use Rattle.design_tree.specs.declared.typed.Typed.TheVariants as e
use Rattle.design_tree.specs.declared.step.Target.TheVariants as target
use Rattle.design_tree.specs.declared.step.Step.TheVariants as step
use Rattle.cov_types.specs.declared.kind.VarKind.TheVariants as var_kind
use Rattle.cov_types.specs.declared.kind.ProcessKind.TheVariants as kind
use Rattle.design_tree.specs.declared.design.Process.{Process}
use Rattle.design_meaning.specs.States.{IsBitOf, var_of}
use Rattle.design_meaning.specs.Names.{is_name, IsBefore}
use Rattle.design_meaning.specs.Sizes.{block_depth}
use Rattle.design_meaning.specs.Counters.{toggle_bit}
use Rattle.design_meaning.specs.Targets.{var_named}
use Rattle.design_meaning.specs.WellFormed.{is_step}
use Rattle.design_meaning.specs.ValidVariables.{IsVariable}
use Rattle.design_meaning.specs.ValidProcesses.{IsProcess}
use Rattle.design_meaning.specs.Mentions.{targets_of, mentions, counted, destination, expression, mention_depth}
use Rattle.design_meaning.specs.Valid.{IsValid, toggle_place}
use Rattle.design_meaning.proofs.TypedFolds.{typed_folds, typed_paras}
use Rattle.design_meaning.proofs.StepFolds.{step_folds}
use Rattle.design_meaning.proofs.LoopExample.{lies}
use Rattle.design_meaning.proofs.FollowerExample.{follower, its_point}

-- a list of one, and of none
one : {X : Type 0} (P : X → Type 0) (x : X) → P x → All P (x ∷ [])
one P x h zero d lt = h
one P x h (suc k) d lt = absurd (omega (arith, lt))

none : {X : Type 0} (P : X → Type 0) → All P []
none P k d lt = absurd (omega (arith, lt))

no_pair : {X : Type 0} (R : X → X → Type 0) (x : X) → AllPairs R (x ∷ [])
no_pair R x zero zero d h k = absurd (omega (arith, h))
no_pair R x zero (suc j) d h k = absurd (omega (arith, k))
no_pair R x (suc i) zero d h k = absurd (omega (arith, h))
no_pair R x (suc i) (suc j) d h k = absurd (omega (arith, k))

no_pairs : {X : Type 0} (R : X → X → Type 0) → AllPairs R []
no_pairs R i j d h k = absurd (omega (arith, k))

abbrev its_process : Process
its_process = record { kind = kind.Clocked; body = step.Count 0 ∷ step.Later (target.Whole 1 ∷ []) (e.Var 0) ∷ [] }

formed : All (λ one. IsTrue (is_step follower.design 1 one)) its_process.body
formed zero d h = simp (step_folds, typed_folds, typed_paras)
formed (suc zero) d h = simp (step_folds, typed_folds, typed_paras)
formed (suc (suc k)) d h = absurd (omega (arith, h))

targets : targets_of its_process ≡ target.Whole 1 ∷ []
targets = simp step_folds

process : IsProcess follower.design 1 its_process
process = record {
  formed = formed;
  assigns = λ h. absurd (lies h);
  covers = λ h. absurd (lies h);
  writes = simp targets (one (λ t. (var_of follower.design (var_named t)).kind ≡ var_kind.Reg) (target.Whole 1) refl);
  tells_only = λ h. absurd cc;
}

variables : All IsVariable follower.design.vars
variables zero d h = record { wide = refl; some_words = omega arith; few_words = omega arith; starts = inl refl }
variables (suc zero) d h = record { wide = refl; some_words = omega arith; few_words = omega arith; starts = inl refl }
variables (suc (suc k)) d h = absurd (omega (arith, h))

all_inputs : (v : ℕ) → v < 2 → (var_of follower.design v).kind ≡ var_kind.Input → Contains (0 ∷ []) v
all_inputs zero h k = (0, omega arith, refl)
all_inputs (suc zero) h k = absurd cc
all_inputs (suc (suc v)) h k = absurd (omega (arith, h))

its_mentions : mentions follower.design ≡ counted 0 ∷ destination (target.Whole 1) ∷ expression (e.Var 0) ∷ []
its_mentions = simp step_folds

depths : All (λ m. mention_depth m ≤ 2000) (mentions follower.design)
depths = simp its_mentions depth
  where
    depth : All (λ m. mention_depth m ≤ 2000) (counted 0 ∷ destination (target.Whole 1) ∷ expression (e.Var 0) ∷ [])
    depth zero d h = omega arith
    depth (suc zero) d h = omega arith
    depth (suc (suc zero)) d h = simp typed_folds (omega arith)
    depth (suc (suc (suc k))) d h = absurd (omega (arith, h))

fields : AllByRecursion IsField ((codes "t", codes "line") ∷ (codes "o", codes "block") ∷ [])
fields = (
  (omega arith, (refl, tt), (refl, (refl, (refl, (refl, tt))))),
  ((omega arith, (refl, tt), (refl, (refl, (refl, (refl, (refl, tt)))))), tt),
)

pub valid : IsValid follower
valid = record {
  variables = variables;
  inputs = record {
    ascend = no_pair (λ m n. m < n) 0;
    stand = one (λ v. v < 2) 0 (omega arith);
    single = one (λ v. (var_of follower.design v).words ≡ 1) 0 refl;
    only_inputs = one (λ v. (var_of follower.design v).kind ≡ var_kind.Input) 0 refl;
    all_inputs = all_inputs;
    names = one (λ input. IsTrue (is_name input.name)) (record { var = 0; name = codes "d" }) refl;
    differ = no_pair (λ a b. a.name ≢ b.name) (record { var = 0; name = codes "d" });
  };
  outputs = record {
    ascend = no_pair (λ m n. m < n) 1;
    stand = one (λ v. v < 2) 1 (omega arith);
    single = one (λ v. (var_of follower.design v).words
        ≡ 1) 1 refl;
  };
  processes = one (IsProcess follower.design 1) its_process process;
  toggles = record {
    ascend = no_pairs (λ a b. IsBefore (toggle_place a) (toggle_place b));
    bits = none (λ t. IsBitOf follower.design (toggle_bit t));
    counters = none (λ t. t.counter < 1);
  };
  points = record {
    ascend = no_pair (λ a b. IsBefore a.key b.key) its_point;
    keys = one (λ point. IsKey point.key) its_point ((codes "t", codes "line") ∷ (codes "o", codes "block") ∷ [], omega arith, fields, refl);
    short = one (λ point. length point.key ≤ 65000) its_point (omega arith);
    plus = one (λ point. All (λ c. c < 1) point.plus) its_point (one (λ c. c < 1) 0 (omega arith));
    minus = one (λ point. All (λ c. c < 1) point.minus) its_point (none (λ c. c < 1));
  };
  limits = record {
    bits = omega arith;
    processes = omega arith;
    steps = simp step_folds (omega arith);
    nodes = simp (its_mentions, typed_folds) (omega arith);
    printed = simp (its_mentions, typed_folds) (omega arith);
    counters = omega arith;
    points = omega arith;
    blocks = one (λ p. block_depth p.body ≤ 700) its_process (simp step_folds (omega arith));
    expressions = depths;
  };
}
