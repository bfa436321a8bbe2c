-- Valid designs (docs/formats.md, "Design files").
use Rattle.std.specs.Prelude.{◌≡◌, ℕ, ◌<◌, ◌≤◌, ◌*◌, List, [], ◌∷◌, map, flat_map, length, All, AllPairs}
use Rattle.cov_types.specs.Key.{IsKey}
use Rattle.design_tree.specs.declared.design.Design.{Design}
use Rattle.design_tree.specs.declared.instrumented.ToggleEntry.{ToggleEntry}
use Rattle.design_tree.specs.declared.instrumented.Instrumented.{Instrumented}
use Rattle.design_meaning.specs.States.{IsBitOf}
use Rattle.design_meaning.specs.Counters.{toggle_bit}
use Rattle.circuit_run.specs.Lists.{total}
use Rattle.design_meaning.specs.Sizes.{steps_in, block_depth}
use Rattle.design_meaning.specs.Mentions.{mentions, mention_nodes, mention_depth, mention_length}
use Rattle.design_meaning.specs.Names.{IsBefore}
use Rattle.design_meaning.specs.ValidVariables.{IsVariable, AreInputs, AreOutputs}
use Rattle.design_meaning.specs.ValidProcesses.{IsProcess}

-- ---- counters

-- toggle entries ascend by variable, word and bit; each is a bit of the design with a counter
abbrev pub toggle_place : ToggleEntry → List ℕ
toggle_place t = t.var ∷ t.word ∷ t.bit ∷ []

pub record AreToggles (x : Instrumented) : Type 0 where
  pub ascend : AllPairs (λ a b. IsBefore (toggle_place a) (toggle_place b)) x.toggles
  pub bits : All (λ t. IsBitOf x.design (toggle_bit t)) x.toggles
  pub counters : All (λ t. t.counter < x.counters) x.toggles

-- points ascend by the bytes of their keys; each key is of the data file's form
pub record ArePoints (x : Instrumented) : Type 0 where
  pub ascend : AllPairs (λ a b. IsBefore a.key b.key) x.points
  pub keys : All (λ point. IsKey point.key) x.points
  pub short : All (λ point. length point.key ≤ 65000) x.points
  pub plus : All (λ point. All (λ c. c < x.counters) point.plus) x.points
  pub minus : All (λ point. All (λ c. c < x.counters) point.minus) x.points

-- ---- limits

abbrev pub state_bits : Design → ℕ
state_bits d = total (map (λ v. v.width * v.words) d.vars)

abbrev pub all_nodes : Design → ℕ
all_nodes d = total (map mention_nodes (mentions d))

abbrev pub edge_length : Design → ℕ
edge_length d = total (map (mention_length d) (mentions d))

abbrev pub all_steps : Design → ℕ
all_steps d = total (map steps_in (flat_map (λ p. p.body) d.processes))

pub record IsWithinLimits (x : Instrumented) : Type 0 where
  pub bits : state_bits x.design ≤ 16777216
  pub processes : length x.design.processes ≤ 65536
  pub steps : all_steps x.design ≤ 4194304
  pub nodes : all_nodes x.design ≤ 4194304
  pub printed : edge_length x.design ≤ 16777216
  pub counters : x.counters ≤ 4194304
  pub points : length x.points ≤ 1048576
  pub blocks : All (λ p. block_depth p.body ≤ 700) x.design.processes
  pub expressions : All (λ m. mention_depth m ≤ 2000) (mentions x.design)

-- ---- the whole

pub record IsValid (x : Instrumented) : Type 0 where
  pub variables : All IsVariable x.design.vars
  pub inputs : AreInputs x.design
  pub outputs : AreOutputs x.design
  pub processes : All (IsProcess x.design x.counters) x.design.processes
  pub toggles : AreToggles x
  pub points : ArePoints x
  pub limits : IsWithinLimits x

-- a design is valid where some valid instrumented design has it
abbrev pub IsValidDesign : Design → Type 0
IsValidDesign d = (x : Instrumented) × IsValid x × (x.design ≡ d)
