-- A design with counts of a valid design is valid: the proof.
use Rattle.std.proofs.Common.{◌≡◌, ℕ, ◌+◌, ◌*◌, ◌<◌, ◌≤◌, true, List, [], ◌∷◌, length, map, refl, sym, ◌∙◌, ap, ap₂, subst, arith}
use Rattle.std.specs.Prelude.{All, nat_lt, flat_map}
use Rattle.std.specs.List.{AllByRecursion}
use Rattle.std.proofs.lemmas.Bool.Decides.{Decides-ltb}
use Rattle.std.proofs.lemmas.List.Elements.{All-from_recursion, recursion_from_All}
use Rattle.cov_types.specs.declared.var.Var.{Var}
use Rattle.design_tree.specs.declared.design.Input.{Input}
use Rattle.design_tree.specs.declared.design.Process.{Process}
use Rattle.design_tree.specs.declared.design.Design.{Design}
use Rattle.design_tree.specs.declared.instrumented.Instrumented.{Instrumented}
use Rattle.circuit_run.specs.Lists.{total}
use Rattle.design_meaning.specs.Mentions.{Mention, counted, mentions, mentions_of, mention_nodes, mention_depth, mention_length}
use Rattle.design_meaning.specs.Sizes.{block_depth}
use Rattle.design_meaning.specs.ValidVariables.{IsVariable, AreInputs, AreOutputs}
use Rattle.design_meaning.specs.ValidProcesses.{IsProcess}
use Rattle.design_meaning.specs.Valid.{IsValid, IsWithinLimits, all_nodes, edge_length, state_bits}
use Rattle.counted_circuit.specs.CountedDesign.{IsCountedDesign}
use Rattle.counted_laws.specs.ValidLaw.{IsSound, CountedIsValid}
use Rattle.counted_laws.proofs.Measures.{with_processes, IsBelow}
use Rattle.counted_laws.proofs.Mentioned.{others, total_others, all_from_others, others_have, all_mentions}
use Rattle.counted_laws.proofs.CountedProcess.{processes_are, as_many, blocks_are}

below : (counters : ℕ) (cs : List ℕ) → All (λ c. c < counters) cs → AllByRecursion (IsBelow counters) cs
below counters cs a = each cs (recursion_from_All (λ c. c < counters) cs a) where
  each : (cs : List ℕ) → AllByRecursion (λ c. c < counters) cs → AllByRecursion (IsBelow counters) cs
  each [] a = tt
  each (c ∷ cs) a = ((Decides-ltb c counters).1 a.0, each cs a.1)

inputs_with : (d : Design) (qs : List Process) → AreInputs d → AreInputs (with_processes d qs)
inputs_with d qs h = record {
  ascend = h.ascend;
  stand = h.stand;
  single = h.single;
  only_inputs = h.only_inputs;
  all_inputs = h.all_inputs;
  names = h.names;
  differ = h.differ;
}

outputs_with : (d : Design) (qs : List Process) → AreOutputs d → AreOutputs (with_processes d qs)
outputs_with d qs h = record { ascend = h.ascend; stand = h.stand; single = h.single }

at_most : (m n bound : ℕ) → m ≡ n → n ≤ bound → m ≤ bound
at_most m n bound same h = omega arith

module _ (carried : ℕ → List ℕ) (d e : Design) (arms : ℕ) (is : IsCountedDesign carried d e arms) where
  here : e ≡ with_processes d e.processes
  here = ap₂ (λ (a : List Var × List Input) (outputs : List ℕ). record { vars = a.0; inputs = a.1; outputs = outputs; processes = e.processes })
      (ap₂ (λ (x : List Var) (y : List Input). (x, y)) is.vars is.inputs) is.outputs

  total_is : (f : Mention → ℕ) → ((c : ℕ) → f (counted c) ≡ 0) → total (map f (mentions e)) ≡ total (map f (mentions d))
  total_is f zero =
      total_others f zero (mentions e)
      ∙ (ap (λ (ms : List Mention). total (map f ms)) (all_mentions is.processes) ∙ sym (total_others f zero (mentions d)))

  length_is : edge_length e ≡ edge_length d
  length_is = ap (λ (z : Design). total (map (mention_length z) (mentions e))) here ∙ total_is (mention_length d) (λ c. refl)

  mentions_have : (P : Mention → Type 0) → ((c : ℕ) → P (counted c)) → All P (mentions d) → All P (mentions e)
  mentions_have P each h =
      All-from_recursion P (mentions e) (all_from_others P each (mentions e)
      (subst (λ (ms : List Mention). AllByRecursion P ms) (sym (all_mentions is.processes)) (others_have P (mentions d) (recursion_from_All P (mentions d) h))))

zero_fits : 0 ≤ 2000
zero_fits = omega arith

valid_over : (carried : ℕ → List ℕ) (base : Instrumented) (arms : ℕ) (x : Instrumented) → IsCountedDesign carried base.design x.design arms
    → IsValid base → IsSound carried x → IsValid x
valid_over carried base arms x is v sound =
    let d = base.design in
    let e = x.design in
    let its_place : e ≡ with_processes d e.processes = here carried d e arms is in
    record {
      variables = subst (λ (vs : List Var). All IsVariable vs) (sym is.vars) v.variables;
      inputs = subst AreInputs (sym its_place) (inputs_with d e.processes v.inputs);
      outputs = subst AreOutputs (sym its_place) (outputs_with d e.processes v.outputs);
      processes = subst (λ (z : Design). All (IsProcess z x.counters) e.processes) (sym its_place)
          (All-from_recursion (IsProcess (with_processes d e.processes) x.counters) e.processes
          (processes_are d e.processes x.counters base.counters carried (λ arm. below x.counters (carried arm) (sound.carries arm)) is.processes
          (recursion_from_All (IsProcess d base.counters) d.processes v.processes)));
      toggles = sound.toggles;
      points = sound.points;
      limits = record {
        bits = at_most (state_bits e) (state_bits d) 16777216 (ap (λ (vs : List Var). total (map (λ (y : Var). y.width * y.words) vs)) is.vars) v.limits.bits;
        processes = at_most (length e.processes) (length d.processes) 65536 (as_many is.processes) v.limits.processes;
        steps = sound.steps;
        nodes = at_most (all_nodes e) (all_nodes d) 4194304 (total_is carried d e arms is mention_nodes (λ c. refl)) v.limits.nodes;
        printed = at_most (edge_length e) (edge_length d) 16777216 (length_is carried d e arms is) v.limits.printed;
        counters = sound.counters;
        points = sound.few_points;
        blocks = All-from_recursion (λ (p : Process). block_depth p.body ≤ 700) e.processes (blocks_are is.processes
            (recursion_from_All (λ (p : Process). block_depth p.body ≤ 700) d.processes v.limits.blocks));
        expressions = mentions_have carried d e arms is (λ (m : Mention). mention_depth m ≤ 2000) (λ c. zero_fits) v.limits.expressions;
      };
    }

pub counted_is_valid : CountedIsValid
counted_is_valid carried d arms x is base sound =
    valid_over carried base.0 arms x (subst (λ (z : Design). IsCountedDesign carried z x.design arms) (sym base.2) is) base.1 sound
