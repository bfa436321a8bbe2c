use Rattle.std.proofs.Common.{◌≡◌, ℕ, List, map, take}
use Rattle.elab_overrides.specs.Overrides.{AreParameters, AreAmong, are_bad_named}
use Rattle.elab_overrides.proofs.parameters.Parameters.refuse_named.Given as goal

abbrev pub invariant-loop-value : goal.invariant-loop-value
invariant-loop-value l = record {
  seen : AreAmong (map (λ c. c.name) (take l.value-index l.values)) l.seen;
  bad : (names : List (List ℕ)) → AreParameters names l.self → l.bad ≡ are_bad_named names (take l.value-index l.values);
}
