use Rattle.std.proofs.Common.{◌≡◌, ◌==◌, ℕ, false, length, get_or, take}
use Rattle.std.specs.List.{list_any}
use Rattle.flow_drivers.proofs.private.output_flags.Given as goal

abbrev pub invariant-loop-var : goal.invariant-loop-var
invariant-loop-var l = record {
  many : length l.flags.items ≡ l.vars;
  flags : (v : ℕ) → get_or l.flags.items v false ≡ list_any (λ o. o == v) (take l.var-index l.outputs);
}
