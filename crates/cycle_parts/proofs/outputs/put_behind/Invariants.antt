use Rattle.std.proofs.Common.{◌≡◌, ◌≤◌, ◌+◌, ◌*◌, ◌∷◌, ◌++◌, take, vec_len, vec_capacity}
use Rattle.std.specs.Prelude.{flat_map}
use Rattle.circuit_run.specs.Runs.{output_text}
use Rattle.cycle_parts.proofs.outputs.put_behind.Given as goal

abbrev pub invariant-loop-output : goal.invariant-loop-output
invariant-loop-output l = record {
  items : l.line.items ≡ l.fn.line.items ++ flat_map (λ v. 32 ∷ output_text l.state v) (take l.output-index l.outputs);
  len : vec_len l.line ≤ vec_len l.fn.line + 33 * l.output-index;
  capacity : vec_capacity l.fn.line ≤ vec_capacity l.line;
}
