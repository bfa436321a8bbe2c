-- Private: the line of outputs without its end.
use Rattle.std.specs.Prelude.{ℕ, List, map}
use Rattle.std.specs.List.{join_with_byte}
use Rattle.circuit_run.specs.States.{State}
use Rattle.circuit_run.specs.Runs.{output_text}

abbrev pub joined_texts : State → List ℕ → List ℕ
joined_texts s outputs = join_with_byte 32 (map (output_text s) outputs)
