-- The names of the arms of a generate `if`.
use Rattle.std.specs.Prelude.{ℕ, List, [], Option, Some, None}
use Rattle.vlog_tree.specs.declared.item.GenArm.{GenArm, out-GenArm}
use Rattle.vlog_tree.specs.declared.item.GenBody.{GenBody, out-GenBody}
use Rattle.scope_meaning.specs.Declared.{block_names}

abbrev pub arm_names : GenArm → List (List ℕ)
arm_names arm = block_names (out-GenBody (out-GenArm arm).body).name

abbrev pub last_names : Option GenBody → List (List ℕ)
last_names (Some body) = block_names (out-GenBody body).name
last_names None = []
