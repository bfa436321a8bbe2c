-- Positions that may lie below the lowest bit or word, and written parts, as the code holds them.
use Rattle.std.specs.Prelude.{ℤ, pos, negsuc}
use Rattle.design_state.specs.declared.position.Position.{Position}
use Rattle.design_state.specs.declared.position.Position.TheVariants.{At, Before}
use Rattle.design_state.specs.declared.update.Update.{Update}
use Rattle.circuit_run.specs.Writes.{Part}

-- so many above the lowest, or so many below the one before it
abbrev pub offset : Position → ℤ
offset (At n) = pos n
offset (Before n) = negsuc n

-- an update is a part
abbrev pub part_of : Update → Part
part_of u = record { var = u.var; word = offset u.word; low = offset u.low; width = u.value.width; number = u.value.bits }
