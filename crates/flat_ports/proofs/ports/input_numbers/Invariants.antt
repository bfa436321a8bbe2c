use Rattle.std.proofs.Common.{◌≡◌, ℕ, List, take}
use Rattle.std.specs.List.{filter_map}
use Rattle.elab_types.specs.declared.flat_source.FlatVar.{FlatVar}
use Rattle.flat_source_meaning.specs.Environments.{position}
use Rattle.flat_source_meaning.specs.SourceCircuit.{input_number}
use Rattle.scope_table.specs.Tables.{value_in}
use Rattle.flat_ports.proofs.ports.input_numbers.Given as goal

abbrev pub invariant-loop-port : goal.invariant-loop-port
invariant-loop-port l = (vars : List FlatVar) → ((s : ℕ) (n : List ℕ) → value_in l.numbers s n ≡ position vars s n)
    → l.all ≡ filter_map (input_number vars) (take l.port-index l.ports)
