use Rattle.std.proofs.Common.{◌≡◌, ◌++◌, drop}
use Rattle.std.specs.List.{flat_map}
use Rattle.cvd_write.specs.Writing.{process_text}
use Rattle.cvd_write.proofs.section.all_processes.Given as goal

abbrev pub invariant-loop-one : goal.invariant-loop-one
invariant-loop-one l = l.out ++ flat_map process_text (drop l.one-index l.things) ≡ l.initial.out ++ flat_map process_text l.things
