use Rattle.std.specs.List.{flat_map}
use Rattle.walk_state.specs.Records.{visits_of}
use Rattle.scope_rows.specs.Gathered.{IsGathered}
use Rattle.scope_rows.proofs.gathered.gather.Given as goal

abbrev pub invariant-loop-recorded : goal.invariant-loop-recorded
invariant-loop-recorded l = IsGathered (flat_map visits_of l.yielded) l.all
