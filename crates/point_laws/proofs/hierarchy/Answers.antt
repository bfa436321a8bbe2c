use Rattle.point_laws.proofs.Paths.{hier_is_computed}
use Rattle.point_laws.proofs.hierarchy.Goals as goal

pub returns : goal.returns
returns c = hier_is_computed
