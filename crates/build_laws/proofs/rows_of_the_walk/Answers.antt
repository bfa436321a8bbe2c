use Rattle.point_meaning.proofs.FromWalk.{rows_are_of_the_walk}
use Rattle.build_laws.proofs.rows_of_the_walk.Goals as goal

pub returns : goal.returns
returns c = rows_are_of_the_walk
