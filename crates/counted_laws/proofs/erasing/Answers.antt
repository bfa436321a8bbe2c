use Rattle.counted_laws.proofs.WithoutCounts.{erasing_gives_back}
use Rattle.counted_laws.proofs.erasing.Goals as goal

pub returns : goal.returns
returns c = erasing_gives_back
