use Rattle.command_cover.proofs.MergeLemmas.{done_unless_wrong}
use Rattle.command_cover.proofs.law.merge_is_done_unless_wrong.Goals as goal

pub returns : goal.returns
returns c = done_unless_wrong
