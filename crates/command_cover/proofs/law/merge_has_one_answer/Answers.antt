use Rattle.command_cover.proofs.MergeLemmas.{merges_agree}
use Rattle.command_cover.proofs.law.merge_has_one_answer.Goals as goal

pub returns : goal.returns
returns c = merges_agree
