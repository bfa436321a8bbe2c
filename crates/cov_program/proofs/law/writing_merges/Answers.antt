use Rattle.cov_program.proofs.LawLemmas.{words_merge}
use Rattle.cov_program.proofs.law.writing_merges.Goals as goal

pub returns : goal.returns
returns c = words_merge c.writing_merges.ensures
