use Rattle.cov_program.proofs.LawLemmas.{words_in_any_order}
use Rattle.cov_program.proofs.law.merges_in_any_order.Goals as goal

pub returns : goal.returns
returns c = words_in_any_order c.writes_in_any_order.ensures
