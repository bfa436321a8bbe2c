use Rattle.command_cover.proofs.OrderLemmas.{any_order}
use Rattle.command_cover.proofs.law.merges_in_any_order.Goals as goal

pub returns : goal.returns
returns c = any_order c.files_in_any_order.ensures c.limits_in_any_order.ensures c.limits_stay.ensures
