use Rattle.point_laws.proofs.Orders.{order_is_free}
use Rattle.point_laws.proofs.KeysApart.{keys_differ}
use Rattle.point_laws.proofs.lists_of_points.Goals as goal

pub returns : goal.returns
returns c = record { order = order_is_free; keys = keys_differ }
