use Rattle.std.proofs.Common.{ap, arith, length}
use Rattle.cvd_cursor.specs.Places.{Reading}
use Rattle.cvd_cursor.proofs.Cutting.{left_count}
use Rattle.cvd_cursor.proofs.cursor.Cursor.bytes_left.Goals as goal

pub returns-clause-most : goal.returns-clause-most
returns-clause-most c =
    let rest = ap (λ (r : Reading). length r.rest) c.self.view_is in
    let most = left_count c.self.inside.at_feed c.self.inside.rest.now in
    omega arith

pub returns-clause-small : goal.returns-clause-small
returns-clause-small c = omega (arith, c.self.told)
