use Rattle.std.proofs.Common.{refl}
use Rattle.row_lists.proofs.Changes.{on_ok}
use Rattle.scope_rows.proofs.Gathering.{with_constants}
use Rattle.scope_rows.proofs.gathered.put_constants.Goals as goal

pub returns : goal.returns
returns c =
    on_ok c.put_all.result
    (λ put vs g. with_constants vs c.args.to.now _ c.args.scope c.args.constants refl refl c.put_all.ensures.same put g) c.put_all.ensures.rows
