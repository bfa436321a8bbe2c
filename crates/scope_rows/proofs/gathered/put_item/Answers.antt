use Rattle.std.proofs.Common.{refl}
use Rattle.row_lists.proofs.Changes.{on_ok}
use Rattle.scope_rows.proofs.Gathering.{with_item}
use Rattle.scope_rows.proofs.gathered.put_item.Goals as goal

pub returns : goal.returns
returns c =
    on_ok c.put.result
    (λ put vs g. with_item vs c.args.to.now _ c.args.scope c.args.item c.args.inner refl refl c.put.ensures.same put g) c.put.ensures.rows
