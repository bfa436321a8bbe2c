use Rattle.std.proofs.Common.{sym, subst}
use Rattle.design_state.specs.InDesign.{IsTypedIn}
use Rattle.design_state.proofs.Typings as typing
use Rattle.flat_design.proofs.branch.is_zero.Goals as goal

pub differ-requires-clause-left : goal.differ-requires-clause-left
differ-requires-clause-left c =
    let of = c.in-Binary-Equal-default-default in
    subst (IsTypedIn c.args.state.now) (sym c.get-first.ensures)
    (typing.binary_left c.args.state.now of.op of.left of.right (rw of.is at c.requires))

pub differ-requires-clause-right : goal.differ-requires-clause-right
differ-requires-clause-right c =
    let of = c.in-Binary-Equal-default-default in
    subst (IsTypedIn c.args.state.now) (sym c.get-second.ensures)
    (typing.binary_right c.args.state.now of.op of.left of.right (rw of.is at c.requires))
