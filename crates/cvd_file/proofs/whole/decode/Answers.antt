use Rattle.std.proofs.lemmas.Result.{err_from_is_err_and}
use Rattle.cvd_file.proofs.Found.{decode_fault}
use Rattle.cvd_file.proofs.whole.decode.Goals as goal

pub returns-in_err-order-clause-fault : goal.returns-in_err-order-clause-fault
returns-in_err-order-clause-fault c =
    let p = err_from_is_err_and c.from_residual-in_err-order.result c.from_residual-in_err-order.ensures.1 in
    rw (p.1, p.2) (decode_fault c.in_ok-design.design c.args.bytes.now _ c.in_ok-design.ensures.design c.in_err-order.ensures.fault)
