use Rattle.std.proofs.Common.{arith}
use Rattle.lower_repeats.proofs.Repeats.{repeating_ok, repeating_err}
use Rattle.lower_repeats.proofs.repeated.repeated.Goals as goal

pub repeat_all-requires : goal.repeat_all-requires
repeat_all-requires c = omega (arith, c.in-Ok.ensures.size, c.in-Ok.ensures.some)

pub returns-in-Ok : goal.returns-in-Ok
returns-in-Ok c = repeating_ok c.args.count c.args.parts c.in-Ok.size c.in-Ok.all c.repeat_all.result c.in-Ok.ensures c.repeat_all.ensures

pub returns-in-Err : goal.returns-in-Err
returns-in-Err c = repeating_err c.args.count c.args.parts c.in-Err.fault c.in-Err.ensures
