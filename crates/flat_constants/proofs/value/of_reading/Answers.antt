use Rattle.flat_constants.proofs.Values.{of_ok, of_err}
use Rattle.flat_constants.proofs.value.of_reading.Goals as goal

pub returns-in-Ok : goal.returns-in-Ok
returns-in-Ok c = λ m h. of_ok m c.args.read _ c.valued.result c.in-Ok.is c.valued.ensures h

pub returns-in-Err : goal.returns-in-Err
returns-in-Err c = λ m h. of_err m c.args.read _ c.in-Err.is h
