use Rattle.elab_overrides.proofs.GivenValues.{stored}
use Rattle.elab_overrides.proofs.given.stored.Goals as goal

pub returns-in-Ok : goal.returns-in-Ok
returns-in-Ok c = λ before m h k.
    stored before c.args.given (record { values = c.put.new.self }) c.args.name.now m c.args.value h k c.in-Ok.ensures.ok
