use Rattle.walk_modules.proofs.Opened.{parameter_past}
use Rattle.walk_modules.proofs.header.past_parameter.Goals as goal

pub returns : goal.returns
returns c = λ design top done here place a under s taken values.
    parameter_past c.args.of c.args.rest c.args.constants c.push-2.new.self c.push.new.self s taken values c.in_ok-push.ensures.ok c.in_ok-push-2.ensures
