use Rattle.walk_modules.proofs.Opened.{port_past}
use Rattle.walk_modules.proofs.header.past_port.Goals as goal

pub returns : goal.returns
returns c = λ design top done here place p under s calm. port_past c.args.of c.args.rest c.push.new.self s calm c.in_ok-push.ensures
