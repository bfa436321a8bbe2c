use Rattle.walk_modules.proofs.Opened.{header_past}
use Rattle.walk_modules.proofs.header.to_ports.Goals as goal

pub returns : goal.returns
returns c = λ design top done here place under s. header_past c.args.of c.as_slice-ports.result c.push.new.self s c.as_slice-ports.ensures c.in_ok-push.ensures
