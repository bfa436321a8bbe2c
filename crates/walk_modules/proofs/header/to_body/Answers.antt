use Rattle.walk_modules.proofs.Opened.{ports_past}
use Rattle.walk_modules.proofs.header.to_body.Goals as goal

pub returns : goal.returns
returns c = λ design top done here place under s.
    ports_past c.args.of c.as_slice-items.result c.to_first_item.new.place c.push.new.self s (c.to_first_item.ensures here place s.scope)
    c.as_slice-items.ensures c.in_ok-push.ensures
