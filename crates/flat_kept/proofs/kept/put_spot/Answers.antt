use Rattle.flat_kept.specs.Kept.{is_kept}
use Rattle.flat_kept.proofs.Places.{port_spot, item_spot, instance_spot}
use Rattle.flat_kept.proofs.kept.put_spot.Goals as goal

pub returns-in-Port : goal.returns-in-Port
returns-in-Port c =
    port_spot c.args.scopes.now.scopes.items (is_kept c.args.apart.clocks.now c.args.apart.loops.now) c.put_port.result _ c.new-names.result _
    c.put_port.new.kept c.new-names.ensures c.args.spot.now _ c.in-Port.is c.put_port.ensures

pub returns-in-Item : goal.returns-in-Item
returns-in-Item c =
    item_spot c.args.scopes.now.scopes.items (is_kept c.args.apart.clocks.now c.args.apart.loops.now) c.put_item.result _ c.new-names-in-Item.result _
    c.put_item.new.kept c.new-names-in-Item.ensures c.args.spot.now _ c.in-Item.is c.put_item.ensures

pub returns-in-Instance : goal.returns-in-Instance
returns-in-Instance c =
    instance_spot c.args.scopes.now.scopes.items (is_kept c.args.apart.clocks.now c.args.apart.loops.now) _ _ _ _ _ _ c.args.spot.now c.in-Instance.is
