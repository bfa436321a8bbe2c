use Rattle.elab_overrides.proofs.Items.{in_region}
use Rattle.elab_overrides.proofs.parameters.+parameters.Goals as goal

pub with_item-returns-in-Generate : goal.with_item-returns-in-Generate
with_item-returns-in-Generate t c =
    in_region c.args.item.now c.in-Generate.items c.as_slice-in-Generate.result.now c.args.names c.with_items.result c.in-Generate.is
    c.as_slice-in-Generate.ensures c.with_items.ensures
