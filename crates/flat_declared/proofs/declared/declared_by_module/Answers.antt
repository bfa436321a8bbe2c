use Rattle.flat_declared.proofs.Items.{module_gives}
use Rattle.flat_declared.proofs.declared.declared_by_module.Goals as goal

pub returns : goal.returns
returns c =
    module_gives c.args.of.now c.new.result c.in_ok-header.header c.in_ok-ports.ports c.as_slice.result.now c.as_slice-3.result.now c.as_slice-2.result.now
    c.with_items-2.result c.new.ensures c.as_slice.ensures c.as_slice-2.ensures c.as_slice-3.ensures c.in_ok-header.ensures c.in_ok-ports.ensures
    c.with_items-2.ensures
