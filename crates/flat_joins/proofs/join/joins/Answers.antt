use Rattle.std.proofs.Common.{◌∙◌, ap, subst, map, length, List, take, sym, arith}
use Rattle.std.proofs.lemmas.List.{take_all}
use Rattle.vlog_tree.specs.declared.module.Port.{Port}
use Rattle.scope_meaning.specs.Overrides as spec
use Rattle.flat_source_meaning.specs.Clocks.{port_names}
use Rattle.flat_joins.specs.Seen.{Pairs, pair_seen, IsTableOf}
use Rattle.flat_joins.proofs.Steps.{join_more}
use Rattle.flat_joins.proofs.join.joins.Goals as goal

pub loop-port-preserved : goal.loop-port-preserved
loop-port-preserved c =
    join_more (spec.pairs (port_names c.args.of.now.ports) c.args.conns.now) c.args.of.now.ports c.as_slice-port-items.result.now c.loop-port.port-index
    c.port-item.result c.loop-port.joined.items c.put_join.new.joined.items c.as_slice-port-items.ensures c.loop-port-test.true c.port-item.is
    c.loop-port.invariant
    (c.in_ok-put_join.ensures _ (subst (λ (ps : Pairs). IsTableOf ps c.in_ok-table.table)
    (ap (map pair_seen) c.as_slice.ensures.value ∙ c.in_ok-all.ensures) c.in_ok-table.ensures))
