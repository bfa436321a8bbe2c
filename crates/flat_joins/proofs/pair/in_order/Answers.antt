use Rattle.std.proofs.Common.{◌∙◌, sym, ap, refl, length, arith}
use Rattle.vlog_tree.specs.declared.module.Port.{Port}
use Rattle.flat_joins.proofs.Steps.{pair_more, cut}
use Rattle.flat_joins.proofs.pair.in_order.Goals as goal

pub loop-at-preserved : goal.loop-at-preserved
loop-at-preserved c =
    pair_more c.args.ports.now c.args.exprs.now c.loop-at.at c.index-ports-at.result c.index-exprs-at.result c.as_slice-name.result.now c.loop-at.all.items
    c.push.new.self.items (record { name = c.as_slice-name.result; expr = _ }) (omega arith) (omega arith) c.index-ports-at.is c.index-exprs-at.is
    (c.as_slice-name.ensures ∙ ap (λ (p : Port). p.name) (sym c.index-ports-at.is)) refl
    c.in_ok-push.ensures.items c.loop-at.invariant

pub returns : goal.returns
returns c = c.loop-at.invariant ∙ cut c.args.ports.now c.args.exprs.now c.loop-at.at (omega arith)
