use Rattle.std.proofs.Common.{sym, ◌∙◌, arith}
use Rattle.cvd_targets.proofs.Lists.{exactly}
use Rattle.cvd_targets.proofs.PieceLists.{not_within, within_nodes, within_shown, one_more}
use Rattle.cvd_targets.proofs.pieces.put.Goals as goal

pub returns-then-not-are_within : goal.returns-then-not-are_within
returns-then-not-are_within c = λ d ps p h o.
    not_within d ps p c.args.kept.now c.args.one h o _ _ c.saturating_add-nodes.ensures c.saturating_add-shown.ensures
    (sym c.are_within.ensures ∙ c.if-not-are_within.true)

pub returns : goal.returns
returns c = λ d ps p h o.
    let within = sym c.are_within.ensures ∙ c.if-not-are_within.false in
    let few = within_nodes c.saturating_add-nodes.result c.saturating_add-shown.result within in
    let low = within_shown c.saturating_add-nodes.result c.saturating_add-shown.result within in
    one_more d ps p c.args.kept.now c.args.one h o _ _ _ c.in_ok-push.ensures.ok
    (exactly c.args.kept.now.nodes c.args.one.nodes _ 4194304 c.saturating_add-nodes.ensures few (omega arith)) few
    (exactly c.args.kept.now.shown c.args.one.shown _ 16777216 c.saturating_add-shown.ensures low (omega arith)) low
