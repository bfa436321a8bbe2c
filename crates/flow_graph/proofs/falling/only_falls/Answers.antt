use Rattle.std.proofs.Common.{◌≡◌, ◌∙◌, ◌-◌, [], arith}
use Rattle.std.proofs.lemmas.List.{get_or_read}
use Rattle.flow_graph.specs.Graph.{next_of}
use Rattle.flow_graph.proofs.Descent.{falls_apart}
use Rattle.flow_graph.proofs.falling.only_falls.Goals as goal

pub returns-then-own-gt0 : goal.returns-then-own-gt0
returns-then-own-gt0 c = λ h f on.
    let row : c.as_slice.result.now ≡ next_of c.args.next.now c.args.p =
    c.as_slice.ensures ∙ get_or_read c.args.next.now c.args.p c.index-next-p.result c.requires c.index-next-p.is [] in
    falls_apart c.args.next.now c.args.levels.now c.as_slice.result.now c.args.p c.level_at-own.result (c.level_at-own.result - 1) row
    c.level_at-own.ensures (omega (arith, c.if-own-gt0.true)) (c.are_at_most.ensures h) f on
