use Rattle.std.proofs.Common.{◌≡◌, ◌∙◌, ap, sym, ◌+◌, ◌||◌, false, drop}
use Rattle.std.specs.List.{list_any}
use Rattle.design_meaning.specs.Steps.{is_match}
use Rattle.design_state.proofs.Turns.{drop_here}
use Rattle.flat_design.proofs.Items as items
use Rattle.flat_design.proofs.run.matches_any.Goals as goal

pub matches_item-requires : goal.matches_item-requires
matches_item-requires c =
    let item = c.item-item.result in
    let rest = drop (c.loop-item.item-index + 1) c.args.items.now in
    let e = drop_here c.args.items.now c.loop-item.item-index item c.loop-item-test.true c.item-item.is in
    let inv = rw e at c.loop-item.invariant in
    items.first_item c.args.state.now item rest inv.items

pub loop-item-preserved : goal.loop-item-preserved
loop-item-preserved c =
    let s = c.args.state.now in
    let n = c.args.number in
    let item = c.item-item.result in
    let rest = drop (c.loop-item.item-index + 1) c.args.items.now in
    let e = drop_here c.args.items.now c.loop-item.item-index item c.loop-item-test.true c.item-item.is in
    let inv = rw e at c.loop-item.invariant in
    let none : is_match s n item ≡ false = sym c.matches_item.ensures ∙ c.if-matches_item.false in
    record {
      same = inv.same ∙ ap (λ b. b || list_any (is_match s n) rest) none;
      items = items.rest_items s item rest inv.items;
    }
