use Rattle.std.proofs.lemmas.List.{nil_from_length}
use Rattle.walk_kinds.proofs.Rests.{of_items, items_past, at_first}
use Rattle.walk_kinds.proofs.items.step_items.Goals as goal

pub returns-in_ok-push-in-Some : goal.returns-in_ok-push-in-Some
returns-in_ok-push-in-Some c = λ files top done here at tasks are s.
    let w = c.args.walk.now in
    let p = c.in-Some.parts in
    c.step_item.ensures files top done here at p.1.now (of_items w s).under are (at_first w s c.in-Some.ensures.cases.0 c.in_ok-push-in-Some.ensures)

pub returns-in-None : goal.returns-in-None
returns-in-None c = λ files top done here at tasks are s. items_past c.args.walk.now s (nil_from_length c.args.items.now c.in-None.ensures.cases)
