use Rattle.std.proofs.Common.{◌∙◌, ◌||◌, ap, is_some, List, take}
use Rattle.std.specs.List.{list_any}
use Rattle.std.proofs.lemmas.List.{take_all}
use Rattle.flat_loop_variables.specs.Turned.{turns_over}
use Rattle.flat_loop_variables.proofs.Turns.{are_loop_variables}
use Rattle.flat_loop_variables.proofs.turned.loop_variables.Goals as goal

pub returns : goal.returns
returns c = λ vs are.
    are_loop_variables c.args.scopes.now.scopes.items vs c.args.spots.now c.loop-spot.table are
    (λ s n. c.loop-spot.invariant s n
    ∙ ap (λ b. b || list_any (turns_over c.args.scopes.now.scopes.items s n) (take c.loop-spot.spot-index c.args.spots.now))
    (ap is_some (c.new-table.ensures s n))
    ∙ ap (list_any (turns_over c.args.scopes.now.scopes.items s n)) (take_all c.loop-spot.spot-index c.args.spots.now c.loop-spot-test.false))
