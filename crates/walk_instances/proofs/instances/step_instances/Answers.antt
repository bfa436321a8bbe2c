use Rattle.std.proofs.Common.{◌∷◌, []}
use Rattle.std.proofs.lemmas.List.{nil_from_length}
use Rattle.walk_instances.proofs.Made.{of_instances, making, none_more}
use Rattle.walk_instances.proofs.instances.step_instances.Goals as goal

pub returns-in-Some : goal.returns-in-Some
returns-in-Some c = λ files top done here at tasks table s.
    let p = c.in-Some.parts in
    c.step_one.ensures files top done here table (making (p.0.now ∷ p.1.now) (of_instances c.args.walk.now s) c.in-Some.ensures.cases.0)

pub returns-in-None : goal.returns-in-None
returns-in-None c = λ files top done here at tasks table s.
    none_more (making [] (of_instances c.args.walk.now s) (nil_from_length c.args.made.now c.in-None.ensures.cases))
