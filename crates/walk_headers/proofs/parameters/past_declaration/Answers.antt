use Rattle.std.proofs.Common.{◌≡◌}
use Rattle.vlog_tree.specs.Trees.{item_place}
use Rattle.scope_meaning.specs.Declared.{names_of}
use Rattle.scope_meaning.specs.Visits.{with_next}
use Rattle.walk_steps.proofs.Places.{taken_by}
use Rattle.walk_headers.proofs.HeaderItems.{refused_by, names_before, declared, its_constants}
use Rattle.walk_headers.proofs.parameters.past_declaration.Goals as goal

pub returns-in_ok-past_parameter-in-Ok : goal.returns-in_ok-past_parameter-in-Ok
returns-in_ok-past_parameter-in-Ok c = λ design top done here at under b e.
    let a = c.args.item.now in
    let next = c.args.walk.now.next in
    let judged = c.in-Ok.ensures design here (with_next at next) (names_of a) (names_before b) b.opening.scope.given b.single in
    c.in_ok-past_parameter-in-Ok.ensures design top done here at a under
    (declared c.judge_parameters.new.names c.in-Ok.constants b judged.1.1) (taken_by design here (with_next at next) a e judged.0)
    (its_constants here (with_next at next) a e judged.1.0)

pub returns-in-Err : goal.returns-in-Err
returns-in-Err c = λ design top done here at under b e.
    let a = c.args.item.now in
    let next = c.args.walk.now.next in
    refused_by at next c.in-Err.fault b.opening.stands e
    (c.in-Err.ensures design here (with_next at next) (names_of a) (names_before b) b.opening.scope.given b.single)
