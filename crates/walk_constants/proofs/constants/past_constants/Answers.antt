use Rattle.std.proofs.Common.{map, refl}
use Rattle.scope_meaning.specs.Declared.{names_of}
use Rattle.scope_meaning.specs.ScopeTrees.{seen_constant}
use Rattle.scope_meaning.specs.Visits.{with_next}
use Rattle.walk_steps.proofs.Refusals.{refused_by}
use Rattle.walk_steps.proofs.Places.{names_before, taken_by}
use Rattle.walk_constants.proofs.Known.{knows}
use Rattle.walk_constants.proofs.constants.past_constants.Goals as goal

pub returns-in_ok-past_parameters-in-Ok : goal.returns-in_ok-past_parameters-in-Ok
returns-in_ok-past_parameters-in-Ok c = λ design top done here at rest under b number l.
    let a = c.args.item.now in
    let w = c.args.walk.now in
    let place = with_next at w.next in
    let h = c.in-Ok.ensures design here place (names_of a) (names_before at a b.midway w.names.items refl) b.midway.scope.given b.single in
    c.in_ok-past_parameters-in-Ok.ensures design top done here at a rest under c.args.local c.args.form.now c.args.declared.now
    (knows (map seen_constant c.in-Ok.constants) c.judge_parameters.new.names b h.1.1) number (taken_by design here place a l h.0) l h.1.0

pub returns-in-Err : goal.returns-in-Err
returns-in-Err c = λ design top done here at rest under b number l.
    let a = c.args.item.now in
    let w = c.args.walk.now in
    refused_by at w.next c.in-Err.fault b.midway.stands l refl
    (c.in-Err.ensures design here (with_next at w.next) (names_of a) (names_before at a b.midway w.names.items refl) b.midway.scope.given b.single)
