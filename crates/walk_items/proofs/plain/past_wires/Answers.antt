use Rattle.std.proofs.Common.{ap, refl}
use Rattle.scope_meaning.specs.Declared.{is_plain, names_of}
use Rattle.scope_meaning.specs.Visits.{with_next}
use Rattle.walk_steps.proofs.Refusals.{refused_by}
use Rattle.walk_steps.proofs.Places.{names_before, taken_by}
use Rattle.walk_items.proofs.plain.past_wires.Goals as goal

pub returns-in_ok-past_plain-in-Ok : goal.returns-in_ok-past_plain-in-Ok
returns-in_ok-past_plain-in-Ok c = λ design top done here at rest under signed wires b number l.
    let a = c.args.item.now in
    let h = c.in-Ok.ensures design here (with_next at c.args.walk.now.next) (names_of a) signed wires
    (names_before at c.args.item.now b.midway c.as_slice.result.now c.as_slice.ensures.value) b.single in
    c.in_ok-past_plain-in-Ok.ensures design top done here at a rest under b.midway number (taken_by design here (with_next at c.args.walk.now.next) a l h.0)
    (ap is_plain l)

pub returns-in-Err : goal.returns-in-Err
returns-in-Err c = λ design top done here at rest under signed wires b number l.
    let next = c.args.walk.now.next in
    refused_by at next c.in-Err.fault b.midway.stands l refl
    (c.in-Err.ensures design here (with_next at next) (names_of c.args.item.now) signed wires
    (names_before at c.args.item.now b.midway c.as_slice.result.now c.as_slice.ensures.value) b.single)
