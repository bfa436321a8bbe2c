use Rattle.std.proofs.Common.{ap, refl, sym, subst, ◌∙◌, Some, w32, rules}
use Rattle.std.proofs.lemmas.Int.{to_z-of_z}
use Rattle.scope_meaning.specs.Declared.{names_of}
use Rattle.scope_meaning.specs.Heads.{GenLoop, gen_loop}
use Rattle.scope_meaning.specs.Visits.{with_next}
use Rattle.walk_state.specs.Standing.{IsLoop}
use Rattle.walk_steps.proofs.Refusals.{refused_by}
use Rattle.walk_steps.proofs.Places.{names_before, taken_by}
use Rattle.walk_loops.proofs.turns.into_loop.Goals as goal

pub returns-in_ok-to_loop-in-Ok : goal.returns-in_ok-to_loop-in-Ok
returns-in_ok-to_loop-in-Ok c = λ design top done here at rest under label places b number same l.
    let a = c.args.item.now in
    let head = c.args.head in
    let body = c.args.body.now in
    let it : GenLoop = gen_loop head.name.now head.from.now head.test.now head.step_name.now head.step.now label places body in
    let h = c.in-Ok.ensures design here (with_next at c.args.walk.now.next) (names_of a) label places body
    (names_before at c.args.item.now b.midway c.as_slice.result.now c.as_slice.ensures.value) b.single in
    c.in_ok-to_loop-in-Ok.ensures design top done here at a rest under it b.midway (taken_by design here (with_next at c.args.walk.now.next) a l h.0) l
    (h.1 ∙ ap Some (sym (to_z-of_z w32 c.in-Ok.value (search rules))))
    (subst (IsLoop at a it) (sym c.in_ok-passes-in-Ok.ensures)
    (record { first = refl; item = number; name = refl; test = refl; step = refl; block = sym same; body = refl }))

pub returns-in-Err : goal.returns-in-Err
returns-in-Err c = λ design top done here at rest under label places b number same l.
    let next = c.args.walk.now.next in
    refused_by at next c.in-Err.fault b.midway.stands l refl
    (c.in-Err.ensures design here (with_next at next) (names_of c.args.item.now) label places c.args.body.now
    (names_before at c.args.item.now b.midway c.as_slice.result.now c.as_slice.ensures.value) b.single)
