use Rattle.std.proofs.Common.{◌+◌, ap, sym, subst, ◌∙◌, refl, ℕ}
use Rattle.scope_meaning.specs.Declared.{names_of}
use Rattle.scope_meaning.specs.Heads.{names_here, choice_from}
use Rattle.scope_meaning.specs.Visits.{with_next}
use Rattle.elab_heads.specs.Choices.{IsChoice}
use Rattle.walk_moves.proofs.Moving.{ended_choice}
use Rattle.walk_steps.proofs.Refusals.{refused_by}
use Rattle.walk_steps.proofs.Places.{names_before, taken_by}
use Rattle.walk_choices.proofs.Arms.{chosen_is, chosen_none}
use Rattle.walk_choices.proofs.choice.into_choice.Goals as goal

pub returns-in-Some : goal.returns-in-Some
returns-in-Some c = λ design top done here at rest under b number before l.
    let a = c.args.item.now in
    let arms = c.args.arms.now in
    let last = c.args.last.now in
    let place = with_next at c.args.walk.now.next in
    let h = c.in-Ok.ensures design here place (names_of a) (names_before at a b.midway c.as_slice.result.now c.as_slice.ensures.value) b.single in
    let chosen = chosen_is (choice_from (names_here here at) c.in_ok-first.first arms last) c.in-Some.chosen
    (subst (IsChoice (choice_from (names_here here at) c.in_ok-first.first arms last)) c.in-Some.is h.1) in
    c.into_arm.ensures design top done here at a rest under arms last b number before (taken_by design here place a l h.0) l
    (ap (λ (k : ℕ). choice_from (names_here here at) k arms last) (sym (c.in_ok-first.ensures ∙ ap (λ (k : ℕ). k + 1) number)) ∙ chosen)

pub returns-in-None : goal.returns-in-None
returns-in-None c = λ design top done here at rest under b number before l.
    let a = c.args.item.now in
    let arms = c.args.arms.now in
    let last = c.args.last.now in
    let place = with_next at c.args.walk.now.next in
    let h = c.in-Ok.ensures design here place (names_of a) (names_before at a b.midway c.as_slice.result.now c.as_slice.ensures.value) b.single in
    let chosen = chosen_none (choice_from (names_here here at) c.in_ok-first.first arms last)
    (subst (IsChoice (choice_from (names_here here at) c.in_ok-first.first arms last)) c.in-None.is h.1) in
    ended_choice b.midway (taken_by design here place a l h.0) l
    (ap (λ (k : ℕ). choice_from (names_here here at) k arms last) (sym (c.in_ok-first.ensures ∙ ap (λ (k : ℕ). k + 1) number)) ∙ chosen)

pub returns-in-Err : goal.returns-in-Err
returns-in-Err c = λ design top done here at rest under b number before l.
    let next = c.args.walk.now.next in
    let a = c.args.item.now in
    refused_by at next c.in-Err.fault b.midway.stands l refl
    (c.in-Err.ensures design here (with_next at next) (names_of a) (names_before at a b.midway c.as_slice.result.now c.as_slice.ensures.value) b.single)
