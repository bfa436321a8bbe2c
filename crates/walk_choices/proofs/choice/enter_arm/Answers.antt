use Rattle.std.proofs.Common.{ℕ, List, ◌≡◌, ◌+◌, ◌∷◌, [], None, ap, sym, ◌∙◌, refl}
use Rattle.vlog_tree.specs.declared.item.GenBody.{out-GenBody}
use Rattle.scope_meaning.specs.BlockNames.{inside, block_name}
use Rattle.scope_meaning.specs.Scope.{Frame}
use Rattle.scope_meaning.specs.Visits.{past, with_next, names_declared}
use Rattle.walk_laws.specs.Rest.{some_items}
use Rattle.walk_moves.proofs.Moving.{same_at}
use Rattle.walk_state.specs.Standing.{below}
use Rattle.walk_steps.proofs.Places.{names_before}
use Rattle.walk_choices.proofs.Arms.{arm_entered, same_frames}
use Rattle.walk_choices.proofs.choice.enter_arm.Goals as goal

pub returns : goal.returns
returns c = λ design top done here at a rest under arms last b number before taken l chosen room.
    let old = c.args.walk.now in
    let place = with_next at old.next in
    let body = c.args.chosen.body.now in
    let name = block_name (names_declared here) (at.construct + 1) (out-GenBody body).name in
    let own : Frame = record { number = here.number; declared = here.declared; genvar = here.genvar; known = at.known } in
    let named : c.in_ok-name.name ≡ name =
    c.in_ok-name.ensures own (c.in-Some.ensures own here.outer (names_before at a b.midway c.as_slice.result.now c.as_slice.ensures.value))
    ∙ ap (λ (k : ℕ). block_name (names_declared here) k (out-GenBody body).name) (c.in_ok-construct.ensures ∙ ap (λ (k : ℕ). k + 1) before) in
    let path : c.in_ok-path.path ≡ inside here.path name =
    c.in_ok-path.ensures ∙ ap (λ (p : List ℕ). inside p c.as_slice-3.result.now) (c.as_slice-2.ensures ∙ b.midway.scope.path)
    ∙ ap (inside here.path) (c.as_slice-3.ensures ∙ named) in
    arm_entered body c.args.chosen.first c.as_slice-items.result.now b taken l chosen room refl c.as_slice-items.ensures
    (c.in_ok-enter_block.ensures design here (past place a []) place name None (some_items here rest ∷ under) (same_at old.next b.midway.scope)
    b.midway.names (below b.midway.left) refl (sym number) (same_frames here at a old.next) path tt)
