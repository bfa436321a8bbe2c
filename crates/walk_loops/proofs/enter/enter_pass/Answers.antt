use Rattle.std.proofs.Common.{ℕ, ℤ, List, ◌≡◌, ◌+◌, ◌∷◌, [], Some, ap, sym, subst, ◌∙◌, refl}
use Rattle.std.proofs.Math.Facts.{to_z-of_z}
use Rattle.scope_meaning.specs.BlockNames.{inside, pass_name}
use Rattle.scope_meaning.specs.Scope.{genvar_constant}
use Rattle.scope_meaning.specs.Visits.{past, with_next}
use Rattle.walk_laws.specs.Rest.{a_step_of}
use Rattle.walk_state.specs.declared.left.Left.{Left}
use Rattle.walk_state.specs.declared.left.Left.TheVariants as left
use Rattle.walk_state.specs.declared.left.LoopPasses.{LoopPasses}
use Rattle.walk_state.specs.Standing.{AreLeft, step}
use Rattle.walk_loops.proofs.Passes.{pass_entered, same_frames, genvar_of_loop}
use Rattle.walk_loops.proofs.enter.enter_pass.Goals as goal

pub returns : goal.returns
returns c = λ design top done here place a l under m is_loop calm holds room.
    let old = c.args.walk.now in
    let n = c.args.value in
    let name = pass_name l.block.name n in
    let path : c.in_ok-path.path ≡ inside here.path name =
    c.in_ok-path.ensures ∙ ap (λ (p : List ℕ). inside p c.as_slice-2.result.now) (c.as_slice.ensures ∙ m.scope.path)
    ∙ ap (inside here.path) (c.as_slice-2.ensures ∙ c.in_ok-name.ensures
    ∙ ap (λ (k : ℤ). pass_name c.deref-4.result.now.block.now k) (to_z-of_z c.ranges.value)
    ∙ ap (λ (p : LoopPasses). pass_name p.block.now n) c.deref-4.ensures ∙ ap (λ (b : List ℕ). pass_name b n) is_loop.block) in
    let number : c.deref.result.now.item ≡ place.item = ap (λ (p : LoopPasses). p.item) c.deref.ensures ∙ is_loop.item in
    let items : c.deref-2.result.now.body.now ≡ l.body = ap (λ (p : LoopPasses). p.body.now) c.deref-2.ensures ∙ is_loop.body in
    let own : c.deref-3.result.now.name.now ≡ l.name = ap (λ (p : LoopPasses). p.name.now) c.deref-3.ensures ∙ is_loop.name in
    let lefts : AreLeft design here (past place a []) c.push.new.self (a_step_of here place a l n ∷ under) =
    subst (λ (ls : List Left). AreLeft design here (past place a []) ls (a_step_of here place a l n ∷ under))
    (sym (c.in_ok-push.ensures ∙ ap (λ (k : ℤ). left.Step c.args.passes k ∷ old.left) (to_z-of_z c.ranges.value))) (step is_loop m.left) in
    pass_entered m calm holds room refl items (c.in_ok-first.ensures ∙ ap (λ (k : ℕ). k + 1) number) refl refl refl
    (c.in_ok-enter_block.ensures design here (past place a []) (with_next place old.next) name (Some (genvar_constant l.name n))
    (a_step_of here place a l n ∷ under) m.scope m.names lefts refl (sym number) (same_frames here place a old.next) path
    (genvar_of_loop c.in_ok-genvar.genvar own (to_z-of_z c.ranges.value) c.in_ok-genvar.ensures))
