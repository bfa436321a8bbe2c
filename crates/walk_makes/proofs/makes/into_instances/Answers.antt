use Rattle.std.proofs.Common.{ℕ, ap, sym, refl, ◌∙◌, Some}
use Rattle.std.specs.Borrow.{Bor}
use Rattle.vlog_tree.specs.declared.item.Conns.{Conns}
use Rattle.vlog_tree.specs.declared.item.ItemKind.TheOpen as i
use Rattle.vlog_tree.specs.declared.module.Module.{Module}
use Rattle.scope_meaning.specs.Declared.{names_of}
use Rattle.scope_meaning.specs.ScopeTrees.{modules}
use Rattle.scope_meaning.specs.Visits.{with_next}
use Rattle.walk_steps.proofs.Refusals.{refused_by}
use Rattle.walk_steps.proofs.Places.{names_before, taken_by}
use Rattle.walk_makes.proofs.Named.{is_fresh, named_so}
use Rattle.walk_makes.proofs.makes.into_instances.Goals as goal

pub returns-in_ok-to_instances-in-Ok : goal.returns-in_ok-to_instances-in-Ok
returns-in_ok-to_instances-in-Ok c = λ files top done here at rest under are b number l.
    let design = modules files in
    let a = c.args.item.now in
    let of = c.args.of.now in
    let made = c.args.made.now in
    let place = with_next at c.args.walk.now.next in
    let by = c.in_ok-by-in-Ok.by.value in
    let h = c.in-Ok.ensures files here place (names_of a) made are b.midway.above
    (names_before at a b.midway c.as_slice.result.now c.as_slice.ensures.value) b.single in
    let m = h.1.m in
    let k = c.in_ok-by-in-Ok.ensures files of m are h.1.found in
    c.in_ok-to_instances-in-Ok.ensures design top done here at a rest under of b.midway (taken_by design here place a l h.0)
    (l ∙ ap (λ (p : Bor Conns). i.Instances of p.now made) (sym k.its_params))
    (h.1.found ∙ ap (λ (n : ℕ). Some (n, m)) (sym k.its_number) ∙ ap (λ (x : Module). Some (by.number, x)) (sym k.its_module))
    (named_so design of h.1.found ∙ ap (λ (x : Module). x.name) (sym k.its_module))
    (is_fresh design here place a of c.args.params.now made h.0) (k.its_item ∙ number)

pub returns-in-Err : goal.returns-in-Err
returns-in-Err c = λ files top done here at rest under are b number l.
    let next = c.args.walk.now.next in
    let a = c.args.item.now in
    refused_by at next c.in-Err.fault b.midway.stands l refl
    (c.in-Err.ensures files here (with_next at next) (names_of a) c.args.made.now are b.midway.above
    (names_before at a b.midway c.as_slice.result.now c.as_slice.ensures.value) b.single)
