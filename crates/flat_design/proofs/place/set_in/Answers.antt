use Rattle.std.proofs.Common.{◌≡◌, ◌∙◌, ap, sym, subst, ◌-◌, ◌<◌, take, drop, length, map, arith}
use Rattle.std.specs.Prelude.{All}
use Rattle.std.proofs.lemmas.Grind.{common_steps}
use Rattle.circuit_run.specs.Writes.{all_written}
use Rattle.design_meaning.specs.Writes.{parts_at}
use Rattle.design_state.specs.Positions.{part_of}
use Rattle.flat_design.proofs.TargetsIn.{one_target, placed_in, placed_behind, placed_before, slice_rest}
use Rattle.flat_design.proofs.place.set_in.Goals as goal

pub returns-then-targets-eq1-clause-state : goal.returns-then-targets-eq1-clause-state
returns-then-targets-eq1-clause-state c =
    let s = c.args.state.now in
    let v = c.args.value in
    let k =
    one_target s c.args.targets.now c.index-targets-0.result v.width v.bits c.if-targets-eq1.true c.index-targets-0.is c.requires.targets
    c.requires.widths v.fits in
    c.write_one.ensures ∙ ap (all_written s) (sym k.2)

pub write_updates-requires : goal.write_updates-requires
write_updates-requires c =
    let s = c.args.state.now in
    let old = c.args.spare.now.items in
    let us = c.as_slice.result.now in
    let n : c.len-before.result ≡ length old = grind (arith, common_steps) in
    let rest : take (length us - c.len-before.result) (drop c.len-before.result us) ≡ drop (length old) c.place.new.out.items =
    slice_rest c.len-before.result us ∙ ap (λ k. drop k us) n ∙ ap (drop (length old)) c.as_slice.ensures.value in
    subst (All (λ u. u.var < length s)) (sym rest)
    (placed_in s c.place.new.out.items old c.args.targets.now c.args.value.bits c.requires.targets c.place.ensures.parts)

pub returns-clause-spare : goal.returns-clause-spare
returns-clause-spare c =
    let old = c.args.spare.now.items in
    let n : c.len-before.result ≡ length old = grind (arith, common_steps) in
    ap (map part_of) (c.truncate.ensures.items ∙ ap (λ k. take k c.place.new.out.items) n)
    ∙ placed_before c.place.new.out.items old (parts_at c.args.state.now c.args.targets.now c.args.value.bits) c.place.ensures.parts

pub returns-clause-state : goal.returns-clause-state
returns-clause-state c =
    let s = c.args.state.now in
    let old = c.args.spare.now.items in
    let us = c.as_slice.result.now in
    let n : c.len-before.result ≡ length old = grind (arith, common_steps) in
    let rest : take (length us - c.len-before.result) (drop c.len-before.result us) ≡ drop (length old) c.place.new.out.items =
    slice_rest c.len-before.result us ∙ ap (λ k. drop k us) n ∙ ap (drop (length old)) c.as_slice.ensures.value in
    c.write_updates.ensures ∙ ap (λ l. all_written s (map part_of l)) rest
    ∙ ap (all_written s) (placed_behind c.place.new.out.items old (parts_at s c.args.targets.now c.args.value.bits) c.place.ensures.parts)
