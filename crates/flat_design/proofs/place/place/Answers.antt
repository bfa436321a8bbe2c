use Rattle.std.proofs.Common.{◌≡◌, ◌∙◌, ap, sym, arith, ◌+◌, ◌-◌, ◌++◌, drop, map, ◌∷◌, []}
use Rattle.std.proofs.lemmas.Grind.{common_steps}
use Rattle.std.specs.Prelude.{pos}
use Rattle.bit_values.specs.Values.{select}
use Rattle.design_meaning.specs.Writes.{target_width, target_widths, part_at, parts_at}
use Rattle.design_state.specs.Positions.{part_of}
use Rattle.design_state.proofs.Turns.{drop_here, one_more, map_more}
use Rattle.flat_design.proofs.TargetsIn.{rest_in}
use Rattle.flat_design.proofs.place.place.Goals as goal

pub loop-target-preserved : goal.loop-target-preserved
loop-target-preserved c =
    let s = c.args.state.now in
    let t = c.target-item.result in
    let rest = drop (c.loop-target.target-index + 1) c.args.targets.now in
    let e = drop_here c.args.targets.now c.loop-target.target-index t c.loop-target-test.true c.target-item.is in
    let inv = rw e at c.loop-target.invariant in
    let n = c.args.value.bits in
    let below : c.loop-target.left - c.width_named-width.result ≡ target_widths s rest = omega (arith, inv.widths, c.width_named-width.ensures.value) in
    let same : c.selected-part.result.bits ≡ select (target_width s t) n (pos (target_widths s rest)) =
    c.selected-part.ensures.value ∙ ap (λ k. select c.width_named-width.result n (pos k)) (c.from.ensures ∙ below)
    ∙ ap (λ k. select k n (pos (target_widths s rest))) c.width_named-width.ensures.value in
    let is : part_of c.update_at.result ≡ part_at s t (select (target_width s t) n (pos (target_widths s rest))) =
    c.update_at.ensures.value ∙ ap (part_at s t) same in
    let more : map part_of c.push.new.self.items ≡ map part_of c.loop-target.out.items ++ part_of c.update_at.result ∷ [] =
    ap (map part_of) c.in-Ok.ensures.items ∙ map_more part_of c.loop-target.out.items c.update_at.result in
    record {
      parts = one_more (map part_of c.loop-target.out.items) (map part_of c.push.new.self.items) (part_of c.update_at.result) _ (parts_at s rest n) _ more is
          inv.parts;
      widths = sym below;
      targets = rest_in s t rest inv.targets;
      room = grind (arith, common_steps, inv.room);
      capacity = omega (arith, inv.capacity, c.push.ensures.capacity);
      most = omega (arith, inv.most);
    }
