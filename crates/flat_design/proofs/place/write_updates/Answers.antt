use Rattle.std.proofs.Common.{◌∙◌, ap, sym, subst, ◌+◌, ◌<◌, drop, map, length, slice_index_or}
use Rattle.circuit_run.specs.Writes.{all_written}
use Rattle.design_state.specs.Positions.{part_of}
use Rattle.design_state.proofs.Turns.{drop_here, length_written}
use Rattle.flat_design.proofs.place.write_updates.Goals as goal

pub write_part-requires : goal.write_part-requires
write_part-requires c =
    let u = c.update-item.result in
    let here : (slice_index_or c.args.updates.now c.loop-update.update-index u).var < length c.args.state.now =
    c.requires c.loop-update.update-index u c.loop-update-test.true in
    subst (λ n. u.var < n) (sym c.loop-update.invariant.same_length) (subst (λ x. x.var < length c.args.state.now) (sym c.update-item.is) here)

pub loop-update-preserved : goal.loop-update-preserved
loop-update-preserved c =
    let s = c.loop-update.state in
    let u = c.update-item.result in
    let rest = drop (c.loop-update.update-index + 1) c.args.updates.now in
    let e = drop_here c.args.updates.now c.loop-update.update-index u c.loop-update-test.true c.update-item.is in
    record {
      written = ap (λ w. all_written w (map part_of rest)) c.write_part.ensures ∙ sym (ap (λ l. all_written s (map part_of l)) e)
          ∙ c.loop-update.invariant.written;
      same_length = ap length c.write_part.ensures ∙ length_written s (part_of u) ∙ c.loop-update.invariant.same_length;
    }
