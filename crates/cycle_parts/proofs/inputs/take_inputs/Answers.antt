use Rattle.std.proofs.Common.{◌≡◌, ◌∙◌, sym, ap, subst, ◌+◌, ◌<◌, length, slice_index, slice_index_or, arith}
use Rattle.cycle_parts.proofs.WordLaws.{AreTaken, input_at, word_written, one_taken, all_taken, var_at}
use Rattle.cycle_parts.proofs.inputs.take_inputs.Goals as goal

pub loop-at-preserved : goal.loop-at-preserved
loop-at-preserved c =
    let d = c.args.design.now in
    let n = c.loop-at.at in
    let values = c.args.values.now in
    let old = c.args.state.now in
    let here : n < length c.as_slice-inputs.result.now =
    omega (arith, c.loop-at-test.true, c.requires.row.as_many, ap length c.loop-at.invariant.same) in
    let var : (slice_index_or c.as_slice-inputs.result.now n c.index-inputs-at.result).var ≡ input_at d n =
    ap (λ input. input.var) (sym c.index-inputs-at.is)
    ∙ var_at d c.as_slice-inputs.result.now n c.index-inputs-at.result c.loop-at.invariant.same here c.index-inputs-at.is in
    record {
      taken = subst (AreTaken d (n + 1) values old) (sym (c.write.ensures ∙ ap (λ v. word_written c.loop-at.state v 0 (slice_index values n)) var))
          (one_taken d c.requires.inputs values c.requires.row n old c.loop-at.state c.loop-at-test.true c.loop-at.invariant.taken);
      same = c.loop-at.invariant.same;
    }

pub returns-clause-inputs : goal.returns-clause-inputs
returns-clause-inputs c =
    all_taken c.args.design.now c.requires.inputs c.args.values.now c.requires.row c.loop-at.at c.args.state.now c.loop-at.state c.loop-at-test.false
    c.loop-at.invariant.taken
