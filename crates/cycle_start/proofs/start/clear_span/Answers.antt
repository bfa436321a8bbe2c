use Rattle.std.proofs.Common.{◌≡◌, ◌∙◌, sym, ap, subst, ◌+◌, ◌∷◌, [], arith}
use Rattle.circuit_run.specs.Writes.{written}
use Rattle.cycle_start.specs.Cleared.{AreCleared}
use Rattle.cycle_start.proofs.Clearing.{up_to, zeros_part, next_word}
use Rattle.cycle_start.proofs.start.clear_span.Goals as goal

pub loop-word-preserved : goal.loop-word-preserved
loop-word-preserved c =
    let d = c.args.design.now in
    let s = c.args.span in
    let w = c.loop-word.word in
    subst (AreCleared d (up_to s (w + 1) ∷ []) c.args.state.now)
    (sym (c.write_part.ensures ∙ ap (written c.loop-word.state)
    (zeros_part s w _ _ _ _ c.from.ensures c.from-in-loop-word.ensures c.new-zero.ensures.width c.new-zero.ensures.value)))
    (next_word d s c.requires.span.places c.args.state.now c.loop-word.state w (omega arith) c.loop-word.invariant)

pub returns : goal.returns
returns c =
    let d = c.args.design.now in
    let s = c.args.span in
    let end : c.loop-word.word ≡ s.word_end = omega (arith, c.loop-word-test.false, c.requires.span.some_word) in
    subst (λ w. AreCleared d (up_to s w ∷ []) c.args.state.now c.loop-word.state) end c.loop-word.invariant
