use Rattle.std.proofs.Common.{◌≡◌, ◌++◌, replicate}
use Rattle.design_state.proofs.state.put_words.Given as goal

abbrev pub invariant-loop-done : goal.invariant-loop-done
invariant-loop-done l = l.words.items ≡ l.fn.words.items ++ replicate l.done l.word
