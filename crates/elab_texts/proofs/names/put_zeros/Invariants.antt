use Rattle.std.proofs.Common.{◌≡◌, ◌++◌, replicate}
use Rattle.elab_texts.proofs.names.put_zeros.Given as goal

abbrev pub invariant-loop-done : goal.invariant-loop-done
invariant-loop-done l = l.text ≡ l.fn.text ++ replicate l.done 48
