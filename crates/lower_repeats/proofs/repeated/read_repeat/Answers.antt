use Rattle.flat_meaning.specs.Expressions.{meaning}
use Rattle.lower_repeats.proofs.Repeats.{repeat_gives, repeat_lacks}
use Rattle.lower_repeats.proofs.repeated.read_repeat.Goals as goal

pub returns-in-Ok : goal.returns-in-Ok
returns-in-Ok c = λ vars n ps w h v k.
    repeat_gives vars n ps c.read_count-count.result c.args.parts c.both-all.result _ c.repeated.result
    c.both-all.ensures c.in-Ok.is w h (c.read_count-count.ensures (meaning vars n) v) k c.repeated.ensures

pub returns-in-Err : goal.returns-in-Err
returns-in-Err c = λ vars n ps w h v k.
    repeat_lacks vars n ps c.read_count-count.result c.args.parts c.both-all.result _
    c.both-all.ensures c.in-Err.is w (c.read_count-count.ensures (meaning vars n) v) k
