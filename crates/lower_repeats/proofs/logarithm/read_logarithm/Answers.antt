use Rattle.lower_repeats.proofs.Repeats.{logarithm_value}
use Rattle.lower_repeats.proofs.logarithm.read_logarithm.Goals as goal

pub returns-in-Ok : goal.returns-in-Ok
returns-in-Ok c = λ vars a h k.
    logarithm_value vars a c.args.value _ c.alone.result c.in-Ok.is h k
    (record { size = c.alone.ensures.size; signed = c.alone.ensures.signed; form = c.alone.ensures.form })
