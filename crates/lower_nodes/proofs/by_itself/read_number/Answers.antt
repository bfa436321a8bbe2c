use Rattle.std.proofs.Common.{arith}
use Rattle.lower_nodes.proofs.Others.{number_form, number_wide, no_number}
use Rattle.lower_nodes.proofs.by_itself.read_number.Goals as goal

pub returns-then-width-gt128 : goal.returns-then-width-gt128
returns-then-width-gt128 c = λ vars free h. number_wide vars c.args.width c.args.signed c.args.value free (omega (arith, c.if-width-gt128.true))

pub returns-then-width-eq0 : goal.returns-then-width-eq0
returns-then-width-eq0 c = λ vars free h. no_number c.args.width c.args.value c.if-width-eq0.true h

pub returns : goal.returns
returns c = λ vars free h.
    number_form vars c.args.width c.args.signed c.args.value free c.alone.result
    (record { size = c.alone.ensures.size; signed = c.alone.ensures.signed; form = c.alone.ensures.form })
