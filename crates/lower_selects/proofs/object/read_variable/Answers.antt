use Rattle.lower_selects.proofs.Objects.{memory_alone, variable_reads, wide_variable}
use Rattle.lower_selects.proofs.object.read_variable.Goals as goal

pub returns-then-of : goal.returns-then-of
returns-then-of c = λ vars h s. memory_alone vars c.args.var c.args.of.now h c.if-of.true

pub returns-in-Ok : goal.returns-in-Ok
returns-in-Ok c = λ vars h s.
    variable_reads vars c.args.var c.args.of.now c.some_bits.result _ c.alone.result h c.if-of.false s c.in-Ok.is c.some_bits.ensures
    (record { size = c.alone.ensures.size; signed = c.alone.ensures.signed; form = c.alone.ensures.form })

pub returns-in-Err : goal.returns-in-Err
returns-in-Err c = λ vars h s. wide_variable vars c.args.var c.args.of.now c.some_bits.result _ s c.in-Err.is c.some_bits.ensures
