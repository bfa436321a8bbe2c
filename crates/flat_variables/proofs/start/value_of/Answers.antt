use Rattle.std.proofs.Common.{subst}
use Rattle.source_meaning.specs.Environment.{Environment}
use Rattle.scope_meaning.specs.Constants.{read}
use Rattle.elab_constants.specs.Reads.{IsFault}
use Rattle.flat_variables.proofs.start.value_of.Goals as goal

pub returns-in-Err : goal.returns-in-Err
returns-in-Err g c = λ known h.
    c.of_fault.ensures known c.args.start.now c.args.width
    (subst (λ (env : Environment). IsFault (read env c.args.start.now).wrong c.in-Err.fault) h c.in-Err.ensures)
