use Rattle.std.proofs.Common.{subst, sym, Ok, Err, ◌∷◌, []}
use Rattle.source_meaning.specs.Environment.{Environment}
use Rattle.scope_meaning.specs.Constants as constants
use Rattle.scope_meaning.specs.Wanted.{want}
use Rattle.elab_constants.specs.Reads.{Reads, IsFault}
use Rattle.elab_ranges.specs.declared.fault.RangeFault.{RangeFault}
use Rattle.elab_faults.specs.Flaws.{IsFlaw, flaws_in}
use Rattle.elab_faults.proofs.Single.{expr-ok, expr-err}
use Rattle.elab_faults.proofs.ranges.read_constant.Goals as goal

pub returns-in-Ok : goal.returns-in-Ok
returns-in-Ok g c = λ known here.
    let e = c.args.expr.now in
    let h = subst (λ (env : Environment). Reads (constants.read env e) (Ok c.in-Ok.term)) here c.in-Ok.ensures in
    (expr-ok known e h.0, h.1)

pub returns-in-Err : goal.returns-in-Err
returns-in-Err g c = λ known here.
    let e = c.args.expr.now in
    let h = subst (λ (env : Environment). IsFault (constants.read env e).wrong c.in-Err.fault) here c.in-Err.ensures in
    subst (IsFlaw (flaws_in (want known e ∷ []))) (sym c.of_constant.ensures) (expr-err known e c.in-Err.fault h)
