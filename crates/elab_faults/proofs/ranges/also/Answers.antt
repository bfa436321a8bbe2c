use Rattle.std.proofs.Common.{subst, sym}
use Rattle.elab_faults.specs.Flaws.{Finds, both_flaws}
use Rattle.elab_faults.specs.Judged.{Nothing}
use Rattle.elab_faults.proofs.Flaws.{finds_both}
use Rattle.elab_faults.proofs.ranges.also.Goals as goal

pub returns-in-Ok : goal.returns-in-Ok
returns-in-Ok c = λ v w h k.
    let all = subst (Finds (λ (p : Unit {0} × Unit {0}). Unit {0} × Unit {0}) (both_flaws v w)) (sym c.in-Ok.ensures)
    (finds_both Nothing Nothing v w c.args.one c.args.other h k) in
    (all.0, tt)

pub returns-in-Err : goal.returns-in-Err
returns-in-Err c = λ v w h k.
    subst (Finds (λ (p : Unit {0} × Unit {0}). Unit {0} × Unit {0}) (both_flaws v w)) (sym c.in-Err.ensures)
    (finds_both Nothing Nothing v w c.args.one c.args.other h k)
