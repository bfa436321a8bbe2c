use Rattle.std.proofs.Common.{◌≡◌, ◌∙◌, ap, sym, subst, map}
use Rattle.scope_meaning.specs.Heads.{names_here}
use Rattle.scope_meaning.specs.Overrides.{parameters, givens, expressions}
use Rattle.scope_meaning.specs.ScopeRules.{refusal_at}
use Rattle.scope_meaning.specs.Wanted.{want}
use Rattle.elab_overrides.specs.Given.{AreGiven}
use Rattle.elab_faults.specs.Flaws.{Finds, flaws_in}
use Rattle.elab_faults.specs.Judged.{Judges, IsRefusal}
use Rattle.elab_instances.specs.Instances.{IsMadeOf}
use Rattle.elab_instances.proofs.Later.{made_at, values-refused, judges-made}
use Rattle.elab_instances.proofs.judge.of_module.Goals as goal

pub returns-in-Err : goal.returns-in-Err
returns-in-Err c = λ design here at ns of made m above named are d h.
    let params = c.args.params.now in
    let known = names_here here at in
    subst (IsRefusal (refusal_at design (made_at here at c.args.place ns of params made))) (sym c.fault_at.ensures)
    (values-refused design here at c.args.place ns of params made c.in-Err.fault d
    (subst (Finds (AreGiven (givens known m params)) (flaws_in (map (want known) (expressions params)))) c.in-Err.is h))

pub returns : goal.returns
returns c = λ design here at ns of made m above named are d h.
    let params = c.args.params.now in
    let known = names_here here at in
    let found = subst (Finds (AreGiven (givens known m params)) (flaws_in (map (want known) (expressions params)))) c.in-Ok.is h in
    subst (Judges (IsMadeOf design known of params) (refusal_at design (made_at here at c.args.place ns of params made))) (sym c.refused.ensures)
    (judges-made design here at c.args.place ns of params made c.is_bad.result c.contains-is_inner.result _ d found.0
    (record { m = m; found = named; given = found.1 }) (c.is_bad.ensures (parameters m) are) (c.contains-is_inner.ensures design here.above of m above named))
