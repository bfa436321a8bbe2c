use Rattle.std.proofs.Common.{◌∙◌, ap, subst, sym, map}
use Rattle.scope_meaning.specs.Constants.{option_of}
use Rattle.scope_meaning.specs.Overrides.{expressions}
use Rattle.scope_meaning.specs.Wanted.{want}
use Rattle.elab_faults.specs.Flaws.{IsFlaw, flaws_in, of_constant}
use Rattle.elab_instances.proofs.Values.{values-first, values-err}
use Rattle.elab_instances.proofs.judge.values.Goals as goal

pub returns-in-Ok : goal.returns-in-Ok
returns-in-Ok g c = λ known here.
    let h = c.in-Ok.ensures known here in
    (values-first known _ ∙ ap (option_of of_constant) h.0, h.1)

pub returns-in-Err : goal.returns-in-Err
returns-in-Err g c = λ known here.
    let es = expressions c.args.params.now in
    subst (IsFlaw (flaws_in (map (want known) es))) (sym c.of_constant.ensures) (values-err known es c.in-Err.fault (c.in-Err.ensures known here))
