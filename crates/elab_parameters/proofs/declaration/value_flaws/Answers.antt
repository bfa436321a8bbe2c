use Rattle.std.proofs.Common.{◌≡◌, ◌∙◌, subst, sym, ap, List, take, map, ◌++◌, ◌∷◌, [], ◌+◌}
use Rattle.std.specs.List.{flat_map}
use Rattle.std.proofs.lemmas.List.{take_all, take_more}
use Rattle.vlog_tree.specs.declared.item.ParamName.{ParamName}
use Rattle.scope_meaning.specs.Wanted.{want, own_value}
use Rattle.elab_faults.specs.Flaws.{Flaws, Finds, flaws_in}
use Rattle.elab_faults.specs.Judged.{Nothing}
use Rattle.elab_parameters.specs.declared.form.FormSize.TheVariants as size
use Rattle.elab_parameters.specs.Values.{IsConstantOf}
use Rattle.elab_parameters.proofs.Declarations.{also_more}
use Rattle.elab_parameters.proofs.declaration.value_flaws.Goals as goal

pub loop-of-preserved : goal.loop-of-preserved
loop-of-preserved g c = λ here known same given.
    also_more here c.args.local known (IsConstantOf here known c.args.local size.Own c.of-item.result) c.args.declared.now c.loop-of.of-index
    c.of-item.result c.loop-of.so_far c.parameter_value.result c.also-so_far.result
    c.loop-of-test.true c.of-item.is c.also-so_far.ensures (c.loop-of.invariant here known same given) (c.parameter_value.ensures here known same given)

pub returns : goal.returns
returns g c = λ here known same given.
    subst (λ (ps : List ParamName). Finds Nothing (flaws_in (map (want known) (flat_map (own_value here c.args.local) ps))) c.loop-of.so_far)
    (take_all c.loop-of.of-index c.args.declared.now c.loop-of-test.false) (c.loop-of.invariant here known same given)
