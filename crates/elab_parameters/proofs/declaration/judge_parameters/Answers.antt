use Rattle.std.proofs.Common.{refl, subst, sym, ◌∙◌, ap}
use Rattle.vlog_tree.specs.declared.item.ItemKind.TheOpen as i
use Rattle.scope_meaning.specs.Standing.{standing_item}
use Rattle.scope_meaning.specs.ScopeRules.{refusal_at}
use Rattle.elab_faults.specs.Flaws.{flaws_at}
use Rattle.elab_faults.specs.Judged.{Judges}
use Rattle.elab_faults.proofs.Flaws.{finds_same}
use Rattle.elab_places.proofs.Rules.{judges}
use Rattle.elab_parameters.specs.Declarations.{AreDeclared, declaration_flaws}
use Rattle.elab_parameters.proofs.Declarations.{parameter-flaws}
use Rattle.elab_parameters.proofs.declaration.judge_parameters.Goals as goal

pub returns : goal.returns
returns c = λ design here at ns are given d.
    let p = c.args.place in
    let f = c.args.form.now in
    let ps = c.args.declared.now in
    let x = standing_item here at p ns (i.Parameter c.args.local f ps) in
    let P = AreDeclared here at c.args.local f ps c.declared_constants.new.names.items in
    subst (Judges P (refusal_at design x)) (sym c.at_place.ensures)
    (judges P design x c.declared_constants.result d refl refl
    (finds_same P (declaration_flaws here at c.args.local f ps) (flaws_at x) c.declared_constants.result
    (sym (parameter-flaws here at p ns c.args.local f ps)) (c.declared_constants.ensures here at are given)))
