use Rattle.std.proofs.Common.{refl, subst, sym}
use Rattle.vlog_tree.specs.declared.item.ItemKind.TheOpen as i
use Rattle.vlog_tree.specs.Trees.{option_list}
use Rattle.scope_meaning.specs.Scope.{frames}
use Rattle.scope_meaning.specs.Heads.{names_here}
use Rattle.scope_meaning.specs.Standing.{standing_item}
use Rattle.scope_meaning.specs.ScopeRules.{refusal_at}
use Rattle.elab_faults.specs.Flaws.{flaws_at, vector_flaws}
use Rattle.elab_faults.specs.Judged.{Judges, Nothing}
use Rattle.elab_faults.proofs.Flaws.{finds_same}
use Rattle.elab_places.proofs.Rules.{judges}
use Rattle.elab_places.proofs.Standings.{wire-flaws}
use Rattle.elab_places.proofs.declarations.judge_wire.Goals as goal

pub returns : goal.returns
returns c = λ design here at ns signed wires are d.
    let p = c.args.place in
    let range = c.args.range.now in
    let x = standing_item here at p ns (i.Wire signed range wires) in
    let known = names_here here at in
    subst (Judges Nothing (refusal_at design x)) (sym c.at_place.ensures)
    (judges Nothing design x c.vector_flaws.result d refl refl
    (finds_same Nothing (vector_flaws known (option_list range)) (flaws_at x) c.vector_flaws.result (sym (wire-flaws here at p ns signed range wires))
    (c.vector_flaws.ensures known (c.new-visible.ensures.environment (frames here at) are))))
