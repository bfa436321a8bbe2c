use Rattle.std.proofs.Common.{refl, subst, sym, map}
use Rattle.vlog_tree.specs.declared.item.ItemKind.TheOpen as i
use Rattle.scope_meaning.specs.Scope.{frames}
use Rattle.scope_meaning.specs.Heads.{names_here}
use Rattle.scope_meaning.specs.Standing.{standing_item}
use Rattle.scope_meaning.specs.ScopeRules.{refusal_at}
use Rattle.scope_meaning.specs.Wanted.{want}
use Rattle.elab_faults.specs.Flaws.{flaws_at, flaws_in}
use Rattle.elab_faults.specs.Judged.{Judges}
use Rattle.elab_faults.proofs.Flaws.{finds_same}
use Rattle.elab_heads.specs.Choices.{Chooses, test_in}
use Rattle.elab_places.proofs.Rules.{judges}
use Rattle.elab_places.proofs.Standings.{choice-flaws}
use Rattle.elab_places.proofs.loops.judge_choice.Goals as goal

pub returns : goal.returns
returns c = λ design here at ns are d.
    let p = c.args.place in
    let arms = c.args.arms.now in
    let last = c.args.last.now in
    let x = standing_item here at p ns (i.Choose arms last) in
    let known = names_here here at in
    c.chosen_at.ensures known (refusal_at design x)
    (subst (Judges (Chooses known arms) (refusal_at design x)) (sym c.at_place.ensures)
    (judges (Chooses known arms) design x c.first_true.result d refl refl
    (finds_same (Chooses known arms) (flaws_in (map (want known) (map test_in arms))) (flaws_at x) c.first_true.result
    (sym (choice-flaws here at p ns arms last))
    (c.first_true.ensures known (c.new-visible.ensures.environment (frames here at) are)))))
