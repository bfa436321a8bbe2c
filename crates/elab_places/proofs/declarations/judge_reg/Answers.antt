use Rattle.std.proofs.Common.{refl, subst, sym, ap, ◌∙◌, ◌≡◌, Bool}
use Rattle.vlog_tree.specs.declared.item.ItemKind.TheOpen as i
use Rattle.vlog_tree.specs.Trees.{option_list}
use Rattle.scope_meaning.specs.Scope.{frames}
use Rattle.scope_meaning.specs.Heads.{names_here}
use Rattle.scope_meaning.specs.Standing.{standing_item}
use Rattle.scope_meaning.specs.ScopeRules.{refusal_at, has_large_memory}
use Rattle.elab_faults.specs.Flaws.{flaws_at}
use Rattle.elab_faults.specs.Judged.{Judges, Nothing}
use Rattle.elab_faults.proofs.Flaws.{finds_same}
use Rattle.elab_places.specs.Places.{limited, reg_flaws}
use Rattle.elab_places.proofs.Rules.{judges-limited}
use Rattle.elab_places.proofs.Standings.{regs-flaws}
use Rattle.elab_places.proofs.declarations.judge_reg.Goals as goal

pub returns : goal.returns
returns c = λ design here at ns signed are d.
    let p = c.args.place in
    let range = c.args.range.now in
    let regs = c.args.regs.now in
    let x = standing_item here at p ns (i.Reg signed range regs) in
    let known = names_here here at in
    subst (Judges Nothing (refusal_at design x)) (sym (c.limited.ensures ∙ ap limited c.at_place.ensures))
    (judges-limited design x c.reg_flaws.result d refl
    (finds_same (λ (large : Bool). large ≡ has_large_memory x) (reg_flaws known (option_list range) regs) (flaws_at x) c.reg_flaws.result
    (sym (regs-flaws here at p ns signed range regs))
    (c.reg_flaws.ensures known (c.new-visible.ensures.environment (frames here at) are))))
