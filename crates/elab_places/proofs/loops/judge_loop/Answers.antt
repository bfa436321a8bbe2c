use Rattle.std.proofs.Common.{◌≡◌, ◌∙◌, Some, refl, subst, sym, ap, Bool, ◌||◌}
use Rattle.std.specs.Prelude.{ℤ}
use Rattle.vlog_tree.specs.declared.item.ItemKind.TheOpen as i
use Rattle.elab_types.specs.declared.elab_fault.ElabFault.{ElabFault}
use Rattle.scope_meaning.specs.Scope.{frames}
use Rattle.scope_meaning.specs.Heads.{names_here, genvar_value}
use Rattle.scope_meaning.specs.Standing.{standing_item}
use Rattle.scope_meaning.specs.ScopeRules.{refusal_at}
use Rattle.elab_faults.specs.Judged.{Judges}
use Rattle.elab_places.specs.Places.{checked}
use Rattle.elab_places.proofs.Rules.{judges-checked, or_false}
use Rattle.elab_places.proofs.loops.judge_loop.Goals as goal

pub returns : goal.returns
returns c = λ design here at ns block places body are d.
    let h = c.args.head in
    let x = standing_item here at c.args.place ns (i.Loop h.name.now h.from.now h.test.now h.step_name.now h.step.now block places body) in
    let P = λ (n : ℤ). genvar_value (names_here here at) h.from.now ≡ Some n in
    let seen = c.new-visible.ensures.frames (frames here at) are in
    subst (Judges P (refusal_at design x)) (sym (c.checked.ensures ∙ ap (λ r. checked c.args.place r c.is_bad_head-is_bad.result) c.at_place.ensures))
    (judges-checked P design x c.loop_head.result c.is_bad_head-is_bad.result d
    (or_false _ ∙ sym (c.is_bad_head-is_bad.ensures here at seen)) refl refl (c.loop_head.ensures (frames here at) are))
