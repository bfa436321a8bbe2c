use Rattle.std.proofs.Common.{◌≡◌, ◌∙◌, sym, ap, subst, ℕ, ◌+◌, ◌<◌, ◌≤◌, List, ◌∷◌, ◌++◌, [], length, arith}
use Rattle.design_tree.specs.declared.instrumented.ToggleEntry.{ToggleEntry}
use Rattle.cycle_parts.specs.Toggles.{entry_at}
use Rattle.cycle_parts.proofs.Firsts.{AreFirstsTo, one_first}
use Rattle.cycle_parts.proofs.toggle.first_entries.Goals as goal

pub loop-var-preserved : goal.loop-var-preserved
loop-var-preserved c =
    let x = c.args.x.now in
    let n = c.loop-var.var in
    let at = c.loop-var.at in
    let end = c.first_from-at.result in
    let same = c.loop-var.invariant.same in
    let firsts = c.loop-var.firsts.items in
    record {
      firsts = subst (AreFirstsTo (n + 1) x.toggles end) (sym c.in_ok-push.ensures.items)
          (one_first x c.requires n at end firsts c.loop-var.invariant.firsts c.first_from-at.ensures.from
          (subst (λ (es : List ToggleEntry). end ≤ length es) same c.first_from-at.ensures.within)
          (subst (λ (es : List ToggleEntry). (k : ℕ) → at ≤ k → k < end → (entry_at es k).var < n) same c.first_from-at.ensures.below)
          (subst (λ (es : List ToggleEntry). end < length es → n ≤ (entry_at es end).var) same c.first_from-at.ensures.end));
      same = same;
    }
