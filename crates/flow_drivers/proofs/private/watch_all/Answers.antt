use Rattle.std.proofs.Common.{◌≡◌, ◌∙◌, sym, ap, subst, refl, ◌+◌, ◌<◌, ◌≤◌, ◌==◌, true, false, not, ℕ, Bool, Some, None, Option, List, length, get_or, arith}
use Rattle.std.specs.List.{list_any}
use Rattle.design_tree.specs.declared.design.Process.{Process}
use Rattle.circuit_run.specs.Kinds.{is_initial}
use Rattle.design_meaning.specs.Processes.{kind_of}
use Rattle.design_meaning.specs.Flow.{IsMixed, IsNotPrivate}
use Rattle.flow_uses.specs.Uses.{AreUsesOf}
use Rattle.flow_least.specs.Least.{IsLeastOf}
use Rattle.flow_least.proofs.Searching.{before_none, before_more, before_all, first_is, used_at, kind_at}
use Rattle.flow_drivers.specs.declared.watch.Watch.{Watch}
use Rattle.flow_drivers.specs.Flags.{AreClear, IsMixedIn}
use Rattle.flow_drivers.specs.Watching.{AreWatched, HasWatched, IsSeenIn, no_watch}
use Rattle.flow_drivers.proofs.Flagging.{within_vars, mixed_is, none_mixed, back_is}
use Rattle.flow_drivers.proofs.Hiding.{private_is, none_private, next_watched, pass_watched}
use Rattle.flow_drivers.proofs.private.watch_all.Goals as goal
use Rattle.flow_drivers.proofs.private.watch_all.Goals.{then-lasts, else-lasts}

not_back : (b : Bool) → not b ≡ true → b ≡ false
not_back true h = absurd (cc h)
not_back false h = refl

not_off : (b : Bool) → not b ≡ false → b ≡ true
not_off true h = refl
not_off false h = absurd (cc h)

pub watch_process-requires : goal.watch_process-requires
watch_process-requires c =
    let lt : c.loop-at.at < length c.args.design.now.processes =
    subst (λ (ps : List Process). c.loop-at.at < length ps) c.as_slice-processes.ensures c.loop-at-test.true in
    let u : AreUsesOf c.args.design.now c.loop-at.at c.index-uses-at.result =
    used_at c.args.design.now c.args.uses.now c.requires.many c.requires.uses c.loop-at.at c.index-uses-at.result lt c.index-uses-at.is in
    within_vars c.args.design.now c.loop-at.at c.index-uses-at.result (length c.as_mut_slice.result.now) (ap length c.as_mut_slice.ensures.value
    ∙ c.loop-at.invariant.many) u

pub loop-at-preserved : goal.loop-at-preserved
loop-at-preserved c = elim c.if-lasts.branch [
  | then-lasts w ↦ (
      let lt : c.loop-at.at < length c.args.design.now.processes =
      subst (λ (ps : List Process). c.loop-at.at < length ps) c.as_slice-processes.ensures c.loop-at-test.true in
      let u : AreUsesOf c.args.design.now c.loop-at.at w.index-uses-at.result =
      used_at c.args.design.now c.args.uses.now c.requires.many c.requires.uses c.loop-at.at w.index-uses-at.result lt w.index-uses-at.is in
      let k : (get_or c.as_slice-processes.result.now c.loop-at.at c.index-processes-at.result).kind ≡ kind_of c.args.design.now c.loop-at.at =
      ap (λ (x : Process). x.kind) (sym c.index-processes-at.is) ∙ kind_at c.args.design.now c.loop-at.at c.index-processes-at.result lt
      (subst (λ (ps : List Process). c.index-processes-at.result
      ≡ get_or ps c.loop-at.at c.index-processes-at.result) c.as_slice-processes.ensures c.index-processes-at.is) in
      let i : is_initial (kind_of c.args.design.now c.loop-at.at) ≡ false = ap is_initial (sym k)
      ∙ not_back (is_initial (get_or c.as_slice-processes.result.now c.loop-at.at c.index-processes-at.result).kind) (sym c.lasts.ensures
      ∙ w.if-lasts.true) in
      let n : length w.watch_process.new.watches ≡ length c.loop-at.watches.items = w.watch_process.auto.watches ∙ ap length w.as_mut_slice.ensures.value in
      let e : c.loop-at.watches.len ≡ length c.loop-at.watches.items = omega (arith, c.loop-at.watches.ok.0) in
      rw w.watches-is (subst (λ (z : List Watch). AreWatched c.args.design.now (c.loop-at.at + 1) z)
      (sym (back_is c.loop-at.watches.items w.watch_process.new.watches c.loop-at.watches.len n e))
      (next_watched c.args.design.now c.loop-at.at w.index-uses-at.result c.loop-at.watches.items w.watch_process.new.watches u i c.loop-at.invariant
      (subst (λ (z : List Watch). HasWatched z w.watch_process.new.watches w.index-uses-at.result c.loop-at.at) w.as_mut_slice.ensures.value
      w.watch_process.ensures))))
  | else-lasts w ↦ (
      let lt : c.loop-at.at < length c.args.design.now.processes =
      subst (λ (ps : List Process). c.loop-at.at < length ps) c.as_slice-processes.ensures c.loop-at-test.true in
      let k : (get_or c.as_slice-processes.result.now c.loop-at.at c.index-processes-at.result).kind ≡ kind_of c.args.design.now c.loop-at.at =
      ap (λ (x : Process). x.kind) (sym c.index-processes-at.is) ∙ kind_at c.args.design.now c.loop-at.at c.index-processes-at.result lt
      (subst (λ (ps : List Process). c.index-processes-at.result
      ≡ get_or ps c.loop-at.at c.index-processes-at.result) c.as_slice-processes.ensures c.index-processes-at.is) in
      let i : is_initial (kind_of c.args.design.now c.loop-at.at) ≡ true = ap is_initial (sym k)
      ∙ not_off (is_initial (get_or c.as_slice-processes.result.now c.loop-at.at c.index-processes-at.result).kind) (sym c.lasts.ensures
      ∙ w.if-lasts.false) in
      rw w.watches-is (pass_watched c.args.design.now c.loop-at.at c.loop-at.watches.items i c.loop-at.invariant))
]
