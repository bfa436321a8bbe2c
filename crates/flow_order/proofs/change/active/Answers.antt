use Rattle.std.proofs.Common.{ℕ, ◌+◌, ◌≡◌, ◌∙◌, sym, ap, refl, subst, ◌<◌, ◌≤◌, arith, length, get_or, List}
use Rattle.flow_order.specs.declared.mask.WordMask.{WordMask}
use Rattle.flow_order.specs.Orders.{HasChanged, MaskHasChanged, reads_for}
use Rattle.flow_order.proofs.Changes.{kept, changed_mask, none_changed_more, none_changed_mask}
use Rattle.flow_order.proofs.change.active.Goals as goal

pub returns-then-mask_has_changed : goal.returns-then-mask_has_changed
returns-then-mask_has_changed c =
    let e : c.as_slice-mask-items.result.now ≡ reads_for c.args.order.now c.args.p = c.as_slice-mask-items.ensures ∙ (c.index.ensures
    ∙ kept c.args.order.now c.order.inside.processes c.order.inside.reads.items c.args.p c.index.result.now (sym c.order.view_is) c.requires.listed) in (
      λ t. subst (λ reads. HasChanged reads c.args.now.now c.args.before.now) e
          (changed_mask c.as_slice-mask-items.result.now c.args.now.now c.args.before.now c.loop-mask.mask-index c.loop-mask-test.true
          (c.mask_has_changed.ensures.0 c.if-mask_has_changed.true)),
      λ t. refl,
    )

pub loop-mask-preserved : goal.loop-mask-preserved
loop-mask-preserved c =
    let e : c.as_slice-mask-items.result.now ≡ reads_for c.args.order.now c.args.p = c.as_slice-mask-items.ensures ∙ (c.index.ensures
    ∙ kept c.args.order.now c.order.inside.processes c.order.inside.reads.items c.args.p c.index.result.now (sym c.order.view_is) c.requires.listed) in
    subst (λ (reads : List WordMask). (k : ℕ) → k < c.loop-mask.mask-index + 1 → (d : WordMask) → MaskHasChanged (get_or reads k d) c.args.now.now
    c.args.before.now → ⊥) e
    (none_changed_more c.as_slice-mask-items.result.now c.args.now.now c.args.before.now c.loop-mask.mask-index c.loop-mask-test.true
    (λ h. absurd (cc (c.mask_has_changed.ensures.1 h, c.if-mask_has_changed.false)))
    (subst (λ (reads : List WordMask). (k : ℕ) → k < c.loop-mask.mask-index → (d : WordMask) → MaskHasChanged (get_or reads k d) c.args.now.now
    c.args.before.now → ⊥) (sym e) c.loop-mask.invariant))

pub returns : goal.returns
returns c =
    let e : c.as_slice-mask-items.result.now ≡ reads_for c.args.order.now c.args.p = c.as_slice-mask-items.ensures ∙ (c.index.ensures
    ∙ kept c.args.order.now c.order.inside.processes c.order.inside.reads.items c.args.p c.index.result.now (sym c.order.view_is) c.requires.listed) in (
      λ t. absurd (cc t),
      λ h. absurd (none_changed_mask (reads_for c.args.order.now c.args.p) c.args.now.now c.args.before.now c.loop-mask.mask-index
          (subst (λ (reads : List WordMask). length reads ≤ c.loop-mask.mask-index) e c.loop-mask-test.false) c.loop-mask.invariant h),
    )
