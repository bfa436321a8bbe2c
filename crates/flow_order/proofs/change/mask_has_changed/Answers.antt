use Rattle.std.proofs.Common.{◌≡◌, ◌≢◌, ◌∙◌, sym, ap, ap₂, refl, arith, bit_and, bit_xor}
use Rattle.flow_order.proofs.Changes.{changed_word, none_changed_word, word_changes}
use Rattle.flow_order.proofs.change.mask_has_changed.Goals as goal

pub returns-then-read-mask-ne0 : goal.returns-then-read-mask-ne0
returns-then-read-mask-ne0 c =
    let some : word_changes c.args.mask.now c.args.now.now c.args.before.now c.loop-word.word ≢ 0 =
    rw (c.read.ensures.value, c.read-in-loop-word.ensures.value) at c.if-read-mask-ne0.true in
    (λ t. changed_word c.args.mask.now c.args.now.now c.args.before.now c.loop-word.word (omega arith) (omega arith) some, λ t. refl)

pub returns : goal.returns
returns c = (
  λ t. absurd (cc t),
  λ h. absurd (none_changed_word c.args.mask.now c.args.now.now c.args.before.now c.loop-word.word (omega (arith, c.loop-word-test.false))
      c.loop-word.invariant h),
)
