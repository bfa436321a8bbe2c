use Rattle.std.proofs.Common.{◌≡◌, ◌∙◌, sym, subst, ◌+◌, true, take}
use Rattle.std.proofs.lemmas.List.{take_all}
use Rattle.flow_marks.specs.Sets.{Meets}
use Rattle.flow_least.specs.Least.{IsLeastOf, lesser_of}
use Rattle.flow_least.specs.Met.{HasMet}
use Rattle.flow_least.proofs.Meeting.{met_next, met_pass}
use Rattle.flow_least.proofs.least.least_met.Goals as goal
use Rattle.flow_least.proofs.least.least_met.Goals.{then-meets, else-meets}

pub loop-span-preserved : goal.loop-span-preserved
loop-span-preserved c = elim c.if-meets.branch [
  | then-meets w ↦ subst (IsLeastOf (HasMet c.args.marks.now (take (c.loop-span.span-index + 1) c.args.spans.now))) (sym (w.least-is ∙ w.lesser-least.ensures))
      (met_next c.args.marks.now c.args.spans.now c.loop-span.span-index (record { var = 0; word = 0; word_end = 0; place = 0; place_end = 0 })
      c.loop-span-test.true c.loop-span.least c.loop-span.invariant
      (c.meets.ensures.0 w.if-meets.true))
  | else-meets w ↦ subst (IsLeastOf (HasMet c.args.marks.now (take (c.loop-span.span-index + 1) c.args.spans.now))) (sym w.least-is)
      (met_pass c.args.marks.now c.args.spans.now c.loop-span.span-index (record { var = 0; word = 0; word_end = 0; place = 0; place_end = 0 })
      c.loop-span-test.true c.loop-span.least c.loop-span.invariant
      (λ x. let y : c.meets.result ≡ true = c.meets.ensures.1 x in absurd (cc (y, w.if-meets.false))))
]

pub returns : goal.returns
returns c = subst (λ xs. IsLeastOf (HasMet c.args.marks.now xs) c.loop-span.least) (take_all c.loop-span.span-index c.args.spans.now c.loop-span-test.false)
    c.loop-span.invariant
