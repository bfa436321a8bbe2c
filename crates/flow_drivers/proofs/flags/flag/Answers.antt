use Rattle.std.proofs.Common.{◌≡◌, ◌∙◌, sym, ap, ◌<◌, false, if◌then◌else◌, length, get_or, arith}
use Rattle.std.proofs.lemmas.List.{take_all}
use Rattle.flow_uses.specs.Uses.{has_var}
use Rattle.flow_drivers.proofs.Flagging.{flag_next}
use Rattle.flow_drivers.proofs.flags.flag.Goals as goal

pub loop-span-preserved : goal.loop-span-preserved
loop-span-preserved c =
    let inside : (get_or c.args.spans.now c.loop-span.span-index (record { var = 0; word = 0; word_end = 0; place = 0; place_end = 0 })).var < length
    c.loop-span.flags =
    omega (arith, c.requires c.loop-span.span-index (record { var = 0; word = 0; word_end = 0; place = 0; place_end = 0 }) c.loop-span-test.true) in
    flag_next c.args.spans.now c.loop-span.span-index (record { var = 0; word = 0; word_end = 0; place = 0; place_end = 0 }) c.loop-span-test.true
    c.loop-span.flags c.args.flags.now c.args.value inside c.loop-span.invariant

pub returns : goal.returns
returns c = λ v. c.loop-span.invariant v
    ∙ ap (λ ys. if has_var ys v then c.args.value else get_or c.args.flags.now v false)
    (take_all c.loop-span.span-index c.args.spans.now c.loop-span-test.false)
