use Rattle.std.proofs.Common.{◌≡◌, length, take, map, arith, sym, ◌∙◌, ap}
use Rattle.test_rank.specs.Counting.{total}
use Rattle.test_rank.proofs.Sums.{pairs-total}
use Rattle.std.proofs.lemmas.List.{take_all}
use Rattle.test_rank.proofs.gains.Gains.of.Goals as goal

pub invariant_of-result : goal.invariant_of-result
invariant_of-result g c =
    let whole : take c.tests.test c.args.covers.now ≡ c.args.covers.now = take_all c.tests.test c.args.covers.now (omega arith) in
    c.pairs.ensures.pairs ∙ sym (ap total (c.tests.invariant.all ∙ ap (map (λ points. length points)) whole) ∙ pairs-total c.args.covers.now)
