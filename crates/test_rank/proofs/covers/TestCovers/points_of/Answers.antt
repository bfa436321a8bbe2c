use Rattle.std.proofs.Common.{ℕ, ◌<◌, length, get_or, List, [], arith, ◌∙◌, ap}
use Rattle.test_rank.proofs.Sums.{get_or-any}
use Rattle.test_rank.proofs.covers.TestCovers.points_of.Goals as goal

pub returns : goal.returns
returns c =
    let tests = c.self.inside.tests in
    let within : c.args.test < length tests = let e = c.len.ensures in let l = c.if-test-len.false in omega arith in
    rw (← c.self.view_is) (c.as_slice-2.ensures ∙ c.index-as_slice-test.is
    ∙ ap (λ (xs : List (List ℕ)). get_or xs c.args.test c.index-as_slice-test.result) c.as_slice.ensures
    ∙ get_or-any tests c.args.test c.index-as_slice-test.result [] within)
