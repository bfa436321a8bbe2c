use Rattle.std.proofs.Common.{◌≡◌, ◌+◌, ◌-◌, ◌<◌, get_or, set, arith, ◌∙◌}
use Rattle.test_rank.specs.Counting.{total}
use Rattle.test_rank.proofs.Sums.{at-most-total, get_or-any, total-set, within-some}
use Rattle.test_rank.proofs.gains.Gains.lower.Goals as goal

sum : (c : goal.After-self-2-1) → total (set c.self.inside.gains.items c.args.test (c.index_mut.result.now - 1)) + 1 ≡ total c.self.inside.gains.items
sum c =
    let gains = c.self.inside.gains.items in
    let some : 0 < get_or gains c.args.test 0 = rw (c.self.view_is) c.requires in
    let within = within-some gains c.args.test some in
    let value : c.index_mut.result.now ≡ get_or gains c.args.test 0 = c.index_mut.ensures.value
    ∙ get_or-any gains c.args.test c.index_mut.result.now 0 within in
    let put = total-set gains c.args.test (c.index_mut.result.now - 1) within in
    omega arith

pub overflow_sub-self : goal.overflow_sub-self
overflow_sub-self c =
    let some : 0 < get_or c.self.inside.gains.items c.args.test 0 = rw (c.self.view_is) c.requires in
    let most = at-most-total c.self.inside.gains.items c.args.test in
    let left : c.self.inside.left ≡ total c.self.inside.gains.items = c.self.invariant in
    omega arith

pub invariant_of-self : goal.invariant_of-self
invariant_of-self c = let s = sum c in let left : c.self.inside.left ≡ total c.self.inside.gains.items = c.self.invariant in omega arith

pub returns-clause-sum : goal.returns-clause-sum
returns-clause-sum c = rw (← c.self.view_is) (sum c)
