use Rattle.std.proofs.Common.{ℕ}
use Rattle.std.proofs.lemmas.List.Sorted.{IsNonDecreasingBy-from_sort, IsPermutation-sym, Contains-permutation}
use Rattle.line_sets.proofs.Runs.{in_order}
use Rattle.line_sets.proofs.lists.line_list.Goals as goal

pub returns : goal.returns
returns c =
    let lines = c.args.lines.items in
    let sorted = c.sort_unstable.new.self.items in
    let order = c.sort_unstable.ensures.permutation in
    in_order c.runs_of.result lines sorted c.as_slice.result.now c.as_slice.ensures.value
    (IsNonDecreasingBy-from_sort (λ (n : ℕ). n) sorted c.sort_unstable.ensures.sorted)
    (λ n. (Contains-permutation lines sorted n order, Contains-permutation sorted lines n (IsPermutation-sym lines sorted order)))
    c.runs_of.ensures
