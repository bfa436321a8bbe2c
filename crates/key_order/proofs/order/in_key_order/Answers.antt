use Rattle.std.proofs.Common.{◌≡◌, List, sym, subst, ap, is_lt, nat_cmp, rules}
use Rattle.std.specs.Prelude.{AllPairs}
use Rattle.std.specs.List.Sorted.{IsPermutation}
use Rattle.std.specs.Cmp.Lexicographic.{slice_cmp, nat_list_cmp_total}
use Rattle.std.proofs.lemmas.List.Sorted.{ranks_by, answers_always}
use Rattle.design_tree.specs.declared.instrumented.PointRow.{PointRow}
use Rattle.design_meaning.specs.Names.{IsBefore}
use Rattle.key_order.proofs.OwnKeys.{by_keys, ascending, moved_keeps}
use Rattle.key_order.proofs.order.in_key_order.Goals as goal

pub returns-clause-ascend : goal.returns-clause-ascend
returns-clause-ascend c =
    let items = c.sort_by.new.self.items in
    let sorted = c.in_ok-sort_by.ensures.sorted by_keys (ranks_by nat_list_cmp_total (λ (r : PointRow). r.key))
    (answers_always _ (λ a r. is_lt r ≡ by_keys a.0.now a.1.0.now) _
    (λ f a r f' k. let e : r ≡ slice_cmp nat_cmp a.0.now.key a.1.0.now.key = search rules in ap is_lt e)) in
    let moved = subst (λ (xs : List PointRow). IsPermutation xs items) c.into_vec-ordered.ensures c.in_ok-sort_by.ensures.permutation in
    λ own. subst (λ (xs : List PointRow). AllPairs (λ a b. IsBefore a.key b.key) xs) (sym c.from_vec.ensures)
    (ascending items sorted (moved_keeps c.args.rows items moved own))
