use Rattle.std.proofs.Common.{arith, ◌≡◌, ◌-◌, ℕ, suc, [], drop, sym, ◌∙◌, ap, subst, Some, slice_get}
use Rattle.std.proofs.Math.Seq.{drop-length}
use Rattle.std.specs.FinMap.{entries, from_entries}
use Rattle.std.specs.Ordering.{nat_cmp}
use Rattle.std.specs.Cmp.Lexicographic.{slice_cmp}
use Rattle.report_table.specs.Seen.{seen_sorted}
use Rattle.report_table.proofs.SortLemmas.{put_seen, sorted_step, pair_at, entries-empty}
use Rattle.report_table.proofs.ordered.sorted.Goals as goal

pub keys-init : goal.keys-init
keys-init c =
    let es = c.args.merged.now in
    let all : drop c.len-left.result es ≡ [] = rw c.len-left.ensures.len (drop-length es) in
    record {
      so_far = rw (c.new-sorted.ensures.empty, all) (sym entries-empty);
      within = omega (arith, c.len-left.ensures.len);
    }

pub keys-preserved : goal.keys-preserved
keys-preserved c =
    let es = c.args.merged.now in
    let n = c.keys.left - 1 in
    let next : c.keys.left ≡ suc n = omega (arith, c.keys-test.true) in
    let at : slice_get es n ≡ Some (c.key_at.result.now, c.count_at.result) =
    pair_at es n c.key_at.result.now c.count_at.result c.key_at.ensures.value c.count_at.ensures in
    record {
      so_far = sorted_step es n (c.key_at.result.now, c.count_at.result) (seen_sorted c.keys.sorted.entries) (seen_sorted c.insert.new.self.entries) at
          (subst (λ (k : ℕ). seen_sorted c.keys.sorted.entries ≡ entries {R = slice_cmp nat_cmp} (from_entries (drop k es))) next c.keys.invariant.so_far)
          (ap seen_sorted c.in_ok-insert.ensures.entries ∙ put_seen c.keys.sorted.entries c.key_at.result c.count_at.result);
      within = omega (arith, c.keys.invariant.within);
    }
