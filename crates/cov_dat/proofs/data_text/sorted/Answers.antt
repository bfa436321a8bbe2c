use Rattle.std.proofs.Common.{arith, ◌≡◌, ◌-◌, ℕ, suc, [], drop, refl, sym, ◌∙◌, ap, subst, Some, slice_get}
use Rattle.std.proofs.Math.Seq.{drop-length}
use Rattle.std.specs.FinMap.{entries, from_entries}
use Rattle.std.specs.Ordering.{nat_cmp}
use Rattle.std.specs.Cmp.Lexicographic.{slice_cmp}
use Rattle.cov_dat.specs.SortedView.{seen_sorted}
use Rattle.cov_dat.proofs.SortLemmas.{put_seen, sorted_step, entries-empty}
use Rattle.cov_dat.proofs.data_text.sorted.Goals as goal

pub keys-init : goal.keys-init
keys-init c =
    let es = c.args.counts.now.entries in
    let all : drop c.len-left.result es ≡ [] = rw c.len-left.ensures.len (drop-length es) in
    record {
      so_far = rw (c.new-sorted.ensures.empty, all) (sym entries-empty);
      within = omega (arith, c.len-left.ensures.len);
    }

pub keys-preserved : goal.keys-preserved
keys-preserved c =
    let es = c.args.counts.now.entries in
    let n = c.keys.left - 1 in
    let next : c.keys.left ≡ suc n = omega (arith, c.keys-test.true) in
    let at : slice_get es n ≡ Some (c.as_slice.result.now, c.unwrap.result.1.now) =
    let e = c.get_index.ensures.entry in rw (← e, c.unwrap.ensures, c.as_slice.ensures) refl in
    record {
      so_far = sorted_step es n (c.as_slice.result.now, c.unwrap.result.1.now) (seen_sorted c.keys.sorted.entries) (seen_sorted c.insert.new.self.entries) at
          (subst (λ (k : ℕ). seen_sorted c.keys.sorted.entries ≡ entries {R = slice_cmp nat_cmp} (from_entries (drop k es))) next c.keys.invariant.so_far)
          (ap seen_sorted c.in_ok-insert.ensures.entries ∙ put_seen c.keys.sorted.entries c.as_slice.result c.unwrap.result.1.now);
      within = omega (arith, c.keys.invariant.within);
    }
