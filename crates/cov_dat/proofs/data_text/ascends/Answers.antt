use Rattle.std.proofs.Common.{◌≡◌, ◌-◌, ℕ, suc, true, drop, refl, subst, Some, slice_get, arith, rules}
use Rattle.std.specs.FinMap.{is_sorted}
use Rattle.std.specs.Ordering.{nat_cmp}
use Rattle.std.specs.Cmp.Lexicographic.{slice_cmp}
use Rattle.cov_dat.proofs.AscendLemmas.{below, sorted-last, sorted-step}
use Rattle.cov_dat.proofs.data_text.ascends.Goals as goal

pub keys-init : goal.keys-init
keys-init c = record {
  rises = sorted-last c.args.counts.now.entries (c.len-left.result - 1) (omega (arith, c.len-left.ensures.len));
  within = omega (arith, c.len-left.ensures.len);
}

pub keys-preserved : goal.keys-preserved
keys-preserved c =
    let es = c.args.counts.now.entries in
    let n = c.keys.left - 1 - 1 in
    let next : c.keys.left - 1 ≡ suc n = omega (arith, c.keys-test.true) in
    let at : slice_get es n ≡ Some (c.as_slice.result.now, c.unwrap-in-keys.result.1.now) =
    let e = c.get_index-in-keys.ensures.entry in rw (← e, c.unwrap-in-keys.ensures, c.as_slice.ensures) refl in
    let after : slice_get es (c.keys.left - 1) ≡ Some (c.as_slice-in-keys.result.now, c.unwrap.result.1.now) =
    let e = c.get_index.ensures.entry in rw (← e, c.unwrap.ensures, c.as_slice-in-keys.ensures) refl in
    record {
      rises = sorted-step es n (c.as_slice.result.now, c.unwrap-in-keys.result.1.now) (c.as_slice-in-keys.result.now, c.unwrap.result.1.now) at
          (subst (λ (k : ℕ). slice_get es k ≡ Some (c.as_slice-in-keys.result.now, c.unwrap.result.1.now)) next after)
          (below (slice_cmp nat_cmp c.as_slice.result.now c.as_slice-in-keys.result.now) (search rules))
          (subst (λ (k : ℕ). is_sorted (slice_cmp nat_cmp) (drop k es) ≡ true) next c.keys.invariant.rises);
      within = omega (arith, c.keys.invariant.within);
    }
