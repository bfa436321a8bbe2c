use Rattle.std.proofs.Common.{rules, ◌≡◌, ℕ, ◌+◌, length, true, false, is_some, None, sym, ap, subst, ◌∙◌}
use Rattle.std.specs.List.{AllByRecursion}
use Rattle.cov_types.specs.Key.{IsKey}
use Rattle.cov_dat.specs.Merging.{Counts, added, key_bytes, limit_passed}
use Rattle.cov_dat.specs.KeyTable.{has_key}
use Rattle.cov_dat.proofs.FaultLemmas.{limit-of_limit}
use Rattle.cov_dat.proofs.MergingLemmas.{
  all-added,
  appended-is-added,
  key_bytes-present,
  key_bytes-pushed,
  limit_passed-counted,
  limit_passed-present,
  number_of-new,
  raised-is-added,
}
use Rattle.cov_dat.proofs.merged.Merged.add.Goals as goal

-- where the key stands
stands : (c : goal.After-self-1) → has_key c.self.inside.counts.entries c.args.key.now ≡ true
stands c = sym c.in_ok-number.ensures.found ∙ ap is_some c.in-Some.is

raised-is : (c : goal.After-self-1) → c.raise.new.counts.entries ≡ added c.self.inside.counts.entries c.args.key.now c.args.count
raised-is c = c.raise.ensures ∙ raised-is-added c.self.inside.counts.entries c.args.key.now c.in-Some.number c.args.count
    (rw c.in-Some.is at c.in_ok-number.ensures.number) (stands c)

pub invariant_of-self-in-Some : goal.invariant_of-self-in-Some
invariant_of-self-in-Some c =
    let es = c.self.inside.counts.entries in
    let key = c.args.key.now in
    rw (raised-is c) (
      limit_passed-present es key c.args.count (stands c) ∙ c.self.invariant.0,
      c.self.invariant.1 ∙ sym (key_bytes-present es key c.args.count (stands c)),
      all-added IsKey es key c.args.count c.self.invariant.2 c.requires,
    )

pub returns-in-Some-clause-ok : goal.returns-in-Some-clause-ok
returns-in-Some-clause-ok c = rw (← c.self.view_is) (raised-is c)

pub returns-in-Some-clause-within : goal.returns-in-Some-clause-within
returns-in-Some-clause-within c = rw (← c.self.view_is)
    (limit_passed-present c.self.inside.counts.entries c.args.key.now c.args.count (stands c) ∙ c.self.invariant.0)

-- where the key is new and would pass a limit
pub returns-in-Some-limit_at-clause-limit : goal.returns-in-Some-limit_at-clause-limit
returns-in-Some-limit_at-clause-limit c =
    let es = c.self.inside.counts.entries in
    let key = c.args.key.now in
    let new : has_key es key ≡ false = sym c.in_ok-number.ensures.found ∙ ap is_some c.in-None.is in
    let passed = limit_passed-counted es key c.args.count c.len-number.result c.self.inside.bytes_held new c.len-number.ensures.len c.self.invariant.1 in
    rw (← c.self.view_is) (limit-of_limit c.in-Some-limit_at.name _ (passed ∙ sym c.limit_at.ensures ∙ c.in-Some-limit_at.is))

-- where the key is new and stands afterwards
is-new : (c : goal.After-self-in-None-2-1) → has_key c.self.inside.counts.entries c.args.key.now ≡ false
is-new c = sym c.in_ok-number.ensures.found ∙ ap is_some c.in-None.is

appended-is : (c : goal.After-self-in-None-2-1) → c.append.new.counts.entries ≡ added c.self.inside.counts.entries c.args.key.now c.args.count
appended-is c = c.in_ok-append-in-None.ensures.ok ∙ appended-is-added c.self.inside.counts.entries c.args.key.now c.args.count (is-new c) (search rules)

none-passed : (c : goal.After-self-in-None-2-1) → limit_passed (added c.self.inside.counts.entries c.args.key.now c.args.count) ≡ None
none-passed c = limit_passed-counted c.self.inside.counts.entries c.args.key.now c.args.count c.len-number.result c.self.inside.bytes_held (is-new c)
    c.len-number.ensures.len c.self.invariant.1
    ∙ sym c.limit_at.ensures ∙ c.in_default.is

pub invariant_of-self-in-None : goal.invariant_of-self-in-None
invariant_of-self-in-None c =
    let es = c.self.inside.counts.entries in
    let key = c.args.key.now in
    let bytes : key_bytes c.append.new.counts.entries ≡ key_bytes es + length key = ap key_bytes c.in_ok-append-in-None.ensures.ok
    ∙ key_bytes-pushed es key c.args.count in (
      ap limit_passed (appended-is c) ∙ none-passed c,
      ap (λ (n : ℕ). n + length key) c.self.invariant.1 ∙ sym bytes,
      subst (λ (xs : Counts). AllByRecursion (λ e. IsKey e.0) xs) (sym (appended-is c)) (all-added IsKey es key c.args.count c.self.invariant.2 c.requires),
    )

pub returns-in_ok-append-in-None-clause-ok : goal.returns-in_ok-append-in-None-clause-ok
returns-in_ok-append-in-None-clause-ok c = rw (← c.self.view_is) (appended-is c)

pub returns-in_ok-append-in-None-clause-number : goal.returns-in_ok-append-in-None-clause-number
returns-in_ok-append-in-None-clause-number c = rw (← c.self.view_is)
    (c.len-number.ensures.len ∙ sym (number_of-new c.self.inside.counts.entries c.args.key.now (is-new c)))

pub returns-in_ok-append-in-None-clause-within : goal.returns-in_ok-append-in-None-clause-within
returns-in_ok-append-in-None-clause-within c = rw (← c.self.view_is) (none-passed c)
