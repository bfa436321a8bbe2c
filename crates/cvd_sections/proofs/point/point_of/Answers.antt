use Rattle.std.proofs.Common.{sym, ◌∙◌, ap, subst, length, List, ℕ}
use Rattle.std.specs.Prelude.{◌&&◌, nat_le}
use Rattle.std.specs.Option.{option_copied}
use Rattle.cov_port.specs.KeyTest.{is_key_text}
use Rattle.cvd_text.specs.Sections.{are_below, is_below}
use Rattle.cvd_sections.specs.Keys.{HoldsCounters}
use Rattle.cvd_sections.specs.Places.{is_behind}
use Rattle.cvd_sections.proofs.Judging.{both_hold, fails_second}
use Rattle.cvd_sections.proofs.Points.{grouped, point_same}
use Rattle.cvd_sections.proofs.point.point_of.Goals as goal

pub returns-then-not-may_be_key : goal.returns-then-not-may_be_key
returns-then-not-may_be_key c = λ before p last sides key.
    let n = c.args.counters in
    let same = c.as_slice.ensures ∙ key in
    grouped (are_below n p.plus) (are_below n p.minus) (is_key_text p.key) (nat_le (length p.key) 65000) _
    ∙ fails_second (are_below n p.plus && are_below n p.minus) _
    (ap (λ b. (is_key_text p.key && nat_le (length p.key) 65000) && b) (last p.key)
    ∙ ap (λ (k : List ℕ). (is_key_text k && nat_le (length k) 65000) && is_behind is_below (option_copied c.args.last) k) (sym same)
    ∙ sym c.may_be_key.ensures ∙ c.if-not-may_be_key.true)

pub returns : goal.returns
returns c = λ before p last sides key.
    let n = c.args.counters in
    let same = c.as_slice.ensures ∙ key in
    let plus = subst (HoldsCounters n p.plus) c.in-Some-Some.is-0 sides.0 in
    let minus = subst (HoldsCounters n p.minus) c.in-Some-Some.is-1 sides.1 in (
      grouped (are_below n p.plus) (are_below n p.minus) (is_key_text p.key) (nat_le (length p.key) 65000) _
          ∙ both_hold (are_below n p.plus && are_below n p.minus) _ (both_hold (are_below n p.plus) (are_below n p.minus) plus.1 minus.1)
          (ap (λ b. (is_key_text p.key && nat_le (length p.key) 65000) && b) (last p.key)
          ∙ ap (λ (k : List ℕ). (is_key_text k && nat_le (length k) 65000) && is_behind is_below (option_copied c.args.last) k) (sym same)
          ∙ sym c.may_be_key.ensures ∙ c.if-not-may_be_key.false),
      point_same _ _ _ p plus.0 minus.0 key,
    )
