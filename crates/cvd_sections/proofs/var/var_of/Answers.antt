use Rattle.std.proofs.Common.{◌≡◌, ◌^◌, ◌≤◌, ◌+◌, ◌*◌, true, sym, ◌∙◌, ap, subst, arith}
use Rattle.std.specs.Prelude.{◌&&◌, ◌==◌, nat_le, nat_lt}
use Rattle.std.proofs.Math.Nat.{pow-le-pow_right}
use Rattle.cov_types.specs.Limits.{most}
use Rattle.cov_types.specs.declared.kind.VarKind.TheVariants as kinds
use Rattle.cov_types.specs.declared.limit.LimitName.TheVariants as limit
use Rattle.cov_types.specs.declared.var.Var.{Var}
use Rattle.cvd_text.specs.Lines.{stands}
use Rattle.cvd_text.specs.Sections.{is_variable, var_line}
use Rattle.cvd_text.specs.Targets.{same_kind}
use Rattle.design_meaning.specs.WellTyped.{is_width}
use Rattle.cvd_sections.specs.Fields.{load_of}
use Rattle.cvd_sections.proofs.Judging.{held_is, not_held, not_below, fails_first, fails_second, both_hold}
use Rattle.cvd_sections.proofs.Loads.{stands_by_bits, at_most, not_zero, either_fails, some_product}
use Rattle.cvd_sections.proofs.Variables.{var_same}
use Rattle.cvd_sections.proofs.var.var_of.Goals as goal

pub returns-in_default-start : goal.returns-in_default-start
returns-in_default-start c = λ v size rest.
    let large = not_held (2 ^ 128) v.start (sym c.in_default-start.is ∙ rest.0) in
    let width = held_is (2 ^ 32) v.width c.in-Some-Some.width (sym c.in-Some-Some.is-0 ∙ size.0) in
    let small = c.is_size.ensures.small c.if-not-is_size.false in
    let least = pow-le-pow_right {n = 2} (omega arith) {i = v.width} {j = 128} (omega arith) in
    let start_fails = either_fails (v.start == 0) (same_kind v.kind kinds.Reg && v.words == 1 && nat_lt v.start (2 ^ v.width))
    (not_zero v.start (omega arith))
    (fails_second (same_kind v.kind kinds.Reg && v.words == 1) (nat_lt v.start (2 ^ v.width)) (not_below v.start (2 ^ v.width) (omega arith))) in
    stands_by_bits c.args.bits v
    ∙ fails_first (is_variable v) (nat_le (c.args.bits + v.width * v.words) 16777216)
    (fails_second (is_width v.width && nat_le 1 v.words && nat_le v.words (most limit.MemoryWords)) _ start_fails)

pub returns : goal.returns
returns c = λ v size rest.
    let width = held_is (2 ^ 32) v.width c.in-Some-Some.width (sym c.in-Some-Some.is-0 ∙ size.0) in
    let words = held_is (2 ^ 32) v.words c.in-Some-Some.words (sym c.in-Some-Some.is-1 ∙ size.1) in
    let start = held_is (2 ^ 128) v.start c.in-Some.start (sym c.in-Some.is ∙ rest.0) in
    let w : Var = record { width = c.in-Some-Some.width; words = c.in-Some-Some.words; start = c.in-Some.start; kind = c.args.rest.1 } in
    let kind : c.args.rest.1 ≡ v.kind = rest.1 in
    let same : w ≡ v = var_same _ _ _ _ v width words start kind in
    let sized = c.is_size.ensures.small c.if-not-is_size.false in
    let good : is_variable w ≡ true =
    both_hold (is_width w.width && nat_le 1 w.words && nat_le w.words (most limit.MemoryWords)) _
    (sym c.is_size.ensures.test ∙ c.if-not-is_size.false) (sym c.may_start.ensures ∙ c.if-not-may_start.false) in
    let room : nat_le (c.args.bits + w.width * w.words) 16777216 ≡ true = at_most _ 16777216 (omega arith) in (
      subst (λ (y : Var). stands (load_of c.args.bits) (var_line y) ≡ true) same (stands_by_bits c.args.bits w ∙ both_hold (is_variable w) _ good room),
      (
        same,
        ap (λ (y : Var). c.args.bits + y.width * y.words) same,
        omega arith,
        subst (λ (y : Var). 1 ≤ y.width * y.words) same (some_product w.width w.words (omega (arith, sized)) (omega (arith, sized))),
      ),
    )
