use Rattle.std.proofs.Common.{◌^◌, [], refl, sym, ◌∙◌, ap, length, arith}
use Rattle.std.specs.Prelude.{nat_lt, ◌==◌}
use Rattle.std.specs.List.{list_all}
use Rattle.design_meaning.specs.WellTyped.{is_plain_var}
use Rattle.design_meaning.specs.States.{var_of}
use Rattle.cvd_sections.specs.Alone.{design_of}
use Rattle.cvd_sections.specs.Places.{is_behind}
use Rattle.cvd_sections.proofs.Judging.{held_is, not_held, not_below, fails_first, fails_second, both_hold}
use Rattle.cvd_sections.proofs.output.output_of.Goals as goal

pub returns-in_default : goal.returns-in_default
returns-in_default c = λ before v last h.
    let large = not_held (2 ^ 32) v (sym c.in_default.is ∙ h) in
    let d = design_of c.args.vars.now [] [] in
    fails_first (is_plain_var d v) (list_all (λ u. nat_lt u v) before)
    (fails_first (nat_lt v (length c.args.vars.now)) ((var_of d v).words == 1) (not_below v (length c.args.vars.now) (omega (arith, c.requires))))

pub returns-then-not-is_plain : goal.returns-then-not-is_plain
returns-then-not-is_plain c = λ before v last h.
    let var = c.in-Some.var in
    let d = design_of c.args.vars.now [] [] in
    fails_first (is_plain_var d v) (list_all (λ u. nat_lt u v) before)
    (ap (is_plain_var d) (sym (held_is (2 ^ 32) v var (sym c.in-Some.is ∙ h))) ∙ sym (c.is_plain.ensures d refl) ∙ c.if-not-is_plain.true)

pub returns-then-not-is_behind : goal.returns-then-not-is_behind
returns-then-not-is_behind c = λ before v last h.
    let var = c.in-Some.var in
    let d = design_of c.args.vars.now [] [] in
    fails_second (is_plain_var d v) (list_all (λ u. nat_lt u v) before)
    (last v ∙ ap (is_behind nat_lt c.args.last) (sym (held_is (2 ^ 32) v var (sym c.in-Some.is ∙ h))) ∙ sym c.is_behind.ensures ∙ c.if-not-is_behind.true)

pub returns : goal.returns
returns c = λ before v last h.
    let var = c.in-Some.var in
    let same = held_is (2 ^ 32) v var (sym c.in-Some.is ∙ h) in
    let d = design_of c.args.vars.now [] [] in (
      both_hold (is_plain_var d v) (list_all (λ u. nat_lt u v) before)
          (ap (is_plain_var d) (sym same) ∙ sym (c.is_plain.ensures d refl) ∙ c.if-not-is_plain.false)
          (last v ∙ ap (is_behind nat_lt c.args.last) (sym same) ∙ sym c.is_behind.ensures ∙ c.if-not-is_behind.false),
      same,
    )
