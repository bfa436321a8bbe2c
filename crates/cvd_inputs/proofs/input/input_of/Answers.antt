use Rattle.std.proofs.Common.{◌≡◌, ◌^◌, ◌+◌, [], true, refl, sym, ◌∙◌, ap, length}
use Rattle.std.specs.Prelude.{◌&&◌, ◌||◌, not, nat_lt}
use Rattle.cov_types.specs.declared.kind.VarKind.TheVariants as kind
use Rattle.cvd_text.specs.Targets.{same_kind}
use Rattle.design_meaning.specs.Names as names
use Rattle.design_meaning.specs.States.{var_of}
use Rattle.design_meaning.specs.WellTyped.{is_plain_var, is_var}
use Rattle.spelling_laws.proofs.Fitting.{first_true, second_true}
use Rattle.cvd_sections.specs.Alone.{design_of}
use Rattle.cvd_sections.specs.Places.{is_behind}
use Rattle.cvd_sections.proofs.Judging.{held_is, fails_first, fails_second, both_hold}
use Rattle.cvd_inputs.specs.Names.{has_name}
use Rattle.cvd_inputs.proofs.Ending.{all_by_length, input_among, told_before}
use Rattle.cvd_inputs.proofs.input.input_of.Goals as goal

pub returns-then-not-is_input : goal.returns-then-not-is_input
returns-then-not-is_input c = λ all before i seen stand h name.
    let d = design_of c.args.vars.now [] [] in
    let same = held_is (2 ^ 32) i.var c.in-Some.var (sym c.in-Some.is ∙ h) in
    fails_first (((is_plain_var d i.var && same_kind (var_of d i.var).kind kind.Input) && names.is_name i.name) && _) _
    (fails_first ((is_plain_var d i.var && same_kind (var_of d i.var).kind kind.Input) && names.is_name i.name) _
    (fails_first (is_plain_var d i.var && same_kind (var_of d i.var).kind kind.Input) (names.is_name i.name)
    (ap (λ v. is_plain_var d v && same_kind (var_of d v).kind kind.Input) (sym same) ∙ sym (c.is_input.ensures d refl) ∙ c.if-not-is_input.true)))

pub returns-then-not-is_behind : goal.returns-then-not-is_behind
returns-then-not-is_behind c = λ all before i seen stand h name.
    let d = design_of c.args.vars.now [] [] in
    let same = held_is (2 ^ 32) i.var c.in-Some.var (sym c.in-Some.is ∙ h) in
    fails_first (((is_plain_var d i.var && same_kind (var_of d i.var).kind kind.Input) && names.is_name i.name) && _) _
    (fails_second ((is_plain_var d i.var && same_kind (var_of d i.var).kind kind.Input) && names.is_name i.name) _
    (told_before c.args.vars.now before i c.args.last c.args.names.now seen
    ∙ fails_first (is_behind nat_lt c.args.last i.var) _
    (ap (is_behind nat_lt c.args.last) (sym same) ∙ sym c.is_behind.ensures ∙ c.if-not-is_behind.true)))

pub returns-then-has_name : goal.returns-then-has_name
returns-then-has_name c = λ all before i seen stand h name.
    let d = design_of c.args.vars.now [] [] in
    fails_first (((is_plain_var d i.var && same_kind (var_of d i.var).kind kind.Input) && names.is_name i.name) && _) _
    (fails_second ((is_plain_var d i.var && same_kind (var_of d i.var).kind kind.Input) && names.is_name i.name) _
    (told_before c.args.vars.now before i c.args.last c.args.names.now seen
    ∙ fails_second (is_behind nat_lt c.args.last i.var) _
    (ap (λ n. not (has_name c.args.names.now n)) (sym name) ∙ ap not (sym c.has_name.ensures ∙ c.if-has_name.true))))

pub returns : goal.returns
returns c = λ all before i seen stand h name.
    let d = design_of c.args.vars.now [] [] in
    let vars = c.args.vars.now in
    let same = held_is (2 ^ 32) i.var c.in-Some.var (sym c.in-Some.is ∙ h) in
    let input : (is_plain_var d i.var && same_kind (var_of d i.var).kind kind.Input) ≡ true =
    ap (λ v. is_plain_var d v && same_kind (var_of d v).kind kind.Input) (sym same) ∙ sym (c.is_input.ensures d refl) ∙ c.if-not-is_input.false in
    let there : is_var d i.var ≡ true = first_true (is_var d i.var) _ (first_true (is_plain_var d i.var) _ input) in
    let among = input_among vars i.var there (second_true (is_plain_var d i.var) _ input) in
    let named = ap names.is_name (sym name) ∙ sym c.is_name.ensures ∙ c.if-not-is_name.false in
    let above = ap (is_behind nat_lt c.args.last) (sym same) ∙ sym c.is_behind.ensures ∙ c.if-not-is_behind.false in
    let other = ap (λ n. not (has_name c.args.names.now n)) (sym name) ∙ ap not (sym c.has_name.ensures ∙ c.if-has_name.false) in (
      both_hold (((is_plain_var d i.var && same_kind (var_of d i.var).kind kind.Input) && names.is_name i.name) && _) _
          (both_hold ((is_plain_var d i.var && same_kind (var_of d i.var).kind kind.Input) && names.is_name i.name) _
          (both_hold _ (names.is_name i.name) input named)
          (told_before vars before i c.args.last c.args.names.now seen ∙ both_hold (is_behind nat_lt c.args.last i.var) _ above other))
          (ap (λ b. nat_lt (length before + 1) all || b) (all_by_length vars before i c.args.last c.args.names.now seen above among) ∙ sym stand
          ∙ c.if-not-may_stand.false),
      same,
    )
