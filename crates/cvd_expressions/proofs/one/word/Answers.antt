use Rattle.std.proofs.Common.{refl, sym, ◌∙◌, ap, length, arith}
use Rattle.std.specs.Prelude.{nat_lt}
use Rattle.std.specs.List.{slice_index_or}
use Rattle.circuit_run.specs.States.{no_var}
use Rattle.cov_types.specs.declared.var.Var.{Var}
use Rattle.cvd_expressions.proofs.Parts.{none_of, tells, operand, typed_word, width_word, depth_word, variable_found, variable_none}
use Rattle.cvd_expressions.proofs.one.word.Goals as goal

pub returns-in_default : goal.returns-in_default
returns-in_default c = λ d s h.
    let v = c.args.var in
    none_of d _ (typed_word d v c.args.low c.args.signed c.args.of.tree _ _ (operand d c.args.of h c.args.of.tree refl) (omega arith)
    ∙ ap (λ l. nat_lt v (length l)) s ∙ variable_none c.args.vars.now v no_var (sym c.variable_at.ensures ∙ c.in_default.is))

pub returns : goal.returns
returns c =
    let v = c.args.var in
    let low = c.args.low in
    let x = c.args.of.tree in
    let found = variable_found c.args.vars.now v c.in-Some.found no_var (sym c.variable_at.ensures ∙ c.in-Some.is) in
    tells c.finished.result _ _
    (λ held f. λ d s h.
    let o = operand d c.args.of h x refl in
    let is = ap (λ l. slice_index_or l v no_var) s ∙ found.1 in
    f d (typed_word d v low c.args.signed x _ _ o (omega arith) ∙ ap (λ l. nat_lt v (length l)) s ∙ found.0)
    (sym (ap (λ (y : Var). y.width) is) ∙ width_word d v low c.args.signed x) (depth_word d v low c.args.signed x _ _ o))
    c.finished.ensures
