use Rattle.std.proofs.Common.{◌≡◌, ℕ, true, false, sym, ◌∙◌, ap, length, arith}
use Rattle.std.specs.Prelude.{◌&&◌, ◌==◌, nat_lt}
use Rattle.std.specs.List.{slice_index_or}
use Rattle.std.proofs.lemmas.Bool.Decides.{nat_tests}
use Rattle.circuit_run.specs.States.{no_var}
use Rattle.cov_types.specs.declared.var.Var.{Var}
use Rattle.cvd_expressions.proofs.Parts.{none_of, tells, typed_var, width_var, depth_var, variable_found, variable_none}
use Rattle.cvd_expressions.proofs.one.variable.Goals as goal

other : (n : ℕ) → ¬ (n ≡ 1) → (n == 1) ≡ false
other n h = grind (arith, nat_tests)

same : (n : ℕ) → n ≡ 1 → (n == 1) ≡ true
same n h = grind (arith, nat_tests)

pub returns-in_default : goal.returns-in_default
returns-in_default c = λ d s.
    let v = c.args.var in
    none_of d _ (typed_var d v
    ∙ ap (λ b. b && (slice_index_or d.vars v no_var).words == 1)
    (ap (λ l. nat_lt v (length l)) s ∙ variable_none c.args.vars.now v no_var (sym c.variable_at.ensures ∙ c.in_default.is)))

pub returns-then-found-ne1 : goal.returns-then-found-ne1
returns-then-found-ne1 c = λ d s.
    let v = c.args.var in
    let found = variable_found c.args.vars.now v c.in-Some.found no_var (sym c.variable_at.ensures ∙ c.in-Some.is) in
    let is = ap (λ l. slice_index_or l v no_var) s ∙ found.1 in
    none_of d _ (typed_var d v ∙ ap (λ b. b && (slice_index_or d.vars v no_var).words == 1) (ap (λ l. nat_lt v (length l)) s ∙ found.0)
    ∙ ap (λ (y : Var). y.words == 1) is ∙ other c.in-Some.found.words c.if-found-ne1.true)

pub returns : goal.returns
returns c =
    let v = c.args.var in
    let found = variable_found c.args.vars.now v c.in-Some.found no_var (sym c.variable_at.ensures ∙ c.in-Some.is) in
    tells c.finished.result _ _
    (λ held f. λ d s.
    let is = ap (λ l. slice_index_or l v no_var) s ∙ found.1 in
    f d (typed_var d v ∙ ap (λ b. b && (slice_index_or d.vars v no_var).words == 1) (ap (λ l. nat_lt v (length l)) s ∙ found.0)
    ∙ ap (λ (y : Var). y.words == 1) is ∙ same c.in-Some.found.words c.if-found-ne1.false) (sym (ap (λ (y : Var). y.width) is) ∙ width_var d v) (depth_var d v))
    c.finished.ensures
