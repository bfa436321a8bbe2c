-- The flat form of expressions and statements means the same.
use Rattle.std.proofs.Common.{◌≡◌, ◌∙◌, sym, ap, ap₂, refl, ℕ, List, ◌∷◌, map, Some, None}
use Rattle.vlog_tree.specs.declared.expression.Expr.{Expr}
use Rattle.vlog_tree.specs.declared.expression.Select.{Select}
use Rattle.vlog_tree.specs.declared.statement.Stmt.{Stmt}
use Rattle.vlog_tree.specs.declared.statement.CaseArm.{CaseArm}
use Rattle.elab_types.specs.declared.flat_source.FlatVar.{FlatVar}
use Rattle.elab_types.specs.declared.flat_expression.FlatExpr.{FlatExpr}
use Rattle.elab_types.specs.declared.flat_expression.FlatSelect.{FlatSelect}
use Rattle.elab_types.specs.declared.flat_statement.FlatStmt.{FlatStmt}
use Rattle.elab_types.specs.declared.flat_statement.FlatArm.{FlatArm}
use Rattle.circuit_run.specs.Outcomes.{in_turn}
use Rattle.source_meaning.specs.Operators.{unary_of, binary_of, chosen}
use Rattle.source_meaning.specs.Joins.{joined, repeated, called}
use Rattle.source_meaning.specs.Selects.{at, between, up, down, selected}
use Rattle.source_meaning.specs.Environment.{Environment, named, in_pass}
use Rattle.source_meaning.specs.Expressions as source
use Rattle.source_meaning.specs.Statements.{does}
use Rattle.source_meaning.specs.Acts.{if_runs, case_runs, sets, sets_later, displays}
use Rattle.source_meaning.proofs.Equations as src
use Rattle.source_meaning.proofs.StatementEquations as run
use Rattle.flat_meaning.specs.Expressions as flat
use Rattle.flat_meaning.specs.FlatForm as form
use Rattle.flat_meaning.specs.FlatForm.{IsFlat, IsFlatSelect, AreFlat, IsFlatStmt, AreFlatStmts, AreFlatArms, AreFlatPasses}
use Rattle.flat_meaning.proofs.Meanings as of
use Rattle.flat_meaning.proofs.Doings as did
use Rattle.flat_meaning.proofs.Doings.{acts}

module _ (vars : List FlatVar) where
  mutual
    pub same_meaning : {env : Environment} {e : Expr} {a : FlatExpr} → IsFlat vars env e a → source.meaning env e ≡ flat.meaning vars a
    same_meaning {env} (form.number {w} {x} {free} {sg}) = src.of-Number env w sg x free ∙ sym (of.of-Number vars w sg x free)
    same_meaning {env} (form.of_variable {name} {n} {v} p q) = src.of-Name env name ∙ ap named p ∙ sym (of.of-Var vars n ∙ ap named q)
    same_meaning {env} (form.of_constant {name} {w} {x} {sg} p) = src.of-Name env name ∙ ap named p ∙ sym (of.of-Number vars w sg x 0)
    same_meaning {env} (form.of_select {base} {some} {a} {b} d ds) = src.of-Select env base some ∙ ap₂ selected (same_meaning d) (same_select ds)
        ∙ sym (of.of-Select vars a b)
    same_meaning {env} (form.of_unary {op} {of = e} {a} d) = src.of-Unary env op e ∙ ap (unary_of op) (same_meaning d) ∙ sym (of.of-Unary vars op a)
    same_meaning {env} (form.of_binary {op} {left} {right} {a} {b} d e) = src.of-Binary env op left right
        ∙ ap₂ (binary_of op) (same_meaning d) (same_meaning e) ∙ sym (of.of-Binary vars op a b)
    same_meaning {env} (form.of_choice {test} {left} {right} {a} {b} {c} dt d e) =
        src.of-Choose env test left right
        ∙ ap (λ m. chosen m (source.meaning env left) (source.meaning env right)) (same_meaning dt)
        ∙ ap₂ (chosen (flat.meaning vars a)) (same_meaning d) (same_meaning e)
        ∙ sym (of.of-Choose vars a b c)
    same_meaning {env} (form.of_join {parts} {as_parts} ds) = src.of-Join env parts ∙ ap joined (same_meanings ds) ∙ sym (of.of-Join vars as_parts)
    same_meaning {env} (form.of_repeat {count} {parts} {a} {as_parts} d ds) =
        src.of-Repeat env count parts ∙ ap₂ repeated (same_meaning d) (same_meanings ds) ∙ sym (of.of-Repeat vars a as_parts)
    same_meaning {env} (form.of_call {name} {of = e} {a} d) = src.of-Call env name e ∙ ap (called name) (same_meaning d) ∙ sym (of.of-Call vars name a)

    same_select : {env : Environment} {some : Select} {b : FlatSelect} → IsFlatSelect vars env some b → src.selection_of env some ≡ of.selection_of vars b
    same_select {env} (form.of_at {i} {a} d) = src.of-At env i ∙ ap at (same_meaning d) ∙ sym (of.of-At vars a)
    same_select {env} (form.of_between {high} {low} {a} {b} d e) = src.of-Between env high low ∙ ap₂ between (same_meaning d) (same_meaning e)
        ∙ sym (of.of-Between vars a b)
    same_select {env} (form.of_up {i} {count} {a} {b} d e) = src.of-Up env i count ∙ ap₂ up (same_meaning d) (same_meaning e) ∙ sym (of.of-Up vars a b)
    same_select {env} (form.of_down {i} {count} {a} {b} d e) = src.of-Down env i count ∙ ap₂ down (same_meaning d) (same_meaning e) ∙ sym (of.of-Down vars a b)

    pub same_meanings : {env : Environment} {es : List Expr} {as_flat : List FlatExpr} → AreFlat vars env es as_flat
        → map (source.meaning env) es ≡ map (flat.meaning vars) as_flat
    same_meanings form.no_exprs = refl
    same_meanings (form.more_exprs d ds) = ap₂ ◌∷◌ (same_meaning d) (same_meanings ds)

  mutual
    pub same_act : {env : Environment} {st : Stmt} {fl : FlatStmt} → IsFlatStmt vars env st fl → does st env ≡ acts vars env.scope fl
    same_act (form.empty {env} {p}) = ap (λ f. f env) (run.of-Empty p) ∙ sym (did.of-Empty vars env.scope p)
    same_act (form.block {env} {p} {last} {body} {flat = fl} ds) = ap (λ f. f env) (run.of-Block p body last) ∙ ap in_turn (same_acts ds)
        ∙ sym (did.of-Block vars env.scope p fl last)
    same_act (form.if_alone {env} {p} {test} {a} {first} {one} dt d) =
        ap (λ f. f env) (run.of-If p test first)
        ∙ ap₂ (λ m act. if_runs env.scope p m act None) (same_meaning dt) (same_act d)
        ∙ sym (did.of-If vars env.scope p a one)
    same_act (form.if_else {env} {p} {test} {a} {first} {second} {one} {two} dt d e) =
        ap (λ f. f env) (run.of-If-else p test first second)
        ∙ ap (λ m. if_runs env.scope p m (does first env) (Some (does second env))) (same_meaning dt)
        ∙ ap₂ (λ act other. if_runs env.scope p (flat.meaning vars a) act (Some other)) (same_act d) (same_act e)
        ∙ sym (did.of-If-else vars env.scope p a one two)
    same_act (form.case {env} {p} {wild} {on} {a} {arms} {flat = fl} dt ds) =
        ap (λ f. f env) (run.of-Case p wild on arms)
        ∙ ap₂ (λ m cs. case_runs env.scope p m cs) (same_meaning dt) (same_choices ds)
        ∙ sym (did.of-Case vars env.scope p wild a fl)
    same_act (form.loop {env} {p} {name} {step_name} {from} {test} {step} {body} {values} {flat = fl} q ds) =
        ap (λ f. f env) (run.of-For p name from test step_name step body)
        ∙ ap (λ ns. in_turn (map (λ n. does body (in_pass env name n)) ns)) q
        ∙ ap in_turn (same_passes ds)
        ∙ sym (did.of-Block vars env.scope p fl p)
    same_act (form.set {env} {p} {target} {value} {a} {b} d e) =
        ap (λ f. f env) (run.of-Set p target value) ∙ ap₂ sets (same_meaning d) (same_meaning e) ∙ sym (did.of-Set vars env.scope p a b)
    same_act (form.later {env} {p} {target} {value} {a} {b} d e) =
        ap (λ f. f env) (run.of-Later p target value) ∙ ap₂ sets_later (same_meaning d) (same_meaning e) ∙ sym (did.of-Later vars env.scope p a b)
    same_act (form.show {env} {p} {text} {values} {flat = fl} ds) =
        ap (λ f. f env) (run.of-Show p text values) ∙ ap (displays text) (same_meanings ds) ∙ sym (did.of-Show vars env.scope p text fl)
    same_act (form.finish {env} {p}) = ap (λ f. f env) (run.of-Finish p) ∙ sym (did.of-Finish vars env.scope p)
    same_act (form.stop {env} {p}) = ap (λ f. f env) (run.of-Stop p) ∙ sym (did.of-Stop vars env.scope p)

    same_acts : {env : Environment} {body : List Stmt} {fl : List FlatStmt} → AreFlatStmts vars env body fl
        → map (λ act. act env) (map does body) ≡ map (acts vars env.scope) fl
    same_acts form.no_stmts = refl
    same_acts (form.more_stmts d ds) = ap₂ ◌∷◌ (same_act d) (same_acts ds)

    same_choices : {env : Environment} {arms : List CaseArm} {fl : List FlatArm} → AreFlatArms vars env arms fl
        → map (λ c. c env) (map run.choices arms) ≡ map (did.choices vars env.scope) fl
    same_choices form.no_arms = refl
    same_choices (form.more_arms {env} {p} {items} {flat_items} {body} {one} di d ds) =
        ap₂ ◌∷◌
        (ap (λ f. f env) (run.of-arm p items body)
        ∙ ap₂ (λ ms act. record { place = p; items = ms; body = act }) (same_meanings di) (same_act d)
        ∙ sym (did.of-arm vars env.scope p flat_items one))
        (same_choices ds)

    same_passes : {env : Environment} {name : List ℕ} {ns : List ℕ} {body : Stmt} {fl : List FlatStmt} → AreFlatPasses vars env name ns body fl
        → map (λ n. does body (in_pass env name n)) ns ≡ map (acts vars env.scope) fl
    same_passes form.no_passes = refl
    same_passes (form.more_passes d ds) = ap₂ ◌∷◌ (same_act d) (same_passes ds)
