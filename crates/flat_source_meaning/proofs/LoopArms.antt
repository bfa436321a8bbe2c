-- A loop of four passes round an `if` without `else`, wherever it stands: each pass has its copies of both arms.
--   integer i; always @(posedge clk) for (i = 0; i < 4; i = i + 1) if (a[i]) y[i] <= 1;
use Rattle.std.proofs.Common.{◌≡◌, ◌∙◌, ap, ap₂, refl, subst, sym, ℕ, true, List, [], ◌∷◌, ◌++◌, length, None, Some, codes}
use Rattle.std.proofs.Math.Path.{fun_ext}
use Rattle.cov_types.specs.declared.place.Place.{Place}
use Rattle.vlog_tree.specs.declared.operator.BinaryOp.TheVariants as op
use Rattle.vlog_tree.specs.declared.expression.Expr.{Expr}
use Rattle.vlog_tree.specs.declared.expression.Expr.TheVariants as e
use Rattle.vlog_tree.specs.declared.expression.Select.TheVariants as select
use Rattle.vlog_tree.specs.declared.statement.Stmt.{Stmt, out-roll-Stmt}
use Rattle.vlog_tree.specs.declared.statement.StmtKind.{StmtKind, out-StmtKind}
use Rattle.vlog_tree.specs.declared.statement.StmtKind.TheVariants as v
use Rattle.vlog_tree.specs.Trees.{StmtLayer, stmt, stmt_layer, first_token}
use Rattle.source_meaning.specs.Meaning.{by_itself}
use Rattle.source_meaning.specs.Operators.{binary_of}
use Rattle.source_meaning.specs.Environment.{Environment, in_pass}
use Rattle.source_meaning.specs.Expressions.{meaning}
use Rattle.source_meaning.specs.Loops.{pass_values}
use Rattle.source_meaning.specs.Statements.{values_of}
use Rattle.source_meaning.proofs.Equations.{of-Number, of-Name, of-Binary}
use Rattle.flat_source_meaning.specs.SourceArms.{Arm, if_arm, unwritten_else, body_arm}
use Rattle.flat_source_meaning.specs.ArmCopies.{HasArms, single, if_alone, for, PassesHaveArms, over, turn}
use Rattle.flat_source_meaning.specs.Processes.{always}
use Rattle.flat_source_meaning.specs.FlatProcesses.{HasProcessArms, always_has}

abbrev at : ℕ → Place
at column = record { file = 0; line = 1; column = column }

abbrev number : ℕ → Expr
number n = e.Number 32 true n 0

abbrev i_of : List ℕ → Expr
i_of n = e.Select (e.Name n) (select.At (e.Name (codes "i")))

abbrev test : Expr
test = e.Binary op.Less (e.Name (codes "i")) (number 4)

abbrev step : Expr
step = e.Binary op.Add (e.Name (codes "i")) (number 1)

abbrev write : Stmt
write = stmt (at 110) (v.Later (i_of (codes "y")) (number 1))

abbrev choice : Stmt
choice = stmt (at 99) (v.If (i_of (codes "a")) write None)

abbrev the_loop : Stmt
the_loop = stmt (at 50) (v.For (codes "i") (number 0) test (codes "i") step choice)

layer-stmt : (p : Place) (what : StmtKind) → stmt_layer (stmt p what) ≡ out-StmtKind what
layer-stmt p what = ap (λ x. out-StmtKind x.what) (out-roll-Stmt (record { place = p; what = what }))

by_layer : {env : Environment} {a : Stmt} {l : StmtLayer} {arms : List Arm} → stmt_layer a ≡ l → HasArms env a l arms → HasArms env a (stmt_layer a) arms
by_layer {env} {a} {arms = arms} e x = subst (λ (l : StmtLayer). HasArms env a l arms) (sym e) x

module _ (env : Environment) where
  test_is : (n : ℕ) → meaning (in_pass env (codes "i") n) test
      ≡ binary_of op.Less (by_itself 32 true true λ s. n) (record (by_itself 32 true true λ s. 4) { free = 0 })
  test_is n = simp (of-Binary (in_pass env (codes "i") n), of-Name (in_pass env (codes "i") n), of-Number (in_pass env (codes "i") n)) refl

  step_is : (n : ℕ) → meaning (in_pass env (codes "i") n) step
      ≡ binary_of op.Add (by_itself 32 true true λ s. n) (record (by_itself 32 true true λ s. 1) { free = 0 })
  step_is n = simp (of-Binary (in_pass env (codes "i") n), of-Name (in_pass env (codes "i") n), of-Number (in_pass env (codes "i") n)) refl

  four_passes : values_of env (codes "i") (number 0) test step ≡ 0 ∷ 1 ∷ 2 ∷ 3 ∷ []
  four_passes =
      ap₂ (λ t u. pass_values t u (meaning env (number 0))) (fun_ext test_is) (fun_ext step_is)
      ∙ ap (pass_values (λ n. binary_of op.Less (by_itself 32 true true λ s. n) (record (by_itself 32 true true λ s. 4) { free = 0 }))
      (λ n. binary_of op.Add (by_itself 32 true true λ s. n) (record (by_itself 32 true true λ s. 1) { free = 0 }))) (of-Number env 32 true 0 0)

-- the arms of a pass
abbrev both : List Arm
both = if_arm (first_token choice) write ∷ unwritten_else (first_token choice) ∷ []

of_pass : (env : Environment) → HasArms env choice (stmt_layer choice) both
of_pass env =
    by_layer (layer-stmt (at 99) (v.If (i_of (codes "a")) write None) ∙ v.outs-If (i_of (codes "a")) write None)
    (if_alone (by_layer (layer-stmt (at 110) (v.Later (i_of (codes "y")) (number 1)) ∙ v.outs-Later (i_of (codes "y")) (number 1)) (single refl)))

abbrev eight : List Arm
eight = both ++ (both ++ (both ++ (both ++ [])))

of_loop : (env : Environment) → HasArms env the_loop (stmt_layer the_loop) eight
of_loop env =
    by_layer (layer-stmt (at 50) (v.For (codes "i") (number 0) test (codes "i") step choice) ∙ v.outs-For (codes "i") (number 0) test (codes "i") step choice)
    (for (subst (λ (ns : List ℕ). PassesHaveArms env (codes "i") ns choice eight) (sym (four_passes env))
    (turn (of_pass _) (turn (of_pass _) (turn (of_pass _) (turn (of_pass _) over))))))

-- With the body that is nine arms; at three places and comments, so three points: the body, the `if` and its `else`.
nine_arms : (env : Environment) → HasProcessArms (always (Some (codes "clk")) env (at 30) the_loop) (body_arm (at 30) the_loop ∷ eight)
nine_arms env = always_has (of_loop env)

they_are_nine : length (body_arm (at 30) the_loop ∷ eight) ≡ 9
they_are_nine = refl
