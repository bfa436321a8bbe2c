-- A loop with a test in each pass, from the state 7: bits 0 to 2 are set later, and each pass gives its event.
use Rattle.std.proofs.Common.{◌≡◌, ◌∙◌, ap, ap₂, refl, ℕ, Bool, true, false, [], ◌∷◌, map, None, codes, pos, if◌then◌else◌}
use Rattle.std.proofs.Math.Path.{fun_ext}
use Rattle.std.specs.Str.{bytes_eq}
use Rattle.cov_types.specs.declared.place.Place.{Place}
use Rattle.vlog_tree.specs.declared.operator.BinaryOp.TheVariants as op
use Rattle.vlog_tree.specs.declared.expression.Expr.{Expr}
use Rattle.vlog_tree.specs.declared.expression.Expr.TheVariants as e
use Rattle.vlog_tree.specs.declared.expression.Select.TheVariants as select
use Rattle.vlog_tree.specs.declared.statement.Stmt.{Stmt}
use Rattle.vlog_tree.specs.declared.statement.StmtKind.TheVariants as v
use Rattle.circuit_run.specs.States.{State}
use Rattle.circuit_run.specs.Writes.{Part}
use Rattle.circuit_run.specs.Outcomes.{in_turn}
use Rattle.source_meaning.specs.Acts.{if_runs, sets_later}
use Rattle.source_meaning.specs.Selects.{meaning_of_object, less, selected}
use Rattle.source_meaning.specs.Selects.{at as chosen_at}
use Rattle.source_meaning.specs.Events.{Event, Arm, yes_arm, no_arm}
use Rattle.source_meaning.specs.Meaning.{Variable, by_itself, part}
use Rattle.source_meaning.specs.Operators.{binary_of}
use Rattle.source_meaning.specs.Environment.{Environment, variable, unknown, in_pass}
use Rattle.source_meaning.specs.Expressions.{meaning}
use Rattle.source_meaning.specs.Loops.{pass_values}
use Rattle.source_meaning.specs.Statements.{does, values_of}
use Rattle.source_meaning.proofs.Equations.{of-Number, of-Name, of-Select, of-Binary, of-At}
use Rattle.source_meaning.proofs.StatementEquations.{stmt, of-For, of-If, of-Later}

abbrev bits : ℕ → ℕ → Bool → Variable
bits n w sg = record { number = n; width = w; signed = sg; vector = true; low = 0; memory = false; word_low = 0 }

-- `a` and `y` of 4 bits, the integer `i`
abbrev env : Environment
env = record {
  scope = 0;
  look = λ n. if bytes_eq n (codes "a") then variable (bits 0 4 false) else if bytes_eq n (codes "y") then variable (bits 1 4 false) else if bytes_eq n
      (codes "i") then variable (bits 2 32 true) else unknown;
}

abbrev s : State
s = record { width = 4; words = 7 ∷ [] } ∷ record { width = 4; words = 0 ∷ [] } ∷ record { width = 32; words = 0 ∷ [] } ∷ []

abbrev at : ℕ → Place
at column = record { file = 0; line = 1; column = column }

abbrev i : Expr
i = e.Name (codes "i")

abbrev number : ℕ → Expr
number n = e.Number 32 true n 0

-- `i < 4` and `i + 1`
abbrev test : Expr
test = e.Binary op.Less i (number 4)

abbrev step : Expr
step = e.Binary op.Add i (number 1)

-- `if (a[i]) y[i] <= 1;`
abbrev body : Stmt
body = stmt (at 20) (v.If (e.Select (e.Name (codes "a")) (select.At i)) (stmt (at 30) (v.Later (e.Select (e.Name (codes "y")) (select.At i)) (number 1))) None)

-- `for (i = 0; i < 4; i = i + 1)` and the body
abbrev loop : Stmt
loop = stmt (at 10) (v.For (codes "i") (number 0) test (codes "i") step body)

-- what they mean in a pass
abbrev in_it : ℕ → Environment
in_it n = in_pass env (codes "i") n

test_is : (n : ℕ) → meaning (in_it n) test ≡ binary_of op.Less (by_itself 32 true true λ s. n) (record (by_itself 32 true true λ s. 4) { free = 0 })
test_is n = simp (of-Binary (in_it n), of-Name (in_it n), of-Number (in_it n)) refl

step_is : (n : ℕ) → meaning (in_it n) step ≡ binary_of op.Add (by_itself 32 true true λ s. n) (record (by_itself 32 true true λ s. 1) { free = 0 })
step_is n = simp (of-Binary (in_it n), of-Name (in_it n), of-Number (in_it n)) refl

four_passes : values_of env (codes "i") (number 0) test step ≡ 0 ∷ 1 ∷ 2 ∷ 3 ∷ []
four_passes =
    ap₂ (λ t u. pass_values t u (meaning env (number 0))) (fun_ext test_is) (fun_ext step_is)
    ∙ ap (pass_values (λ n. binary_of op.Less (by_itself 32 true true λ s. n) (record (by_itself 32 true true λ s. 4) { free = 0 }))
    (λ n. binary_of op.Add (by_itself 32 true true λ s. n) (record (by_itself 32 true true λ s. 1) { free = 0 }))) (of-Number env 32 true 0 0)

-- the event of an arm of the `if`, and a bit of `y` that is set later
abbrev event : Arm → Event
event arm = record { scope = 0; place = at 20; arm = arm }

abbrev bit_later : ℕ → Part
bit_later n = record { var = 1; word = pos 0; low = pos n; width = 1; number = 1 }

-- `a[i]` and `y[i]`
abbrev bit_a : Expr
bit_a = e.Select (e.Name (codes "a")) (select.At i)

abbrev bit_y : Expr
bit_y = e.Select (e.Name (codes "y")) (select.At i)

a_is : (n : ℕ) → meaning (in_it n) bit_a ≡ meaning_of_object (part (bits 0 4 false) (less (by_itself 32 true true λ s. n) (pos 0)) 1)
a_is n =
    of-Select (in_it n) (e.Name (codes "a")) (select.At i)
    ∙ ap₂ selected (of-Name (in_it n) (codes "a")) (of-At (in_it n) i ∙ ap chosen_at (of-Name (in_it n) (codes "i")))

y_is : (n : ℕ) → meaning (in_it n) bit_y ≡ meaning_of_object (part (bits 1 4 false) (less (by_itself 32 true true λ s. n) (pos 0)) 1)
y_is n =
    of-Select (in_it n) (e.Name (codes "y")) (select.At i)
    ∙ ap₂ selected (of-Name (in_it n) (codes "y")) (of-At (in_it n) i ∙ ap chosen_at (of-Name (in_it n) (codes "i")))

-- what the body does in a pass
body_is : (n : ℕ) → does body (in_it n) ≡ if_runs 0 (at 20) (meaning_of_object (part (bits 0 4 false) (less (by_itself 32 true true λ s. n) (pos 0)) 1))
    (sets_later (meaning_of_object (part (bits 1 4 false) (less (by_itself 32 true true λ s. n) (pos 0)) 1))
    (record (by_itself 32 true true λ s. 1) { free = 0 })) None
body_is n =
    ap (λ f. f (in_it n)) (of-If (at 20) bit_a (stmt (at 30) (v.Later bit_y (number 1))))
    ∙ ap₂ (λ m act. if_runs 0 (at 20) m act None) (a_is n)
    (ap (λ f. f (in_it n)) (of-Later (at 30) bit_y (number 1)) ∙ ap₂ sets_later (y_is n) (of-Number (in_it n) 32 true 1 0))

loop_runs : does loop env s ≡ record {
  state = s;
  updates = bit_later 0 ∷ bit_later 1 ∷ bit_later 2 ∷ [];
  text = [];
  notes = event yes_arm ∷ event yes_arm ∷ event yes_arm ∷ event no_arm ∷ [];
  finished = false;
  stopped = false;
}
loop_runs =
    ap (λ f. f env s) (of-For (at 10) (codes "i") (number 0) test (codes "i") step body)
    ∙ ap (λ ns. in_turn (map (λ n. does body (in_it n)) ns) s) four_passes
    ∙ ap (λ f. in_turn (map f (0 ∷ 1 ∷ 2 ∷ 3 ∷ [])) s) (fun_ext body_is)
