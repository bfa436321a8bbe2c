-- The typed form of a process does what the process does.
use Rattle.std.proofs.Common.{sym, ap, subst, ℕ, List, [], ◌∷◌, map, if◌then◌else◌}
use Rattle.elab_types.specs.declared.flat_source.FlatVar.{FlatVar}
use Rattle.elab_types.specs.declared.flat_statement.FlatKind.TheVariants as k
use Rattle.elab_types.specs.declared.flat_source.FlatProcess.{FlatProcess}
use Rattle.design_tree.specs.declared.design.Process.{Process}
use Rattle.design_tree.specs.declared.step.Step.TheVariants as v
use Rattle.cov_types.specs.declared.kind.ProcessKind.TheVariants as process_kind
use Rattle.circuit_run.specs.States.{State}
use Rattle.circuit_run.specs.Outcomes.{Outcome, unchanged}
use Rattle.source_meaning.specs.Events.{Event, body, covered, unwritten}
use Rattle.source_meaning.specs.Meaning.{holds}
use Rattle.source_meaning.specs.Acts.{enters}
use Rattle.flat_meaning.specs.Expressions.{meaning}
use Rattle.flat_meaning.specs.Circuit.{process_runs, cover_runs}
use Rattle.design_meaning.specs.Values.{value_in}
use Rattle.design_meaning.specs.Steps.{does, all_do}
use Rattle.typed_form.specs.Nodes.{test}
use Rattle.typed_form.specs.TypedForm.{IsTypedProcess, assigns, combines, clocks, begins, covers}
use Rattle.flat_meaning.specs.FlatTrees.{flat_stmt as stmt}
use Rattle.typed_form.specs.TypedLaws.{HasWidths}
use Rattle.flat_meaning.proofs.Doings.{acts}
use Rattle.typed_form.proofs.Doings as of
use Rattle.typed_form.proofs.Done.{Done, done_nothing, done_alone, done_arm, done_counts, done_if}
use Rattle.typed_form.proofs.KeepsBinary.{test_node}
use Rattle.typed_form.proofs.KeepsValue.{keeps_alone}
use Rattle.typed_form.proofs.KeepsRun.{keeps_run}

module _ (vars : List FlatVar) (marks : Event → List ℕ) where
  pub keeps_process : {p : FlatProcess} {q : Process} → IsTypedProcess vars marks p q → (s : State) → HasWidths vars s
      → Done marks s (process_runs vars p p.kind s) (all_do q.body s)
  keeps_process (assigns {scope} {place} {st} {steps} d) s widths =
      done_arm marks (record { scope = scope; place = place; arm = unwritten }) (acts vars scope st s) steps s (keeps_run vars scope marks d s widths)
  keeps_process (combines {scope} {place} {st} {steps} d) s widths =
      done_arm marks (record { scope = scope; place = place; arm = body }) (acts vars scope st s) steps s (keeps_run vars scope marks d s widths)
  keeps_process (clocks {scope} {place} {st} {steps} d) s widths =
      done_arm marks (record { scope = scope; place = place; arm = body }) (acts vars scope st s) steps s (keeps_run vars scope marks d s widths)
  keeps_process (begins {scope} {place} {st} {steps} d) s widths =
      done_arm marks (record { scope = scope; place = place; arm = body }) (acts vars scope st s) steps s (keeps_run vars scope marks d s widths)
  keeps_process (covers {scope} {place} q on first second {a} d) s widths =
      let m = meaning vars on in
      let event : Event = record { scope = scope; place = place; arm = covered } in
      let counts = map v.Count (marks event) in
      let this : Outcome Event = if holds m s then enters scope place covered s else unchanged s in
      subst (λ layer. Done marks s (cover_runs vars (record { scope = scope; place = place; kind = process_kind.Cover; body = stmt q (k.If on first second) })
      layer s) (all_do (v.If (test a) counts [] ∷ []) s))
      (sym (k.outs-If on first second))
      (done_alone marks s this (does (v.If (test a) counts []))
      (subst (λ g. Done marks s this (g s)) (sym (of.of-if (test a) counts []))
      (done_if marks (holds m s) (value_in s (test a)).number s (enters scope place covered s) (unchanged s) (map does counts) []
      (ap (λ x. x.number) (test_node s a m (keeps_alone vars s widths d)))
      (done_counts marks event s)
      (done_nothing marks s))))
