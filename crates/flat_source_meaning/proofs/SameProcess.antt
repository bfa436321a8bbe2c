-- The flat form of a process does what the process does.
use Rattle.std.proofs.Common.{◌≡◌, ◌∙◌, sym, ap, ap₂, refl, ℕ, List, [], ◌∷◌, ◌++◌, map, Some, None, if◌then◌else◌}
use Rattle.std.specs.List.{AllZip}
use Rattle.cov_types.specs.declared.place.Place.{Place}
use Rattle.vlog_tree.specs.declared.statement.Stmt.{Stmt}
use Rattle.cov_types.specs.declared.kind.ProcessKind.TheVariants as process_kind
use Rattle.elab_types.specs.declared.flat_source.FlatVar.{FlatVar}
use Rattle.elab_types.specs.declared.flat_expression.FlatExpr.{FlatExpr}
use Rattle.elab_types.specs.declared.flat_statement.FlatStmt.{FlatStmt, out-FlatStmt, out-roll-FlatStmt}
use Rattle.elab_types.specs.declared.flat_statement.FlatKind.{FlatKind, out-FlatKind}
use Rattle.elab_types.specs.declared.flat_statement.FlatKind.TheVariants as k
use Rattle.elab_types.specs.declared.flat_source.FlatProcess.{FlatProcess}
use Rattle.circuit_run.specs.Outcomes.{Act, unchanged}
use Rattle.cov_types.specs.declared.kind.ProcessKind.{ProcessKind}
use Rattle.circuit_run.specs.Circuits as circuits
use Rattle.source_meaning.specs.Events.{Event, body, unwritten, covered}
use Rattle.source_meaning.specs.Meaning.{Meaning, Object, holds}
use Rattle.source_meaning.specs.Environment.{Environment}
use Rattle.source_meaning.specs.Acts.{enters, arm_runs, sets}
use Rattle.source_meaning.specs.Statements as statements
use Rattle.source_meaning.specs.Drives as drives
use Rattle.source_meaning.specs.Drives.{some_names}
use Rattle.flat_meaning.specs.Expressions as flat_expressions
use Rattle.flat_meaning.specs.Statements as flat_statements
use Rattle.flat_meaning.specs.Circuit as circuit
use Rattle.flat_meaning.specs.FlatForm.{IsFlatStmt}
use Rattle.flat_meaning.proofs.Doings as did
use Rattle.flat_meaning.proofs.FlatTargets as of
use Rattle.flat_meaning.proofs.SameMeaning.{same_meaning, same_act}
use Rattle.flat_meaning.proofs.SameTargets.{same_targets}
use Rattle.flat_source_meaning.specs.Processes.{Process}
use Rattle.flat_source_meaning.specs.SourceCircuit.{meaning_of_process}
use Rattle.flat_meaning.specs.FlatTrees.{flat_stmt}
use Rattle.flat_source_meaning.specs.FlatProcesses.{flat_process, cover_stmt, IsFlatProcess, initially_flat, always_flat, assigns_flat, covers_flat}

abbrev entering : ProcessKind → ℕ → Place → Act Event → List Object → circuits.Process Event
entering kind scope p act objects = record { kind = kind; run = arm_runs scope p body act; drives = some_names objects }

abbrev assigning : ℕ → Place → Act Event → List Object → circuits.Process Event
assigning scope p act objects = record { kind = process_kind.Assign; run = arm_runs scope p unwritten act; drives = some_names objects }

abbrev covering : Act Event → List Object → circuits.Process Event
covering act objects = record { kind = process_kind.Cover; run = act; drives = some_names objects }

abbrev covers_at : ℕ → Place → Meaning → Act Event
covers_at scope p m = λ s. if holds m s then enters scope p covered s else unchanged s

module _ (vars : List FlatVar) where
  of_body : (kind : ProcessKind) {env : Environment} (p : Place) {st : Stmt} {fl : FlatStmt} → IsFlatStmt vars env st fl
      → entering kind env.scope p (flat_statements.does vars env.scope fl) (flat_statements.targets vars fl)
      ≡ entering kind env.scope p (statements.does st env) (drives.targets st env)
  of_body kind {env} p d = ap₂ (entering kind env.scope p) (sym (same_act vars d)) (sym (same_targets vars d))

  no_targets : (p : Place) (a : FlatExpr) → flat_statements.targets vars (cover_stmt p a) ≡ []
  no_targets p a =
      of.of-If-else vars p a (flat_stmt p k.Empty) (flat_stmt p k.Empty)
      ∙ ap₂ (λ (x : List Object) (y : List Object). x ++ y) (of.of-Empty vars p) (of.of-Empty vars p)

  cover_layer : (scope : ℕ) (p word : Place) (a : FlatExpr)
      → circuit.cover_runs vars (flat_process scope word process_kind.Cover (cover_stmt p a)) (out-FlatKind (out-FlatStmt (cover_stmt p a)).what)
      ≡ covers_at scope word (flat_expressions.meaning vars a)
  cover_layer scope p word a =
      let q : FlatProcess = flat_process scope word process_kind.Cover (cover_stmt p a) in
      let what : FlatKind = k.If a (flat_stmt p k.Empty) (Some (flat_stmt p k.Empty)) in
      ap (λ x. circuit.cover_runs vars q (out-FlatKind x.what)) (out-roll-FlatStmt (record { place = p; what = what }))
      ∙ ap (circuit.cover_runs vars q) (k.outs-If a (flat_stmt p k.Empty) (Some (flat_stmt p k.Empty)))

  pub same_process : {p : Process} {q : FlatProcess} → IsFlatProcess vars p q → circuit.process_of vars q ≡ meaning_of_process p
  same_process (initially_flat {p = p} d) = of_body process_kind.Initial p d
  same_process (always_flat {clock = Some c} {p = p} d) = of_body process_kind.Clocked p d
  same_process (always_flat {clock = None} {p = p} d) = of_body process_kind.Comb p d
  same_process (assigns_flat {target_env} {env} {p} {target} {e} {a} {b} d f) =
      ap₂ (assigning env.scope p)
      (did.of-Set vars env.scope p a b ∙ ap₂ sets (sym (same_meaning vars d)) (sym (same_meaning vars f)))
      (of.of-Set vars p a b ∙ ap (λ (m : Meaning). m.objects) (sym (same_meaning vars d)))
  same_process (covers_flat {env} {p} {word} {label} {test} {a} d) =
      ap₂ covering (cover_layer env.scope p word a ∙ ap (covers_at env.scope word) (sym (same_meaning vars d))) (no_targets p a)

  pub same_processes : (ps : List Process) (qs : List FlatProcess) → AllZip (IsFlatProcess vars) ps qs
      → map (circuit.process_of vars) qs ≡ map meaning_of_process ps
  same_processes [] [] a = refl
  same_processes [] (q ∷ qs) a = absurd a
  same_processes (p ∷ ps) [] a = absurd a
  same_processes (p ∷ ps) (q ∷ qs) a =
      ap₂ (λ (x : circuits.Process Event) (xs : List (circuits.Process Event)). x ∷ xs) (same_process a.0) (same_processes ps qs a.1)
