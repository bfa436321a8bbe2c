-- The typed form of a flat source (this project's own): a design with its variables and, one by one, its processes.
use Rattle.std.specs.Prelude.{◌≡◌, ℕ, List, [], ◌∷◌, ◌++◌, map, Option}
use Rattle.cov_types.specs.declared.place.Place.{Place}
use Rattle.cov_types.specs.declared.kind.ProcessKind.TheVariants as process_kind
use Rattle.elab_types.specs.declared.flat_source.FlatVar.{FlatVar}
use Rattle.elab_types.specs.declared.flat_expression.FlatExpr.{FlatExpr}
use Rattle.elab_types.specs.declared.flat_statement.FlatStmt.{FlatStmt}
use Rattle.elab_types.specs.declared.flat_statement.FlatKind.TheVariants as k
use Rattle.elab_types.specs.declared.flat_source.FlatProcess.{FlatProcess}
use Rattle.elab_types.specs.declared.flat_source.FlatSource.{FlatSource}
use Rattle.design_tree.specs.declared.design.Process.{Process}
use Rattle.design_tree.specs.declared.design.Design.{Design}
use Rattle.design_tree.specs.declared.typed.Typed.{Typed}
use Rattle.design_tree.specs.declared.step.Step.{Step}
use Rattle.design_tree.specs.declared.step.Step.TheVariants as s
use Rattle.source_meaning.specs.Events.{Event, Arm, body, covered, unwritten}
use Rattle.flat_meaning.specs.Circuit.{var_of}
use Rattle.design_meaning.specs.Circuit.{input_vars}
use Rattle.typed_form.specs.Nodes.{test}
use Rattle.typed_form.specs.TypedExpressions.{IsTypedAlone}
use Rattle.flat_meaning.specs.FlatTrees.{flat_stmt as stmt}
use Rattle.typed_form.specs.TypedSteps.{AreSteps}

module _ (vars : List FlatVar) (marks : Event → List ℕ) where
  -- the counters of an arm of a process
  abbrev pub counts : FlatProcess → Place → Arm → List Step
  counts p place which = map s.Count (marks (record { scope = p.scope; place = place; arm = which }))

  -- a process of a kind: the counts of its arm and then its steps
  pub data IsTypedProcess : FlatProcess → Process → Type 0 where
    assigns : {scope : ℕ} {place : Place} {st : FlatStmt} {steps : List Step} → AreSteps vars scope marks st steps
        → IsTypedProcess (record { scope = scope; place = place; kind = process_kind.Assign; body = st })
        (record { kind = process_kind.Assign; body = map s.Count (marks (record { scope = scope; place = place; arm = unwritten })) ++ steps })
    combines : {scope : ℕ} {place : Place} {st : FlatStmt} {steps : List Step} → AreSteps vars scope marks st steps
        → IsTypedProcess (record { scope = scope; place = place; kind = process_kind.Comb; body = st })
        (record { kind = process_kind.Comb; body = map s.Count (marks (record { scope = scope; place = place; arm = body })) ++ steps })
    clocks : {scope : ℕ} {place : Place} {st : FlatStmt} {steps : List Step} → AreSteps vars scope marks st steps
        → IsTypedProcess (record { scope = scope; place = place; kind = process_kind.Clocked; body = st })
        (record { kind = process_kind.Clocked; body = map s.Count (marks (record { scope = scope; place = place; arm = body })) ++ steps })
    begins : {scope : ℕ} {place : Place} {st : FlatStmt} {steps : List Step} → AreSteps vars scope marks st steps
        → IsTypedProcess (record { scope = scope; place = place; kind = process_kind.Initial; body = st })
        (record { kind = process_kind.Initial; body = map s.Count (marks (record { scope = scope; place = place; arm = body })) ++ steps })
    -- a cover: one `if` with counts alone
    covers : {scope : ℕ} {place : Place} (q : Place) (on : FlatExpr) (first : FlatStmt) (second : Option FlatStmt) {a : Typed} → IsTypedAlone vars on a
        → IsTypedProcess (record { scope = scope; place = place; kind = process_kind.Cover; body = stmt q (k.If on first second) })
        (record { kind = process_kind.Cover; body = s.If (test a) (map s.Count (marks (record { scope = scope; place = place; arm = covered }))) [] ∷ [] })

  -- processes, one by one
  pub data AreTypedProcesses : List FlatProcess → List Process → Type 0 where
    no_processes : AreTypedProcesses [] []
    more_processes : {p : FlatProcess} {q : Process} {ps : List FlatProcess} {qs : List Process} → IsTypedProcess p q → AreTypedProcesses ps qs
        → AreTypedProcesses (p ∷ ps) (q ∷ qs)

-- A design is the typed form of a source: its variables, inputs and outputs by number, and its processes. With no marks it is
-- the design as it comes from the source.
pub record IsTypedForm (flat : FlatSource) (marks : Event → List ℕ) (d : Design) : Type 0 where
  pub vars : d.vars ≡ map var_of flat.vars
  pub inputs : input_vars d ≡ flat.inputs
  pub outputs : d.outputs ≡ flat.outputs
  pub processes : AreTypedProcesses flat.vars marks flat.processes d.processes
