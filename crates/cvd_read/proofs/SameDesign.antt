-- A design is the same where its parts are.
use Rattle.std.proofs.Common.{◌≡◌, ℕ, List, ◌∙◌, ap}
use Rattle.cov_types.specs.declared.var.Var.{Var}
use Rattle.design_tree.specs.declared.design.Input.{Input}
use Rattle.design_tree.specs.declared.design.Process.{Process}
use Rattle.design_tree.specs.declared.instrumented.Instrumented.{Instrumented}
use Rattle.design_tree.specs.declared.instrumented.PointRow.{PointRow}
use Rattle.design_tree.specs.declared.instrumented.ToggleEntry.{ToggleEntry}
use Rattle.cvd_section_laws.proofs.Whole.{Inputs, made_design}
use Rattle.cvd_read.specs.Held.{HoldsOutside}
use Rattle.cvd_read.specs.declared.ports.Outside.{Outside}

abbrev pub design_by : List Var → ℕ → List Input → List ℕ → List Process → List ToggleEntry → List PointRow → Instrumented
design_by vars n inputs outputs processes toggles points = record {
  design = record { vars = vars; inputs = inputs; outputs = outputs; processes = processes };
  counters = n;
  toggles = toggles;
  points = points;
}

pub same_design : (vars : List Var) (n : ℕ) (o : Outside) (p : Inputs) → HoldsOutside p o
    → design_by vars n o.inputs o.inside.outputs o.inside.behaviour.processes o.inside.behaviour.entries.toggles o.inside.behaviour.entries.points
    ≡ made_design (tt, (n, (vars, p)))
same_design vars n o p h =
    let i = o.inside in
    let b = i.behaviour in
    let e = b.entries in
    let hi = h.inside in
    let hb = hi.behaviour in
    let he = hb.entries in
    ap (λ x. design_by vars n x i.outputs b.processes e.toggles e.points) h.inputs
    ∙ ap (λ x. design_by vars n p.0 x b.processes e.toggles e.points) hi.outputs
    ∙ ap (λ x. design_by vars n p.0 p.1.0 x e.toggles e.points) hb.processes
    ∙ ap (λ x. design_by vars n p.0 p.1.0 p.1.1.0 x e.points) he.toggles
    ∙ ap (λ x. design_by vars n p.0 p.1.0 p.1.1.0 p.1.1.1.0 x) he.points
