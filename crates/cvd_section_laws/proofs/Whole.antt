-- No design's spelling is the front of another's.
use Rattle.std.proofs.Common.{◌≡◌, ℕ, Bool, true, List, [], ◌∷◌, ◌++◌, map, refl, ◌∙◌, ap}
use Rattle.std.specs.Prelude.{codes, nat_le}
use Rattle.cov_types.specs.declared.var.Var.{Var}
use Rattle.design_tree.specs.declared.design.Input.{Input}
use Rattle.design_tree.specs.declared.design.Process.{Process}
use Rattle.design_tree.specs.declared.instrumented.Instrumented.{Instrumented}
use Rattle.design_tree.specs.declared.instrumented.PointRow.{PointRow}
use Rattle.design_tree.specs.declared.instrumented.ToggleEntry.{ToggleEntry}
use Rattle.cvd_text.specs.Lines.{Load, Line, no_load, stands}
use Rattle.cvd_text.specs.Pieces.{Mark, token, line_end, fits, marks_of, design_marks}
use Rattle.cvd_text.specs.Sections.{heading, var_lines, input_lines, output_lines, processes_lines, toggle_lines, point_lines}
use Rattle.cvd_text.specs.Spelling.{first_line, last_line, most_counters}
use Rattle.spelling_laws.specs.Spelled.{Apart}
use Rattle.spelling_laws.proofs.One as single
use Rattle.spelling_laws.proofs.Then as after
use Rattle.cvd_step_laws.specs.LineMarks.{load_behind, with_vars}
use Rattle.cvd_step_laws.proofs.LineMarks.{marks_plain, marks_join}
use Rattle.cvd_section_laws.proofs.Rows.{head_marks, heading_tokens, apart_head_marks}
use Rattle.cvd_section_laws.proofs.Sections.{with_inputs, with_outputs, with_processes, apart_vars, apart_inputs, apart_outputs, apart_processes, apart_toggles}
use Rattle.cvd_section_laws.proofs.Sections.{apart_points}

-- ---- from the last section to the first: its lines behind a load, and what comes behind them

module _ {A B : Type 0} (lines : A → List Line) (more : A → Load → B → List Mark) where
  abbrev pub section_then : Load → (a : A) × B → List Mark
  section_then load p = marks_of load (lines p.0) ++ more p.0 (load_behind load (lines p.0)) p.1

  pub apart_then : (load : Load) → Apart fits (λ a. marks_of load (lines a)) → ((a : A) (load : Load) → Apart fits (more a load))
      → Apart fits (section_then load)
  apart_then load first second p =
      after.apart_pair fits A (λ a. B) (λ a. marks_of load (lines a)) (λ a. more a (load_behind load (lines a))) p.0 p.1 (first p.0)
      (second p.0 (load_behind load (lines p.0)) p.1)

  pub alike_then : (load : Load) (a : A) (ls : List Line) (b : B) → ((load : Load) → marks_of load ls ≡ more a load b)
      → marks_of load (lines a ++ ls) ≡ section_then load (a, b)
  alike_then load a ls b e = marks_join load (lines a) ls ∙ ap (λ z. marks_of load (lines a) ++ z) (e (load_behind load (lines a)))

abbrev pub Last : Type 0
Last = Unit {0}

abbrev pub last_marks : Load → Last → List Mark
last_marks load u = marks_of load (last_line ∷ [])

abbrev pub Points : Type 0
Points = (points : List PointRow) × Last

abbrev pub points_on : ℕ → Load → Points → List Mark
points_on counters = section_then (point_lines counters) (λ points. last_marks)

abbrev pub Toggles : Type 0
Toggles = (toggles : List ToggleEntry) × Points

abbrev pub toggles_on : List Var → ℕ → Load → Toggles → List Mark
toggles_on vars counters = section_then (toggle_lines (with_vars vars) counters) (λ toggles. points_on counters)

abbrev pub Processes : Type 0
Processes = (processes : List Process) × Toggles

abbrev pub processes_on : List Var → ℕ → Load → Processes → List Mark
processes_on vars counters = section_then (λ processes. processes_lines (with_processes vars processes) counters) (λ processes. toggles_on vars counters)

abbrev pub Outputs : Type 0
Outputs = (outputs : List ℕ) × Processes

abbrev pub outputs_on : List Var → ℕ → Load → Outputs → List Mark
outputs_on vars counters = section_then (λ outputs. output_lines (with_outputs vars outputs)) (λ outputs. processes_on vars counters)

abbrev pub Inputs : Type 0
Inputs = (inputs : List Input) × Outputs

abbrev pub inputs_on : List Var → ℕ → Load → Inputs → List Mark
inputs_on vars counters = section_then (λ inputs. input_lines (with_inputs vars inputs)) (λ inputs. outputs_on vars counters)

abbrev pub Variables : Type 0
Variables = (vars : List Var) × Inputs

abbrev pub variables_on : ℕ → Load → Variables → List Mark
variables_on counters = section_then var_lines (λ vars. inputs_on vars counters)

-- whether there are no more counters than there may be
abbrev pub counters_stand : ℕ → Bool
counters_stand n = stands no_load (heading (codes "counters") n (nat_le n most_counters))

abbrev pub Counters : Type 0
Counters = (counters : ℕ) × Variables

abbrev pub counters_on : Counters → List Mark
counters_on p = head_marks (codes "counters") counters_stand p.0 ++ variables_on p.0 no_load p.1

-- the first line and all that comes behind it
abbrev pub Whole : Type 0
Whole = (first : Unit {0}) × Counters

abbrev pub first_marks : Unit {0} → List Mark
first_marks u = marks_of no_load (first_line ∷ [])

abbrev pub whole_marks : Whole → List Mark
whole_marks p = first_marks p.0 ++ counters_on p.1

-- ---- designs

abbrev pub made_design : Whole → Instrumented
made_design p = record {
  design = record { vars = p.1.1.0; inputs = p.1.1.1.0; outputs = p.1.1.1.1.0; processes = p.1.1.1.1.1.0 };
  counters = p.1.0;
  toggles = p.1.1.1.1.1.1.0;
  points = p.1.1.1.1.1.1.1.0;
}

abbrev pub parts_of_design : Instrumented → Whole
parts_of_design x =
    (tt, (x.counters, (x.design.vars, (x.design.inputs, (x.design.outputs, (x.design.processes, (x.toggles, (x.points, tt))))))))

pub design_there : (x : Instrumented) → made_design (parts_of_design x) ≡ x
design_there x = refl

pub design_alike : (x : Instrumented) → design_marks x ≡ whole_marks (parts_of_design x)
design_alike x =
    let d = x.design in
    let n = x.counters in
    let head = heading (codes "counters") n (nat_le n most_counters) in
    let points = point_lines n x.points ++ last_line ∷ [] in
    let toggles = toggle_lines d n x.toggles ++ points in
    let processes = processes_lines d n ++ toggles in
    let outputs = output_lines d ++ processes in
    let inputs = input_lines d ++ outputs in
    let lines = var_lines d.vars ++ inputs in
    marks_plain no_load first_line.tokens true (head ∷ lines)
    ∙ ap (λ z. map token first_line.tokens ++ line_end (stands no_load first_line) ∷ z)
    (marks_plain no_load (heading_tokens (codes "counters") n) (nat_le n most_counters) lines
    ∙ ap (λ z. map token (heading_tokens (codes "counters") n) ++ line_end (stands no_load head) ∷ z)
    (alike_then var_lines (λ vars. inputs_on vars n) no_load d.vars inputs _
    (λ l1. alike_then (λ i. input_lines (with_inputs d.vars i)) (λ i. outputs_on d.vars n) l1 d.inputs outputs _
    (λ l2. alike_then (λ o. output_lines (with_outputs d.vars o)) (λ o. processes_on d.vars n) l2 d.outputs processes _
    (λ l3. alike_then (λ p. processes_lines (with_processes d.vars p) n) (λ p. toggles_on d.vars n) l3 d.processes toggles _
    (λ l4. alike_then (toggle_lines (with_vars d.vars) n) (λ t. points_on n) l4 x.toggles points _
    (λ l5. alike_then (point_lines n) (λ p. last_marks) l5 x.points (last_line ∷ []) tt (λ l6. refl))))))))

pub design_alike_to : (p : Whole) → design_marks (made_design p) ≡ whole_marks p
design_alike_to p = design_alike (made_design p)

-- ---- apart

pub points_apart : (counters : ℕ) (load : Load) → Apart fits (points_on counters load)
points_apart n load = apart_then (point_lines n) (λ points. last_marks) load (apart_points load n) (λ points l u v h. refl)

pub toggles_apart : (vars : List Var) (counters : ℕ) (load : Load) → Apart fits (toggles_on vars counters load)
toggles_apart vars n load =
    apart_then (toggle_lines (with_vars vars) n) (λ toggles. points_on n) load (apart_toggles load vars n) (λ toggles l. points_apart n l)

pub processes_apart : (vars : List Var) (counters : ℕ) (load : Load) → Apart fits (processes_on vars counters load)
processes_apart vars n load =
    apart_then (λ processes. processes_lines (with_processes vars processes) n) (λ processes. toggles_on vars n) load (apart_processes load vars n)
    (λ processes l. toggles_apart vars n l)

pub outputs_apart : (vars : List Var) (counters : ℕ) (load : Load) → Apart fits (outputs_on vars counters load)
outputs_apart vars n load =
    apart_then (λ outputs. output_lines (with_outputs vars outputs)) (λ outputs. processes_on vars n) load (apart_outputs load vars)
    (λ outputs l. processes_apart vars n l)

pub inputs_apart : (vars : List Var) (counters : ℕ) (load : Load) → Apart fits (inputs_on vars counters load)
inputs_apart vars n load =
    apart_then (λ inputs. input_lines (with_inputs vars inputs)) (λ inputs. outputs_on vars n) load (apart_inputs load vars)
    (λ inputs l. outputs_apart vars n l)

pub variables_apart : (counters : ℕ) (load : Load) → Apart fits (variables_on counters load)
variables_apart n load = apart_then var_lines (λ vars. inputs_on vars n) load (apart_vars load) (λ vars l. inputs_apart vars n l)

pub counters_apart : Apart fits counters_on
counters_apart p =
    after.apart_pair fits ℕ (λ n. Variables) (head_marks (codes "counters") counters_stand) (λ n. variables_on n no_load) p.0 p.1
    (apart_head_marks (codes "counters") counters_stand p.0) (variables_apart p.0 no_load p.1)

pub apart_design : Apart fits design_marks
apart_design x =
    single.apart_via fits Whole Instrumented made_design parts_of_design design_there whole_marks design_marks design_alike x
    (after.apart_pair fits (Unit {0}) (λ u. Counters) first_marks (λ u. counters_on) tt (parts_of_design x).1 (λ v h. refl)
    (counters_apart (parts_of_design x).1))
