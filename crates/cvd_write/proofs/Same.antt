-- The text that is written is the design's spelling.
use Rattle.std.specs.Prelude.{◌≡◌, ℕ, ◌==◌, ◌||◌, true, nat_le, nat_lt, List, [], ◌∷◌, ◌++◌, codes, map, flat_map, length, refl, Result, Ok, Err, IfOk, IfErr}
use Rattle.std.proofs.Common.{sym, ap, subst, ◌∙◌, append_assoc}
use Rattle.std.proofs.lemmas.List.{append-nil}
use Rattle.cov_types.specs.declared.var.Var.{Var}
use Rattle.design_tree.specs.declared.design.Design.{Design}
use Rattle.design_tree.specs.declared.design.Process.{Process}
use Rattle.design_tree.specs.declared.instrumented.Instrumented.{Instrumented}
use Rattle.design_tree.specs.declared.instrumented.PointRow.{PointRow}
use Rattle.design_tree.specs.declared.instrumented.ToggleEntry.{ToggleEntry}
use Rattle.cvd_text.specs.Tokens.{word, number, hex, counters, words_of, counters_text}
use Rattle.cvd_text.specs.Lines.{Line, line_text, lines_text}
use Rattle.cov_types.specs.Limits.{most}
use Rattle.cov_types.specs.declared.limit.LimitName.TheVariants as limit
use Rattle.cvd_text.specs.Sections.{heading, input_numbers, lines_behind, var_line, var_lines, kind_word, input_line, input_lines, output_line, output_lines}
use Rattle.cvd_text.specs.Sections.{process_word, process_lines, processes_lines, toggle_line, toggle_lines, point_line, point_lines}
use Rattle.cvd_text.specs.Spelling.{spelling, Cvd, last_line, most_counters}
use Rattle.design_meaning.specs.Valid.{IsValid}
use Rattle.cvd_write.specs.declared.fault.WriteFault.{WriteFault}
use Rattle.cvd_write.specs.Writing.{Refuses, row, heading_row, section, var_row, input_row, output_row, process_text, toggle_row, point_row, design_text}
use Rattle.cvd_write.proofs.Lines.{a_line, lines_joined, key_spaced}
use Rattle.cvd_write.proofs.StepLines.{body_same}

-- lines of a list, each by those before
behind_same : {X : Type 0} (f : List X → X → Line) (text : X → List ℕ) → ((before : List X) (x : X) → line_text (f before x) ≡ text x)
    → (before xs : List X) → lines_text (lines_behind f before xs) ≡ flat_map text xs
behind_same f text same before [] = refl
behind_same f text same before (x ∷ xs) =
    ap (λ l. l ++ lines_text (lines_behind f (before ++ x ∷ []) xs)) (same before x) ∙ ap (λ l. text x ++ l) (behind_same f text same (before ++ x ∷ []) xs)

-- a section
section_same : {X : Type 0} (name : List ℕ) (text : X → List ℕ) (xs : List X) (l : Line) (ls : List Line) → l.tokens ≡ word name ∷ number (length xs) ∷ []
    → lines_text ls ≡ flat_map text xs → lines_text (l ∷ ls) ≡ section name text xs
section_same name text xs l ls e f =
    ap (λ t. t ++ lines_text ls) (a_line (word name) (number (length xs) ∷ []) l e) ∙ ap (λ t. heading_row name (length xs) ++ t) f

vars_same : (vars : List Var) → lines_text (var_lines vars) ≡ section (codes "vars") var_row vars
vars_same vars = section_same (codes "vars") var_row vars (heading (codes "vars") (length vars) true) (map var_line vars) refl (each vars)
  where
    each : (vs : List Var) → lines_text (map var_line vs) ≡ flat_map var_row vs
    each [] = refl
    each (v ∷ vs) =
        ap (λ l. l ++ lines_text (map var_line vs)) (a_line (number v.width) (number v.words ∷ hex v.start ∷ word (kind_word v.kind) ∷ []) (var_line v) refl)
        ∙ ap (λ l. var_row v ++ l) (each vs)

inputs_same : (d : Design) → lines_text (input_lines d) ≡ section (codes "inputs") input_row d.inputs
inputs_same d = section_same (codes "inputs") input_row d.inputs
    (heading (codes "inputs") (length d.inputs) (nat_lt 0 (length d.inputs) || length (input_numbers d.vars) == 0))
    (lines_behind (input_line d (length d.inputs)) [] d.inputs) refl
    (behind_same (input_line d (length d.inputs)) input_row
    (λ before i. a_line (number i.var) (word i.name ∷ []) (input_line d (length d.inputs) before i) refl) [] d.inputs)

outputs_same : (d : Design) → lines_text (output_lines d) ≡ section (codes "outputs") output_row d.outputs
outputs_same d = section_same (codes "outputs") output_row d.outputs (heading (codes "outputs") (length d.outputs) true)
    (lines_behind (output_line d) [] d.outputs) refl
    (behind_same (output_line d) output_row (λ before v. a_line (number v) [] (output_line d before v) refl) [] d.outputs)

processes_same : (d : Design) (n : ℕ) → lines_text (processes_lines d n) ≡ section (codes "processes") process_text d.processes
processes_same d n = section_same (codes "processes") process_text d.processes
    (heading (codes "processes") (length d.processes) (nat_le (length d.processes) (most limit.Processes))) (flat_map (process_lines d n) d.processes) refl
    (each d.processes)
  where
    one : (p : Process) → lines_text (process_lines d n p) ≡ process_text p
    one p = ap (λ l. row (process_word p.kind) [] ++ l) (body_same (record { design = d; counters = n; kind = p.kind }) p.body 1)

    each : (ps : List Process) → lines_text (flat_map (process_lines d n) ps) ≡ flat_map process_text ps
    each [] = refl
    each (p ∷ ps) =
        lines_joined (process_lines d n p) (flat_map (process_lines d n) ps) ∙ ap (λ l. l ++ lines_text (flat_map (process_lines d n) ps)) (one p)
        ∙ ap (λ l. process_text p ++ l) (each ps)

toggles_same : (d : Design) (n : ℕ) (ts : List ToggleEntry) → lines_text (toggle_lines d n ts) ≡ section (codes "toggles") toggle_row ts
toggles_same d n ts = section_same (codes "toggles") toggle_row ts (heading (codes "toggles") (length ts) true) (lines_behind (toggle_line d n) [] ts) refl
    (behind_same (toggle_line d n) toggle_row
    (λ before t. a_line (number t.var) (number t.word ∷ number t.bit ∷ number t.counter ∷ []) (toggle_line d n before t) refl) [] ts)

points_same : (n : ℕ) (ps : List PointRow) → lines_text (point_lines n ps) ≡ section (codes "points") point_row ps
points_same n ps = section_same (codes "points") point_row ps (heading (codes "points") (length ps) (nat_le (length ps) (most limit.Points)))
    (lines_behind (point_line n) [] ps) refl (behind_same (point_line n) point_row one [] ps)
  where
    one : (before : List PointRow) (r : PointRow) → line_text (point_line n before r) ≡ point_row r
    one before r =
        a_line (counters r.plus) (counters r.minus ∷ words_of r.key) (point_line n before r) refl
        ∙ ap (λ l. counters_text r.plus ++ ((32 ∷ counters_text r.minus ++ l) ++ 10 ∷ [])) (key_spaced r.key ∙ ap (λ l. 32 ∷ l) (sym (append-nil r.key)))

-- a section and what stands behind it
onto : (ls ms : List Line) (text more : List ℕ) → lines_text ls ≡ text → lines_text ms ≡ more → lines_text (ls ++ ms) ≡ text ++ more
onto ls ms text more e f = lines_joined ls ms ∙ ap (λ l. l ++ lines_text ms) e ∙ ap (λ l. text ++ l) f

grouped : (a b c d e f g h : List ℕ) → a ++ (b ++ (c ++ (d ++ (e ++ (f ++ (g ++ h)))))) ≡ (a ++ (b ++ (c ++ d))) ++ (e ++ (f ++ (g ++ h)))
grouped a b c d e f g h = simp append_assoc

pub text_same : (x : Instrumented) → design_text x ≡ spelling x
text_same x =
    let d = x.design in
    let end = codes "end\n" in
    let vars = section (codes "vars") var_row d.vars in
    let inputs = section (codes "inputs") input_row d.inputs in
    let outputs = section (codes "outputs") output_row d.outputs in
    let processes = section (codes "processes") process_text d.processes in
    let toggles = section (codes "toggles") toggle_row x.toggles in
    let points = section (codes "points") point_row x.points in
    let head = heading (codes "counters") x.counters (nat_le x.counters most_counters) in
    let first = append-nil (line_text head) ∙ a_line (word (codes "counters")) (number x.counters ∷ []) head refl in
    let from_points = point_lines x.counters x.points ++ last_line ∷ [] in
    let from_toggles = toggle_lines x.design x.counters x.toggles ++ from_points in
    let from_processes = processes_lines d x.counters ++ from_toggles in
    let from_outputs = output_lines d ++ from_processes in
    let from_inputs = input_lines d ++ from_outputs in
    let from_vars = var_lines d.vars ++ from_inputs in
    let all =
    onto (head ∷ []) from_vars (heading_row (codes "counters") x.counters) _ first
    (onto (var_lines d.vars) from_inputs vars _ (vars_same d.vars)
    (onto (input_lines d) from_outputs inputs _ (inputs_same d)
    (onto (output_lines d) from_processes outputs _ (outputs_same d)
    (onto (processes_lines d x.counters) from_toggles processes _ (processes_same d x.counters)
    (onto (toggle_lines d x.counters x.toggles) from_points toggles _ (toggles_same d x.counters x.toggles)
    (onto (point_lines x.counters x.points) (last_line ∷ []) points end (points_same x.counters x.points) refl)))))) in
    sym (ap (λ l. codes "CVD 1\n" ++ l) (all ∙ grouped (heading_row (codes "counters") x.counters) vars inputs outputs processes toggles points end))

-- what is written of a valid design is its text; what is refused is too long
pub spells : (x : Instrumented) (result : Result (List ℕ) WriteFault) → IsValid x → IfOk result (λ text. text ≡ design_text x)
    → IfOk result (λ text. Cvd x text)
spells x (Ok text) valid h = record { valid = valid; spelled = h ∙ text_same x }
spells x (Err fault) valid h = h

pub refuses : (x : Instrumented) (result : Result (List ℕ) WriteFault) → IfErr result (λ fault. Refuses fault (design_text x))
    → IfErr result (λ fault. Refuses fault (spelling x))
refuses x (Ok text) h = h
refuses x (Err fault) h = subst (λ text. Refuses fault text) (text_same x) h
