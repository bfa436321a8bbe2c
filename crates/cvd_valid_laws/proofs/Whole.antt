-- All lines of a design stand exactly where the design is valid.
use Rattle.std.proofs.Common.{◌≡◌, ℕ, ◌+◌, ◌*◌, ◌≤◌, true, List, [], ◌∷◌, ◌++◌, map, length, refl, ◌∙◌, ap, arith}
use Rattle.std.specs.Prelude.{◌&&◌, nat_le, flat_map}
use Rattle.std.specs.List.{AllByRecursion}
use Rattle.std.proofs.lemmas.List.{map-append}
use Rattle.cov_types.specs.declared.var.Var.{Var}
use Rattle.circuit_run.specs.Lists.{total}
use Rattle.design_tree.specs.declared.design.Design.{Design}
use Rattle.design_tree.specs.declared.design.Process.{Process}
use Rattle.design_tree.specs.declared.instrumented.Instrumented.{Instrumented}
use Rattle.design_meaning.proofs.Listed.{by_recursion, by_index}
use Rattle.design_meaning.specs.Mentions.{mentions_of, mentions, mention_nodes, mention_length, mention_depth}
use Rattle.design_meaning.specs.Sizes.{steps_in, block_depth}
use Rattle.design_meaning.specs.Valid.{IsValid, state_bits, all_nodes, edge_length, all_steps}
use Rattle.design_meaning.specs.ValidProcesses.{IsProcess}
use Rattle.design_meaning.specs.ValidVariables.{IsVariable}
use Rattle.cvd_text.specs.Lines.{Load, Line, no_load, added}
use Rattle.cvd_text.specs.Sections.{var_line, var_lines, input_line, input_lines, output_line, output_lines, process_lines, processes_lines, toggle_line}
use Rattle.cvd_text.specs.Sections.{toggle_lines, point_line, point_lines, lines_behind}
use Rattle.cvd_text.specs.Spelling.{last_line, most_counters, design_lines, AllStand}
use Rattle.spelling_laws.proofs.Fitting.{first_true, second_true, both_true}
use Rattle.cvd_step_laws.specs.LineMarks.{load_behind}
use Rattle.cvd_valid_laws.proofs.Ascending.{all_map, rows_add}
use Rattle.cvd_valid_laws.proofs.Entries.{outputs_told, outputs_stand, toggles_told, toggles_stand, points_told, points_stand}
use Rattle.cvd_valid_laws.proofs.Inputs.{heads, inputs_told, inputs_stand, head_stands}
use Rattle.cvd_valid_laws.proofs.Measures.{bits_of_process, steps_of_process, nodes_of_process, shown_of_process}
use Rattle.cvd_valid_laws.proofs.Processes.{FineProcess, process_told, process_stands}
use Rattle.cvd_valid_laws.proofs.Standing.{holds_all, holds_join, holds_front, holds_back, few_of, sum_of, behind_sum, sum_join, total_join, stands_all}
use Rattle.cvd_valid_laws.proofs.Standing.{within_all, all_of_them, le_of, of_le}
use Rattle.cvd_valid_laws.proofs.Things.{vars_told, vars_stand}

-- ---- processes, one behind the other

module _ (d : Design) (counters : ℕ) where
  all_told : (ps : List Process) → holds_all (flat_map (process_lines d counters) ps) ≡ true → AllByRecursion (FineProcess d counters) ps
  all_told [] e = tt
  all_told (p ∷ ps) e =
      let here = process_lines d counters p in
      let more = flat_map (process_lines d counters) ps in
      (process_told d counters p (holds_front here more e), all_told ps (holds_back here more e))

  all_stand_there : (ps : List Process) → AllByRecursion (FineProcess d counters) ps → holds_all (flat_map (process_lines d counters) ps) ≡ true
  all_stand_there [] h = refl
  all_stand_there (p ∷ ps) h =
      holds_join (process_lines d counters p) (flat_map (process_lines d counters) ps) (process_stands d counters p h.0) (all_stand_there ps h.1)

  -- what their lines add up to
  all_add : (f : Load → ℕ) (measure : Process → ℕ) → ((p : Process) → sum_of f (process_lines d counters p) ≡ measure p) → (ps : List Process)
      → sum_of f (flat_map (process_lines d counters) ps) ≡ total (map measure ps)
  all_add f measure each [] = refl
  all_add f measure each (p ∷ ps) =
      let a = sum_join f (process_lines d counters p) (flat_map (process_lines d counters) ps) in
      let b = each p in
      let c = all_add f measure each ps in
      omega arith

-- a sum over lists one behind the other
flat_total : {X Y : Type 0} (f : Y → ℕ) (g : X → List Y) (xs : List X) → total (map f (flat_map g xs)) ≡ total (map (λ x. total (map f (g x))) xs)
flat_total f g [] = refl
flat_total f g (x ∷ xs) =
    let a = ap total (map-append f (g x) (flat_map g xs)) ∙ total_join (map f (g x)) (map f (flat_map g xs)) in
    let b = flat_total f g xs in
    omega arith

zeros : {X : Type 0} (xs : List X) → total (map (λ (x : X). 0) xs) ≡ 0
zeros [] = refl
zeros (x ∷ xs) = let more = zeros xs in omega arith

flat_all : {X Y : Type 0} (P : Y → Type 0) (g : X → List Y) (xs : List X) → AllByRecursion (λ x. AllByRecursion P (g x)) xs → AllByRecursion P (flat_map g xs)
flat_all P g [] h = tt
flat_all {X} {Y} P g (x ∷ xs) h = joined (g x) h.0 (flat_all P g xs h.1)
  where
    joined : (ys : List Y) → AllByRecursion P ys → AllByRecursion P (flat_map g xs) → AllByRecursion P (ys ++ flat_map g xs)
    joined [] a b = b
    joined (y ∷ ys) a b = (a.0, joined ys a.1 b)

all_flat : {X Y : Type 0} (P : Y → Type 0) (g : X → List Y) (xs : List X) → AllByRecursion P (flat_map g xs) → AllByRecursion (λ x. AllByRecursion P (g x)) xs
all_flat P g [] h = tt
all_flat {X} {Y} P g (x ∷ xs) h = (front (g x) h, all_flat P g xs (back (g x) h))
  where
    front : (ys : List Y) → AllByRecursion P (ys ++ flat_map g xs) → AllByRecursion P ys
    front [] a = tt
    front (y ∷ ys) a = (a.0, front ys a.1)

    back : (ys : List Y) → AllByRecursion P (ys ++ flat_map g xs) → AllByRecursion P (flat_map g xs)
    back [] a = a
    back (y ∷ ys) a = back ys a.1

fine_all : (d : Design) (counters : ℕ) (ps : List Process) → AllByRecursion (IsProcess d counters) ps → AllByRecursion (λ p. block_depth p.body ≤ 700) ps
    → AllByRecursion (λ p. AllByRecursion (λ m. mention_depth m ≤ 2000) (mentions_of p)) ps → AllByRecursion (FineProcess d counters) ps
fine_all d counters [] a b c = tt
fine_all d counters (p ∷ ps) a b c = (record { valid = a.0; blocks = b.0; expressions = c.0 }, fine_all d counters ps a.1 b.1 c.1)

-- ---- the sums of all lines

module _ (x : Instrumented) where
  abbrev d : Design
  d = x.design

  abbrev n : ℕ
  n = x.counters

  abbrev points : List Line
  points = point_lines n x.points ++ last_line ∷ []

  abbrev toggles : List Line
  toggles = toggle_lines d n x.toggles ++ points

  abbrev processes : List Line
  processes = processes_lines d n ++ toggles

  abbrev outputs : List Line
  outputs = output_lines d ++ processes

  abbrev inputs : List Line
  inputs = input_lines d ++ outputs

  module _ (f : Load → ℕ) (f_added : (a b : Load) → f (added a b) ≡ f a + f b) (none : f no_load ≡ 0) (of_var : Var → ℕ)
      (vars_say : (v : Var) → f (var_line v).load ≡ of_var v) (of_process : Process → ℕ)
      (processes_say : (p : Process) → sum_of f (process_lines d n p) ≡ of_process p) where
    vars_add : (vars : List Var) → sum_of f (map var_line vars) ≡ total (map of_var vars)
    vars_add [] = refl
    vars_add (v ∷ vars) = let a = vars_say v in let b = vars_add vars in omega arith

    -- variables and processes alone add something
    pub whole_sum : f (load_behind no_load (design_lines x)) ≡ total (map of_var d.vars) + total (map of_process d.processes)
    whole_sum =
        let s = behind_sum f f_added no_load (design_lines x) in
        let v = vars_add d.vars in
        let i = rows_add (input_line d (length d.inputs)) f (λ before y. none) [] d.inputs in
        let o = rows_add (output_line d) f (λ before y. none) [] d.outputs in
        let p = all_add d n f of_process processes_say d.processes in
        let t = rows_add (toggle_line d n) f (λ before y. none) [] x.toggles in
        let q = rows_add (point_line n) f (λ before y. none) [] x.points in
        let j1 = sum_join f (point_lines n x.points) (last_line ∷ []) in
        let j2 = sum_join f (toggle_lines d n x.toggles) points in
        let j3 = sum_join f (processes_lines d n) toggles in
        let j4 = sum_join f (output_lines d) processes in
        let j5 = sum_join f (input_lines d) outputs in
        let j6 = sum_join f (var_lines d.vars) inputs in
        omega (arith, none)

  pub bits_are : (load_behind no_load (design_lines x)).bits ≡ state_bits d
  bits_are =
      whole_sum (λ s. s.bits) (λ a b. refl) refl (λ v. v.width * v.words) (λ v. refl) (λ p. 0) (bits_of_process d n)
      ∙ (let z = zeros d.processes in omega arith)

  pub steps_are : (load_behind no_load (design_lines x)).steps ≡ all_steps d
  steps_are =
      whole_sum (λ s. s.steps) (λ a b. refl) refl (λ v. 0) (λ v. refl) (λ p. total (map steps_in p.body)) (steps_of_process d n)
      ∙ (let z = zeros d.vars in let e = flat_total steps_in (λ (p : Process). p.body) d.processes in omega arith)

  pub nodes_are : (load_behind no_load (design_lines x)).nodes ≡ all_nodes d
  nodes_are =
      whole_sum (λ s. s.nodes) (λ a b. refl) refl (λ v. 0) (λ v. refl) (λ p. total (map mention_nodes (mentions_of p))) (nodes_of_process d n)
      ∙ (let z = zeros d.vars in let e = flat_total mention_nodes mentions_of d.processes in omega arith)

  pub shown_are : (load_behind no_load (design_lines x)).shown ≡ edge_length d
  shown_are =
      whole_sum (λ s. s.shown) (λ a b. refl) refl (λ v. 0) (λ v. refl) (λ p. total (map (mention_length d) (mentions_of p))) (shown_of_process d n)
      ∙ (let z = zeros d.vars in let e = flat_total (mention_length d) mentions_of d.processes in omega arith)

  -- ---- both directions

  pub valid_where_stands : AllStand x → IsValid x
  valid_where_stands e =
      let few = few_of (load_behind no_load (design_lines x)) (within_all no_load (design_lines x) refl e) in
      let vs = var_lines d.vars ++ inputs in
      let h : (nat_le n most_counters && holds_all vs)
      ≡ true = second_true true (nat_le n most_counters && holds_all vs) (stands_all no_load (design_lines x) e) in
      let h1 = second_true (nat_le n most_counters) (holds_all vs) h in
      let v = second_true true (holds_all (map var_line d.vars)) (holds_front (var_lines d.vars) inputs h1) in
      let h2 = holds_back (var_lines d.vars) inputs h1 in
      let i = holds_front (input_lines d) outputs h2 in
      let h3 = holds_back (input_lines d) outputs h2 in
      let o = second_true true (holds_all (lines_behind (output_line d) [] d.outputs)) (holds_front (output_lines d) processes h3) in
      let h4 = holds_back (output_lines d) processes h3 in
      let p = holds_front (processes_lines d n) toggles h4 in
      let h5 = holds_back (processes_lines d n) toggles h4 in
      let t = second_true true (holds_all (lines_behind (toggle_line d n) [] x.toggles)) (holds_front (toggle_lines d n x.toggles) points h5) in
      let h6 = holds_back (toggle_lines d n x.toggles) points h5 in
      let q = holds_front (point_lines n x.points) (last_line ∷ []) h6 in
      let fine = all_told d n d.processes (second_true (nat_le (length d.processes) 65536) (holds_all (flat_map (process_lines d n) d.processes)) p) in
      let b = bits_are in
      let s = steps_are in
      let m = nodes_are in
      let l = shown_are in
      record {
        variables = by_index IsVariable d.vars (vars_told d.vars v);
        inputs = inputs_told d (first_true (heads d) (holds_all (lines_behind (input_line d (length d.inputs)) [] d.inputs)) i)
            (second_true (heads d) (holds_all (lines_behind (input_line d (length d.inputs)) [] d.inputs)) i);
        outputs = outputs_told d o;
        processes = by_index (IsProcess d n) d.processes (all_map (FineProcess d n) (IsProcess d n) d.processes (λ p f. f.valid) fine);
        toggles = toggles_told x t;
        points = points_told x (second_true (nat_le (length x.points) 1048576) (holds_all (lines_behind (point_line n) [] x.points)) q);
        limits = record {
          bits = omega (arith, few.bits);
          processes = le_of (length d.processes) 65536
              (first_true (nat_le (length d.processes) 65536) (holds_all (flat_map (process_lines d n) d.processes)) p);
          steps = omega (arith, few.steps);
          nodes = omega (arith, few.nodes);
          printed = omega (arith, few.shown);
          counters = le_of n 4194304 (first_true (nat_le n most_counters) (holds_all vs) h);
          points = le_of (length x.points) 1048576
              (first_true (nat_le (length x.points) 1048576) (holds_all (lines_behind (point_line n) [] x.points)) q);
          blocks = by_index (λ p. block_depth p.body ≤ 700) d.processes
              (all_map (FineProcess d n) (λ p. block_depth p.body ≤ 700) d.processes (λ p f. f.blocks) fine);
          expressions = by_index (λ m. mention_depth m ≤ 2000) (mentions d) (flat_all (λ m. mention_depth m ≤ 2000) mentions_of d.processes
              (all_map (FineProcess d n) (λ p. AllByRecursion (λ m. mention_depth m ≤ 2000) (mentions_of p)) d.processes (λ p f. f.expressions) fine));
        };
      }

  pub stands_where_valid : IsValid x → AllStand x
  stands_where_valid h =
      let fine = fine_all d n d.processes (by_recursion (IsProcess d n) d.processes h.processes)
      (by_recursion (λ p. block_depth p.body ≤ 700) d.processes h.limits.blocks)
      (all_flat (λ m. mention_depth m ≤ 2000) mentions_of d.processes (by_recursion (λ m. mention_depth m ≤ 2000) (mentions d) h.limits.expressions)) in
      let q = both_true (nat_le (length x.points) 1048576) (holds_all (lines_behind (point_line n) [] x.points))
      (of_le (length x.points) 1048576 h.limits.points) (points_stand x h.points) in
      let p = both_true (nat_le (length d.processes) 65536) (holds_all (flat_map (process_lines d n) d.processes))
      (of_le (length d.processes) 65536 h.limits.processes) (all_stand_there d n d.processes fine) in
      let i = both_true (heads d) (holds_all (lines_behind (input_line d (length d.inputs)) [] d.inputs)) (head_stands d h.inputs) (inputs_stand d h.inputs) in
      let rest : holds_all (var_lines d.vars ++ inputs) ≡ true
      = holds_join (var_lines d.vars) inputs (vars_stand d.vars (by_recursion IsVariable d.vars h.variables))
      (holds_join (input_lines d) outputs i
      (holds_join (output_lines d) processes (outputs_stand d h.outputs)
      (holds_join (processes_lines d n) toggles p
      (holds_join (toggle_lines d n x.toggles) points (toggles_stand x h.toggles)
      (holds_join (point_lines n x.points) (last_line ∷ []) q refl))))) in
      let b = bits_are in
      let s = steps_are in
      let m = nodes_are in
      let l = shown_are in
      all_of_them no_load (design_lines x)
      (both_true (nat_le n most_counters) (holds_all (var_lines d.vars ++ inputs)) (of_le n 4194304 h.limits.counters) rest)
      (record {
        bits = omega (arith, h.limits.bits);
        steps = omega (arith, h.limits.steps);
        nodes = omega (arith, h.limits.nodes);
        shown = omega (arith, h.limits.printed);
      })
