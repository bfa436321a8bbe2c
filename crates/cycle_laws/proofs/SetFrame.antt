-- A process leaves each bit alone whose variable it doesn't assign at once.
use Rattle.std.proofs.Common.{◌≡◌, ◌∙◌, sym, ap, refl, ℕ, Bool, true, false, ◌||◌, ◌&&◌, List, [], ◌∷◌, ◌++◌, map}
use Rattle.std.specs.Prelude.{pos, if◌then◌else◌, ◌==◌}
use Rattle.std.specs.List.{list_any, AllByRecursion}
use Rattle.bit_values.specs.Values as value
use Rattle.design_tree.specs.declared.typed.Typed.{Typed}
use Rattle.design_tree.specs.declared.step.Target.{Target}
use Rattle.design_tree.specs.declared.step.Target.TheVariants as target
use Rattle.design_tree.specs.declared.step.StepArm.{StepArm}
use Rattle.design_tree.specs.declared.step.Step.{Step}
use Rattle.design_tree.specs.declared.step.Step.TheVariants as step
use Rattle.design_tree.specs.declared.design.Design.{Design}
use Rattle.circuit_run.specs.States.{State, Bit, bit}
use Rattle.design_meaning.specs.States.{IsBitOf, IsStateOf}
use Rattle.design_meaning.specs.Values.{value_in}
use Rattle.circuit_run.specs.Writes.{Part, written, all_written}
use Rattle.design_meaning.specs.Writes.{part_at, parts_at, target_width, target_widths}
use Rattle.circuit_run.specs.Outcomes.{in_turn}
use Rattle.design_meaning.specs.Steps.{is_match, does, all_do}
use Rattle.design_meaning.specs.Spans.{Span, reads_of}
use Rattle.design_meaning.specs.Targets.{var_named}
use Rattle.design_meaning.specs.Paths.{reads, sets, Path, ArmPaths, step_paths, arm_paths, paths_of_step, paths, assign_reads}
use Rattle.design_meaning.specs.Processes.{process_of}
use Rattle.design_meaning.specs.Reach.{event_sets}
use Rattle.design_meaning.specs.RunLaws.{has_bit}
use Rattle.design_meaning.proofs.StepFolds as steps
use Rattle.design_meaning.proofs.Equations as equation
use Rattle.design_meaning.proofs.ListLaws.{any_map, any_append}
use Rattle.design_meaning.proofs.PathLaws.{any_choice}
use Rattle.design_meaning.proofs.HasPath.{all_have, every}
use Rattle.design_meaning.proofs.PartBits.{parts_leave_others}
use Rattle.design_meaning.proofs.StateKeeps.{written_keeps}
use Rattle.design_meaning.proofs.StepInduction.{ArmHas, step_induction}
use Rattle.design_meaning.proofs.SimBranches.{behind}
use Rattle.design_meaning.proofs.SimCases.{sim, case_paths, case_does, chosen_steps, bodies, arm_spans}
use Rattle.cycle_laws.specs.Laws.{LeavesUnset}

neither_left : (a b : Bool) → (a || b) ≡ false → a ≡ false
neither_left true b h = h
neither_left false b h = refl

neither_right : (a b : Bool) → (a || b) ≡ false → b ≡ false
neither_right true b h = absurd cc
neither_right false b h = h

-- a part is of the variable that its target names
part_var : (s : State) (t : Target) (n : ℕ) → (part_at s t n).var ≡ var_named t
part_var s (target.Whole v) n = refl
part_var s (target.Part v w at) n = refl
part_var s (target.Word v at) n = refl
part_var s (target.WordPart v word w at) n = refl

none_of : (x y z : Bool) → x ≡ false → ((x && y) && z) ≡ false
none_of x y z e = rw e refl

not_in : (p : Part) (b : Bit) (v : ℕ) → p.var ≡ v → (v == b.var) ≡ false → has_bit p b ≡ false
not_in p b v e h = none_of (p.var == b.var) _ _ (ap (λ u. u == b.var) e ∙ h)

unnamed : (s : State) (ts : List Target) (n : ℕ) (b : Bit) → list_any (λ t. var_named t == b.var) ts ≡ false
    → list_any (λ p. has_bit p b) (parts_at s ts n) ≡ false
unnamed s [] n b h = refl
unnamed s (t ∷ ts) n b h =
    let m : ℕ = value.select (target_width s t) n (pos (target_widths s ts)) in
    let one : has_bit (part_at s t m) b ≡ false =
    not_in (part_at s t m) b (var_named t) (part_var s t m) (neither_left (var_named t == b.var) (list_any (λ t. var_named t == b.var) ts) h) in
    rw (one, unnamed s ts n b (neither_right (var_named t == b.var) (list_any (λ t. var_named t == b.var) ts) h)) refl

module _ (d : Design) where
  pub parts_leave : (ps : List Part) (s : State) (b : Bit) → IsStateOf d s → IsBitOf d b → list_any (λ p. has_bit p b) ps ≡ false
      → bit (all_written s ps) b ≡ bit s b
  parts_leave [] s b hs hb h = refl
  parts_leave (p ∷ ps) s b hs hb h =
      parts_leave ps (written s p) b (written_keeps d s p hs) hb (neither_right (has_bit p b) (list_any (λ p. has_bit p b) ps) h)
      ∙ parts_leave_others d s p b hs hb (neither_left (has_bit p b) (list_any (λ p. has_bit p b) ps) h)

  step_keeps : (x : Step) (s : State) → IsStateOf d s → IsStateOf d (does x s).state
  step_keeps x s hs = (sim d x s s hs hs (λ b. true) (λ b hb i. refl) (λ b hb i. refl)).state

  abbrev sets_in : Bit → List Path → Bool
  sets_in b ps = list_any (list_any (event_sets b.var)) ps

  abbrev Frame : Step → Type 0
  Frame x = (s : State) → IsStateOf d s → (b : Bit) → IsBitOf d b → sets_in b (paths_of_step x) ≡ false → bit (does x s).state b ≡ bit s b

  frame_list : (xs : List Step) → AllByRecursion Frame xs → (s : State) → IsStateOf d s → (b : Bit) → IsBitOf d b
      → list_any (sets_in b) (map paths_of_step xs) ≡ false → bit (all_do xs s).state b ≡ bit s b
  frame_list [] f s hs b hb h = refl
  frame_list (x ∷ xs) f s hs b hb h =
      frame_list xs f.1 (does x s).state (step_keeps x s hs) b hb (neither_right (sets_in b (paths_of_step x)) (list_any (sets_in b) (map paths_of_step xs)) h)
      ∙ f.0 s hs b hb (neither_left (sets_in b (paths_of_step x)) (list_any (sets_in b) (map paths_of_step xs)) h)

  frame_block : (xs : List Step) → AllByRecursion Frame xs → (s : State) → IsStateOf d s → (b : Bit) → IsBitOf d b → sets_in b (paths xs) ≡ false
      → bit (all_do xs s).state b ≡ bit s b
  frame_block xs f s hs b hb h = frame_list xs f s hs b hb (sym (any_choice (event_sets b.var) (map paths_of_step xs) (all_have xs)) ∙ h)

  -- the blocks behind reads
  behind_sets : (x : Step) (spans : List Span) (ps : List Path) (b : Bit) → paths_of_step x ≡ behind spans ps → sets_in b (paths_of_step x) ≡ false
      → sets_in b ps ≡ false
  behind_sets x spans ps b e h = sym (any_map (list_any (event_sets b.var)) (λ path. reads spans ∷ path) ps) ∙ sym (ap (sets_in b) e) ∙ h

  frame_set : (ts : List Target) (v : Typed) → Frame (step.Set ts v)
  frame_set ts v s hs b hb h =
      let e : sets_in b (paths_of_step (step.Set ts v))
      ≡ sets_in b ((reads (assign_reads ts v) ∷ map sets ts) ∷ []) = ap (sets_in b) (steps.fold-Set (List Path) ArmPaths step_paths arm_paths ts v) in
      ap (λ o. bit o.state b) (equation.does-Set ts v s)
      ∙ parts_leave (parts_at s ts (value_in s v).number) s b hs hb (unnamed s ts (value_in s v).number b
      (sym (any_map (event_sets b.var) sets ts) ∙ neither_left (list_any (event_sets b.var) (map sets ts)) false (sym e ∙ h)))

  frame_if : (e : Typed) (left right : List Step) → AllByRecursion Frame left → AllByRecursion Frame right → Frame (step.If e left right)
  frame_if e left right l r s hs b hb h = ap (λ o. bit o.state b) (equation.does-If e left right s) ∙ go ((value_in s e).number == 0)
    where
      both : (sets_in b (paths left) || sets_in b (paths right)) ≡ false
      both = sym (any_append (list_any (event_sets b.var)) (paths left) (paths right))
          ∙ behind_sets (step.If e left right) (reads_of e) (paths left
          ++ paths right) b (steps.fold-If (List Path) ArmPaths step_paths arm_paths e left right) h

      go : (c : Bool) → bit (in_turn (if c then map does right else map does left) s).state b ≡ bit s b
      go true = frame_block right r s hs b hb (neither_right (sets_in b (paths left)) (sets_in b (paths right)) both)
      go false = frame_block left l s hs b hb (neither_left (sets_in b (paths left)) (sets_in b (paths right)) both)

  frame_arms : (n : ℕ) (s : State) (arms : List StepArm) (rest : List Step) → AllByRecursion (ArmHas Frame) arms → AllByRecursion Frame rest → IsStateOf d s
      → (b : Bit) → IsBitOf d b
      → sets_in b (bodies arms ++ paths rest) ≡ false → bit (all_do (chosen_steps s n arms rest) s).state b ≡ bit s b
  frame_arms n s [] rest a r hs b hb h = frame_block rest r s hs b hb h
  frame_arms n s (arm ∷ arms) rest a r hs b hb h = go (list_any (is_match s n) arm.items) (frame_arms n s arms rest a.1 r hs b hb
      (any_append (list_any (event_sets b.var)) (bodies arms) (paths rest)
      ∙ rw (
        neither_right (sets_in b (paths arm.body)) (sets_in b (bodies arms)) first,
        neither_right (sets_in b (paths arm.body
            ++ bodies arms)) (sets_in b (paths rest)) whole,
      ) refl))
    where
      whole : (sets_in b (paths arm.body ++ bodies arms) || sets_in b (paths rest)) ≡ false
      whole = sym (any_append (list_any (event_sets b.var)) (paths arm.body ++ bodies arms) (paths rest)) ∙ h

      first : (sets_in b (paths arm.body) || sets_in b (bodies arms)) ≡ false
      first = sym (any_append (list_any (event_sets b.var)) (paths arm.body) (bodies arms))
          ∙ neither_left (sets_in b (paths arm.body ++ bodies arms)) (sets_in b (paths rest)) whole

      go : (c : Bool) → bit (all_do (chosen_steps s n arms rest) s).state b ≡ bit s b
          → bit (all_do (if c then arm.body else chosen_steps s n arms rest) s).state b ≡ bit s b
      go true k = frame_block arm.body a.0 s hs b hb (neither_left (sets_in b (paths arm.body)) (sets_in b (bodies arms)) first)
      go false k = k

  frame : (x : Step) → Frame x
  frame = step_induction Frame frame_set
      (λ ts v s hs b hb h. ap (λ o. bit o.state b) (equation.does-Later ts v s))
      frame_if
      (λ on arms rest a r s hs b hb h. ap (λ o. bit o.state b) (case_does on arms rest s)
      ∙ frame_arms (value_in s on).number s arms rest a r hs b hb (behind_sets (step.Case on arms rest) (reads_of on ++ arm_spans arms) (bodies arms
      ++ paths rest) b (case_paths on arms rest) h))
      (λ pieces s hs b hb h. ap (λ o. bit o.state b) (equation.does-Show pieces s))
      (λ s hs b hb h. ap (λ o. bit o.state b) (equation.does-Finish s))
      (λ s hs b hb h. ap (λ o. bit o.state b) (equation.does-Stop s))
      (λ counter s hs b hb h. ap (λ o. bit o.state b) (equation.does-Count counter s))

pub leaves_unset : LeavesUnset
leaves_unset d p s b hs hb h = frame_block d (process_of d p).body (every (frame d) (process_of d p).body) s hs b hb h
