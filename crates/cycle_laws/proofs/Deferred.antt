-- What a process leaves for later has no bit that it doesn't drive.
use Rattle.std.proofs.Common.{◌≡◌, ◌∙◌, sym, ap, refl, ℕ, Bool, true, false, ◌||◌, ◌&&◌, List, [], ◌∷◌, ◌++◌, map}
use Rattle.std.specs.Prelude.{Some, None, pos, if◌then◌else◌, ◌==◌}
use Rattle.std.specs.List.{list_any, AllByRecursion}
use Rattle.std.proofs.lemmas.Bool.{false_from_ne_true}
use Rattle.bit_values.specs.Values as value
use Rattle.design_tree.specs.declared.typed.Index.{Index}
use Rattle.design_tree.specs.declared.typed.Typed.{Typed}
use Rattle.design_tree.specs.declared.step.Target.{Target}
use Rattle.design_tree.specs.declared.step.Target.TheVariants as target
use Rattle.design_tree.specs.declared.step.StepArm.{StepArm}
use Rattle.design_tree.specs.declared.step.Step.{Step}
use Rattle.design_tree.specs.declared.step.Step.TheVariants as step
use Rattle.circuit_run.specs.States.{State, Bit, held}
use Rattle.design_meaning.specs.Values.{value_in, position_in}
use Rattle.design_meaning.specs.Writes.{part_at, parts_at, target_width, target_widths}
use Rattle.circuit_run.specs.Outcomes.{Outcome, in_turn}
use Rattle.design_meaning.specs.Steps.{is_match, does, all_do}
use Rattle.design_meaning.specs.Spans.{Span, is_word_in, is_place_in, is_constant, constant_position, places_from, reads_of}
use Rattle.design_meaning.specs.Targets.{names_bit}
use Rattle.design_meaning.specs.Paths.{reads, defers, Path, ArmPaths, step_paths, arm_paths, paths_of_step, paths, assign_reads}
use Rattle.design_meaning.specs.Processes.{process_of}
use Rattle.design_meaning.specs.Reach.{event_drives}
use Rattle.design_meaning.specs.RunLaws.{has_bit}
use Rattle.design_meaning.proofs.StepFolds as steps
use Rattle.design_meaning.proofs.Equations as equation
use Rattle.design_meaning.proofs.ListLaws.{any_map, any_append}
use Rattle.design_meaning.proofs.PathLaws.{any_choice}
use Rattle.design_meaning.proofs.HasPath.{all_have, every}
use Rattle.design_meaning.proofs.Constants.{same_position}
use Rattle.design_meaning.proofs.StepInduction.{ArmHas, step_induction}
use Rattle.design_meaning.proofs.SimBranches.{behind}
use Rattle.design_meaning.proofs.SimCases.{case_paths, case_does, chosen_steps, bodies, arm_spans}
use Rattle.cycle_laws.specs.Laws.{DefersDriven}

neither_left : (a b : Bool) → (a || b) ≡ false → a ≡ false
neither_left true b h = h
neither_left false b h = refl

neither_right : (a b : Bool) → (a || b) ≡ false → b ≡ false
neither_right true b h = absurd cc
neither_right false b h = h

imply : (a b c b' c' : Bool) → (b ≡ true → b' ≡ true) → (c ≡ true → c' ≡ true) → ((a && b) && c) ≡ true → ((a && b') && c') ≡ true
imply true true true b' c' f g h = rw (f refl, g refl) refl
imply true true false b' c' f g h = absurd cc
imply true false c b' c' f g h = absurd cc
imply false b c b' c' f g h = absurd cc

-- ---- what a part has, its target names

word_named : (s : State) (at : Index) (w : ℕ) → is_word_in (Some (position_in s at)) w ≡ true → is_word_in (constant_position at) w ≡ true
word_named s at w h = go (is_constant at) refl
  where
    go : (c : Bool) → is_constant at ≡ c → is_word_in (if c then Some (position_in [] at) else None) w ≡ true
    go true c = rw (same_position at c [] s) h
    go false c = refl

place_named : (s : State) (at : Index) (w i : ℕ) → is_place_in (Some (position_in s at, w)) i ≡ true
    → is_place_in (places_from (constant_position at) w) i ≡ true
place_named s at w i h = go (is_constant at) refl
  where
    go : (c : Bool) → is_constant at ≡ c → is_place_in (places_from (if c then Some (position_in [] at) else None) w) i ≡ true
    go true c = rw (same_position at c [] s) h
    go false c = refl

part_named : (s : State) (t : Target) (n : ℕ) (b : Bit) → has_bit (part_at s t n) b ≡ true → names_bit b t ≡ true
part_named s (target.Whole v) n b h = imply (v == b.var) (is_word_in (Some (pos 0)) b.word) (is_place_in (Some (pos 0, (held s v).width)) b.place)
    (is_word_in (Some (pos 0)) b.word) true (λ i. i) (λ i. refl) h
part_named s (target.Part v w at) n b h = imply (v == b.var) (is_word_in (Some (pos 0)) b.word) (is_place_in (Some (position_in s at, w)) b.place)
    (is_word_in (Some (pos 0)) b.word) (is_place_in (places_from (constant_position at) w) b.place)
    (λ i. i) (place_named s at w b.place) h
part_named s (target.Word v at) n b h = imply (v == b.var) (is_word_in (Some (position_in s at)) b.word)
    (is_place_in (Some (pos 0, (held s v).width)) b.place) (is_word_in (constant_position at) b.word) true
    (word_named s at b.word) (λ i. refl) h
part_named s (target.WordPart v word w at) n b h = imply (v == b.var) (is_word_in (Some (position_in s word)) b.word)
    (is_place_in (Some (position_in s at, w)) b.place) (is_word_in (constant_position word) b.word) (is_place_in (places_from (constant_position at) w) b.place)
    (word_named s word b.word) (place_named s at w b.place) h

unnamed : (s : State) (ts : List Target) (n : ℕ) (b : Bit) → list_any (names_bit b) ts ≡ false → list_any (λ p. has_bit p b) (parts_at s ts n) ≡ false
unnamed s [] n b h = refl
unnamed s (t ∷ ts) n b h =
    let m : ℕ = value.select (target_width s t) n (pos (target_widths s ts)) in
    let one : has_bit (part_at s t m) b ≡ false =
    false_from_ne_true (has_bit (part_at s t m) b)
    (λ i. absurd (cc (part_named s t m b i, neither_left (names_bit b t) (list_any (names_bit b) ts) h))) in
    rw (one, unnamed s ts n b (neither_right (names_bit b t) (list_any (names_bit b) ts) h)) refl

abbrev drives_in : Bit → List Path → Bool
drives_in b ps = list_any (list_any (event_drives b)) ps

abbrev defers_bit : Bit → Outcome ℕ → Bool
defers_bit b o = list_any (λ part. has_bit part b) o.updates

abbrev Quiet : Step → Type 0
Quiet x = (s : State) (b : Bit) → drives_in b (paths_of_step x) ≡ false → defers_bit b (does x s) ≡ false

quiet_list : (xs : List Step) → AllByRecursion Quiet xs → (s : State) (b : Bit) → list_any (drives_in b) (map paths_of_step xs) ≡ false
    → defers_bit b (all_do xs s) ≡ false
quiet_list [] f s b h = refl
quiet_list (x ∷ xs) f s b h =
    any_append (λ part. has_bit part b) (does x s).updates (all_do xs (does x s).state).updates
    ∙ rw (f.0 s b (neither_left (drives_in b (paths_of_step x)) (list_any (drives_in b) (map paths_of_step xs)) h))
    (quiet_list xs f.1 (does x s).state b (neither_right (drives_in b (paths_of_step x)) (list_any (drives_in b) (map paths_of_step xs)) h))

quiet_block : (xs : List Step) → AllByRecursion Quiet xs → (s : State) (b : Bit) → drives_in b (paths xs) ≡ false → defers_bit b (all_do xs s) ≡ false
quiet_block xs f s b h = quiet_list xs f s b (sym (any_choice (event_drives b) (map paths_of_step xs) (all_have xs)) ∙ h)

-- the blocks behind reads
behind_drives : (x : Step) (spans : List Span) (ps : List Path) (b : Bit) → paths_of_step x ≡ behind spans ps → drives_in b (paths_of_step x) ≡ false
    → drives_in b ps ≡ false
behind_drives x spans ps b e h = sym (any_map (list_any (event_drives b)) (λ path. reads spans ∷ path) ps) ∙ sym (ap (drives_in b) e) ∙ h

quiet_later : (ts : List Target) (v : Typed) → Quiet (step.Later ts v)
quiet_later ts v s b h =
    let e : drives_in b (paths_of_step (step.Later ts v))
    ≡ drives_in b ((reads (assign_reads ts v) ∷ map defers ts) ∷ []) = ap (drives_in b) (steps.fold-Later (List Path) ArmPaths step_paths arm_paths ts v) in
    ap (defers_bit b) (equation.does-Later ts v s)
    ∙ unnamed s ts (value_in s v).number b
    (sym (any_map (event_drives b) defers ts) ∙ neither_left (list_any (event_drives b) (map defers ts)) false (sym e ∙ h))

quiet_if : (e : Typed) (left right : List Step) → AllByRecursion Quiet left → AllByRecursion Quiet right → Quiet (step.If e left right)
quiet_if e left right l r s b h = ap (defers_bit b) (equation.does-If e left right s) ∙ go ((value_in s e).number == 0)
  where
    both : (drives_in b (paths left) || drives_in b (paths right)) ≡ false
    both = sym (any_append (list_any (event_drives b)) (paths left) (paths right))
        ∙ behind_drives (step.If e left right) (reads_of e) (paths left
        ++ paths right) b (steps.fold-If (List Path) ArmPaths step_paths arm_paths e left right) h

    go : (c : Bool) → defers_bit b (in_turn (if c then map does right else map does left) s) ≡ false
    go true = quiet_block right r s b (neither_right (drives_in b (paths left)) (drives_in b (paths right)) both)
    go false = quiet_block left l s b (neither_left (drives_in b (paths left)) (drives_in b (paths right)) both)

quiet_arms : (n : ℕ) (s : State) (arms : List StepArm) (rest : List Step) → AllByRecursion (ArmHas Quiet) arms → AllByRecursion Quiet rest → (b : Bit)
    → drives_in b (bodies arms ++ paths rest) ≡ false → defers_bit b (all_do (chosen_steps s n arms rest) s) ≡ false
quiet_arms n s [] rest a r b h = quiet_block rest r s b h
quiet_arms n s (arm ∷ arms) rest a r b h = go (list_any (is_match s n) arm.items) (quiet_arms n s arms rest a.1 r b
    (any_append (list_any (event_drives b)) (bodies arms) (paths rest)
    ∙ rw (
      neither_right (drives_in b (paths arm.body)) (drives_in b (bodies arms)) first,
      neither_right (drives_in b (paths arm.body
          ++ bodies arms)) (drives_in b (paths rest)) whole,
    ) refl))
  where
    whole : (drives_in b (paths arm.body ++ bodies arms) || drives_in b (paths rest)) ≡ false
    whole = sym (any_append (list_any (event_drives b)) (paths arm.body ++ bodies arms) (paths rest)) ∙ h

    first : (drives_in b (paths arm.body) || drives_in b (bodies arms)) ≡ false
    first = sym (any_append (list_any (event_drives b)) (paths arm.body) (bodies arms))
        ∙ neither_left (drives_in b (paths arm.body ++ bodies arms)) (drives_in b (paths rest)) whole

    go : (c : Bool) → defers_bit b (all_do (chosen_steps s n arms rest) s) ≡ false
        → defers_bit b (all_do (if c then arm.body else chosen_steps s n arms rest) s) ≡ false
    go true k = quiet_block arm.body a.0 s b (neither_left (drives_in b (paths arm.body)) (drives_in b (bodies arms)) first)
    go false k = k

quiet : (x : Step) → Quiet x
quiet = step_induction Quiet
    (λ ts v s b h. ap (defers_bit b) (equation.does-Set ts v s))
    quiet_later
    quiet_if
    (λ on arms rest a r s b h. ap (defers_bit b) (case_does on arms rest s)
    ∙ quiet_arms (value_in s on).number s arms rest a r b (behind_drives (step.Case on arms rest) (reads_of on ++ arm_spans arms) (bodies arms
    ++ paths rest) b (case_paths on arms rest) h))
    (λ pieces s b h. ap (defers_bit b) (equation.does-Show pieces s))
    (λ s b h. ap (defers_bit b) (equation.does-Finish s))
    (λ s b h. ap (defers_bit b) (equation.does-Stop s))
    (λ counter s b h. ap (defers_bit b) (equation.does-Count counter s))

pub defers_driven : DefersDriven
defers_driven d p s b h = quiet_block (process_of d p).body (every quiet (process_of d p).body) s b h
