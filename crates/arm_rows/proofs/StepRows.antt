-- The rows of each kind of step and process.
use Rattle.std.proofs.Common.{◌≡◌, ℕ, ◌+◌, ◌<◌, ◌≤◌, Bool, true, false, List, [], ◌∷◌, ◌++◌, map, length, inl, inr, refl, sym, ◌∙◌, ap, ap₂, subst}
use Rattle.std.proofs.Common.{append_assoc, arith}
use Rattle.std.specs.Prelude.{◌==◌, Contains, flat_map}
use Rattle.std.proofs.lemmas.List.{length-append}
use Rattle.std.proofs.lemmas.List.Elements.{Contains-append_left, Contains-append_right, Contains-append_cases}
use Rattle.std.proofs.Math.Seq.{get_or-append_seam}
use Rattle.cov_types.specs.declared.kind.ProcessKind.TheVariants as kind
use Rattle.design_tree.specs.declared.typed.Typed.{Typed}
use Rattle.design_tree.specs.declared.step.Target.{Target}
use Rattle.design_tree.specs.declared.step.Piece.{Piece}
use Rattle.design_tree.specs.declared.step.StepArm.{StepArm}
use Rattle.design_tree.specs.declared.step.Step.{Step}
use Rattle.design_tree.specs.declared.step.Step.TheVariants as s
use Rattle.design_tree.specs.declared.design.Process.{Process}
use Rattle.circuit_run.specs.Outcomes.{Act}
use Rattle.design_meaning.proofs.StepFolds as steps
use Rattle.counted_circuit.specs.Sorts as sort
use Rattle.counted_circuit.specs.Sorts.{Sort, sorts, has_steps, step_sorts, arm_sorts, in_turn}
use Rattle.counted_circuit.specs.Tells.{Fork, Telling, TellingArm, tells, arm_telling, arms_of, arms_of_arms, forks_in_turn, forks_of_arm, forks_of_arms}
use Rattle.counted_circuit.specs.Tells.{step_tells, arm_tells, without_arms}
use Rattle.counted_circuit.specs.Balance.{process_forks}
use Rattle.counted_circuit.proofs.TellsNumbers.{tells-If, tells-Case, tells-arm}
use Rattle.arm_rows.specs.declared.row.ArmRow.{ArmRow}
use Rattle.arm_rows.specs.declared.row.ArmRow.TheVariants as row
use Rattle.arm_rows.specs.Rows.{sort_of, may_hold, row_at, MayHold, Adds, sorts_of_arm, arms_of_process, sorts_of_process}
use Rattle.arm_rows.proofs.Adding.{fork_at, adds_none, adds_one, adds_no_arm, adds_in, adds_both, longer, still_holds, still_there}
use Rattle.arm_rows.proofs.Listing.{adds_as}

-- lists made one by one and then joined
joined_map : {A B : Type 0} (f : A → List B) (xs : List A) → flat_map (λ ys. ys) (map f xs) ≡ flat_map f xs
joined_map f [] = refl
joined_map f (x ∷ xs) = ap (λ zs. f x ++ zs) (joined_map f xs)

-- what is put behind the rows for steps in an arm
abbrev pub AddsSteps : List Step → ℕ → List ArmRow → List ArmRow → Type 0
AddsSteps ss arm old new = Adds (arms_of (map tells ss)) (flat_map sorts ss) (forks_in_turn (map tells ss) arm (length old)) old new

-- what is put behind them for one step
abbrev pub AddsStep : Step → ℕ → List ArmRow → List ArmRow → Type 0
AddsStep a around old new = Adds (tells a).arms (sorts a) ((tells a).forks around (length old)) old new

pub of_steps : (ss ts : List Step) (arm : ℕ) (old new : List ArmRow) → ss ≡ ts → AddsSteps ss arm old new → AddsSteps ts arm old new
of_steps ss ts arm old new is h = subst (λ (xs : List Step). AddsSteps xs arm old new) is h

-- ---- steps without arms

module _ (a : Step) (around : ℕ) (old : List ArmRow) where
  adds_plain : (b : Step) → a ≡ b → (tells b).arms ≡ 0 → sorts b ≡ [] → (tells b).forks around (length old) ≡ [] → AddsStep a around old old
  adds_plain b is e f g = subst (λ (x : Step). AddsStep x around old old) (sym is)
      (adds_as 0 (tells b).arms [] (sorts b) [] ((tells b).forks around (length old)) old old e f g (adds_none old))

  by_fold : (b : Step) → a ≡ b → (act : Act ℕ) → tells b ≡ without_arms act → sorts b ≡ [] → AddsStep a around old old
  by_fold b is act e f = adds_plain b is (ap (λ (x : Telling). x.arms) e) f (ap (λ (x : Telling). x.forks around (length old)) e)

  pub adds_set : (targets : List Target) (value : Typed) → a ≡ s.Set targets value → AddsStep a around old old
  adds_set targets value is = by_fold (s.Set targets value) is _ (steps.fold-Set Telling TellingArm step_tells arm_tells targets value)
      (steps.fold-Set (List Sort) (List Sort) step_sorts arm_sorts targets value)

  pub adds_later : (targets : List Target) (value : Typed) → a ≡ s.Later targets value → AddsStep a around old old
  adds_later targets value is = by_fold (s.Later targets value) is _ (steps.fold-Later Telling TellingArm step_tells arm_tells targets value)
      (steps.fold-Later (List Sort) (List Sort) step_sorts arm_sorts targets value)

  pub adds_show : (pieces : List Piece) → a ≡ s.Show pieces → AddsStep a around old old
  adds_show pieces is = by_fold (s.Show pieces) is _ (steps.fold-Show Telling TellingArm step_tells arm_tells pieces)
      (steps.fold-Show (List Sort) (List Sort) step_sorts arm_sorts pieces)

  pub adds_finish : a ≡ s.Finish → AddsStep a around old old
  adds_finish is = by_fold s.Finish is _ (steps.fold-Finish Telling TellingArm step_tells arm_tells)
      (steps.fold-Finish (List Sort) (List Sort) step_sorts arm_sorts)

  pub adds_stop : a ≡ s.Stop → AddsStep a around old old
  adds_stop is = by_fold s.Stop is _ (steps.fold-Stop Telling TellingArm step_tells arm_tells) (steps.fold-Stop (List Sort) (List Sort) step_sorts arm_sorts)

  pub adds_count : (counter : ℕ) → a ≡ s.Count counter → AddsStep a around old old
  adds_count counter is = by_fold (s.Count counter) is _ (steps.fold-Count Telling TellingArm step_tells arm_tells counter)
      (steps.fold-Count (List Sort) (List Sort) step_sorts arm_sorts counter)

-- ---- an `if`

-- the fork of an `if` before those in its yes arm
fork_first : (fs gs : List Fork) (f x : Fork) → Contains (fs ++ f ∷ gs) x → Contains (f ∷ (fs ++ gs)) x
fork_first fs gs f x h = elim (Contains-append_cases fs (f ∷ gs) x h) [
  | inl a ↦ Contains-append_right (f ∷ []) (fs ++ gs) x (Contains-append_left fs gs x a)
  | inr b ↦ elim (Contains-append_cases (f ∷ []) gs x b) [
    | inl c ↦ Contains-append_left (f ∷ []) (fs ++ gs) x c
    | inr d ↦ Contains-append_right (f ∷ []) (fs ++ gs) x (Contains-append_right fs gs x d)
  ]
]

-- steps may stand in the arm of the last row
pub last_holds : (old new : List ArmRow) (r : ArmRow) (n : ℕ) → new ≡ old ++ r ∷ [] → n ≡ length old → may_hold r ≡ true → MayHold new n
last_holds old new r n is at h =
    subst (λ (xs : List ArmRow). MayHold xs n) (sym is) (subst (λ i. MayHold (old ++ r ∷ []) i) (sym at) (record {
      within = omega (arith, length-append old (r ∷ []));
      holds = ap may_hold (get_or-append_seam old r [] row.Assignment) ∙ h;
    }))

-- the rows of an `if`: its yes arm and what is in it, then its no arm and what is in that
pub record IfRows (left right : List Step) (around yes_arm no_arm : ℕ) (old r1 r2 r3 new : List ArmRow) : Type 0 where
  pub around_holds : MayHold old around
  pub yes_is : yes_arm ≡ length old
  pub first : r1 ≡ old ++ row.Yes ∷ []
  pub in_yes : Adds (arms_of (map tells left)) (flat_map sorts left) (forks_in_turn (map tells left) yes_arm (length r1)) r1 r2
  pub no_is : no_arm ≡ length r2
  pub second : r3 ≡ r2 ++ row.No around yes_arm ∷ []
  pub in_no : Adds (arms_of (map tells right)) (flat_map sorts right) (forks_in_turn (map tells right) no_arm (length r3)) r3 new

module _ (left right : List Step) (around yes_arm no_arm : ℕ) (old r1 r2 r3 new : List ArmRow)
    (h : IfRows left right around yes_arm no_arm old r1 r2 r3 new) where
  abbrev L : List Telling
  L = map tells left

  abbrev R : List Telling
  R = map tells right

  one_longer : length r1 ≡ length old + 1
  one_longer = ap length h.first ∙ length-append old (row.Yes ∷ [])

  two_longer : length r2 ≡ length old + 1 + arms_of L
  two_longer = let e = longer (arms_of L) (flat_map sorts left) (forks_in_turn L yes_arm (length r1)) r1 r2 h.in_yes in let f = one_longer in omega arith

  three_longer : length r3 ≡ length r2 + 1
  three_longer = ap length h.second ∙ length-append r2 (row.No around yes_arm ∷ [])

  yes_added : Adds 1 (sort.yes_arm ∷ []) [] old r1
  yes_added = subst (λ (xs : List ArmRow). Adds 1 (sort.yes_arm ∷ []) [] old xs) (sym h.first) (adds_one old row.Yes (λ a y is. cc))

  abbrev fork : Fork
  fork = fork_at around yes_arm (length r2)

  yes_there : row_at r1 yes_arm ≡ row.Yes
  yes_there = ap₂ (λ (xs : List ArmRow) (n : ℕ). row_at xs n) h.first h.yes_is ∙ get_or-append_seam old row.Yes [] row.Assignment

  around_in : MayHold r2 around
  around_in = still_holds (arms_of L) (flat_map sorts left) (forks_in_turn L yes_arm (length r1)) r1 r2 around h.in_yes
      (still_holds 1 (sort.yes_arm ∷ []) [] old r1 around yes_added h.around_holds)

  no_added : Adds 1 (sort.no_arm ∷ []) (fork ∷ []) r2 r3
  no_added = subst (λ (xs : List ArmRow). Adds 1 (sort.no_arm ∷ []) (fork ∷ []) r2 xs) (sym h.second)
      (adds_no_arm r2 around yes_arm around_in
      (let w = h.around_holds.within in let e = h.yes_is in omega arith)
      (let e = h.yes_is in let f = two_longer in omega arith)
      (still_there (arms_of L) (flat_map sorts left) (forks_in_turn L yes_arm (length r1)) r1 r2 yes_arm h.in_yes
      (let e = h.yes_is in let f = one_longer in omega arith) ∙ yes_there))

  abbrev FL : List Fork
  FL = forks_in_turn L yes_arm (length r1)

  abbrev FR : List Fork
  FR = forks_in_turn R no_arm (length r3)

  all_added : Adds (1 + (arms_of L + (1 + arms_of R))) ((sort.yes_arm ∷ []) ++ (flat_map sorts left ++ ((sort.no_arm ∷ []) ++ flat_map sorts right)))
      (FL ++ (fork ∷ FR)) old new
  all_added =
      adds_both 1 (arms_of L + (1 + arms_of R)) (sort.yes_arm ∷ []) (flat_map sorts left ++ ((sort.no_arm ∷ []) ++ flat_map sorts right)) [] (FL ++ (fork ∷ FR))
      old r1 new yes_added
      (adds_both (arms_of L) (1 + arms_of R) (flat_map sorts left) ((sort.no_arm ∷ []) ++ flat_map sorts right) FL (fork ∷ FR) r1 r2 new h.in_yes
      (adds_both 1 (arms_of R) (sort.no_arm ∷ []) (flat_map sorts right) (fork ∷ []) FR r2 r3 new no_added h.in_no))

  -- the forks of an `if` with these numbers
  abbrev forks_with : ℕ → ℕ → ℕ → ℕ → ℕ → List Fork
  forks_with y n k z m = fork_at around y k ∷ (forks_in_turn L y n ++ forks_in_turn R z m)

  same_forks : (y y' n n' k k' z z' m m' : ℕ) → y ≡ y' → n ≡ n' → k ≡ k' → z ≡ z' → m ≡ m' → forks_with y n k z m ≡ forks_with y' n' k' z' m'
  same_forks y y' n n' k k' z z' m m' e1 e2 e3 e4 e5 =
      ap₂ (λ (a b : ℕ). forks_with a b k z m) e1 e2
      ∙ (ap₂ (λ (a b : ℕ). forks_with y' n' a b m) e3 e4 ∙ ap (λ (a : ℕ). forks_with y' n' k' z' a) e5)

  -- the forks of the step, as they are defined
  forks_are : (test : Typed) → (tells (s.If test left right)).forks around (length old) ≡ fork ∷ (FL ++ FR)
  forks_are test =
      let m : ℕ = length old + 1 + arms_of L in
      let two = two_longer in
      let one = one_longer in
      let three = three_longer in
      let y = h.yes_is in
      let z = h.no_is in
      ap (λ (x : Telling). x.forks around (length old)) (tells-If test left right)
      ∙ same_forks (length old) yes_arm (length old + 1) (length r1) m (length r2) m no_arm (m + 1) (length r3) (omega arith) (omega arith) (omega arith)
      (omega arith) (omega arith)

  pub adds_if : (a : Step) (test : Typed) → a ≡ s.If test left right
      → Adds (tells a).arms (sorts a) ((tells a).forks around (length old)) old new
  adds_if a test is =
      adds_as (1 + (arms_of L + (1 + arms_of R))) (tells a).arms ((sort.yes_arm ∷ []) ++ (flat_map sorts left ++ ((sort.no_arm ∷ []) ++ flat_map sorts right)))
      (sorts a) (fork ∷ (FL ++ FR)) ((tells a).forks around (length old)) old new
      (let e : (tells a).arms ≡ 2 + arms_of L + arms_of R = ap (λ x. (tells x).arms) is ∙ ap (λ x. x.arms) (tells-If test left right) in omega arith)
      (ap sorts is ∙ (steps.fold-If (List Sort) (List Sort) step_sorts arm_sorts test left right
      ∙ ap₂ (λ (x y : List Sort). sort.yes_arm ∷ (x ++ (sort.no_arm ∷ y))) (joined_map sorts left) (joined_map sorts right)))
      (ap (λ x. (tells x).forks around (length old)) is ∙ forks_are test)
      (adds_in (1 + (arms_of L + (1 + arms_of R))) ((sort.yes_arm ∷ []) ++ (flat_map sorts left ++ ((sort.no_arm ∷ []) ++ flat_map sorts right)))
      (FL ++ (fork ∷ FR)) (fork ∷ (FL ++ FR)) old new (fork_first FL FR fork) all_added)

-- ---- an arm with its block, of any sort

pub adds_block : (r : ArmRow) (ss : List Step) (arm : ℕ) (old r1 new : List ArmRow) → ((a y : ℕ) → r ≡ row.No a y → ⊥) → arm ≡ length old
    → r1 ≡ old ++ r ∷ [] → Adds (arms_of (map tells ss)) (flat_map sorts ss) (forks_in_turn (map tells ss) arm (length r1)) r1 new
    → Adds (1 + arms_of (map tells ss)) (sort_of r ∷ flat_map sorts ss) (forks_of_arm (map tells ss) (length old)) old new
adds_block r ss arm old r1 new other at is h =
    adds_as (1 + arms_of (map tells ss)) (1 + arms_of (map tells ss)) (sort_of r ∷ flat_map sorts ss) (sort_of r ∷ flat_map sorts ss)
    (forks_in_turn (map tells ss) arm (length r1)) (forks_of_arm (map tells ss) (length old)) old new refl refl
    (sym (ap (λ n. forks_in_turn (map tells ss) arm n) (ap length is ∙ length-append old (r ∷ []))
    ∙ ap (λ n. forks_in_turn (map tells ss) n (length old + 1)) at))
    (adds_both 1 (arms_of (map tells ss)) (sort_of r ∷ []) (flat_map sorts ss) [] (forks_in_turn (map tells ss) arm (length r1)) old r1 new
    (subst (λ (xs : List ArmRow). Adds 1 (sort_of r ∷ []) [] old xs) (sym is) (adds_one old r other)) h)

-- a list whose length isn't 0 isn't empty
pub not_empty : (ss : List Step) (b : Bool) → b ≡ (length ss == 0) → b ≡ false → ss ≡ [] → ⊥
not_empty ss b e is none = let bad : false ≡ true = sym is ∙ (e ∙ ap (λ (xs : List Step). length xs == 0) none) in cc

pub adds_rest : (ss : List Step) (arm : ℕ) (old r1 new : List ArmRow) → (ss ≡ [] → ⊥) → arm ≡ length old → r1 ≡ old ++ row.NoMatch true ∷ []
    → Adds (arms_of (map tells ss)) (flat_map sorts ss) (forks_in_turn (map tells ss) arm (length r1)) r1 new
    → Adds (1 + arms_of (map tells ss)) (sort.no_match (has_steps (map sorts ss)) ∷ flat_map sorts ss) (forks_of_arm (map tells ss) (length old)) old new
adds_rest [] arm old r1 new some at is h = absurd (some refl)
adds_rest (x ∷ xs) arm old r1 new some at is h = adds_block (row.NoMatch true) (x ∷ xs) arm old r1 new (λ a y is. cc) at is h

pub adds_no_rest : (ss : List Step) (old new : List ArmRow) → ss ≡ [] → new ≡ old ++ row.NoMatch false ∷ []
    → Adds (1 + arms_of (map tells ss)) (sort.no_match (has_steps (map sorts ss)) ∷ flat_map sorts ss) (forks_of_arm (map tells ss) (length old)) old new
adds_no_rest ss old new none is =
    subst (λ (xs : List Step). Adds (1 + arms_of (map tells xs)) (sort.no_match (has_steps (map sorts xs)) ∷ flat_map sorts xs) (forks_of_arm (map tells xs)
    (length old)) old new) (sym none)
    (subst (λ (xs : List ArmRow). Adds 1 (sort.no_match false ∷ []) [] old xs) (sym is) (adds_one old (row.NoMatch false) (λ a y is. cc)))

pub adds_listed : (a : StepArm) (arm : ℕ) (old r1 new : List ArmRow) → arm ≡ length old → r1 ≡ old ++ row.Listed ∷ []
    → Adds (arms_of (map tells a.body)) (flat_map sorts a.body) (forks_in_turn (map tells a.body) arm (length r1)) r1 new
    → Adds (1 + arms_of (arm_telling a).body) (sorts_of_arm a) (forks_of_arm (arm_telling a).body (length old)) old new
adds_listed a arm old r1 new at is h =
    let e : (arm_telling a).body ≡ map tells a.body = ap (λ x. x.body) (tells-arm a.items a.body) in
    adds_as (1 + arms_of (map tells a.body)) (1 + arms_of (arm_telling a).body) (sort.listed ∷ flat_map sorts a.body) (sorts_of_arm a)
    (forks_of_arm (map tells a.body) (length old)) (forks_of_arm (arm_telling a).body (length old)) old new
    (ap (λ (xs : List Telling). 1 + arms_of xs) e)
    (steps.fold-arm (List Sort) (List Sort) step_sorts arm_sorts a.items a.body ∙ ap (λ (xs : List Sort). sort.listed ∷ xs) (joined_map sorts a.body))
    (ap (λ (xs : List Telling). forks_of_arm xs (length old)) e)
    (adds_block row.Listed a.body arm old r1 new (λ a y is. cc) at is h)

-- ---- a `case`

listed_first : (xs : List TellingArm) (rest : List Telling) (n : ℕ) (x : Fork) → Contains (forks_of_arms xs [] n ++ forks_of_arm rest (n + arms_of_arms xs)) x
    → Contains (forks_of_arms xs rest n) x
listed_first [] rest n x h = subst (λ i. Contains (forks_of_arm rest i) x) (let e : n + 0 ≡ n = omega arith in e) h
listed_first (a ∷ xs) rest n x h =
    let here = forks_of_arm a.body n in
    let m = n + 1 + arms_of a.body in
    elim (Contains-append_cases here (forks_of_arms xs [] m ++ forks_of_arm rest (n + (1 + arms_of a.body + arms_of_arms xs))) x
    (subst (λ (fs : List Fork). Contains fs x)
    (append_assoc here (forks_of_arms xs [] m) (forks_of_arm rest (n + (1 + arms_of a.body + arms_of_arms xs)))) h)) [
      | inl c ↦ Contains-append_left here (forks_of_arms xs rest m) x c
      | inr d ↦ Contains-append_right here (forks_of_arms xs rest m) x (listed_first xs rest m x
          (subst (λ i. Contains (forks_of_arms xs [] m ++ forks_of_arm rest i) x)
          (let e : n + (1 + arms_of a.body + arms_of_arms xs) ≡ n + 1 + arms_of a.body + arms_of_arms xs = omega arith in e) d))
    ]

-- what is put behind the rows for the arms of a `case`, and for its block for no match
abbrev pub AddsArms : List StepArm → List ArmRow → List ArmRow → Type 0
AddsArms arms old new =
    Adds (arms_of_arms (map arm_telling arms)) (flat_map sorts_of_arm arms) (forks_of_arms (map arm_telling arms) [] (length old)) old new

abbrev pub AddsRest : List Step → List ArmRow → List ArmRow → Type 0
AddsRest ss old new =
    Adds (1 + arms_of (map tells ss)) (sort.no_match (has_steps (map sorts ss)) ∷ flat_map sorts ss) (forks_of_arm (map tells ss) (length old)) old new

pub of_arms : (xs ys : List StepArm) (old new : List ArmRow) → xs ≡ ys → AddsArms xs old new → AddsArms ys old new
of_arms xs ys old new is h = subst (λ (zs : List StepArm). AddsArms zs old new) is h

pub of_rest : (xs ys : List Step) (old new : List ArmRow) → xs ≡ ys → AddsRest xs old new → AddsRest ys old new
of_rest xs ys old new is h = subst (λ (zs : List Step). AddsRest zs old new) is h

pub adds_case : (a : Step) (on : Typed) (arms : List StepArm) (rest : List Step) (around : ℕ) (old mid new : List ArmRow) → a ≡ s.Case on arms rest
    → Adds (arms_of_arms (map arm_telling arms)) (flat_map sorts_of_arm arms) (forks_of_arms (map arm_telling arms) [] (length old)) old mid
    → Adds (1 + arms_of (map tells rest)) (sort.no_match (has_steps (map sorts rest)) ∷ flat_map sorts rest)
    (forks_of_arm (map tells rest) (length mid)) mid new
    → Adds (tells a).arms (sorts a) ((tells a).forks around (length old)) old new
adds_case a on arms rest around old mid new is h k =
    let A = map arm_telling arms in
    let R = map tells rest in
    let s1 = flat_map sorts_of_arm arms in
    let s2 = sort.no_match (has_steps (map sorts rest)) ∷ flat_map sorts rest in
    let f1 = forks_of_arms A [] (length old) in
    let f2 = forks_of_arm R (length mid) in
    let e : length mid ≡ length old + arms_of_arms A = longer (arms_of_arms A) s1 f1 old mid h in
    adds_as (arms_of_arms A + (1 + arms_of R)) (tells a).arms (s1
    ++ s2) (sorts a) (forks_of_arms A R (length old)) ((tells a).forks around (length old)) old new
    (let g : (tells a).arms ≡ 1 + arms_of_arms A + arms_of R = ap (λ x. (tells x).arms) is ∙ ap (λ x. x.arms) (tells-Case on arms rest) in omega arith)
    (ap sorts is ∙ (steps.fold-Case (List Sort) (List Sort) step_sorts arm_sorts on arms rest
    ∙ ap₂ (λ (x y : List Sort). x ++ (sort.no_match (has_steps (map sorts rest)) ∷ y)) (joined_map sorts_of_arm arms) (joined_map sorts rest)))
    (ap (λ x. (tells x).forks around (length old)) is ∙ ap (λ (x : Telling). x.forks around (length old)) (tells-Case on arms rest))
    (adds_in (arms_of_arms A + (1 + arms_of R)) (s1 ++ s2) (f1 ++ f2) (forks_of_arms A R (length old)) old new
    (λ x c. listed_first A R (length old) x (subst (λ i. Contains (f1 ++ forks_of_arm R i) x) e c))
    (adds_both (arms_of_arms A) (1 + arms_of R) s1 s2 f1 f2 old mid new h k))
