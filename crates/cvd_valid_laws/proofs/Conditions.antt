-- The conditions of steps, arms and blocks: they are well formed, and each thing that they mention may stand in a process of this kind.
use Rattle.std.proofs.Common.{◌≡◌, ℕ, ◌+◌, ◌≤◌, Bool, true, false, List, [], ◌∷◌, ◌++◌, map, refl, sym, ◌∙◌, arith}
use Rattle.std.specs.Prelude.{◌&&◌, ◌||◌, nat_le, flat_map}
use Rattle.std.specs.List.{list_all, AllByRecursion}
use Rattle.std.proofs.lemmas.Bool.{true≢false}
use Rattle.std.proofs.lemmas.List.Folds.{list_all-append}
use Rattle.cov_types.specs.declared.kind.ProcessKind.{ProcessKind}
use Rattle.design_tree.specs.declared.design.Design.{Design}
use Rattle.design_tree.specs.declared.step.Piece.{Piece}
use Rattle.design_tree.specs.declared.step.Piece.TheVariants as piece
use Rattle.design_tree.specs.declared.step.Step.{Step, fold-Step}
use Rattle.design_tree.specs.declared.step.StepArm.{StepArm, fold-StepArm}
use Rattle.design_tree.specs.declared.step.Target.{Target}
use Rattle.design_meaning.specs.Mentions.{Mention, expression, destination, shown, counted, concat_all, step_mentions, arm_mentions, piece_mentions}
use Rattle.design_meaning.specs.Sizes.{depth, target_depth, greatest, step_depth, arm_depth}
use Rattle.design_meaning.specs.States.{var_of}
use Rattle.design_meaning.specs.Targets.{var_named}
use Rattle.design_meaning.specs.ValidProcesses.{kind_written, may_tell}
use Rattle.design_meaning.specs.WellFormed.{is_step, step_formed, arm_formed, all_of, any_of, tells, step_tells, arm_tells}
use Rattle.design_meaning.specs.WellTyped as typed
use Rattle.design_meaning.specs.WellTyped.{is_target}
use Rattle.cvd_text.specs.Targets.{same_kind, may_write, is_piece, piece_depth}
use Rattle.spelling_laws.proofs.Fitting.{first_true, second_true, both_true}

-- ---- what folds say

abbrev pub mentions_in : Step → List Mention
mentions_in = fold-Step (List Mention) (List Mention) step_mentions arm_mentions

abbrev pub arm_mentions_in : StepArm → List Mention
arm_mentions_in = fold-StepArm (List Mention) (List Mention) step_mentions arm_mentions

abbrev pub depth_in : Step → ℕ
depth_in = fold-Step ℕ ℕ step_depth arm_depth

abbrev pub arm_depth_in : StepArm → ℕ
arm_depth_in = fold-StepArm ℕ ℕ step_depth arm_depth

abbrev pub is_arm : Design → ℕ → StepArm → ℕ → Bool
is_arm d counters = fold-StepArm Bool (ℕ → Bool) (step_formed d counters) (arm_formed d)

abbrev pub arm_tells_in : StepArm → Bool
arm_tells_in = fold-StepArm Bool Bool step_tells arm_tells

-- ---- tests

pub neither : (a b : Bool) → a ≡ false → b ≡ false → (a || b) ≡ false
neither true b e f = absurd (true≢false e)
neither false b e f = f

pub first_false : (a b : Bool) → (a || b) ≡ false → a ≡ false
first_false true b e = e
first_false false b e = refl

pub second_false : (a b : Bool) → (a || b) ≡ false → b ≡ false
second_false true b e = absurd (true≢false e)
second_false false b e = e

-- ---- what a process of a kind may mention

abbrev pub may_mention : Design → ProcessKind → Mention → Bool
may_mention d k (expression e) = nat_le (depth e) 2000
may_mention d k (destination t) = same_kind (var_of d (var_named t)).kind (kind_written k) && nat_le (target_depth t) 2000
may_mention d k (shown p) = true
may_mention d k (counted c) = true

pub all_join : {X : Type 0} (p : X → Bool) (xs ys : List X) → list_all p xs ≡ true → list_all p ys ≡ true → list_all p (xs ++ ys) ≡ true
all_join p xs ys e f = list_all-append p xs ys ∙ both_true (list_all p xs) (list_all p ys) e f

pub all_front : {X : Type 0} (p : X → Bool) (xs ys : List X) → list_all p (xs ++ ys) ≡ true → list_all p xs ≡ true
all_front p xs ys e = first_true (list_all p xs) (list_all p ys) (sym (list_all-append p xs ys) ∙ e)

pub all_back : {X : Type 0} (p : X → Bool) (xs ys : List X) → list_all p (xs ++ ys) ≡ true → list_all p ys ≡ true
all_back p xs ys e = second_true (list_all p xs) (list_all p ys) (sym (list_all-append p xs ys) ∙ e)

module _ (d : Design) (counters : ℕ) (k : ProcessKind) where
  abbrev pub ok : List Mention → Bool
  ok ms = list_all (may_mention d k) ms

  -- where nothing may be displayed and no run ended, none does so
  abbrev pub Quiet : Bool → Type 0
  Quiet says = may_tell k ≡ false → says ≡ false

  -- a step well formed, with mentions that may stand, and blocks that aren't too deep
  pub record Fine (deep : ℕ) (one : Step) : Type 0 where
    pub formed : is_step d counters one ≡ true
    pub quiet : Quiet (tells one)
    pub mentions : ok (mentions_in one) ≡ true
    pub blocks : deep + depth_in one ≤ 700

  pub record FineBlock (deep : ℕ) (steps : List Step) : Type 0 where
    pub formed : all_of (map (is_step d counters) steps) ≡ true
    pub quiet : Quiet (any_of (map tells steps))
    pub mentions : ok (concat_all (map mentions_in steps)) ≡ true
    pub blocks : deep + greatest (map depth_in steps) ≤ 700

  pub record FineArm (width deep : ℕ) (arm : StepArm) : Type 0 where
    pub formed : is_arm d counters arm width ≡ true
    pub quiet : Quiet (arm_tells_in arm)
    pub mentions : ok (arm_mentions_in arm) ≡ true
    pub blocks : deep + arm_depth_in arm ≤ 700

  pub record FineArms (width deep : ℕ) (arms : List StepArm) : Type 0 where
    pub formed : list_all (λ (arm : ℕ → Bool). arm width) (map (is_arm d counters) arms) ≡ true
    pub quiet : Quiet (any_of (map arm_tells_in arms))
    pub mentions : ok (concat_all (map arm_mentions_in arms)) ≡ true
    pub blocks : deep + greatest (map arm_depth_in arms) ≤ 700

  pub steps_fine : (deep : ℕ) (steps : List Step) → deep ≤ 700 → AllByRecursion (Fine deep) steps → FineBlock deep steps
  steps_fine deep [] small each = record { formed = refl; quiet = λ q. refl; mentions = refl; blocks = omega arith }
  steps_fine deep (one ∷ steps) small each =
      let more = steps_fine deep steps small each.1 in
      record {
        formed = both_true _ _ each.0.formed more.formed;
        quiet = λ q. neither (tells one) (any_of (map tells steps)) (each.0.quiet q) (more.quiet q);
        mentions = all_join (may_mention d k) (mentions_in one) (concat_all (map mentions_in steps)) each.0.mentions more.mentions;
        blocks = omega (arith, each.0.blocks, more.blocks);
      }

  pub fine_steps : (deep : ℕ) (steps : List Step) → FineBlock deep steps → AllByRecursion (Fine deep) steps
  fine_steps deep [] b = tt
  fine_steps deep (one ∷ steps) b = (
    record {
      formed = first_true (is_step d counters one) (all_of (map (is_step d counters) steps)) b.formed;
      quiet = λ q. first_false (tells one) (any_of (map tells steps)) (b.quiet q);
      mentions = all_front (may_mention d k) (mentions_in one) (concat_all (map mentions_in steps)) b.mentions;
      blocks = omega (arith, b.blocks);
    },
    fine_steps deep steps (record {
      formed = second_true (is_step d counters one) (all_of (map (is_step d counters) steps)) b.formed;
      quiet = λ q. second_false (tells one) (any_of (map tells steps)) (b.quiet q);
      mentions = all_back (may_mention d k) (mentions_in one) (concat_all (map mentions_in steps)) b.mentions;
      blocks = omega (arith, b.blocks);
    }),
  )

  pub arms_fine : (width deep : ℕ) (arms : List StepArm) → deep ≤ 700 → AllByRecursion (FineArm width deep) arms → FineArms width deep arms
  arms_fine width deep [] small each = record { formed = refl; quiet = λ q. refl; mentions = refl; blocks = omega arith }
  arms_fine width deep (arm ∷ arms) small each =
      let more = arms_fine width deep arms small each.1 in
      record {
        formed = both_true _ _ each.0.formed more.formed;
        quiet = λ q. neither (arm_tells_in arm) (any_of (map arm_tells_in arms)) (each.0.quiet q) (more.quiet q);
        mentions = all_join (may_mention d k) (arm_mentions_in arm) (concat_all (map arm_mentions_in arms)) each.0.mentions more.mentions;
        blocks = omega (arith, each.0.blocks, more.blocks);
      }

  pub fine_arms : (width deep : ℕ) (arms : List StepArm) → FineArms width deep arms → AllByRecursion (FineArm width deep) arms
  fine_arms width deep [] b = tt
  fine_arms width deep (arm ∷ arms) b =
      let rest = list_all (λ (arm : ℕ → Bool). arm width) (map (is_arm d counters) arms) in (
        record {
          formed = first_true (is_arm d counters arm width) rest b.formed;
          quiet = λ q. first_false (arm_tells_in arm) (any_of (map arm_tells_in arms)) (b.quiet q);
          mentions = all_front (may_mention d k) (arm_mentions_in arm) (concat_all (map arm_mentions_in arms)) b.mentions;
          blocks = omega (arith, b.blocks);
        },
        fine_arms width deep arms (record {
          formed = second_true (is_arm d counters arm width) rest b.formed;
          quiet = λ q. second_false (arm_tells_in arm) (any_of (map arm_tells_in arms)) (b.quiet q);
          mentions = all_back (may_mention d k) (arm_mentions_in arm) (concat_all (map arm_mentions_in arms)) b.mentions;
          blocks = omega (arith, b.blocks);
        }),
      )

  -- ---- targets and pieces

  pub targets_typed : (targets : List Target) → list_all (may_write d k) targets ≡ true → list_all (is_target d) targets ≡ true
  targets_typed [] e = refl
  targets_typed (t ∷ targets) e =
      both_true (is_target d t) _ (first_true (is_target d t) _ (first_true (is_target d t && same_kind (var_of d (var_named t)).kind (kind_written k)) _
      (first_true (may_write d k t) _ e)))
      (targets_typed targets (second_true (may_write d k t) _ e))

  pub targets_ok : (targets : List Target) → list_all (may_write d k) targets ≡ true → ok (map destination targets) ≡ true
  targets_ok [] e = refl
  targets_ok (t ∷ targets) e =
      let here = first_true (may_write d k t) _ e in
      both_true (may_mention d k (destination t)) _
      (both_true (same_kind (var_of d (var_named t)).kind (kind_written k)) _
      (second_true (is_target d t) _ (first_true (is_target d t && same_kind (var_of d (var_named t)).kind (kind_written k)) _ here))
      (second_true (is_target d t && same_kind (var_of d (var_named t)).kind (kind_written k)) _ here))
      (targets_ok targets (second_true (may_write d k t) _ e))

  pub may_write_all : (targets : List Target) → list_all (is_target d) targets ≡ true → ok (map destination targets) ≡ true
      → list_all (may_write d k) targets ≡ true
  may_write_all [] e f = refl
  may_write_all (t ∷ targets) e f =
      let same = same_kind (var_of d (var_named t)).kind (kind_written k) in
      let here = first_true (may_mention d k (destination t)) (ok (map destination targets)) f in
      both_true (may_write d k t) _
      (both_true (is_target d t && same) _ (both_true (is_target d t) same (first_true (is_target d t) _ e) (first_true same _ here)) (second_true same _ here))
      (may_write_all targets (second_true (is_target d t) _ e) (second_true (may_mention d k (destination t)) (ok (map destination targets)) f))

  pub pieces_typed : (pieces : List Piece) → list_all (is_piece d) pieces ≡ true → list_all (typed.is_piece d) pieces ≡ true
  pieces_typed [] e = refl
  pieces_typed (p ∷ pieces) e =
      both_true (typed.is_piece d p) _ (first_true (typed.is_piece d p) _ (first_true (is_piece d p) _ e))
      (pieces_typed pieces (second_true (is_piece d p) _ e))

  one_ok : (p : Piece) → nat_le (piece_depth p) 2000 ≡ true → ok (piece_mentions p) ≡ true
  one_ok (piece.Text bytes) e = refl
  one_ok (piece.Dec is_signed short value) e = both_true _ true e refl
  one_ok (piece.Hex short value) e = both_true _ true e refl
  one_ok (piece.Bin short value) e = both_true _ true e refl

  ok_one : (p : Piece) → ok (piece_mentions p) ≡ true → nat_le (piece_depth p) 2000 ≡ true
  ok_one (piece.Text bytes) e = refl
  ok_one (piece.Dec is_signed short value) e = first_true _ true e
  ok_one (piece.Hex short value) e = first_true _ true e
  ok_one (piece.Bin short value) e = first_true _ true e

  shown_ok : (pieces : List Piece) → ok (map shown pieces) ≡ true
  shown_ok [] = refl
  shown_ok (p ∷ pieces) = shown_ok pieces

  mentioned_ok : (pieces : List Piece) → list_all (is_piece d) pieces ≡ true → ok (flat_map piece_mentions pieces) ≡ true
  mentioned_ok [] e = refl
  mentioned_ok (p ∷ pieces) e =
      all_join (may_mention d k) (piece_mentions p) (flat_map piece_mentions pieces)
      (one_ok p (second_true (typed.is_piece d p) _ (first_true (is_piece d p) _ e))) (mentioned_ok pieces (second_true (is_piece d p) _ e))

  pub pieces_ok : (pieces : List Piece) → list_all (is_piece d) pieces ≡ true → ok (map shown pieces ++ flat_map piece_mentions pieces) ≡ true
  pieces_ok pieces e = all_join (may_mention d k) (map shown pieces) (flat_map piece_mentions pieces) (shown_ok pieces) (mentioned_ok pieces e)

  piece_all : (pieces : List Piece) → list_all (typed.is_piece d) pieces ≡ true → ok (flat_map piece_mentions pieces) ≡ true
      → list_all (is_piece d) pieces ≡ true
  piece_all [] e f = refl
  piece_all (p ∷ pieces) e f =
      both_true (is_piece d p) _
      (both_true (typed.is_piece d p) _ (first_true (typed.is_piece d p) _ e)
      (ok_one p (all_front (may_mention d k) (piece_mentions p) (flat_map piece_mentions pieces) f)))
      (piece_all pieces (second_true (typed.is_piece d p) _ e) (all_back (may_mention d k) (piece_mentions p) (flat_map piece_mentions pieces) f))

  pub is_piece_all : (pieces : List Piece) → list_all (typed.is_piece d) pieces ≡ true → ok (map shown pieces ++ flat_map piece_mentions pieces) ≡ true
      → list_all (is_piece d) pieces ≡ true
  is_piece_all pieces e f = piece_all pieces e (all_back (may_mention d k) (map shown pieces) (flat_map piece_mentions pieces) f)
