-- What is known of steps that can be run, and of the steps inside them.
use Rattle.std.proofs.Common.{◌≡◌, ◌∙◌, ap, sym, subst, refl, ℕ, zero, suc, ◌+◌, ◌<◌, ◌≤◌, ◌==◌, Bool, true, ◌&&◌, List, [], ◌∷◌, ◌++◌, append-nil, length, map}
use Rattle.std.proofs.Common.{slice_index_or, arith}
use Rattle.std.specs.Prelude.{nat_lt, flat_map, ◌^◌}
use Rattle.std.specs.List.{list_all}
use Rattle.std.proofs.lemmas.Grind.{common_steps}
use Rattle.design_tree.specs.declared.design.Design.{Design}
use Rattle.design_tree.specs.declared.typed.Typed.{Typed}
use Rattle.design_tree.specs.declared.step.Target.{Target}
use Rattle.design_tree.specs.declared.step.Piece.{Piece}
use Rattle.design_tree.specs.declared.step.StepItem.{StepItem}
use Rattle.design_tree.specs.declared.step.StepArm.{StepArm, fold-StepArm, fold_out-StepArm}
use Rattle.design_tree.specs.declared.step.Step.{Step}
use Rattle.design_tree.specs.declared.step.Step.TheVariants as step
use Rattle.circuit_run.specs.States.{State}
use Rattle.design_meaning.specs.States.{IsStateOf}
use Rattle.design_meaning.specs.Values.{of_width, value_in}
use Rattle.design_meaning.specs.Widths.{width_of, widths_named}
use Rattle.design_meaning.specs.WellTyped.{is_typed, is_target, is_piece}
use Rattle.design_meaning.specs.WellFormed.{is_step, is_item, step_formed, arm_formed, all_of}
use Rattle.design_meaning.specs.Writes.{target_widths}
use Rattle.design_meaning.specs.Mentions.{Mention, expression, destination, shown, counted, step_mentions, arm_mentions, concat_all, item_mentions}
use Rattle.design_meaning.specs.Mentions.{mention_targets, piece_mentions}
use Rattle.design_meaning.proofs.ListLaws.{left_true, right_true, and_from, all_map}
use Rattle.design_meaning.proofs.StepFolds as steps
use Rattle.design_meaning.proofs.ValuesFit.{fits}
use Rattle.flat_design.specs.Effects.{Effects, HasRoom, room_for}
use Rattle.design_state.specs.InDesign.{IsTypedIn}
use Rattle.piece_text.specs.Pieces.{ArePiecesIn}
use Rattle.flat_design.specs.InDesign.{CanRun, AreTargetsIn, AreArmsIn, items_typed, mentions_in}
use Rattle.flat_design.specs.Needed.{arm_mentions_in, arm_at}
use Rattle.flat_design.proofs.Rooms.{room_left, room_right}
use Rattle.design_meaning.specs.Texts.{piece_text}
use Rattle.flat_design.proofs.TargetsIn.{widths_same}
use Rattle.piece_text.proofs.ShowFits.{show_fits}

-- ---- equations of folds

formed_arm : Design → ℕ → StepArm → ℕ → Bool
formed_arm d k = fold-StepArm Bool (ℕ → Bool) (step_formed d k) (arm_formed d)

all_formed : (d : Design) (k : ℕ) (xs : List Step) → all_of (map (is_step d k) xs) ≡ list_all (is_step d k) xs
all_formed d k xs = all_map (λ test. test) (is_step d k) xs

pub flat : {X Y : Type 0} (f : X → List Y) (xs : List X) → concat_all (map f xs) ≡ flat_map f xs
flat f [] = refl
flat f (x ∷ xs) = ap (λ l. f x ++ l) (flat f xs)

pub if_mentions : (test : Typed) (left right : List Step) → mentions_in (step.If test left right) ≡ expression test ∷ flat_map mentions_in left
    ++ flat_map mentions_in right
if_mentions test left right = steps.fold-If (List Mention) (List Mention) step_mentions arm_mentions test left right
    ∙ rw (flat mentions_in left, flat mentions_in right) refl

pub case_mentions : (on : Typed) (arms : List StepArm) (rest : List Step)
    → mentions_in (step.Case on arms rest) ≡ expression on ∷ flat_map arm_mentions_in arms ++ flat_map mentions_in rest
case_mentions on arms rest = steps.fold-Case (List Mention) (List Mention) step_mentions arm_mentions on arms rest
    ∙ rw (flat arm_mentions_in arms, flat mentions_in rest) refl

pub arm_mentions_is : (arm : StepArm) → arm_mentions_in arm ≡ flat_map item_mentions arm.items ++ flat_map mentions_in arm.body
arm_mentions_is arm = fold_out-StepArm (List Mention) (List Mention) step_mentions arm_mentions arm
    ∙ ap (λ l. flat_map item_mentions arm.items ++ l) (flat mentions_in arm.body)

pub if_formed : (d : Design) (k : ℕ) (test : Typed) (left right : List Step)
    → is_step d k (step.If test left right) ≡ (is_typed d test && width_of d test == 1 && list_all (is_step d k) left && list_all (is_step d k) right)
if_formed d k test left right = steps.fold-If Bool (ℕ → Bool) (step_formed d k) (arm_formed d) test left right
    ∙ rw (all_formed d k left, all_formed d k right) refl

arm_formed_is : (d : Design) (k : ℕ) (arm : StepArm) (w : ℕ) → formed_arm d k arm w ≡ arm_at d k w arm
unfolding formed_arm
arm_formed_is d k arm w = ap (λ f. f w) (fold_out-StepArm Bool (ℕ → Bool) (step_formed d k) (arm_formed d) arm)
    ∙ ap (λ b. list_all (is_item d w) arm.items && b) (all_formed d k arm.body)

arms_formed : (d : Design) (k : ℕ) (arms : List StepArm) (w : ℕ) → list_all (λ arm. arm w) (map (formed_arm d k) arms) ≡ list_all (arm_at d k w) arms
arms_formed d k [] w = refl
arms_formed d k (arm ∷ arms) w = rw (arm_formed_is d k arm w, arms_formed d k arms w) refl

pub case_formed : (d : Design) (k : ℕ) (on : Typed) (arms : List StepArm) (rest : List Step)
    → is_step d k (step.Case on arms rest) ≡ (is_typed d on && list_all (arm_at d k (width_of d on)) arms && list_all (is_step d k) rest)
unfolding formed_arm
case_formed d k on arms rest = steps.fold-Case Bool (ℕ → Bool) (step_formed d k) (arm_formed d) on arms rest
    ∙ rw (arms_formed d k arms (width_of d on), all_formed d k rest) refl

-- ---- simple steps

abbrev pub assign_mentions : List Target → Typed → List Mention
assign_mentions targets value = map destination targets ++ expression value ∷ []

pub set_mentions : (targets : List Target) (value : Typed) → mentions_in (step.Set targets value) ≡ assign_mentions targets value
set_mentions targets value = steps.fold-Set (List Mention) (List Mention) step_mentions arm_mentions targets value

pub later_mentions : (targets : List Target) (value : Typed) → mentions_in (step.Later targets value) ≡ assign_mentions targets value
later_mentions targets value = steps.fold-Later (List Mention) (List Mention) step_mentions arm_mentions targets value

pub count_mentions : (counter : ℕ) → mentions_in (step.Count counter) ≡ counted counter ∷ []
count_mentions counter = steps.fold-Count (List Mention) (List Mention) step_mentions arm_mentions counter

abbrev pub show_mentions_of : List Piece → List Mention
show_mentions_of pieces = map shown pieces ++ flat_map piece_mentions pieces

pub show_mentions : (pieces : List Piece) → mentions_in (step.Show pieces) ≡ show_mentions_of pieces
show_mentions pieces = steps.fold-Show (List Mention) (List Mention) step_mentions arm_mentions pieces

pub target_count : (targets : List Target) (value : Typed) → length (flat_map mention_targets (assign_mentions targets value)) ≡ length targets
target_count [] value = refl
target_count (t ∷ ts) value = ap suc (target_count ts value)

-- ---- steps that can be run

module _ (s : State) (e : Effects) where
  abbrev Formed : Design → ℕ → List Step → Type 0
  Formed d k xs = list_all (is_step d k) xs ≡ true

  abbrev Room_for : Design → List Step → Type 0
  Room_for d xs = HasRoom e (room_for d (flat_map mentions_in xs))

  -- of one step alone
  one_formed : (x : Step) (h : CanRun s e (x ∷ [])) → is_step h.design h.counters x ≡ true
  one_formed x h = left_true (is_step h.design h.counters x) true h.formed

  one_room : (x : Step) (h : CanRun s e (x ∷ [])) → HasRoom e (room_for h.design (mentions_in x))
  one_room x h = room_left h.design e (mentions_in x) [] h.room

  pub can_first : (x : Step) (xs : List Step) → CanRun s e (x ∷ xs) → CanRun s e (x ∷ [])
  can_first x xs h = record {
    design = h.design;
    counters = h.counters;
    of = h.of;
    variables = h.variables;
    formed = and_from (is_step h.design h.counters x) true (left_true (is_step h.design h.counters x) (list_all (is_step h.design h.counters) xs) h.formed)
        refl;
    room = subst (λ ms. HasRoom e (room_for h.design ms)) (sym (append-nil (mentions_in x)))
        (room_left h.design e (mentions_in x) (flat_map mentions_in xs) h.room);
  }

  -- ---- if

  if_ok : (test : Typed) (left right : List Step) (h : CanRun s e (step.If test left right ∷ []))
      → (is_typed h.design test && width_of h.design test == 1 && list_all (is_step h.design h.counters) left && list_all (is_step h.design h.counters)
      right) ≡ true
  if_ok test left right h = sym (if_formed h.design h.counters test left right) ∙ one_formed (step.If test left right) h

  if_room : (test : Typed) (left right : List Step) (h : CanRun s e (step.If test left right ∷ []))
      → HasRoom e (room_for h.design (flat_map mentions_in left ++ flat_map mentions_in right))
  if_room test left right h = room_right h.design e (expression test ∷ []) (flat_map mentions_in left ++ flat_map mentions_in right)
      (subst (λ ms. HasRoom e (room_for h.design ms)) (if_mentions test left right) (one_room (step.If test left right) h))

  pub if_test : (test : Typed) (left right : List Step) → CanRun s e (step.If test left right ∷ []) → IsTypedIn s test
  if_test test left right h =
      let d : Design = h.design in
      let l : Bool = list_all (is_step d h.counters) left in
      let r : Bool = list_all (is_step d h.counters) right in
      record {
        design = d;
        of = h.of;
        holds = left_true (is_typed d test) (width_of d test == 1) (left_true (is_typed d test && width_of d test == 1) l
            (left_true (is_typed d test && width_of d test == 1 && l) r (if_ok test left right h)));
      }

  pub if_left : (test : Typed) (left right : List Step) → CanRun s e (step.If test left right ∷ []) → CanRun s e left
  if_left test left right h =
      let d : Design = h.design in
      let l : Bool = list_all (is_step d h.counters) left in
      let r : Bool = list_all (is_step d h.counters) right in
      record {
        design = d;
        counters = h.counters;
        of = h.of;
        variables = h.variables;
        formed = right_true (is_typed d test && width_of d test == 1) l (left_true (is_typed d test && width_of d test == 1 && l) r (if_ok test left right h));
        room = room_left d e (flat_map mentions_in left) (flat_map mentions_in right) (if_room test left right h);
      }

  pub if_right : (test : Typed) (left right : List Step) → CanRun s e (step.If test left right ∷ []) → CanRun s e right
  if_right test left right h =
      let d : Design = h.design in
      let l : Bool = list_all (is_step d h.counters) left in
      let r : Bool = list_all (is_step d h.counters) right in
      record {
        design = d;
        counters = h.counters;
        of = h.of;
        variables = h.variables;
        formed = right_true (is_typed d test && width_of d test == 1 && l) r (if_ok test left right h);
        room = room_right d e (flat_map mentions_in left) (flat_map mentions_in right) (if_room test left right h);
      }

  -- ---- case

  case_ok : (on : Typed) (arms : List StepArm) (rest : List Step) (h : CanRun s e (step.Case on arms rest ∷ []))
      → (is_typed h.design on && list_all (arm_at h.design h.counters (width_of h.design on)) arms && list_all (is_step h.design h.counters) rest) ≡ true
  case_ok on arms rest h = sym (case_formed h.design h.counters on arms rest) ∙ one_formed (step.Case on arms rest) h

  case_room : (on : Typed) (arms : List StepArm) (rest : List Step) (h : CanRun s e (step.Case on arms rest ∷ []))
      → HasRoom e (room_for h.design (flat_map arm_mentions_in arms ++ flat_map mentions_in rest))
  case_room on arms rest h = room_right h.design e (expression on ∷ []) (flat_map arm_mentions_in arms ++ flat_map mentions_in rest)
      (subst (λ ms. HasRoom e (room_for h.design ms)) (case_mentions on arms rest) (one_room (step.Case on arms rest) h))

  case_front : (on : Typed) (arms : List StepArm) (rest : List Step) (h : CanRun s e (step.Case on arms rest ∷ []))
      → (is_typed h.design on && list_all (arm_at h.design h.counters (width_of h.design on)) arms) ≡ true
  case_front on arms rest h = left_true (is_typed h.design on && list_all (arm_at h.design h.counters (width_of h.design on)) arms)
      (list_all (is_step h.design h.counters) rest) (case_ok on arms rest h)

  case_arms : (on : Typed) (arms : List StepArm) (rest : List Step) (h : CanRun s e (step.Case on arms rest ∷ []))
      → list_all (arm_at h.design h.counters (width_of h.design on)) arms ≡ true
  case_arms on arms rest h = right_true (is_typed h.design on) (list_all (arm_at h.design h.counters (width_of h.design on)) arms) (case_front on arms rest h)

  pub case_on : (on : Typed) (arms : List StepArm) (rest : List Step) → CanRun s e (step.Case on arms rest ∷ []) → IsTypedIn s on
  case_on on arms rest h = record {
    design = h.design;
    of = h.of;
    holds = left_true (is_typed h.design on) (list_all (arm_at h.design h.counters (width_of h.design on)) arms) (case_front on arms rest h);
  }

  items_of : (d : Design) (w : ℕ) (items : List StepItem) → list_all (is_item d w) items ≡ true → items_typed d items ≡ true
  items_of d w [] h = refl
  items_of d w (item ∷ items) h =
      let here : is_item d w item ≡ true = left_true (is_item d w item) (list_all (is_item d w) items) h in
      and_from (is_typed d item.value) (items_typed d items)
      (left_true (is_typed d item.value) (width_of d item.value == w)
      (left_true (is_typed d item.value && width_of d item.value == w) (nat_lt item.mask (2 ^ w)) here))
      (items_of d w items (right_true (is_item d w item) (list_all (is_item d w) items) h))

  arms_of : (d : Design) (k w : ℕ) (arms : List StepArm) → list_all (arm_at d k w) arms ≡ true → list_all (λ arm. items_typed d arm.items) arms ≡ true
  arms_of d k w [] h = refl
  arms_of d k w (arm ∷ arms) h =
      let here : arm_at d k w arm ≡ true = left_true (arm_at d k w arm) (list_all (arm_at d k w) arms) h in
      and_from (items_typed d arm.items) (list_all (λ arm. items_typed d arm.items) arms)
      (items_of d w arm.items (left_true (list_all (is_item d w) arm.items) (list_all (is_step d k) arm.body) here))
      (arms_of d k w arms (right_true (arm_at d k w arm) (list_all (arm_at d k w) arms) h))

  pub case_items : (on : Typed) (arms : List StepArm) (rest : List Step) → CanRun s e (step.Case on arms rest ∷ []) → AreArmsIn s arms
  case_items on arms rest h = record
      { design = h.design; of = h.of; holds = arms_of h.design h.counters (width_of h.design on) arms (case_arms on arms rest h) }

  pub case_rest : (on : Typed) (arms : List StepArm) (rest : List Step) → CanRun s e (step.Case on arms rest ∷ []) → CanRun s e rest
  case_rest on arms rest h = record {
    design = h.design;
    counters = h.counters;
    of = h.of;
    variables = h.variables;
    formed = right_true (is_typed h.design on && list_all (arm_at h.design h.counters (width_of h.design on)) arms)
        (list_all (is_step h.design h.counters) rest) (case_ok on arms rest h);
    room = room_right h.design e (flat_map arm_mentions_in arms) (flat_map mentions_in rest) (case_room on arms rest h);
  }

  at_arm : (d : Design) (k w : ℕ) (arms : List StepArm) (i : ℕ) (none : StepArm) → i < length arms → list_all (arm_at d k w) arms ≡ true
      → HasRoom e (room_for d (flat_map arm_mentions_in arms))
      → (list_all (is_step d k) (slice_index_or arms i none).body ≡ true) × HasRoom e (room_for d (flat_map mentions_in (slice_index_or arms i none).body))
  at_arm d k w [] i none lt ok room = absurd (omega (arith, lt))
  at_arm d k w (arm ∷ arms) zero none lt ok room =
      let here : arm_at d k w arm ≡ true = left_true (arm_at d k w arm) (list_all (arm_at d k w) arms) ok in (
        right_true (list_all (is_item d w) arm.items) (list_all (is_step d k) arm.body) here,
        room_right d e (flat_map item_mentions arm.items) (flat_map mentions_in arm.body)
            (subst (λ ms. HasRoom e (room_for d ms)) (arm_mentions_is arm) (room_left d e (arm_mentions_in arm) (flat_map arm_mentions_in arms) room)),
      )
  at_arm d k w (arm ∷ arms) (suc i) none lt ok room =
      at_arm d k w arms i none (omega (arith, lt)) (right_true (arm_at d k w arm) (list_all (arm_at d k w) arms) ok)
      (room_right d e (arm_mentions_in arm) (flat_map arm_mentions_in arms) room)

  pub case_arm : (on : Typed) (arms : List StepArm) (rest : List Step) (i : ℕ) (none : StepArm) → i < length arms → CanRun s e (step.Case on arms rest ∷ [])
      → CanRun s e (slice_index_or arms i none).body
  case_arm on arms rest i none lt h =
      let d : Design = h.design in
      let k : (list_all (is_step d h.counters) (slice_index_or arms i none).body
      ≡ true) × HasRoom e (room_for d (flat_map mentions_in (slice_index_or arms i none).body))
      = at_arm d h.counters (width_of d on) arms i none lt (case_arms on arms rest h)
      (room_left d e (flat_map arm_mentions_in arms) (flat_map mentions_in rest) (case_room on arms rest h)) in
      record { design = d; counters = h.counters; of = h.of; variables = h.variables; formed = k.0; room = k.1 }

  -- ---- assignments

  assigned : (d : Design) (targets : List Target) (value : Typed)
      → (list_all (is_target d) targets && is_typed d value && widths_named d targets == width_of d value) ≡ true
      → IsStateOf d s → (AreTargetsIn s targets) × (IsTypedIn s value) × ((w n : ℕ) → value_in s value ≡ of_width w n → target_widths s targets ≡ w)
  assigned d targets value ok of =
      let front : (list_all (is_target d) targets && is_typed d value)
      ≡ true = left_true (list_all (is_target d) targets && is_typed d value) (widths_named d targets == width_of d value) ok in
      let typed : is_typed d value ≡ true = right_true (list_all (is_target d) targets) (is_typed d value) front in
      let same : (widths_named d targets == width_of d value)
      ≡ true = right_true (list_all (is_target d) targets && is_typed d value) (widths_named d targets == width_of d value) ok in
      let e : widths_named d targets ≡ width_of d value = grind (arith, common_steps) in (
        record { design = d; of = of; holds = left_true (list_all (is_target d) targets) (is_typed d value) front },
        record { design = d; of = of; holds = typed },
        λ w n v. widths_same d s targets of ∙ e ∙ sym (fits d s of value typed).0 ∙ ap (λ a. a.width) v,
      )

  pub set_parts : (targets : List Target) (value : Typed) → CanRun s e (step.Set targets value ∷ [])
      → (AreTargetsIn s targets) × (IsTypedIn s value) × ((w n : ℕ) → value_in s value ≡ of_width w n → target_widths s targets ≡ w)
  set_parts targets value h = assigned h.design targets value
      (sym (steps.fold-Set Bool (ℕ → Bool) (step_formed h.design h.counters) (arm_formed h.design) targets value) ∙ one_formed (step.Set targets value) h) h.of

  pub later_parts : (targets : List Target) (value : Typed) → CanRun s e (step.Later targets value ∷ [])
      → (AreTargetsIn s targets) × (IsTypedIn s value) × ((w n : ℕ) → value_in s value ≡ of_width w n → target_widths s targets ≡ w)
  later_parts targets value h = assigned h.design targets value
      (sym (steps.fold-Later Bool (ℕ → Bool) (step_formed h.design h.counters) (arm_formed h.design) targets value)
      ∙ one_formed (step.Later targets value) h) h.of

  room_of_targets : (d : Design) (targets : List Target) (value : Typed) → HasRoom e (room_for d (assign_mentions targets value))
      → length e.updates + length targets ≤ e.room.updates
  room_of_targets d targets value h = omega (arith, h.for_updates, target_count targets value)

  pub set_room : (targets : List Target) (value : Typed) → CanRun s e (step.Set targets value ∷ []) → length e.updates + length targets ≤ e.room.updates
  set_room targets value h = room_of_targets h.design targets value
      (subst (λ ms. HasRoom e (room_for h.design ms)) (set_mentions targets value) (one_room (step.Set targets value) h))

  pub later_room : (targets : List Target) (value : Typed) → CanRun s e (step.Later targets value ∷ []) → length e.updates + length targets ≤ e.room.updates
  later_room targets value h = room_of_targets h.design targets value
      (subst (λ ms. HasRoom e (room_for h.design ms)) (later_mentions targets value) (one_room (step.Later targets value) h))

  -- ---- the other steps

  pub count_room : (counter : ℕ) → CanRun s e (step.Count counter ∷ []) → length e.raised + 1 ≤ e.room.counters
  count_room counter h = (subst (λ ms. HasRoom e (room_for h.design ms)) (count_mentions counter) (one_room (step.Count counter) h)).for_counters

  pub show_pieces : (pieces : List Piece) → CanRun s e (step.Show pieces ∷ []) → ArePiecesIn s pieces
  show_pieces pieces h = record {
    design = h.design;
    of = h.of;
    holds = sym (steps.fold-Show Bool (ℕ → Bool) (step_formed h.design h.counters) (arm_formed h.design) pieces) ∙ one_formed (step.Show pieces) h;
  }

  pub show_room : (pieces : List Piece) → CanRun s e (step.Show pieces ∷ []) → length e.text + length (flat_map (piece_text s) pieces) ≤ e.room.bytes
  show_room pieces h =
      let d : Design = h.design in
      let room : HasRoom e (room_for d (show_mentions_of pieces)) =
      subst (λ ms. HasRoom e (room_for d ms)) (show_mentions pieces) (one_room (step.Show pieces) h) in
      let ok : list_all (is_piece d) pieces ≡ true = sym (steps.fold-Show Bool (ℕ → Bool) (step_formed d h.counters) (arm_formed d) pieces)
      ∙ one_formed (step.Show pieces) h in
      omega (arith, room.for_bytes, show_fits d s h.of h.variables pieces ok)
