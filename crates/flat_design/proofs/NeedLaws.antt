-- The room that steps, pieces and arms need.
use Rattle.std.proofs.Common.{◌≡◌, ◌∙◌, ap, sym, refl, ℕ, suc, ◌+◌, ◌==◌, Bool, true, ◌&&◌, List, [], ◌∷◌, ◌++◌, length, map, arith}
use Rattle.std.specs.Prelude.{flat_map}
use Rattle.std.specs.List.{list_all}
use Rattle.design_tree.specs.declared.design.Design.{Design}
use Rattle.design_tree.specs.declared.typed.Typed.{Typed}
use Rattle.design_tree.specs.declared.step.Target.{Target}
use Rattle.design_tree.specs.declared.step.Piece.{Piece}
use Rattle.design_tree.specs.declared.step.Piece.TheVariants as piece
use Rattle.design_tree.specs.declared.step.StepItem.{StepItem}
use Rattle.design_tree.specs.declared.step.StepArm.{StepArm}
use Rattle.design_tree.specs.declared.step.Step.{Step}
use Rattle.design_tree.specs.declared.step.Step.TheVariants as step
use Rattle.circuit_run.specs.States.{State}
use Rattle.circuit_run.specs.Lists.{total}
use Rattle.circuit_run.specs.Digits.{hex_columns, decimal_columns}
use Rattle.design_meaning.specs.States.{IsStateOf}
use Rattle.design_meaning.specs.Values.{of_width, value_in}
use Rattle.design_meaning.specs.Widths.{width_of}
use Rattle.design_meaning.specs.WellTyped.{is_typed, is_piece}
use Rattle.design_meaning.specs.WellFormed.{is_step, step_formed, arm_formed}
use Rattle.design_meaning.specs.Mentions.{Mention, expression, shown, item_mentions, piece_length, piece_mentions}
use Rattle.design_meaning.proofs.ListLaws.{left_true, right_true}
use Rattle.design_meaning.proofs.StepFolds as steps
use Rattle.design_meaning.proofs.ValuesFit.{fits}
use Rattle.piece_text.specs.DigitCounts.{columns_for}
use Rattle.flat_design.specs.Effects.{Room, room_for, sum_of}
use Rattle.flat_design.specs.InDesign.{mentions_in}
use Rattle.flat_design.specs.Needed.{arm_mentions_in, arm_at}
use Rattle.flat_design.proofs.Rooms.{room_parts, room_append, no_room, sum_more, none_sum}
use Rattle.flat_design.proofs.StepsIn.{if_formed, case_formed, if_mentions, case_mentions, arm_mentions_is, set_mentions, later_mentions, count_mentions}
use Rattle.flat_design.proofs.StepsIn.{show_mentions, assign_mentions}

-- ---- pieces

columns_is : (is_signed : Bool) (w : ℕ) → columns_for is_signed w ≡ decimal_columns is_signed w
unfolding columns_for
columns_is is_signed w = refl

width_is : (d : Design) (s : State) (x : Typed) (w n : ℕ) → IsStateOf d s → is_typed d x ≡ true → value_in s x ≡ of_width w n → w ≡ width_of d x
width_is d s x w n of ok v = sym (ap (λ a. a.width) v) ∙ (fits d s of x ok).0

pub dec_need : (d : Design) (s : State) (is_signed short : Bool) (x : Typed) (w n : ℕ) → IsStateOf d s → is_typed d x ≡ true → value_in s x ≡ of_width w n
    → columns_for is_signed w ≡ piece_length d (piece.Dec is_signed short x)
dec_need d s is_signed short x w n of ok v = columns_is is_signed w ∙ ap (decimal_columns is_signed) (width_is d s x w n of ok v)

pub hex_need : (d : Design) (s : State) (short : Bool) (x : Typed) (w n : ℕ) → IsStateOf d s → is_typed d x ≡ true → value_in s x ≡ of_width w n
    → hex_columns w ≡ piece_length d (piece.Hex short x)
hex_need d s short x w n of ok v = ap hex_columns (width_is d s x w n of ok v)

pub bin_need : (d : Design) (s : State) (short : Bool) (x : Typed) (w n : ℕ) → IsStateOf d s → is_typed d x ≡ true → value_in s x ≡ of_width w n
    → w ≡ piece_length d (piece.Bin short x)
bin_need d s short x w n of ok v = width_is d s x w n of ok v

-- ---- mentions

module _ (d : Design) where
  none_of_expression : (x : Typed) (ms : List Mention) → room_for d (expression x ∷ ms) ≡ room_for d ms
  none_of_expression x ms = room_parts (room_for d (expression x ∷ ms)) (room_for d ms) refl (omega arith) refl

  none_of_items : (items : List StepItem) → room_for d (flat_map item_mentions items) ≡ no_room
  none_of_items [] = refl
  none_of_items (item ∷ items) = none_of_expression item.value (flat_map item_mentions items) ∙ none_of_items items

  none_of_pieces : (ps : List Piece) → room_for d (flat_map piece_mentions ps) ≡ no_room
  none_of_pieces [] = refl
  none_of_pieces (p ∷ ps) = room_append d (piece_mentions p) (flat_map piece_mentions ps)
      ∙ ap (λ a. sum_of a (room_for d (flat_map piece_mentions ps))) (one p) ∙ none_sum _ ∙ none_of_pieces ps
    where
      one : (p : Piece) → room_for d (piece_mentions p) ≡ no_room
      one (piece.Text bytes) = refl
      one (piece.Dec is_signed short x) = none_of_expression x []
      one (piece.Hex short x) = none_of_expression x []
      one (piece.Bin short x) = none_of_expression x []

  shown_room : (ps : List Piece) → room_for d (map shown ps) ≡ record { updates = 0; bytes = total (map (piece_length d) ps); counters = 0 }
  shown_room [] = refl
  shown_room (p ∷ ps) =
      let e : room_for d (map shown ps) ≡ record { updates = 0; bytes = total (map (piece_length d) ps); counters = 0 } = shown_room ps in
      room_parts (room_for d (map shown (p ∷ ps))) (record { updates = 0; bytes = total (map (piece_length d) (p ∷ ps)); counters = 0 })
      (ap (λ r. r.updates) e) (ap (λ r. piece_length d p + r.bytes) e) (ap (λ r. r.counters) e)

  target_room : (ts : List Target) (value : Typed) → room_for d (assign_mentions ts value) ≡ record { updates = length ts; bytes = 0; counters = 0 }
  target_room [] value = none_of_expression value []
  target_room (t ∷ ts) value =
      let e : room_for d (assign_mentions ts value) ≡ record { updates = length ts; bytes = 0; counters = 0 } = target_room ts value in
      room_parts (room_for d (assign_mentions (t ∷ ts) value)) (record { updates = length (t ∷ ts); bytes = 0; counters = 0 })
      (ap (λ r. suc r.updates) e) (omega (arith, ap (λ r. r.bytes) e)) (ap (λ r. r.counters) e)

  -- ---- steps

  pub set_need : (ts : List Target) (value : Typed) → record { updates = length ts; bytes = 0; counters = 0 } ≡ room_for d (mentions_in (step.Set ts value))
  set_need ts value = sym (ap (room_for d) (set_mentions ts value) ∙ target_room ts value)

  pub later_need : (ts : List Target) (value : Typed) → record { updates = length ts; bytes = 0; counters = 0 } ≡ room_for d (mentions_in (step.Later ts value))
  later_need ts value = sym (ap (room_for d) (later_mentions ts value) ∙ target_room ts value)

  pub count_need : (counter : ℕ) → record { updates = 0; bytes = 0; counters = 1 } ≡ room_for d (mentions_in (step.Count counter))
  count_need counter = sym (ap (room_for d) (count_mentions counter))

  pub show_need : (ps : List Piece) → record { updates = 0; bytes = total (map (piece_length d) ps); counters = 0 } ≡ room_for d (mentions_in (step.Show ps))
  show_need ps = sym (ap (room_for d) (show_mentions ps) ∙ room_append d (map shown ps) (flat_map piece_mentions ps)
      ∙ ap (λ b. sum_of (room_for d (map shown ps)) b) (none_of_pieces ps) ∙ ap (λ a. sum_of a no_room) (shown_room ps)
      ∙ room_parts _ (record { updates = 0; bytes = total (map (piece_length d) ps); counters = 0 }) (omega arith) (omega arith) (omega arith))

  pub show_formed : (k : ℕ) (ps : List Piece) → is_step d k (step.Show ps) ≡ true → list_all (is_piece d) ps ≡ true
  show_formed k ps ok = sym (steps.fold-Show Bool (ℕ → Bool) (step_formed d k) (arm_formed d) ps) ∙ ok

  two_blocks : (x : Typed) (ms ns : List Mention) → room_for d (expression x ∷ ms ++ ns) ≡ sum_of (room_for d ms) (room_for d ns)
  two_blocks x ms ns = none_of_expression x (ms ++ ns) ∙ room_append d ms ns

  pub if_need : (k : ℕ) (test : Typed) (left right : List Step) (a b : Room) → is_step d k (step.If test left right) ≡ true
      → (list_all (is_step d k) left ≡ true → a ≡ room_for d (flat_map mentions_in left)) → (list_all (is_step d k) right ≡ true
      → b ≡ room_for d (flat_map mentions_in right))
      → sum_of a b ≡ room_for d (mentions_in (step.If test left right))
  if_need k test left right a b ok l r =
      let front : Bool = is_typed d test && width_of d test == 1 in
      let ok' : (front && list_all (is_step d k) left && list_all (is_step d k) right) ≡ true = sym (if_formed d k test left right) ∙ ok in
      let okl : list_all (is_step d k) left
      ≡ true = right_true front (list_all (is_step d k) left) (left_true (front && list_all (is_step d k) left) (list_all (is_step d k) right) ok') in
      let okr : list_all (is_step d k) right ≡ true = right_true (front && list_all (is_step d k) left) (list_all (is_step d k) right) ok' in
      ap (λ x. sum_of x b) (l okl) ∙ ap (sum_of (room_for d (flat_map mentions_in left))) (r okr)
      ∙ sym (ap (room_for d) (if_mentions test left right) ∙ two_blocks test (flat_map mentions_in left) (flat_map mentions_in right))

  pub case_need : (k : ℕ) (on : Typed) (arms : List StepArm) (rest : List Step) (a b : Room) → is_step d k (step.Case on arms rest) ≡ true
      → (list_all (arm_at d k (width_of d on)) arms ≡ true → a ≡ room_for d (flat_map arm_mentions_in arms)) → (list_all (is_step d k) rest ≡ true
      → b ≡ room_for d (flat_map mentions_in rest))
      → sum_of a b ≡ room_for d (mentions_in (step.Case on arms rest))
  case_need k on arms rest a b ok l r =
      let la : Bool = list_all (arm_at d k (width_of d on)) arms in
      let ok' : (is_typed d on && la && list_all (is_step d k) rest) ≡ true = sym (case_formed d k on arms rest) ∙ ok in
      let okl : la ≡ true = right_true (is_typed d on) la (left_true (is_typed d on && la) (list_all (is_step d k) rest) ok') in
      let okr : list_all (is_step d k) rest ≡ true = right_true (is_typed d on && la) (list_all (is_step d k) rest) ok' in
      ap (λ x. sum_of x b) (l okl) ∙ ap (sum_of (room_for d (flat_map arm_mentions_in arms))) (r okr)
      ∙ sym (ap (room_for d) (case_mentions on arms rest) ∙ two_blocks on (flat_map arm_mentions_in arms) (flat_map mentions_in rest))

  pub arm_need : (arm : StepArm) → room_for d (flat_map mentions_in arm.body) ≡ room_for d (arm_mentions_in arm)
  arm_need arm = sym (ap (room_for d) (arm_mentions_is arm) ∙ room_append d (flat_map item_mentions arm.items) (flat_map mentions_in arm.body)
      ∙ ap (λ a. sum_of a (room_for d (flat_map mentions_in arm.body))) (none_of_items arm.items) ∙ none_sum (room_for d (flat_map mentions_in arm.body)))

  -- one more of a list
  pub one_need : {X : Type 0} (f : X → List Mention) (x : X) (xs : List X) (before more all after : Room)
      → sum_of before (room_for d (flat_map f (x ∷ xs))) ≡ all
      → more ≡ room_for d (f x) → after ≡ sum_of before more → sum_of after (room_for d (flat_map f xs)) ≡ all
  one_need f x xs before more all after inv m a =
      ap (λ r. sum_of r (room_for d (flat_map f xs))) (a ∙ ap (sum_of before) m) ∙ sum_more before (room_for d (f x)) (room_for d (flat_map f xs))
      ∙ ap (sum_of before) (sym (room_append d (f x) (flat_map f xs))) ∙ inv
