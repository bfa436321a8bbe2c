-- The parts of steps are apart: words, numbers, expressions, lists of targets and of pieces, items; and the end of a block is told from its steps.
use Rattle.std.proofs.Common.{◌≡◌, ℕ, Bool, true, false, List, [], ◌∷◌, ◌++◌, refl, sym, ◌∙◌, ap, subst}
use Rattle.std.specs.Prelude.{codes, find}
use Rattle.std.specs.Str.{bytes_eq}
use Rattle.std.specs.Option.{option_map_or}
use Rattle.design_tree.specs.declared.step.Piece.{Piece}
use Rattle.design_tree.specs.declared.step.StepItem.{StepItem}
use Rattle.design_tree.specs.declared.step.Target.{Target}
use Rattle.design_tree.specs.declared.typed.Typed.{Typed}
use Rattle.cvd_text.specs.Tokens.{word}
use Rattle.cvd_text.specs.Lines.{Load, stands}
use Rattle.cvd_text.specs.Pieces.{Piece as TextPiece, a_word, feed, Mark, token, fits}
use Rattle.cvd_text.specs.Expressions.{tokens_of}
use Rattle.cvd_text.specs.Targets.{target_tokens, piece_tokens}
use Rattle.cvd_text.specs.Steps.{Around, item_line}
use Rattle.cvd_cursor.specs.Numerals.{number_tokens, hex_tokens}
use Rattle.cvd_cursor.specs.Reads.{marks, line_marks}
use Rattle.spelling_laws.specs.Spelled.{ApartAt, Apart}
use Rattle.spelling_laws.proofs.Counted.{all_apart}
use Rattle.spelling_laws.proofs.One as single
use Rattle.spelling_laws.proofs.Then as after
use Rattle.cvd_laws.specs.Expressions.{is_token}
use Rattle.cvd_laws.proofs.Marks.{apart_marks}
use Rattle.cvd_laws.proofs.Typeds as typeds
use Rattle.cvd_laws.proofs.Targets.{apart_target}
use Rattle.cvd_laws.proofs.Pieces.{apart_piece}
use Rattle.cvd_step_laws.specs.LineMarks.{each_tokens, unchanged}
use Rattle.cvd_step_laws.specs.StepMarks.{this_word, targets_marks, pieces_marks, item_marks, behind_item, items_marks, ItemParts, item_of, item_parts}
use Rattle.cvd_step_laws.specs.StepMarks.{StepHead, a_set, a_later, an_if, a_case, a_show, a_finish, a_stop, a_count, step_word, step_tokens}
use Rattle.cvd_step_laws.proofs.StepParts.{made_item, parts_of_item, item_alike}

-- ---- single marks

pub apart_end : (stands : Bool) → Apart fits (line_marks stands)
apart_end stands u v h = refl

pub apart_word : (text : List ℕ) → Apart fits (marks (this_word text))
apart_word text u v h = refl

pub apart_number : Apart fits (marks number_tokens)
apart_number n = apart_marks number_tokens n (typeds.apart_number n)

pub apart_hex : Apart fits (marks hex_tokens)
apart_hex n = apart_marks hex_tokens n (typeds.apart_hex n)

pub apart_value : Apart fits (marks tokens_of)
apart_value value = apart_marks tokens_of value (typeds.apart_typed value)

-- ---- lists

pub apart_targets : (n : ℕ) → Apart fits (targets_marks n)
apart_targets n = all_apart fits Target (Unit {0}) (each_tokens target_tokens) unchanged (λ u t. apart_marks target_tokens t (apart_target t)) n tt

pub apart_pieces : (n : ℕ) → Apart fits (pieces_marks n)
apart_pieces n = all_apart fits Piece (Unit {0}) (each_tokens piece_tokens) unchanged (λ u p. apart_marks piece_tokens p (apart_piece p)) n tt

-- ---- one behind another

-- a word that has to stand there tells nothing
pub word_then : (text : List ℕ) (B : Type 0) (s : B → List Mark) (b : B) → ApartAt fits s b
    → ApartAt fits {A = (u : Unit {0}) × B} (λ p. marks (this_word text) p.0 ++ s p.1) (tt, b)
word_then text B s b apart = after.apart_pair fits (Unit {0}) (λ u. B) (marks (this_word text)) (λ u. s) tt b (apart_word text tt) apart

-- nor does the end of a line
pub end_then : (stands : Bool) (B : Type 0) (s : B → List Mark) (b : B) → ApartAt fits s b
    → ApartAt fits {A = (u : Unit {0}) × B} (λ p. line_marks stands p.0 ++ s p.1) (tt, b)
end_then stands B s b apart = after.apart_pair fits (Unit {0}) (λ u. B) (line_marks stands) (λ u. s) tt b (apart_end stands tt) apart

pub number_then : (B : ℕ → Type 0) (s : (n : ℕ) → B n → List Mark) (n : ℕ) (b : B n) → ApartAt fits (s n) b
    → ApartAt fits {A = (n : ℕ) × B n} (λ p. marks number_tokens p.0 ++ s p.0 p.1) (n, b)
number_then B s n b apart = after.apart_pair fits ℕ B (marks number_tokens) s n b (apart_number n) apart

pub value_then : (B : Typed → Type 0) (s : (value : Typed) → B value → List Mark) (value : Typed) (b : B value) → ApartAt fits (s value) b
    → ApartAt fits {A = (value : Typed) × B value} (λ p. marks tokens_of p.0 ++ s p.0 p.1) (value, b)
value_then B s value b apart = after.apart_pair fits Typed B (marks tokens_of) s value b (apart_value value) apart

-- ---- items

module _ (around : Around) (width : ℕ) where
  pub apart_item : (before : Load) → Apart fits (item_marks around width before)
  apart_item before item =
      single.apart_via fits ItemParts StepItem made_item parts_of_item (λ b. refl) (item_parts around width before) (item_marks around width before)
      (item_alike around width before) item
      (word_then (codes "item") _ _ _
      (after.apart_pair fits ℕ (λ mask. (value : Typed) × Unit {0}) (marks hex_tokens)
      (λ mask q. marks tokens_of q.0 ++ line_marks (stands before (item_line around width (item_of mask q.0))) q.1) item.mask (item.value, tt)
      (apart_hex item.mask)
      (value_then (λ value. Unit {0}) (λ value. line_marks (stands before (item_line around width (item_of item.mask value)))) item.value tt (apart_end _ tt))))

  pub apart_items : (before : Load) (n : ℕ) → Apart fits (items_marks around width before n)
  apart_items before n = all_apart fits StepItem Load (item_marks around width) (behind_item around width) apart_item n before

-- ---- first words

abbrev all_heads : List StepHead
all_heads = a_set ∷ a_later ∷ an_if ∷ a_case ∷ a_show ∷ a_finish ∷ a_stop ∷ a_count ∷ []

abbrev head_of : List ℕ → StepHead
head_of text = option_map_or (λ h. h) (find (λ h. bytes_eq text (step_word h)) all_heads) a_set

head_back : (h : StepHead) → head_of (step_word h) ≡ h
head_back a_set = refl
head_back a_later = refl
head_back an_if = refl
head_back a_case = refl
head_back a_show = refl
head_back a_finish = refl
head_back a_stop = refl
head_back a_count = refl

same_heads : (p : List ℕ) (v w : StepHead) → is_token p (word (step_word v)) ≡ true → is_token p (word (step_word w)) ≡ true → v ≡ w
same_heads p v w e f =
    sym (head_back v) ∙ ap head_of (sym (typeds.same_text p (step_word v) e) ∙ typeds.same_text p (step_word w) f) ∙ head_back w

pub apart_head : Apart fits (marks step_tokens)
apart_head h = apart_marks step_tokens h (single.apart_one is_token StepHead (λ k. word (step_word k)) same_heads h)

not_end : (h : StepHead) → bytes_eq (codes "end") (step_word h) ≡ false
not_end a_set = refl
not_end a_later = refl
not_end an_if = refl
not_end a_case = refl
not_end a_show = refl
not_end a_finish = refl
not_end a_stop = refl
not_end a_count = refl

-- the word `end` begins no step
pub end_told : (h : StepHead) (p : TextPiece) → fits p (token (word (codes "end"))) ≡ true → fits p (token (word (step_word h))) ≡ false
end_told h (a_word text) e = subst (λ t. bytes_eq t (step_word h) ≡ false) (sym (typeds.same_text text (codes "end") e)) (not_end h)
end_told h feed e = refl
