-- Displayed pieces that were read so far, and one more.
use Rattle.std.proofs.Common.{◌≡◌, ℕ, ◌+◌, ◌-◌, ◌<◌, ◌≤◌, ◌^◌, Bool, true, false, List, [], ◌∷◌, ◌++◌, Option, Some, refl, ◌∙◌, ap, subst, arith}
use Rattle.std.specs.Prelude.{◌&&◌, min, nat_le, IfOk, Result, Ok, Err}
use Rattle.std.proofs.lemmas.Bool.{true≢false}
use Rattle.std.proofs.lemmas.Bool.Decides.{nat_tests}
use Rattle.cov_types.specs.declared.no_memory.NoMemory.{NoMemory}
use Rattle.cov_types.specs.Limits.{most}
use Rattle.cov_types.specs.declared.limit.LimitName.TheVariants as limit
use Rattle.design_tree.specs.declared.design.Design.{Design}
use Rattle.design_tree.specs.declared.step.Piece.{Piece}
use Rattle.design_meaning.specs.Mentions.{piece_length}
use Rattle.cvd_text.specs.Targets.{is_piece, piece_nodes}
use Rattle.cvd_targets.specs.PieceParts.{IsShown, AreShown, PieceIn, SoFar, may_be_piece, may_be_pieces}
use Rattle.cvd_targets.specs.declared.piece.Shown.{Shown}
use Rattle.cvd_targets.specs.declared.pieces.Pieces.{Pieces}
use Rattle.cvd_targets.proofs.Lists as lists

pub none_yet : (d : Design) (items : List Piece) → items ≡ [] → AreShown d [] (record { items = items; nodes = 0; shown = 0 })
none_yet d items e = record { items_are = e; nodes_are = refl; stand = refl; shown_is = refl }

module _ (d : Design) (ps : List Piece) (p : Piece) where
  pub not_before : may_be_pieces d ps ≡ false → may_be_pieces d (ps ++ p ∷ []) ≡ false
  not_before = lists.not_before (is_piece d) piece_nodes (piece_length d) (most limit.Nodes) (most limit.EdgeText) ps p

  pub not_one : may_be_piece d p ≡ false → may_be_pieces d (ps ++ p ∷ []) ≡ false
  not_one = lists.not_one (is_piece d) piece_nodes (piece_length d) (most limit.Nodes) (most limit.EdgeText) ps p

  module _ (x : Pieces) (y : Shown) (h : AreShown d ps x) (o : IsShown d p y) where
    pub not_few : most limit.Nodes < x.nodes + y.nodes → may_be_pieces d (ps ++ p ∷ []) ≡ false
    not_few e = lists.not_first (is_piece d) piece_nodes (piece_length d) (most limit.Nodes) (most limit.EdgeText) ps p
        (let a = h.nodes_are in let b = o.nodes_are in omega arith)

    pub not_short : most limit.EdgeText < x.shown + y.shown → may_be_pieces d (ps ++ p ∷ []) ≡ false
    not_short e = lists.not_second (is_piece d) piece_nodes (piece_length d) (most limit.Nodes) (most limit.EdgeText) ps p
        (let a = h.shown_is in let b = o.shown_is in omega arith)

    pub one_more : (items : List Piece) (nodes shown : ℕ) → items ≡ x.items ++ y.piece ∷ [] → nodes ≡ x.nodes + y.nodes → nodes ≤ most limit.Nodes
        → shown ≡ x.shown + y.shown → shown ≤ most limit.EdgeText
        → AreShown d (ps ++ p ∷ []) (record { items = items; nodes = nodes; shown = shown })
    one_more items nodes shown e n few s low =
        let a = h.shown_is in
        let b = o.shown_is in
        let u = h.nodes_are in
        let v = o.nodes_are in
        let sum = lists.total_more (is_piece d) piece_nodes (piece_length d) (most limit.Nodes) (most limit.EdgeText) piece_nodes ps p in
        let bytes = lists.total_more (is_piece d) piece_nodes (piece_length d) (most limit.Nodes) (most limit.EdgeText) (piece_length d) ps p in
        record {
          items_are = e ∙ ap (λ l. l ++ y.piece ∷ []) h.items_are ∙ ap (λ z. ps ++ z ∷ []) o.piece_is;
          nodes_are = omega arith;
          stand = lists.more_fits (is_piece d) piece_nodes (piece_length d) (most limit.Nodes) (most limit.EdgeText) ps p h.stand
              (lists.left_of (is_piece d p) (nat_le (piece_nodes p) (most limit.Nodes))
              (lists.left_of (is_piece d p && nat_le (piece_nodes p) (most limit.Nodes)) (nat_le (piece_length d p) (most limit.EdgeText)) o.stands))
              (omega arith) (omega arith);
          shown_is = omega arith;
        }

pub within_nodes : (nodes shown : ℕ) → (nat_le nodes 4194304 && nat_le shown 16777216) ≡ true → nodes ≤ 4194304
within_nodes nodes shown e = lists.le_of nodes 4194304 (lists.left_of (nat_le nodes 4194304) (nat_le shown 16777216) e)

pub within_shown : (nodes shown : ℕ) → (nat_le nodes 4194304 && nat_le shown 16777216) ≡ true → shown ≤ 16777216
within_shown nodes shown e = lists.le_of shown 16777216 (lists.right_of (nat_le nodes 4194304) (nat_le shown 16777216) e)

pub not_within : (d : Design) (ps : List Piece) (p : Piece) (x : Pieces) (y : Shown) → AreShown d ps x → IsShown d p y → (nodes shown : ℕ)
    → nodes ≡ min (x.nodes + y.nodes) (2 ^ 64 - 1) → shown ≡ min (x.shown + y.shown) (2 ^ 64 - 1)
    → (nat_le nodes 4194304 && nat_le shown 16777216) ≡ false → may_be_pieces d (ps ++ p ∷ []) ≡ false
not_within d ps p x y h o nodes shown e f k = by (nat_le nodes 4194304) (nat_le shown 16777216) refl refl k
  where
    above : (n m : ℕ) → nat_le n m ≡ false → m < n
    above n m e = grind (arith, nat_tests)

    by : (a b : Bool) → nat_le nodes 4194304 ≡ a → nat_le shown 16777216 ≡ b → (a && b) ≡ false → may_be_pieces d (ps ++ p ∷ []) ≡ false
    by false b q r k = not_few d ps p x y h o (lists.over x.nodes y.nodes nodes 4194304 e (above nodes 4194304 q))
    by true false q r k = not_short d ps p x y h o (lists.over x.shown y.shown shown 16777216 f (above shown 16777216 r))
    by true true q r k = absurd (true≢false k)

abbrev pub Answer : Type 0
Answer = Result Bool NoMemory

-- what was put behind pieces that all may stand
pub kept_so : (whole : Bool) (kept : Pieces) (one : Shown) (given : Option Shown) (result : Answer) (new : Pieces) → whole ≡ true → given ≡ Some one
    → IfOk result (λ done. (d : Design) (ps : List Piece) (p : Piece) → AreShown d ps kept → IsShown d p one → SoFar d (ps ++ p ∷ []) done new)
    → IfOk result (λ done. (d : Design) (ps : List Piece) (p : Piece) → SoFar d ps whole kept → PieceIn d p given → SoFar d (ps ++ p ∷ []) done new)
kept_so whole kept one given (Ok done) new w g h = λ d ps p s o. h d ps p (subst (λ b. SoFar d ps b kept) w s) (subst (PieceIn d p) g o)
kept_so whole kept one given (Err fault) new w g h = tt
