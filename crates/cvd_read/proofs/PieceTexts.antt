-- No word of a text's pieces has a blank.
use Rattle.std.proofs.Common.{◌≡◌, ℕ, Bool, true, false, List, [], ◌∷◌, refl, ap, cond}
use Rattle.std.specs.Prelude.{◌==◌, ◌&&◌, not}
use Rattle.std.specs.List.{list_all}
use Rattle.spelling_laws.proofs.Fitting.{first_true, second_true, both_true}
use Rattle.cvd_text.specs.Pieces.{Piece, a_word, feed, onto_word, empty_word, pieces_of}
use Rattle.cvd_sections.specs.Keys.{AreCut, is_blank, is_cut}

onto_cut : (b : ℕ) (ps : List Piece) → (b == 32) ≡ false → AreCut ps → AreCut (onto_word b ps)
onto_cut b [] other h = refl
onto_cut b (a_word text ∷ ps) other h =
    let clean = list_all (λ c. not (is_blank c)) text in
    both_true (not (is_blank b) && clean) (list_all is_cut ps)
    (both_true (not (is_blank b)) clean (ap not other) (first_true clean (list_all is_cut ps) h)) (second_true clean (list_all is_cut ps) h)
onto_cut b (feed ∷ ps) other h =
    both_true (not (is_blank b) && true) (list_all is_cut ps) (both_true (not (is_blank b)) true (ap not other) refl) h

empty_cut : (ps : List Piece) → AreCut ps → AreCut (empty_word ps)
empty_cut [] h = refl
empty_cut (p ∷ ps) h = h

more_cut : (b : ℕ) (ps : List Piece) → AreCut ps → (t q : Bool) → (b == 32) ≡ q
    → AreCut (cond t (a_word [] ∷ feed ∷ ps) (cond q (empty_word ps) (onto_word b ps)))
more_cut b ps h true q e = h
more_cut b ps h false true e = empty_cut ps h
more_cut b ps h false false e = onto_cut b ps e h

pub pieces_cut : (text : List ℕ) → AreCut (pieces_of text)
pieces_cut [] = refl
pieces_cut (b ∷ bs) = more_cut b (pieces_of bs) (pieces_cut bs) (b == 10) (b == 32) refl
