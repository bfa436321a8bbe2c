-- First words that tell a form by a table.
use Rattle.std.proofs.Common.{◌≡◌, ℕ, Bool, true, false, cond, List, [], ◌∷◌, Some, None, refl, sym, ◌∙◌, ap}
use Rattle.std.specs.Prelude.{◌&&◌}
use Rattle.std.specs.List.{list_all}
use Rattle.std.specs.Str.{bytes_eq}
use Rattle.std.specs.Cmp.Lexicographic.{bytes_decides}
use Rattle.std.proofs.lemmas.Bool.{cases_Bool, true≢false}
use mathlib.Core.Logic.{inl, inr}
use Rattle.cvd_text.specs.Tokens.{word}
use Rattle.cvd_text.specs.Pieces.{Piece, a_word, feed, Mark, fits, token}
use Rattle.spelling_laws.specs.Spelled.{Apart}
use Rattle.spelling_laws.proofs.One as single
use Rattle.cvd_nodes.specs.Heads.{Entry, look_up}

same_text : (x y : List ℕ) → bytes_eq x y ≡ true → x ≡ y
same_text x y e = (bytes_decides x y).0 e

some_same : {A : Type 0} (x y : A) → Some x ≡ Some y → x ≡ y
some_same x y e = cc

module _ {A : Type 0} (word_of : A → List ℕ) where
  -- each entry has the word of what it tells
  abbrev pub is_right : List (Entry A) → Bool
  is_right es = list_all (λ (e : Entry A). bytes_eq e.text (word_of e.tells)) es

  pub word_found : (es : List (Entry A)) (text : List ℕ) (a : A) → is_right es ≡ true → look_up es text ≡ Some a → bytes_eq text (word_of a) ≡ true
  word_found [] text a right e = absurd (cc)
  word_found (x ∷ es) text a right e =
      by (bytes_eq text x.text) refl (bytes_eq x.text (word_of x.tells)) refl right e (λ r. word_found es text a r)
    where
      by : (t : Bool) → bytes_eq text x.text ≡ t → (q : Bool) → bytes_eq x.text (word_of x.tells) ≡ q → (q && is_right es) ≡ true
          → cond t (Some x.tells) (look_up es text) ≡ Some a → (is_right es ≡ true → look_up es text ≡ Some a → bytes_eq text (word_of a) ≡ true)
          → bytes_eq text (word_of a) ≡ true
      by true p true q r f later =
          let tells : x.tells ≡ a = cc in
          ap (λ l. bytes_eq l (word_of a)) (same_text text x.text p) ∙ ap (λ y. bytes_eq x.text (word_of y)) (sym tells) ∙ q
      by true p false q r f later = absurd (true≢false (sym r))
      by false p true q r f later = later r f
      by false p false q r f later = absurd (true≢false (sym r))

  module _ (table : List (Entry A)) (again : (a : A) → look_up table (word_of a) ≡ Some a) where
    pub word_none : (text : List ℕ) → look_up table text ≡ None → (a : A) → bytes_eq text (word_of a) ≡ false
    word_none text e a = elim (cases_Bool (bytes_eq text (word_of a))) [
      | inl same ↦ let back = sym (again a) ∙ ap (look_up table) (sym (same_text text (word_of a) same)) ∙ e in absurd (cc)
      | inr other ↦ other
    ]

    same_words : (p : Piece) (v w : A) → fits p (token (word (word_of v))) ≡ true → fits p (token (word (word_of w))) ≡ true → v ≡ w
    same_words (a_word text) v w e f =
        some_same v w (sym (again v) ∙ ap (look_up table) (sym (same_text text (word_of v) e) ∙ same_text text (word_of w) f) ∙ again w)
    same_words feed v w e f = absurd (true≢false (sym e))

    abbrev pub word_marks : A → List Mark
    word_marks a = token (word (word_of a)) ∷ []

    pub apart_word : Apart fits word_marks
    apart_word a = single.apart_one fits A (λ k. token (word (word_of k))) same_words a
