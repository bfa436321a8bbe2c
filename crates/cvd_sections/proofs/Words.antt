-- Words that tell values by a table.
use Rattle.std.proofs.Common.{◌≡◌, ℕ, Bool, true, false, cond, List, [], ◌∷◌, Some, None, refl, sym, ◌∙◌, ap}
use Rattle.std.specs.Prelude.{◌&&◌}
use Rattle.std.specs.List.{list_all}
use Rattle.std.specs.Str.{bytes_eq}
use Rattle.std.proofs.lemmas.Bool.{cases_Bool, true≢false}
use mathlib.Core.Logic.{inl, inr}
use Rattle.cvd_text.specs.Tokens.{word}
use Rattle.cvd_text.specs.Pieces.{Piece, a_word, feed, fits, token}
use Rattle.spelling_laws.specs.Spelled.{Apart}
use Rattle.spelling_laws.proofs.One as single
use Rattle.cvd_laws.proofs.Typeds.{same_text}
use Rattle.cvd_cursor.specs.Reads.{marks}
use Rattle.cvd_nodes.specs.Heads.{Entry, look_up}

module _ {A : Type 0} (word_of : A → List ℕ) where
  -- each entry of a table has the word of what it tells
  abbrev pub is_right : List (Entry A) → Bool
  is_right es = list_all (λ (e : Entry A). bytes_eq e.text (word_of e.tells)) es

  pub found : (es : List (Entry A)) (text : List ℕ) (a : A) → is_right es ≡ true → look_up es text ≡ Some a → bytes_eq text (word_of a) ≡ true
  found [] text a right e = absurd (cc)
  found (x ∷ es) text a right e =
      by (bytes_eq text x.text) refl (bytes_eq x.text (word_of x.tells)) refl right e (λ r. found es text a r)
    where
      by : (t : Bool) → bytes_eq text x.text ≡ t → (q : Bool) → bytes_eq x.text (word_of x.tells) ≡ q → (q && is_right es) ≡ true
          → cond t (Some x.tells) (look_up es text) ≡ Some a → (is_right es ≡ true → look_up es text ≡ Some a → bytes_eq text (word_of a) ≡ true)
          → bytes_eq text (word_of a) ≡ true
      by true p true q r f later =
          let tells : x.tells ≡ a = cc in
          ap (λ l. bytes_eq l (word_of a)) (same_text text x.text p) ∙ ap (λ y. bytes_eq x.text (word_of y)) (sym tells) ∙ q
      by true p false q r f later = absurd (true≢false (sym r))
      by false p true q r f later = later r f
      by false p false q r f later = absurd (true≢false (sym r))

  module _ (es : List (Entry A)) (again : (a : A) → look_up es (word_of a) ≡ Some a) where
    pub none : (text : List ℕ) → look_up es text ≡ None → (a : A) → bytes_eq text (word_of a) ≡ false
    none text e a = elim (cases_Bool (bytes_eq text (word_of a))) [
      | inl same ↦ let twice = sym (again a) ∙ ap (look_up es) (sym (same_text text (word_of a) same)) ∙ e in absurd (cc)
      | inr other ↦ other
    ]

    some_same : (x y : A) → Some x ≡ Some y → x ≡ y
    some_same x y e = cc

    same : (p : Piece) (v w : A) → fits p (token (word (word_of v))) ≡ true → fits p (token (word (word_of w))) ≡ true → v ≡ w
    same (a_word text) v w e f =
        some_same v w (sym (again v) ∙ ap (look_up es) (sym (same_text text (word_of v) e) ∙ same_text text (word_of w) f) ∙ again w)
    same feed v w e f = absurd (true≢false (sym e))

    pub apart_words : Apart fits (marks (λ a. word (word_of a) ∷ []))
    apart_words a = single.apart_one fits A (λ k. token (word (word_of k))) same a
