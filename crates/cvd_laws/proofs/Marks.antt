-- What holds of tokens against words holds of marks against pieces.
use Rattle.std.specs.Prelude.{◌≡◌, ℕ, true, List, [], ◌∷◌, ◌++◌, map, refl}
use mathlib.Core.Logic.{inl, inr}
use mathlib.Core.Path.{sym, ap, subst, ◌∙◌}
use mathlib.Core.Bool.{true≢false}
use Rattle.cvd_text.specs.Tokens.{Token}
use Rattle.cvd_text.specs.Pieces.{Piece, a_word, feed, Mark, token, line_end, fits}
use Rattle.spelling_laws.specs.Spelled.{all_fit, Fronts, ApartAt}
use Rattle.spelling_laws.proofs.Fitting.{first_true, second_true, both_true}
use Rattle.cvd_laws.specs.Expressions.{is_token}

-- pieces that fit tokens are words
pub record Words (gs : List Piece) (ts : List Token) : Type 0 where
  pub words : List (List ℕ)
  pub split : gs ≡ map a_word words
  pub fit : all_fit is_token words ts ≡ true

pub words_of : (gs : List Piece) (ts : List Token) → all_fit fits gs (map token ts) ≡ true → Words gs ts
words_of [] [] e = record { words = []; split = refl; fit = refl }
words_of [] (t ∷ ts) e = absurd (true≢false (sym e))
words_of (g ∷ gs) [] e = absurd (true≢false (sym e))
words_of (a_word w ∷ gs) (t ∷ ts) e =
    let more = words_of gs ts (second_true (is_token w t) _ e) in
    record {
      words = w ∷ more.words;
      split = ap (λ l. a_word w ∷ l) more.split;
      fit = both_true (is_token w t) _ (first_true (is_token w t) _ e) more.fit;
    }
words_of (feed ∷ gs) (t ∷ ts) e = absurd (true≢false (sym e))

words_fit : (ws : List (List ℕ)) (ts : List Token) → all_fit fits (map a_word ws) (map token ts) ≡ true → all_fit is_token ws ts ≡ true
words_fit [] [] e = refl
words_fit [] (t ∷ ts) e = absurd (true≢false (sym e))
words_fit (w ∷ ws) [] e = absurd (true≢false (sym e))
words_fit (w ∷ ws) (t ∷ ts) e = both_true (is_token w t) _ (first_true (is_token w t) _ e) (words_fit ws ts (second_true (is_token w t) _ e))

-- marks of tokens, cut in two, are marks of tokens both
pub record Cut (ts : List Token) (first more : List Mark) : Type 0 where
  pub front : List Token
  pub back : List Token
  pub split : ts ≡ front ++ back
  pub front_is : first ≡ map token front
  pub back_is : more ≡ map token back

abbrev head_of : Token → List Mark → Token
head_of d [] = d
head_of d (token t ∷ ms) = t
head_of d (line_end s ∷ ms) = d

abbrev tail_of : List Mark → List Mark
tail_of [] = []
tail_of (m ∷ ms) = ms

pub cut : (ts : List Token) (first more : List Mark) → map token ts ≡ first ++ more → Cut ts first more
cut ts [] more e = record { front = []; back = ts; split = refl; front_is = refl; back_is = sym e }
cut [] (m ∷ first) more e = absurd (cc)
cut (t ∷ ts) (m ∷ first) more e =
    let same : token t ≡ m = cc in
    let c = cut ts first more (ap tail_of e) in
    record {
      front = t ∷ c.front;
      back = c.back;
      split = ap (λ l. t ∷ l) c.split;
      front_is = ap (λ y. y ∷ first) (sym same) ∙ ap (λ l. token t ∷ l) c.front_is;
      back_is = c.back_is;
    }

module _ {A : Type 0} (s : A → List Token) where
  abbrev pub lifted : A → List Mark
  lifted a = map token (s a)

  fronts : (a b : A) → Fronts fits lifted a b → Fronts is_token s a b
  fronts a b f =
      let given = words_of f.given (s a) f.whole in
      let c = cut (s b) f.first f.more f.split in
      record {
        given = given.words;
        first = c.front;
        more = c.back;
        whole = given.fit;
        split = c.split;
        front = words_fit given.words c.front
            (subst (λ l. all_fit fits (map a_word given.words) l ≡ true) c.front_is
            (subst (λ l. all_fit fits l f.first ≡ true) given.split f.front));
      }

  -- no value's marks begin another's where its tokens don't
  pub apart_marks : (a : A) → ApartAt is_token s a → ApartAt fits lifted a
  apart_marks a apart b h = apart b (elim h [ inl f ↦ inl (fronts a b f) | inr f ↦ inr (fronts b a f) ])
