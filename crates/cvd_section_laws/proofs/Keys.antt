-- A key is told by its words up to the end of its line.
use Rattle.std.proofs.Common.{◌≡◌, ℕ, Bool, true, false, List, [], ◌∷◌, ◌++◌, map, refl, sym, ◌∙◌, ap, eqb, append_assoc}
use Rattle.std.specs.List.{slice_split, join_with_byte, AllByRecursion}
use Rattle.std.proofs.lemmas.Bool.{true≢false}
use Rattle.std.proofs.lemmas.List.{append-nil}
use Rattle.std.proofs.lemmas.List.Splits.{join_with_byte-slice_split}
use Rattle.cvd_text.specs.Tokens.{Token, word, words_of}
use Rattle.cvd_text.specs.Pieces.{Piece, a_word, feed, Mark, token, line_end, fits}
use Rattle.cvd_cursor.specs.Reads.{marks}
use Rattle.spelling_laws.specs.Spelled.{ApartAt, Apart}
use Rattle.spelling_laws.specs.Lists.{state_behind, all_marks, ended_marks}
use Rattle.spelling_laws.proofs.Ended.{apart_ended}
use Rattle.spelling_laws.proofs.One as single
use Rattle.cvd_laws.specs.Expressions.{is_token}
use Rattle.cvd_laws.proofs.Marks.{apart_marks}
use Rattle.cvd_laws.proofs.Typeds.{same_text}

abbrev Words : Type 0
Words = List (List ℕ)

abbrev pub word_tokens : List ℕ → List Token
word_tokens w = word w ∷ []

pub apart_any_word : Apart is_token word_tokens
apart_any_word = single.apart_one is_token (List ℕ) word (λ p v w e f. sym (same_text p v e) ∙ same_text p w f)

abbrev word_more : Words → List ℕ → Words
word_more ws w = ws ++ w ∷ []

abbrev word_marks : Words → List ℕ → List Mark
word_marks ws = marks word_tokens

abbrev pub key_of : Words → List ℕ
key_of ws = join_with_byte 32 ws

abbrev pub split_key : List ℕ → Words
split_key key = slice_split (λ byte. eqb byte 32) key

pub key_back : (key : List ℕ) → key_of (split_key key) ≡ key
key_back key = join_with_byte-slice_split 32 key

state_is : (before ws : Words) → state_behind word_marks word_more before ws ≡ before ++ ws
state_is before [] = sym (append-nil before)
state_is before (w ∷ ws) = state_is (before ++ w ∷ []) ws ∙ append_assoc before (w ∷ []) ws

words_are : (before ws : Words) → all_marks word_marks word_more before ws ≡ map token (map word ws)
words_are before [] = refl
words_are before (w ∷ ws) = ap (λ l. token (word w) ∷ l) (words_are (before ++ w ∷ []) ws)

module _ (flag : List ℕ → Bool) where
  -- the words of a key, and the end of its line
  abbrev pub key_marks : List ℕ → List Mark
  key_marks key = map token (words_of key) ++ line_end (flag key) ∷ []

  abbrev ends : Words → List Mark
  ends ws = line_end (flag (key_of ws)) ∷ []

  alike : (key : List ℕ) → key_marks key ≡ ended_marks word_marks word_more ends [] (split_key key)
  alike key =
      ap (λ l. l ++ line_end (flag key) ∷ []) (sym (words_are [] (split_key key)))
      ∙ ap (λ b. all_marks word_marks word_more [] (split_key key) ++ line_end b ∷ [])
      (ap flag (sym (ap key_of (state_is [] (split_key key)) ∙ key_back key)))

  told : (p : Piece) (stands : Bool) (w : List ℕ) → fits p (line_end stands) ≡ true → fits p (token (word w)) ≡ false
  told (a_word text) stands w e = absurd (true≢false (sym e))
  told feed stands w e = refl

  all_words : (ws : Words) → AllByRecursion (λ w. (before : Words) → ApartAt fits (word_marks before) w) ws
  all_words [] = tt
  all_words (w ∷ ws) = (λ before. apart_marks word_tokens w (apart_any_word w), all_words ws)

  pub apart_key : Apart fits key_marks
  apart_key key =
      single.apart_via fits Words (List ℕ) key_of split_key key_back (ended_marks word_marks word_more ends []) key_marks alike key
      (apart_ended fits (List ℕ) Words word_marks word_more ends (λ ws. line_end (flag (key_of ws))) (λ ws. []) (λ ws. refl) (λ ws w. token (word w))
      (λ ws w. [])
      (λ ws w. refl) (λ ws w p e. told p (flag (key_of ws)) w e) [] (split_key key) (all_words (split_key key)))
