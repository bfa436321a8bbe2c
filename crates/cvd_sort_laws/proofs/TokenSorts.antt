-- Where tokens of an expression, a target or a displayed piece come next, either all are numbers, or none is: as marks.
use Rattle.std.proofs.Common.{◌≡◌, ℕ, zero, suc, ◌≤◌, Bool, true, false, List, [], ◌∷◌, ◌++◌, map, length, refl, sym, ◌∙◌, ap, subst, arith}
use Rattle.std.specs.Prelude.{codes}
use Rattle.design_tree.specs.declared.step.Piece.{Piece}
use Rattle.design_tree.specs.declared.step.Target.{Target}
use Rattle.design_tree.specs.declared.typed.Typed.{Typed}
use Rattle.cvd_text.specs.Tokens.{Token, word, number, hex, digits, is_numeric}
use Rattle.cvd_text.specs.Expressions.{tokens_of}
use Rattle.cvd_text.specs.Pieces.{Piece as TextPiece, a_word, Mark, token, line_end, fits}
use Rattle.cvd_text.specs.Targets.{target_tokens, piece_tokens}
use Rattle.cvd_cursor.specs.Reads.{marks, line_marks}
use Rattle.spelling_laws.specs.Spelled.{all_fit, Apart, Awaits, OneSort}
use Rattle.spelling_laws.proofs.Fitting.{tail_of}
use Rattle.spelling_laws.proofs.ListSorts.{sorted_via, sorted_then}
use Rattle.spelling_laws.proofs.One as single
use Rattle.spelling_laws.proofs.Sorts.{sorts_one}
use Rattle.cvd_laws.specs.Expressions.{is_token}
use Rattle.cvd_laws.proofs.Marks.{Words, words_of, Cut, cut}
use Rattle.cvd_laws.proofs.Typeds as typeds
use Rattle.cvd_laws.proofs.Typeds.{sNumber, sSign, sign_token}
use Rattle.cvd_laws.proofs.TypedSorts.{sorted_typed}
use Rattle.cvd_laws.proofs.Targets as targets
use Rattle.cvd_laws.proofs.Pieces as pieces

-- a property of marks, by whether they are tokens where a number must stand, other tokens, or ends of lines
pub record MarkSort : Type 0 where
  pub tokens : Bool → Bool
  pub ends : Bool

abbrev pub has_sort : MarkSort → Mark → Bool
has_sort sort (token t) = sort.tokens (is_numeric t)
has_sort sort (line_end stands) = sort.ends

-- a number has to stand there
abbrev pub numbers : MarkSort
numbers = record { tokens = λ numeric. numeric; ends = false }

-- a line has to end there
abbrev pub line_ends : MarkSort
line_ends = record { tokens = λ numeric. false; ends = true }

-- whether a number has to stand there
abbrev pub is_numeric_mark : Mark → Bool
is_numeric_mark = has_sort numbers

abbrev pub TokensSorted : {A : Type 0} → ℕ → (A → List Token) → Type 0
TokensSorted most s = OneSort is_token most is_numeric s

abbrev pub MarksSorted : MarkSort → {A : Type 0} → ℕ → (A → List Mark) → Type 0
MarksSorted sort most s = OneSort fits most (has_sort sort) s

-- ---- from tokens to marks

a_words : (ws vs : List (List ℕ)) → map a_word ws ≡ map a_word vs → ws ≡ vs
a_words [] [] e = refl
a_words [] (v ∷ vs) e = absurd (cc)
a_words (w ∷ ws) [] e = absurd (cc)
a_words (w ∷ ws) (v ∷ vs) e = let same : w ≡ v = cc in ap (λ x. x ∷ ws) same ∙ ap (λ l. v ∷ l) (a_words ws vs (ap tail_of e))

module _ {A : Type 0} (s : A → List Token) where
  -- what is awaited is a token
  record Told (gs : List TextPiece) (m : Mark) : Type 0 where
    words : List (List ℕ)
    split : gs ≡ map a_word words
    wanted : Token
    is : m ≡ token wanted
    awaits : Awaits is_token s words wanted

  told : (gs : List TextPiece) (m : Mark) → Awaits fits (marks s) gs m → Told gs m
  told gs m v = by (cut (s v.value) v.first (m ∷ v.more) v.split)
    where
      by : Cut (s v.value) v.first (m ∷ v.more) → Told gs m
      by c = at c.back c.back_is c.split
        where
          given : Words gs c.front
          given = words_of gs c.front (subst (λ l. all_fit fits gs l ≡ true) c.front_is v.fit)

          at : (back : List Token) → m ∷ v.more ≡ map token back → s v.value ≡ c.front ++ back → Told gs m
          at [] e split = absurd (cc)
          at (t ∷ back) e split =
              let same : m ≡ token t = cc in
              record {
                words = given.words;
                split = given.split;
                wanted = t;
                is = same;
                awaits = record { value = v.value; first = c.front; more = back; split = split; fit = given.fit };
              }

  pub lifted : (sort : MarkSort) (most : ℕ) → TokensSorted most s → MarksSorted sort most (marks s)
  lifted sort most h gs m n few v w =
      let a = told gs m v in
      let b = told gs n w in
      let same = a_words b.words a.words (sym b.split ∙ a.split) in
      let counts : length a.words ≤ most = (let l = ap length a.split ∙ map_length a.words in omega arith) in
      ap (has_sort sort) a.is
      ∙ ap sort.tokens (h a.words a.wanted b.wanted counts a.awaits (subst (λ l. Awaits is_token s l b.wanted) same b.awaits))
      ∙ sym (ap (has_sort sort) b.is)
    where
      map_length : (ws : List (List ℕ)) → length (map a_word ws) ≡ length ws
      map_length [] = refl
      map_length (w ∷ ws) = let more = map_length ws in omega arith

-- ---- single tokens

pub sorted_number : (most : ℕ) → TokensSorted most sNumber
sorted_number most = sorts_one is_token is_numeric ℕ number (λ v w. refl) most

pub sorted_sign : (most : ℕ) → TokensSorted most sSign
sorted_sign most = sorts_one is_token is_numeric Bool sign_token (λ v w. refl) most

pub sorted_end : (sort : MarkSort) (most : ℕ) (stands : Bool) → MarksSorted sort most (line_marks stands)
sorted_end sort most stands = sorts_one fits (has_sort sort) (Unit {0}) (λ u. line_end stands) (λ v w. refl) most

-- ---- targets

then_sorted : (A B : Type 0) (sA : A → List Token) (sB : B → List Token) (most : ℕ) → Apart is_token sA → TokensSorted most sA → TokensSorted most sB
    → TokensSorted most (λ (p : (x : A) × B). sA p.0 ++ sB p.1)
then_sorted A B sA sB most apart first second = sorted_then is_token is_numeric A (λ x. B) sA (λ x. sB) most apart first (λ a. second)

sorted_place : (most : ℕ) → TokensSorted most targets.sPlace
sorted_place most =
    then_sorted ℕ _ sNumber _ most typeds.apart_number (sorted_number most)
    (then_sorted Bool Typed sSign tokens_of most typeds.apart_sign (sorted_sign most) (sorted_typed most))

target_parts : (most : ℕ) (h : targets.Head) → TokensSorted most (targets.parts_spelled h)
target_parts most targets.whole = sorted_number most
target_parts most targets.part =
    then_sorted ℕ _ sNumber _ most typeds.apart_number (sorted_number most)
    (then_sorted ℕ targets.Place sNumber targets.sPlace most typeds.apart_number (sorted_number most) (sorted_place most))
target_parts most targets.a_word = then_sorted ℕ targets.Place sNumber targets.sPlace most typeds.apart_number (sorted_number most) (sorted_place most)
target_parts most targets.word_part =
    then_sorted ℕ _ sNumber _ most typeds.apart_number (sorted_number most)
    (then_sorted targets.Place _ targets.sPlace _ most targets.apart_place (sorted_place most)
    (then_sorted ℕ targets.Place sNumber targets.sPlace most typeds.apart_number (sorted_number most) (sorted_place most)))

pub sorted_target : (most : ℕ) → TokensSorted most target_tokens
sorted_target most =
    sorted_via is_token is_numeric targets.Whole Target targets.from targets.whole_spelled target_tokens targets.alike most
    (sorted_then is_token is_numeric targets.Head targets.Parts (λ h. targets.head_token h ∷ []) targets.parts_spelled most
    (single.apart_one is_token targets.Head targets.head_token targets.same_heads)
    (sorts_one is_token is_numeric targets.Head targets.head_token (λ v w. refl) most) (target_parts most))

piece_parts : (most : ℕ) (h : pieces.Head) → TokensSorted most (pieces.parts_spelled h)
piece_parts most pieces.text = sorts_one is_token is_numeric (List ℕ) digits (λ v w. refl) most
piece_parts most (pieces.dec short) = then_sorted Bool Typed sSign tokens_of most typeds.apart_sign (sorted_sign most) (sorted_typed most)
piece_parts most (pieces.hexadecimal short) = sorted_typed most
piece_parts most (pieces.bin short) = sorted_typed most

pub sorted_piece : (most : ℕ) → TokensSorted most piece_tokens
sorted_piece most =
    sorted_via is_token is_numeric pieces.Whole Piece pieces.from pieces.whole_spelled piece_tokens pieces.alike most
    (sorted_then is_token is_numeric pieces.Head pieces.Parts (λ h. pieces.head_token h ∷ []) pieces.parts_spelled most
    (single.apart_one is_token pieces.Head pieces.head_token pieces.same_heads)
    (sorts_one is_token is_numeric pieces.Head pieces.head_token (λ v w. refl) most) (piece_parts most))
