-- Lines that are told by their tokens, and sections of such lines behind a heading.
use Rattle.std.proofs.Common.{◌≡◌, ℕ, Bool, List, [], ◌∷◌, ◌++◌, map, length, refl, sym, ◌∙◌, ap, append_assoc}
use Rattle.std.specs.List.{AllByRecursion}
use Rattle.cvd_text.specs.Tokens.{Token, word, number}
use Rattle.cvd_text.specs.Lines.{Load, Line, line, stands}
use Rattle.cvd_text.specs.Pieces.{Mark, token, line_end, fits, marks_of}
use Rattle.cvd_text.specs.Sections.{heading, lines_behind}
use Rattle.cvd_cursor.specs.Numerals.{number_tokens}
use Rattle.cvd_cursor.specs.Reads.{marks, line_marks}
use Rattle.spelling_laws.specs.Spelled.{ApartAt, Apart}
use Rattle.spelling_laws.specs.Lists.{all_marks, headed_marks}
use Rattle.spelling_laws.proofs.Counted.{apart_headed}
use Rattle.spelling_laws.proofs.One as single
use Rattle.spelling_laws.proofs.Then as after
use Rattle.cvd_laws.specs.Expressions.{is_token}
use Rattle.cvd_laws.proofs.Marks.{apart_marks}
use Rattle.cvd_laws.proofs.Typeds.{then_apart, apart_number}
use Rattle.cvd_step_laws.specs.StepMarks.{this_word}
use Rattle.cvd_step_laws.proofs.LineMarks.{marks_plain}
use Rattle.cvd_step_laws.proofs.PartsApart.{apart_end}

module _ {A S : Type 0} (tokens : A → List Token) (flag : S → A → Bool) where
  -- a line with its tokens, and whether it stands
  abbrev pub row : S → A → List Mark
  row s x = map token (tokens x) ++ line_end (flag s x) ∷ []

  pub apart_row : Apart is_token tokens → (s : S) → Apart fits (row s)
  apart_row apart s x =
      single.apart_via fits ((y : A) × Unit {0}) A (λ p. p.0) (λ y. (y, tt)) (λ y. refl) (λ p. marks tokens p.0
      ++ line_marks (flag s p.0) p.1) (row s) (λ y. refl) x
      (after.apart_pair fits A (λ y. Unit {0}) (marks tokens) (λ y. line_marks (flag s y)) x tt (apart_marks tokens x (apart x)) (apart_end (flag s x) tt))

-- ---- headings

abbrev pub heading_tokens : List ℕ → ℕ → List Token
heading_tokens name n = word name ∷ number n ∷ []

pub apart_heading : (name : List ℕ) → Apart is_token (heading_tokens name)
apart_heading name n =
    single.apart_via is_token ((u : Unit {0}) × ℕ) ℕ (λ p. p.1) (λ k. (tt, k)) (λ k. refl) (λ p. this_word name p.0 ++ number_tokens p.1) (heading_tokens name)
    (λ k. refl) n (then_apart (Unit {0}) ℕ (this_word name) number_tokens tt n (λ v h. refl) (apart_number n))

-- the heading of a section of so many things, where it stands or doesn't
abbrev pub head_marks : List ℕ → (ℕ → Bool) → ℕ → List Mark
head_marks name flag = row (heading_tokens name) (λ (u : Unit {0}) n. flag n) tt

pub apart_head_marks : (name : List ℕ) (flag : ℕ → Bool) → Apart fits (head_marks name flag)
apart_head_marks name flag = apart_row (heading_tokens name) (λ (u : Unit {0}) n. flag n) (apart_heading name) tt

module _ (A S : Type 0) (spelled : S → A → List Mark) (next : S → A → S) (name : List ℕ) (flag : ℕ → Bool) (start : ℕ → S) where
  -- a section is apart where its things are
  pub apart_things : ((s : S) → Apart fits (spelled s)) → Apart fits (headed_marks spelled next (head_marks name flag) start)
  apart_things apart xs = apart_headed fits A S spelled next (head_marks name flag) start xs (apart_head_marks name flag (length xs)) (each xs)
    where
      each : (xs : List A) → AllByRecursion (λ x. (s : S) → ApartAt fits (spelled s) x) xs
      each [] = tt
      each (x ∷ xs) = (λ s. apart s x, each xs)

-- ---- sections of lines that add nothing, each in the light of those before it and of how many there are

abbrev pub Seen : Type 0 → Type 0
Seen A = (all : ℕ) × List A

abbrev pub seen_more : {A : Type 0} → Seen A → A → Seen A
seen_more s x = (s.0, s.1 ++ x ∷ [])

abbrev pub seen_none : {A : Type 0} → ℕ → Seen A
seen_none n = (n, [])

module _ {A : Type 0} (load : Load) (name : List ℕ) (heads : ℕ → Bool) (tokens : A → List Token) (holds : ℕ → List A → A → Bool) where
  abbrev pub thing_line : ℕ → List A → A → Line
  thing_line n before x = line (tokens x) (holds n before x)

  abbrev pub things_lines : List A → List Line
  things_lines xs = heading name (length xs) (heads (length xs)) ∷ lines_behind (thing_line (length xs)) [] xs

  abbrev pub thing_marks : Seen A → A → List Mark
  thing_marks = row tokens (λ s x. stands load (thing_line s.0 s.1 x))

  abbrev pub heading_stands : ℕ → Bool
  heading_stands n = stands load (heading name n (heads n))

  rows_alike : (n : ℕ) (before xs : List A)
      → marks_of load (lines_behind (thing_line n) before xs) ≡ all_marks thing_marks seen_more (n, before) xs
  rows_alike n before [] = refl
  rows_alike n before (x ∷ xs) =
      let mark = line_end (stands load (thing_line n before x)) in
      marks_plain load (tokens x) (holds n before x) (lines_behind (thing_line n) (before ++ x ∷ []) xs)
      ∙ ap (λ z. map token (tokens x) ++ mark ∷ z) (rows_alike n (before ++ x ∷ []) xs)
      ∙ sym (append_assoc (map token (tokens x)) (mark ∷ []) (all_marks thing_marks seen_more (n, before ++ x ∷ []) xs))

  pub things_alike : (xs : List A)
      → marks_of load (things_lines xs) ≡ headed_marks thing_marks seen_more (head_marks name heading_stands) seen_none xs
  things_alike xs =
      let n = length xs in
      marks_plain load (heading_tokens name n) (heads n) (lines_behind (thing_line n) [] xs)
      ∙ ap (λ z. map token (heading_tokens name n) ++ line_end (heading_stands n) ∷ z) (rows_alike n [] xs)

  pub apart_section : ((s : Seen A) → Apart fits (thing_marks s)) → Apart fits (λ xs. marks_of load (things_lines xs))
  apart_section apart xs =
      single.apart_via fits (List A) (List A) (λ l. l) (λ l. l) (λ l. refl) (headed_marks thing_marks seen_more (head_marks name heading_stands) seen_none)
      (λ ys. marks_of load (things_lines ys)) things_alike xs
      (apart_things A (Seen A) thing_marks seen_more name heading_stands seen_none apart xs)
