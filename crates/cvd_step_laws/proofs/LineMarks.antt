-- The marks of lines and of tokens that stand one behind the other.
use Rattle.std.proofs.Common.{◌≡◌, ℕ, Bool, List, [], ◌∷◌, ◌++◌, map, refl, sym, ◌∙◌, ap, arith, append_assoc}
use Rattle.std.specs.Prelude.{flat_map}
use Rattle.std.proofs.lemmas.List.{map-append}
use Rattle.cvd_text.specs.Tokens.{Token}
use Rattle.cvd_text.specs.Lines.{Load, Line, no_load, added, line, stands}
use Rattle.cvd_text.specs.Pieces.{Mark, token, line_end, marks_of}
use Rattle.spelling_laws.specs.Lists.{state_behind, all_marks}
use Rattle.cvd_step_laws.specs.LineMarks.{load_behind, each_tokens, unchanged, each_lines, each_load}

-- ---- loads

same_load : (a b c d e f g h : ℕ) → a ≡ e → b ≡ f → c ≡ g → d ≡ h
    → ◌≡◌ {A = Load} (record { bits = a; steps = b; nodes = c; shown = d }) (record { bits = e; steps = f; nodes = g; shown = h })
same_load a b c d e f g h p q r s =
    ap (λ x. record { bits = x; steps = b; nodes = c; shown = d }) p ∙ ap (λ x. record { bits = e; steps = x; nodes = c; shown = d }) q
    ∙ ap (λ x. record { bits = e; steps = f; nodes = x; shown = d }) r ∙ ap (λ x. record { bits = e; steps = f; nodes = g; shown = x }) s

-- a line that adds nothing leaves the load
pub added_nothing : (before : Load) → added before no_load ≡ before
added_nothing before = same_load _ _ _ _ before.bits before.steps before.nodes before.shown (omega arith) (omega arith) (omega arith) (omega arith)

pub load_join : (before : Load) (ls ms : List Line) → load_behind before (ls ++ ms) ≡ load_behind (load_behind before ls) ms
load_join before [] ms = refl
load_join before (l ∷ ls) ms = load_join (added before l.load) ls ms

-- ---- lines

pub marks_join : (before : Load) (ls ms : List Line) → marks_of before (ls ++ ms) ≡ marks_of before ls ++ marks_of (load_behind before ls) ms
marks_join before [] ms = refl
marks_join before (l ∷ ls) ms =
    let front = map token l.tokens in
    let mark = line_end (stands before l) in
    let behind = added before l.load in
    ap (λ z. front ++ mark ∷ z) (marks_join behind ls ms) ∙ sym (append_assoc front (mark ∷ marks_of behind ls) (marks_of (load_behind behind ls) ms))

-- a line that adds nothing, and what comes behind it
pub marks_plain : (before : Load) (tokens : List Token) (holds : Bool) (ls : List Line)
    → marks_of before (line tokens holds ∷ ls) ≡ map token tokens ++ line_end (stands before (line tokens holds)) ∷ marks_of before ls
marks_plain before tokens holds ls =
    ap (λ b. map token tokens ++ line_end (stands before (line tokens holds)) ∷ marks_of b ls) (added_nothing before)

module _ {A : Type 0} (lines : A → List Line) where
  pub each_joined : (before : Load) (xs : List A)
      → marks_of before (flat_map lines xs) ≡ all_marks (each_lines lines) (each_load lines) before xs
  each_joined before [] = refl
  each_joined before (x ∷ xs) =
      marks_join before (lines x) (flat_map lines xs)
      ∙ ap (λ z. marks_of before (lines x) ++ z) (each_joined (load_behind before (lines x)) xs)

  pub load_joined : (before : Load) (xs : List A) → load_behind before (flat_map lines xs) ≡ state_behind (each_lines lines) (each_load lines) before xs
  load_joined before [] = refl
  load_joined before (x ∷ xs) = load_join before (lines x) (flat_map lines xs) ∙ load_joined (load_behind before (lines x)) xs

-- one line for each value
module _ {A : Type 0} (row : A → Line) where
  abbrev one_line : A → List Line
  one_line x = row x ∷ []

  pub rows_joined : (xs : List A) → map row xs ≡ flat_map one_line xs
  rows_joined [] = refl
  rows_joined (x ∷ xs) = ap (λ l. row x ∷ l) (rows_joined xs)

-- ---- tokens

module _ {A : Type 0} (tokens : A → List Token) where
  -- the tokens of a list, and what comes behind them
  pub tokens_listed : (xs : List A) (more : List Mark)
      → map token (flat_map tokens xs) ++ more ≡ all_marks (each_tokens tokens) unchanged tt xs ++ more
  tokens_listed [] more = refl
  tokens_listed (x ∷ xs) more =
      ap (λ l. l ++ more) (map-append token (tokens x) (flat_map tokens xs)) ∙ append_assoc (map token (tokens x)) (map token (flat_map tokens xs)) more
      ∙ ap (λ l. map token (tokens x) ++ l) (tokens_listed xs more)
      ∙ sym (append_assoc (map token (tokens x)) (all_marks (each_tokens tokens) unchanged tt xs) more)

  -- the same with further tokens in between
  pub tokens_behind : (xs : List A) (between : List Token) (more : List Mark)
      → map token (flat_map tokens xs ++ between) ++ more ≡ all_marks (each_tokens tokens) unchanged tt xs ++ (map token between ++ more)
  tokens_behind xs between more =
      ap (λ l. l ++ more) (map-append token (flat_map tokens xs) between) ∙ append_assoc (map token (flat_map tokens xs)) (map token between) more
      ∙ tokens_listed xs (map token between ++ more)
