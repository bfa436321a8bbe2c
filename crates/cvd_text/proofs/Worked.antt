-- Texts of a few designs, and faults of texts that are none's, by computation.
use Rattle.std.specs.Prelude.{◌≡◌, ℕ, zero, suc, ◌<◌, ◌&&◌, Bool, true, false, List, [], ◌∷◌, ◌++◌, codes, refl, length, take, drop, map, flat_map}
use Rattle.std.specs.Str.{bytes_eq}
use Rattle.std.specs.Cmp.Lexicographic.{bytes_decides}
use Rattle.std.specs.Int.Digits.{digits_of}
use Rattle.std.proofs.lemmas.Int.Digits.{first_digits_of}
use Rattle.std.proofs.lemmas.Bool.Decides.{nat_tests}
use Rattle.std.proofs.Common.{get_or}
use Rattle.circuit_run.specs.Digits.{digit}
use mathlib.Core.Path.{ap, sym, ◌∙◌}
use mathlib.Core.Bool.{true≢false}
use native.Mathlib.Omega.{arith}
use Rattle.cov_types.specs.declared.kind.ProcessKind.TheVariants as process
use Rattle.cov_types.specs.declared.kind.VarKind.TheVariants as kind
use Rattle.cov_types.specs.declared.var.Var.{Var}
use Rattle.design_tree.specs.declared.design.Design.{Design}
use Rattle.design_tree.specs.declared.instrumented.Instrumented.{Instrumented}
use Rattle.design_tree.specs.declared.step.Step.{Step}
use Rattle.design_tree.specs.declared.step.Step.TheVariants as s
use Rattle.design_tree.specs.declared.step.Target.TheVariants as g
use Rattle.design_tree.specs.declared.typed.Typed.TheVariants as e
use Rattle.design_meaning.proofs.TypedFolds.{typed_folds, typed_paras}
use Rattle.design_meaning.proofs.StepFolds.{fold-Count, fold-Stop, fold-Set, fold-Later}
use Rattle.cvd_text.specs.Tokens.{word, number, hex, digits, counters, numeral, token_text}
use Rattle.cvd_text.specs.Lines.{Line, all_stand, no_load}
use Rattle.design_tree.specs.declared.step.Step.TheOpen as so
use Rattle.design_tree.specs.declared.step.Target.{Target}
use Rattle.design_tree.specs.declared.typed.Typed.{Typed}
use Rattle.cvd_text.specs.Steps.{Around, Spot, StepText, ArmText, step_lines, arm_lines, lines_of_step, block_lines}
use Rattle.cvd_text.specs.Spelling.{design_lines, spelling}
use Rattle.cvd_text.specs.Pieces.{Piece, a_word, feed, Mark, token, line_end, fits, all_fit, pieces_of, design_marks}
use Rattle.cvd_text.specs.Fault.{Awaits, IsFlaw, trailing, truncated, bad_number, goes_on, cut_off, wrong_piece}

-- ---- steps at their places

step-Count : (around : Around) (counter : ℕ) (at : Spot) → lines_of_step around (s.Count counter) at ≡ step_lines around (so.Count counter) at
step-Count around counter at = ap (λ f. f at) (fold-Count StepText ArmText (step_lines around) (arm_lines around) counter)

step-Stop : (around : Around) (at : Spot) → lines_of_step around s.Stop at ≡ step_lines around so.Stop at
step-Stop around at = ap (λ f. f at) (fold-Stop StepText ArmText (step_lines around) (arm_lines around))

step-Set : (around : Around) (targets : List Target) (value : Typed) (at : Spot)
    → lines_of_step around (s.Set targets value) at ≡ step_lines around (so.Set targets value) at
step-Set around targets value at = ap (λ f. f at) (fold-Set StepText ArmText (step_lines around) (arm_lines around) targets value)

step-Later : (around : Around) (targets : List Target) (value : Typed) (at : Spot)
    → lines_of_step around (s.Later targets value) at ≡ step_lines around (so.Later targets value) at
step-Later around targets value at = ap (λ f. f at) (fold-Later StepText ArmText (step_lines around) (arm_lines around) targets value)

ruleset folds = (step-Count, step-Stop, step-Set, step-Later, typed_folds, typed_paras)

-- ---- tokens

zero_is_one_digit : token_text (number 0) ≡ codes "0"
zero_is_one_digit = refl

number_shown : token_text (number 1024) ≡ codes "1024"
number_shown = refl

hex_shown : token_text (hex 0x2fa) ≡ codes "2fa"
hex_shown = refl

text_shown : token_text (digits (codes "n=")) ≡ codes "6e3d"
text_shown = refl

no_counters : token_text (counters []) ≡ codes "-"
no_counters = refl

three_counters : token_text (counters (0 ∷ 12 ∷ 3 ∷ [])) ≡ codes "0,12,3"
three_counters = refl

cut_at_blanks : pieces_of (codes "a  b\n\nc") ≡ a_word (codes "a") ∷ a_word [] ∷ a_word (codes "b") ∷ feed ∷ a_word [] ∷ feed ∷ []
cut_at_blanks = refl

-- ---- designs

-- lines, each ended by a line feed
abbrev text_of : List (List ℕ) → List ℕ
text_of ls = flat_map (λ l. l ++ 10 ∷ []) ls

-- an input and a register of one bit
abbrev bits : List Var
bits = record { width = 1; words = 1; start = 0; kind = kind.Input } ∷ record { width = 1; words = 1; start = 0; kind = kind.Reg } ∷ []

abbrev key : List ℕ
key = 1 ∷ codes "t" ++ 2 ∷ codes "line" ++ 1 ∷ codes "o" ++ 2 ∷ codes "block"

-- a flip-flop, with these steps behind its counter's and its assignment
abbrev flip_flop : List Step → Instrumented
flip_flop more = record {
  design = record {
    vars = bits;
    inputs = record { var = 0; name = codes "d" } ∷ [];
    outputs = 1 ∷ [];
    processes = record { kind = process.Clocked; body = s.Count 0 ∷ s.Later (g.Whole 1 ∷ []) (e.Var 0) ∷ more } ∷ [];
  };
  counters = 1;
  toggles = [];
  points = record { plus = 0 ∷ []; minus = []; key = key } ∷ [];
}

-- its text, with these lines behind that of its assignment
abbrev front : List (List ℕ)
front = codes "CVD 1" ∷ codes "counters 1" ∷ codes "vars 2" ∷ codes "1 1 0 i" ∷ codes "1 1 0 r" ∷ codes "inputs 1" ∷ codes "0 d" ∷ codes "outputs 1" ∷ codes "1"
    ∷ codes "processes 1" ∷ codes "clocked" ∷ codes "begin" ∷ codes "count 0" ∷ codes "later 1 w 1 v 0" ∷ []

abbrev back : List (List ℕ)
back = codes "end" ∷ codes "toggles 0" ∷ codes "points 1" ∷ (codes "0 - " ++ key) ∷ []

abbrev text : List ℕ
text = text_of (front ++ back ++ codes "end" ∷ [])

flip_flop_spelled : text ≡ spelling (flip_flop [])
flip_flop_spelled = simp folds

flip_flop_stands : all_stand no_load (design_lines (flip_flop [])) ≡ true
flip_flop_stands = simp folds

flip_flop_stopping : text_of (front ++ codes "stop" ∷ back ++ codes "end" ∷ []) ≡ spelling (flip_flop (s.Stop ∷ []))
flip_flop_stopping = simp folds

-- a wire that is assigned itself
abbrev loop : Instrumented
loop = record {
  design = record {
    vars = record { width = 1; words = 1; start = 0; kind = kind.Wire } ∷ [];
    inputs = [];
    outputs = [];
    processes = record { kind = process.Assign; body = s.Set (g.Whole 0 ∷ []) (e.Var 0) ∷ [] } ∷ [];
  };
  counters = 0;
  toggles = [];
  points = [];
}

loop_spelled : text_of (codes "CVD 1" ∷ codes "counters 0" ∷ codes "vars 1" ∷ codes "1 1 0 w"
    ∷ codes "inputs 0" ∷ codes "outputs 0" ∷ codes "processes 1" ∷ codes "assign"
    ∷ codes "begin" ∷ codes "set 1 w 0 v 0" ∷ codes "end" ∷ codes "toggles 0" ∷ codes "points 0" ∷ codes "end" ∷ []) ≡ spelling loop
loop_spelled = simp folds

-- a step too many makes the block of an assignment impossible
abbrev two_steps : Instrumented
two_steps = record loop {
  design = record {
    vars = loop.design.vars;
    inputs = [];
    outputs = [];
    processes = record { kind = process.Assign; body = s.Set (g.Whole 0 ∷ []) (e.Var 0) ∷ s.Set (g.Whole 0 ∷ []) (e.Var 0) ∷ [] } ∷ [];
  };
}

two_steps_fall : all_stand no_load (design_lines two_steps) ≡ false
two_steps_fall = simp folds

abbrev at_begin : List Line → Bool
at_begin [] = false
at_begin (l ∷ ls) = l.holds

-- blocks: 700 deep stand, 701 don't
at_most_700 : (around : Around) (steps : List StepText) → (at_begin (block_lines around 700 steps) ≡ true) × (at_begin (block_lines around 701 steps) ≡ false)
at_most_700 around steps = (refl, refl)

-- ---- faults

-- one byte behind the text
one_byte_more : {F : Type 0} {Is : Design → F → Type 0} → IsFlaw F Is (spelling (flip_flop []) ++ 33 ∷ []) (trailing (length (spelling (flip_flop []))))
one_byte_more = goes_on (flip_flop []) 33 [] flip_flop_stands refl

-- the text without its last line, and what is awaited behind it
abbrev without_end : List ℕ
without_end = text_of (front ++ back)

abbrev pieces_before_end : List Piece
pieces_before_end = pieces_of without_end

awaits_end : Awaits pieces_before_end (token (word (codes "end")))
awaits_end = record {
  design = flip_flop [];
  first = take (length pieces_before_end) (design_marks (flip_flop []));
  more = line_end true ∷ [];
  split = simp folds;
  fit = simp folds;
}

no_end : {F : Type 0} {Is : Design → F → Type 0} → IsFlaw F Is without_end (truncated (length without_end))
no_end = cut_off (token (word (codes "end"))) refl awaits_end

-- the same, where the last line lacks its line feed alone
no_line_feed : {F : Type 0} {Is : Design → F → Type 0} → IsFlaw F Is (without_end ++ codes "end") (truncated (length (without_end ++ codes "end")))
no_line_feed = cut_off (token (word (codes "end"))) refl awaits_end

second_true : (a b : Bool) → (a && b) ≡ true → b ≡ true
second_true true b e = e
second_true false b e = absurd (true≢false (sym e))

same_length : (gs : List Piece) (ms : List Mark) → all_fit gs ms ≡ true → length gs ≡ length ms
same_length [] [] e = refl
same_length [] (m ∷ ms) e = absurd (true≢false (sym e))
same_length (g ∷ gs) [] e = absurd (true≢false (sym e))
same_length (g ∷ gs) (m ∷ ms) e = let ih = same_length gs ms (second_true (fits g m) _ e) in omega arith

-- a number with a leading zero: no design has it there
abbrev zero_text : List ℕ
zero_text = text_of (codes "CVD 1" ∷ codes "counters 01" ∷ codes "junk" ∷ [])

abbrev before_number : List Piece
before_number = a_word (codes "CVD") ∷ a_word (codes "1") ∷ feed ∷ a_word (codes "counters") ∷ []

abbrev fifth : List Mark → Mark
fifth (a ∷ b ∷ c ∷ d ∷ e ∷ more) = e
fifth _ = line_end true

numeral_some : (base n : ℕ) → 0 < n → numeral base n ≡ map digit (digits_of base n)
numeral_some base n h = grind (arith, nat_tests)

-- no number is spelled so
not_zero_one : (n : ℕ) → bytes_eq (codes "01") (token_text (number n)) ≡ false
not_zero_one zero = refl
not_zero_one (suc n) = by (bytes_eq (codes "01") (token_text (number (suc n)))) refl
  where
    by : (b : Bool) → bytes_eq (codes "01") (token_text (number (suc n))) ≡ b → b ≡ false
    by false e = refl
    by true e =
        let same = (bytes_decides (codes "01") (token_text (number (suc n)))).0 e in
        let first = first_digits_of 10 (suc n) (omega arith) (omega arith) in
        absurd (by_first (digits_of 10 (suc n)) (ap (λ l. get_or l 0 0) (same ∙ numeral_some 10 (suc n) (omega arith))) first)
      where
        by_first : (ds : List ℕ) → 48 ≡ get_or (map digit ds) 0 0 → 0 < get_or ds 0 0 → ⊥
        by_first [] e h = omega arith
        by_first (d ∷ ds) e h = at_digit d e h
          where
            at_digit : (d : ℕ) → 48 ≡ digit d → 0 < d → ⊥
            at_digit d e h = grind (arith, nat_tests)

only_number : (m : Mark) → Awaits before_number m → fits (a_word (codes "01")) m ≡ false
only_number m w = by w.first w.split w.fit
  where
    by : (first : List Mark) → design_marks w.design ≡ first ++ m ∷ w.more → all_fit before_number first ≡ true → fits (a_word (codes "01")) m ≡ false
    by [] s f = let h = same_length before_number [] f in absurd (omega arith)
    by (a ∷ []) s f = let h = same_length before_number (a ∷ []) f in absurd (omega arith)
    by (a ∷ b ∷ []) s f = let h = same_length before_number (a ∷ b ∷ []) f in absurd (omega arith)
    by (a ∷ b ∷ c ∷ []) s f = let h = same_length before_number (a ∷ b ∷ c ∷ []) f in absurd (omega arith)
    by (a ∷ b ∷ c ∷ d ∷ []) s f = ap (λ l. fits (a_word (codes "01")) (fifth l)) (sym s) ∙ not_zero_one w.design.counters
    by (a ∷ b ∷ c ∷ d ∷ e ∷ more) s f = let h = same_length before_number (a ∷ b ∷ c ∷ d ∷ e ∷ more) f in absurd (omega arith)

leading_zero_is_bad : {F : Type 0} {Is : Design → F → Type 0} → IsFlaw F Is zero_text (bad_number 6)
leading_zero_is_bad = wrong_piece before_number (a_word (codes "01")) (token (number 0)) refl (record {
  rest = feed ∷ a_word (codes "junk") ∷ feed ∷ [];
  split = refl;
  awaits = record { design = loop; first = take 4 (design_marks loop); more = drop 5 (design_marks loop); split = refl; fit = refl };
  none = only_number;
}) tt
