-- Line lists, run by run.
use Rattle.std.proofs.Common.{◌≡◌, ℕ, ◌+◌, ◌<◌, ◌≤◌, Bool, true, false, cond, not, List, [], ◌∷◌, ◌++◌, length, map, take, drop, eqb, Option, None, Some, refl}
use Rattle.std.proofs.Common.{sym, ◌∙◌, ap, arith, append_assoc, inl, inr}
use Rattle.std.proofs.lemmas.Bool.{cases_lt}
use Rattle.std.specs.List.{list_any, position_or_len, slice_split}
use Rattle.std.specs.Prelude.{◌||◌, codes}
use Rattle.std.proofs.lemmas.List.{map-append}
use Rattle.cov_types.specs.LineLists.{lines_text, range_text, separated}
use Rattle.std.specs.Option.{option_map}
use Rattle.cov_types.specs.declared.line_range.LineRange.{LineRange}
use Rattle.cov_port.specs.LineReading.{all_there, line_number, run_between, run_of, runs_of, with_run}
use Rattle.cov_port.proofs.SplitLemmas.{split_none, split_some}

both_maps : (ls : List LineRange) (r : LineRange) (rest : Option (List LineRange))
    → option_map (λ more. ls ++ more) (option_map (λ more. r ∷ more) rest) ≡ option_map (λ more. (ls ++ r ∷ []) ++ more) rest
both_maps ls r None = refl
both_maps ls r (Some more) = ap Some (sym (append_assoc ls (r ∷ []) more))

-- a run and a comma
pub run_more : (ls : List LineRange) (r : LineRange) (rest : List ℕ) (n : ℕ) → n ≡ position_or_len (λ b. eqb b 44) rest → n < length rest
    → run_of (take n rest) ≡ Some r
    → option_map (λ more. ls ++ more) (runs_of rest) ≡ option_map (λ more. (ls ++ r ∷ []) ++ more) (runs_of (drop (n + 1) rest))
run_more ls r rest n at some is =
    ap (λ (ts : List (List ℕ)). option_map (λ more. ls ++ more) (all_there (map run_of ts))) (split_some (λ b. eqb b 44) rest n at some)
    ∙ ap (λ (o : Option LineRange). option_map (λ more. ls ++ more) (all_there (o ∷ map run_of (slice_split (λ b. eqb b 44) (drop (n + 1) rest))))) is
    ∙ both_maps ls r (runs_of (drop (n + 1) rest))

-- the last run
pub run_last : (ls : List LineRange) (r : LineRange) (rest : List ℕ) (n : ℕ) → n ≡ position_or_len (λ b. eqb b 44) rest → length rest ≤ n
    → run_of (take n rest) ≡ Some r
    → option_map (λ more. ls ++ more) (runs_of rest) ≡ Some (ls ++ r ∷ [])
run_last ls r rest n at all is =
    ap (λ (ts : List (List ℕ)). option_map (λ more. ls ++ more) (all_there (map run_of ts))) (split_none (λ b. eqb b 44) rest n at all)
    ∙ ap (λ (o : Option LineRange). option_map (λ more. ls ++ more) (all_there (o ∷ []))) is

-- what is no run
pub run_wrong : (ls : List LineRange) (rest : List ℕ) (n : ℕ) → n ≡ position_or_len (λ b. eqb b 44) rest → n ≤ length rest → run_of (take n rest) ≡ None
    → option_map (λ more. ls ++ more) (runs_of rest) ≡ None
run_wrong ls rest n at within is = elim (cases_lt n (length rest)) [
  | inl some ↦ ap (λ (ts : List (List ℕ)). option_map (λ more. ls ++ more) (all_there (map run_of ts))) (split_some (λ b. eqb b 44) rest n at some)
      ∙ ap (λ (o : Option LineRange). option_map (λ more. ls ++ more) (all_there (o ∷ map run_of (slice_split (λ b. eqb b 44) (drop (n + 1) rest))))) is
  | inr all ↦ ap (λ (ts : List (List ℕ)). option_map (λ more. ls ++ more) (all_there (map run_of ts))) (split_none (λ b. eqb b 44) rest n at all)
      ∙ ap (λ (o : Option LineRange). option_map (λ more. ls ++ more) (all_there (o ∷ []))) is
]

-- none passes where the first place is the end, and one passes where it isn't
none_passes : (p : ℕ → Bool) (xs : List ℕ) → length xs ≤ position_or_len p xs → list_any p xs ≡ false
none_passes p [] past = refl
none_passes p (x ∷ xs) past =
    elim (p x) as (λ t. length (x ∷ xs) ≤ cond (not t) (1 + position_or_len p xs) 0 → (t || list_any p xs) ≡ false) [
      | true ↦ λ h. absurd (omega arith)
      | false ↦ λ h. none_passes p xs (omega arith)
    ] past

one_passes : (p : ℕ → Bool) (xs : List ℕ) → position_or_len p xs < length xs → list_any p xs ≡ true
one_passes p [] within = absurd (omega arith)
one_passes p (x ∷ xs) within =
    elim (p x) as (λ t. cond (not t) (1 + position_or_len p xs) 0 < length (x ∷ xs) → (t || list_any p xs) ≡ true) [
      | true ↦ λ h. refl
      | false ↦ λ h. one_passes p xs (omega arith)
    ] within

-- a run of one number, and one of two
pub run_one : (text : List ℕ) (n : ℕ) → n ≡ position_or_len (λ b. eqb b 45) text → length text ≤ n
    → run_between (line_number text) (line_number text) ≡ run_of text
run_one text n at all = rw (none_passes (λ b. eqb b 45) text (omega arith)) refl

pub run_two : (text : List ℕ) (n : ℕ) → n ≡ position_or_len (λ b. eqb b 45) text → n < length text
    → run_between (line_number (take n text)) (line_number (drop (n + 1) text)) ≡ run_of text
run_two text n at some = rw (at, one_passes (λ b. eqb b 45) text (omega arith)) refl

-- one run more
separated_more : (a : List ℕ) (ts : List (List ℕ)) (t : List ℕ)
    → separated (codes ",") ((a ∷ ts) ++ t ∷ []) ≡ (separated (codes ",") (a ∷ ts) ++ codes ",") ++ t
separated_more a [] t = refl
separated_more a (u ∷ ts) t =
    ap (λ (xs : List ℕ). (a ++ codes ",") ++ xs) (separated_more u ts t)
    ∙ sym (append_assoc (a ++ codes ",") (separated (codes ",") (u ∷ ts) ++ codes ",") t)
    ∙ ap (λ (xs : List ℕ). xs ++ t) (sym (append_assoc (a ++ codes ",") (separated (codes ",") (u ∷ ts)) (codes ",")))

-- whether the next run is the first behind so many
abbrev pub FirstAt : Bool → ℕ → Type 0
FirstAt true n = n ≡ 0
FirstAt false n = 0 < n

pub lines_more : (rs : List LineRange) (r : LineRange) (first : Bool) → FirstAt first (length rs) → lines_text (rs ++ r ∷ []) ≡ with_run (lines_text rs) first r
lines_more [] r true is = refl
lines_more [] r false is = absurd (omega arith)
lines_more (q ∷ rs) r true is = absurd (omega arith)
lines_more (q ∷ rs) r false is =
    ap (separated (codes ",")) (map-append range_text (q ∷ rs) (r ∷ [])) ∙ separated_more (range_text q) (map range_text rs) (range_text r)
