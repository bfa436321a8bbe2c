-- The section of variables.
use Rattle.std.proofs.Common.{◌≡◌, ◌+◌, ◌*◌, true, List, [], ◌∷◌, ◌++◌, length, refl, ap, arith, map}
use Rattle.std.specs.Prelude.{codes}
use Rattle.cov_types.specs.declared.kind.VarKind.TheVariants as kind
use Rattle.cov_types.specs.declared.var.Var.{Var}
use Rattle.spelling_laws.specs.Spelled.{Apart}
use Rattle.spelling_laws.specs.Lists.{all_marks}
use Rattle.cvd_text.specs.Lines.{Load, no_load, stands}
use Rattle.cvd_text.specs.Pieces.{Mark, fits, marks_of}
use Rattle.cvd_text.specs.Sections.{heading, var_line, var_lines}
use Rattle.cvd_sections.specs.Alone.{row_marks}
use Rattle.cvd_sections.specs.Fields.{behind_var, bits_of, var_marks}
use Rattle.cvd_sections.proofs.Counting as counting
use Rattle.cvd_sections.proofs.Lines.{apart_line}
use Rattle.cvd_sections.proofs.Tokens.{var_tokens, apart_var}

abbrev pub section : List Var → List Mark
section vars = marks_of no_load (var_lines vars)

abbrev pub some_var : Var
some_var = record { width = 1; words = 1; start = 0; kind = kind.Wire }

pub apart_rows : (s : Load) → Apart fits (var_marks s)
apart_rows s = apart_line var_tokens (λ v. stands s (var_line v)) apart_var

lines_alike : (before : Load) (vars : List Var) → marks_of before (map var_line vars) ≡ all_marks var_marks behind_var before vars
lines_alike before [] = refl
lines_alike before (v ∷ vars) = ap (λ l. var_marks before v ++ l) (lines_alike (behind_var before v) vars)

pub alike : (vars : List Var) → section vars ≡ counting.plain Var Load var_marks behind_var (λ n. no_load) (codes "vars") (λ n. true) section vars
alike vars = ap (λ l. row_marks (heading (codes "vars") (length vars) true) ++ l) (lines_alike no_load vars)

pub bits_of_more : (vars : List Var) (v : Var) → bits_of (vars ++ v ∷ []) ≡ bits_of vars + v.width * v.words
bits_of_more [] v = omega arith
bits_of_more (u ∷ vars) v = let later = bits_of_more vars v in omega arith
