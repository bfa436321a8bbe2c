-- Whether the lines at the borders of blocks and arms stand.
use Rattle.std.proofs.Common.{◌≡◌, ℕ, Bool, true, [], ◌∷◌, codes, sym, ◌∙◌}
use Rattle.std.specs.Prelude.{◌||◌, nat_le, nat_lt}
use Rattle.cvd_text.specs.Lines.{Load, is_within, stands}
use Rattle.cvd_text.specs.Steps.{Around, may_be_empty}
use Rattle.cvd_text.specs.Tokens.{word, number}
use Rattle.cvd_step_laws.specs.StepMarks.{begin_line, end_line, arm_line}
use Rattle.cvd_step_laws.proofs.BlockReads.{plain_stands}

pub begin_flag : (before : Load) (deep : ℕ) (flag : Bool) → is_within before ≡ true → flag ≡ nat_le deep 700 → flag ≡ stands before (begin_line deep)
begin_flag before deep flag w e = e ∙ sym (plain_stands before (word (codes "begin") ∷ []) (nat_le deep 700) w)

pub end_flag : (around : Around) (before : Load) (deep count : ℕ) (flag : Bool) → is_within before ≡ true
    → flag ≡ (may_be_empty around.kind || nat_lt 1 deep || nat_lt 0 count) → flag ≡ stands before (end_line around deep count)
end_flag around before deep count flag w e =
    e ∙ sym (plain_stands before (word (codes "end") ∷ []) (may_be_empty around.kind || nat_lt 1 deep || nat_lt 0 count) w)

pub arm_flag : (before : Load) (n : ℕ) → is_within before ≡ true → true ≡ stands before (arm_line n)
arm_flag before n w = sym (plain_stands before (word (codes "arm") ∷ number n ∷ []) true w)
