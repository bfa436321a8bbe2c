use Rattle.std.proofs.Common.{◌^◌, sym, ◌∙◌, arith}
use Rattle.std.specs.Prelude.{nat_lt}
use Rattle.cvd_sections.proofs.Judging.{held_is, not_held, not_below, is_below, fails_first, fails_second, both_hold}
use Rattle.cvd_sections.proofs.toggle.word_and_bit.Goals as goal
use Rattle.cvd_sections.proofs.toggle.word_and_bit.Goals.{then-word-found-via-then-word-found, then-word-found-via-else-word-found+then-bit-found}

pub returns-in_default : goal.returns-in_default
returns-in_default c = λ w b h k.
    let v = c.args.found in
    let large = not_held (2 ^ 32) b (sym c.in_default.is-1 ∙ k) in
    fails_second (nat_lt w v.words) (nat_lt b v.width) (not_below b v.width (omega arith))

pub returns-in_default-2 : goal.returns-in_default-2
returns-in_default-2 c = λ w b h k.
    let v = c.args.found in
    let large = not_held (2 ^ 32) w (sym c.in_default.is-0 ∙ h) in
    fails_first (nat_lt w v.words) (nat_lt b v.width) (not_below w v.words (omega arith))

pub returns-then-word-found : goal.returns-then-word-found
returns-then-word-found c = λ w b h k.
    let v = c.args.found in
    let word = held_is (2 ^ 32) w c.in-Some-Some.word (sym c.in-Some-Some.is-0 ∙ h) in
    let bit = held_is (2 ^ 32) b c.in-Some-Some.bit (sym c.in-Some-Some.is-1 ∙ k) in
    elim c.then-word-found.branch [
      | then-word-found-via-then-word-found x ↦ fails_first (nat_lt w v.words) (nat_lt b v.width) (not_below w v.words (omega arith))
      | then-word-found-via-else-word-found+then-bit-found x ↦ fails_second (nat_lt w v.words) (nat_lt b v.width) (not_below b v.width (omega arith))
    ]

pub returns : goal.returns
returns c = λ w b h k.
    let v = c.args.found in
    let word = held_is (2 ^ 32) w c.in-Some-Some.word (sym c.in-Some-Some.is-0 ∙ h) in
    let bit = held_is (2 ^ 32) b c.in-Some-Some.bit (sym c.in-Some-Some.is-1 ∙ k) in
    (both_hold (nat_lt w v.words) (nat_lt b v.width) (is_below w v.words (omega arith)) (is_below b v.width (omega arith)), (word, bit))
