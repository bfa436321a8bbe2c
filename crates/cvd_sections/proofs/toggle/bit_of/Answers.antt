use Rattle.std.proofs.Common.{◌≡◌, ◌^◌, sym, ◌∙◌, ap, subst, Some}
use Rattle.std.specs.Prelude.{slice_get}
use Rattle.cvd_sections.specs.Fields.{JudgesBit}
use Rattle.cvd_sections.proofs.Judging.{held_is}
use Rattle.cvd_sections.proofs.Variables.{bit_alike}
use Rattle.cvd_sections.proofs.toggle.bit_of.Goals as goal

pub returns-in_default-word_and_bit : goal.returns-in_default-word_and_bit
returns-in_default-word_and_bit c = λ d t s place bit.
    let x = c.in-Some-at.found.now in
    let v = held_is (2 ^ 32) t.var c.in-Some.var (sym c.in-Some.is ∙ place.0) in
    let there : slice_get d.vars t.var ≡ Some x = ap (λ l. slice_get l t.var) s ∙ ap (slice_get c.args.vars.now) (sym v) ∙ sym c.in-Some-at.ensures in
    let j = subst (JudgesBit x t.word t.bit) c.in_default-word_and_bit.is (c.word_and_bit.ensures t.word t.bit place.1 bit) in
    bit_alike d t x there ∙ j

pub returns : goal.returns
returns c = λ d t s place bit.
    let x = c.in-Some-at.found.now in
    let v = held_is (2 ^ 32) t.var c.in-Some.var (sym c.in-Some.is ∙ place.0) in
    let there : slice_get d.vars t.var ≡ Some x = ap (λ l. slice_get l t.var) s ∙ ap (slice_get c.args.vars.now) (sym v) ∙ sym c.in-Some-at.ensures in
    let j = subst (JudgesBit x t.word t.bit) c.in-Some-word_and_bit.is (c.word_and_bit.ensures t.word t.bit place.1 bit) in
    (bit_alike d t x there ∙ j.0, (v, j.1.0, j.1.1))
