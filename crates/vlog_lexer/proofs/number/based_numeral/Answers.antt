use Rattle.std.proofs.Common.{◌≤◌, refl, sym, ◌∙◌, ap, arith, ℕ, ◌%◌, ◌^◌}
use Rattle.vlog_lexer.proofs.NumberLemmas.{based-bad, based-fits, based-wide}
use Rattle.vlog_lexer.proofs.number.based_numeral.Goals as goal

pub returns-then-is_bad : goal.returns-then-is_bad
returns-then-is_bad c = based-bad c.args.size c.args.signed c.args.base c.args.digits.now (sym c.is_bad.ensures ∙ c.if-is_bad.true)

pub returns-in-None : goal.returns-in-None
returns-in-None c = based-wide c.args.size c.args.signed c.args.base c.args.digits.now (sym c.is_bad.ensures ∙ c.if-is_bad.false) c.in-None.ensures.value

pub returns-in-Some : goal.returns-in-Some
returns-in-Some c =
    let w = c.width_of-width.result in
    let within : w ≤ 128 = omega (arith, c.in-Some.ensures.width refl, c.width_of-width.ensures) in
    based-fits c.args.size c.args.signed c.args.base c.args.digits.now c.in-Some.value c.cut.result c.cut-in-Some.result w (sym c.is_bad.ensures
    ∙ c.if-is_bad.false)
    c.in-Some.ensures.value c.width_of-width.ensures c.cut.ensures (c.cut-in-Some.ensures ∙ ap (λ (n : ℕ). n % 2 ^ w) c.free_bits.ensures) within
