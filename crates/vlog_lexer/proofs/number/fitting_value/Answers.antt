use Rattle.std.proofs.Common.{refl, sym, ◌∙◌}
use Rattle.vlog_lexer.proofs.NumberLemmas.{fitting-none, fitting-some, wide-within}
use Rattle.vlog_lexer.proofs.number.fitting_value.Goals as goal

pub returns-in-None-clause-value : goal.returns-in-None-clause-value
returns-in-None-clause-value c = fitting-none c.args.size _ c.in-None.ensures

pub returns-then-is_wide-clause-value : goal.returns-then-is_wide-clause-value
returns-then-is_wide-clause-value c = fitting-some c.args.size _ c.in-Some.value _ _ c.in-Some.ensures (sym c.if-is_wide.true ∙ c.is_wide.ensures) refl

pub returns-else-is_wide-clause-value : goal.returns-else-is_wide-clause-value
returns-else-is_wide-clause-value c = fitting-some c.args.size _ c.in-Some.value _ _ c.in-Some.ensures (sym c.if-is_wide.false ∙ c.is_wide.ensures) refl

pub returns-else-is_wide-clause-width : goal.returns-else-is_wide-clause-width
returns-else-is_wide-clause-width c = λ _. wide-within c.args.size c.in-Some.value c.is_wide.result c.is_wide.ensures c.if-is_wide.false
