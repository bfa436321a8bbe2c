use Rattle.vlog_lexer.proofs.NumberLemmas.{size-none, size-past, size-some}
use Rattle.vlog_lexer.proofs.number.size_of.Goals as goal

pub returns-then-digits-eq0 : goal.returns-then-digits-eq0
returns-then-digits-eq0 c = size-none c.args.digits.now c.if-digits-eq0.true

pub returns-in-None : goal.returns-in-None
returns-in-None c = size-past c.args.digits.now c.if-digits-eq0.false c.in-None.ensures

pub returns-in-Some : goal.returns-in-Some
returns-in-Some c = size-some c.in-Some.value c.args.digits.now c.if-digits-eq0.false c.in-Some.ensures
