use Rattle.vlog_lexer.proofs.TextLemmas.{quoted-ends, quoted-here, quoted-none, quoted-on}
use Rattle.vlog_lexer.proofs.quoted.quoted_len.Goals as goal

pub returns-then-byte-eq10-clause-value : goal.returns-then-byte-eq10-clause-value
returns-then-byte-eq10-clause-value c =
    quoted-ends c.args.text.now c.loop-at.at c.loop-at.taken _ c.loop-at-test.true c.if-byte-eq10.true c.loop-at.invariant

pub returns-then-closes-clause-value : goal.returns-then-closes-clause-value
returns-then-closes-clause-value c =
    quoted-here c.args.text.now c.loop-at.at c.loop-at.taken c.closes.result _ c.loop-at-test.true c.if-byte-eq10.false c.closes.ensures c.if-closes.true
    c.loop-at.invariant

pub loop-at-preserved : goal.loop-at-preserved
loop-at-preserved c =
    quoted-on c.args.text.now c.loop-at.at c.loop-at.taken c.closes.result c.takes_next-taken.result _ c.loop-at-test.true c.if-byte-eq10.false
    c.closes.ensures c.if-closes.false c.takes_next-taken.ensures c.loop-at.invariant

pub returns-clause-value : goal.returns-clause-value
returns-clause-value c = quoted-none c.args.text.now c.loop-at.at c.loop-at.taken _ c.loop-at-test.false c.loop-at.invariant
