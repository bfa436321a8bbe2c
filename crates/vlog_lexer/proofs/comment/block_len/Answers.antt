use Rattle.vlog_lexer.proofs.TextLemmas.{block-here, block-none, block-on}
use Rattle.vlog_lexer.proofs.comment.block_len.Goals as goal

pub returns-then-starts_with-clause-value : goal.returns-then-starts_with-clause-value
returns-then-starts_with-clause-value c =
    block-here c.args.text.now c.loop-at.at c.starts_with.result _ c.loop-at-test.true c.starts_with.ensures.value c.if-starts_with.true c.loop-at.invariant

pub loop-at-preserved : goal.loop-at-preserved
loop-at-preserved c =
    block-on c.args.text.now c.loop-at.at c.starts_with.result _ c.loop-at-test.true c.starts_with.ensures.value c.if-starts_with.false c.loop-at.invariant

pub returns-clause-value : goal.returns-clause-value
returns-clause-value c = block-none c.args.text.now c.loop-at.at _ c.loop-at-test.false c.loop-at.invariant
