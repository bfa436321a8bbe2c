use Rattle.std.proofs.Common.{codes}
use Rattle.cvd_text.specs.Expressions.{tokens_of}
use Rattle.cvd_write.proofs.Puts.{put_row}
use Rattle.cvd_write.proofs.step.test_line.Goals as goal

pub returns : goal.returns
returns c =
    put_row _ (codes "if") (tokens_of c.args.test.now) c.put.new.self c.expression.new.out _ _ c.in_ok-put.ensures c.in_ok-expression.ensures c.end.ensures
