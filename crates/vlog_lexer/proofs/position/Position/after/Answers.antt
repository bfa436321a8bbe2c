use Rattle.std.proofs.Common.{arith, ◌++◌, ◌+◌, take}
use Rattle.vlog_lexer.proofs.PlaceLemmas.{behind_byte, behind_line_feed, moved}
use Rattle.vlog_lexer.proofs.position.Position.after.Goals as goal
use Rattle.vlog_lexer.proofs.position.Position.after.Goals.{then-byte-eq10, else-byte-eq10}

pub loop-byte-preserved : goal.loop-byte-preserved
loop-byte-preserved c =
    let bytes = c.args.bytes.now in let i = c.loop-byte.byte-index in
    elim c.if-byte-eq10.branch [
      | then-byte-eq10 w ↦ record {
        line_within = omega arith;
        column_within = omega arith;
        at = λ before is. moved (before ++ take (i + 1) bytes) _ _ _ _ w.line-is w.column-is
            (behind_line_feed before bytes i c.loop-byte.line c.loop-byte.column c.loop-byte-test.true w.if-byte-eq10.true
            (c.loop-byte.invariant.at before is));
      }
      | else-byte-eq10 w ↦ record {
        line_within = omega arith;
        column_within = omega arith;
        at = λ before is. moved (before ++ take (i + 1) bytes) _ _ _ _ w.line-is w.column-is
            (behind_byte before bytes i c.loop-byte.line c.loop-byte.column c.loop-byte-test.true w.if-byte-eq10.false (c.loop-byte.invariant.at before is));
      }
    ]
