use Rattle.std.proofs.Common.{sym, ◌∙◌, arith}
use Rattle.cov_port.proofs.FieldLemmas.{first_mark_is, passed_more}
use Rattle.cov_port.proofs.key.first_mark.Goals as goal

pub returns-then-is_mark-clause-place : goal.returns-then-is_mark-clause-place
returns-then-is_mark-clause-place c =
    let bytes = c.args.bytes.now in
    first_mark_is bytes _ (omega arith) (passed_more bytes c.blocks-2.at _ c.blocks-2.invariant.passed c.high_front-high.ensures.high)
    (λ l. sym c.is_mark.ensures ∙ c.if-is_mark.true)
