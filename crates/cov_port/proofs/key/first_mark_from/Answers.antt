use Rattle.std.proofs.Common.{sym, ◌∙◌, arith}
use Rattle.cov_port.proofs.FieldLemmas.{first_mark_is}
use Rattle.cov_port.proofs.key.first_mark_from.Goals as goal

pub returns-else-not-is_mark-clause-place : goal.returns-else-not-is_mark-clause-place
returns-else-not-is_mark-clause-place c = first_mark_is c.args.bytes.now c.bytes.at c.bytes.invariant.within c.bytes.invariant.passed
    (λ l. sym c.is_mark.ensures ∙ c.if-not-is_mark.false)

pub returns-after-bytes-clause-place : goal.returns-after-bytes-clause-place
returns-after-bytes-clause-place c = first_mark_is c.args.bytes.now c.bytes.at c.bytes.invariant.within c.bytes.invariant.passed (λ l. absurd (omega arith))
