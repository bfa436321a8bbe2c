use Rattle.std.proofs.Common.{ap, Err}
use Rattle.cover_gather.proofs.StepLemmas.{ends_past}
use Rattle.cover_gather.proofs.adding.end_file.Goals as goal

pub returns-in-Err-clause-err : goal.returns-in-Err-clause-err
returns-in-Err-clause-err c =
    ends_past c.args.ranks c.args.tally.now c.in-Err.fault c.pairs_of.result
    (λ limit same. c.in-Err.ensures.limit limit (ap Err same)) c.pairs_of.ensures
