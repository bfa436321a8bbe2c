use Rattle.std.proofs.Common.{rules, ◌≡◌, true, ap, Err}
use Rattle.std.specs.Prelude.{option_copied}
use Rattle.cover_answer.specs.Gathering.{keeps}
use Rattle.cover_gather.proofs.StepLemmas.{passes}
use Rattle.cover_gather.proofs.adding.add_record.Goals as goal

pub returns-in-Err-clause-err : goal.returns-in-Err-clause-err
returns-in-Err-clause-err c =
    let kept : keeps (option_copied c.args.filter) c.args.key.now ≡ true = search rules in
    passes (keeps (option_copied c.args.filter)) c.args.ranks c.args.tally.now c.args.key.now c.args.count c.in-Err.fault c.limit_of.result kept
    (λ limit same. c.in-Err.ensures.limit limit (ap Err same)) c.limit_of.ensures
