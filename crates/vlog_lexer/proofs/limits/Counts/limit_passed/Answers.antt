use Rattle.std.proofs.Common.{◌∙◌}
use Rattle.vlog_lexer.proofs.LimitLemmas.{limit_is}
use Rattle.vlog_lexer.proofs.limits.Counts.limit_passed.Goals as goal

pub returns : goal.returns
returns c = λ before counts. c.limit_at.ensures ∙ limit_is c.args.kind.now before c.args.self c.name_length.result c.name_length.ensures counts
