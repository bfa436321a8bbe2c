use Rattle.std.proofs.Common.{sym}
use Rattle.vlog_words.specs.Symbols as spec
use Rattle.vlog_words.proofs.TableLemmas.{first_at-joined}
use Rattle.vlog_words.proofs.symbol.of_one.Goals as goal

pub returns-in-Some-clause-value : goal.returns-in-Some-clause-value
returns-in-Some-clause-value c =
    sym (first_at-joined spec.operators_of_one spec.marks_of_one c.args.text.now c.in-Some.kind (sym c.in-Some.ensures.value))
