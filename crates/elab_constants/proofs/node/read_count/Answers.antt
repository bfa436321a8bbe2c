use Rattle.elab_constants.proofs.Reading.{count_reads}
use Rattle.elab_constants.proofs.node.read_count.Goals as goal

pub returns-in-Some : goal.returns-in-Some
returns-in-Some c = λ r h. count_reads r c.args.count _ c.in-Some.count c.in_ok-count.was h c.in-Some.ensures
