use Rattle.flat_source_meaning.proofs.FlatLaws.{flat_excludes_fault}
use Rattle.flat_source_meaning.proofs.OneFlatFault.{one_first_flat_fault}
use Rattle.flat_laws.proofs.flat_sources.Goals as goal

pub returns : goal.returns
returns c = record { exclude = flat_excludes_fault; once = one_first_flat_fault }
