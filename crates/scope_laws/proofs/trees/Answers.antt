use Rattle.scope_meaning.proofs.TreeLaws.{tree_excludes_fault, one_first_fault}
use Rattle.scope_laws.proofs.trees.Goals as goal

pub returns : goal.returns
returns c = record { exclude = tree_excludes_fault; once = one_first_fault }
