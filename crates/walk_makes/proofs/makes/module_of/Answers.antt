use Rattle.scope_meaning.specs.ScopeTrees.{modules}
use Rattle.walk_makes.proofs.Named.{module_is}
use Rattle.walk_makes.proofs.makes.module_of.Goals as goal

pub returns-in-Some : goal.returns-in-Some
returns-in-Some c = λ files name m are found. module_is (modules files) name c.args.number m c.in-Some.of.now (c.in-Some.ensures files are) found
