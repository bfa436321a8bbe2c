use Rattle.scope_meaning.specs.ScopeTrees.{modules}
use Rattle.elab_modules.proofs.Finds.{find-some, find-none}
use Rattle.elab_modules.proofs.find.Modules.find.Goals as goal

pub returns-in-Some : goal.returns-in-Some
returns-in-Some c = λ files are.
    find-some files (modules files) c.args.self.now.table c.args.name.now c.in-Some.number.now c.found.result are.table c.in-Some.ensures
    (λ m stands. c.found.ensures files m are stands)

pub returns-in-None : goal.returns-in-None
returns-in-None c = λ files are. find-none files (modules files) c.args.self.now.table c.args.name.now are.table c.in-None.ensures
