use Rattle.scope_meaning.specs.ScopeTrees.{modules}
use Rattle.elab_modules.proofs.Finds.{get-some, get-none}
use Rattle.elab_modules.proofs.find.Modules.get.Goals as goal

pub returns-in-Some : goal.returns-in-Some
returns-in-Some c = λ files are.
    get-some files c.args.self.now.files.now (modules files) c.args.self.now.table c.args.number c.in-Some.row.now _ are.table are.same
    c.in-Some.ensures.value c.at.ensures

pub returns-in-None : goal.returns-in-None
returns-in-None c = λ files are. get-none files (modules files) c.args.self.now.table c.args.number are.table c.in-None.ensures.value
