use Rattle.std.proofs.Common.{◌∙◌}
use Rattle.scope_meaning.specs.ScopeTrees.{modules}
use Rattle.elab_modules.proofs.Rows.{rows-long}
use Rattle.elab_modules.proofs.find.Modules.count.Goals as goal

pub returns : goal.returns
returns c = λ files are. c.len.ensures ∙ rows-long files (modules files) c.args.self.now.table are.table
