use Rattle.elab_modules.proofs.Marks.{contains-some, contains-none, holds}
use Rattle.elab_modules.proofs.above.OpenModules.contains.Goals as goal

pub returns-in-Some : goal.returns-in-Some
returns-in-Some c = λ design above name m are is.
    contains-some c.in-Some.is_in.now _ c.as_slice.result.now c.args.self.now.entered.items c.args.number c.in-Some.ensures c.as_slice.ensures.value
    (holds design above name c.args.number m c.args.self.now are is)

pub returns-in-None : goal.returns-in-None
returns-in-None c = λ design above name m are is.
    contains-none _ c.as_slice.result.now c.args.self.now.entered.items c.args.number c.in-None.ensures c.as_slice.ensures.value
    (holds design above name c.args.number m c.args.self.now are is)
