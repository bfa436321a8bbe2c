use Rattle.elab_modules.proofs.Marks.{enters}
use Rattle.elab_modules.proofs.above.OpenModules.enter.Goals as goal

pub returns : goal.returns
returns c = λ design above name m are is.
    enters design above name c.args.number m c.args.self.now (record { entered = c.mark.new.entered }) are is c.mark.ensures.same c.mark.ensures.others
