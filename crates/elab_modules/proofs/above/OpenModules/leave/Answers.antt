use Rattle.elab_modules.proofs.Marks.{leaves}
use Rattle.elab_modules.proofs.above.OpenModules.leave.Goals as goal

pub returns : goal.returns
returns c = λ design above name m are is out.
    leaves design above name c.args.number m c.args.self.now (record { entered = c.mark.new.entered }) are is out c.mark.ensures.same c.mark.ensures.others
