use Rattle.std.proofs.Common.{refl, length}
use Rattle.elab_names.proofs.Tables.{framed}
use Rattle.elab_names.proofs.scope_names.ScopeNames.new.Goals as goal

pub returns : goal.returns
returns c = λ f named is none.
    framed f c.args.declared.now c.args.genvar
    (record { declared = c.in_ok-declared.declared; count = length c.args.declared.now; genvar = c.args.genvar; known = c.new.result })
    refl c.in_ok-declared.ensures refl c.new.ensures named is none
