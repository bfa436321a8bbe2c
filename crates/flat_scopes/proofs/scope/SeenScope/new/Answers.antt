use Rattle.std.proofs.Common.{refl}
use Rattle.flat_scopes.proofs.Tables.{framed}
use Rattle.flat_scopes.proofs.scope.SeenScope.new.Goals as goal

pub returns-clause-frame : goal.returns-clause-frame
returns-clause-frame c = λ f number n named is none.
    framed f number c.args.declared.now c.args.genvar
    (record { declared = c.in_ok-declared.declared; genvar = c.args.genvar; known = c.new.result; count = 0; outer = c.args.outer })
    c.in_ok-declared.ensures refl refl c.new.ensures n named is none
