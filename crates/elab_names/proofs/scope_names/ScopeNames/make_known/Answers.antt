use Rattle.std.proofs.Common.{refl}
use Rattle.elab_names.proofs.Tables.{known-more}
use Rattle.elab_names.proofs.scope_names.ScopeNames.make_known.Goals as goal

pub returns : goal.returns
returns c = λ f k is named value.
    let old = c.args.self.now in
    known-more f old (record { declared = old.declared; count = old.count; genvar = old.genvar; known = c.put.new.self }) k c.args.name.now c.args.value refl
    refl refl
    c.in_ok-put.ensures.ok is named value
