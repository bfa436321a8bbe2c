use Rattle.std.proofs.Common.{subst, sym, List}
use Rattle.scope_meaning.specs.Heads.{names_here}
use Rattle.scope_meaning.specs.Scope.{frames}
use Rattle.elab_names.specs.declared.scope_names.ScopeNames.{ScopeNames}
use Rattle.elab_names.specs.Frames.{AreFrames}
use Rattle.elab_faults.specs.Flaws.{Finds, IsFlaw}
use Rattle.elab_parameters.specs.Declarations.{AreDeclared, declaration_flaws}
use Rattle.elab_parameters.proofs.Declarations.{formed, formless, read}
use Rattle.elab_parameters.proofs.declaration.declared_constants.Goals as goal

pub returns-in-Ok : goal.returns-in-Ok
returns-in-Ok c = λ here at are given.
    let f = c.args.form.now in
    let ps = c.args.declared.now in
    let known = names_here here at in
    let behind = c.read_parameters.new.names.items in
    let seen = subst (λ (ss : List ScopeNames). AreFrames (frames here at) ss) (sym c.as_slice.ensures.value) are in
    let sized = c.in-Ok.ensures known (c.new-visible.ensures.environment (frames here at) seen) in
    subst (Finds (AreDeclared here at c.args.local f ps behind) (declaration_flaws here at c.args.local f ps)) (sym c.constants_of.ensures)
    (formed here at c.args.local f ps behind c.read_parameters.result sized.0
    (read here at known c.args.local f ps behind c.read_parameters.result (c.read_parameters.ensures here at known f are given sized.1)))

pub returns-in-Err : goal.returns-in-Err
returns-in-Err c = λ here at are given.
    let f = c.args.form.now in
    let ps = c.args.declared.now in
    let known = names_here here at in
    let seen = subst (λ (ss : List ScopeNames). AreFrames (frames here at) ss) (sym c.as_slice.ensures.value) are in
    let same = c.new-visible.ensures.environment (frames here at) seen in
    subst (IsFlaw (declaration_flaws here at c.args.local f ps)) (sym c.with_values.ensures)
    (formless here at c.args.local f ps c.in-Err.flaw c.value_flaws.result (c.in-Err.ensures known same) (c.value_flaws.ensures here known same given))
