use Rattle.std.proofs.Common.{subst, sym, List, ℕ}
use Rattle.scope_meaning.specs.Heads.{names_here}
use Rattle.scope_meaning.specs.Scope.{frames}
use Rattle.elab_names.specs.declared.scope_names.ScopeNames.{ScopeNames}
use Rattle.elab_names.specs.Frames.{AreFrames}
use Rattle.elab_parameters.specs.Founds.{Follows}
use Rattle.elab_parameters.specs.Declarations.{knowing}
use Rattle.elab_parameters.proofs.Readings.{begin_with, more_of, ended_by}
use Rattle.elab_parameters.proofs.declaration.read_parameters.Goals as goal

pub loop-of-init : goal.loop-of-init
loop-of-init c = λ here at before form are given has.
    begin_with here at before c.args.local form c.args.declared.now c.new.result c.args.names.now.items c.new.ensures are

pub loop-of-preserved : goal.loop-of-preserved
loop-of-preserved c = λ here at before form are given has.
    let now = knowing at c.loop-of.found.constants in
    let r = c.loop-of.invariant here at before form are given has in
    more_of here at before c.args.local form c.args.declared.now c.loop-of.of-index c.of-item.result c.loop-of.found c.in_ok-found.found
    c.loop-of.names.items c.with_parameter.new.names.items c.args.size c.parameter_value-value.result c.loop-of-test.true c.of-item.is has
    (c.parameter_value-value.ensures here (names_here here now) (c.new-visible.ensures.environment (frames here now)
    (subst (λ (ss : List ScopeNames). AreFrames (frames here now) ss) (sym c.as_slice.ensures.value) r.known)) given)
    (subst (λ (n : List ℕ). Follows n c.loop-of.found c.parameter_value-value.result c.loop-of.names.items c.in_ok-found.found c.with_parameter.new.names.items)
    c.as_slice-in-loop-of.ensures c.in_ok-found.ensures) r

pub returns : goal.returns
returns c = λ here at before form are given has.
    ended_by here at before c.args.local form c.args.declared.now c.loop-of.of-index c.loop-of.found c.loop-of.names.items c.loop-of-test.false
    (c.loop-of.invariant here at before form are given has)
