use Rattle.std.proofs.Common.{subst, sym, List}
use Rattle.scope_meaning.specs.Scope.{frames}
use Rattle.scope_meaning.specs.Visits.{with_next}
use Rattle.elab_names.specs.declared.scope_names.ScopeNames.{ScopeNames}
use Rattle.elab_names.specs.Frames.{AreFrames}
use Rattle.walk_headers.proofs.PortRows.{fault_refused}
use Rattle.walk_headers.proofs.ports.past_named.Goals as goal

pub returns-in_ok-past_port-in-Ok : goal.returns-in_ok-past_port-in-Ok
returns-in_ok-past_port-in-Ok c = λ design top done here at under n.
    let seen = subst (λ (ss : List ScopeNames). AreFrames (frames here at) ss) (sym c.as_slice.ensures.value) n.opening.names in
    c.in_ok-past_port-in-Ok.ensures design top done here at c.args.port.now under n.opening
    (c.in-Ok.ensures design here (with_next at c.args.walk.now.next) seen n.single).0

pub returns-in-Err : goal.returns-in-Err
returns-in-Err c = λ design top done here at under n.
    let seen = subst (λ (ss : List ScopeNames). AreFrames (frames here at) ss) (sym c.as_slice.ensures.value) n.opening.names in
    fault_refused at c.args.walk.now.next c.in-Err.fault n.opening.stands
    (c.in-Err.ensures design here (with_next at c.args.walk.now.next) seen n.single)
