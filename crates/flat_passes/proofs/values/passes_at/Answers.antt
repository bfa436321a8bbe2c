use Rattle.source_meaning.specs.Environment.{in_pass}
use Rattle.flat_source_meaning.specs.FixedParts.{is_constant}
use Rattle.flat_source_meaning.specs.ProcessLoops.{value_after}
use Rattle.flat_passes.specs.Turns.{loop_of}
use Rattle.flat_passes.proofs.Constants.{says_some, says_none}
use Rattle.flat_passes.proofs.Turns.{whole_head, no_step}
use Rattle.flat_passes.proofs.values.passes_at.Goals as goal

pub returns-in_ok-all-in-Some : goal.returns-in_ok-all-in-Some
returns-in_ok-all-in-Some g c = λ step_name body there is.
    let env = g.N.Names.environment c.args.names.now in
    let l = loop_of c.args.head step_name body in
    let h = says_some (is_constant (in_pass env l.name c.args.first) l.step) (value_after env l c.args.first) c.in_ok-step.step c.in-Some.field-0 c.in-Some.is
    c.in_ok-step.ensures in
    whole_head env l c.args.first there is h.0 c.in_ok-all-in-Some.all (c.in_ok-all-in-Some.ensures step_name body)

pub returns-in-None : goal.returns-in-None
returns-in-None g c = λ step_name body there is.
    let env = g.N.Names.environment c.args.names.now in
    let l = loop_of c.args.head step_name body in
    no_step env l c.args.first is
    (says_none (is_constant (in_pass env l.name c.args.first) l.step) (value_after env l c.args.first) c.in_ok-step.step c.in-None.is c.in_ok-step.ensures)
