use Rattle.flat_source_meaning.specs.FixedParts.{is_constant}
use Rattle.flat_source_meaning.specs.ProcessLoops.{value_at_first}
use Rattle.flat_passes.specs.Turns.{loop_of}
use Rattle.flat_passes.proofs.Constants.{says_some, says_none}
use Rattle.flat_passes.proofs.Turns.{no_first}
use Rattle.flat_passes.proofs.values.pass_values.Goals as goal

pub returns-in-Some : goal.returns-in-Some
returns-in-Some g c = λ step_name body.
    let env = g.N.Names.environment c.args.names.now in
    let l = loop_of c.args.head step_name body in
    let h = says_some (is_constant env l.from) (value_at_first env l) c.in_ok-from.from c.in-Some.first c.in-Some.is c.in_ok-from.ensures in
    c.passes_at.ensures step_name body h.0 h.1

pub returns-in-None : goal.returns-in-None
returns-in-None g c = λ step_name body.
    let env = g.N.Names.environment c.args.names.now in
    let l = loop_of c.args.head step_name body in
    no_first env l (says_none (is_constant env l.from) (value_at_first env l) c.in_ok-from.from c.in-None.is c.in_ok-from.ensures)
