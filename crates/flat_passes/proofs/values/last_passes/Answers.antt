use Rattle.std.proofs.Common.{sym, ◌∙◌}
use Rattle.source_meaning.specs.Environment.{in_pass}
use Rattle.flat_source_meaning.specs.FixedParts.{is_constant}
use Rattle.flat_passes.specs.Turns.{loop_of, test_at}
use Rattle.flat_passes.proofs.Constants.{says_some, says_none}
use Rattle.flat_passes.proofs.Turns.{past_here, ends_here, lacks_last}
use Rattle.flat_passes.proofs.values.last_passes.Goals as goal

pub returns-then-holds : goal.returns-then-holds
returns-then-holds g c = λ step_name body.
    let env = g.N.Names.environment c.args.names.now in
    let l = loop_of c.args.head step_name body in
    let h = says_some (is_constant (in_pass env l.name c.args.value) l.test) (test_at env l c.args.value) c.in_ok-holds.field-0 c.in-Some.holds c.in-Some.is
    c.in_ok-holds.ensures in
    past_here env l c.args.value c.args.made h.0 (sym h.1 ∙ c.if-holds.true)

pub returns-else-holds : goal.returns-else-holds
returns-else-holds g c = λ step_name body.
    let env = g.N.Names.environment c.args.names.now in
    let l = loop_of c.args.head step_name body in
    let h = says_some (is_constant (in_pass env l.name c.args.value) l.test) (test_at env l c.args.value) c.in_ok-holds.field-0 c.in-Some.holds c.in-Some.is
    c.in_ok-holds.ensures in
    ends_here env l c.args.value c.args.made h.0 (sym h.1 ∙ c.if-holds.false)

pub returns-in-None : goal.returns-in-None
returns-in-None g c = λ step_name body.
    let env = g.N.Names.environment c.args.names.now in
    let l = loop_of c.args.head step_name body in
    lacks_last env l c.args.value c.args.made
    (says_none (is_constant (in_pass env l.name c.args.value) l.test) (test_at env l c.args.value) c.in_ok-holds.field-0 c.in-None.is c.in_ok-holds.ensures)
