use Rattle.std.proofs.Common.{ap, Err}
use Rattle.command_ending.specs.Stops.{without_memory}
use Rattle.command_check.proofs.RefusalLemmas.{refusal_grammar, refusal_tokens}
use Rattle.command_check.proofs.design.modules_of.Goals as goal

pub returns-in-Err-clause-err : goal.returns-in-Err-clause-err
returns-in-Err-clause-err c = refusal_tokens c.args.number c.args.name.now c.args.text.now c.in-Err.fault c.bad_tokens.result c.in-Err.ensures.exact
    c.bad_tokens.ensures

pub returns-in-Err-Syntax-clause-err : goal.returns-in-Err-Syntax-clause-err
returns-in-Err-Syntax-clause-err c =
    let place = c.in-Err-Syntax.place in
    let syntax = ap Err c.in-Err-Syntax.field-0-is in
    refusal_grammar c.args.number c.args.name.now c.args.text.now c.in-Ok.found place c.bad_design.result c.in-Ok.ensures.exact
    (c.in-Err-Syntax.ensures.outside place syntax) (c.in-Err-Syntax.ensures.place place syntax) c.bad_design.ensures

pub returns-clause-err : goal.returns-clause-err
returns-clause-err c = without_memory
