use Rattle.vlog_lexer.specs.declared.fault.LexFault.TheVariants as fault
use Rattle.command_ending.specs.Stops.{without_memory}
use Rattle.command_check.proofs.RefusalLemmas.{refusal_fault}
use Rattle.command_check.proofs.design.bad_tokens.Goals as goal

pub returns-in-BadByte : goal.returns-in-BadByte
returns-in-BadByte c = refusal_fault c.args.name.now c.args.fault (fault.BadByte c.in-BadByte.place) c.bad_design.result c.in-BadByte.is c.bad_design.ensures

pub returns-in-BadNumber : goal.returns-in-BadNumber
returns-in-BadNumber c = refusal_fault c.args.name.now c.args.fault (fault.BadNumber c.in-BadNumber.place) c.bad_design-in-BadNumber.result c.in-BadNumber.is
    c.bad_design-in-BadNumber.ensures

pub returns-in-NumberTooWide : goal.returns-in-NumberTooWide
returns-in-NumberTooWide c = refusal_fault c.args.name.now c.args.fault (fault.NumberTooWide c.in-NumberTooWide.place) c.bad_design-in-NumberTooWide.result
    c.in-NumberTooWide.is c.bad_design-in-NumberTooWide.ensures

pub returns-in-OpenComment : goal.returns-in-OpenComment
returns-in-OpenComment c = refusal_fault c.args.name.now c.args.fault (fault.OpenComment c.in-OpenComment.place) c.bad_design-in-OpenComment.result
    c.in-OpenComment.is c.bad_design-in-OpenComment.ensures

pub returns-in-OpenString : goal.returns-in-OpenString
returns-in-OpenString c = refusal_fault c.args.name.now c.args.fault (fault.OpenString c.in-OpenString.place) c.bad_design-in-OpenString.result
    c.in-OpenString.is c.bad_design-in-OpenString.ensures

pub returns-in-Directive : goal.returns-in-Directive
returns-in-Directive c = refusal_fault c.args.name.now c.args.fault (fault.Directive c.in-Directive.place) c.bad_design-in-Directive.result c.in-Directive.is
    c.bad_design-in-Directive.ensures

pub returns-in-ReservedName : goal.returns-in-ReservedName
returns-in-ReservedName c = refusal_fault c.args.name.now c.args.fault (fault.ReservedName c.in-ReservedName.place) c.bad_design-in-ReservedName.result
    c.in-ReservedName.is c.bad_design-in-ReservedName.ensures

pub returns-in-Limit : goal.returns-in-Limit
returns-in-Limit c = refusal_fault c.args.name.now c.args.fault (fault.Limit c.in-Limit.limit) _ c.in-Limit.is c.over_limit.ensures

pub returns-in-NoMemory : goal.returns-in-NoMemory
returns-in-NoMemory c = without_memory
