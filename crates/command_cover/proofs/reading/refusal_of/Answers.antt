use Rattle.command_cover.proofs.FaultLemmas.{refusal_fault}
use Rattle.cov_dat.specs.declared.fault.DataFault.TheVariants as fault
use Rattle.command_cover.proofs.reading.refusal_of.Goals as goal

pub returns-in-BadHeader : goal.returns-in-BadHeader
returns-in-BadHeader c = refusal_fault c.args.name.now c.args.fault (fault.BadHeader c.in-BadHeader.line) c.bad_data.result c.in-BadHeader.is c.bad_data.ensures

pub returns-in-BadRecord : goal.returns-in-BadRecord
returns-in-BadRecord c = refusal_fault c.args.name.now c.args.fault (fault.BadRecord c.in-BadRecord.line) _ c.in-BadRecord.is c.bad_data-in-BadRecord.ensures

pub returns-in-BadCount : goal.returns-in-BadCount
returns-in-BadCount c = refusal_fault c.args.name.now c.args.fault (fault.BadCount c.in-BadCount.line) _ c.in-BadCount.is c.bad_data-in-BadCount.ensures

pub returns-in-LineTooLong : goal.returns-in-LineTooLong
returns-in-LineTooLong c = refusal_fault c.args.name.now c.args.fault (fault.LineTooLong c.in-LineTooLong.line) _ c.in-LineTooLong.is
    c.bad_data-in-LineTooLong.ensures

pub returns-in-Limit : goal.returns-in-Limit
returns-in-Limit c = refusal_fault c.args.name.now c.args.fault (fault.Limit c.in-Limit.limit) _ c.in-Limit.is c.over_limit.ensures
