use Rattle.std.proofs.Common.{ap, Some}
use Rattle.cvd_text.specs.Fault.{not_cvd, version, bad_token, bad_number, bad_shape, truncated, trailing}
use Rattle.command_ending.specs.Stops.{without_memory}
use Rattle.sim_files.specs.DesignFaults.{flaw_of, flow_flaw}
use Rattle.sim_files.proofs.DesignLemmas.{told_alike}
use Rattle.sim_files.proofs.design_ending.design_ending.Goals as goal

pub returns-in-NotCvd : goal.returns-in-NotCvd
returns-in-NotCvd c =
    told_alike c.args.name.now (flaw_of c.args.fault) (Some (not_cvd c.in-NotCvd.byte))
    c.bad_design_file.result (ap flaw_of c.in-NotCvd.is) c.bad_design_file.ensures

pub returns-in-Version : goal.returns-in-Version
returns-in-Version c =
    told_alike c.args.name.now (flaw_of c.args.fault) (Some (version c.in-Version.byte))
    c.bad_design_file-in-Version.result (ap flaw_of c.in-Version.is) c.bad_design_file-in-Version.ensures

pub returns-in-BadToken : goal.returns-in-BadToken
returns-in-BadToken c =
    told_alike c.args.name.now (flaw_of c.args.fault) (Some (bad_token c.in-BadToken.byte))
    c.bad_design_file-in-BadToken.result (ap flaw_of c.in-BadToken.is) c.bad_design_file-in-BadToken.ensures

pub returns-in-BadNumber : goal.returns-in-BadNumber
returns-in-BadNumber c =
    told_alike c.args.name.now (flaw_of c.args.fault) (Some (bad_number c.in-BadNumber.byte))
    c.bad_design_file-in-BadNumber.result (ap flaw_of c.in-BadNumber.is) c.bad_design_file-in-BadNumber.ensures

pub returns-in-BadShape : goal.returns-in-BadShape
returns-in-BadShape c =
    told_alike c.args.name.now (flaw_of c.args.fault) (Some (bad_shape c.in-BadShape.byte))
    c.bad_design_file-in-BadShape.result (ap flaw_of c.in-BadShape.is) c.bad_design_file-in-BadShape.ensures

pub returns-in-Truncated : goal.returns-in-Truncated
returns-in-Truncated c =
    told_alike c.args.name.now (flaw_of c.args.fault) (Some (truncated c.in-Truncated.byte))
    c.bad_design_file-in-Truncated.result (ap flaw_of c.in-Truncated.is) c.bad_design_file-in-Truncated.ensures

pub returns-in-Trailing : goal.returns-in-Trailing
returns-in-Trailing c =
    told_alike c.args.name.now (flaw_of c.args.fault) (Some (trailing c.in-Trailing.byte))
    c.bad_design_file-in-Trailing.result (ap flaw_of c.in-Trailing.is) c.bad_design_file-in-Trailing.ensures

pub returns-in-Invalid : goal.returns-in-Invalid
returns-in-Invalid c =
    told_alike c.args.name.now (flaw_of c.args.fault) (flow_flaw c.in-Invalid.fault) c.flow_ending.result (ap flaw_of c.in-Invalid.is) c.flow_ending.ensures

pub returns-in-NoMemory : goal.returns-in-NoMemory
returns-in-NoMemory c = without_memory
