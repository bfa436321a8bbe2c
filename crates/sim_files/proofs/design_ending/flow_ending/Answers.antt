use Rattle.std.proofs.Common.{ap, Some}
use Rattle.design_meaning.specs.FlowFaults.{two_drivers, mixed_driver, not_private, latch, read_before_write, comb_loop}
use Rattle.cvd_text.specs.Fault.{invalid}
use Rattle.command_ending.specs.Stops.{without_memory}
use Rattle.sim_files.specs.DesignFaults.{flow_flaw}
use Rattle.sim_files.proofs.DesignLemmas.{told_alike}
use Rattle.sim_files.proofs.design_ending.flow_ending.Goals as goal

pub returns-in-TwoDrivers : goal.returns-in-TwoDrivers
returns-in-TwoDrivers c =
    told_alike c.args.name.now (flow_flaw c.args.fault.now) (Some (invalid (two_drivers c.in-TwoDrivers.process c.in-TwoDrivers.var)))
    c.bad_design_file.result (ap flow_flaw c.in-TwoDrivers.is) c.bad_design_file.ensures

pub returns-in-MixedDriver : goal.returns-in-MixedDriver
returns-in-MixedDriver c =
    told_alike c.args.name.now (flow_flaw c.args.fault.now) (Some (invalid (mixed_driver c.in-MixedDriver.process c.in-MixedDriver.var)))
    c.bad_design_file-in-MixedDriver.result (ap flow_flaw c.in-MixedDriver.is) c.bad_design_file-in-MixedDriver.ensures

pub returns-in-NotPrivate : goal.returns-in-NotPrivate
returns-in-NotPrivate c =
    told_alike c.args.name.now (flow_flaw c.args.fault.now) (Some (invalid (not_private c.in-NotPrivate.process c.in-NotPrivate.var)))
    c.bad_design_file-in-NotPrivate.result (ap flow_flaw c.in-NotPrivate.is) c.bad_design_file-in-NotPrivate.ensures

pub returns-in-Latch : goal.returns-in-Latch
returns-in-Latch c =
    told_alike c.args.name.now (flow_flaw c.args.fault.now) (Some (invalid (latch c.in-Latch.process c.in-Latch.var)))
    c.bad_design_file-in-Latch.result (ap flow_flaw c.in-Latch.is) c.bad_design_file-in-Latch.ensures

pub returns-in-ReadBeforeWrite : goal.returns-in-ReadBeforeWrite
returns-in-ReadBeforeWrite c =
    told_alike c.args.name.now (flow_flaw c.args.fault.now) (Some (invalid (read_before_write c.in-ReadBeforeWrite.process c.in-ReadBeforeWrite.var)))
    c.bad_design_file-in-ReadBeforeWrite.result (ap flow_flaw c.in-ReadBeforeWrite.is) c.bad_design_file-in-ReadBeforeWrite.ensures

pub returns-in-CombLoop : goal.returns-in-CombLoop
returns-in-CombLoop c =
    told_alike c.args.name.now (flow_flaw c.args.fault.now) (Some (invalid (comb_loop c.in-CombLoop.cycle)))
    c.bad_design_file-in-CombLoop.result (ap flow_flaw c.in-CombLoop.is) c.bad_design_file-in-CombLoop.ensures

pub returns-in-NoMemory : goal.returns-in-NoMemory
returns-in-NoMemory c = without_memory
