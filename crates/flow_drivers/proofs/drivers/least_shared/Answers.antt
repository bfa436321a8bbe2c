use Rattle.std.proofs.Common.{◌≡◌}
use Rattle.flow_drivers.proofs.drivers.least_shared.Goals as goal

pub returns-in-Assign : goal.returns-in-Assign
returns-in-Assign c = rw c.in-Assign.is c.least_driven.ensures

pub returns-in-Comb : goal.returns-in-Comb
returns-in-Comb c = rw c.in-Comb.is c.least_driven-in-Comb.ensures

pub returns-in-Clocked : goal.returns-in-Clocked
returns-in-Clocked c = rw c.in-Clocked.is c.least_driven-in-Clocked.ensures

pub returns-in-Cover : goal.returns-in-Cover
returns-in-Cover c = rw c.in-Cover.is c.least_driven-in-Cover.ensures

pub returns-in-Initial : goal.returns-in-Initial
returns-in-Initial c = rw c.in-Initial.is c.least_driven-in-Initial.ensures
