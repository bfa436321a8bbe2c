use Rattle.lower_nodes.proofs.binary.sized.Goals as goal

pub returns-in-InContext : goal.returns-in-InContext
returns-in-InContext c = rw c.in-InContext.is c.in_context.ensures

pub returns-in-Shift : goal.returns-in-Shift
returns-in-Shift c = rw c.in-Shift.is c.shift.ensures

pub returns-in-Comparison : goal.returns-in-Comparison
returns-in-Comparison c = rw c.in-Comparison.is c.compare.ensures

pub returns-in-Tests : goal.returns-in-Tests
returns-in-Tests c = rw c.in-Tests.is c.tests.ensures
