use Rattle.elab_constants.proofs.binary.of_kind.Goals as goal

pub returns-in-InContext : goal.returns-in-InContext
returns-in-InContext c = λ a b s t. rw c.in-InContext.is (c.in_context.ensures a b s t)

pub returns-in-Shifted : goal.returns-in-Shifted
returns-in-Shifted c = λ a b s t. rw c.in-Shifted.is (c.shift.ensures a b s t)

pub returns-in-Compared : goal.returns-in-Compared
returns-in-Compared c = λ a b s t. rw c.in-Compared.is (c.compare.ensures a b s t)

pub returns-in-Both : goal.returns-in-Both
returns-in-Both c = λ a b s t. rw c.in-Both.is (c.test_both.ensures a b s t)

pub returns-in-Either : goal.returns-in-Either
returns-in-Either c = λ a b s t. rw c.in-Either.is (c.test_either.ensures a b s t)
