use Rattle.flat_scopes.specs.Meanings.{meaning_by}
use Rattle.flat_scopes.proofs.Places.{in_some, in_none, within, beyond, where_said, where_unsaid}
use Rattle.flat_scopes.proofs.scopes.+meant.Goals as goal

pub meaning_at-returns-in-Some : goal.meaning_at-returns-in-Some
meaning_at-returns-in-Some t c =
    in_some c.args.scopes.now c.args.at c.args.name.now _ c.meaning_in.result c.in-Some.ensures c.meaning_in.ensures

pub meaning_at-returns-in-None : goal.meaning_at-returns-in-None
meaning_at-returns-in-None t c = in_none c.args.scopes.now c.args.at c.args.name.now c.in-None.ensures

pub meaning_in-returns-in-Some : goal.meaning_in-returns-in-Some
meaning_in-returns-in-Some t c =
    where_said (λ outer. meaning_by c.args.scopes.now outer c.args.name.now) c.args.at c.args.name.now c.args.scope.now c.said.result _ c.said.ensures
    c.in-Some.is

pub meaning_in-returns-in-None : goal.meaning_in-returns-in-None
meaning_in-returns-in-None t c =
    where_unsaid (λ outer. meaning_by c.args.scopes.now outer c.args.name.now) c.args.at c.args.name.now c.args.scope.now c.said.result
    c.meaning_outside.result c.said.ensures c.in-None.is c.meaning_outside.ensures

pub meaning_outside-returns-then-outer-scope : goal.meaning_outside-returns-then-outer-scope
meaning_outside-returns-then-outer-scope t c =
    within (λ outer. meaning_by c.args.scopes.now outer c.args.name.now) c.args.scope c.args.outer c.in-Some.outer c.meaning_at.result c.in-Some.is
    c.if-outer-scope.true c.meaning_at.ensures

pub meaning_outside-returns-in-Some : goal.meaning_outside-returns-in-Some
meaning_outside-returns-in-Some t c =
    beyond (λ outer. meaning_by c.args.scopes.now outer c.args.name.now) c.args.scope c.args.outer c.in-Some.outer c.in-Some.is c.if-outer-scope.false
