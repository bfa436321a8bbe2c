use Rattle.std.proofs.Common.{refl, subst, sym, List, ◌∷◌}
use Rattle.flat_scopes.specs.declared.scope.SeenScope.{SeenScope}
use Rattle.flat_scopes.specs.Frames.{AreFramesAt}
use Rattle.flat_scopes.proofs.Places.{places_stay, entered}
use Rattle.flat_scopes.proofs.scopes.SeenScopes.enter.Goals as goal

pub returns-clause-before : goal.returns-clause-before
returns-clause-before c = λ at fs h.
    subst (λ (l : List SeenScope). AreFramesAt l at fs) (sym c.in_ok-push.ensures.items) (places_stay c.args.self.now.scopes.items c.in_ok-scope.scope h)

pub returns-clause-entered : goal.returns-clause-entered
returns-clause-entered c = λ f fs n named is none outside.
    entered c.args.self.now.scopes.items _ c.in_ok-scope.scope c.args.outer f fs c.in_ok-push.ensures.items c.in_ok-scope.ensures.outer n
    (c.in_ok-scope.ensures.frame f f.number refl named is none) outside
