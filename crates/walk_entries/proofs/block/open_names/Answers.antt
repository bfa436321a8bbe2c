use Rattle.std.proofs.Common.{List, ap, sym, subst, ◌∙◌, map, ◌∷◌}
use Rattle.elab_names.specs.declared.scope_names.ScopeNames.{ScopeNames}
use Rattle.elab_names.specs.Frames.{AreFrames, inside}
use Rattle.elab_names.specs.DeclaredNames.{seen}
use Rattle.walk_entries.proofs.block.open_names.Goals as goal

pub returns : goal.returns
returns c = λ fs f are named is none.
    subst (λ (ss : List ScopeNames). AreFrames (f ∷ fs) ss) (sym c.in_ok-push.ensures.items)
    (inside are (c.in_ok-inner.ensures f (ap (map seen) named ∙ sym c.in_ok-declared.ensures ∙ sym c.as_slice.ensures) is none))
