use Rattle.std.proofs.Common.{List, ap, sym, subst, ◌∙◌, map, ◌∷◌, ◌++◌, []}
use Rattle.elab_names.specs.declared.scope_names.ScopeNames.{ScopeNames}
use Rattle.elab_names.specs.Frames.{AreFrames, nothing, inside}
use Rattle.elab_names.specs.DeclaredNames.{seen}
use Rattle.walk_entries.proofs.instance.names_of.Goals as goal

pub returns : goal.returns
returns c = λ f named is none.
    subst (λ (ss : List ScopeNames). AreFrames (f ∷ []) ss) (sym (c.in_ok-push.ensures.items
    ∙ ap (λ (ss : List ScopeNames). ss ++ c.in_ok-scope.scope ∷ []) c.new-names.ensures.items))
    (inside nothing (c.in_ok-scope.ensures f (ap (map seen) named ∙ sym c.in_ok-declared.ensures ∙ sym c.as_slice.ensures) is none))
