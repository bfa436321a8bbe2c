use Rattle.std.proofs.Common.{rules, ◌∙◌, ap, List, [], ◌∷◌, ◌++◌}
use Rattle.elab_types.specs.declared.scope.Constant.{Constant}
use Rattle.elab_types.specs.declared.scope.ScopeItem.{ScopeItem}
use Rattle.scope_rows.proofs.Gathering.{entered}
use Rattle.scope_rows.proofs.gathered.enter.Goals as goal

pub returns : goal.returns
returns c = λ vs g.
    entered vs c.args.to.now _ c.args.entered c.in_ok-push.ensures.ok
    (c.in_ok-push-2.ensures ∙ ap (λ (l : List Constant). c.args.to.now.constants ++ l ∷ []) c.new.ensures)
    (c.in_ok-push-3.ensures ∙ ap (λ (l : List ScopeItem). c.args.to.now.items ++ l ∷ []) c.new-2.ensures) (search rules) g
