-- The rows of scopes as the code makes them of what is gathered.
use Rattle.std.specs.Prelude.{ℕ, ◌+◌, List, [], ◌∷◌, map, slice_get}
use Rattle.vlog_tree.specs.declared.module.Module.{Module}
use Rattle.elab_types.specs.declared.scope.Constant.{Constant}
use Rattle.elab_types.specs.declared.scope.Scope.{Scope}
use Rattle.elab_types.specs.declared.scope.ScopeItem.{ScopeItem}
use Rattle.scope_meaning.specs.ScopeTrees.{text_of, seen_constant}
use Rattle.row_lists.specs.Lists.{list_at}
use Rattle.walk_state.specs.declared.record.Entered.{Entered}
use Rattle.scope_rows.specs.declared.text.TextedScope.{TextedScope}

-- a scope with the text of its module, which has the constants of the module's scope
abbrev pub texted : List Module → List (List Constant) → Entered → TextedScope
texted design constants e =
    record { entered = e; text = text_of (slice_get design e.in_module) (map seen_constant (list_at constants e.home)) }

abbrev pub row : List Constant → List ScopeItem → TextedScope → Scope
row constants items s = record {
  path = s.entered.path;
  «module» = s.entered.in_module;
  module_text = s.text;
  parent = s.entered.parent;
  constants = constants;
  items = items;
}

-- the rows of scopes, the first of which has this number
unfoldable pub rows_from : List (List Constant) → List (List ScopeItem) → ℕ → List TextedScope → List Scope
rows_from constants items n [] = []
rows_from constants items n (s ∷ ss) = row (list_at constants n) (list_at items n) s ∷ rows_from constants items (n + 1) ss
