-- What an expression says as a constant is what it means.
use Rattle.std.proofs.Common.{◌≡◌, ◌∙◌, sym, ap, ap₂, refl, subst, List, [], ◌∷◌, map}
use Rattle.vlog_tree.specs.declared.expression.Expr.{Expr, Expr-F, ind-Expr, map-Expr, roll-Expr, fold-roll-Expr}
use Rattle.vlog_tree.specs.declared.expression.Expr.TheOpen as o
use Rattle.vlog_tree.specs.declared.expression.Select.{Select, map-Select, roll-Select, fold-roll-Select}
use Rattle.source_meaning.specs.Meaning.{Meaning}
use Rattle.source_meaning.specs.Selects.{Selection}
use Rattle.source_meaning.specs.Environment.{Environment}
use Rattle.source_meaning.specs.Expressions.{meaning, expression, selection}
use Rattle.source_meaning.proofs.Equations.{selection_of}
use Rattle.scope_meaning.specs.Constants.{Read, ReadSelect, node, part, read, meanings}
use Rattle.elab_constants.specs.Reads.{read_select}

module _ (env : Environment) where
  abbrev Means : Expr → Type 0
  Means a = (read env a).meaning ≡ meaning env a

  abbrev Selects : Select → Type 0
  Selects s = (read_select env s).selection ≡ selection_of env s

  abbrev Told : Type 0
  Told = (a : Expr) × Means a

  abbrev ToldSelect : Type 0
  ToldSelect = (s : Select) × Selects s

  all_mean : (parts : List Told) → meanings (map (read env) (map (λ (a : Told). a.0) parts)) ≡ map (meaning env) (map (λ (a : Told). a.0) parts)
  all_mean [] = refl
  all_mean (a ∷ parts) = ap₂ (λ m ms. m ∷ ms) a.1 (all_mean parts)

  at_node : (y : Expr-F Told ToldSelect) → Means (roll-Expr (map-Expr Told ToldSelect Expr Select (λ a. a.0) (λ s. s.0) y))
  at_node (o.Number w signed n free) =
      ap (λ r. r.meaning) (fold-roll-Expr Read ReadSelect (node env) part (o.Number w signed n free))
      ∙ sym (fold-roll-Expr Meaning Selection (expression env) selection (o.Number w signed n free))
  at_node (o.Name x) =
      ap (λ r. r.meaning) (fold-roll-Expr Read ReadSelect (node env) part (o.Name x))
      ∙ sym (fold-roll-Expr Meaning Selection (expression env) selection (o.Name x))
  at_node (o.Select a s) =
      ap (λ r. r.meaning) (fold-roll-Expr Read ReadSelect (node env) part (o.Select a.0 s.0))
      ∙ ap₂ (λ m c. expression env (o.Select m c)) a.1 s.1
      ∙ sym (fold-roll-Expr Meaning Selection (expression env) selection (o.Select a.0 s.0))
  at_node (o.Unary op a) =
      ap (λ r. r.meaning) (fold-roll-Expr Read ReadSelect (node env) part (o.Unary op a.0))
      ∙ ap (λ m. expression env (o.Unary op m)) a.1
      ∙ sym (fold-roll-Expr Meaning Selection (expression env) selection (o.Unary op a.0))
  at_node (o.Binary op a b) =
      ap (λ r. r.meaning) (fold-roll-Expr Read ReadSelect (node env) part (o.Binary op a.0 b.0))
      ∙ ap₂ (λ m n. expression env (o.Binary op m n)) a.1 b.1
      ∙ sym (fold-roll-Expr Meaning Selection (expression env) selection (o.Binary op a.0 b.0))
  at_node (o.Choose t a b) =
      ap (λ r. r.meaning) (fold-roll-Expr Read ReadSelect (node env) part (o.Choose t.0 a.0 b.0))
      ∙ ap (λ m. expression env (o.Choose m (read env a.0).meaning (read env b.0).meaning)) t.1
      ∙ ap₂ (λ m n. expression env (o.Choose (meaning env t.0) m n)) a.1 b.1
      ∙ sym (fold-roll-Expr Meaning Selection (expression env) selection (o.Choose t.0 a.0 b.0))
  at_node (o.Join parts) =
      ap (λ r. r.meaning) (fold-roll-Expr Read ReadSelect (node env) part (o.Join (map (λ (a : Told). a.0) parts)))
      ∙ ap (λ ms. expression env (o.Join ms)) (all_mean parts)
      ∙ sym (fold-roll-Expr Meaning Selection (expression env) selection (o.Join (map (λ (a : Told). a.0) parts)))
  at_node (o.Repeat a parts) =
      ap (λ r. r.meaning) (fold-roll-Expr Read ReadSelect (node env) part (o.Repeat a.0 (map (λ (b : Told). b.0) parts)))
      ∙ ap₂ (λ m ms. expression env (o.Repeat m ms)) a.1 (all_mean parts)
      ∙ sym (fold-roll-Expr Meaning Selection (expression env) selection (o.Repeat a.0 (map (λ (b : Told). b.0) parts)))
  at_node (o.Call f a) =
      ap (λ r. r.meaning) (fold-roll-Expr Read ReadSelect (node env) part (o.Call f a.0))
      ∙ ap (λ m. expression env (o.Call f m)) a.1
      ∙ sym (fold-roll-Expr Meaning Selection (expression env) selection (o.Call f a.0))

  at_part : (y : o.Select-F Told ToldSelect) → Selects (roll-Select (map-Select Told ToldSelect Expr Select (λ a. a.0) (λ s. s.0) y))
  at_part (o.At a) =
      ap (λ r. r.selection) (fold-roll-Select Read ReadSelect (node env) part (o.At a.0))
      ∙ ap (λ m. selection (o.At m)) a.1
      ∙ sym (fold-roll-Select Meaning Selection (expression env) selection (o.At a.0))
  at_part (o.Between a b) =
      ap (λ r. r.selection) (fold-roll-Select Read ReadSelect (node env) part (o.Between a.0 b.0))
      ∙ ap₂ (λ m n. selection (o.Between m n)) a.1 b.1
      ∙ sym (fold-roll-Select Meaning Selection (expression env) selection (o.Between a.0 b.0))
  at_part (o.Up a b) =
      ap (λ r. r.selection) (fold-roll-Select Read ReadSelect (node env) part (o.Up a.0 b.0))
      ∙ ap₂ (λ m n. selection (o.Up m n)) a.1 b.1
      ∙ sym (fold-roll-Select Meaning Selection (expression env) selection (o.Up a.0 b.0))
  at_part (o.Down a b) =
      ap (λ r. r.selection) (fold-roll-Select Read ReadSelect (node env) part (o.Down a.0 b.0))
      ∙ ap₂ (λ m n. selection (o.Down m n)) a.1 b.1
      ∙ sym (fold-roll-Select Meaning Selection (expression env) selection (o.Down a.0 b.0))

  pub read_means : (a : Expr) → (read env a).meaning ≡ meaning env a
  read_means = ind-Expr Means Selects
      (λ u y p. subst (λ (z : Expr-F Expr Select). Means (roll-Expr z)) p (at_node y))
      (λ u y p. subst (λ (z : o.Select-F Expr Select). Selects (roll-Select z)) p (at_part y))
