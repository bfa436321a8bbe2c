-- What is checked of an expression is what it means.
use Rattle.std.proofs.Common.{◌≡◌, ◌∙◌, sym, ap, ap₂, refl, List, [], ◌∷◌, map}
use Rattle.elab_types.specs.declared.flat_source.FlatVar.{FlatVar}
use Rattle.elab_types.specs.declared.flat_expression.FlatExpr.{FlatExpr}
use Rattle.elab_types.specs.declared.flat_expression.FlatExpr.TheOpen as x
use Rattle.elab_types.specs.declared.flat_expression.FlatSelect.{FlatSelect}
use Rattle.source_meaning.specs.Meaning.{Meaning}
use Rattle.flat_meaning.specs.Expressions.{expression, selection, meaning}
use Rattle.flat_meaning.specs.Faults.{check, meanings}
use Rattle.flat_meaning.proofs.Meanings as of
use Rattle.flat_meaning.proofs.Meanings.{selection_of}
use Rattle.lower_meaning.proofs.CheckFolds as folds
use Rattle.lower_meaning.proofs.CheckFolds.{check_select}
use Rattle.lower_meaning.proofs.FlatInduction.{Some, alone, flat_induction}

module _ (vars : List FlatVar) where
  abbrev Means : FlatExpr → Type 0
  Means a = (check vars a).meaning ≡ meaning vars a

  abbrev MeansSelect : FlatSelect → Type 0
  MeansSelect s = (check_select vars s).selection ≡ selection_of vars s

  all_mean : (parts : List (Some Means)) → meanings (map (check vars) (alone parts)) ≡ map (meaning vars) (alone parts)
  all_mean [] = refl
  all_mean (p ∷ parts) = ap₂ (λ m ms. m ∷ ms) p.1 (all_mean parts)

  -- the meaning that is checked is the expression's
  pub check_means : (a : FlatExpr) → (check vars a).meaning ≡ meaning vars a
  check_means = flat_induction Means MeansSelect
      (λ w signed n free. ap (λ c. c.meaning) (folds.checked-Number vars w signed n free) ∙ sym (of.of-Number vars w signed n free))
      (λ k. ap (λ c. c.meaning) (folds.checked-Var vars k) ∙ sym (of.of-Var vars k))
      (λ base s h k. ap (λ c. c.meaning) (folds.checked-Select vars base s)
      ∙ ap₂ (λ m c. expression vars (x.Select m c)) h k ∙ sym (of.of-Select vars base s))
      (λ op a h. ap (λ c. c.meaning) (folds.checked-Unary vars op a) ∙ ap (λ m. expression vars (x.Unary op m)) h ∙ sym (of.of-Unary vars op a))
      (λ op a b h k. ap (λ c. c.meaning) (folds.checked-Binary vars op a b)
      ∙ ap₂ (λ m n. expression vars (x.Binary op m n)) h k ∙ sym (of.of-Binary vars op a b))
      (λ test a b g h k. ap (λ c. c.meaning) (folds.checked-Choose vars test a b)
      ∙ ap (λ t. expression vars (x.Choose t (check vars a).meaning (check vars b).meaning)) g
      ∙ ap₂ (λ m n. expression vars (x.Choose (meaning vars test) m n)) h k ∙ sym (of.of-Choose vars test a b))
      (λ parts. ap (λ c. c.meaning) (folds.checked-Join vars (alone parts))
      ∙ ap (λ ms. expression vars (x.Join ms)) (all_mean parts) ∙ sym (of.of-Join vars (alone parts)))
      (λ count parts h. ap (λ c. c.meaning) (folds.checked-Repeat vars count (alone parts))
      ∙ ap₂ (λ m ms. expression vars (x.Repeat m ms)) h (all_mean parts) ∙ sym (of.of-Repeat vars count (alone parts)))
      (λ name a h. ap (λ c. c.meaning) (folds.checked-Call vars name a) ∙ ap (λ m. expression vars (x.Call name m)) h ∙ sym (of.of-Call vars name a))
      (λ i h. ap (λ c. c.selection) (folds.checked-At vars i) ∙ ap (λ m. selection (x.At m)) h ∙ sym (of.of-At vars i))
      (λ a b h k. ap (λ c. c.selection) (folds.checked-Between vars a b) ∙ ap₂ (λ m n. selection (x.Between m n)) h k ∙ sym (of.of-Between vars a b))
      (λ a b h k. ap (λ c. c.selection) (folds.checked-Up vars a b) ∙ ap₂ (λ m n. selection (x.Up m n)) h k ∙ sym (of.of-Up vars a b))
      (λ a b h k. ap (λ c. c.selection) (folds.checked-Down vars a b) ∙ ap₂ (λ m n. selection (x.Down m n)) h k ∙ sym (of.of-Down vars a b))
