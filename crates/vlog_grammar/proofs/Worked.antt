-- Small token lists and their trees.
use Rattle.std.proofs.Common.{◌≡◌, ℕ, List, [], ◌∷◌, Option, Some, None, refl, ap}
use Rattle.cov_types.specs.declared.place.Place.{Place}
use Rattle.vlog_tokens.specs.declared.token.TokenKind.{TokenKind}
use Rattle.vlog_tokens.specs.declared.token.TokenKind.TheVariants as k
use Rattle.vlog_tree.specs.declared.operator.BinaryOp.TheVariants as binary
use Rattle.vlog_tree.specs.declared.expression.Expr.{Expr}
use Rattle.vlog_tree.specs.declared.expression.Expr.TheVariants as e
use Rattle.vlog_tree.specs.declared.expression.Select.TheVariants as select
use Rattle.vlog_tree.specs.declared.statement.StmtKind.TheVariants as s
use Rattle.vlog_tree.specs.Trees.{stmt}
use Rattle.vlog_grammar.specs.Tokens.{Tokens, at, NotNext}
use Rattle.vlog_grammar.specs.Expressions.{IsExpr, plain, IsBinary, operand, higher, joined, IsUnary, primary, part, name, twice, several, between, SpellsExpr}
use Rattle.vlog_grammar.specs.Statements.{if_alone, if_else, empty, SpellsStmt}
use Rattle.vlog_grammar.specs.Items.{no_items}
use Rattle.vlog_grammar.specs.Modules.{IsModule, a_module, no_header, no_list}

abbrev front : Tokens → Option TokenKind
front [] = None
front (t ∷ ts) = Some t.what

apart : {kind other : TokenKind} {p : Place} {us : Tokens} → (◌≡◌ {A = Option TokenKind} (Some other) (Some kind) → ⊥) → NotNext kind (at p other ∷ us)
apart differ q rest h = differ (ap front h)

-- a name, and what it spells where no bracket follows
a_unary : (p : Place) (n : List ℕ) (us : Tokens) → NotNext k.OpenBracket us → IsUnary (at p (k.Name n) ∷ us) (e.Name n) us
a_unary p n us none = primary (part (name none))

-- an operand as the level with `*`, and as the level with `||`
factor : {ts us : Tokens} {a : Expr} → IsUnary ts a us → IsBinary 11 ts a us
factor u = higher (operand u)

term : {ts us : Tokens} {a : Expr} → IsBinary 10 ts a us → IsBinary 2 ts a us
term b = higher (higher (higher (higher (higher (higher (higher (higher b)))))))

-- `a + b * c` is `a + (b * c)`.
product_first : (p q r t u : Place) (a b c : List ℕ)
    → SpellsExpr (at p (k.Name a) ∷ at q k.Plus ∷ at r (k.Name b) ∷ at t k.Star ∷ at u (k.Name c) ∷ [])
    (e.Binary binary.Add (e.Name a) (e.Binary binary.Multiply (e.Name b) (e.Name c)))
product_first p q r t u a b c =
    plain (term (joined (higher (factor (a_unary p a _ (apart (λ h. cc))))) refl
    (joined (factor (a_unary r b _ (apart (λ h. cc)))) refl (operand (a_unary u c [] (λ x rest h. cc))))))

-- `a - b - c` is `(a - b) - c`.
left_first : (p q r t u : Place) (a b c : List ℕ)
    → SpellsExpr (at p (k.Name a) ∷ at q k.Minus ∷ at r (k.Name b) ∷ at t k.Minus ∷ at u (k.Name c) ∷ [])
    (e.Binary binary.Subtract (e.Binary binary.Subtract (e.Name a) (e.Name b)) (e.Name c))
left_first p q r t u a b c =
    plain (term (joined (joined (higher (factor (a_unary p a _ (apart (λ h. cc))))) refl (factor (a_unary r b _ (apart (λ h. cc))))) refl
    (factor (a_unary u c [] (λ x rest h. cc)))))

an_expr : (p : Place) (n : List ℕ) (us : Tokens) → NotNext k.OpenBracket us → IsExpr (at p (k.Name n) ∷ us) (e.Name n) us
an_expr p n us none = plain (term (higher (factor (a_unary p n us none))))

-- `a[b][c:d]` is a part of a word.
part_of_word : (p q r t u v w x y : Place) (a b c d : List ℕ)
    → SpellsExpr (at p (k.Name a) ∷ at q k.OpenBracket ∷ at r (k.Name b) ∷ at t k.CloseBracket ∷ at u k.OpenBracket ∷ at v (k.Name c)
    ∷ at w k.Colon ∷ at x (k.Name d) ∷ at y k.CloseBracket ∷ [])
    (e.Select (e.Select (e.Name a) (select.At (e.Name b))) (select.Between (e.Name c) (e.Name d)))
part_of_word p q r t u v w x y a b c d =
    plain (term (higher (factor (primary (part (twice (an_expr r b _ (apart (λ h. cc)))
    (several (between (an_expr v c _ (apart (λ h. cc))) (an_expr x d _ (apart (λ h. cc)))))))))))

-- In `if (a) if (b) ; else ;` the `else` belongs to the second `if`.
else_to_nearest : (p q r t u v w x y z o : Place) (a b : List ℕ)
    → SpellsStmt (at p k.If ∷ at q k.OpenParen ∷ at r (k.Name a) ∷ at t k.CloseParen ∷ at u k.If ∷ at v k.OpenParen ∷ at w (k.Name b)
    ∷ at x k.CloseParen ∷ at y k.Semicolon ∷ at z k.Else ∷ at o k.Semicolon ∷ [])
    (stmt p (s.If (e.Name a) (stmt u (s.If (e.Name b) (stmt y s.Empty) (Some (stmt o s.Empty)))) None))
else_to_nearest p q r t u v w x y z o a b =
    if_alone (an_expr r a _ (apart (λ h. cc))) (if_else (an_expr w b _ (apart (λ h. cc))) empty empty) (λ x rest h. cc)

-- `module a; endmodule`
empty_module : (p q r t : Place) (a : List ℕ)
    → IsModule (at p k.Module ∷ at q (k.Name a) ∷ at r k.Semicolon ∷ at t k.EndModule ∷ [])
    (record { place = p; last = t; name = a; params = []; ports = []; items = [] }) []
empty_module p q r t a = a_module (no_header (apart (λ h. cc))) (no_list (apart (λ h. cc))) no_items
