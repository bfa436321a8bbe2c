-- What a copy of an expression says as a constant, by what the copies of its parts say.
use Rattle.std.proofs.Common.{◌≡◌, ◌∙◌, sym, ap, ap₂, subst, ℕ, ◌+◌, ◌<◌, Bool, List, [], ◌∷◌, ◌++◌, length, take, get_or, map, Result, Ok, Err}
use Rattle.std.proofs.lemmas.List.{take_more, map-append}
use Rattle.std.specs.Prelude.{IfOk}
use Rattle.vlog_tree.specs.declared.operator.UnaryOp.{UnaryOp}
use Rattle.vlog_tree.specs.declared.operator.BinaryOp.{BinaryOp}
use Rattle.vlog_tree.specs.declared.operator.SystemCall.{SystemCall}
use Rattle.vlog_tree.specs.declared.expression.Expr.{Expr, roll-Expr, map-Expr, fold-roll-Expr}
use Rattle.vlog_tree.specs.declared.expression.Expr.TheVariants as s
use Rattle.vlog_tree.specs.declared.expression.Expr.TheOpen as o
use Rattle.vlog_tree.specs.declared.expression.Select.{Select, fold-Select}
use Rattle.elab_types.specs.declared.flat_expression.FlatExpr.{FlatExpr}
use Rattle.elab_types.specs.declared.flat_expression.FlatExpr.TheVariants as e
use Rattle.elab_types.specs.declared.flat_expression.FlatSelect.{FlatSelect}
use Rattle.scope_meaning.specs.Constants.{Read, ReadSelect, node, part, read}
use Rattle.std.specs.declared.alloc.AllocError.{AllocError}
use Rattle.flat_constants.specs.Copies.{IsCopy, AreCopies}
use Rattle.lower_meaning.specs.Constants.{nameless, said}
use Rattle.lower_meaning.proofs.SaidFolds as says

abbrev pub say : Expr → Read
say = read nameless

reads : (l : o.Expr-F Expr Select) → say (roll-Expr l)
    ≡ node nameless (map-Expr Expr Select Read ReadSelect say (fold-Select Read ReadSelect (node nameless) part) l)
reads l = fold-roll-Expr Read ReadSelect (node nameless) part l

pub number_says : (w : ℕ) (signed : Bool) (n free : ℕ) → say (s.Number w signed n free) ≡ said (e.Number w signed n free)
number_says w signed n free =
    ap say (sym (s.rolls-Number w signed n free)) ∙ reads (o.Number w signed n free) ∙ sym (says.said-Number w signed n free)

pub var_says : (k : ℕ) → say (s.Name []) ≡ said (e.Var k)
var_says k = ap say (sym (s.rolls-Name [])) ∙ reads (o.Name []) ∙ sym (says.said-Var k)

pub select_says : (base : FlatExpr) (part : FlatSelect) → say (s.Name []) ≡ said (e.Select base part)
select_says base part = ap say (sym (s.rolls-Name [])) ∙ reads (o.Name []) ∙ sym (says.said-Select base part)

pub unary_says : (op : UnaryOp) (a : FlatExpr) (b : Expr) → say b ≡ said a → say (s.Unary op b) ≡ said (e.Unary op a)
unary_says op a b q =
    ap say (sym (s.rolls-Unary op b)) ∙ reads (o.Unary op b) ∙ ap (λ r. node nameless (o.Unary op r)) q ∙ sym (says.said-Unary op a)

pub call_says : (f : SystemCall) (a : FlatExpr) (b : Expr) → say b ≡ said a → say (s.Call f b) ≡ said (e.Call f a)
call_says f a b q =
    ap say (sym (s.rolls-Call f b)) ∙ reads (o.Call f b) ∙ ap (λ r. node nameless (o.Call f r)) q ∙ sym (says.said-Call f a)

pub binary_says : (op : BinaryOp) (a b : FlatExpr) (c d : Expr) → say c ≡ said a → say d ≡ said b → say (s.Binary op c d) ≡ said (e.Binary op a b)
binary_says op a b c d f g =
    ap say (sym (s.rolls-Binary op c d)) ∙ reads (o.Binary op c d)
    ∙ ap₂ (λ m n. node nameless (o.Binary op m n)) f g ∙ sym (says.said-Binary op a b)

choose_says : (t a b : FlatExpr) (u c d : Expr) → say u ≡ said t → say c ≡ said a → say d ≡ said b
    → say (s.Choose u c d) ≡ said (e.Choose t a b)
choose_says t a b u c d i f g =
    ap say (sym (s.rolls-Choose u c d)) ∙ reads (o.Choose u c d)
    ∙ ap (λ l. node nameless (o.Choose l (say c) (say d))) i
    ∙ ap₂ (λ m n. node nameless (o.Choose (said t) m n)) f g ∙ sym (says.said-Choose t a b)

pub choice_says : (t a b : FlatExpr) (u c d : Expr) (r : Result Expr AllocError) → say u ≡ said t → say c ≡ said a → say d ≡ said b
    → IfOk r (λ y. y ≡ s.Choose u c d) → IsCopy (e.Choose t a b) r
choice_says t a b u c d (Ok y) i f g h = ap say h ∙ choose_says t a b u c d i f g
choice_says t a b u c d (Err k) i f g h = tt

pub join_says : (ps : List FlatExpr) (qs : List Expr) → map say qs ≡ map said ps → say (s.Join qs) ≡ said (e.Join ps)
join_says ps qs f =
    ap say (sym (s.rolls-Join qs)) ∙ reads (o.Join qs) ∙ ap (λ rs. node nameless (o.Join rs)) f ∙ sym (says.said-Join ps)

pub repeat_says : (c : FlatExpr) (ps : List FlatExpr) (d : Expr) (qs : List Expr) → say d ≡ said c → map say qs ≡ map said ps
    → say (s.Repeat d qs) ≡ said (e.Repeat c ps)
repeat_says c ps d qs f g =
    ap say (sym (s.rolls-Repeat d qs)) ∙ reads (o.Repeat d qs)
    ∙ ap₂ (λ m ms. node nameless (o.Repeat m ms)) f g ∙ sym (says.said-Repeat c ps)

-- a copy that is there says what the expression says
pub of_copy : (a : FlatExpr) (r : Result Expr AllocError) (y : Expr) → r ≡ Ok y → IsCopy a r → say y ≡ said a
of_copy a r y is h = let P : Result Expr AllocError → Type 0 = IsCopy a in subst P is h

pub of_copies : (ps : List FlatExpr) (r : Result (List Expr) AllocError) (ys : List Expr) → r ≡ Ok ys → AreCopies ps r → map say ys ≡ map said ps
of_copies ps r ys is h = let P : Result (List Expr) AllocError → Type 0 = AreCopies ps in subst P is h

-- the copy of an expression that is another
pub moved : (x a : FlatExpr) (r : Result Expr AllocError) → x ≡ a → IsCopy a r → IsCopy x r
moved x a r i h = let P : FlatExpr → Type 0 = λ z. IsCopy z r in subst P (sym i) h

pub within : (x a : FlatExpr) (r : Result Expr AllocError) → x ≡ a → IsCopy x r → IsCopy a r
within x a r i h = let P : FlatExpr → Type 0 = λ z. IsCopy z r in subst P i h

pub all_within : (xs ys : List FlatExpr) (r : Result (List Expr) AllocError) → xs ≡ ys → AreCopies xs r → AreCopies ys r
all_within xs ys r i h = let P : List FlatExpr → Type 0 = λ zs. AreCopies zs r in subst P i h

-- one part more
pub parts_more : (ps : List FlatExpr) (i : ℕ) (x : FlatExpr) (ys all : List Expr) (y : Expr) → i < length ps → x ≡ get_or ps i x
    → map say ys ≡ map said (take i ps) → say y ≡ said x → all ≡ ys ++ y ∷ [] → map say all ≡ map said (take (i + 1) ps)
parts_more ps i x ys all y lt is h k a =
    ap (map say) a ∙ map-append say ys (y ∷ []) ∙ ap₂ (λ rs r. rs ++ r ∷ []) h (k ∙ ap said is)
    ∙ sym (ap (map said) (take_more ps i x lt) ∙ map-append said (take i ps) (get_or ps i x ∷ []))
