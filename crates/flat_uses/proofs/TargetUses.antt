-- Targets: the names that they write, and whether an expression is one, node by node.
use Rattle.std.proofs.Common.{◌≡◌, ◌∙◌, sym, ap, ap₂, refl, ℕ, ◌+◌, ◌<◌, Bool, true, false, ◌&&◌, ◌||◌, List, [], ◌∷◌, ◌++◌, length, take, get_or, map}
use Rattle.std.specs.List.{flat_map, list_any, list_all}
use Rattle.std.proofs.lemmas.List.{take_more}
use Rattle.vlog_tree.specs.declared.operator.UnaryOp.{UnaryOp}
use Rattle.vlog_tree.specs.declared.operator.BinaryOp.{BinaryOp}
use Rattle.vlog_tree.specs.declared.operator.SystemCall.{SystemCall}
use Rattle.vlog_tree.specs.declared.expression.Expr.{Expr, Expr-F, fold-roll-Expr}
use Rattle.vlog_tree.specs.declared.expression.Expr.TheVariants as e
use Rattle.vlog_tree.specs.declared.expression.Expr.TheOpen as o
use Rattle.vlog_tree.specs.declared.expression.Select.{Select}
use Rattle.flat_source_meaning.specs.Names.{NameList}
use Rattle.flat_source_meaning.specs.Targets.{target_names, target_node, is_target, target_shape}
use Rattle.flat_uses.proofs.NameEquations.{made_flat}
use Rattle.flat_uses.proofs.Uses.{or_false}

-- ---- the names that are written

module _ (p : List ℕ → Bool) where
  abbrev any : Expr → Bool
  any x = list_any p (target_names x)

  pub in_name : (x : Expr) (name slice : List ℕ) (r : Bool) → x ≡ e.Name name → slice ≡ name → r ≡ p slice → r ≡ list_any p (target_names x)
  in_name x name slice r h s k =
      k ∙ ap p s ∙ sym (or_false (p name)) ∙ sym (ap any h ∙ ap (list_any p) (ap target_names (sym (e.rolls-Name name))
      ∙ fold-roll-Expr NameList NameList target_node (λ s. []) (o.Name name)))

  pub in_select : (x a a' : Expr) (s : Select) (r : Bool) → x ≡ e.Select a s → a' ≡ a → r ≡ any a' → r ≡ list_any p (target_names x)
  in_select x a a' s r h sa k =
      k ∙ ap any sa ∙ sym (ap any h ∙ ap (list_any p) (ap target_names (sym (e.rolls-Select a s))
      ∙ fold-roll-Expr NameList NameList target_node (λ s. []) (o.Select a s)))

  pub in_join : (x : Expr) (ps ps' : List Expr) (r : Bool) → x ≡ e.Join ps → ps' ≡ ps → r ≡ list_any p (flat_map target_names ps')
      → r ≡ list_any p (target_names x)
  in_join x ps ps' r h s k =
      k ∙ ap (λ l. list_any p (flat_map target_names l)) s ∙ sym (ap any h ∙ ap (list_any p) (ap target_names (sym (e.rolls-Join ps))
      ∙ fold-roll-Expr NameList NameList target_node (λ s. []) (o.Join ps) ∙ made_flat target_names ps))

  pub in_number : (x : Expr) (w : ℕ) (signed : Bool) (n free : ℕ) → x ≡ e.Number w signed n free → false ≡ list_any p (target_names x)
  in_number x w signed n free h =
      sym (ap any h ∙ ap (list_any p) (ap target_names (sym (e.rolls-Number w signed n free))
      ∙ fold-roll-Expr NameList NameList target_node (λ s. []) (o.Number w signed n free)))

  pub in_unary : (x : Expr) (op : UnaryOp) (a : Expr) → x ≡ e.Unary op a → false ≡ list_any p (target_names x)
  in_unary x op a h =
      sym (ap any h ∙ ap (list_any p) (ap target_names (sym (e.rolls-Unary op a)) ∙ fold-roll-Expr NameList NameList target_node (λ s. []) (o.Unary op a)))

  pub in_binary : (x : Expr) (op : BinaryOp) (a b : Expr) → x ≡ e.Binary op a b → false ≡ list_any p (target_names x)
  in_binary x op a b h =
      sym (ap any h ∙ ap (list_any p) (ap target_names (sym (e.rolls-Binary op a b))
      ∙ fold-roll-Expr NameList NameList target_node (λ s. []) (o.Binary op a b)))

  pub in_choose : (x t a b : Expr) → x ≡ e.Choose t a b → false ≡ list_any p (target_names x)
  in_choose x t a b h =
      sym (ap any h ∙ ap (list_any p) (ap target_names (sym (e.rolls-Choose t a b))
      ∙ fold-roll-Expr NameList NameList target_node (λ s. []) (o.Choose t a b)))

  pub in_repeat : (x a : Expr) (ps : List Expr) → x ≡ e.Repeat a ps → false ≡ list_any p (target_names x)
  in_repeat x a ps h =
      sym (ap any h ∙ ap (list_any p) (ap target_names (sym (e.rolls-Repeat a ps))
      ∙ fold-roll-Expr NameList NameList target_node (λ s. []) (o.Repeat a ps)))

  pub in_call : (x : Expr) (call : SystemCall) (a : Expr) → x ≡ e.Call call a → false ≡ list_any p (target_names x)
  in_call x call a h =
      sym (ap any h ∙ ap (list_any p) (ap target_names (sym (e.rolls-Call call a))
      ∙ fold-roll-Expr NameList NameList target_node (λ s. []) (o.Call call a)))

-- ---- what may be assigned to

pub name_is : (x : Expr) (name : List ℕ) → x ≡ e.Name name → true ≡ is_target x
name_is x name h = sym (ap is_target h ∙ ap is_target (sym (e.rolls-Name name)) ∙ fold-roll-Expr Bool Bool target_shape (λ s. true) (o.Name name))

pub select_is : (x a a' : Expr) (s : Select) (r : Bool) → x ≡ e.Select a s → a' ≡ a → r ≡ is_target a' → r ≡ is_target x
select_is x a a' s r h sa k =
    k ∙ ap is_target sa
    ∙ sym (ap is_target h ∙ ap is_target (sym (e.rolls-Select a s)) ∙ fold-roll-Expr Bool Bool target_shape (λ s. true) (o.Select a s))

all_of : (ps : List Expr) → list_all (λ (b : Bool). b) (map is_target ps) ≡ list_all is_target ps
all_of [] = refl
all_of (x ∷ ps) = ap (λ b. is_target x && b) (all_of ps)

pub join_is : (x : Expr) (ps ps' : List Expr) (r : Bool) → x ≡ e.Join ps → ps' ≡ ps → r ≡ list_all is_target ps' → r ≡ is_target x
join_is x ps ps' r h s k =
    k ∙ ap (list_all is_target) s
    ∙ sym (ap is_target h ∙ ap is_target (sym (e.rolls-Join ps)) ∙ fold-roll-Expr Bool Bool target_shape (λ s. true) (o.Join ps) ∙ all_of ps)

pub number_is : (x : Expr) (w : ℕ) (signed : Bool) (n free : ℕ) → x ≡ e.Number w signed n free → false ≡ is_target x
number_is x w signed n free h =
    sym (ap is_target h ∙ ap is_target (sym (e.rolls-Number w signed n free))
    ∙ fold-roll-Expr Bool Bool target_shape (λ s. true) (o.Number w signed n free))

pub unary_is : (x : Expr) (op : UnaryOp) (a : Expr) → x ≡ e.Unary op a → false ≡ is_target x
unary_is x op a h = sym (ap is_target h ∙ ap is_target (sym (e.rolls-Unary op a)) ∙ fold-roll-Expr Bool Bool target_shape (λ s. true) (o.Unary op a))

pub binary_is : (x : Expr) (op : BinaryOp) (a b : Expr) → x ≡ e.Binary op a b → false ≡ is_target x
binary_is x op a b h =
    sym (ap is_target h ∙ ap is_target (sym (e.rolls-Binary op a b)) ∙ fold-roll-Expr Bool Bool target_shape (λ s. true) (o.Binary op a b))

pub choose_is : (x t a b : Expr) → x ≡ e.Choose t a b → false ≡ is_target x
choose_is x t a b h =
    sym (ap is_target h ∙ ap is_target (sym (e.rolls-Choose t a b)) ∙ fold-roll-Expr Bool Bool target_shape (λ s. true) (o.Choose t a b))

pub repeat_is : (x a : Expr) (ps : List Expr) → x ≡ e.Repeat a ps → false ≡ is_target x
repeat_is x a ps h =
    sym (ap is_target h ∙ ap is_target (sym (e.rolls-Repeat a ps)) ∙ fold-roll-Expr Bool Bool target_shape (λ s. true) (o.Repeat a ps))

pub call_is : (x : Expr) (call : SystemCall) (a : Expr) → x ≡ e.Call call a → false ≡ is_target x
call_is x call a h = sym (ap is_target h ∙ ap is_target (sym (e.rolls-Call call a)) ∙ fold-roll-Expr Bool Bool target_shape (λ s. true) (o.Call call a))

-- one part more
pub all-more : (ps : List Expr) (i : ℕ) (x : Expr) (all here after : Bool) → i < length ps → x ≡ get_or ps i x → all ≡ list_all is_target (take i ps)
    → here ≡ is_target x → after ≡ (all && here) → after ≡ list_all is_target (take (i + 1) ps)
all-more ps i x all here after lt is a h k =
    k ∙ ap₂ ◌&&◌ a h ∙ behind (take i ps) ∙ ap (list_all is_target) (sym (take_more ps i x lt ∙ ap (λ (y : Expr). take i ps ++ y ∷ []) (sym is)))
  where
    and_true : (b : Bool) → b ≡ (b && true)
    and_true true = refl
    and_true false = refl

    grouped : (a b c : Bool) → ((a && b) && c) ≡ (a && (b && c))
    grouped true b c = refl
    grouped false b c = refl

    behind : (qs : List Expr) → (list_all is_target qs && is_target x) ≡ list_all is_target (qs ++ x ∷ [])
    behind [] = and_true (is_target x)
    behind (q ∷ qs) = grouped (is_target q) (list_all is_target qs) (is_target x) ∙ ap (λ b. is_target q && b) (behind qs)
