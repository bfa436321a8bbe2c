-- Reading an expression, by what reading its parts gives.
use Rattle.std.proofs.Common.{◌≡◌, ◌∙◌, sym, ap, subst, ℕ, ◌+◌, ◌<◌, Bool, List, [], ◌∷◌, ◌++◌, length, take, get_or, map, Result}
use Rattle.std.proofs.lemmas.List.{take_more, map-append}
use Rattle.vlog_tree.specs.declared.operator.UnaryOp.{UnaryOp}
use Rattle.vlog_tree.specs.declared.operator.BinaryOp.{BinaryOp}
use Rattle.vlog_tree.specs.declared.operator.SystemCall.{SystemCall}
use Rattle.vlog_tree.specs.declared.expression.Expr.{Expr, fold-roll-Expr}
use Rattle.vlog_tree.specs.declared.expression.Expr.TheVariants as e
use Rattle.vlog_tree.specs.declared.expression.Expr.TheOpen as o
use Rattle.vlog_tree.specs.declared.expression.Select.{Select, fold-roll-Select}
use Rattle.vlog_tree.specs.declared.expression.Select.TheVariants as select
use Rattle.source_meaning.specs.Environment.{Environment}
use Rattle.scope_meaning.specs.Constants.{Read, ReadSelect, node, part, read, either_wrong}
use Rattle.scope_meaning.proofs.Equations.{read-Number, read-Binary}
use Rattle.elab_constants.specs.declared.fault.ConstantFault.{ConstantFault}
use Rattle.elab_constants.specs.declared.joined.Joined.{Joined}
use Rattle.elab_constants.specs.Reads.{Reads, Gathers, Tells, read_select}
use Rattle.elab_constants.proofs.Reading.{Reading}

abbrev Parts : Type 0
Parts = Result Joined ConstantFault

module _ (env : Environment) where
  child : (x y : Expr) (r : Reading) → x ≡ y → Reads (read env x) r → Reads (read env y) r
  child x y r h k = subst (λ z. Reads (read env z) r) h k

  at : (x : Expr) (n : Read) (r : Reading) → read env x ≡ n → Reads n r → Reads (read env x) r
  at x n r h k = subst (λ m. Reads m r) (sym h) k

  pub in_number : (x : Expr) (w : ℕ) (signed : Bool) (v free : ℕ) (r : Reading) → x ≡ e.Number w signed v free
      → Reads (node env (o.Number w signed v free)) r → Reads (read env x) r
  in_number x w signed v free r h k = at x _ r (ap (read env) h ∙ read-Number env w signed v free) k

  pub in_unary : (x : Expr) (op : UnaryOp) (a a' : Expr) (ra r : Reading) → x ≡ e.Unary op a → a' ≡ a → Reads (read env a') ra
      → ((n : Read) → Reads n ra → Reads (node env (o.Unary op n)) r) → Reads (read env x) r
  in_unary x op a a' ra r h ha ka k =
      at x (node env (o.Unary op (read env a))) r
      (ap (read env) h ∙ ap (read env) (sym (e.rolls-Unary op a)) ∙ fold-roll-Expr Read ReadSelect (node env) part (o.Unary op a))
      (k (read env a) (child a' a ra ha ka))

  pub in_call : (x : Expr) (op : SystemCall) (a a' : Expr) (ra r : Reading) → x ≡ e.Call op a → a' ≡ a → Reads (read env a') ra
      → ((n : Read) → Reads n ra → Reads (node env (o.Call op n)) r) → Reads (read env x) r
  in_call x op a a' ra r h ha ka k =
      at x (node env (o.Call op (read env a))) r
      (ap (read env) h ∙ ap (read env) (sym (e.rolls-Call op a)) ∙ fold-roll-Expr Read ReadSelect (node env) part (o.Call op a))
      (k (read env a) (child a' a ra ha ka))

  pub in_binary : (x : Expr) (op : BinaryOp) (a a' b b' : Expr) (ra rb r : Reading) → x ≡ e.Binary op a b → a' ≡ a → b' ≡ b
      → Reads (read env a') ra → Reads (read env b') rb
      → ((n m : Read) → Reads n ra → Reads m rb → Reads (node env (o.Binary op n m)) r) → Reads (read env x) r
  in_binary x op a a' b b' ra rb r h ha hb ka kb k =
      at x (node env (o.Binary op (read env a) (read env b))) r (ap (read env) h ∙ read-Binary env op a b)
      (k (read env a) (read env b) (child a' a ra ha ka) (child b' b rb hb kb))

  pub in_choose : (x t t' a a' b b' : Expr) (rt ra rb r : Reading) → x ≡ e.Choose t a b → t' ≡ t → a' ≡ a → b' ≡ b
      → Reads (read env t') rt → Reads (read env a') ra → Reads (read env b') rb
      → ((l n m : Read) → Reads l rt → Reads n ra → Reads m rb → Reads (node env (o.Choose l n m)) r) → Reads (read env x) r
  in_choose x t t' a a' b b' rt ra rb r h ht ha hb kt ka kb k =
      at x (node env (o.Choose (read env t) (read env a) (read env b))) r
      (ap (read env) h ∙ ap (read env) (sym (e.rolls-Choose t a b)) ∙ fold-roll-Expr Read ReadSelect (node env) part (o.Choose t a b))
      (k (read env t) (read env a) (read env b) (child t' t rt ht kt) (child a' a ra ha ka) (child b' b rb hb kb))

  pub in_join : (x : Expr) (ps ps' : List Expr) (rs : Parts) (r : Reading) → x ≡ e.Join ps → ps' ≡ ps → Gathers (map (read env) ps') rs
      → ((ns : List Read) → Gathers ns rs → Reads (node env (o.Join ns)) r) → Reads (read env x) r
  in_join x ps ps' rs r h hp kp k =
      at x (node env (o.Join (map (read env) ps))) r
      (ap (read env) h ∙ ap (read env) (sym (e.rolls-Join ps)) ∙ fold-roll-Expr Read ReadSelect (node env) part (o.Join ps))
      (k (map (read env) ps) (subst (λ z. Gathers (map (read env) z) rs) hp kp))

  pub in_repeat : (x a a' : Expr) (ps ps' : List Expr) (ra : Reading) (rs : Parts) (r : Reading) → x ≡ e.Repeat a ps → a' ≡ a → ps' ≡ ps
      → Reads (read env a') ra → Gathers (map (read env) ps') rs
      → ((n : Read) (ns : List Read) → Reads n ra → Gathers ns rs → Reads (node env (o.Repeat n ns)) r) → Reads (read env x) r
  in_repeat x a a' ps ps' ra rs r h ha hp ka kp k =
      at x (node env (o.Repeat (read env a) (map (read env) ps))) r
      (ap (read env) h ∙ ap (read env) (sym (e.rolls-Repeat a ps)) ∙ fold-roll-Expr Read ReadSelect (node env) part (o.Repeat a ps))
      (k (read env a) (map (read env) ps) (child a' a ra ha ka) (subst (λ z. Gathers (map (read env) z) rs) hp kp))

  pub in_select : (x a a' : Expr) (s : Select) (ra : Reading) (rs : Result Unit ConstantFault) (r : Reading) → x ≡ e.Select a s → a' ≡ a
      → Reads (read env a') ra → Tells (read_select env s).wrong rs
      → ((n : Read) (m : ReadSelect) → Reads n ra → Tells m.wrong rs → Reads (node env (o.Select n m)) r) → Reads (read env x) r
  in_select x a a' s ra rs r h ha ka ks k =
      at x (node env (o.Select (read env a) (read_select env s))) r
      (ap (read env) h ∙ ap (read env) (sym (e.rolls-Select a s)) ∙ fold-roll-Expr Read ReadSelect (node env) part (o.Select a s))
      (k (read env a) (read_select env s) (child a' a ra ha ka) ks)

  -- one part of a concatenation more
  pub parts_more : (ps : List Expr) (i : ℕ) (x : Expr) (rs : Parts) (rx : Reading) (all : Parts) → i < length ps → x ≡ get_or ps i x
      → Gathers (map (read env) (take i ps)) rs → Reads (read env x) rx
      → ((ns : List Read) (n : Read) → Gathers ns rs → Reads n rx → Gathers (ns ++ n ∷ []) all) → Gathers (map (read env) (take (i + 1) ps)) all
  parts_more ps i x rs rx all lt is h kx k =
      subst (λ (ns : List Read). Gathers ns all)
      (sym (ap (map (read env)) (take_more ps i x lt) ∙ map-append (read env) (take i ps) (get_or ps i x ∷ [])
      ∙ ap (λ y. map (read env) (take i ps) ++ read env y ∷ []) (sym is)))
      (k (map (read env) (take i ps)) (read env x) h kx)

  -- ---- selects

  told : (s : Select) (l : ReadSelect) (r : Result Unit ConstantFault) → read_select env s ≡ l → Tells l.wrong r → Tells (read_select env s).wrong r
  told s l r h k = subst (λ (z : ReadSelect). Tells z.wrong r) (sym h) k

  pub in_at : (s : Select) (a a' : Expr) (ra : Reading) (r : Result Unit ConstantFault) → s ≡ select.At a → a' ≡ a → Reads (read env a') ra
      → ((n : Read) → Reads n ra → Tells n.wrong r) → Tells (read_select env s).wrong r
  in_at s a a' ra r h ha ka k =
      told s (part (o.At (read env a))) r
      (ap (read_select env) h ∙ ap (read_select env) (sym (select.rolls-At a)) ∙ fold-roll-Select Read ReadSelect (node env) part (o.At a))
      (k (read env a) (child a' a ra ha ka))

  pub in_two : (s : Select) (a a' b b' : Expr) (ra rb : Reading) (r : Result Unit ConstantFault)
      → (read_select env s).wrong ≡ either_wrong (read env a).wrong (read env b).wrong → a' ≡ a → b' ≡ b
      → Reads (read env a') ra → Reads (read env b') rb
      → ((n m : Read) → Reads n ra → Reads m rb → Tells (either_wrong n.wrong m.wrong) r) → Tells (read_select env s).wrong r
  in_two s a a' b b' ra rb r h ha hb ka kb k =
      subst (λ w. Tells w r) (sym h) (k (read env a) (read env b) (child a' a ra ha ka) (child b' b rb hb kb))

  pub in_between : (s : Select) (a b : Expr) → s ≡ select.Between a b → (read_select env s).wrong ≡ either_wrong (read env a).wrong (read env b).wrong
  in_between s a b h =
      ap (λ (l : ReadSelect). l.wrong) (ap (read_select env) h ∙ ap (read_select env) (sym (select.rolls-Between a b))
      ∙ fold-roll-Select Read ReadSelect (node env) part (o.Between a b))

  pub in_up : (s : Select) (a b : Expr) → s ≡ select.Up a b → (read_select env s).wrong ≡ either_wrong (read env a).wrong (read env b).wrong
  in_up s a b h =
      ap (λ (l : ReadSelect). l.wrong) (ap (read_select env) h ∙ ap (read_select env) (sym (select.rolls-Up a b))
      ∙ fold-roll-Select Read ReadSelect (node env) part (o.Up a b))

  pub in_down : (s : Select) (a b : Expr) → s ≡ select.Down a b → (read_select env s).wrong ≡ either_wrong (read env a).wrong (read env b).wrong
  in_down s a b h =
      ap (λ (l : ReadSelect). l.wrong) (ap (read_select env) h ∙ ap (read_select env) (sym (select.rolls-Down a b))
      ∙ fold-roll-Select Read ReadSelect (node env) part (o.Down a b))
