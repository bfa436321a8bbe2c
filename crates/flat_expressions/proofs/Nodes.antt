-- The flat form of an expression, by those of its parts.
use Rattle.std.proofs.Common.{◌≡◌, ◌∙◌, sym, ap, ap₂, refl, subst, ℕ, ◌+◌, ◌<◌, Bool, ◌||◌, List, [], ◌∷◌, ◌++◌, length, take, get_or, Result, Ok}
use Rattle.std.specs.Global.{Vec}
use Rattle.std.specs.List.{flat_map, list_any}
use Rattle.std.proofs.lemmas.List.{take_more}
use Rattle.std.proofs.lemmas.List.Concat.{flat_map-append}
use Rattle.std.proofs.lemmas.List.Folds.{list_any-append}
use Rattle.vlog_tree.specs.declared.operator.UnaryOp.{UnaryOp}
use Rattle.vlog_tree.specs.declared.operator.BinaryOp.{BinaryOp}
use Rattle.vlog_tree.specs.declared.operator.SystemCall.{SystemCall}
use Rattle.vlog_tree.specs.declared.expression.Expr.{Expr}
use Rattle.vlog_tree.specs.declared.expression.Expr.TheVariants as e
use Rattle.vlog_tree.specs.declared.expression.Select.{Select}
use Rattle.vlog_tree.specs.declared.expression.Select.TheVariants as select
use Rattle.elab_types.specs.declared.flat_source.FlatVar.{FlatVar}
use Rattle.elab_types.specs.declared.flat_expression.FlatExpr.{FlatExpr}
use Rattle.elab_types.specs.declared.flat_expression.FlatExpr.TheVariants as f
use Rattle.elab_types.specs.declared.flat_expression.FlatSelect.{FlatSelect}
use Rattle.source_meaning.specs.Environment.{Environment}
use Rattle.flat_meaning.specs.FlatForm.{IsFlat, number, IsFlatSelect, AreFlat, no_exprs}
use Rattle.flat_source_meaning.specs.Names.{NameList, names_in}
use Rattle.flat_uses.specs.SelectNames.{names_of_select}
use Rattle.flat_uses.proofs.NameEquations as names
use Rattle.flat_expressions.specs.declared.fault.CopyFault.{CopyFault}
use Rattle.flat_expressions.specs.Copies.{lacks, Copied}

abbrev Copying : Type 0
Copying = Result FlatExpr CopyFault

abbrev SelectCopying : Type 0
SelectCopying = Result FlatSelect CopyFault

abbrev Parts : Type 0
Parts = Result (Vec FlatExpr) CopyFault

module _ (vars : List FlatVar) (env : Environment) where
  abbrev lack : Expr → Bool
  lack x = lacks env (names_in x)

  abbrev lack_all : List Expr → Bool
  lack_all ps = lacks env (flat_map names_in ps)

  -- what copying an expression gives
  abbrev Copies : Expr → Copying → Type 0
  Copies x = Copied (IsFlat vars env x) (lack x)

  abbrev CopiesAll : List Expr → Parts → Type 0
  CopiesAll ps = Copied (λ (v : Vec FlatExpr). AreFlat vars env ps v.items) (lack_all ps)

  abbrev CopiesSelect : Select → SelectCopying → Type 0
  CopiesSelect s = Copied (IsFlatSelect vars env s) (lacks env (names_of_select s))

  child : (a' a : Expr) (r : Copying) → a' ≡ a → Copies a' r → Copies a r
  child a' a r h k = subst (λ z. Copies z r) h k

  children : (ps' ps : List Expr) (r : Parts) → ps' ≡ ps → CopiesAll ps' r → CopiesAll ps r
  children ps' ps r h k = subst (λ z. CopiesAll z r) h k

  -- of a node, where what is lacking in it is known
  at : (x y : Expr) (l : Bool) (r : Copying) → x ≡ y → l ≡ lack y → Copied (IsFlat vars env y) l r → Copies x r
  at x y l r h e k =
      subst (λ z. Copies z r) (sym h) (subst (λ (b : Bool). Copied (IsFlat vars env y) b r) e k)

  two : (ns ms : NameList) → (lacks env ns || lacks env ms) ≡ lacks env (ns ++ ms)
  two ns ms = sym (list_any-append _ ns ms)

  pub in_number : (x : Expr) (w : ℕ) (sg : Bool) (n free : ℕ) → x ≡ e.Number w sg n free
      → Copied (IsFlat vars env x) (lacks env (names_in x)) (Ok (f.Number w sg n free))
  in_number x w sg n free h = at x (e.Number w sg n free) (lack (e.Number w sg n free)) (Ok (f.Number w sg n free)) h refl number

  pub in_name : (x : Expr) (name slice : List ℕ) (r : Copying) → x ≡ e.Name name → slice ≡ name
      → Copied (IsFlat vars env (e.Name slice)) (lacks env (slice ∷ [])) r → Copied (IsFlat vars env x) (lacks env (names_in x)) r
  in_name x name slice r h s k =
      at x (e.Name slice) (lacks env (slice ∷ [])) r (h ∙ ap e.Name (sym s)) (ap (lacks env) (sym (names.names-Name slice))) k

  pub in_unary : (x : Expr) (op : UnaryOp) (a a' : Expr) (ra r : Copying) → x ≡ e.Unary op a → a' ≡ a → Copies a' ra
      → ((b : Expr) (l : Bool) → Copied (IsFlat vars env b) l ra → Copied (IsFlat vars env (e.Unary op b)) l r)
      → Copied (IsFlat vars env x) (lacks env (names_in x)) r
  in_unary x op a a' ra r h s ka k =
      at x (e.Unary op a) (lack a) r h (ap (lacks env) (sym (names.names-Unary op a))) (k a (lack a) (child a' a ra s ka))

  pub in_call : (x : Expr) (call : SystemCall) (a a' : Expr) (ra r : Copying) → x ≡ e.Call call a → a' ≡ a → Copies a' ra
      → ((b : Expr) (l : Bool) → Copied (IsFlat vars env b) l ra → Copied (IsFlat vars env (e.Call call b)) l r)
      → Copied (IsFlat vars env x) (lacks env (names_in x)) r
  in_call x call a a' ra r h s ka k =
      at x (e.Call call a) (lack a) r h (ap (lacks env) (sym (names.names-Call call a))) (k a (lack a) (child a' a ra s ka))

  pub in_binary : (x : Expr) (op : BinaryOp) (a a' b b' : Expr) (ra rb r : Copying) → x ≡ e.Binary op a b → a' ≡ a → b' ≡ b → Copies a' ra → Copies b' rb
      → ((c d : Expr) (l m : Bool) → Copied (IsFlat vars env c) l ra → Copied (IsFlat vars env d) m rb
      → Copied (IsFlat vars env (e.Binary op c d)) (l || m) r)
      → Copied (IsFlat vars env x) (lacks env (names_in x)) r
  in_binary x op a a' b b' ra rb r h s t ka kb k =
      at x (e.Binary op a b) (lack a || lack b) r h (two (names_in a) (names_in b) ∙ ap (lacks env) (sym (names.names-Binary op a b)))
      (k a b (lack a) (lack b) (child a' a ra s ka) (child b' b rb t kb))

  pub in_choose : (x t t' a a' b b' : Expr) (rt ra rb r : Copying) → x ≡ e.Choose t a b → t' ≡ t → a' ≡ a → b' ≡ b → Copies t' rt → Copies a' ra
      → Copies b' rb
      → ((q c d : Expr) (j l m : Bool) → Copied (IsFlat vars env q) j rt → Copied (IsFlat vars env c) l ra → Copied (IsFlat vars env d) m rb
      → Copied (IsFlat vars env (e.Choose q c d)) (j || l || m) r)
      → Copied (IsFlat vars env x) (lacks env (names_in x)) r
  in_choose x t t' a a' b b' rt ra rb r h q s u kt ka kb k =
      at x (e.Choose t a b) (lack t || lack a || lack b) r h
      (ap (λ (z : Bool). z || lack b) (two (names_in t) (names_in a)) ∙ two (names_in t ++ names_in a) (names_in b)
      ∙ ap (lacks env) (sym (names.names-Choose t a b)))
      (k t a b (lack t) (lack a) (lack b) (child t' t rt q kt) (child a' a ra s ka) (child b' b rb u kb))

  pub in_join : (x : Expr) (ps ps' : List Expr) (rs : Parts) (r : Copying) → x ≡ e.Join ps → ps' ≡ ps → CopiesAll ps' rs
      → ((qs : List Expr) (l : Bool) → Copied (λ (v : Vec FlatExpr). AreFlat vars env qs v.items) l rs → Copied (IsFlat vars env (e.Join qs)) l r)
      → Copied (IsFlat vars env x) (lacks env (names_in x)) r
  in_join x ps ps' rs r h s kp k =
      at x (e.Join ps) (lack_all ps) r h (ap (lacks env) (sym (names.names-Join ps))) (k ps (lack_all ps) (children ps' ps rs s kp))

  pub in_repeat : (x a a' : Expr) (ps ps' : List Expr) (ra : Copying) (rs : Parts) (r : Copying) → x ≡ e.Repeat a ps → a' ≡ a → ps' ≡ ps
      → Copies a' ra → CopiesAll ps' rs
      → ((c : Expr) (qs : List Expr) (l m : Bool) → Copied (IsFlat vars env c) l ra → Copied (λ (v : Vec FlatExpr). AreFlat vars env qs v.items) m rs
      → Copied (IsFlat vars env (e.Repeat c qs)) (l || m) r)
      → Copied (IsFlat vars env x) (lacks env (names_in x)) r
  in_repeat x a a' ps ps' ra rs r h s t ka kp k =
      at x (e.Repeat a ps) (lack a || lack_all ps) r h
      (two (names_in a) (flat_map names_in ps) ∙ ap (lacks env) (sym (names.names-Repeat a ps)))
      (k a ps (lack a) (lack_all ps) (child a' a ra s ka) (children ps' ps rs t kp))

  pub in_select : (x a a' : Expr) (part : Select) (ra : Copying) (rs : SelectCopying) (r : Copying) → x ≡ e.Select a part → a' ≡ a → Copies a' ra
      → CopiesSelect part rs
      → ((c : Expr) (s : Select) (l m : Bool) → Copied (IsFlat vars env c) l ra → Copied (IsFlatSelect vars env s) m rs
      → Copied (IsFlat vars env (e.Select c s)) (l || m) r)
      → Copied (IsFlat vars env x) (lacks env (names_in x)) r
  in_select x a a' part ra rs r h s ka ks k =
      at x (e.Select a part) (lack a || lacks env (names_of_select part)) r h
      (two (names_in a) (names_of_select part) ∙ ap (lacks env) (sym (names.names-Select a part)))
      (k a part (lack a) (lacks env (names_of_select part)) (child a' a ra s ka) ks)

  -- ---- selects

  at_select : (s t : Select) (l : Bool) (r : SelectCopying) → s ≡ t → l ≡ lacks env (names_of_select t) → Copied (IsFlatSelect vars env t) l r
      → CopiesSelect s r
  at_select s t l r h q k =
      subst (λ z. CopiesSelect z r) (sym h) (subst (λ (b : Bool). Copied (IsFlatSelect vars env t) b r) q k)

  pub in_at : (s : Select) (a a' : Expr) (ra : Copying) (r : SelectCopying) → s ≡ select.At a → a' ≡ a → Copies a' ra
      → ((b : Expr) (l : Bool) → Copied (IsFlat vars env b) l ra → Copied (IsFlatSelect vars env (select.At b)) l r)
      → Copied (IsFlatSelect vars env s) (lacks env (names_of_select s)) r
  in_at s a a' ra r h q ka k =
      at_select s (select.At a) (lack a) r h (ap (lacks env) (sym (names.names-At a))) (k a (lack a) (child a' a ra q ka))

  pub in_between : (s : Select) (a a' b b' : Expr) (ra rb : Copying) (r : SelectCopying) → s ≡ select.Between a b → a' ≡ a → b' ≡ b → Copies a' ra
      → Copies b' rb
      → ((c d : Expr) (l m : Bool) → Copied (IsFlat vars env c) l ra → Copied (IsFlat vars env d) m rb
      → Copied (IsFlatSelect vars env (select.Between c d)) (l || m) r)
      → Copied (IsFlatSelect vars env s) (lacks env (names_of_select s)) r
  in_between s a a' b b' ra rb r h q t ka kb k =
      at_select s (select.Between a b) (lack a || lack b) r h (two (names_in a) (names_in b) ∙ ap (lacks env) (sym (names.names-Between a b)))
      (k a b (lack a) (lack b) (child a' a ra q ka) (child b' b rb t kb))

  pub in_up : (s : Select) (a a' b b' : Expr) (ra rb : Copying) (r : SelectCopying) → s ≡ select.Up a b → a' ≡ a → b' ≡ b → Copies a' ra → Copies b' rb
      → ((c d : Expr) (l m : Bool) → Copied (IsFlat vars env c) l ra → Copied (IsFlat vars env d) m rb
      → Copied (IsFlatSelect vars env (select.Up c d)) (l || m) r)
      → Copied (IsFlatSelect vars env s) (lacks env (names_of_select s)) r
  in_up s a a' b b' ra rb r h q t ka kb k =
      at_select s (select.Up a b) (lack a || lack b) r h (two (names_in a) (names_in b) ∙ ap (lacks env) (sym (names.names-Up a b)))
      (k a b (lack a) (lack b) (child a' a ra q ka) (child b' b rb t kb))

  pub in_down : (s : Select) (a a' b b' : Expr) (ra rb : Copying) (r : SelectCopying) → s ≡ select.Down a b → a' ≡ a → b' ≡ b → Copies a' ra → Copies b' rb
      → ((c d : Expr) (l m : Bool) → Copied (IsFlat vars env c) l ra → Copied (IsFlat vars env d) m rb
      → Copied (IsFlatSelect vars env (select.Down c d)) (l || m) r)
      → Copied (IsFlatSelect vars env s) (lacks env (names_of_select s)) r
  in_down s a a' b b' ra rb r h q t ka kb k =
      at_select s (select.Down a b) (lack a || lack b) r h (two (names_in a) (names_in b) ∙ ap (lacks env) (sym (names.names-Down a b)))
      (k a b (lack a) (lack b) (child a' a ra q ka) (child b' b rb t kb))

  -- ---- parts

  -- none as yet
  pub no_parts : (v : Vec FlatExpr) → v.items ≡ [] → CopiesAll [] (Ok v)
  no_parts v h = subst (λ (xs : List FlatExpr). AreFlat vars env [] xs) (sym h) no_exprs

  pub parts_more : (ps : List Expr) (i : ℕ) (x : Expr) (so_far : Parts) (rx : Copying) (all : Parts) → i < length ps → x ≡ get_or ps i x
      → CopiesAll (take i ps) so_far → Copies x rx
      → ((qs : List Expr) (c : Expr) (l m : Bool) → Copied (λ (v : Vec FlatExpr). AreFlat vars env qs v.items) l so_far → Copied (IsFlat vars env c) m rx
      → Copied (λ (v : Vec FlatExpr). AreFlat vars env (qs ++ c ∷ []) v.items) (l || m) all) → CopiesAll (take (i + 1) ps) all
  parts_more ps i x so_far rx all lt is h kx k =
      subst (λ (qs : List Expr). CopiesAll qs all) (sym (take_more ps i x lt ∙ ap (λ (y : Expr). take i ps ++ y ∷ []) (sym is)))
      (subst (λ (b : Bool). Copied (λ (v : Vec FlatExpr). AreFlat vars env (take i ps ++ x ∷ []) v.items) b all)
      (two (flat_map names_in (take i ps)) (names_in x) ∙ ap (lacks env) (alone (take i ps)))
      (k (take i ps) x (lack_all (take i ps)) (lack x) h kx))
    where
      last : (l : NameList) → l ++ [] ≡ l
      last [] = refl
      last (n ∷ l) = ap (λ m. n ∷ m) (last l)

      alone : (ys : List Expr) → flat_map names_in ys ++ names_in x ≡ flat_map names_in (ys ++ x ∷ [])
      alone ys = sym (flat_map-append names_in ys (x ∷ []) ∙ ap (λ l. flat_map names_in ys ++ l) (last (names_in x)))
