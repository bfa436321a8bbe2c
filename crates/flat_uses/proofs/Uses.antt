-- Whether a test holds of some name in an expression, by what it says of the parts.
use Rattle.std.proofs.Common.{◌≡◌, ◌∙◌, sym, ap, ap₂, refl, ℕ, ◌+◌, ◌<◌, Bool, true, false, ◌||◌, List, [], ◌∷◌, ◌++◌, length, take, get_or, map}
use Rattle.std.specs.List.{flat_map, list_any}
use Rattle.std.proofs.lemmas.List.{take_more}
use Rattle.std.proofs.lemmas.List.Concat.{flat_map-append}
use Rattle.std.proofs.lemmas.List.Folds.{list_any-append}
use Rattle.vlog_tree.specs.declared.operator.UnaryOp.{UnaryOp}
use Rattle.vlog_tree.specs.declared.operator.BinaryOp.{BinaryOp}
use Rattle.vlog_tree.specs.declared.operator.SystemCall.{SystemCall}
use Rattle.vlog_tree.specs.declared.expression.Expr.{Expr}
use Rattle.vlog_tree.specs.declared.expression.Expr.TheVariants as e
use Rattle.vlog_tree.specs.declared.expression.Select.{Select}
use Rattle.vlog_tree.specs.declared.expression.Select.TheVariants as select
use Rattle.flat_source_meaning.specs.Names.{NameList, names_in}
use Rattle.flat_uses.specs.SelectNames.{names_of_select}
use Rattle.flat_uses.proofs.NameEquations as names

pub or_false : (b : Bool) → (b || false) ≡ b
or_false true = refl
or_false false = refl

-- one of the parts of a list more
pub more : {X : Type 0} (f : X → NameList) (p : List ℕ → Bool) (xs : List X) (i : ℕ) (x : X) (any here after : Bool) → i < length xs → x ≡ get_or xs i x
    → any ≡ list_any p (flat_map f (take i xs)) → here ≡ list_any p (f x) → after ≡ (any || here)
    → after ≡ list_any p (flat_map f (take (i + 1) xs))
more {X} f p xs i x any here after lt is a h k =
    k ∙ ap₂ ◌||◌ a h ∙ sym (list_any-append p (flat_map f (take i xs)) (f x))
    ∙ ap (list_any p) (alone (take i xs)) ∙ ap (λ ys. list_any p (flat_map f ys)) (sym (take_more xs i x lt ∙ ap (λ (y : X). take i xs ++ y ∷ []) (sym is)))
  where
    last : (l : NameList) → l ++ [] ≡ l
    last [] = refl
    last (n ∷ l) = ap (λ m. n ∷ m) (last l)

    alone : (ys : List X) → flat_map f ys ++ f x ≡ flat_map f (ys ++ x ∷ [])
    alone ys = sym (flat_map-append f ys (x ∷ []) ∙ ap (λ l. flat_map f ys ++ l) (last (f x)))

module _ (p : List ℕ → Bool) where
  abbrev any : Expr → Bool
  any x = list_any p (names_in x)

  -- of two lists of names
  two : (ns ms : NameList) (a b r : Bool) → a ≡ list_any p ns → b ≡ list_any p ms → r ≡ (a || b) → r ≡ list_any p (ns ++ ms)
  two ns ms a b r h k e = e ∙ ap₂ ◌||◌ h k ∙ sym (list_any-append p ns ms)

  pub in_number : (x : Expr) (w : ℕ) (signed : Bool) (n free : ℕ) → x ≡ e.Number w signed n free → false ≡ list_any p (names_in x)
  in_number x w signed n free h = sym (ap any h ∙ ap (list_any p) (names.names-Number w signed n free))

  pub in_name : (x : Expr) (name slice : List ℕ) (r : Bool) → x ≡ e.Name name → slice ≡ name → r ≡ p slice → r ≡ list_any p (names_in x)
  in_name x name slice r h s k = k ∙ ap p s ∙ sym (or_false (p name)) ∙ sym (ap any h ∙ ap (list_any p) (names.names-Name name))

  pub in_unary : (x : Expr) (op : UnaryOp) (a a' : Expr) (r : Bool) → x ≡ e.Unary op a → a' ≡ a → r ≡ any a' → r ≡ list_any p (names_in x)
  in_unary x op a a' r h s k = k ∙ ap any s ∙ sym (ap any h ∙ ap (list_any p) (names.names-Unary op a))

  pub in_call : (x : Expr) (call : SystemCall) (a a' : Expr) (r : Bool) → x ≡ e.Call call a → a' ≡ a → r ≡ any a' → r ≡ list_any p (names_in x)
  in_call x call a a' r h s k = k ∙ ap any s ∙ sym (ap any h ∙ ap (list_any p) (names.names-Call call a))

  pub in_binary : (x : Expr) (op : BinaryOp) (a a' b b' : Expr) (ra rb r : Bool) → x ≡ e.Binary op a b → a' ≡ a → b' ≡ b → ra ≡ any a' → rb ≡ any b'
      → r ≡ (ra || rb) → r ≡ list_any p (names_in x)
  in_binary x op a a' b b' ra rb r h s t ka kb k =
      two (names_in a) (names_in b) ra rb r (ka ∙ ap any s) (kb ∙ ap any t) k ∙ sym (ap any h ∙ ap (list_any p) (names.names-Binary op a b))

  pub in_choose : (x t t' a a' b b' : Expr) (rt ra both rb r : Bool) → x ≡ e.Choose t a b → t' ≡ t → a' ≡ a → b' ≡ b → rt ≡ any t' → ra ≡ any a'
      → rb ≡ any b' → both ≡ (rt || ra) → r ≡ (both || rb) → r ≡ list_any p (names_in x)
  in_choose x t t' a a' b b' rt ra both rb r h st sa sb kt ka kb kk k =
      two (names_in t ++ names_in a) (names_in b) both rb r (two (names_in t) (names_in a) rt ra both (kt ∙ ap any st) (ka ∙ ap any sa) kk) (kb ∙ ap any sb) k
      ∙ sym (ap any h ∙ ap (list_any p) (names.names-Choose t a b))

  pub in_join : (x : Expr) (ps ps' : List Expr) (r : Bool) → x ≡ e.Join ps → ps' ≡ ps → r ≡ list_any p (flat_map names_in ps') → r ≡ list_any p (names_in x)
  in_join x ps ps' r h s k =
      k ∙ ap (λ l. list_any p (flat_map names_in l)) s ∙ sym (ap any h ∙ ap (list_any p) (names.names-Join ps))

  pub in_repeat : (x a a' : Expr) (ps ps' : List Expr) (ra rs r : Bool) → x ≡ e.Repeat a ps → a' ≡ a → ps' ≡ ps → ra ≡ any a'
      → rs ≡ list_any p (flat_map names_in ps') → r ≡ (ra || rs) → r ≡ list_any p (names_in x)
  in_repeat x a a' ps ps' ra rs r h sa sp ka kp k =
      two (names_in a) (flat_map names_in ps) ra rs r (ka ∙ ap any sa) (kp ∙ ap (λ l. list_any p (flat_map names_in l)) sp) k
      ∙ sym (ap any h ∙ ap (list_any p) (names.names-Repeat a ps))

  pub in_select : (x a a' : Expr) (s : Select) (ra rs r : Bool) → x ≡ e.Select a s → a' ≡ a → ra ≡ any a' → rs ≡ list_any p (names_of_select s)
      → r ≡ (ra || rs) → r ≡ list_any p (names_in x)
  in_select x a a' s ra rs r h sa ka ks k =
      two (names_in a) (names_of_select s) ra rs r (ka ∙ ap any sa) ks k ∙ sym (ap any h ∙ ap (list_any p) (names.names-Select a s))

  -- ---- selects

  abbrev any_select : Select → Bool
  any_select s = list_any p (names_of_select s)

  pub in_at : (s : Select) (a a' : Expr) (r : Bool) → s ≡ select.At a → a' ≡ a → r ≡ any a' → r ≡ list_any p (names_of_select s)
  in_at s a a' r h sa k = k ∙ ap any sa ∙ sym (ap any_select h ∙ ap (list_any p) (names.names-At a))

  in_two : (s : Select) (a a' b b' : Expr) (ra rb r : Bool) → names_of_select s ≡ names_in a ++ names_in b → a' ≡ a → b' ≡ b → ra ≡ any a' → rb ≡ any b'
      → r ≡ (ra || rb) → r ≡ list_any p (names_of_select s)
  in_two s a a' b b' ra rb r h sa sb ka kb k =
      two (names_in a) (names_in b) ra rb r (ka ∙ ap any sa) (kb ∙ ap any sb) k ∙ sym (ap (list_any p) h)

  pub in_between : (s : Select) (a a' b b' : Expr) (ra rb r : Bool) → s ≡ select.Between a b → a' ≡ a → b' ≡ b → ra ≡ any a' → rb ≡ any b'
      → r ≡ (ra || rb) → r ≡ list_any p (names_of_select s)
  in_between s a a' b b' ra rb r h = in_two s a a' b b' ra rb r (ap names_of_select h ∙ names.names-Between a b)

  pub in_up : (s : Select) (a a' b b' : Expr) (ra rb r : Bool) → s ≡ select.Up a b → a' ≡ a → b' ≡ b → ra ≡ any a' → rb ≡ any b'
      → r ≡ (ra || rb) → r ≡ list_any p (names_of_select s)
  in_up s a a' b b' ra rb r h = in_two s a a' b b' ra rb r (ap names_of_select h ∙ names.names-Up a b)

  pub in_down : (s : Select) (a a' b b' : Expr) (ra rb r : Bool) → s ≡ select.Down a b → a' ≡ a → b' ≡ b → ra ≡ any a' → rb ≡ any b'
      → r ≡ (ra || rb) → r ≡ list_any p (names_of_select s)
  in_down s a a' b b' ra rb r h = in_two s a a' b b' ra rb r (ap names_of_select h ∙ names.names-Down a b)
