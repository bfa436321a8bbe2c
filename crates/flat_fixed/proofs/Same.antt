-- What an expression says as a constant is the same beside what is said of its parts.
use Rattle.std.proofs.Common.{◌≡◌, ◌∙◌, sym, ap, refl, ℕ, Bool, List, [], ◌∷◌, map}
use Rattle.vlog_tree.specs.declared.operator.UnaryOp.{UnaryOp}
use Rattle.vlog_tree.specs.declared.operator.BinaryOp.{BinaryOp}
use Rattle.vlog_tree.specs.declared.operator.SystemCall.{SystemCall}
use Rattle.vlog_tree.specs.declared.expression.Expr.{Expr, fold-Expr, fold-roll-Expr}
use Rattle.vlog_tree.specs.declared.expression.Expr.TheVariants as e
use Rattle.vlog_tree.specs.declared.expression.Expr.TheOpen as o
use Rattle.vlog_tree.specs.declared.expression.Select.{Select, fold-Select, fold-roll-Select}
use Rattle.vlog_tree.specs.declared.expression.Select.TheVariants as select
use Rattle.source_meaning.specs.Environment.{Environment}
use Rattle.scope_meaning.specs.Constants as c
use Rattle.scope_meaning.specs.Constants.{Read, ReadSelect}
use Rattle.flat_source_meaning.specs.FixedParts.{Checked, CheckedSelect, node, part, reads}
use Rattle.flat_fixed.proofs.Induction.{Some, alone, expression_induction}

module _ (env : Environment) where
  abbrev pub said : Expr → Checked
  said = fold-Expr Checked CheckedSelect (node env) part

  abbrev pub said_select : Select → CheckedSelect
  said_select = fold-Select Checked CheckedSelect (node env) part

  abbrev read : Expr → Read
  read = c.read env

  abbrev read_part : Select → ReadSelect
  read_part = fold-Select Read ReadSelect (c.node env) c.part

  pub said-Number : (w : ℕ) (signed : Bool) (n free : ℕ) → said (e.Number w signed n free) ≡ node env (o.Number w signed n free)
  said-Number w signed n free = ap said (sym (e.rolls-Number w signed n free)) ∙ fold-roll-Expr Checked CheckedSelect (node env) part (o.Number w signed n free)

  pub said-Name : (name : List ℕ) → said (e.Name name) ≡ node env (o.Name name)
  said-Name name = ap said (sym (e.rolls-Name name)) ∙ fold-roll-Expr Checked CheckedSelect (node env) part (o.Name name)

  pub said-Select : (base : Expr) (s : Select) → said (e.Select base s) ≡ node env (o.Select (said base) (said_select s))
  said-Select base s = ap said (sym (e.rolls-Select base s)) ∙ fold-roll-Expr Checked CheckedSelect (node env) part (o.Select base s)

  pub said-Unary : (op : UnaryOp) (a : Expr) → said (e.Unary op a) ≡ node env (o.Unary op (said a))
  said-Unary op a = ap said (sym (e.rolls-Unary op a)) ∙ fold-roll-Expr Checked CheckedSelect (node env) part (o.Unary op a)

  pub said-Binary : (op : BinaryOp) (a b : Expr) → said (e.Binary op a b) ≡ node env (o.Binary op (said a) (said b))
  said-Binary op a b = ap said (sym (e.rolls-Binary op a b)) ∙ fold-roll-Expr Checked CheckedSelect (node env) part (o.Binary op a b)

  pub said-Choose : (test a b : Expr) → said (e.Choose test a b) ≡ node env (o.Choose (said test) (said a) (said b))
  said-Choose test a b = ap said (sym (e.rolls-Choose test a b)) ∙ fold-roll-Expr Checked CheckedSelect (node env) part (o.Choose test a b)

  pub said-Join : (parts : List Expr) → said (e.Join parts) ≡ node env (o.Join (map said parts))
  said-Join parts = ap said (sym (e.rolls-Join parts)) ∙ fold-roll-Expr Checked CheckedSelect (node env) part (o.Join parts)

  pub said-Repeat : (count : Expr) (parts : List Expr) → said (e.Repeat count parts) ≡ node env (o.Repeat (said count) (map said parts))
  said-Repeat count parts = ap said (sym (e.rolls-Repeat count parts)) ∙ fold-roll-Expr Checked CheckedSelect (node env) part (o.Repeat count parts)

  pub said-Call : (name : SystemCall) (a : Expr) → said (e.Call name a) ≡ node env (o.Call name (said a))
  said-Call name a = ap said (sym (e.rolls-Call name a)) ∙ fold-roll-Expr Checked CheckedSelect (node env) part (o.Call name a)

  pub said-At : (i : Expr) → said_select (select.At i) ≡ part (o.At (said i))
  said-At i = ap said_select (sym (select.rolls-At i)) ∙ fold-roll-Select Checked CheckedSelect (node env) part (o.At i)

  pub said-Between : (a b : Expr) → said_select (select.Between a b) ≡ part (o.Between (said a) (said b))
  said-Between a b = ap said_select (sym (select.rolls-Between a b)) ∙ fold-roll-Select Checked CheckedSelect (node env) part (o.Between a b)

  pub said-Up : (i count : Expr) → said_select (select.Up i count) ≡ part (o.Up (said i) (said count))
  said-Up i count = ap said_select (sym (select.rolls-Up i count)) ∙ fold-roll-Select Checked CheckedSelect (node env) part (o.Up i count)

  pub said-Down : (i count : Expr) → said_select (select.Down i count) ≡ part (o.Down (said i) (said count))
  said-Down i count = ap said_select (sym (select.rolls-Down i count)) ∙ fold-roll-Select Checked CheckedSelect (node env) part (o.Down i count)

  read-Number : (w : ℕ) (signed : Bool) (n free : ℕ) → read (e.Number w signed n free) ≡ c.node env (o.Number w signed n free)
  read-Number w signed n free = ap read (sym (e.rolls-Number w signed n free)) ∙ fold-roll-Expr Read ReadSelect (c.node env) c.part (o.Number w signed n free)

  read-Name : (name : List ℕ) → read (e.Name name) ≡ c.node env (o.Name name)
  read-Name name = ap read (sym (e.rolls-Name name)) ∙ fold-roll-Expr Read ReadSelect (c.node env) c.part (o.Name name)

  read-Select : (base : Expr) (s : Select) → read (e.Select base s) ≡ c.node env (o.Select (read base) (read_part s))
  read-Select base s = ap read (sym (e.rolls-Select base s)) ∙ fold-roll-Expr Read ReadSelect (c.node env) c.part (o.Select base s)

  read-Unary : (op : UnaryOp) (a : Expr) → read (e.Unary op a) ≡ c.node env (o.Unary op (read a))
  read-Unary op a = ap read (sym (e.rolls-Unary op a)) ∙ fold-roll-Expr Read ReadSelect (c.node env) c.part (o.Unary op a)

  read-Binary : (op : BinaryOp) (a b : Expr) → read (e.Binary op a b) ≡ c.node env (o.Binary op (read a) (read b))
  read-Binary op a b = ap read (sym (e.rolls-Binary op a b)) ∙ fold-roll-Expr Read ReadSelect (c.node env) c.part (o.Binary op a b)

  read-Choose : (test a b : Expr) → read (e.Choose test a b) ≡ c.node env (o.Choose (read test) (read a) (read b))
  read-Choose test a b = ap read (sym (e.rolls-Choose test a b)) ∙ fold-roll-Expr Read ReadSelect (c.node env) c.part (o.Choose test a b)

  read-Join : (parts : List Expr) → read (e.Join parts) ≡ c.node env (o.Join (map read parts))
  read-Join parts = ap read (sym (e.rolls-Join parts)) ∙ fold-roll-Expr Read ReadSelect (c.node env) c.part (o.Join parts)

  read-Repeat : (count : Expr) (parts : List Expr) → read (e.Repeat count parts) ≡ c.node env (o.Repeat (read count) (map read parts))
  read-Repeat count parts = ap read (sym (e.rolls-Repeat count parts)) ∙ fold-roll-Expr Read ReadSelect (c.node env) c.part (o.Repeat count parts)

  read-Call : (name : SystemCall) (a : Expr) → read (e.Call name a) ≡ c.node env (o.Call name (read a))
  read-Call name a = ap read (sym (e.rolls-Call name a)) ∙ fold-roll-Expr Read ReadSelect (c.node env) c.part (o.Call name a)

  read-At : (i : Expr) → read_part (select.At i) ≡ c.part (o.At (read i))
  read-At i = ap read_part (sym (select.rolls-At i)) ∙ fold-roll-Select Read ReadSelect (c.node env) c.part (o.At i)

  read-Between : (a b : Expr) → read_part (select.Between a b) ≡ c.part (o.Between (read a) (read b))
  read-Between a b = ap read_part (sym (select.rolls-Between a b)) ∙ fold-roll-Select Read ReadSelect (c.node env) c.part (o.Between a b)

  read-Up : (i count : Expr) → read_part (select.Up i count) ≡ c.part (o.Up (read i) (read count))
  read-Up i count = ap read_part (sym (select.rolls-Up i count)) ∙ fold-roll-Select Read ReadSelect (c.node env) c.part (o.Up i count)

  read-Down : (i count : Expr) → read_part (select.Down i count) ≡ c.part (o.Down (read i) (read count))
  read-Down i count = ap read_part (sym (select.rolls-Down i count)) ∙ fold-roll-Select Read ReadSelect (c.node env) c.part (o.Down i count)

  -- ---- the same readings

  abbrev Same : Expr → Type 0
  Same a = (said a).read ≡ read a

  abbrev SameSelect : Select → Type 0
  SameSelect s = (said_select s).read ≡ read_part s

  all_same : (parts : List (Some Same)) → reads (map said (alone parts)) ≡ map read (alone parts)
  all_same [] = refl
  all_same (p ∷ ps) = ap (λ (r : Read). r ∷ reads (map said (alone ps))) p.1 ∙ ap (λ (rs : List Read). read p.0 ∷ rs) (all_same ps)

  at_select : (base : Expr) (s : Select) → Same base → SameSelect s → Same (e.Select base s)
  at_select base s p q =
      ap (λ (k : Checked). k.read) (said-Select base s) ∙ ap (λ (r : Read). c.node env (o.Select r (said_select s).read)) p
      ∙ ap (λ (r : ReadSelect). c.node env (o.Select (read base) r)) q ∙ sym (read-Select base s)

  at_unary : (op : UnaryOp) (a : Expr) → Same a → Same (e.Unary op a)
  at_unary op a p = ap (λ (k : Checked). k.read) (said-Unary op a) ∙ ap (λ (r : Read). c.node env (o.Unary op r)) p ∙ sym (read-Unary op a)

  at_binary : (op : BinaryOp) (a b : Expr) → Same a → Same b → Same (e.Binary op a b)
  at_binary op a b p q =
      ap (λ (k : Checked). k.read) (said-Binary op a b) ∙ ap (λ (r : Read). c.node env (o.Binary op r (said b).read)) p
      ∙ ap (λ (r : Read). c.node env (o.Binary op (read a) r)) q ∙ sym (read-Binary op a b)

  at_choose : (test a b : Expr) → Same test → Same a → Same b → Same (e.Choose test a b)
  at_choose test a b p q r =
      ap (λ (k : Checked). k.read) (said-Choose test a b) ∙ ap (λ (x : Read). c.node env (o.Choose x (said a).read (said b).read)) p
      ∙ ap (λ (x : Read). c.node env (o.Choose (read test) x (said b).read)) q ∙ ap (λ (x : Read). c.node env (o.Choose (read test) (read a) x)) r
      ∙ sym (read-Choose test a b)

  at_join : (parts : List (Some Same)) → Same (e.Join (alone parts))
  at_join parts =
      ap (λ (k : Checked). k.read) (said-Join (alone parts)) ∙ ap (λ (rs : List Read). c.node env (o.Join rs)) (all_same parts) ∙ sym (read-Join (alone parts))

  at_repeat : (count : Expr) (parts : List (Some Same)) → Same count → Same (e.Repeat count (alone parts))
  at_repeat count parts p =
      ap (λ (k : Checked). k.read) (said-Repeat count (alone parts)) ∙ ap (λ (r : Read). c.node env (o.Repeat r (reads (map said (alone parts))))) p
      ∙ ap (λ (rs : List Read). c.node env (o.Repeat (read count) rs)) (all_same parts) ∙ sym (read-Repeat count (alone parts))

  at_call : (name : SystemCall) (a : Expr) → Same a → Same (e.Call name a)
  at_call name a p = ap (λ (k : Checked). k.read) (said-Call name a) ∙ ap (λ (r : Read). c.node env (o.Call name r)) p ∙ sym (read-Call name a)

  at_at : (i : Expr) → Same i → SameSelect (select.At i)
  at_at i p = ap (λ (k : CheckedSelect). k.read) (said-At i) ∙ ap (λ (r : Read). c.part (o.At r)) p ∙ sym (read-At i)

  at_between : (a b : Expr) → Same a → Same b → SameSelect (select.Between a b)
  at_between a b p q =
      ap (λ (k : CheckedSelect). k.read) (said-Between a b) ∙ ap (λ (r : Read). c.part (o.Between r (said b).read)) p
      ∙ ap (λ (r : Read). c.part (o.Between (read a) r)) q ∙ sym (read-Between a b)

  at_up : (i count : Expr) → Same i → Same count → SameSelect (select.Up i count)
  at_up i count p q =
      ap (λ (k : CheckedSelect). k.read) (said-Up i count) ∙ ap (λ (r : Read). c.part (o.Up r (said count).read)) p
      ∙ ap (λ (r : Read). c.part (o.Up (read i) r)) q ∙ sym (read-Up i count)

  at_down : (i count : Expr) → Same i → Same count → SameSelect (select.Down i count)
  at_down i count p q =
      ap (λ (k : CheckedSelect). k.read) (said-Down i count) ∙ ap (λ (r : Read). c.part (o.Down r (said count).read)) p
      ∙ ap (λ (r : Read). c.part (o.Down (read i) r)) q ∙ sym (read-Down i count)

  pub same_read : (a : Expr) → (said a).read ≡ c.read env a
  same_read = expression_induction Same SameSelect (λ w signed n free. ap (λ (k : Checked). k.read) (said-Number w signed n free) ∙ sym (read-Number w signed n free))
      (λ name. ap (λ (k : Checked). k.read) (said-Name name) ∙ sym (read-Name name)) at_select at_unary at_binary at_choose at_join at_repeat at_call at_at at_between
      at_up at_down
