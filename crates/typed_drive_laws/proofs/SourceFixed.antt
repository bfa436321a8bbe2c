-- What a source expression says as a constant, by its parts.
use Rattle.std.proofs.Common.{◌≡◌, ◌∙◌, sym, ap, refl, ℕ, Bool, true, false, ◌||◌, List, map}
use Rattle.vlog_tree.specs.declared.operator.UnaryOp.{UnaryOp}
use Rattle.vlog_tree.specs.declared.operator.BinaryOp.{BinaryOp}
use Rattle.vlog_tree.specs.declared.operator.SystemCall.{SystemCall}
use Rattle.vlog_tree.specs.declared.expression.Expr.{Expr, fold-Expr, fold-roll-Expr}
use Rattle.vlog_tree.specs.declared.expression.Expr.TheVariants as e
use Rattle.vlog_tree.specs.declared.expression.Expr.TheOpen as o
use Rattle.vlog_tree.specs.declared.expression.Select.{Select, fold-Select, fold-roll-Select}
use Rattle.vlog_tree.specs.declared.expression.Select.TheVariants as select
use Rattle.source_meaning.specs.Environment.{Environment}
use Rattle.scope_meaning.specs.Constants.{Wrong, is_wrong, either_wrong}
use Rattle.scope_meaning.proofs.WalkLaws.{never}
use Rattle.flat_source_meaning.specs.FixedParts.{Checked, CheckedSelect, node, part}

module _ (env : Environment) where
  abbrev pub said : Expr → Checked
  said = fold-Expr Checked CheckedSelect (node env) part

  abbrev pub said_select : Select → CheckedSelect
  said_select = fold-Select Checked CheckedSelect (node env) part

  pub of-Name : (name : List ℕ) → said (e.Name name) ≡ node env (o.Name name)
  of-Name name = ap said (sym (e.rolls-Name name)) ∙ fold-roll-Expr Checked CheckedSelect (node env) part (o.Name name)

  pub of-Select : (base : Expr) (s : Select) → said (e.Select base s) ≡ node env (o.Select (said base) (said_select s))
  of-Select base s = ap said (sym (e.rolls-Select base s)) ∙ fold-roll-Expr Checked CheckedSelect (node env) part (o.Select base s)

  pub of-Unary : (op : UnaryOp) (a : Expr) → said (e.Unary op a) ≡ node env (o.Unary op (said a))
  of-Unary op a = ap said (sym (e.rolls-Unary op a)) ∙ fold-roll-Expr Checked CheckedSelect (node env) part (o.Unary op a)

  pub of-Binary : (op : BinaryOp) (a b : Expr) → said (e.Binary op a b) ≡ node env (o.Binary op (said a) (said b))
  of-Binary op a b = ap said (sym (e.rolls-Binary op a b)) ∙ fold-roll-Expr Checked CheckedSelect (node env) part (o.Binary op a b)

  pub of-Choose : (test a b : Expr) → said (e.Choose test a b) ≡ node env (o.Choose (said test) (said a) (said b))
  of-Choose test a b = ap said (sym (e.rolls-Choose test a b)) ∙ fold-roll-Expr Checked CheckedSelect (node env) part (o.Choose test a b)

  pub of-Join : (parts : List Expr) → said (e.Join parts) ≡ node env (o.Join (map said parts))
  of-Join parts = ap said (sym (e.rolls-Join parts)) ∙ fold-roll-Expr Checked CheckedSelect (node env) part (o.Join parts)

  pub of-Repeat : (count : Expr) (parts : List Expr) → said (e.Repeat count parts) ≡ node env (o.Repeat (said count) (map said parts))
  of-Repeat count parts = ap said (sym (e.rolls-Repeat count parts)) ∙ fold-roll-Expr Checked CheckedSelect (node env) part (o.Repeat count parts)

  pub of-Call : (name : SystemCall) (a : Expr) → said (e.Call name a) ≡ node env (o.Call name (said a))
  of-Call name a = ap said (sym (e.rolls-Call name a)) ∙ fold-roll-Expr Checked CheckedSelect (node env) part (o.Call name a)

  pub of-At : (i : Expr) → said_select (select.At i) ≡ part (o.At (said i))
  of-At i = ap said_select (sym (select.rolls-At i)) ∙ fold-roll-Select Checked CheckedSelect (node env) part (o.At i)

  pub of-Between : (a b : Expr) → said_select (select.Between a b) ≡ part (o.Between (said a) (said b))
  of-Between a b = ap said_select (sym (select.rolls-Between a b)) ∙ fold-roll-Select Checked CheckedSelect (node env) part (o.Between a b)

  pub of-Up : (i count : Expr) → said_select (select.Up i count) ≡ part (o.Up (said i) (said count))
  of-Up i count = ap said_select (sym (select.rolls-Up i count)) ∙ fold-roll-Select Checked CheckedSelect (node env) part (o.Up i count)

  pub of-Down : (i count : Expr) → said_select (select.Down i count) ≡ part (o.Down (said i) (said count))
  of-Down i count = ap said_select (sym (select.rolls-Down i count)) ∙ fold-roll-Select Checked CheckedSelect (node env) part (o.Down i count)

-- ---- nothing is wrong

left_no : (a b : Bool) → (a || b) ≡ false → a ≡ false
left_no true b h = never (sym h)
left_no false b h = refl

right_no : (a b : Bool) → (a || b) ≡ false → b ≡ false
right_no true b h = never (sym h)
right_no false b h = h

none_of : (a b c : Bool) → a ≡ false → b ≡ false → c ≡ false → ((a || b) || c) ≡ false
none_of true b c h k l = never (sym h)
none_of false true c h k l = never (sym k)
none_of false false c h k l = l

-- in none of two parts is anything wrong where in both together there isn't
pub first_right : (a b : Wrong) → is_wrong (either_wrong a b) ≡ false → is_wrong a ≡ false
first_right a b h =
    let names = left_no (a.name || b.name) (a.select || b.select) (left_no ((a.name || b.name) || (a.select || b.select)) (a.wide || b.wide) h) in
    let selects = right_no (a.name || b.name) (a.select || b.select) (left_no ((a.name || b.name) || (a.select || b.select)) (a.wide || b.wide) h) in
    let sizes = right_no ((a.name || b.name) || (a.select || b.select)) (a.wide || b.wide) h in
    none_of a.name a.select a.wide (left_no a.name b.name names) (left_no a.select b.select selects) (left_no a.wide b.wide sizes)

pub second_right : (a b : Wrong) → is_wrong (either_wrong a b) ≡ false → is_wrong b ≡ false
second_right a b h =
    let names = left_no (a.name || b.name) (a.select || b.select) (left_no ((a.name || b.name) || (a.select || b.select)) (a.wide || b.wide) h) in
    let selects = right_no (a.name || b.name) (a.select || b.select) (left_no ((a.name || b.name) || (a.select || b.select)) (a.wide || b.wide) h) in
    let sizes = right_no ((a.name || b.name) || (a.select || b.select)) (a.wide || b.wide) h in
    none_of b.name b.select b.wide (right_no a.name b.name names) (right_no a.select b.select selects) (right_no a.wide b.wide sizes)

-- a select is never right
pub select_wrong : {A : Type 0} (name wide : Bool) → ((name || true) || wide) ≡ false → A
select_wrong true wide h = never (sym h)
select_wrong false wide h = never (sym h)
