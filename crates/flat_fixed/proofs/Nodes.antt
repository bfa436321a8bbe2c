-- Whether the parts of an expression are constants where they have to be, by its form.
use Rattle.std.proofs.Common.{◌≡◌, ◌∙◌, sym, ap, refl, subst, ℕ, ◌+◌, ◌<◌, Bool, true, false, not, ◌||◌, ◌&&◌, List, [], ◌∷◌, ◌++◌, length, take, get_or, map, Option, Some, None, Result, Ok, Err}
use Rattle.std.specs.List.{list_all}
use Rattle.std.proofs.lemmas.List.{take_more}
use Rattle.cov_types.specs.declared.no_memory.NoMemory.{NoMemory}
use Rattle.vlog_tree.specs.declared.operator.UnaryOp.{UnaryOp}
use Rattle.vlog_tree.specs.declared.operator.BinaryOp.{BinaryOp}
use Rattle.vlog_tree.specs.declared.operator.SystemCall.{SystemCall}
use Rattle.vlog_tree.specs.declared.operator.SystemCall.TheVariants as call
use Rattle.vlog_tree.specs.declared.expression.Expr.{Expr}
use Rattle.vlog_tree.specs.declared.expression.Expr.TheVariants as e
use Rattle.vlog_tree.specs.declared.expression.Select.{Select}
use Rattle.vlog_tree.specs.declared.expression.Select.TheVariants as select
use Rattle.source_meaning.specs.Environment.{Environment}
use Rattle.scope_meaning.specs.Constants.{Read, Wrong, is_wrong}
use Rattle.elab_constants.specs.declared.fault.ConstantFault.{ConstantFault}
use Rattle.elab_constants.specs.Faults.{first_wrong}
use Rattle.elab_constants.proofs.Faults.{first}
use Rattle.flat_source_meaning.specs.FixedParts.{Checked, CheckedSelect, has_constants, is_constant, is_fixed, operand_fixed, all_fixed}
use Rattle.flat_fixed.specs.Checks.{Checks, select_fixed, operand_is}
use Rattle.flat_fixed.proofs.Same.{said, said_select, same_read}
use Rattle.flat_fixed.proofs.Same as reads

abbrev Reply : Type 0
Reply = Result Bool NoMemory

-- ---- what is wrong in an expression makes it no constant

pub const_right : (w : Wrong) → first_wrong w ≡ None → true ≡ not (is_wrong w)
const_right w = by w.name w.select w.wide
  where
    by : (n s b : Bool) → first n s b ≡ None → true ≡ not ((n || s) || b)
    by true s b h = cc
    by false true b h = cc
    by false false true h = cc
    by false false false h = refl

pub const_wrong : (w : Wrong) (f : ConstantFault) → first_wrong w ≡ Some f → false ≡ not (is_wrong w)
const_wrong w f = by w.name w.select w.wide
  where
    by : (n s b : Bool) → first n s b ≡ Some f → false ≡ not ((n || s) || b)
    by true s b h = refl
    by false true b h = refl
    by false false true h = refl
    by false false false h = cc

module _ (env : Environment) where
  abbrev fix : Expr → Bool
  fix = has_constants env

  abbrev const : Expr → Bool
  const = is_constant env

  is_const : (a : Expr) → is_fixed (said env a) ≡ const a
  is_const a = ap (λ (r : Read). not (is_wrong r.wrong)) (same_read env a)

  all_said : (parts : List Expr) → all_fixed (map (said env) parts) ≡ list_all fix parts
  all_said [] = refl
  all_said (p ∷ ps) = ap (λ b. fix p && b) (all_said ps)

  operand_said : (name : SystemCall) (a : Expr) → operand_fixed name (said env a) ≡ operand_is env name a
  operand_said call.CeilLog2 a = is_const a
  operand_said call.Signed a = refl
  operand_said call.Unsigned a = refl

  by_eq : (p q : Bool) (r : Reply) → q ≡ p → Checks p r → Checks q r
  by_eq p q r e h = subst (λ b. Checks b r) (sym e) h

  pub in_number : (of : Expr) (w : ℕ) (signed : Bool) (n free : ℕ) → of ≡ e.Number w signed n free → true ≡ fix of
  in_number of w signed n free is = sym (ap fix is ∙ ap (λ (k : Checked). k.fixed) (reads.said-Number env w signed n free))

  pub in_name : (of : Expr) (name : List ℕ) → of ≡ e.Name name → true ≡ fix of
  in_name of name is = sym (ap fix is ∙ ap (λ (k : Checked). k.fixed) (reads.said-Name env name))

  pub in_select : (of base one : Expr) (s : Select) (r : Reply) → of ≡ e.Select base s → one ≡ base → Checks (fix one && select_fixed env s) r → Checks (fix of) r
  in_select of base one s r is same h =
      by_eq _ _ r (ap fix is ∙ ap (λ (k : Checked). k.fixed) (reads.said-Select env base s) ∙ ap (λ (a : Expr). fix a && select_fixed env s) (sym same)) h

  pub in_unary : (of a one : Expr) (op : UnaryOp) (r : Reply) → of ≡ e.Unary op a → one ≡ a → Checks (fix one) r → Checks (fix of) r
  in_unary of a one op r is same h = by_eq _ _ r (ap fix is ∙ ap (λ (k : Checked). k.fixed) (reads.said-Unary env op a) ∙ ap fix (sym same)) h

  pub in_binary : (of a b one two : Expr) (op : BinaryOp) (r : Reply) → of ≡ e.Binary op a b → one ≡ a → two ≡ b → Checks (fix one && fix two) r → Checks (fix of) r
  in_binary of a b one two op r is s t h =
      by_eq _ _ r
      (ap fix is ∙ ap (λ (k : Checked). k.fixed) (reads.said-Binary env op a b) ∙ ap (λ (x : Expr). fix x && fix b) (sym s) ∙ ap (λ (x : Expr). fix one && fix x) (sym t))
      h

  pub in_choose : (of test a b one two three : Expr) (r : Reply) → of ≡ e.Choose test a b → one ≡ test → two ≡ a → three ≡ b
      → Checks ((fix one && fix two) && fix three) r → Checks (fix of) r
  in_choose of test a b one two three r is s t u h =
      by_eq _ _ r
      (ap fix is ∙ ap (λ (k : Checked). k.fixed) (reads.said-Choose env test a b)
      ∙ ap (λ (x : Expr). (fix x && fix a) && fix b) (sym s)
      ∙ ap (λ (x : Expr). (fix one && fix x) && fix b) (sym t)
      ∙ ap (λ (x : Expr). (fix one && fix two) && fix x) (sym u))
      h

  pub in_join : (of : Expr) (parts slice : List Expr) (r : Reply) → of ≡ e.Join parts → slice ≡ parts → Checks (list_all fix slice) r → Checks (fix of) r
  in_join of parts slice r is same h =
      by_eq _ _ r (ap fix is ∙ ap (λ (k : Checked). k.fixed) (reads.said-Join env parts) ∙ all_said parts ∙ ap (list_all fix) (sym same)) h

  pub in_repeat : (of count one two : Expr) (parts slice : List Expr) (r : Reply) → of ≡ e.Repeat count parts → one ≡ count → two ≡ count → slice ≡ parts
      → Checks ((const one && fix two) && list_all fix slice) r → Checks (fix of) r
  in_repeat of count one two parts slice r is s t u h =
      by_eq _ _ r
      (ap fix is ∙ ap (λ (k : Checked). k.fixed) (reads.said-Repeat env count parts)
      ∙ ap (λ b. (b && fix count) && all_fixed (map (said env) parts)) (is_const count)
      ∙ ap (λ b. (const count && fix count) && b) (all_said parts)
      ∙ ap (λ (x : Expr). (const x && fix count) && list_all fix parts) (sym s)
      ∙ ap (λ (x : Expr). (const one && fix x) && list_all fix parts) (sym t)
      ∙ ap (λ (xs : List Expr). (const one && fix two) && list_all fix xs) (sym u))
      h

  pub in_call : (of a one two : Expr) (name : SystemCall) (r : Reply) → of ≡ e.Call name a → one ≡ a → two ≡ a → Checks (operand_is env name one && fix two) r
      → Checks (fix of) r
  in_call of a one two name r is s t h =
      by_eq _ _ r
      (ap fix is ∙ ap (λ (k : Checked). k.fixed) (reads.said-Call env name a) ∙ ap (λ b. b && fix a) (operand_said name a)
      ∙ ap (λ (x : Expr). operand_is env name x && fix a) (sym s) ∙ ap (λ (x : Expr). operand_is env name one && fix x) (sym t))
      h

  pub in_at : (of : Select) (i one : Expr) (r : Reply) → of ≡ select.At i → one ≡ i → Checks (fix one) r → Checks (select_fixed env of) r
  in_at of i one r is s h =
      by_eq _ _ r (ap (select_fixed env) is ∙ ap (λ (k : CheckedSelect). k.fixed) (reads.said-At env i) ∙ ap fix (sym s)) h

  pub in_between : (of : Select) (a b one two three four : Expr) (r : Reply) → of ≡ select.Between a b → one ≡ a → two ≡ b → three ≡ a → four ≡ b
      → Checks (((const one && const two) && fix three) && fix four) r → Checks (select_fixed env of) r
  in_between of a b one two three four r is s t u v h =
      by_eq _ _ r
      (ap (select_fixed env) is ∙ ap (λ (k : CheckedSelect). k.fixed) (reads.said-Between env a b)
      ∙ ap (λ p. ((p && is_fixed (said env b)) && fix a) && fix b) (is_const a)
      ∙ ap (λ p. ((const a && p) && fix a) && fix b) (is_const b)
      ∙ ap (λ (x : Expr). ((const x && const b) && fix a) && fix b) (sym s)
      ∙ ap (λ (x : Expr). ((const one && const x) && fix a) && fix b) (sym t)
      ∙ ap (λ (x : Expr). ((const one && const two) && fix x) && fix b) (sym u)
      ∙ ap (λ (x : Expr). ((const one && const two) && fix three) && fix x) (sym v))
      h

  pub in_up : (of : Select) (i count one two three : Expr) (r : Reply) → of ≡ select.Up i count → one ≡ count → two ≡ i → three ≡ count
      → Checks ((const one && fix two) && fix three) r → Checks (select_fixed env of) r
  in_up of i count one two three r is s t u h =
      by_eq _ _ r
      (ap (select_fixed env) is ∙ ap (λ (k : CheckedSelect). k.fixed) (reads.said-Up env i count)
      ∙ ap (λ p. (p && fix i) && fix count) (is_const count)
      ∙ ap (λ (x : Expr). (const x && fix i) && fix count) (sym s)
      ∙ ap (λ (x : Expr). (const one && fix x) && fix count) (sym t)
      ∙ ap (λ (x : Expr). (const one && fix two) && fix x) (sym u))
      h

  pub in_down : (of : Select) (i count one two three : Expr) (r : Reply) → of ≡ select.Down i count → one ≡ count → two ≡ i → three ≡ count
      → Checks ((const one && fix two) && fix three) r → Checks (select_fixed env of) r
  in_down of i count one two three r is s t u h =
      by_eq _ _ r
      (ap (select_fixed env) is ∙ ap (λ (k : CheckedSelect). k.fixed) (reads.said-Down env i count)
      ∙ ap (λ p. (p && fix i) && fix count) (is_const count)
      ∙ ap (λ (x : Expr). (const x && fix i) && fix count) (sym s)
      ∙ ap (λ (x : Expr). (const one && fix x) && fix count) (sym t)
      ∙ ap (λ (x : Expr). (const one && fix two) && fix x) (sym u))
      h

  all_push : (xs : List Expr) (x : Expr) → list_all fix (xs ++ x ∷ []) ≡ (list_all fix xs && fix x)
  all_push [] x = by (fix x)
    where
      by : (b : Bool) → (b && true) ≡ (true && b)
      by true = refl
      by false = refl
  all_push (y ∷ ys) x = ap (λ b. fix y && b) (all_push ys x) ∙ grouped (fix y) (list_all fix ys) (fix x)
    where
      grouped : (a b d : Bool) → (a && (b && d)) ≡ ((a && b) && d)
      grouped true b d = refl
      grouped false b d = refl

  pub parts_more : (parts : List Expr) (i : ℕ) (x : Expr) (r : Reply) → i < length parts → x ≡ get_or parts i x
      → Checks (list_all fix (take i parts) && fix x) r → Checks (list_all fix (take (i + 1) parts)) r
  parts_more parts i x r lt is h =
      by_eq _ _ r
      (ap (list_all fix) (take_more parts i x lt ∙ ap (λ (y : Expr). take i parts ++ y ∷ []) (sym is)) ∙ all_push (take i parts) x)
      h
