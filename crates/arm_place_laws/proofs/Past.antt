-- Behind an expression, the head of a loop or a statement there is an end of the tokens.
use Rattle.std.proofs.Common.{ℕ, Bool, List, Option}
use Rattle.vlog_tree.specs.declared.expression.Expr.{Expr}
use Rattle.vlog_tree.specs.declared.expression.Select.{Select}
use Rattle.vlog_tree.specs.declared.statement.Stmt.{Stmt}
use Rattle.vlog_tree.specs.declared.statement.CaseArm.{CaseArm}
use Rattle.vlog_grammar.specs.Tokens.{Tokens}
use Rattle.vlog_grammar.specs.Parts.{AreSeparated}
use Rattle.vlog_grammar.specs.Parts as s
use Rattle.vlog_grammar.specs.Expressions.{IsExpr, plain, choice, IsBinary, operand, higher, joined, IsUnary, prefix, primary, IsPrimary, number, part, inner}
use Rattle.vlog_grammar.specs.Expressions.{join, repeat, call, IsPart, name, position, slice, twice, IsSelect, single, several, IsSlice, between, up, down}
use Rattle.vlog_grammar.specs.Expressions.{AreExprs, last, more, IsTarget, target_part, target_join, AreTargets, last_target, more_targets}
use Rattle.vlog_grammar.specs.Statements.{IsForHead, for_head, IsCaseItem, plain_item, free_item, IsShown, no_parentheses, no_text, text_alone}
use Rattle.vlog_grammar.specs.Statements.{text_and_values, IsEnding, no_number, with_number, IsBlockName, named, unnamed, IsStmt, empty, block, if_alone}
use Rattle.vlog_grammar.specs.Statements.{if_else, case, casez, for, set, later, show, finish, stop, AreStmts, no_stmts, more_stmts, AreArms, last_arm}
use Rattle.vlog_grammar.specs.Statements.{more_arms, last_default, more_after_default, IsArm, listed, IsDefault, default_colon, default_plain}
use Rattle.arm_place_laws.proofs.Ends.{IsEnd, next}

module _ {all : Tokens} where
  mutual
    pub past_expr : {ts us : Tokens} {a : Expr} → IsExpr ts a us → IsEnd ts all → IsEnd us all
    past_expr (plain b) e = past_binary b e
    past_expr (choice b y n) e = past_expr n (next (past_expr y (next (past_binary b e))))

    past_binary : {n : ℕ} {ts us : Tokens} {a : Expr} → IsBinary n ts a us → IsEnd ts all → IsEnd us all
    past_binary (operand u) e = past_unary u e
    past_binary (higher b) e = past_binary b e
    past_binary (joined l op r) e = past_binary r (next (past_binary l e))

    past_unary : {ts us : Tokens} {a : Expr} → IsUnary ts a us → IsEnd ts all → IsEnd us all
    past_unary (prefix op u) e = past_unary u (next e)
    past_unary (primary p) e = past_primary p e

    past_primary : {ts us : Tokens} {a : Expr} → IsPrimary ts a us → IsEnd ts all → IsEnd us all
    past_primary number e = next e
    past_primary (part a) e = past_part a e
    past_primary (inner i) e = next (past_expr i (next e))
    past_primary (join list) e = next (past_exprs list (next e))
    past_primary (repeat n list) e = next (next (past_exprs list (next (past_expr n (next e)))))
    past_primary (call known of) e = next (past_expr of (next (next e)))

    past_part : {ts us : Tokens} {a : Expr} → IsPart ts a us → IsEnd ts all → IsEnd us all
    past_part (name absent) e = next e
    past_part (position i absent) e = next (past_expr i (next (next e)))
    past_part (slice some) e = past_slice some (next (next e))
    past_part (twice i some) e = past_select some (next (next (past_expr i (next (next e)))))

    past_select : {ts us : Tokens} {a : Select} → IsSelect ts a us → IsEnd ts all → IsEnd us all
    past_select (single i) e = next (past_expr i e)
    past_select (several some) e = past_slice some e

    past_slice : {ts us : Tokens} {a : Select} → IsSlice ts a us → IsEnd ts all → IsEnd us all
    past_slice (between i j) e = next (past_expr j (next (past_expr i e)))
    past_slice (up i j) e = next (past_expr j (next (past_expr i e)))
    past_slice (down i j) e = next (past_expr j (next (past_expr i e)))

    pub past_exprs : {ts us : Tokens} {a : List Expr} → AreExprs ts a us → IsEnd ts all → IsEnd us all
    past_exprs (last i) e = past_expr i e
    past_exprs (more i list) e = past_exprs list (next (past_expr i e))

  mutual
    pub past_target : {ts us : Tokens} {a : Expr} → IsTarget ts a us → IsEnd ts all → IsEnd us all
    past_target (target_part one) e = past_part one e
    past_target (target_join list) e = next (past_targets list (next e))

    past_targets : {ts us : Tokens} {a : List Expr} → AreTargets ts a us → IsEnd ts all → IsEnd us all
    past_targets (last_target one) e = past_target one e
    past_targets (more_targets one rest) e = past_targets rest (next (past_target one e))

  pub past_all : {A : Type 0} {R : Tokens → A → Tokens → Type 0} → ((ts us : Tokens) (a : A) → R ts a us → IsEnd ts all → IsEnd us all)
      → {ts us : Tokens} {list : List A} → AreSeparated R ts list us → IsEnd ts all → IsEnd us all
  past_all each {ts} {us} (s.last {a = a} one) e = each ts us a one e
  past_all each {ts} {us} (s.more {us = vs} {p = p} {a = a} one rest) e = past_all each rest (next (each ts _ a one e))

  pub past_head : {ts us : Tokens} {name step_name : List ℕ} {from test step : Expr} → IsForHead ts name from test step_name step us
      → IsEnd ts all → IsEnd us all
  past_head (for_head from test step) e =
      let first = past_expr from (next (next (next e))) in
      let second = past_expr test (next first) in next (past_expr step (next (next (next second))))

  past_item : {wild : Bool} {ts us : Tokens} {a : Expr} → IsCaseItem wild ts a us → IsEnd ts all → IsEnd us all
  past_item (plain_item one) e = past_expr one e
  past_item (free_item bits) e = next e

  pub past_items : {wild : Bool} {ts us : Tokens} {list : List Expr} → AreSeparated (IsCaseItem wild) ts list us → IsEnd ts all → IsEnd us all
  past_items list e = past_all (λ ts us a one e. past_item one e) list e

  past_shown : {ts us : Tokens} {text : Option (List ℕ)} {values : List Expr} → IsShown ts text values us → IsEnd ts all → IsEnd us all
  past_shown (no_parentheses none) e = e
  past_shown no_text e = next (next e)
  past_shown text_alone e = next (next (next e))
  past_shown (text_and_values list) e = next (past_exprs list (next (next (next e))))

  past_ending : {ts us : Tokens} → IsEnding ts us → IsEnd ts all → IsEnd us all
  past_ending (no_number none) e = e
  past_ending with_number e = next (next (next e))

  pub past_block_name : {ts us : Tokens} → IsBlockName ts us → IsEnd ts all → IsEnd us all
  past_block_name named e = next (next e)
  past_block_name (unnamed none) e = e

  mutual
    pub past_stmt : {ts us : Tokens} {a : Stmt} → IsStmt ts a us → IsEnd ts all → IsEnd us all
    past_stmt empty e = next e
    past_stmt (block label body) e = next (past_stmts body (past_block_name label (next e)))
    past_stmt (if_alone test first none) e = past_stmt first (next (past_expr test (next (next e))))
    past_stmt (if_else test first second) e = past_stmt second (next (past_stmt first (next (past_expr test (next (next e))))))
    past_stmt (case on arms) e = next (past_arms arms (next (past_expr on (next (next e)))))
    past_stmt (casez on arms) e = next (past_arms arms (next (past_expr on (next (next e)))))
    past_stmt (for head body) e = past_stmt body (past_head head (next e))
    past_stmt (set target value) e = next (past_expr value (next (past_target target e)))
    past_stmt (later target value) e = next (past_expr value (next (past_target target e)))
    past_stmt (show word shown) e = next (past_shown shown (next e))
    past_stmt (finish word end) e = next (past_ending end (next e))
    past_stmt (stop word end) e = next (past_ending end (next e))

    pub past_stmts : {ts us : Tokens} {list : List Stmt} → AreStmts ts list us → IsEnd ts all → IsEnd us all
    past_stmts no_stmts e = e
    past_stmts (more_stmts one rest) e = past_stmts rest (past_stmt one e)

    pub past_arms : {wild seen : Bool} {ts us : Tokens} {list : List CaseArm} → AreArms wild seen ts list us → IsEnd ts all → IsEnd us all
    past_arms (last_arm one) e = past_arm one e
    past_arms (more_arms one rest) e = past_arms rest (past_arm one e)
    past_arms (last_default one) e = past_default one e
    past_arms (more_after_default one rest) e = past_arms rest (past_default one e)

    pub past_arm : {wild : Bool} {ts us : Tokens} {a : CaseArm} → IsArm wild ts a us → IsEnd ts all → IsEnd us all
    past_arm (listed items body) e = past_stmt body (next (past_items items e))

    pub past_default : {ts us : Tokens} {a : CaseArm} → IsDefault ts a us → IsEnd ts all → IsEnd us all
    past_default (default_colon body) e = past_stmt body (next (next e))
    past_default (default_plain body) e = past_stmt body (next e)
