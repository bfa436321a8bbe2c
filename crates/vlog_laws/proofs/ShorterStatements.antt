-- What spells a statement has at least one token.
use Rattle.std.proofs.Common.{ℕ, Bool, ◌<◌, ◌≤◌, List, length, arith, Option}
use Rattle.vlog_tree.specs.declared.expression.Expr.{Expr}
use Rattle.vlog_tree.specs.declared.statement.Stmt.{Stmt}
use Rattle.vlog_tree.specs.declared.statement.CaseArm.{CaseArm}
use Rattle.vlog_grammar.specs.Tokens.{Tokens}
use Rattle.vlog_grammar.specs.Parts.{AreSeparated, last, more}
use Rattle.vlog_grammar.specs.Expressions.{IsTarget, target_part, target_join, AreTargets, last_target, more_targets}
use Rattle.vlog_grammar.specs.Statements.{IsForHead, for_head, IsCaseItem, plain_item, free_item, IsShown, no_parentheses, no_text, text_alone}
use Rattle.vlog_grammar.specs.Statements.{text_and_values, IsEnding, no_number, with_number, IsBlockName, named, unnamed, IsStmt, empty, block, if_alone}
use Rattle.vlog_grammar.specs.Statements.{if_else, case, casez, for, set, later, show, finish, stop, AreStmts, no_stmts, more_stmts, AreArms, last_arm}
use Rattle.vlog_grammar.specs.Statements.{more_arms, last_default, more_after_default, IsArm, listed, IsDefault, default_colon, default_plain}
use Rattle.vlog_laws.proofs.Shorter.{shorter_expr, shorter_exprs, shorter_part}

pub shorter_all : {A : Type 0} {R : Tokens → A → Tokens → Type 0} → ((ts us : Tokens) (a : A) → R ts a us → length us < length ts)
    → {ts us : Tokens} {all : List A} → AreSeparated R ts all us → length us < length ts
shorter_all each {ts} {us} (last {a = a} one) = each ts us a one
shorter_all each {ts} {us} (more {us = vs} {p = p} {a = a} one rest) = omega (arith, each ts _ a one, shorter_all each rest)

mutual
  pub shorter_target : {ts us : Tokens} {a : Expr} → IsTarget ts a us → length us < length ts
  shorter_target (target_part part) = shorter_part part
  shorter_target (target_join all) = omega (arith, shorter_targets all)

  pub shorter_targets : {ts us : Tokens} {all : List Expr} → AreTargets ts all us → length us < length ts
  shorter_targets (last_target one) = shorter_target one
  shorter_targets (more_targets one rest) = omega (arith, shorter_target one, shorter_targets rest)

pub shorter_head : {ts us : Tokens} {name step_name : List ℕ} {from test step : Expr} → IsForHead ts name from test step_name step us → length us < length ts
shorter_head (for_head from test step) = omega (arith, shorter_expr from, shorter_expr test, shorter_expr step)

pub shorter_item : {wild : Bool} {ts us : Tokens} {a : Expr} → IsCaseItem wild ts a us → length us < length ts
shorter_item (plain_item one) = shorter_expr one
shorter_item (free_item bits) = omega arith

pub shorter_items : {wild : Bool} {ts us : Tokens} {all : List Expr} → AreSeparated (IsCaseItem wild) ts all us → length us < length ts
shorter_items list = shorter_all (λ ts us a one. shorter_item one) list

shorter_shown : {ts us : Tokens} {text : Option (List ℕ)} {values : List Expr} → IsShown ts text values us → length us ≤ length ts
shorter_shown (no_parentheses none) = omega arith
shorter_shown no_text = omega arith
shorter_shown text_alone = omega arith
shorter_shown (text_and_values all) = omega (arith, shorter_exprs all)

shorter_ending : {ts us : Tokens} → IsEnding ts us → length us ≤ length ts
shorter_ending (no_number none) = omega arith
shorter_ending with_number = omega arith

pub shorter_block_name : {ts us : Tokens} → IsBlockName ts us → length us ≤ length ts
shorter_block_name named = omega arith
shorter_block_name (unnamed none) = omega arith

mutual
  pub shorter_stmt : {ts us : Tokens} {a : Stmt} → IsStmt ts a us → length us < length ts
  shorter_stmt empty = omega arith
  shorter_stmt (block name body) = omega (arith, shorter_block_name name, shorter_stmts body)
  shorter_stmt (if_alone test first none) = omega (arith, shorter_expr test, shorter_stmt first)
  shorter_stmt (if_else test first second) = omega (arith, shorter_expr test, shorter_stmt first, shorter_stmt second)
  shorter_stmt (case on arms) = omega (arith, shorter_expr on, shorter_arms arms)
  shorter_stmt (casez on arms) = omega (arith, shorter_expr on, shorter_arms arms)
  shorter_stmt (for head body) = omega (arith, shorter_head head, shorter_stmt body)
  shorter_stmt (set target value) = omega (arith, shorter_target target, shorter_expr value)
  shorter_stmt (later target value) = omega (arith, shorter_target target, shorter_expr value)
  shorter_stmt (show name shown) = omega (arith, shorter_shown shown)
  shorter_stmt (finish name end) = omega (arith, shorter_ending end)
  shorter_stmt (stop name end) = omega (arith, shorter_ending end)

  pub shorter_stmts : {ts us : Tokens} {all : List Stmt} → AreStmts ts all us → length us ≤ length ts
  shorter_stmts no_stmts = omega arith
  shorter_stmts (more_stmts one rest) = omega (arith, shorter_stmt one, shorter_stmts rest)

  pub shorter_arms : {wild seen : Bool} {ts us : Tokens} {all : List CaseArm} → AreArms wild seen ts all us → length us < length ts
  shorter_arms (last_arm one) = shorter_arm one
  shorter_arms (more_arms one rest) = omega (arith, shorter_arm one, shorter_arms rest)
  shorter_arms (last_default one) = shorter_default one
  shorter_arms (more_after_default one rest) = omega (arith, shorter_default one, shorter_arms rest)

  pub shorter_arm : {wild : Bool} {ts us : Tokens} {a : CaseArm} → IsArm wild ts a us → length us < length ts
  shorter_arm (listed items body) = omega (arith, shorter_items items, shorter_stmt body)

  pub shorter_default : {ts us : Tokens} {a : CaseArm} → IsDefault ts a us → length us < length ts
  shorter_default (default_colon body) = omega (arith, shorter_stmt body)
  shorter_default (default_plain body) = omega (arith, shorter_stmt body)
