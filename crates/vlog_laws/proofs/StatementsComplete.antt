-- What is spelled as a statement is read so.
use Rattle.std.proofs.Common.{◌≡◌, ℕ, zero, suc, ◌<◌, ◌≤◌, Bool, true, false, ◌==◌, List, [], ◌∷◌, ◌++◌, length, Option, Some, None, is_some, refl, sym, ◌∙◌}
use Rattle.std.proofs.Common.{ap, arith, append_assoc}
use Rattle.std.specs.Prelude.{codes}
use Rattle.cov_types.specs.declared.place.Place.{Place}
use Rattle.vlog_tokens.specs.declared.token.TokenKind.{TokenKind}
use Rattle.vlog_tokens.specs.declared.token.TokenKind.TheVariants as k
use Rattle.vlog_tree.specs.declared.operator.UnaryOp.{UnaryOp}
use Rattle.vlog_tree.specs.declared.expression.Expr.{Expr}
use Rattle.vlog_tree.specs.declared.statement.Stmt.{Stmt}
use Rattle.vlog_tree.specs.declared.statement.StmtKind.{StmtKind}
use Rattle.vlog_tree.specs.declared.statement.StmtKind.TheVariants as s
use Rattle.vlog_tree.specs.declared.statement.CaseArm.{CaseArm}
use Rattle.vlog_grammar.specs.Tokens.{Tokens, at, prefix_of}
use Rattle.vlog_grammar.specs.Parts.{AreSeparated}
use Rattle.vlog_grammar.specs.Parts as list
use Rattle.vlog_grammar.specs.Expressions.{IsExpr, plain, choice, IsBinary, operand, higher, joined, IsUnary, prefix, primary, IsPrimary, number, part, inner}
use Rattle.vlog_grammar.specs.Expressions.{join, repeat, call, IsPart, name, position, slice, twice, IsTarget, target_part, target_join}
use Rattle.vlog_grammar.specs.Statements.{IsCaseItem, plain_item, free_item, IsShown, no_parentheses, no_text, text_alone, text_and_values, IsEnding}
use Rattle.vlog_grammar.specs.Statements.{no_number, with_number, IsBlockName, named, unnamed, IsStmt, empty, block, if_alone, if_else, case, casez, for, set}
use Rattle.vlog_grammar.specs.Statements.{later, show, finish, stop, AreStmts, no_stmts, more_stmts, AreArms, last_arm, more_arms, last_default}
use Rattle.vlog_grammar.specs.Statements.{more_after_default, IsArm, listed, IsDefault, default_colon, default_plain, SpellsStmt}
use Rattle.vlog_reading.specs.Marks.{mark}
use Rattle.vlog_reading.specs.Reading.{Parser, sees, after, expect, first_kind}
use Rattle.vlog_reading.specs.ReadExpressions.{expression}
use Rattle.vlog_reading.specs.ReadParts as parts
use Rattle.vlog_reading.specs.ReadStatements as read
use Rattle.vlog_laws.proofs.Basics.{Ends, ends_at, not_seen, sees_at, sees_other, after_it, goes, goes_mark, eat_yes, eat_no, eat_other, after_none, same_Some}
use Rattle.vlog_laws.proofs.Shorter.{shorter_expr}
use Rattle.vlog_laws.proofs.ShorterStatements.{shorter_head, shorter_item, shorter_items, shorter_block_name, shorter_stmt, shorter_stmts, shorter_arms}
use Rattle.vlog_laws.proofs.ShorterStatements.{shorter_arm, shorter_default}
use Rattle.vlog_laws.proofs.Complete.{expression_complete}
use Rattle.vlog_laws.proofs.PartsComplete.{all_complete, exprs_complete, name_complete, until_complete, test_complete, whole_target_complete, for_head_complete}
use Rattle.vlog_laws.proofs.StatementsSound.{append_nil}

-- the tokens that begin an expression
abbrev pub begins_kind : TokenKind → Bool
begins_kind (k.Number width signed value free) = free == 0
begins_kind (k.Name s) = true
begins_kind (k.System s) = true
begins_kind k.OpenParen = true
begins_kind k.OpenBrace = true
begins_kind kind = is_some (prefix_of kind)

abbrev pub begins : Tokens → Bool
begins [] = false
begins (t ∷ ts) = begins_kind t.what

begins_prefix : (kind : TokenKind) (op : UnaryOp) → prefix_of kind ≡ Some op → begins_kind kind ≡ true
begins_prefix (k.Number width signed value free) op h = absurd cc
begins_prefix (k.Name s) op h = refl
begins_prefix (k.System s) op h = refl
begins_prefix k.OpenParen op h = refl
begins_prefix k.OpenBrace op h = refl
begins_prefix kind op h = ap is_some h

front_part : {ts us : Tokens} {a : Expr} → IsPart ts a us → begins ts ≡ true
front_part (name none) = refl
front_part (position one none) = refl
front_part (slice some) = refl
front_part (twice one some) = refl

front_primary : {ts us : Tokens} {a : Expr} → IsPrimary ts a us → begins ts ≡ true
front_primary number = refl
front_primary (part a) = front_part a
front_primary (inner i) = refl
front_primary (join all) = refl
front_primary (repeat n all) = refl
front_primary (call known of) = refl

front_unary : {ts us : Tokens} {a : Expr} → IsUnary ts a us → begins ts ≡ true
front_unary (prefix {kind = kind} {op = op} e u) = begins_prefix kind op e
front_unary (primary p) = front_primary p

front_binary : {n : ℕ} {ts us : Tokens} {a : Expr} → IsBinary n ts a us → begins ts ≡ true
front_binary (operand u) = front_unary u
front_binary (higher b) = front_binary b
front_binary (joined l e r) = front_binary l

pub front_expr : {ts us : Tokens} {a : Expr} → IsExpr ts a us → begins ts ≡ true
front_expr (plain b) = front_binary b
front_expr (choice b y n) = front_binary b

no_word : (kind : TokenKind) → begins_kind kind ≡ true → ((mark kind == mark k.EndCase) ≡ false) × ((mark kind == mark k.Default) ≡ false)
no_word k.EndCase h = absurd cc
no_word k.Default h = absurd cc
no_word _ h = (refl, refl)

not_in_front : (ts : Tokens) → begins ts ≡ true → (sees k.EndCase ts ≡ false) × (sees k.Default ts ≡ false)
unfolding sees
not_in_front [] h = absurd cc
not_in_front (t ∷ ts) h = no_word t.what h

front_item : {wild : Bool} {ts us : Tokens} {a : Expr} → IsCaseItem wild ts a us → (sees k.EndCase ts ≡ false) × (sees k.Default ts ≡ false)
unfolding sees
front_item {wild} {ts} (plain_item one) = not_in_front ts (front_expr one)
front_item (free_item bits) = (refl, refl)

front_items : {wild : Bool} {ts us : Tokens} {all : List Expr} → AreSeparated (IsCaseItem wild) ts all us
    → (sees k.EndCase ts ≡ false) × (sees k.Default ts ≡ false)
front_items (list.last one) = front_item one
front_items (list.more one rest) = front_item one

front_target : {ts us : Tokens} {a : Expr} → IsTarget ts a us → (sees k.End ts ≡ false) × (sees k.Colon ts ≡ false)
unfolding sees
front_target (target_part (name none)) = (refl, refl)
front_target (target_part (position one none)) = (refl, refl)
front_target (target_part (slice some)) = (refl, refl)
front_target (target_part (twice one some)) = (refl, refl)
front_target (target_join all) = (refl, refl)

front_stmt : {ts us : Tokens} {a : Stmt} → IsStmt ts a us → (sees k.End ts ≡ false) × (sees k.Colon ts ≡ false)
unfolding sees
front_stmt empty = (refl, refl)
front_stmt (block called body) = (refl, refl)
front_stmt (if_alone test first none) = (refl, refl)
front_stmt (if_else test first second) = (refl, refl)
front_stmt (case on arms) = (refl, refl)
front_stmt (casez on arms) = (refl, refl)
front_stmt (for head body) = (refl, refl)
front_stmt (set target value) = front_target target
front_stmt (later target value) = front_target target
front_stmt (show known shown) = (refl, refl)
front_stmt (finish known end) = (refl, refl)
front_stmt (stop known end) = (refl, refl)

front_arm : {wild : Bool} {ts us : Tokens} {a : CaseArm} → IsArm wild ts a us → (sees k.EndCase ts ≡ false) × (sees k.Default ts ≡ false)
front_arm (listed items body) = front_items items

front_default : {ts us : Tokens} {a : CaseArm} → IsDefault ts a us → (sees k.EndCase ts ≡ false) × (sees k.Default ts ≡ true)
unfolding sees
front_default (default_colon body) = (refl, refl)
front_default (default_plain body) = (refl, refl)

front_arms : {wild seen : Bool} {ts us : Tokens} {all : List CaseArm} → AreArms wild seen ts all us → sees k.EndCase ts ≡ false
front_arms (last_arm one) = (front_arm one).0
front_arms (more_arms one rest) = (front_arm one).0
front_arms (last_default one) = (front_default one).0
front_arms (more_after_default one rest) = (front_default one).0

some_length : (kind : TokenKind) (ts : Tokens) → sees kind ts ≡ true → 0 < length ts
unfolding sees
some_length kind [] h = absurd cc
some_length kind (t ∷ ts) h = omega arith

item_plain : (wild : Bool) (kind : TokenKind) (ts : Tokens) → begins_kind kind ≡ true → read.case_item_by wild (Some kind) ts ≡ expression ts
item_plain true (k.Number width signed value free) ts h = rw h refl
item_plain false (k.Number width signed value free) ts h = refl
item_plain wild _ ts h = refl

item_by_front : (wild : Bool) (ts : Tokens) → begins ts ≡ true → read.case_item wild ts ≡ expression ts
unfolding read.case_item
item_by_front wild [] h = absurd cc
item_by_front wild (t ∷ ts) h = item_plain wild t.what (t ∷ ts) h

item_complete : (wild : Bool) (ts us : Tokens) (a : Expr) → IsCaseItem wild ts a us → Ends us → read.case_item wild ts ≡ Some (a, us)
unfolding read.case_item
item_complete wild ts us a (plain_item one) ends = item_by_front wild ts (front_expr one) ∙ expression_complete ts us a one ends
item_complete wild ts us a (free_item {free = free} bits) ends = rw bits refl

items_complete : (wild : Bool) (q : Place) (ts us : Tokens) (all : List Expr) → AreSeparated (IsCaseItem wild) ts all (at q k.Colon ∷ us)
    → parts.separated (read.case_item wild) ts ≡ Some (all, at q k.Colon ∷ us)
items_complete wild q ts us all items =
    all_complete (IsCaseItem wild) (read.case_item wild) (at q k.Colon ∷ us) (sees_other k.Comma k.Colon q us refl)
    (λ ts a one. item_complete wild ts (at q k.Colon ∷ us) a one (ends_at k.Colon q us refl refl))
    (λ ts vs p a one. item_complete wild ts (at p k.Comma ∷ vs) a one (ends_at k.Comma p vs refl refl))
    (λ ts vs a one. shorter_item one) all ts items

after_at : (kind : TokenKind) (p : Place) (ts : Tokens) → after kind (at p kind ∷ ts) ≡ ts
after_at kind p ts = after_it kind (at p kind ∷ ts) (sees_at kind p ts)

text_no_close : (q : Place) (words : List ℕ) (us : Tokens) → sees k.CloseParen (at q (k.Text words) ∷ us) ≡ false
unfolding sees
text_no_close q words us = refl

expect_last : (kind : TokenKind) (r : Place) (us : Tokens) → expect kind (at r kind ∷ us) ≡ Some (tt, us)
unfolding expect
expect_last kind r us = rw (sees_at kind r us) refl

shown_complete : (ts us : Tokens) (text : Option (List ℕ)) (values : List Expr) → IsShown ts text values us
    → read.display_arguments ts ≡ Some ((text, values), us)
unfolding read.display_arguments read.text_and_values read.text_token
shown_complete ts us text values (no_parentheses none) = eat_no k.OpenParen us _ _ (not_seen k.OpenParen us refl none) refl
shown_complete ts us text values (no_text {p = p} {q = q}) = eat_yes k.OpenParen p (at q k.CloseParen ∷ us) _ _ (eat_yes k.CloseParen q us _ _ refl)
shown_complete ts us text values (text_alone {p = p} {q = q} {r = r} {text = words}) =
    eat_yes k.OpenParen p (at q (k.Text words) ∷ at r k.CloseParen ∷ us) _ _
    (eat_no k.CloseParen (at q (k.Text words) ∷ at r k.CloseParen ∷ us) _ _ (text_no_close q words (at r k.CloseParen ∷ us))
    (goes _ (eat_other k.Comma k.CloseParen r us _ _ refl refl) (goes_mark k.CloseParen r us _ refl)))
shown_complete ts us text values (text_and_values {us = vs} {p = p} {q = q} {r = r} {o = o} {text = words} all) =
    eat_yes k.OpenParen p (at q (k.Text words) ∷ at r k.Comma ∷ vs) _ _
    (eat_no k.CloseParen (at q (k.Text words) ∷ at r k.Comma ∷ vs) _ _ (text_no_close q words (at r k.Comma ∷ vs))
    (goes _ (eat_yes k.Comma r vs _ _ (exprs_complete vs (at o k.CloseParen ∷ us) values all (ends_at k.CloseParen o us refl refl)
    (sees_other k.Comma k.CloseParen o us refl)))
    (goes_mark k.CloseParen o us _ refl)))

ending_complete : (ts us : Tokens) → IsEnding ts us → read.stop_number ts ≡ Some (tt, us)
unfolding read.stop_number read.number_token
ending_complete ts us (no_number none) = eat_no k.OpenParen us _ _ (not_seen k.OpenParen us refl none) refl
ending_complete ts us (with_number {p = p} {q = q} {r = r} {width = width} {value = value} {signed = signed}) =
    eat_yes k.OpenParen p (at q (k.Number width signed value 0) ∷ at r k.CloseParen ∷ us) _ _ (expect_last k.CloseParen r us)

block_name_complete : (ts us : Tokens) → IsBlockName ts us → read.block_name ts ≡ Some (tt, us)
unfolding read.block_name
block_name_complete ts us (named {p = p} {q = q} {name = s}) =
    eat_yes k.Colon p (at q (k.Name s) ∷ us) _ _ (goes _ (name_complete q s us) refl)
block_name_complete ts us (unnamed none) = eat_no k.Colon us _ _ (not_seen k.Colon us refl none) refl

closed_complete : (q : Place) (ts us : Tokens) → IsEnding ts (at q k.Semicolon ∷ us) → read.stop_number_and_semicolon ts ≡ Some (tt, us)
unfolding read.stop_number_and_semicolon
closed_complete q ts us end = goes _ (ending_complete ts (at q k.Semicolon ∷ us) end) (expect_last k.Semicolon q us)

ended_complete : (q : Place) (ts us : Tokens) (what : StmtKind) → IsEnding ts (at q k.Semicolon ∷ us) → read.stopping what ts ≡ Some (what, us)
unfolding read.stopping
ended_complete q ts us what end = goes _ (closed_complete q ts us end) refl

show_complete : (name : List ℕ) (q : Place) (ts us : Tokens) (text : Option (List ℕ)) (values : List Expr) → name ≡ codes "$display"
    → IsShown ts text values (at q k.Semicolon ∷ us) → read.system_task name ts ≡ Some (s.Show text values, us)
unfolding read.system_task read.display
show_complete called q ts us text values known shown =
    ap (λ n. read.system_task n ts) known ∙ goes _ (shown_complete ts (at q k.Semicolon ∷ us) text values shown) (goes_mark k.Semicolon q us _ refl)

finish_complete : (name : List ℕ) (q : Place) (ts us : Tokens) → name ≡ codes "$finish" → IsEnding ts (at q k.Semicolon ∷ us)
    → read.system_task name ts ≡ Some (s.Finish, us)
unfolding read.system_task
finish_complete called q ts us known end = ap (λ n. read.system_task n ts) known ∙ ended_complete q ts us s.Finish end

stop_complete : (name : List ℕ) (q : Place) (ts us : Tokens) → name ≡ codes "$stop" → IsEnding ts (at q k.Semicolon ∷ us)
    → read.system_task name ts ≡ Some (s.Stop, us)
unfolding read.system_task
stop_complete called q ts us known end = ap (λ n. read.system_task n ts) known ∙ ended_complete q ts us s.Stop end

module _ (statement : Parser Stmt) (d : ℕ) (whole : (ts us : Tokens) (a : Stmt) → length ts ≤ d → IsStmt ts a us → statement ts ≡ Some (a, us)) where
  body_complete : (t : ℕ) (found all : List Stmt) (ts us : Tokens) → AreStmts ts all us → sees k.End us ≡ true → length ts ≤ t → length ts ≤ d
      → read.body_from statement t found ts ≡ Some (found ++ all, us)
  unfolding read.body_from
  body_complete zero found all ts us stmts halt turns deep = absurd (omega (arith, shorter_stmts stmts, some_length k.End us halt))
  body_complete (suc t) found all ts us no_stmts halt turns deep = rw halt (ap (λ x. Some (x, ts)) (sym (append_nil found)))
  body_complete (suc t) found all ts us (more_stmts {us = vs} {a = a} {all = others} one rest) halt turns deep =
      rw ((front_stmt one).0) (goes _ (whole ts vs a deep one)
      (body_complete t (found ++ a ∷ []) others vs us rest halt (omega (arith, shorter_stmt one)) (omega (arith, shorter_stmt one))
      ∙ ap (λ x. Some (x, us)) (append_assoc found (a ∷ []) others)))

  listed_complete : (wild : Bool) (ts us : Tokens) (a : CaseArm) → IsArm wild ts a us → length ts ≤ d → read.listed_arm statement wild ts ≡ Some (a, us)
  unfolding read.listed_arm
  listed_complete wild ts us a (listed {us = rest} {vs = vs} {t = t} {q = q} {items = items} {body = body} all tree) deep =
      goes _ (items_complete wild q (t ∷ rest) vs items all) (goes_mark k.Colon q vs _ (goes _ (whole vs us body (omega (arith, shorter_items all)) tree) refl))

  default_complete : (ts us : Tokens) (a : CaseArm) → IsDefault ts a us → length ts ≤ d → read.default_arm statement ts ≡ Some (a, us)
  unfolding read.default_arm
  default_complete ts us a (default_colon {us = vs} {p = p} {q = q} {body = body} tree) deep =
      goes_mark k.Default p (at q k.Colon ∷ vs) _ (rw (after_at k.Colon q vs) (goes _ (whole vs us body (omega arith) tree) refl))
  default_complete ts us a (default_plain {us = vs} {p = p} {body = body} tree) deep =
      goes_mark k.Default p vs _ (rw (after_none k.Colon vs (front_stmt tree).1) (goes _ (whole vs us body (omega arith) tree) refl))

  arms_complete : (wild : Bool) (t : ℕ) (seen : Bool) (found all : List CaseArm) (ts us : Tokens) → AreArms wild seen ts all us → sees k.EndCase us ≡ true
      → length ts ≤ t → length ts ≤ d → read.arms_from statement wild t seen found ts ≡ Some (found ++ all, us)
  unfolding read.arms_from read.arm_or_default
  arms_complete wild zero seen found all ts us arms halt turns deep = absurd (omega (arith, shorter_arms arms))
  arms_complete wild (suc t) seen found all ts us (last_arm {a = a} one) halt turns deep =
      rw ((front_arm one).1) (goes _ (listed_complete wild ts us a one deep) (rw halt refl))
  arms_complete wild (suc t) seen found all ts us (more_arms {us = vs} {a = a} {all = others} one rest) halt turns deep =
      rw ((front_arm one).1) (goes _ (listed_complete wild ts vs a one deep) (rw (front_arms rest)
      (arms_complete wild t seen (found ++ a ∷ []) others vs us rest halt (omega (arith, shorter_arm one)) (omega (arith, shorter_arm one))
      ∙ ap (λ x. Some (x, us)) (append_assoc found (a ∷ []) others))))
  arms_complete wild (suc t) seen found all ts us (last_default {a = a} one) halt turns deep =
      rw ((front_default one).1) (goes _ (default_complete ts us a one deep) (rw halt refl))
  arms_complete wild (suc t) seen found all ts us (more_after_default {us = vs} {a = a} {all = others} one rest) halt turns deep =
      rw ((front_default one).1) (goes _ (default_complete ts vs a one deep) (rw (front_arms rest)
      (arms_complete wild t true (found ++ a ∷ []) others vs us rest halt (omega (arith, shorter_default one)) (omega (arith, shorter_default one))
      ∙ ap (λ x. Some (x, us)) (append_assoc found (a ∷ []) others))))

  case_complete : (wild : Bool) (q r o : Place) (ts vs us : Tokens) (on : Expr) (arms : List CaseArm) → IsExpr ts on (at r k.CloseParen ∷ vs)
      → AreArms wild false vs arms (at o k.EndCase ∷ us) → length ts ≤ d
      → read.case_statement statement wild (at q k.OpenParen ∷ ts) ≡ Some (s.Case wild on arms, us)
  unfolding read.case_statement read.arms
  case_complete wild q r o ts vs us on arms test all deep =
      goes _ (test_complete q r ts vs on test)
      (goes _ (arms_complete wild (length vs) false [] arms vs (at o k.EndCase ∷ us) all (sees_at k.EndCase o us) (omega arith)
      (omega (arith, shorter_expr test)))
      (goes_mark k.EndCase o us _ refl))

  else_complete : (o : Place) (a : Stmt) (ts us : Tokens) → IsStmt ts a us → length ts ≤ d → read.else_part statement (at o k.Else ∷ ts) ≡ Some (Some a, us)
  unfolding read.else_part
  else_complete o a ts us tree deep = eat_yes k.Else o ts _ _ (goes _ (whole ts us a deep tree) refl)

  no_else_complete : (us : Tokens) → sees k.Else us ≡ false → read.else_part statement us ≡ Some (None, us)
  unfolding read.else_part
  no_else_complete us none = eat_no k.Else us _ _ none refl

  kind_assign : (ts us : Tokens) (a : Expr) → IsTarget ts a us → read.kind_by statement (first_kind ts) ts ≡ read.assignment ts
  kind_assign ts us a (target_part (name none)) = refl
  kind_assign ts us a (target_part (position one none)) = refl
  kind_assign ts us a (target_part (slice some)) = refl
  kind_assign ts us a (target_part (twice one some)) = refl
  kind_assign ts us a (target_join all) = refl

  set_complete : (q r : Place) (ts vs us : Tokens) (target value : Expr) → IsTarget ts target (at q k.EqualSign ∷ vs) → IsExpr vs value (at r k.Semicolon ∷ us)
      → read.assignment ts ≡ Some (s.Set target value, us)
  unfolding read.assignment read.blocking
  set_complete q r ts vs us target value one two =
      goes _ (whole_target_complete ts (at q k.EqualSign ∷ vs) target one) (eat_other k.LessOrEqual k.EqualSign q vs _ _ refl
      (goes_mark k.EqualSign q vs _ (goes _ (until_complete k.Semicolon r vs us value refl refl two) refl)))

  later_complete : (q r : Place) (ts vs us : Tokens) (target value : Expr) → IsTarget ts target (at q k.LessOrEqual ∷ vs)
      → IsExpr vs value (at r k.Semicolon ∷ us)
      → read.assignment ts ≡ Some (s.Later target value, us)
  unfolding read.assignment read.blocking
  later_complete q r ts vs us target value one two =
      goes _ (whole_target_complete ts (at q k.LessOrEqual ∷ vs) target one) (eat_yes k.LessOrEqual q vs _ _
      (goes _ (until_complete k.Semicolon r vs us value refl refl two) refl))

  layer_complete : (a : Stmt) (ts us : Tokens) → IsStmt ts a us → length ts ≤ suc d → read.layer statement ts ≡ Some (a, us)
  unfolding read.layer read.block read.body read.if_statement read.for_statement
  layer_complete a ts us empty deep = refl
  layer_complete a ts us (block {us = xs} {vs = vs} {q = q} {body = body} called stmts) deep =
      goes _ (goes _ (block_name_complete xs vs called)
      (goes _ (body_complete (length vs) [] body vs (at q k.End ∷ us) stmts (sees_at k.End q us) (omega arith) (omega (arith, shorter_block_name called)))
      (goes_mark k.End q us _ refl))) refl
  layer_complete a ts us (if_alone {us = vs} {vs = ws} {q = q} {r = r} {test = test} {first = first} on tree none) deep =
      goes _ (goes _ (test_complete q r vs ws test on) (goes _ (whole ws us first (omega (arith, shorter_expr on)) tree)
      (goes _ (no_else_complete us (not_seen k.Else us refl none)) refl))) refl
  layer_complete a ts us (if_else {us = vs} {vs = ws} {ws = xs} {q = q} {r = r} {o = o} {test = test} {first = first} {second = second} on tree others) deep =
      goes _ (goes _ (test_complete q r vs ws test on) (goes _ (whole ws (at o k.Else ∷ xs) first (omega (arith, shorter_expr on)) tree)
      (goes _ (else_complete o second xs us others (omega (arith, shorter_expr on, shorter_stmt tree))) refl))) refl
  layer_complete a ts us (case {us = vs} {vs = ws} {q = q} {r = r} {o = o} {on = on} {arms = arms} test all) deep =
      goes _ (case_complete false q r o vs ws us on arms test all (omega arith)) refl
  layer_complete a ts us (casez {us = vs} {vs = ws} {q = q} {r = r} {o = o} {on = on} {arms = arms} test all) deep =
      goes _ (case_complete true q r o vs ws us on arms test all (omega arith)) refl
  layer_complete a ts us
      (for {us = vs} {vs = ws} {name = called} {step_name = step_name} {from = from} {test = test} {step = step} {body = body} head tree) deep =
      goes _ (goes _ (for_head_complete vs ws called step_name from test step head) (goes _ (whole ws us body
      (omega (arith, shorter_head head)) tree) refl)) refl
  layer_complete a ts us (set {us = xs} {vs = vs} {t = t} {q = q} {r = r} {target = target} {value = value} one two) deep =
      goes _ (kind_assign (t ∷ xs) (at q k.EqualSign ∷ vs) target one ∙ set_complete q r (t ∷ xs) vs us target value one two) refl
  layer_complete a ts us (later {us = xs} {vs = vs} {t = t} {q = q} {r = r} {target = target} {value = value} one two) deep =
      goes _ (kind_assign (t ∷ xs) (at q k.LessOrEqual ∷ vs) target one ∙ later_complete q r (t ∷ xs) vs us target value one two) refl
  layer_complete a ts us (show {us = xs} {q = q} {name = called} {text = text} {values = values} known shown) deep =
      goes _ (show_complete called q xs us text values known shown) refl
  layer_complete a ts us (finish {us = xs} {q = q} {name = called} known end) deep = goes _ (finish_complete called q xs us known end) refl
  layer_complete a ts us (stop {us = xs} {q = q} {name = called} known end) deep = goes _ (stop_complete called q xs us known end) refl

statement_complete : (d : ℕ) (ts us : Tokens) (a : Stmt) → length ts ≤ d → IsStmt ts a us → read.statement d ts ≡ Some (a, us)
unfolding read.statement
statement_complete zero ts us a deep tree = absurd (omega (arith, shorter_stmt tree))
statement_complete (suc d) ts us a deep tree = layer_complete (read.statement d) d (λ vs ws b h t. statement_complete d vs ws b h t) a ts us tree deep

pub whole_statement_complete : (ts us : Tokens) (a : Stmt) → IsStmt ts a us → read.whole_statement ts ≡ Some (a, us)
unfolding read.whole_statement
whole_statement_complete ts us a tree = statement_complete (length ts) ts us a (omega arith) tree

pub only_statement_complete : (ts : Tokens) (a : Stmt) → SpellsStmt ts a → read.only_statement ts ≡ Some a
unfolding read.only_statement
only_statement_complete ts a tree = rw (whole_statement_complete ts [] a tree) refl

pub one_statement : (ts : Tokens) (a b : Stmt) → SpellsStmt ts a → SpellsStmt ts b → a ≡ b
one_statement ts a b one two = same_Some a b (sym (only_statement_complete ts a one) ∙ only_statement_complete ts b two)
