-- What is spelled as an expression is read so.
use Rattle.std.proofs.Common.{◌≡◌, ℕ, zero, suc, ◌+◌, ◌-◌, ◌<◌, ◌≤◌, max, false, ◌==◌, List, [], ◌∷◌, ◌++◌, length, Option, Some, None, refl, sym, ◌∙◌, ap}
use Rattle.std.proofs.Common.{subst, arith, append_assoc, ltb, lt-ltb, le-ltb, add-one}
use Rattle.cov_types.specs.declared.place.Place.{Place}
use Rattle.vlog_tokens.specs.declared.token.TokenKind.{TokenKind}
use Rattle.vlog_tokens.specs.declared.token.TokenKind.TheVariants as k
use Rattle.vlog_tree.specs.declared.operator.UnaryOp.{UnaryOp}
use Rattle.vlog_tree.specs.declared.operator.BinaryOp.{BinaryOp}
use Rattle.vlog_tree.specs.declared.operator.SystemCall.{SystemCall}
use Rattle.vlog_tree.specs.declared.expression.Expr.{Expr}
use Rattle.vlog_tree.specs.declared.expression.Expr.TheVariants as e
use Rattle.vlog_tree.specs.declared.expression.Select.{Select}
use Rattle.vlog_grammar.specs.Tokens.{Tokens, at, NotNext, infix_of, prefix_of, call_of, tightest}
use Rattle.vlog_grammar.specs.Expressions.{IsExpr, plain, choice, IsBinary, operand, higher, joined, IsUnary, prefix, primary, IsPrimary, number, part, inner}
use Rattle.vlog_grammar.specs.Expressions.{join, repeat, call, IsPart, name, position, slice, twice, IsSelect, single, several, IsSlice, between, up, down}
use Rattle.vlog_grammar.specs.Expressions.{AreExprs, last, more, SpellsExpr}
use Rattle.vlog_reading.specs.Marks.{mark}
use Rattle.vlog_reading.specs.Reading.{Parser, and_then, sees, next_infix}
use Rattle.vlog_reading.specs.ReadExpressions as read
use Rattle.vlog_laws.proofs.Basics.{level_at, Ends, ends_at, ends_empty, not_seen, sees_other, infix_at_front, goes, goes_mark, eat_yes, eat_no, eat_other}
use Rattle.vlog_laws.proofs.Basics.{and_then_some, next_low, same_Some}
use Rattle.vlog_laws.proofs.Shorter.{shorter_expr, shorter_binary, shorter_unary, shorter_exprs}

module _ (expr : ℕ → Parser Expr) (d : ℕ)
    (whole : (ts us : Tokens) (a : Expr) → length ts ≤ d → IsExpr ts a us → Ends us → expr 1 ts ≡ Some (a, us))
    (some_level : (n : ℕ) (ts us : Tokens) (a : Expr) → 2 ≤ n → length ts ≤ d → IsBinary n ts a us → level_at (next_infix us) < n → expr n ts ≡ Some (a, us))
    (unary : (ts us : Tokens) (a : Expr) → length ts ≤ d → IsUnary ts a us → expr tightest ts ≡ Some (a, us))
  where
    -- an expression before a mark that doesn't go on with it
    before : (close : TokenKind) (p : Place) (ts us : Tokens) (a : Expr) → infix_of close ≡ None → (mark close == mark k.Question) ≡ false
        → IsExpr ts a (at p close ∷ us) → length ts ≤ d → expr 1 ts ≡ Some (a, at p close ∷ us)
    before close p ts us a none other tree deep = whole ts (at p close ∷ us) a deep tree (ends_at close p us none other)

    pub within_complete : (close : TokenKind) (p : Place) (ts us : Tokens) (a : Expr) → infix_of close ≡ None → (mark close == mark k.Question) ≡ false
        → IsExpr ts a (at p close ∷ us) → length ts ≤ d → read.nested_before expr close ts ≡ Some (a, us)
    unfolding read.nested_before
    within_complete close p ts us a none other tree deep = goes _ (before close p ts us a none other tree deep) (goes_mark close p us _ refl)

    pub list_complete : (t : ℕ) (found all : List Expr) (ts us : Tokens) → AreExprs ts all us → length ts ≤ t → length ts ≤ d → Ends us
        → sees k.Comma us ≡ false
        → read.list_from expr t found ts ≡ Some (found ++ all, us)
    unfolding read.list_from
    list_complete zero found all ts us list turns deep ends none = absurd (omega (arith, shorter_exprs list))
    list_complete (suc t) found all ts us (last {a = a} one) turns deep ends none =
        goes _ (whole ts us a deep one ends) (eat_no k.Comma us _ _ none refl)
    list_complete (suc t) found all ts us (more {us = vs} {p = p} {a = a} {all = rest} one list) turns deep ends none =
        goes _ (before k.Comma p ts vs a refl refl one deep) (eat_yes k.Comma p vs _ _
        (list_complete t (found ++ a ∷ []) rest vs us list (omega (arith, shorter_expr one)) (omega (arith, shorter_expr one)) ends none
        ∙ ap (λ x. Some (x, us)) (append_assoc found (a ∷ []) rest)))

    -- a list before a brace
    in_braces : (found all : List Expr) (p : Place) (ts us : Tokens) → AreExprs ts all (at p k.CloseBrace ∷ us) → length ts ≤ d
        → read.list expr found ts ≡ Some (found ++ all, at p k.CloseBrace ∷ us)
    unfolding read.list
    in_braces found all p ts us list deep =
        list_complete (length ts) found all ts (at p k.CloseBrace ∷ us) list (omega arith) deep (ends_at k.CloseBrace p us refl refl)
        (sees_other k.Comma k.CloseBrace p us refl)

    repeated_complete : (n : Expr) (all : List Expr) (r s : Place) (ts us : Tokens) → AreExprs ts all (at r k.CloseBrace ∷ at s k.CloseBrace ∷ us)
        → length ts ≤ d
        → read.repeated expr n ts ≡ Some (e.Repeat n all, us)
    unfolding read.repeated
    repeated_complete n all r s ts us list deep =
        goes _ (in_braces [] all r ts (at s k.CloseBrace ∷ us) list deep) (goes_mark k.CloseBrace r _ _ (goes_mark k.CloseBrace s us _ refl))

    join_complete : (all : List Expr) (q : Place) (ts us : Tokens) → AreExprs ts all (at q k.CloseBrace ∷ us) → length ts ≤ d
        → read.in_braces expr ts ≡ Some (e.Join all, us)
    unfolding read.in_braces read.joined read.others
    join_complete all q ts us (last {a = a} one) deep =
        goes _ (before k.CloseBrace q ts us a refl refl one deep) (eat_other k.OpenBrace k.CloseBrace q us _ _ refl
        (goes _ (eat_other k.Comma k.CloseBrace q us _ _ refl refl) (goes_mark k.CloseBrace q us _ refl)))
    join_complete all q ts us (more {us = vs} {p = p} {a = a} {all = rest} one list) deep =
        goes _ (before k.Comma p ts vs a refl refl one deep) (eat_other k.OpenBrace k.Comma p vs _ _ refl
        (goes _ (eat_yes k.Comma p vs _ _ (in_braces (a ∷ []) rest q vs us list (omega (arith, shorter_expr one)))) (goes_mark k.CloseBrace q us _ refl)))

    slice_complete : (some : Select) (ts us : Tokens) → IsSlice ts some us → length ts ≤ d
        → (first : Expr) × (kind : TokenKind) × (q : Place) × (vs : Tokens) × (expr 1 ts ≡ Some (first, at q kind ∷ vs))
        × ((mark kind == mark k.CloseBracket) ≡ false) × (read.slice expr first (at q kind ∷ vs) ≡ Some (some, us))
    unfolding read.slice read.slice_by_width
    slice_complete some ts us (between {vs = vs} {q = q} {r = r} {a = a} {b = b} one two) deep = (
      a,
      k.Colon,
      q,
      vs,
      before k.Colon q ts vs a refl refl one deep,
      refl,
      eat_yes k.Colon q vs _ _ (goes _ (within_complete k.CloseBracket r vs us b refl refl two (omega (arith, shorter_expr one))) refl),
    )
    slice_complete some ts us (up {vs = vs} {q = q} {r = r} {a = a} {b = b} one two) deep = (
      a,
      k.PlusColon,
      q,
      vs,
      before k.PlusColon q ts vs a refl refl one deep,
      refl,
      eat_other k.Colon k.PlusColon q vs _ _ refl (eat_yes k.PlusColon q vs _ _
          (goes _ (within_complete k.CloseBracket r vs us b refl refl two (omega (arith, shorter_expr one))) refl)),
    )
    slice_complete some ts us (down {vs = vs} {q = q} {r = r} {a = a} {b = b} one two) deep = (
      a,
      k.MinusColon,
      q,
      vs,
      before k.MinusColon q ts vs a refl refl one deep,
      refl,
      eat_other k.Colon k.MinusColon q vs _ _ refl (eat_other k.PlusColon k.MinusColon q vs _ _ refl (goes_mark k.MinusColon q vs _
          (goes _ (within_complete k.CloseBracket r vs us b refl refl two (omega (arith, shorter_expr one))) refl))),
    )

    select_complete : (some : Select) (ts us : Tokens) → IsSelect ts some us → length ts ≤ d → read.select expr ts ≡ Some (some, us)
    unfolding read.select
    select_complete some ts us (single {q = q} {a = a} one) deep =
        goes _ (before k.CloseBracket q ts us a refl refl one deep) (eat_yes k.CloseBracket q us _ _ refl)
    select_complete some ts us (several tree) deep =
        let s = slice_complete some ts us tree deep in
        goes _ s.4 (eat_other k.CloseBracket s.1 s.2 s.3 _ _ s.5 s.6)

    again_none : (base : Expr) (us : Tokens) → NotNext k.OpenBracket us → read.second_select expr base us ≡ Some (base, us)
    unfolding read.second_select
    again_none base us none = eat_no k.OpenBracket us _ _ (not_seen k.OpenBracket us refl none) refl

    again_some : (base : Expr) (some : Select) (q : Place) (ts us : Tokens) → IsSelect ts some us → length ts ≤ d
        → read.second_select expr base (at q k.OpenBracket ∷ ts) ≡ Some (e.Select base some, us)
    unfolding read.second_select
    again_some base some q ts us tree deep = eat_yes k.OpenBracket q ts _ _ (goes _ (select_complete some ts us tree deep) refl)

    pub part_complete : (p : Place) (s : List ℕ) (ts us : Tokens) (a : Expr) → IsPart (at p (k.Name s) ∷ ts) a us → length ts ≤ d
        → read.part_after_name expr s ts ≡ Some (a, us)
    unfolding read.part_after_name read.part_after_bracket
    part_complete p s ts us a (name none) deep = eat_no k.OpenBracket us _ _ (not_seen k.OpenBracket us refl none) refl
    part_complete p s ts us a (position {us = vs} {q = q} {r = r} {a = b} one none) deep =
        eat_yes k.OpenBracket q vs _ _ (goes _ (before k.CloseBracket r vs us b refl refl one (omega arith))
        (eat_yes k.CloseBracket r us _ _ (again_none _ us none)))
    part_complete p s ts us a (slice {us = vs} {q = q} {some = some} tree) deep =
        let x = slice_complete some vs us tree (omega arith) in
        eat_yes k.OpenBracket q vs _ _ (goes _ x.4 (eat_other k.CloseBracket x.1 x.2 x.3 _ _ x.5 (goes _ x.6 refl)))
    part_complete p s ts us a (twice {us = vs} {vs = ws} {q = q} {r = r} {t = t} {a = b} {some = some} one tree) deep =
        eat_yes k.OpenBracket q vs _ _ (goes _ (before k.CloseBracket r vs (at t k.OpenBracket ∷ ws) b refl refl one (omega arith))
        (eat_yes k.CloseBracket r (at t k.OpenBracket ∷ ws) _ _ (again_some _ some t ws us tree (omega (arith, shorter_expr one)))))

    part_operand : (a : Expr) (ts us : Tokens) → IsPart ts a us → length ts ≤ suc d → read.unary_or_primary expr ts ≡ Some (a, us)
    unfolding read.unary_or_primary
    part_operand a ts us (name {p = p} {s = s} none) deep = part_complete p s us us a (name none) (omega arith)
    part_operand a ts us (position {us = vs} {p = p} {q = q} {s = s} one none) deep = part_complete p s (at q k.OpenBracket ∷ vs) us a (position one none)
        (omega arith)
    part_operand a ts us (slice {us = vs} {p = p} {q = q} {s = s} tree) deep = part_complete p s (at q k.OpenBracket ∷ vs) us a (slice tree) (omega arith)
    part_operand a ts us (twice {us = vs} {p = p} {q = q} {s = s} one tree) deep = part_complete p s (at q k.OpenBracket ∷ vs) us a (twice one tree)
        (omega arith)

    call_complete : (a : Expr) (what : SystemCall) (found : Option SystemCall) (q r : Place) (ts us : Tokens) → found ≡ Some what
        → IsExpr ts a (at r k.CloseParen ∷ us) → length ts ≤ d → read.system_function expr found (at q k.OpenParen ∷ ts) ≡ Some (e.Call what a, us)
    call_complete a what found q r ts us known tree deep =
        ap (λ f. read.system_function expr f (at q k.OpenParen ∷ ts)) known ∙ goes_mark k.OpenParen q ts _
        (goes _ (within_complete k.CloseParen r ts us a refl refl tree deep) refl)

    primary_complete : (a : Expr) (ts us : Tokens) → IsPrimary ts a us → length ts ≤ suc d → read.unary_or_primary expr ts ≡ Some (a, us)
    unfolding read.unary_or_primary read.in_braces
    primary_complete a ts us number deep = refl
    primary_complete a ts us (part tree) deep = part_operand a ts us tree deep
    primary_complete a ts us (inner {us = vs} {q = q} one) deep = within_complete k.CloseParen q vs us a refl refl one (omega arith)
    primary_complete a ts us (join {us = vs} {q = q} {all = all} list) deep = join_complete all q vs us list (omega arith)
    primary_complete a ts us (repeat {us = xs} {vs = vs} {q = q} {r = r} {s = s} {n = n} {all = all} one list) deep =
        goes _ (before k.OpenBrace q xs vs n refl refl one (omega arith)) (eat_yes k.OpenBrace q vs _ _ (repeated_complete n all r s vs us list
        (omega (arith, shorter_expr one))))
    primary_complete a ts us (call {us = vs} {q = q} {r = r} {name = s} {what = what} {a = of} known one) deep =
        call_complete of what (call_of s) q r vs us known one (omega arith)

    operand_prefix : (kind : TokenKind) (op : UnaryOp) (ts : Tokens) → prefix_of kind ≡ Some op
        → read.unary_or_primary_by expr (Some kind) ts ≡ read.prefixed expr (Some op) ts
    operand_prefix (k.Number width signed value free) op ts h = absurd cc
    operand_prefix (k.Name s) op ts h = absurd cc
    operand_prefix (k.System s) op ts h = absurd cc
    operand_prefix k.OpenParen op ts h = absurd cc
    operand_prefix k.OpenBrace op ts h = absurd cc
    operand_prefix kind op ts h = ap (λ o. read.prefixed expr o ts) h

    operand_complete : (a : Expr) (ts us : Tokens) → IsUnary ts a us → length ts ≤ suc d → read.unary_or_primary expr ts ≡ Some (a, us)
    unfolding read.unary_or_primary
    operand_complete a ts us (prefix {us = vs} {a = of} {p = p} {kind = kind} {op = op} known tree) deep =
        operand_prefix kind op (at p kind ∷ vs) known ∙ goes _ (unary vs us of (omega arith) tree) refl
    operand_complete a ts us (primary tree) deep = primary_complete a ts us tree deep

    climb_done : (found : Option (ℕ × BinaryOp)) (least t : ℕ) (a : Expr) (r : Tokens) → level_at found < least
        → read.climb_by expr least (read.climb expr least t) a found r ≡ Some (a, r)
    climb_done None least t a r low = refl
    climb_done (Some o) least t a r low = rw (lt-ltb o.0 least low) refl

    climb_step : (n least t : ℕ) (op : BinaryOp) (kind : TokenKind) (p : Place) (us vs : Tokens) (a b : Expr) (out : Option (Expr × Tokens)) → 2 ≤ least
        → least ≤ n
        → infix_of kind ≡ Some (n, op) → IsBinary (suc n) us b vs → length us ≤ d → level_at (next_infix vs) ≤ n
        → read.climb expr least t (e.Binary op a b) vs ≡ out
        → read.climb expr least (suc t) a (at p kind ∷ us) ≡ out
    unfolding read.climb next_infix
    climb_step n least t op kind p us vs a b out two low known tree deep next h =
        rw known (rw (le-ltb n least low) (goes _
        (some_level (n + 1) us vs b (omega arith) deep (subst (λ x. IsBinary x us b vs) (sym (add-one n)) tree) (omega arith)) h))

    climb_complete : (n least : ℕ) (a : Expr) (ts r : Tokens) (out : Option (Expr × Tokens)) → IsBinary n ts a r → 2 ≤ least → least ≤ n → length ts ≤ suc d
        → level_at (next_infix r) ≤ n → ((t : ℕ) → length r < t → read.climb expr least t a r ≡ out)
        → and_then (read.unary_or_primary expr ts) (read.binary_rest expr least) ≡ out
    unfolding read.binary_rest
    climb_complete n least a ts r out (operand tree) two low deep next h = goes _ (operand_complete a ts r tree deep) (h (length r + 1) (omega arith))
    climb_complete n least a ts r out (higher tree) two low deep next h = climb_complete (suc n) least a ts r out tree two (omega arith) deep (omega arith) h
    climb_complete n least a ts r out (joined {us = us} {a = left} {b = right} {p = p} {kind = kind} {op = op} first known second) two low deep next h =
        let level : level_at (infix_of kind) ≡ n = ap level_at known in
        let front : level_at (next_infix (at p kind ∷ us)) ≡ n = ap level_at (infix_at_front kind p us) ∙ level in
        climb_complete n least left ts (at p kind ∷ us) out first two low deep (omega (arith, front))
        (λ t turns.
        let more : t ≡ suc (t - 1) = omega arith in
        subst (λ x. read.climb expr least x left (at p kind ∷ us) ≡ out) (sym more)
        (climb_step n least (t - 1) op kind p us r left right out two low known second
        (omega (arith, shorter_binary first)) next (h (t - 1) (omega (arith, shorter_binary second)))))

    -- climbing stops at the front of what ends the operands
    climbed : (n least : ℕ) (a : Expr) (ts us : Tokens) → IsBinary n ts a us → 2 ≤ least → least ≤ n → length ts ≤ suc d → level_at (next_infix us) < least
        → and_then (read.unary_or_primary expr ts) (read.binary_rest expr least) ≡ Some (a, us)
    unfolding read.climb
    climbed n least a ts us tree two low deep next =
        climb_complete n least a ts us (Some (a, us)) tree two low deep (omega arith)
        (λ t turns.
        let more : t ≡ suc (t - 1) = omega arith in
        subst (λ x. read.climb expr least x a us ≡ Some (a, us)) (sym more) (climb_done (next_infix us) least (t - 1) a us next))

    pub level_whole : (ts us : Tokens) (a : Expr) → length ts ≤ suc d → IsExpr ts a us → Ends us → read.at_level expr 1 ts ≡ Some (a, us)
    unfolding read.at_level read.conditional_rest
    level_whole ts us a deep (plain tree) ends =
        let all =
        and_then_some (read.unary_or_primary expr ts) _ (a, us) (climbed 2 2 a ts us tree (omega arith) (omega arith) deep (let z : level_at
        (next_infix us) ≡ 0 = ap level_at ends.0 in omega arith)) in
        goes _ all.2 (goes _ all.3 (eat_no k.Question us _ _ ends.1 refl))
    level_whole ts us a deep (choice {us = vs} {vs = ws} {a = test} {b = first} {c = second} {p = p} {q = q} tree one two) ends =
        let all = and_then_some (read.unary_or_primary expr ts) _ (test, at p k.Question ∷ vs)
        (climbed 2 2 test ts (at p k.Question ∷ vs) tree (omega arith) (omega arith) deep (let z : level_at (next_infix
        (at p k.Question ∷ vs)) ≡ 0 = ap level_at (infix_at_front k.Question p vs) in omega arith)) in
        goes _ all.2 (goes _ all.3 (eat_yes k.Question p vs _ _
        (goes _ (within_complete k.Colon q vs ws first refl refl one (omega (arith, shorter_binary tree)))
        (goes _ (whole ws us second (omega (arith, shorter_binary tree, shorter_expr one)) two ends) refl))))

    pub level_some : (n : ℕ) (ts us : Tokens) (a : Expr) → 2 ≤ n → length ts ≤ suc d → IsBinary n ts a us → level_at (next_infix us) < n
        → read.at_level expr n ts ≡ Some (a, us)
    unfolding read.at_level
    level_some n ts us a two deep tree next =
        let all = and_then_some (read.unary_or_primary expr ts) _ (a, us) (climbed n n a ts us tree two (omega arith) deep next) in
        let same : max n 2 ≡ n = omega arith in
        let less : ltb n 2 ≡ false = le-ltb n 2 two in
        goes _ all.2 (goes _ (subst (λ m. read.binary_rest expr m all.0 all.1 ≡ Some (a, us)) (sym same) all.3) (rw less refl))

-- whatever is spelled is read, at each depth of at least as many tokens
pub record IsComplete (expr : ℕ → Parser Expr) (d : ℕ) : Type 0 where
  pub whole : (ts us : Tokens) (a : Expr) → length ts ≤ d → IsExpr ts a us → Ends us → expr 1 ts ≡ Some (a, us)
  pub some_level : (n : ℕ) (ts us : Tokens) (a : Expr) → 2 ≤ n → length ts ≤ d → IsBinary n ts a us → level_at (next_infix us) < n → expr n ts ≡ Some (a, us)
  pub unary : (ts us : Tokens) (a : Expr) → length ts ≤ d → IsUnary ts a us → expr tightest ts ≡ Some (a, us)

pub expr_complete : (d : ℕ) → IsComplete (read.expr d) d
unfolding read.expr
expr_complete zero = record {
  whole = λ ts us a deep tree ends. absurd (omega (arith, shorter_expr tree));
  some_level = λ n ts us a two deep tree next. absurd (omega (arith, shorter_binary tree));
  unary = λ ts us a deep tree. absurd (omega (arith, shorter_unary tree));
}
expr_complete (suc d) =
    let below = expr_complete d in
    record {
      whole = λ ts us a deep tree ends. level_whole (read.expr d) d below.whole below.some_level below.unary ts us a deep tree ends;
      some_level = λ n ts us a two deep tree next. level_some (read.expr d) d below.whole below.some_level below.unary n ts us a two deep tree next;
      unary =
          λ ts us a deep tree. level_some (read.expr d) d below.whole below.some_level below.unary tightest ts us a (omega arith) deep (operand tree)
          (next_low us);
    }

pub expression_complete : (ts us : Tokens) (a : Expr) → IsExpr ts a us → Ends us → read.expression ts ≡ Some (a, us)
unfolding read.expression
expression_complete ts us a tree ends = (expr_complete (length ts)).whole ts us a (omega arith) tree ends

pub expressions_complete : (ts us : Tokens) (all : List Expr) → AreExprs ts all us → Ends us → sees k.Comma us ≡ false → read.expressions ts ≡ Some (all, us)
unfolding read.expressions read.list
expressions_complete ts us all list ends none =
    let c = expr_complete (length ts) in
    list_complete (read.expr (length ts)) (length ts) c.whole c.some_level c.unary (length ts) [] all ts us list (omega arith) (omega arith) ends none

pub only_complete : (ts : Tokens) (a : Expr) → SpellsExpr ts a → read.only_expression ts ≡ Some a
unfolding read.only_expression
only_complete ts a tree = rw (expression_complete ts [] a tree ends_empty) refl

pub one_tree : (ts : Tokens) (a b : Expr) → SpellsExpr ts a → SpellsExpr ts b → a ≡ b
one_tree ts a b one two = same_Some a b (sym (only_complete ts a one) ∙ only_complete ts b two)
