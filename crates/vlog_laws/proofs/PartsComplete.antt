-- A list, a name, a target or the head of a loop that is spelled is read so.
use Rattle.std.proofs.Common.{◌≡◌, ℕ, zero, suc, ◌<◌, ◌≤◌, false, ◌==◌, List, [], ◌∷◌, ◌++◌, length, Some, None, refl, ◌∙◌, ap, arith, append_assoc}
use Rattle.cov_types.specs.declared.place.Place.{Place}
use Rattle.vlog_tokens.specs.declared.token.TokenKind.{TokenKind}
use Rattle.vlog_tokens.specs.declared.token.TokenKind.TheVariants as k
use Rattle.vlog_tree.specs.declared.expression.Expr.{Expr}
use Rattle.vlog_grammar.specs.Tokens.{Tokens, at, infix_of}
use Rattle.vlog_grammar.specs.Parts.{AreSeparated, last, more}
use Rattle.vlog_grammar.specs.Expressions.{IsExpr, AreExprs, IsPart, name, position, slice, twice, IsTarget, target_part, target_join, AreTargets}
use Rattle.vlog_grammar.specs.Expressions.{last_target, more_targets}
use Rattle.vlog_grammar.specs.Expressions as grammar
use Rattle.vlog_grammar.specs.Statements.{IsForHead, for_head}
use Rattle.vlog_reading.specs.Marks.{mark}
use Rattle.vlog_reading.specs.Reading.{Parser, sees}
use Rattle.vlog_reading.specs.ReadExpressions.{expr, expression}
use Rattle.vlog_reading.specs.ReadParts as parts
use Rattle.vlog_reading.specs.ReadStatements as read
use Rattle.vlog_laws.proofs.Basics.{Ends, ends_at, sees_other, goes, goes_mark, eat_yes, eat_no}
use Rattle.vlog_laws.proofs.Shorter.{shorter_expr}
use Rattle.vlog_laws.proofs.ShorterStatements.{shorter_target, shorter_targets}
use Rattle.vlog_laws.proofs.Complete.{expr_complete, expression_complete, part_complete}

-- an item is read before a comma, and before what stands after the whole list
pub separated_complete : {A : Type 0} (R : Tokens → A → Tokens → Type 0) (item : Parser A) (us : Tokens) → sees k.Comma us ≡ false
    → ((ts : Tokens) (a : A) → R ts a us → item ts ≡ Some (a, us))
    → ((ts vs : Tokens) (p : Place) (a : A) → R ts a (at p k.Comma ∷ vs) → item ts ≡ Some (a, at p k.Comma ∷ vs))
    → ((ts vs : Tokens) (a : A) → R ts a vs → length vs < length ts)
    → (t : ℕ) (found all : List A) (ts : Tokens) → AreSeparated R ts all us → length ts ≤ t
    → parts.separated_from item t found ts ≡ Some (found ++ all, us)
unfolding parts.separated_from
separated_complete R item us none at_end at_comma shorter zero found all ts (last {a = a} one) turns = absurd (omega (arith, shorter ts us a one))
separated_complete R item us none at_end at_comma shorter zero found all ts (more {us = vs} {p = p} {a = a} one rest) turns =
    absurd (omega (arith, shorter ts (at p k.Comma ∷ vs) a one))
separated_complete R item us none at_end at_comma shorter (suc t) found all ts (last {a = a} one) turns =
    goes _ (at_end ts a one) (eat_no k.Comma us _ _ none refl)
separated_complete R item us none at_end at_comma shorter (suc t) found all ts (more {us = vs} {p = p} {a = a} {all = others} one rest) turns =
    goes _ (at_comma ts vs p a one) (eat_yes k.Comma p vs _ _
    (separated_complete R item us none at_end at_comma shorter t (found ++ a ∷ []) others vs rest (omega (arith, shorter ts (at p k.Comma ∷ vs) a one))
    ∙ ap (λ x. Some (x, us)) (append_assoc found (a ∷ []) others)))

pub all_complete : {A : Type 0} (R : Tokens → A → Tokens → Type 0) (item : Parser A) (us : Tokens) → sees k.Comma us ≡ false
    → ((ts : Tokens) (a : A) → R ts a us → item ts ≡ Some (a, us))
    → ((ts vs : Tokens) (p : Place) (a : A) → R ts a (at p k.Comma ∷ vs) → item ts ≡ Some (a, at p k.Comma ∷ vs))
    → ((ts vs : Tokens) (a : A) → R ts a vs → length vs < length ts)
    → (all : List A) (ts : Tokens) → AreSeparated R ts all us → parts.separated item ts ≡ Some (all, us)
unfolding parts.separated
all_complete R item us none at_end at_comma shorter all ts list =
    separated_complete R item us none at_end at_comma shorter (length ts) [] all ts list (omega arith)

as_separated : {ts us : Tokens} {all : List Expr} → AreExprs ts all us → AreSeparated IsExpr ts all us
as_separated (grammar.last one) = last one
as_separated (grammar.more one rest) = more one (as_separated rest)

pub exprs_complete : (ts us : Tokens) (all : List Expr) → AreExprs ts all us → Ends us → sees k.Comma us ≡ false
    → parts.separated expression ts ≡ Some (all, us)
exprs_complete ts us all list ends none =
    all_complete IsExpr expression us none (λ ts a one. expression_complete ts us a one ends)
    (λ ts vs p a one. expression_complete ts (at p k.Comma ∷ vs) a one (ends_at k.Comma p vs refl refl)) (λ ts vs a one. shorter_expr one) all ts
    (as_separated list)

pub name_complete : (p : Place) (s : List ℕ) (us : Tokens) → parts.name_token (at p (k.Name s) ∷ us) ≡ Some (s, us)
unfolding parts.name_token
name_complete p s us = refl

pub until_complete : (close : TokenKind) (p : Place) (ts us : Tokens) (a : Expr) → infix_of close ≡ None → (mark close == mark k.Question) ≡ false
    → IsExpr ts a (at p close ∷ us) → parts.expression_before close ts ≡ Some (a, us)
unfolding parts.expression_before
until_complete close p ts us a none other tree =
    goes _ (expression_complete ts (at p close ∷ us) a tree (ends_at close p us none other)) (goes_mark close p us _ refl)

bound_name_complete : (close : TokenKind) (p q r : Place) (s : List ℕ) (a : Expr) (ts us : Tokens) → infix_of close ≡ None
    → (mark close == mark k.Question) ≡ false
    → IsExpr ts a (at r close ∷ us) → parts.bound_name close (at p (k.Name s) ∷ at q k.EqualSign ∷ ts) ≡ Some ((s, a), us)
unfolding parts.bound_name
bound_name_complete close p q r s a ts us none other tree =
    goes _ (name_complete p s (at q k.EqualSign ∷ ts)) (goes_mark k.EqualSign q ts _ (goes _ (until_complete close r ts us a none other tree) refl))

pub test_complete : (q r : Place) (ts us : Tokens) (a : Expr) → IsExpr ts a (at r k.CloseParen ∷ us) → parts.condition (at q k.OpenParen ∷ ts) ≡ Some (a, us)
unfolding parts.condition
test_complete q r ts us a tree = goes_mark k.OpenParen q ts _ (until_complete k.CloseParen r ts us a refl refl tree)

part_of_complete : (p : Place) (s : List ℕ) (ts us : Tokens) (a : Expr) → IsPart (at p (k.Name s) ∷ ts) a us → parts.part_of s ts ≡ Some (a, us)
unfolding parts.part_of
part_of_complete p s ts us a tree =
    let c = expr_complete (length ts) in
    part_complete (expr (length ts)) (length ts) c.whole c.some_level c.unary p s ts us a tree (omega arith)

module _ (target : Parser Expr) (d : ℕ) (whole : (ts us : Tokens) (a : Expr) → length ts ≤ d → IsTarget ts a us → target ts ≡ Some (a, us)) where
  targets_complete : (t : ℕ) (found all : List Expr) (ts us : Tokens) → AreTargets ts all us → sees k.Comma us ≡ false → length ts ≤ t → length ts ≤ d
      → read.targets_from target t found ts ≡ Some (found ++ all, us)
  unfolding read.targets_from
  targets_complete zero found all ts us list none turns deep = absurd (omega (arith, shorter_targets list))
  targets_complete (suc t) found all ts us (last_target {a = a} one) none turns deep = goes _ (whole ts us a deep one) (eat_no k.Comma us _ _ none refl)
  targets_complete (suc t) found all ts us (more_targets {us = vs} {p = p} {a = a} {all = rest} one list) none turns deep =
      goes _ (whole ts (at p k.Comma ∷ vs) a deep one) (eat_yes k.Comma p vs _ _
      (targets_complete t (found ++ a ∷ []) rest vs us list none (omega (arith, shorter_target one)) (omega (arith, shorter_target one))
      ∙ ap (λ x. Some (x, us)) (append_assoc found (a ∷ []) rest)))

  target_layer_complete : (ts us : Tokens) (a : Expr) → length ts ≤ suc d → IsTarget ts a us → read.target_layer target ts ≡ Some (a, us)
  unfolding read.target_layer read.targets
  target_layer_complete ts us a deep (target_part (name {p = p} {s = s} none)) = part_of_complete p s us us a (name none)
  target_layer_complete ts us a deep (target_part (position {us = vs} {p = p} {q = q} {s = s} one none)) = part_of_complete p s (at q k.OpenBracket ∷ vs) us a
      (position one none)
  target_layer_complete ts us a deep (target_part (slice {us = vs} {p = p} {q = q} {s = s} tree)) = part_of_complete p s (at q k.OpenBracket ∷ vs) us a
      (slice tree)
  target_layer_complete ts us a deep (target_part (twice {us = vs} {p = p} {q = q} {s = s} one tree)) = part_of_complete p s (at q k.OpenBracket ∷ vs) us a
      (twice one tree)
  target_layer_complete ts us a deep (target_join {us = vs} {q = q} {all = all} list) =
      goes _ (targets_complete (length vs) [] all vs (at q k.CloseBrace ∷ us) list (sees_other k.Comma k.CloseBrace q us refl) (omega arith) (omega arith))
      (goes_mark k.CloseBrace q us _ refl)

target_complete : (d : ℕ) (ts us : Tokens) (a : Expr) → length ts ≤ d → IsTarget ts a us → read.target d ts ≡ Some (a, us)
unfolding read.target
target_complete zero ts us a deep tree = absurd (omega (arith, shorter_target tree))
target_complete (suc d) ts us a deep tree = target_layer_complete (read.target d) d (λ vs ws b h t. target_complete d vs ws b h t) ts us a deep tree

pub whole_target_complete : (ts us : Tokens) (a : Expr) → IsTarget ts a us → read.whole_target ts ≡ Some (a, us)
unfolding read.whole_target
whole_target_complete ts us a tree = target_complete (length ts) ts us a (omega arith) tree

pub for_head_complete : (ts us : Tokens) (name step_name : List ℕ) (from test step : Expr) → IsForHead ts name from test step_name step us
    → read.for_head ts ≡ Some (record { name = name; from = from; test = test; step_name = step_name; step = step }, us)
unfolding read.for_head
for_head_complete ts us called step_name from test step
    (for_head {us = vs} {vs = ws} {ws = xs} {p1 = p1} {p2 = p2} {p3 = p3} {p4 = p4} {p5 = p5} {p6 = p6} {p7 = p7} {p8 = p8} one two three) =
    goes_mark k.OpenParen p1 _ _ (goes _ (bound_name_complete k.Semicolon p2 p3 p4 called from vs ws refl refl one)
    (goes _ (until_complete k.Semicolon p5 ws (at p6 (k.Name step_name) ∷ at p7 k.EqualSign ∷ xs) test refl refl two)
    (goes _ (bound_name_complete k.CloseParen p6 p7 p8 step_name step xs us refl refl three) refl)))
