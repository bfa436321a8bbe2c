-- What is read as a list, a name, a target or the head of a loop is spelled so.
use Rattle.std.proofs.Common.{◌≡◌, ℕ, zero, suc, List, [], ◌∷◌, ◌++◌, length, Some, refl, sym, ◌∙◌, ap, subst, inl, inr, append_assoc}
use Rattle.cov_types.specs.declared.place.Place.{Place}
use Rattle.vlog_tokens.specs.declared.token.TokenKind.{TokenKind}
use Rattle.vlog_tokens.specs.declared.token.TokenKind.TheVariants as k
use Rattle.vlog_tree.specs.declared.expression.Expr.{Expr}
use Rattle.vlog_grammar.specs.Tokens.{Tokens, at}
use Rattle.vlog_grammar.specs.Parts.{AreSeparated, last, more}
use Rattle.vlog_grammar.specs.Expressions.{IsExpr, AreExprs, IsPart, IsTarget, target_part, target_join, AreTargets, last_target, more_targets}
use Rattle.vlog_grammar.specs.Expressions as grammar
use Rattle.vlog_grammar.specs.Statements.{IsForHead, for_head}
use Rattle.vlog_reading.specs.declared.for_head.ForHead.{ForHead}
use Rattle.vlog_reading.specs.Marks.{mark}
use Rattle.vlog_reading.specs.Reading.{Parser}
use Rattle.vlog_reading.specs.ReadExpressions.{expr, expression}
use Rattle.vlog_reading.specs.ReadParts as parts
use Rattle.vlog_reading.specs.ReadStatements as read
use Rattle.vlog_laws.proofs.Basics.{nothing, both, and_then_some, of_mark, expects, eats, onto, same}
use Rattle.vlog_laws.proofs.Sound.{expr_sound, expression_sound, named_sound}

pub separated_sound : {A : Type 0} (R : Tokens → A → Tokens → Type 0) (item : Parser A)
    → ((ts us : Tokens) (a : A) → item ts ≡ Some (a, us) → R ts a us)
    → (t : ℕ) (found : List A) (ts us : Tokens) (all : List A) → parts.separated_from item t found ts ≡ Some (all, us)
    → (new : List A) × (all ≡ found ++ new) × AreSeparated R ts new us
unfolding parts.separated_from
separated_sound R item each zero found ts us all h = nothing (all, us) h
separated_sound R item each (suc t) found ts us all h =
    let first = and_then_some (item ts) _ (all, us) h in
    let one = each ts first.1 first.0 first.2 in
    elim (eats k.Comma _ _ first.1 (all, us) refl first.3) [
      | inl some ↦
          let rest = separated_sound R item each t (found ++ first.0 ∷ []) some.1 us all some.3 in
          (first.0 ∷ rest.0, rest.1 ∙ append_assoc found (first.0 ∷ []) rest.0, more (onto R some.2 one) rest.2)
      | inr none ↦
          let ends = both (found ++ first.0 ∷ []) all first.1 us none.1 in
          (first.0 ∷ [], sym ends.0, onto (AreSeparated R) ends.1 (last one))
    ]

pub all_sound : {A : Type 0} (R : Tokens → A → Tokens → Type 0) (item : Parser A)
    → ((ts us : Tokens) (a : A) → item ts ≡ Some (a, us) → R ts a us)
    → (ts us : Tokens) (all : List A) → parts.separated item ts ≡ Some (all, us) → AreSeparated R ts all us
unfolding parts.separated
all_sound R item each ts us all h =
    let found = separated_sound R item each (length ts) [] ts us all h in
    subst (λ x. AreSeparated R ts x us) (sym found.1) found.2

as_exprs : {ts us : Tokens} {all : List Expr} → AreSeparated IsExpr ts all us → AreExprs ts all us
as_exprs (last one) = grammar.last one
as_exprs (more one rest) = grammar.more one (as_exprs rest)

pub exprs_sound : (ts us : Tokens) (all : List Expr) → parts.separated expression ts ≡ Some (all, us) → AreExprs ts all us
exprs_sound ts us all h = as_exprs (all_sound IsExpr expression expression_sound ts us all h)

name_front : (kind : TokenKind) (p : Place) (ts us : Tokens) (s : List ℕ) → parts.name_token_by (Some kind) (at p kind ∷ ts) ≡ Some (s, us)
    → at p kind ∷ ts ≡ at p (k.Name s) ∷ us
name_front (k.Name n) p ts us s h =
    let ends = both n s ts us h in
    ap (λ x. at p (k.Name x) ∷ ts) ends.0 ∙ ap (λ x. at p (k.Name s) ∷ x) ends.1
name_front _ p ts us s h = nothing (s, us) h

pub name_sound : (ts us : Tokens) (s : List ℕ) → parts.name_token ts ≡ Some (s, us) → (p : Place) × (ts ≡ at p (k.Name s) ∷ us)
unfolding parts.name_token
name_sound [] us s h = nothing (s, us) h
name_sound (t ∷ ts) us s h = (t.place, name_front t.what t.place ts us s h)

pub until_sound : (close : TokenKind) (ts us : Tokens) (a : Expr) → of_mark (mark close) ≡ Some close → parts.expression_before close ts ≡ Some (a, us)
    → (p : Place) × IsExpr ts a (at p close ∷ us)
unfolding parts.expression_before
until_sound close ts us a known h =
    let first = and_then_some (expression ts) _ (a, us) h in
    let shut = expects close _ first.1 (a, us) known first.3 in
    (shut.0, same (λ x y z. IsExpr x y (at shut.0 close ∷ z)) shut.3 (onto IsExpr shut.2 (expression_sound ts first.1 first.0 first.2)))

-- a name, `=`, an expression and the mark after it
abbrev pub IsBound : TokenKind → Tokens → List ℕ × Expr → Tokens → Type 0
IsBound close ts b us =
    (p : Place) × (q : Place) × (r : Place) × (vs : Tokens) × (ts ≡ at p (k.Name b.0) ∷ at q k.EqualSign ∷ vs) × IsExpr vs b.1 (at r close ∷ us)

pub bound_name_sound : (close : TokenKind) (ts us : Tokens) (b : List ℕ × Expr) → of_mark (mark close) ≡ Some close → parts.bound_name close ts ≡ Some (b, us)
    → IsBound close ts b us
unfolding parts.bound_name
bound_name_sound close ts us b known h =
    let name = and_then_some (parts.name_token ts) _ (b, us) h in
    let it = name_sound ts name.1 name.0 name.2 in
    let equal = expects k.EqualSign _ name.1 (b, us) refl name.3 in
    let value = and_then_some (parts.expression_before close equal.1) _ (b, us) equal.3 in
    let one = until_sound close equal.1 value.1 value.0 known value.2 in
    same (IsBound close) value.3 (it.0, equal.0, one.0, equal.1, it.1 ∙ ap (λ x. at it.0 (k.Name name.0) ∷ x) equal.2, one.1)

-- an expression in parentheses
pub test_sound : (ts us : Tokens) (a : Expr) → parts.condition ts ≡ Some (a, us)
    → (p q : Place) × (inside : Tokens) × (ts ≡ at p k.OpenParen ∷ inside) × IsExpr inside a (at q k.CloseParen ∷ us)
unfolding parts.condition
test_sound ts us a h =
    let front = expects k.OpenParen _ ts (a, us) refl h in
    let inner = until_sound k.CloseParen front.1 us a refl front.3 in
    (front.0, inner.0, front.1, front.2, inner.1)

pub part_sound : (p : Place) (s : List ℕ) (ts us : Tokens) (a : Expr) → parts.part_of s ts ≡ Some (a, us) → IsPart (at p (k.Name s) ∷ ts) a us
unfolding parts.part_of
part_sound p s ts us a h =
    let x = expr_sound (length ts) in
    named_sound (expr (length ts)) x.whole x.some_level x.unary s p ts us a h

module _ (target : Parser Expr) (whole : (ts us : Tokens) (a : Expr) → target ts ≡ Some (a, us) → IsTarget ts a us) where
  targets_sound : (t : ℕ) (found : List Expr) (ts us : Tokens) (all : List Expr) → read.targets_from target t found ts ≡ Some (all, us)
      → (new : List Expr) × (all ≡ found ++ new) × AreTargets ts new us
  unfolding read.targets_from
  targets_sound zero found ts us all h = nothing (all, us) h
  targets_sound (suc t) found ts us all h =
      let first = and_then_some (target ts) _ (all, us) h in
      let one = whole ts first.1 first.0 first.2 in
      elim (eats k.Comma _ _ first.1 (all, us) refl first.3) [
        | inl some ↦
            let rest = targets_sound t (found ++ first.0 ∷ []) some.1 us all some.3 in
            (first.0 ∷ rest.0, rest.1 ∙ append_assoc found (first.0 ∷ []) rest.0, more_targets (onto IsTarget some.2 one) rest.2)
        | inr none ↦
            let ends = both (found ++ first.0 ∷ []) all first.1 us none.1 in
            (first.0 ∷ [], sym ends.0, onto AreTargets ends.1 (last_target one))
      ]

  join_sound : (p : Place) (ts us : Tokens) (a : Expr) → read.target_by target (Some k.OpenBrace) (at p k.OpenBrace ∷ ts) ≡ Some (a, us)
      → IsTarget (at p k.OpenBrace ∷ ts) a us
  unfolding read.targets
  join_sound p ts us a h =
      let all = and_then_some (read.targets target ts) _ (a, us) h in
      let list = targets_sound (length ts) [] ts all.1 all.0 all.2 in
      let shut = expects k.CloseBrace _ all.1 (a, us) refl all.3 in
      same IsTarget shut.3 (target_join (onto AreTargets shut.2 (subst (λ x. AreTargets ts x all.1) (sym list.1) list.2)))

  target_at : (kind : TokenKind) (p : Place) (ts us : Tokens) (a : Expr) → read.target_by target (Some kind) (at p kind ∷ ts) ≡ Some (a, us)
      → IsTarget (at p kind ∷ ts) a us
  target_at (k.Name s) p ts us a h = target_part (part_sound p s ts us a h)
  target_at k.OpenBrace p ts us a h = join_sound p ts us a h
  target_at _ p ts us a h = nothing (a, us) h

  target_layer_sound : (ts us : Tokens) (a : Expr) → read.target_layer target ts ≡ Some (a, us) → IsTarget ts a us
  unfolding read.target_layer
  target_layer_sound [] us a h = nothing (a, us) h
  target_layer_sound (t ∷ ts) us a h = target_at t.what t.place ts us a h

target_sound : (depth : ℕ) (ts us : Tokens) (a : Expr) → read.target depth ts ≡ Some (a, us) → IsTarget ts a us
unfolding read.target
target_sound zero ts us a h = nothing (a, us) h
target_sound (suc d) ts us a h = target_layer_sound (read.target d) (target_sound d) ts us a h

pub whole_target_sound : (ts us : Tokens) (a : Expr) → read.whole_target ts ≡ Some (a, us) → IsTarget ts a us
unfolding read.whole_target
whole_target_sound ts us a h = target_sound (length ts) ts us a h

pub for_head_sound : (ts us : Tokens) (h : ForHead) → read.for_head ts ≡ Some (h, us) → IsForHead ts h.name h.from h.test h.step_name h.step us
unfolding read.for_head
for_head_sound ts us head h =
    let front = expects k.OpenParen _ ts (head, us) refl h in
    let start = and_then_some (parts.bound_name k.Semicolon front.1) _ (head, us) front.3 in
    let one = bound_name_sound k.Semicolon front.1 start.1 start.0 refl start.2 in
    let goal = and_then_some (parts.expression_before k.Semicolon start.1) _ (head, us) start.3 in
    let two = until_sound k.Semicolon start.1 goal.1 goal.0 refl goal.2 in
    let step = and_then_some (parts.bound_name k.CloseParen goal.1) _ (head, us) goal.3 in
    let three = bound_name_sound k.CloseParen goal.1 step.1 step.0 refl step.2 in
    let begin : ts ≡ at front.0 k.OpenParen ∷ at one.0 (k.Name start.0.0) ∷ at one.1 k.EqualSign ∷ one.3 =
    front.2 ∙ ap (λ x. at front.0 k.OpenParen ∷ x) one.4 in
    let test : IsExpr start.1 goal.0 (at two.0 k.Semicolon ∷ at three.0 (k.Name step.0.0) ∷ at three.1 k.EqualSign ∷ three.3) =
    subst (λ x. IsExpr start.1 goal.0 (at two.0 k.Semicolon ∷ x)) three.4 two.1 in
    let found : IsForHead ts start.0.0 start.0.1 goal.0 step.0.0 step.0.1 step.1 =
    subst (λ x. IsForHead x start.0.0 start.0.1 goal.0 step.0.0 step.0.1 step.1) (sym begin) (for_head one.5 test three.5) in
    same (λ x y z. IsForHead x y.name y.from y.test y.step_name y.step z) step.3 found
