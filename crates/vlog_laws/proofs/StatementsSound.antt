-- What is read as a statement is spelled so.
use Rattle.std.proofs.Common.{◌≡◌, ℕ, zero, suc, Bool, true, false, not, cond, ◌==◌, ◌&&◌, ◌||◌, List, [], ◌∷◌, ◌++◌, length, Option, Some, None, refl, sym}
use Rattle.std.proofs.Common.{◌∙◌, ap, subst, inl, inr, arith, append_assoc, eqb-true}
use Rattle.std.specs.Prelude.{codes}
use Rattle.std.specs.Str.{bytes_eq}
use Rattle.std.proofs.lemmas.Slice.Eq.{bytes_eq-Decides}
use Rattle.cov_types.specs.declared.place.Place.{Place}
use Rattle.vlog_tokens.specs.declared.token.TokenKind.{TokenKind}
use Rattle.vlog_tokens.specs.declared.token.TokenKind.TheVariants as k
use Rattle.vlog_tree.specs.declared.expression.Expr.{Expr}
use Rattle.vlog_tree.specs.declared.expression.Expr.TheVariants as e
use Rattle.vlog_tree.specs.declared.statement.Stmt.{Stmt}
use Rattle.vlog_tree.specs.declared.statement.StmtKind.{StmtKind}
use Rattle.vlog_tree.specs.declared.statement.StmtKind.TheVariants as s
use Rattle.vlog_tree.specs.declared.statement.CaseArm.{CaseArm}
use Rattle.vlog_tree.specs.Trees.{stmt, case_arm}
use Rattle.vlog_grammar.specs.Tokens.{Tokens, at}
use Rattle.vlog_grammar.specs.Parts.{AreSeparated}
use Rattle.vlog_grammar.specs.Expressions.{IsExpr, AreExprs, IsTarget}
use Rattle.vlog_grammar.specs.Statements.{IsCaseItem, plain_item, free_item, IsShown, no_parentheses, no_text, text_alone, text_and_values, IsEnding}
use Rattle.vlog_grammar.specs.Statements.{no_number, with_number, IsBlockName, named, unnamed, IsStmt, empty, block, if_alone, if_else, case, casez, for, set}
use Rattle.vlog_grammar.specs.Statements.{later, show, finish, stop, AreStmts, no_stmts, more_stmts, AreArms, last_arm, more_arms, last_default}
use Rattle.vlog_grammar.specs.Statements.{more_after_default, IsArm, listed, IsDefault, default_colon, default_plain, SpellsStmt}
use Rattle.vlog_reading.specs.Marks.{mark}
use Rattle.vlog_reading.specs.Reading.{Parser, sees, after, expect, rest_of, first_place}
use Rattle.vlog_reading.specs.ReadExpressions.{expression}
use Rattle.vlog_reading.specs.ReadParts as parts
use Rattle.vlog_reading.specs.ReadStatements as read
use Rattle.vlog_laws.proofs.Basics.{nothing, both, and_then_some, if_parser, if_some, bool_cases, of_mark, sees_it, after_it, after_none, expects, eats}
use Rattle.vlog_laws.proofs.Basics.{unseen, before, onto, same}
use Rattle.vlog_laws.proofs.Sound.{expression_sound, whole_some}
use Rattle.vlog_laws.proofs.PartsSound.{all_sound, exprs_sound, name_sound, until_sound, test_sound, whole_target_sound, for_head_sound}
use Rattle.vlog_laws.proofs.ShorterStatements.{shorter_target, shorter_items}

flips : (b : Bool) → not b ≡ true → b ≡ false
flips true h = absurd cc
flips false h = refl

not_zero : (wild : Bool) (free : ℕ) → (wild && not (free == 0)) ≡ true → (wild ≡ true) × ((free == 0) ≡ false)
not_zero true free h = (refl, flips (free == 0) h)
not_zero false free h = absurd cc

item_front : (wild : Bool) (kind : TokenKind) (p : Place) (ts us : Tokens) (a : Expr) → read.case_item_by wild (Some kind) (at p kind ∷ ts) ≡ Some (a, us)
    → IsCaseItem wild (at p kind ∷ ts) a us
item_front wild (k.Number width signed value free) p ts us a h =
    elim (if_parser (wild && not (free == 0)) _ _ (at p (k.Number width signed value free) ∷ ts) (Some (a, us)) h) [
      | inl bits ↦
          let known = not_zero wild free bits.0 in
          same (IsCaseItem wild) bits.1 (subst (λ w. IsCaseItem w (at p (k.Number width signed value free) ∷ ts) (e.Number width signed value free) ts)
          (sym known.0) (free_item known.1))
      | inr none ↦ plain_item (expression_sound _ us a none.1)
    ]
item_front wild _ p ts us a h = plain_item (expression_sound _ us a h)

item_sound : (wild : Bool) (ts us : Tokens) (a : Expr) → read.case_item wild ts ≡ Some (a, us) → IsCaseItem wild ts a us
unfolding read.case_item
item_sound wild [] us a h = plain_item (expression_sound [] us a h)
item_sound wild (t ∷ ts) us a h = item_front wild t.what t.place ts us a h

text_front : (kind : TokenKind) (p : Place) (ts us : Tokens) (s : List ℕ) → read.text_token_by (Some kind) (at p kind ∷ ts) ≡ Some (s, us)
    → at p kind ∷ ts ≡ at p (k.Text s) ∷ us
text_front (k.Text n) p ts us s h =
    let ends = both n s ts us h in
    ap (λ x. at p (k.Text x) ∷ ts) ends.0 ∙ ap (λ x. at p (k.Text s) ∷ x) ends.1
text_front _ p ts us s h = nothing (s, us) h

text_sound : (ts us : Tokens) (s : List ℕ) → read.text_token ts ≡ Some (s, us) → (p : Place) × (ts ≡ at p (k.Text s) ∷ us)
unfolding read.text_token
text_sound [] us s h = nothing (s, us) h
text_sound (t ∷ ts) us s h = (t.place, text_front t.what t.place ts us s h)

abbrev Shown : Type 0
Shown = Option (List ℕ) × List Expr

abbrev Shows : Tokens → Shown → Tokens → Type 0
Shows ts found us = IsShown ts found.0 found.1 us

shown_text_sound : (p : Place) (ts us : Tokens) (found : Shown) → read.text_and_values ts ≡ Some (found, us) → Shows (at p k.OpenParen ∷ ts) found us
unfolding read.text_and_values
shown_text_sound p ts us found h =
    let text = and_then_some (read.text_token ts) _ (found, us) h in
    let it = text_sound ts text.1 text.0 text.2 in
    let values = and_then_some (cond (sees k.Comma text.1) (parts.separated expression) (λ x. Some ([], x)) (after k.Comma text.1)) _ (found, us) text.3 in
    let shut = expects k.CloseParen _ values.1 (found, us) refl values.3 in
    before Shows (ap (λ x. at p k.OpenParen ∷ x) (sym it.1)) (same Shows shut.3
    (elim (eats k.Comma _ _ text.1 (values.0, values.1) refl values.2) [
      | inl comma ↦
          before Shows (ap (λ x. at p k.OpenParen ∷ at it.0 (k.Text text.0) ∷ x) (sym comma.2))
          (text_and_values (onto AreExprs shut.2 (exprs_sound comma.1 values.1 values.0 comma.3)))
      | inr none ↦
          let ends = both [] values.0 text.1 values.1 none.1 in
          before Shows (ap (λ x. at p k.OpenParen ∷ at it.0 (k.Text text.0) ∷ x) (sym (ends.1 ∙ shut.2)))
          (subst (λ x. IsShown (at p k.OpenParen ∷ at it.0 (k.Text text.0) ∷ at shut.0 k.CloseParen ∷ shut.1) (Some text.0) x shut.1) ends.0 text_alone)
    ]))

shown_sound : (ts us : Tokens) (found : Shown) → read.display_arguments ts ≡ Some (found, us) → Shows ts found us
unfolding read.display_arguments
shown_sound ts us found h =
    elim (eats k.OpenParen _ _ ts (found, us) refl h) [
      | inl open1 ↦
          before Shows (sym open1.2) (elim (eats k.CloseParen _ _ open1.1 (found, us) refl open1.3) [
            | inl shut ↦ before Shows (ap (λ x. at open1.0 k.OpenParen ∷ x) (sym shut.2)) (same Shows shut.3 no_text)
            | inr some ↦ shown_text_sound open1.0 open1.1 us found some.1
          ])
      | inr none ↦ same Shows none.1 (no_parentheses (unseen k.OpenParen ts none.0))
    ]

number_front : (kind : TokenKind) (p q r : Place) (ts us : Tokens) (u : Unit {0})
    → read.number_token_by (Some kind) (at p kind ∷ ts) ≡ Some (u, at q k.CloseParen ∷ us)
    → IsEnding (at r k.OpenParen ∷ at p kind ∷ ts) us
number_front (k.Number width signed value free) p q r ts us u h =
    elim (if_parser (free == 0) _ _ (at p (k.Number width signed value free) ∷ ts) (Some (u, at q k.CloseParen ∷ us)) h) [
      | inl zero1 ↦
          let ends = both tt u ts (at q k.CloseParen ∷ us) zero1.1 in
          subst (λ f. IsEnding (at r k.OpenParen ∷ at p (k.Number width signed value f) ∷ ts) us) (sym (eqb-true free 0 zero1.0))
          (subst (λ x. IsEnding (at r k.OpenParen ∷ at p (k.Number width signed value 0) ∷ x) us) (sym ends.1) with_number)
      | inr bits ↦ nothing (u, at q k.CloseParen ∷ us) bits.1
    ]
number_front _ p q r ts us u h = nothing (u, at q k.CloseParen ∷ us) h

number_sound : (q r : Place) (ts us : Tokens) (u : Unit {0}) → read.number_token ts ≡ Some (u, at q k.CloseParen ∷ us) → IsEnding (at r k.OpenParen ∷ ts) us
unfolding read.number_token
number_sound q r [] us u h = nothing (u, at q k.CloseParen ∷ us) h
number_sound q r (t ∷ ts) us u h = number_front t.what t.place q r ts us u h

expect_it : (kind : TokenKind) (ts us : Tokens) (u : Unit {0}) → of_mark (mark kind) ≡ Some kind → expect kind ts ≡ Some (u, us)
    → (p : Place) × (ts ≡ at p kind ∷ us)
unfolding expect
expect_it kind ts us u known h =
    elim (if_some (sees kind ts) _ _ _ h) [
      | inl some ↦
          let it = sees_it kind ts known some.0 in
          let ends = both tt u (rest_of ts) us some.1 in
          (it.0, it.1 ∙ ap (λ x. at it.0 kind ∷ x) ends.1)
      | inr none ↦ nothing (u, us) none.1
    ]

ending_sound : (ts us : Tokens) (u : Unit {0}) → read.stop_number ts ≡ Some (u, us) → IsEnding ts us
unfolding read.stop_number
ending_sound ts us u h =
    elim (eats k.OpenParen _ _ ts (u, us) refl h) [
      | inl open1 ↦
          let number = and_then_some (read.number_token open1.1) _ (u, us) open1.3 in
          let shut : (p : Place) × (number.1 ≡ at p k.CloseParen ∷ us) = expect_it k.CloseParen number.1 us u refl number.3 in
          subst (λ x. IsEnding x us) (sym open1.2)
          (number_sound shut.0 open1.0 open1.1 us number.0 (number.2 ∙ ap (λ x. Some (number.0, x)) shut.1))
      | inr none ↦
          let ends = both tt u ts us none.1 in
          subst (λ x. IsEnding ts x) ends.1 (no_number (unseen k.OpenParen ts none.0))
    ]

block_name_sound : (ts us : Tokens) (u : Unit {0}) → read.block_name ts ≡ Some (u, us) → IsBlockName ts us
unfolding read.block_name
block_name_sound ts us u h =
    elim (eats k.Colon _ _ ts (u, us) refl h) [
      | inl colon ↦
          let name = and_then_some (parts.name_token colon.1) _ (u, us) colon.3 in
          let it = name_sound colon.1 name.1 name.0 name.2 in
          let ends = both tt u name.1 us name.3 in
          subst (λ x. IsBlockName x us) (sym (colon.2 ∙ ap (λ x. at colon.0 k.Colon ∷ x) (it.1 ∙ ap (λ x. at it.0 (k.Name name.0) ∷ x) ends.1))) named
      | inr none ↦
          let ends = both tt u ts us none.1 in
          subst (λ x. IsBlockName ts x) ends.1 (unnamed (unseen k.Colon ts none.0))
    ]

abbrev KindAt : Place → Tokens → StmtKind → Tokens → Type 0
KindAt p ts what us = IsStmt ts (stmt p what) us

show_sound : (p : Place) (name : List ℕ) (ts us : Tokens) (what : StmtKind) → name ≡ codes "$display" → read.display ts ≡ Some (what, us)
    → KindAt p (at p (k.System name) ∷ ts) what us
unfolding read.display
show_sound p name ts us what known h =
    let found = and_then_some (read.display_arguments ts) _ (what, us) h in
    let shut = expects k.Semicolon _ found.1 (what, us) refl found.3 in
    same (KindAt p) shut.3 (show known (onto Shows shut.2 (shown_sound ts found.1 found.0 found.2)))

ended_sound : (ts us : Tokens) (what found : StmtKind) → read.stopping what ts ≡ Some (found, us)
    → (q : Place) × IsEnding ts (at q k.Semicolon ∷ us) × (what ≡ found)
unfolding read.stopping read.stop_number_and_semicolon
ended_sound ts us what found h =
    let outer = and_then_some (read.stop_number_and_semicolon ts) _ (found, us) h in
    let end = and_then_some (read.stop_number ts) _ (outer.0, outer.1) outer.2 in
    let shut = expect_it k.Semicolon end.1 outer.1 outer.0 refl end.3 in
    let ends = both what found outer.1 us outer.3 in
    (shut.0, subst (λ x. IsEnding ts x) (shut.1 ∙ ap (λ x. at shut.0 k.Semicolon ∷ x) ends.1) (ending_sound ts end.1 end.0 end.2), ends.0)

system_sound : (p : Place) (name : List ℕ) (ts us : Tokens) (what : StmtKind) → read.system_task name ts ≡ Some (what, us)
    → KindAt p (at p (k.System name) ∷ ts) what us
unfolding read.system_task
system_sound p name ts us what h =
    elim (if_parser (bytes_eq name (codes "$display")) _ _ ts (Some (what, us)) h) [
      | inl one ↦ show_sound p name ts us what ((bytes_eq-Decides name (codes "$display")).0 one.0) one.1
      | inr other ↦
          elim (if_parser (bytes_eq name (codes "$finish")) _ _ ts (Some (what, us)) other.1) [
            | inl two ↦
                let end = ended_sound ts us s.Finish what two.1 in
                subst (λ w. KindAt p (at p (k.System name) ∷ ts) w us) end.2 (finish ((bytes_eq-Decides name (codes "$finish")).0 two.0) end.1)
            | inr others ↦
                elim (if_parser (bytes_eq name (codes "$stop")) _ _ ts (Some (what, us)) others.1) [
                  | inl three ↦
                      let end = ended_sound ts us s.Stop what three.1 in
                      subst (λ w. KindAt p (at p (k.System name) ∷ ts) w us) end.2 (stop ((bytes_eq-Decides name (codes "$stop")).0 three.0) end.1)
                  | inr none ↦ nothing (what, us) none.1
                ]
          ]
    ]

set_at : (ts vs ws us : Tokens) (q r : Place) (target value : Expr) → IsTarget ts target (at q k.EqualSign ∷ vs)
    → IsExpr vs value (at r k.Semicolon ∷ us) → KindAt (first_place ts) ts (s.Set target value) us
set_at [] vs ws us q r target value one two = absurd (omega (arith, shorter_target one))
set_at (t ∷ ts) vs ws us q r target value one two = set one two

later_at : (ts vs ws us : Tokens) (q r : Place) (target value : Expr) → IsTarget ts target (at q k.LessOrEqual ∷ vs)
    → IsExpr vs value (at r k.Semicolon ∷ us) → KindAt (first_place ts) ts (s.Later target value) us
later_at [] vs ws us q r target value one two = absurd (omega (arith, shorter_target one))
later_at (t ∷ ts) vs ws us q r target value one two = later one two

assignment_sound : (ts us : Tokens) (what : StmtKind) → read.assignment ts ≡ Some (what, us) → KindAt (first_place ts) ts what us
unfolding read.assignment read.blocking
assignment_sound ts us what h =
    let target = and_then_some (read.whole_target ts) _ (what, us) h in
    let one = whole_target_sound ts target.1 target.0 target.2 in
    elim (eats k.LessOrEqual _ _ target.1 (what, us) refl target.3) [
      | inl less ↦
          let value = and_then_some (parts.expression_before k.Semicolon less.1) _ (what, us) less.3 in
          let two = until_sound k.Semicolon less.1 value.1 value.0 refl value.2 in
          same (KindAt (first_place ts)) value.3 (later_at ts less.1 us value.1 less.0 two.0 target.0 value.0 (onto IsTarget less.2 one) two.1)
      | inr none ↦
          let equal = expects k.EqualSign _ target.1 (what, us) refl none.1 in
          let value = and_then_some (parts.expression_before k.Semicolon equal.1) _ (what, us) equal.3 in
          let two = until_sound k.Semicolon equal.1 value.1 value.0 refl value.2 in
          same (KindAt (first_place ts)) value.3 (set_at ts equal.1 us value.1 equal.0 two.0 target.0 value.0 (onto IsTarget equal.2 one) two.1)
    ]

pub append_nil : {A : Type 0} (xs : List A) → xs ++ [] ≡ xs
append_nil [] = refl
append_nil (x ∷ xs) = ap (λ ys. x ∷ ys) (append_nil xs)

-- an arm, which is a default or not
abbrev Arm : Bool → Bool → Tokens → CaseArm → Tokens → Type 0
Arm wild true ts a us = IsDefault ts a us
Arm wild false ts a us = IsArm wild ts a us

the_last : (wild default seen : Bool) (ts us : Tokens) (a : CaseArm) → (default && seen) ≡ false → Arm wild default ts a us → AreArms wild seen ts (a ∷ []) us
the_last wild true true ts us a h one = absurd cc
the_last wild true false ts us a h one = last_default one
the_last wild false seen ts us a h one = last_arm one

one_more : (wild default seen : Bool) (ts vs us : Tokens) (a : CaseArm) (all : List CaseArm) → (default && seen) ≡ false → Arm wild default ts a vs
    → AreArms wild (default || seen) vs all us → AreArms wild seen ts (a ∷ all) us
one_more wild true true ts vs us a all h one rest = absurd cc
one_more wild true false ts vs us a all h one rest = more_after_default one rest
one_more wild false seen ts vs us a all h one rest = more_arms one rest

module _ (statement : Parser Stmt) (each : (ts us : Tokens) (a : Stmt) → statement ts ≡ Some (a, us) → IsStmt ts a us) where
  body_sound : (t : ℕ) (found : List Stmt) (ts us : Tokens) (all : List Stmt) → read.body_from statement t found ts ≡ Some (all, us)
      → (new : List Stmt) × (all ≡ found ++ new) × AreStmts ts new us
  unfolding read.body_from
  body_sound zero found ts us all h = nothing (all, us) h
  body_sound (suc t) found ts us all h =
      elim (if_some (sees k.End ts) _ _ _ h) [
        | inl halt ↦
            let ends = both found all ts us halt.1 in
            ([], sym ends.0 ∙ sym (append_nil found), onto AreStmts ends.1 no_stmts)
        | inr go ↦
            let first = and_then_some (statement ts) _ (all, us) go.1 in
            let rest = body_sound t (found ++ first.0 ∷ []) first.1 us all first.3 in
            (first.0 ∷ rest.0, rest.1 ∙ append_assoc found (first.0 ∷ []) rest.0, more_stmts (each ts first.1 first.0 first.2) rest.2)
      ]

  block_sound : (p : Place) (ts us : Tokens) (what : StmtKind) → read.block statement ts ≡ Some (what, us) → KindAt p (at p k.Begin ∷ ts) what us
  unfolding read.block read.body
  block_sound p ts us what h =
      let name = and_then_some (read.block_name ts) _ (what, us) h in
      let body = and_then_some (read.body statement name.1) _ (what, us) name.3 in
      let list = body_sound (length name.1) [] name.1 body.1 body.0 body.2 in
      let shut = expects k.End _ body.1 (what, us) refl body.3 in
      let place : first_place body.1 ≡ shut.0 = ap first_place shut.2 in
      same (KindAt p) (ap (λ q. Some (s.Block body.0 q, shut.1)) (sym place) ∙ shut.3)
      (block (block_name_sound ts name.1 name.0 name.2) (onto AreStmts shut.2 (subst (λ x. AreStmts name.1 x body.1) (sym list.1) list.2)))

  choice_sound : (p : Place) (ts us : Tokens) (what : StmtKind) → read.if_statement statement ts ≡ Some (what, us) → KindAt p (at p k.If ∷ ts) what us
  unfolding read.if_statement read.else_part
  choice_sound p ts us what h =
      let on = and_then_some (parts.condition ts) _ (what, us) h in
      let it = test_sound ts on.1 on.0 on.2 in
      let first = and_then_some (statement on.1) _ (what, us) on.3 in
      let one = each on.1 first.1 first.0 first.2 in
      let second = and_then_some (read.else_part statement first.1) _ (what, us) first.3 in
      before (KindAt p) (ap (λ x. at p k.If ∷ x) (sym it.3)) (same (KindAt p) second.3
      (elim (eats k.Else _ _ first.1 (second.0, second.1) refl second.2) [
        | inl more ↦
            let last = and_then_some (statement more.1) _ (second.0, second.1) more.3 in
            let ends = both (Some last.0) second.0 last.1 second.1 last.3 in
            subst (λ x. KindAt p (at p k.If ∷ at it.0 k.OpenParen ∷ it.2) (s.If on.0 first.0 x) second.1) ends.0
            (if_else it.4 (onto IsStmt more.2 one) (onto IsStmt ends.1 (each more.1 last.1 last.0 last.2)))
        | inr none ↦
            let ends = both None second.0 first.1 second.1 none.1 in
            subst (λ x. KindAt p (at p k.If ∷ at it.0 k.OpenParen ∷ it.2) (s.If on.0 first.0 x) second.1) ends.0
            (if_alone it.4 (onto IsStmt ends.1 one) (unseen k.Else second.1 (ap (sees k.Else) (sym ends.1) ∙ none.0)))
      ]))

  loop_sound : (p : Place) (ts us : Tokens) (what : StmtKind) → read.for_statement statement ts ≡ Some (what, us) → KindAt p (at p k.For ∷ ts) what us
  unfolding read.for_statement
  loop_sound p ts us what h =
      let head = and_then_some (read.for_head ts) _ (what, us) h in
      let inner = and_then_some (statement head.1) _ (what, us) head.3 in
      same (KindAt p) inner.3 (for (for_head_sound ts head.1 head.0 head.2) (each head.1 inner.1 inner.0 inner.2))

  listed_at : (wild : Bool) (ts vs us : Tokens) (q : Place) (items : List Expr) (body : Stmt) → AreSeparated (IsCaseItem wild) ts items (at q k.Colon ∷ vs)
      → IsStmt vs body us → IsArm wild ts (case_arm (first_place ts) items body) us
  listed_at wild [] vs us q items body list tree = absurd (omega (arith, shorter_items list))
  listed_at wild (t ∷ ts) vs us q items body list tree = listed list tree

  listed_sound : (wild : Bool) (ts us : Tokens) (a : CaseArm) → read.listed_arm statement wild ts ≡ Some (a, us) → IsArm wild ts a us
  unfolding read.listed_arm
  listed_sound wild ts us a h =
      let items = and_then_some (parts.separated (read.case_item wild) ts) _ (a, us) h in
      let colon = expects k.Colon _ items.1 (a, us) refl items.3 in
      let inner = and_then_some (statement colon.1) _ (a, us) colon.3 in
      same (IsArm wild) inner.3 (listed_at wild ts colon.1 inner.1 colon.0 items.0 inner.0
      (onto (AreSeparated (IsCaseItem wild)) colon.2 (all_sound (IsCaseItem wild) (read.case_item wild) (item_sound wild) ts items.1 items.0 items.2))
      (each colon.1 inner.1 inner.0 inner.2))

  default_sound : (ts us : Tokens) (a : CaseArm) → read.default_arm statement ts ≡ Some (a, us) → IsDefault ts a us
  unfolding read.default_arm
  default_sound ts us a h =
      let word = expects k.Default _ ts (a, us) refl h in
      let place : first_place ts ≡ word.0 = ap first_place word.2 in
      let inner = and_then_some (statement (after k.Colon word.1)) _ (a, us) word.3 in
      let tree = each (after k.Colon word.1) inner.1 inner.0 inner.2 in
      same IsDefault (ap (λ q. Some (case_arm q [] inner.0, inner.1)) (sym place) ∙ inner.3)
      (before IsDefault (sym word.2) (elim (bool_cases (sees k.Colon word.1)) [
        | inl some ↦
            let it = sees_it k.Colon word.1 refl some in
            before IsDefault (ap (λ x. at word.0 k.Default ∷ x) (sym it.1)) (default_colon (before IsStmt (after_it k.Colon word.1 some) tree))
        | inr none ↦ default_plain (before IsStmt (after_none k.Colon word.1 none) tree)
      ]))

  arm_by : (wild b : Bool) (ts us : Tokens) (a : CaseArm) → cond b (read.default_arm statement ts) (read.listed_arm statement wild ts) ≡ Some (a, us)
      → Arm wild b ts a us
  arm_by wild true ts us a h = default_sound ts us a h
  arm_by wild false ts us a h = listed_sound wild ts us a h

  one_arm_sound : (wild : Bool) (ts us : Tokens) (a : CaseArm) → read.arm_or_default statement wild ts ≡ Some (a, us) → Arm wild (sees k.Default ts) ts a us
  unfolding read.arm_or_default
  one_arm_sound wild ts us a h = arm_by wild (sees k.Default ts) ts us a h

  arms_sound : (wild : Bool) (t : ℕ) (seen : Bool) (found : List CaseArm) (ts us : Tokens) (all : List CaseArm)
      → read.arms_from statement wild t seen found ts ≡ Some (all, us) → (new : List CaseArm) × (all ≡ found ++ new) × AreArms wild seen ts new us
  unfolding read.arms_from
  arms_sound wild zero seen found ts us all h = nothing (all, us) h
  arms_sound wild (suc t) seen found ts us all h =
      elim (if_some (sees k.Default ts && seen) _ _ _ h) [
        | inl two ↦ nothing (all, us) two.1
        | inr fine ↦
            let first = and_then_some (read.arm_or_default statement wild ts) _ (all, us) fine.1 in
            let one = one_arm_sound wild ts first.1 first.0 first.2 in
            elim (if_some (sees k.EndCase first.1) _ _ _ first.3) [
              | inl halt ↦
                  let ends = both (found ++ first.0 ∷ []) all first.1 us halt.1 in
                  (first.0 ∷ [], sym ends.0, onto (AreArms wild seen) ends.1 (the_last wild (sees k.Default ts) seen ts first.1 first.0 fine.0 one))
              | inr go ↦
                  let rest = arms_sound wild t (sees k.Default ts || seen) (found ++ first.0 ∷ []) first.1 us all go.1 in (
                    first.0 ∷ rest.0,
                    rest.1 ∙ append_assoc found (first.0 ∷ []) rest.0,
                    one_more wild (sees k.Default ts) seen ts first.1 us first.0 rest.0 fine.0 one rest.2,
                  )
            ]
      ]

  case_sound : (wild : Bool) (ts us : Tokens) (what : StmtKind) → read.case_statement statement wild ts ≡ Some (what, us)
      → (q r o : Place) × (inside vs : Tokens) × (on : Expr) × (arms : List CaseArm) × (ts ≡ at q k.OpenParen ∷ inside)
      × IsExpr inside on (at r k.CloseParen ∷ vs) × AreArms wild false vs arms (at o k.EndCase ∷ us) × (s.Case wild on arms ≡ what)
  unfolding read.case_statement read.arms
  case_sound wild ts us what h =
      let on = and_then_some (parts.condition ts) _ (what, us) h in
      let it = test_sound ts on.1 on.0 on.2 in
      let arms = and_then_some (read.arms statement wild on.1) _ (what, us) on.3 in
      let list = arms_sound wild (length on.1) false [] on.1 arms.1 arms.0 arms.2 in
      let shut = expects k.EndCase _ arms.1 (what, us) refl arms.3 in
      let ends = both (s.Case wild on.0 arms.0) what shut.1 us shut.3 in (
        it.0,
        it.1,
        shut.0,
        it.2,
        on.1,
        on.0,
        arms.0,
        it.3,
        it.4,
        onto (AreArms wild false) (shut.2 ∙ ap (λ x. at shut.0 k.EndCase ∷ x) ends.1) (subst (λ x. AreArms wild false on.1 x arms.1) (sym list.1) list.2),
        ends.0,
      )

  kind_sound : (kind : TokenKind) (p : Place) (ts us : Tokens) (what : StmtKind) → read.kind_by statement (Some kind) (at p kind ∷ ts) ≡ Some (what, us)
      → KindAt p (at p kind ∷ ts) what us
  kind_sound k.Semicolon p ts us what h = same (KindAt p) h empty
  kind_sound k.Begin p ts us what h = block_sound p ts us what h
  kind_sound k.If p ts us what h = choice_sound p ts us what h
  kind_sound k.Case p ts us what h =
      let c = case_sound false ts us what h in
      subst (λ w. KindAt p (at p k.Case ∷ ts) w us) c.10 (before (KindAt p) (ap (λ x. at p k.Case ∷ x) (sym c.7)) (case c.8 c.9))
  kind_sound k.CaseZ p ts us what h =
      let c = case_sound true ts us what h in
      subst (λ w. KindAt p (at p k.CaseZ ∷ ts) w us) c.10 (before (KindAt p) (ap (λ x. at p k.CaseZ ∷ x) (sym c.7)) (casez c.8 c.9))
  kind_sound k.For p ts us what h = loop_sound p ts us what h
  kind_sound (k.System name) p ts us what h = system_sound p name ts us what h
  kind_sound (k.Name name) p ts us what h = assignment_sound (at p (k.Name name) ∷ ts) us what h
  kind_sound k.OpenBrace p ts us what h = assignment_sound (at p k.OpenBrace ∷ ts) us what h
  kind_sound _ p ts us what h = nothing (what, us) h

  layer_sound : (ts us : Tokens) (a : Stmt) → read.layer statement ts ≡ Some (a, us) → IsStmt ts a us
  unfolding read.layer
  layer_sound [] us a h = nothing (a, us) h
  layer_sound (t ∷ ts) us a h =
      let what = and_then_some (read.kind_by statement (Some t.what) (t ∷ ts)) _ (a, us) h in
      same IsStmt what.3 (kind_sound t.what t.place ts what.1 what.0 what.2)

statement_sound : (depth : ℕ) (ts us : Tokens) (a : Stmt) → read.statement depth ts ≡ Some (a, us) → IsStmt ts a us
unfolding read.statement
statement_sound zero ts us a h = nothing (a, us) h
statement_sound (suc d) ts us a h = layer_sound (read.statement d) (statement_sound d) ts us a h

pub whole_statement_sound : (ts us : Tokens) (a : Stmt) → read.whole_statement ts ≡ Some (a, us) → IsStmt ts a us
unfolding read.whole_statement
whole_statement_sound ts us a h = statement_sound (length ts) ts us a h

pub only_statement_sound : (ts : Tokens) (a : Stmt) → read.only_statement ts ≡ Some a → SpellsStmt ts a
unfolding read.only_statement
only_statement_sound ts a h = whole_statement_sound ts [] a (whole_some _ a h)
