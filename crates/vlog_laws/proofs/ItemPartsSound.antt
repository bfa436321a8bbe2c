-- What is read as a part of an item is spelled so.
use Rattle.std.proofs.Common.{◌≡◌, ℕ, Bool, List, [], ◌∷◌, Option, Some, None, refl, sym, ◌∙◌, ap, subst, inl, inr}
use Rattle.cov_types.specs.declared.place.Place.{Place}
use Rattle.vlog_tokens.specs.declared.token.TokenKind.{TokenKind}
use Rattle.vlog_tokens.specs.declared.token.TokenKind.TheVariants as k
use Rattle.vlog_tree.specs.declared.expression.Expr.{Expr}
use Rattle.vlog_tree.specs.declared.expression.RangeExpr.{RangeExpr}
use Rattle.vlog_tree.specs.declared.item.NamePlace.{NamePlace}
use Rattle.vlog_tree.specs.declared.item.WireName.{WireName}
use Rattle.vlog_tree.specs.declared.item.RegName.{RegName}
use Rattle.vlog_tree.specs.declared.item.ItemKind.{ItemKind}
use Rattle.vlog_tree.specs.declared.item.ItemKind.TheVariants as i
use Rattle.vlog_tree.specs.declared.item.ParamForm.{ParamForm}
use Rattle.vlog_tree.specs.declared.item.ParamName.{ParamName}
use Rattle.vlog_tree.specs.declared.item.AssignPart.{AssignPart}
use Rattle.vlog_tree.specs.declared.item.NamedConn.{NamedConn}
use Rattle.vlog_tree.specs.declared.item.Conns.{Conns}
use Rattle.vlog_tree.specs.declared.item.Instance.{Instance}
use Rattle.vlog_grammar.specs.Tokens.{Tokens, at, NotNext}
use Rattle.vlog_grammar.specs.Parts.{AreSeparated, IsOptional, written, absent, IsWordThere, there, missing}
use Rattle.vlog_grammar.specs.Expressions.{IsExpr, AreExprs, IsTarget, IsRange}
use Rattle.vlog_grammar.specs.Expressions as grammar
use Rattle.vlog_grammar.specs.Items as items
use Rattle.vlog_grammar.specs.Items.{IsName, a_name, IsValue, a_value, IsWireName, IsRegName, reg_alone, IsForm, plain_form, integer_form, ranged_form}
use Rattle.vlog_grammar.specs.Items.{IsParamName, IsAssignPart, assign_part, IsClock, star, star_inside, rising, IsNamedConn, left_open, connected}
use Rattle.vlog_grammar.specs.Items.{AreConnections, no_conns, ordered, AreParameterValues, no_params, IsInstance, IsCover}
use Rattle.vlog_reading.specs.Marks.{mark}
use Rattle.vlog_reading.specs.Reading.{Parser, sees, after, first_place}
use Rattle.vlog_reading.specs.ReadExpressions.{expression}
use Rattle.vlog_reading.specs.ReadParts as parts
use Rattle.vlog_reading.specs.ReadStatements as statements
use Rattle.vlog_reading.specs.ReadItemParts as read
use Rattle.vlog_laws.proofs.Basics.{both, and_then_some, if_some, bool_cases, of_mark, sees_it, after_it, after_none, expects, eats, unseen, before, onto, same}
use Rattle.vlog_laws.proofs.Sound.{expression_sound}
use Rattle.vlog_laws.proofs.PartsSound.{all_sound, exprs_sound, name_sound, until_sound, whole_target_sound}

pub optional_sound : {A : Type 0} (R : Tokens → A → Tokens → Type 0) (item : Parser A) → ((ts us : Tokens) (a : A) → item ts ≡ Some (a, us) → R ts a us)
    → (first : TokenKind) → of_mark (mark first) ≡ Some first
    → (ts us : Tokens) (found : Option A) → read.optional item first ts ≡ Some (found, us) → IsOptional first R ts found us
unfolding read.optional
optional_sound R item each first known ts us found h =
    elim (if_some (sees first ts) _ _ _ h) [
      | inl some ↦
          let it = sees_it first ts known some.0 in
          let one = and_then_some (item ts) _ (found, us) some.1 in
          same (IsOptional first R) one.3 (before (IsOptional first R) (sym it.1) (written (before R it.1 (each ts one.1 one.0 one.2))))
      | inr none ↦ same (IsOptional first R) none.1 (absent (unseen first ts none.0))
    ]

-- a word that may be left out, taken where it comes next
pub word_there : (word : TokenKind) (ts : Tokens) → of_mark (mark word) ≡ Some word → IsWordThere word ts (sees word ts) (after word ts)
word_there word ts known =
    elim (bool_cases (sees word ts)) [
      | inl some ↦
          let it = sees_it word ts known some in
          rw (after_it word ts some, some) (before (IsWordThere word) (sym it.1) there)
      | inr none ↦ rw (after_none word ts none, none) (missing (unseen word ts none))
    ]

pub name_place_sound : (ts us : Tokens) (a : NamePlace) → read.name_place ts ≡ Some (a, us) → IsName ts a us
unfolding read.name_place
name_place_sound ts us a h =
    let name = and_then_some (parts.name_token ts) _ (a, us) h in
    let it = name_sound ts name.1 name.0 name.2 in
    let place : first_place ts ≡ it.0 = ap first_place it.1 in
    same IsName (ap (λ q. Some (record { place = q; name = name.0 }, name.1)) (sym place) ∙ name.3) (before IsName (sym it.1) a_name)

pub value_sound : (ts us : Tokens) (a : Expr) → read.value ts ≡ Some (a, us) → IsValue ts a us
unfolding read.value
value_sound ts us a h =
    let equal = expects k.EqualSign _ ts (a, us) refl h in
    before IsValue (sym equal.2) (a_value (expression_sound equal.1 us a equal.3))

pub range_sound : (ts us : Tokens) (a : RangeExpr) → read.range ts ≡ Some (a, us) → IsRange ts a us
unfolding read.range
range_sound ts us a h =
    let front = expects k.OpenBracket _ ts (a, us) refl h in
    let high = and_then_some (parts.expression_before k.Colon front.1) _ (a, us) front.3 in
    let low = and_then_some (parts.expression_before k.CloseBracket high.1) _ (a, us) high.3 in
    same IsRange low.3 (before IsRange (sym front.2)
    (grammar.range (until_sound k.Colon front.1 high.1 high.0 refl high.2).1 (until_sound k.CloseBracket high.1 low.1 low.0 refl low.2).1))

-- a sign and a range, each where it is written
abbrev pub IsSigned : Tokens → Bool × Option RangeExpr → Tokens → Type 0
IsSigned ts form us = (vs : Tokens) × IsWordThere k.Signed ts form.0 vs × IsOptional k.OpenBracket IsRange vs form.1 us

pub signed_range_sound : (ts us : Tokens) (form : Bool × Option RangeExpr) → read.signed_range ts ≡ Some (form, us) → IsSigned ts form us
unfolding read.signed_range
signed_range_sound ts us form h =
    let bounds = and_then_some (read.optional read.range k.OpenBracket (after k.Signed ts)) _ (form, us) h in
    let some = optional_sound IsRange read.range range_sound k.OpenBracket refl (after k.Signed ts) bounds.1 bounds.0 bounds.2 in
    same IsSigned bounds.3 (after k.Signed ts, word_there k.Signed ts refl, some)

pub wire_name_sound : (ts us : Tokens) (a : WireName) → read.wire_name ts ≡ Some (a, us) → IsWireName ts a us
unfolding read.wire_name
wire_name_sound ts us a h =
    let name = and_then_some (read.name_place ts) _ (a, us) h in
    let driver = and_then_some (read.optional read.value k.EqualSign name.1) _ (a, us) name.3 in
    same IsWireName driver.3 (items.wire_name (name_place_sound ts name.1 name.0 name.2)
    (optional_sound IsValue read.value value_sound k.EqualSign refl name.1 driver.1 driver.0 driver.2))

reg_without_words : {ts us vs : Tokens} {name : NamePlace} {start : Option Expr} → IsName ts name us → NotNext k.OpenBracket us
    → IsOptional k.EqualSign IsValue us start vs → IsRegName ts (record { name = name; words = None; start = start }) vs
reg_without_words called none (written one) = items.reg_start called one
reg_without_words called none (absent other) = reg_alone called none other

pub reg_name_sound : (ts us : Tokens) (a : RegName) → read.reg_name ts ≡ Some (a, us) → IsRegName ts a us
unfolding read.reg_name read.reg_words read.reg_start
reg_name_sound ts us a h =
    let name = and_then_some (read.name_place ts) _ (a, us) h in
    let called = name_place_sound ts name.1 name.0 name.2 in
    elim (if_some (sees k.OpenBracket name.1) _ _ _ name.3) [
      | inl some ↦
          let words = and_then_some (read.range name.1) _ (a, us) some.1 in
          same IsRegName words.3 (items.reg_words called (range_sound name.1 words.1 words.0 words.2))
      | inr none ↦
          let start = and_then_some (read.optional read.value k.EqualSign name.1) _ (a, us) none.1 in
          same IsRegName start.3 (reg_without_words called (unseen k.OpenBracket name.1 none.0)
          (optional_sound IsValue read.value value_sound k.EqualSign refl name.1 start.1 start.0 start.2))
    ]

ranged_sound : (ts us : Tokens) (a : ParamForm) → read.ranged ts ≡ Some (a, us) → IsForm ts a us
unfolding read.ranged
ranged_sound ts us a h =
    let bounds = and_then_some (read.range (after k.Signed ts)) _ (a, us) h in
    same IsForm bounds.3 (ranged_form (word_there k.Signed ts refl) (range_sound (after k.Signed ts) bounds.1 bounds.0 bounds.2))

form_front : (kind : TokenKind) (p : Place) (ts us : Tokens) (a : ParamForm) → read.form_by (Some kind) (at p kind ∷ ts) ≡ Some (a, us)
    → IsForm (at p kind ∷ ts) a us
form_front (k.Name name) p ts us a h = same IsForm h plain_form
form_front k.Integer p ts us a h = same IsForm h integer_form
form_front _ p ts us a h = ranged_sound _ us a h

pub param_form_sound : (ts us : Tokens) (a : ParamForm) → read.param_form ts ≡ Some (a, us) → IsForm ts a us
unfolding read.param_form
param_form_sound [] us a h = ranged_sound [] us a h
param_form_sound (t ∷ ts) us a h = form_front t.what t.place ts us a h

pub param_name_sound : (ts us : Tokens) (a : ParamName) → read.param_name ts ≡ Some (a, us) → IsParamName ts a us
unfolding read.param_name
param_name_sound ts us a h =
    let name = and_then_some (read.name_place ts) _ (a, us) h in
    let constant = and_then_some (read.value name.1) _ (a, us) name.3 in
    same IsParamName constant.3 (items.param_name (name_place_sound ts name.1 name.0 name.2) (value_sound name.1 constant.1 constant.0 constant.2))

pub assign_part_sound : (ts us : Tokens) (a : AssignPart) → read.assign_part ts ≡ Some (a, us) → IsAssignPart ts a us
unfolding read.assign_part
assign_part_sound ts us a h =
    let target = and_then_some (statements.whole_target ts) _ (a, us) h in
    let driver = and_then_some (read.value target.1) _ (a, us) target.3 in
    same IsAssignPart driver.3 (assign_part (whole_target_sound ts target.1 target.0 target.2) (value_sound target.1 driver.1 driver.0 driver.2))

clock_inside_sound : (p : Place) (ts us : Tokens) (a : Option (List ℕ)) → read.clock_inside ts ≡ Some (a, us) → IsClock (at p k.At ∷ ts) a us
unfolding read.clock_inside
clock_inside_sound p ts us a h =
    let front = expects k.OpenParen _ ts (a, us) refl h in
    before IsClock (ap (λ x. at p k.At ∷ x) (sym front.2)) (elim (eats k.Star _ _ front.1 (a, us) refl front.3) [
      | inl stars ↦
          let shut = expects k.CloseParen _ stars.1 (a, us) refl stars.3 in
          same IsClock shut.3 (before IsClock (ap (λ x. at p k.At ∷ at front.0 k.OpenParen ∷ x) (sym (stars.2 ∙ ap
          (λ x. at stars.0 k.Star ∷ x) shut.2))) star_inside)
      | inr none ↦
          let edge = expects k.PosEdge _ front.1 (a, us) refl none.1 in
          let name = and_then_some (parts.name_token edge.1) _ (a, us) edge.3 in
          let it = name_sound edge.1 name.1 name.0 name.2 in
          let shut = expects k.CloseParen _ name.1 (a, us) refl name.3 in
          same IsClock shut.3 (before IsClock (ap (λ x. at p k.At ∷ at front.0 k.OpenParen ∷ x) (sym (edge.2 ∙ ap (λ x. at edge.0 k.PosEdge ∷ x)
          (it.1 ∙ ap (λ x. at it.0 (k.Name name.0) ∷ x) shut.2)))) rising)
    ])

pub clock_sound : (ts us : Tokens) (a : Option (List ℕ)) → read.clock ts ≡ Some (a, us) → IsClock ts a us
unfolding read.clock
clock_sound ts us a h =
    let front = expects k.At _ ts (a, us) refl h in
    before IsClock (sym front.2) (elim (eats k.Star _ _ front.1 (a, us) refl front.3) [
      | inl stars ↦ before IsClock (ap (λ x. at front.0 k.At ∷ x) (sym stars.2)) (same IsClock stars.3 star)
      | inr none ↦ clock_inside_sound front.0 front.1 us a none.1
    ])

pub named_conn_sound : (ts us : Tokens) (a : NamedConn) → read.named_conn ts ≡ Some (a, us) → IsNamedConn ts a us
unfolding read.named_conn
named_conn_sound ts us a h =
    let dot = expects k.Dot _ ts (a, us) refl h in
    let name = and_then_some (parts.name_token dot.1) _ (a, us) dot.3 in
    let it = name_sound dot.1 name.1 name.0 name.2 in
    let front = expects k.OpenParen _ name.1 (a, us) refl name.3 in
    before IsNamedConn (sym (dot.2 ∙ ap (λ x. at dot.0 k.Dot ∷ x) (it.1 ∙ ap (λ x. at it.0 (k.Name name.0) ∷ x) front.2)))
    (elim (eats k.CloseParen _ _ front.1 (a, us) refl front.3) [
      | inl shut ↦
          before IsNamedConn (ap (λ x. at dot.0 k.Dot ∷ at it.0 (k.Name name.0) ∷ at front.0 k.OpenParen ∷ x) (sym shut.2)) (same IsNamedConn shut.3 left_open)
      | inr none ↦
          let inner = and_then_some (parts.expression_before k.CloseParen front.1) _ (a, us) none.1 in
          same IsNamedConn inner.3 (connected (until_sound k.CloseParen front.1 inner.1 inner.0 refl inner.2).1)
    ])

pub conns_sound : (ts us : Tokens) (a : Conns) → read.connections ts ≡ Some (a, us) → AreConnections ts a us
unfolding read.connections read.connections_by_name read.connections_in_order
conns_sound ts us a h =
    let front = expects k.OpenParen _ ts (a, us) refl h in
    before AreConnections (sym front.2) (elim (eats k.CloseParen _ _ front.1 (a, us) refl front.3) [
      | inl shut ↦ before AreConnections (ap (λ x. at front.0 k.OpenParen ∷ x) (sym shut.2)) (same AreConnections shut.3 no_conns)
      | inr some ↦
          elim (if_some (sees k.Dot front.1) _ _ _ some.1) [
            | inl names ↦
                let all = and_then_some (parts.separated read.named_conn front.1) _ (a, us) names.1 in
                let shut = expects k.CloseParen _ all.1 (a, us) refl all.3 in
                same AreConnections shut.3 (items.by_name (onto (AreSeparated IsNamedConn) shut.2
                (all_sound IsNamedConn read.named_conn named_conn_sound front.1 all.1 all.0 all.2)))
            | inr order ↦
                let all = and_then_some (parts.separated expression front.1) _ (a, us) order.1 in
                let shut = expects k.CloseParen _ all.1 (a, us) refl all.3 in
                same AreConnections shut.3 (ordered (onto AreExprs shut.2 (exprs_sound front.1 all.1 all.0 all.2)))
          ]
    ])

pub params_sound : (ts us : Tokens) (a : Conns) → read.parameter_values ts ≡ Some (a, us) → AreParameterValues ts a us
unfolding read.parameter_values
params_sound ts us a h =
    elim (eats k.Hash _ _ ts (a, us) refl h) [
      | inl hash ↦ before AreParameterValues (sym hash.2) (items.params (conns_sound hash.1 us a hash.3))
      | inr none ↦ same AreParameterValues none.1 (no_params (unseen k.Hash ts none.0))
    ]

pub instance_sound : (ts us : Tokens) (a : Instance) → read.instance ts ≡ Some (a, us) → IsInstance ts a us
unfolding read.instance
instance_sound ts us a h =
    let name = and_then_some (read.name_place ts) _ (a, us) h in
    let ports = and_then_some (read.connections name.1) _ (a, us) name.3 in
    same IsInstance ports.3 (items.instance (name_place_sound ts name.1 name.0 name.2) (conns_sound name.1 ports.1 ports.0 ports.2))

pub cover_sound : (label : Option NamePlace) (ts us : Tokens) (a : ItemKind) → read.cover label ts ≡ Some (a, us)
    → (word : Place) × (clock : List ℕ) × (test : Expr) × (a ≡ i.Cover word label clock test) × IsCover ts word clock test us
unfolding read.cover
cover_sound label ts us a h =
    let word = expects k.Cover _ ts (a, us) refl h in
    let place : first_place ts ≡ word.0 = ap first_place word.2 in
    let property = expects k.Property _ word.1 (a, us) refl word.3 in
    let front = expects k.OpenParen _ property.1 (a, us) refl property.3 in
    let sign = expects k.At _ front.1 (a, us) refl front.3 in
    let inner = expects k.OpenParen _ sign.1 (a, us) refl sign.3 in
    let edge = expects k.PosEdge _ inner.1 (a, us) refl inner.3 in
    let clock = and_then_some (parts.name_token edge.1) _ (a, us) edge.3 in
    let it = name_sound edge.1 clock.1 clock.0 clock.2 in
    let shut = expects k.CloseParen _ clock.1 (a, us) refl clock.3 in
    let test = and_then_some (parts.expression_before k.CloseParen shut.1) _ (a, us) shut.3 in
    let tree = until_sound k.CloseParen shut.1 test.1 test.0 refl test.2 in
    let end = expects k.Semicolon _ test.1 (a, us) refl test.3 in
    let ends = both (i.Cover (first_place ts) label clock.0 test.0) a end.1 us end.3 in
    let clocked : inner.1 ≡ at edge.0 k.PosEdge ∷ at it.0 (k.Name clock.0) ∷ at shut.0 k.CloseParen ∷ shut.1 =
    edge.2 ∙ ap (λ x. at edge.0 k.PosEdge ∷ x) (it.1 ∙ ap (λ x. at it.0 (k.Name clock.0) ∷ x) shut.2) in
    let begin = word.2 ∙ ap (λ x. at word.0 k.Cover ∷ x) (property.2 ∙ ap (λ x. at property.0 k.Property ∷ x) (front.2
    ∙ ap (λ x. at front.0 k.OpenParen ∷ x) (sign.2 ∙ ap (λ x. at sign.0 k.At ∷ x) (inner.2 ∙ ap (λ x. at inner.0 k.OpenParen ∷ x) clocked)))) in (
      word.0,
      clock.0,
      test.0,
      sym ends.0 ∙ ap (λ q. i.Cover q label clock.0 test.0) place,
      subst (λ x. IsCover x word.0 clock.0 test.0 us) (sym begin)
          (items.cover (onto IsExpr (ap (λ x. at tree.0 k.CloseParen ∷ x) (end.2 ∙ ap (λ x. at end.0 k.Semicolon ∷ x) ends.1)) tree.1)),
    )
