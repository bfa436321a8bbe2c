-- What spells an item that holds no items has at least one token, and so has each part of it that isn't left out.
use Rattle.std.proofs.Common.{ℕ, Bool, ◌<◌, ◌≤◌, List, length, arith, Option}
use Rattle.cov_types.specs.declared.place.Place.{Place}
use Rattle.vlog_tokens.specs.declared.token.TokenKind.{TokenKind}
use Rattle.vlog_tree.specs.declared.expression.Expr.{Expr}
use Rattle.vlog_tree.specs.declared.expression.RangeExpr.{RangeExpr}
use Rattle.vlog_tree.specs.declared.item.NamePlace.{NamePlace}
use Rattle.vlog_tree.specs.declared.item.WireName.{WireName}
use Rattle.vlog_tree.specs.declared.item.RegName.{RegName}
use Rattle.vlog_tree.specs.declared.item.ParamForm.{ParamForm}
use Rattle.vlog_tree.specs.declared.item.ParamName.{ParamName}
use Rattle.vlog_tree.specs.declared.item.AssignPart.{AssignPart}
use Rattle.vlog_tree.specs.declared.item.NamedConn.{NamedConn}
use Rattle.vlog_tree.specs.declared.item.Conns.{Conns}
use Rattle.vlog_tree.specs.declared.item.Instance.{Instance}
use Rattle.vlog_tree.specs.declared.item.Item.{Item}
use Rattle.vlog_grammar.specs.Tokens.{Tokens}
use Rattle.vlog_grammar.specs.Parts.{IsOptional, written, absent, IsWordThere, there, missing}
use Rattle.vlog_grammar.specs.Expressions.{IsRange, range}
use Rattle.vlog_grammar.specs.Items.{IsName, a_name, IsValue, a_value, IsWireName, wire_name, IsRegName, reg_alone, reg_words, reg_start, IsForm, plain_form}
use Rattle.vlog_grammar.specs.Items.{integer_form, ranged_form, IsParamName, param_name, IsAssignPart, assign_part, IsClock, star, star_inside, rising}
use Rattle.vlog_grammar.specs.Items.{IsNamedConn, left_open, connected, AreConnections, no_conns, ordered, by_name, AreParameterValues, no_params, params}
use Rattle.vlog_grammar.specs.Items.{IsInstance, instance, IsCover, cover, IsPlainItem, wire, reg, integer, genvar, parameter, localparam, assign, initial}
use Rattle.vlog_grammar.specs.Items.{always, cover_alone, cover_labelled, instances}
use Rattle.vlog_laws.proofs.Shorter.{shorter_expr, shorter_exprs}
use Rattle.vlog_laws.proofs.ShorterStatements.{shorter_all, shorter_target, shorter_stmt}

pub shorter_optional : {A : Type 0} {R : Tokens → A → Tokens → Type 0} {first : TokenKind} → ((ts us : Tokens) (a : A) → R ts a us → length us < length ts)
    → {ts us : Tokens} {found : Option A} → IsOptional first R ts found us → length us ≤ length ts
shorter_optional each {ts} {us} (written {a = a} one) = omega (arith, each ts us a one)
shorter_optional each (absent none) = omega arith

pub shorter_word : {word : TokenKind} {ts us : Tokens} {found : Bool} → IsWordThere word ts found us → length us ≤ length ts
shorter_word there = omega arith
shorter_word (missing none) = omega arith

pub shorter_name : {ts us : Tokens} {a : NamePlace} → IsName ts a us → length us < length ts
shorter_name a_name = omega arith

pub shorter_value : {ts us : Tokens} {a : Expr} → IsValue ts a us → length us < length ts
shorter_value (a_value one) = omega (arith, shorter_expr one)

pub shorter_range : {ts us : Tokens} {a : RangeExpr} → IsRange ts a us → length us < length ts
shorter_range (range high low) = omega (arith, shorter_expr high, shorter_expr low)

pub shorter_wire_name : {ts us : Tokens} {a : WireName} → IsWireName ts a us → length us < length ts
shorter_wire_name (wire_name name value) = omega (arith, shorter_name name, shorter_optional (λ ts us a one. shorter_value one) value)

pub shorter_reg_name : {ts us : Tokens} {a : RegName} → IsRegName ts a us → length us < length ts
shorter_reg_name (reg_alone name none other) = shorter_name name
shorter_reg_name (reg_words name words) = omega (arith, shorter_name name, shorter_range words)
shorter_reg_name (reg_start name start) = omega (arith, shorter_name name, shorter_value start)

pub shorter_form : {ts us : Tokens} {a : ParamForm} → IsForm ts a us → length us ≤ length ts
shorter_form plain_form = omega arith
shorter_form integer_form = omega arith
shorter_form (ranged_form signed bounds) = omega (arith, shorter_word signed, shorter_range bounds)

pub shorter_param_name : {ts us : Tokens} {a : ParamName} → IsParamName ts a us → length us < length ts
shorter_param_name (param_name name value) = omega (arith, shorter_name name, shorter_value value)

pub shorter_assign_part : {ts us : Tokens} {a : AssignPart} → IsAssignPart ts a us → length us < length ts
shorter_assign_part (assign_part target value) = omega (arith, shorter_target target, shorter_value value)

pub shorter_clock : {ts us : Tokens} {a : Option (List ℕ)} → IsClock ts a us → length us < length ts
shorter_clock star = omega arith
shorter_clock star_inside = omega arith
shorter_clock rising = omega arith

pub shorter_named_conn : {ts us : Tokens} {a : NamedConn} → IsNamedConn ts a us → length us < length ts
shorter_named_conn left_open = omega arith
shorter_named_conn (connected one) = omega (arith, shorter_expr one)

pub shorter_conns : {ts us : Tokens} {a : Conns} → AreConnections ts a us → length us < length ts
shorter_conns no_conns = omega arith
shorter_conns (ordered all) = omega (arith, shorter_exprs all)
shorter_conns (by_name all) = omega (arith, shorter_all (λ ts us a one. shorter_named_conn one) all)

pub shorter_params : {ts us : Tokens} {a : Conns} → AreParameterValues ts a us → length us ≤ length ts
shorter_params (no_params none) = omega arith
shorter_params (params all) = omega (arith, shorter_conns all)

pub shorter_instance : {ts us : Tokens} {a : Instance} → IsInstance ts a us → length us < length ts
shorter_instance (instance name ports) = omega (arith, shorter_name name, shorter_conns ports)

pub shorter_cover : {ts us : Tokens} {word : Place} {clock : List ℕ} {test : Expr} → IsCover ts word clock test us → length us < length ts
shorter_cover (cover test) = omega (arith, shorter_expr test)

pub shorter_plain_item : {inside : Bool} {ts us : Tokens} {a : Item} → IsPlainItem inside ts a us → length us < length ts
shorter_plain_item (wire signed bounds names) =
    omega (arith, shorter_word signed, shorter_optional (λ ts us a one. shorter_range one) bounds, shorter_all (λ ts us a one. shorter_wire_name one) names)
shorter_plain_item (reg signed bounds names) =
    omega (arith, shorter_word signed, shorter_optional (λ ts us a one. shorter_range one) bounds, shorter_all (λ ts us a one. shorter_reg_name one) names)
shorter_plain_item (integer names) = omega (arith, shorter_all (λ ts us a one. shorter_name one) names)
shorter_plain_item (genvar names) = omega (arith, shorter_all (λ ts us a one. shorter_name one) names)
shorter_plain_item (parameter form names) = omega (arith, shorter_form form, shorter_all (λ ts us a one. shorter_param_name one) names)
shorter_plain_item (localparam form names) = omega (arith, shorter_form form, shorter_all (λ ts us a one. shorter_param_name one) names)
shorter_plain_item (assign parts) = omega (arith, shorter_all (λ ts us a one. shorter_assign_part one) parts)
shorter_plain_item (initial body) = omega (arith, shorter_stmt body)
shorter_plain_item (always clock body) = omega (arith, shorter_clock clock, shorter_stmt body)
shorter_plain_item (cover_alone all) = shorter_cover all
shorter_plain_item (cover_labelled all) = omega (arith, shorter_cover all)
shorter_plain_item (instances values made) = omega (arith, shorter_params values, shorter_all (λ ts us a one. shorter_instance one) made)
