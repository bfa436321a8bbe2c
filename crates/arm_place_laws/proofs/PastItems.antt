-- Behind an item, a header, the ports or a module there is an end of the tokens.
use Rattle.std.proofs.Common.{ℕ, Bool, List, Option}
use Rattle.cov_types.specs.declared.place.Place.{Place}
use Rattle.vlog_tokens.specs.declared.token.TokenKind.{TokenKind}
use Rattle.vlog_tokens.specs.declared.token.TokenKind.TheVariants as k
use Rattle.vlog_tree.specs.declared.expression.Expr.{Expr}
use Rattle.vlog_tree.specs.declared.expression.RangeExpr.{RangeExpr}
use Rattle.vlog_tree.specs.declared.item.NamePlace.{NamePlace}
use Rattle.vlog_tree.specs.declared.item.WireName.{WireName}
use Rattle.vlog_tree.specs.declared.item.RegName.{RegName}
use Rattle.vlog_tree.specs.declared.item.ParamForm.{ParamForm}
use Rattle.vlog_tree.specs.declared.item.ParamName.{ParamName}
use Rattle.vlog_tree.specs.declared.item.AssignPart.{AssignPart}
use Rattle.vlog_tree.specs.declared.item.NamedConn.{NamedConn}
use Rattle.vlog_tree.specs.declared.item.Conns.{Conns}
use Rattle.vlog_tree.specs.declared.item.Instance.{Instance}
use Rattle.vlog_tree.specs.declared.item.Item.{Item}
use Rattle.vlog_tree.specs.declared.item.GenArm.{GenArm}
use Rattle.vlog_tree.specs.declared.item.GenBody.{GenBody}
use Rattle.vlog_tree.specs.declared.module.PortKind.{PortKind}
use Rattle.vlog_tree.specs.declared.module.Port.{Port}
use Rattle.vlog_tree.specs.declared.module.Module.{Module}
use Rattle.vlog_grammar.specs.Tokens.{Tokens}
use Rattle.vlog_grammar.specs.Parts.{IsOptional, written, absent, IsWordThere, there, missing}
use Rattle.vlog_grammar.specs.Expressions.{IsRange, range}
use Rattle.vlog_grammar.specs.Items.{IsName, a_name, IsValue, a_value, IsWireName, wire_name, IsRegName, reg_alone, reg_words, reg_start, IsForm, plain_form}
use Rattle.vlog_grammar.specs.Items.{integer_form, ranged_form, IsParamName, param_name, IsAssignPart, assign_part, IsClock, star, star_inside, rising}
use Rattle.vlog_grammar.specs.Items.{IsNamedConn, left_open, connected, AreConnections, no_conns, ordered, by_name, AreParameterValues, no_params, params}
use Rattle.vlog_grammar.specs.Items.{IsInstance, instance, IsCover, cover, IsPlainItem, wire, reg, integer, genvar, parameter, localparam, assign, initial}
use Rattle.vlog_grammar.specs.Items.{always, cover_alone, cover_labelled, instances, IsBlockLabel, a_label, IsItem, plain_item, region, loop, choose}
use Rattle.vlog_grammar.specs.Items.{AreGenArms, no_else, last_else, else_if, IsBranch, gen_block, gen_item, AreItems, no_items, more_items}
use Rattle.vlog_grammar.specs.Modules.{IsSetting, declared, lone, AreSettings, last_setting, more_settings, IsHeader, no_header, header, IsDirection, input}
use Rattle.vlog_grammar.specs.Modules.{output_reg, output_wire, IsPort, declared_port, lone_port, ArePorts, last_port, more_ports, IsPortList, no_list}
use Rattle.vlog_grammar.specs.Modules.{empty_list, ports, IsModule, a_module}
use Rattle.arm_place_laws.proofs.Ends.{IsEnd, next}
use Rattle.arm_place_laws.proofs.Past.{past_expr, past_exprs, past_target, past_all, past_head, past_stmt}

module _ {all : Tokens} where
  past_optional : {A : Type 0} {R : Tokens → A → Tokens → Type 0} {first : TokenKind} → ((ts us : Tokens) (a : A) → R ts a us → IsEnd ts all → IsEnd us all)
      → {ts us : Tokens} {found : Option A} → IsOptional first R ts found us → IsEnd ts all → IsEnd us all
  past_optional each {ts} {us} (written {a = a} one) e = each ts us a one e
  past_optional each (absent none) e = e

  past_word : {word : TokenKind} {ts us : Tokens} {found : Bool} → IsWordThere word ts found us → IsEnd ts all → IsEnd us all
  past_word there e = next e
  past_word (missing none) e = e

  past_name : {ts us : Tokens} {a : NamePlace} → IsName ts a us → IsEnd ts all → IsEnd us all
  past_name a_name e = next e

  past_value : {ts us : Tokens} {a : Expr} → IsValue ts a us → IsEnd ts all → IsEnd us all
  past_value (a_value one) e = past_expr one (next e)

  past_range : {ts us : Tokens} {a : RangeExpr} → IsRange ts a us → IsEnd ts all → IsEnd us all
  past_range (range high low) e = next (past_expr low (next (past_expr high (next e))))

  past_wire_name : {ts us : Tokens} {a : WireName} → IsWireName ts a us → IsEnd ts all → IsEnd us all
  past_wire_name (wire_name name value) e = past_optional (λ ts us a one e. past_value one e) value (past_name name e)

  past_reg_name : {ts us : Tokens} {a : RegName} → IsRegName ts a us → IsEnd ts all → IsEnd us all
  past_reg_name (reg_alone name none other) e = past_name name e
  past_reg_name (reg_words name words) e = past_range words (past_name name e)
  past_reg_name (reg_start name start) e = past_value start (past_name name e)

  past_form : {ts us : Tokens} {a : ParamForm} → IsForm ts a us → IsEnd ts all → IsEnd us all
  past_form plain_form e = e
  past_form integer_form e = next e
  past_form (ranged_form signed bounds) e = past_range bounds (past_word signed e)

  past_param_name : {ts us : Tokens} {a : ParamName} → IsParamName ts a us → IsEnd ts all → IsEnd us all
  past_param_name (param_name name value) e = past_value value (past_name name e)

  past_assign_part : {ts us : Tokens} {a : AssignPart} → IsAssignPart ts a us → IsEnd ts all → IsEnd us all
  past_assign_part (assign_part target value) e = past_value value (past_target target e)

  pub past_clock : {ts us : Tokens} {a : Option (List ℕ)} → IsClock ts a us → IsEnd ts all → IsEnd us all
  past_clock star e = next (next e)
  past_clock star_inside e = next (next (next (next e)))
  past_clock rising e = next (next (next (next (next e))))

  past_named_conn : {ts us : Tokens} {a : NamedConn} → IsNamedConn ts a us → IsEnd ts all → IsEnd us all
  past_named_conn left_open e = next (next (next (next e)))
  past_named_conn (connected one) e = next (past_expr one (next (next (next e))))

  past_conns : {ts us : Tokens} {a : Conns} → AreConnections ts a us → IsEnd ts all → IsEnd us all
  past_conns no_conns e = next (next e)
  past_conns (ordered list) e = next (past_exprs list (next e))
  past_conns (by_name list) e = next (past_all (λ ts us a one e. past_named_conn one e) list (next e))

  past_params : {ts us : Tokens} {a : Conns} → AreParameterValues ts a us → IsEnd ts all → IsEnd us all
  past_params (no_params none) e = e
  past_params (params list) e = past_conns list (next e)

  past_instance : {ts us : Tokens} {a : Instance} → IsInstance ts a us → IsEnd ts all → IsEnd us all
  past_instance (instance word joined) e = past_conns joined (past_name word e)

  pub past_cover : {ts us : Tokens} {word : Place} {clock : List ℕ} {test : Expr} → IsCover ts word clock test us → IsEnd ts all → IsEnd us all
  past_cover (cover test) e =
      let behind = past_expr test (next (next (next (next (next (next (next (next e)))))))) in next (next behind)

  past_plain_item : {inside : Bool} {ts us : Tokens} {a : Item} → IsPlainItem inside ts a us → IsEnd ts all → IsEnd us all
  past_plain_item (wire signed bounds names) e =
      next (past_all (λ ts us a one e. past_wire_name one e) names (past_optional (λ ts us a one e. past_range one e) bounds (past_word signed (next e))))
  past_plain_item (reg signed bounds names) e =
      next (past_all (λ ts us a one e. past_reg_name one e) names (past_optional (λ ts us a one e. past_range one e) bounds (past_word signed (next e))))
  past_plain_item (integer names) e = next (past_all (λ ts us a one e. past_name one e) names (next e))
  past_plain_item (genvar names) e = next (past_all (λ ts us a one e. past_name one e) names (next e))
  past_plain_item (parameter form names) e = next (past_all (λ ts us a one e. past_param_name one e) names (past_form form (next e)))
  past_plain_item (localparam form names) e = next (past_all (λ ts us a one e. past_param_name one e) names (past_form form (next e)))
  past_plain_item (assign parts) e = next (past_all (λ ts us a one e. past_assign_part one e) parts (next e))
  past_plain_item (initial body) e = past_stmt body (next e)
  past_plain_item (always clock body) e = past_stmt body (past_clock clock (next e))
  past_plain_item (cover_alone one) e = past_cover one e
  past_plain_item (cover_labelled one) e = past_cover one (next (next e))
  past_plain_item (instances values made) e = next (past_all (λ ts us a one e. past_instance one e) made (past_params values (next e)))

  past_label : {ts us : Tokens} {name : NamePlace} → IsBlockLabel ts name us → IsEnd ts all → IsEnd us all
  past_label (a_label name) e = past_name name (next e)

  pub past_block_label : {ts us : Tokens} {name : Option NamePlace} → IsOptional k.Colon IsBlockLabel ts name us → IsEnd ts all → IsEnd us all
  past_block_label label e = past_optional (λ ts us a one e. past_label one e) label e

  mutual
    pub past_item : {inside : Bool} {ts us : Tokens} {a : Item} → IsItem inside ts a us → IsEnd ts all → IsEnd us all
    past_item (plain_item one) e = past_plain_item one e
    past_item (region items) e = next (past_items items (next e))
    past_item (loop head items) e = next (past_items items (next (next (next (past_head head (next e))))))
    past_item (choose arms) e = past_gen_arms arms (next e)

    past_gen_arms : {ts us : Tokens} {arms : List GenArm} {other : Option GenBody} → AreGenArms ts arms other us → IsEnd ts all → IsEnd us all
    past_gen_arms (no_else test body none) e = past_branch body (next (past_expr test (next e)))
    past_gen_arms (last_else test body other) e = past_branch other (next (past_branch body (next (past_expr test (next e)))))
    past_gen_arms (else_if test body arms) e = past_gen_arms arms (next (next (past_branch body (next (past_expr test (next e))))))

    pub past_branch : {ts us : Tokens} {a : GenBody} → IsBranch ts a us → IsEnd ts all → IsEnd us all
    past_branch (gen_block name items) e = next (past_items items (past_block_label name (next e)))
    past_branch (gen_item none one) e = past_item one e

    pub past_items : {inside : Bool} {ts us : Tokens} {list : List Item} → AreItems inside ts list us → IsEnd ts all → IsEnd us all
    past_items no_items e = e
    past_items (more_items one rest) e = past_items rest (past_item one e)

  past_setting : {given : Option ParamForm} {ts us : Tokens} {a : Item} {form : ParamForm} → IsSetting given ts a form us → IsEnd ts all → IsEnd us all
  past_setting (declared form name) e = past_param_name name (past_form form (next e))
  past_setting (lone name) e = past_param_name name e

  past_settings : {given : Option ParamForm} {ts us : Tokens} {list : List Item} → AreSettings given ts list us → IsEnd ts all → IsEnd us all
  past_settings (last_setting one) e = past_setting one e
  past_settings (more_settings one rest) e = past_settings rest (next (past_setting one e))

  pub past_header : {ts us : Tokens} {list : List Item} → IsHeader ts list us → IsEnd ts all → IsEnd us all
  past_header (no_header none) e = e
  past_header (header list) e = next (past_settings list (next (next e)))

  past_direction : {ts us : Tokens} {a : PortKind} → IsDirection ts a us → IsEnd ts all → IsEnd us all
  past_direction (input word) e = past_word word (next e)
  past_direction output_reg e = next (next e)
  past_direction (output_wire none word) e = past_word word (next e)

  past_port : {given : Option Port} {ts us : Tokens} {a : Port} → IsPort given ts a us → IsEnd ts all → IsEnd us all
  past_port (declared_port kind signed bounds) e =
      next (past_optional (λ ts us a one e. past_range one e) bounds (past_word signed (past_direction kind e)))
  past_port lone_port e = next e

  past_ports : {given : Option Port} {ts us : Tokens} {list : List Port} → ArePorts given ts list us → IsEnd ts all → IsEnd us all
  past_ports (last_port one) e = past_port one e
  past_ports (more_ports one rest) e = past_ports rest (next (past_port one e))

  pub past_port_list : {ts us : Tokens} {list : List Port} → IsPortList ts list us → IsEnd ts all → IsEnd us all
  past_port_list (no_list none) e = e
  past_port_list empty_list e = next (next e)
  past_port_list (ports list) e = next (past_ports list (next e))

  pub past_module : {ts us : Tokens} {a : Module} → IsModule ts a us → IsEnd ts all → IsEnd us all
  past_module (a_module front list items) e =
      next (past_items items (next (past_port_list list (past_header front (next (next e))))))
