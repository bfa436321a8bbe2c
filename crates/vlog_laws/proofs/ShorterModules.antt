-- What spells a parameter of a header, a port or a module has at least one token.
use Rattle.std.proofs.Common.{◌<◌, ◌≤◌, List, length, Option, arith}
use Rattle.vlog_tree.specs.declared.item.ParamForm.{ParamForm}
use Rattle.vlog_tree.specs.declared.item.Item.{Item}
use Rattle.vlog_tree.specs.declared.module.PortKind.{PortKind}
use Rattle.vlog_tree.specs.declared.module.Port.{Port}
use Rattle.vlog_tree.specs.declared.module.Module.{Module}
use Rattle.vlog_grammar.specs.Tokens.{Tokens}
use Rattle.vlog_grammar.specs.Modules.{IsSetting, declared, lone, AreSettings, last_setting, more_settings, IsHeader, no_header, header, IsDirection, input}
use Rattle.vlog_grammar.specs.Modules.{output_reg, output_wire, IsPort, declared_port, lone_port, ArePorts, last_port, more_ports, IsPortList, no_list}
use Rattle.vlog_grammar.specs.Modules.{empty_list, ports, IsModule, a_module}
use Rattle.vlog_laws.proofs.ShorterItemParts.{shorter_optional, shorter_word, shorter_range, shorter_form, shorter_param_name}
use Rattle.vlog_laws.proofs.ShorterItems.{shorter_items}

pub shorter_group : {given : Option ParamForm} {ts us : Tokens} {a : Item} {form : ParamForm} → IsSetting given ts a form us → length us < length ts
shorter_group (declared form name) = omega (arith, shorter_form form, shorter_param_name name)
shorter_group (lone name) = shorter_param_name name

pub shorter_groups : {given : Option ParamForm} {ts us : Tokens} {all : List Item} → AreSettings given ts all us → length us < length ts
shorter_groups (last_setting one) = shorter_group one
shorter_groups (more_settings one rest) = omega (arith, shorter_group one, shorter_groups rest)

pub shorter_header : {ts us : Tokens} {all : List Item} → IsHeader ts all us → length us ≤ length ts
shorter_header (no_header none) = omega arith
shorter_header (header all) = omega (arith, shorter_groups all)

shorter_direction : {ts us : Tokens} {a : PortKind} → IsDirection ts a us → length us < length ts
shorter_direction (input word) = omega (arith, shorter_word word)
shorter_direction output_reg = omega arith
shorter_direction (output_wire none word) = omega (arith, shorter_word word)

pub shorter_port : {given : Option Port} {ts us : Tokens} {a : Port} → IsPort given ts a us → length us < length ts
shorter_port (declared_port kind signed range) =
    omega (arith, shorter_direction kind, shorter_word signed, shorter_optional (λ ts us a one. shorter_range one) range)
shorter_port lone_port = omega arith

pub shorter_ports : {given : Option Port} {ts us : Tokens} {all : List Port} → ArePorts given ts all us → length us < length ts
shorter_ports (last_port one) = shorter_port one
shorter_ports (more_ports one rest) = omega (arith, shorter_port one, shorter_ports rest)

pub shorter_port_list : {ts us : Tokens} {all : List Port} → IsPortList ts all us → length us ≤ length ts
shorter_port_list (no_list none) = omega arith
shorter_port_list empty_list = omega arith
shorter_port_list (ports all) = omega (arith, shorter_ports all)

pub shorter_module : {ts us : Tokens} {a : Module} → IsModule ts a us → length us < length ts
shorter_module (a_module params list items) = omega (arith, shorter_header params, shorter_port_list list, shorter_items items)
