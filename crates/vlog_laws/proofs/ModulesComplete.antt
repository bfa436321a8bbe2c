-- What is spelled as a module or a file is read so.
use Rattle.std.proofs.Common.{◌≡◌, ℕ, zero, suc, ◌+◌, ◌<◌, ◌≤◌, false, List, [], ◌∷◌, ◌++◌, length, Option, Some, None, refl, sym, ◌∙◌, ap, arith, append_assoc}
use Rattle.cov_types.specs.declared.place.Place.{Place}
use Rattle.vlog_tokens.specs.declared.token_list.TokenList.{TokenList}
use Rattle.vlog_tokens.specs.declared.token.TokenKind.TheVariants as k
use Rattle.vlog_tree.specs.declared.item.ParamForm.{ParamForm}
use Rattle.vlog_tree.specs.declared.item.ParamName.{ParamName}
use Rattle.vlog_tree.specs.declared.item.Item.{Item}
use Rattle.vlog_tree.specs.declared.module.PortKind.{PortKind}
use Rattle.vlog_tree.specs.declared.module.PortKind.TheVariants as port
use Rattle.vlog_tree.specs.declared.module.Port.{Port}
use Rattle.vlog_tree.specs.declared.module.Module.{Module}
use Rattle.vlog_tree.specs.declared.module.SourceFile.{SourceFile}
use Rattle.vlog_grammar.specs.Tokens.{Tokens, at}
use Rattle.vlog_grammar.specs.Expressions.{IsRange}
use Rattle.vlog_grammar.specs.Items.{IsParamName, param_name, a_name}
use Rattle.vlog_grammar.specs.Modules as grammar
use Rattle.vlog_grammar.specs.Modules.{IsSetting, declared, lone, AreSettings, last_setting, more_settings, IsHeader, no_header, header, IsDirection, input}
use Rattle.vlog_grammar.specs.Modules.{output_reg, output_wire, IsPort, declared_port, lone_port, ArePorts, last_port, more_ports, IsPortList, no_list}
use Rattle.vlog_grammar.specs.Modules.{empty_list, IsModule, a_module, AreModules, no_modules, more_modules, SpellsFile}
use Rattle.vlog_reading.specs.Reading.{sees, first_kind}
use Rattle.vlog_reading.specs.ReadItemParts as item_parts
use Rattle.vlog_reading.specs.ReadModules as read
use Rattle.vlog_laws.proofs.Basics.{Ends, ends_at, not_seen, sees_other, goes, goes_mark, eat_yes, eat_no, same_Some}
use Rattle.vlog_laws.proofs.ShorterModules.{shorter_group, shorter_groups, shorter_port, shorter_ports, shorter_module}
use Rattle.vlog_laws.proofs.StatementsSound.{append_nil}
use Rattle.vlog_laws.proofs.PartsComplete.{name_complete}
use Rattle.vlog_laws.proofs.ItemPartsComplete.{word_complete, signed_range_complete, param_form_complete, param_name_complete}
use Rattle.vlog_laws.proofs.ItemsComplete.{whole_items_complete}

-- a name stands in front, and no `parameter`
front_name : {ts us : Tokens} {name : ParamName} → IsParamName ts name us → sees k.Parameter ts ≡ false
unfolding sees
front_name (param_name a_name constant) = refl

group_complete : (given : Option ParamForm) (ts us : Tokens) (a : Item) (form : ParamForm) → IsSetting given ts a form us → Ends us
    → read.setting given ts ≡ Some ((a, form), us)
unfolding read.setting read.setting_form read.setting_of
group_complete given ts us a form (declared {us = xs} {vs = vs} {p = p} {name = name} shape one) ends =
    goes _ (eat_yes k.Parameter p xs item_parts.param_form (read.from_before given) (param_form_complete xs vs form shape))
    (goes _ (param_name_complete vs us name one ends) refl)
group_complete given ts us a form (lone {us = xs} {t = t} {name = name} one) ends =
    goes _ (eat_no k.Parameter (t ∷ xs) item_parts.param_form (read.from_before (Some form)) (front_name one) refl)
    (goes _ (param_name_complete (t ∷ xs) us name one ends) refl)

-- a parameter is read before a comma, and before what stands after the whole list
groups_complete : (t : ℕ) (given : Option ParamForm) (found all : List Item) (ts us : Tokens) → AreSettings given ts all us → Ends us → sees k.Comma us ≡ false
    → length ts ≤ t → read.settings_from t given found ts ≡ Some (found ++ all, us)
unfolding read.settings_from
groups_complete zero given found all ts us list ends none turns = absurd (omega (arith, shorter_groups list))
groups_complete (suc t) given found all ts us (last_setting {a = a} {form = form} one) ends none turns =
    goes _ (group_complete given ts us a form one ends) (eat_no k.Comma us _ _ none refl)
groups_complete (suc t) given found all ts us (more_settings {us = vs} {p = p} {a = a} {form = form} {all = others} one rest) ends none turns =
    goes _ (group_complete given ts (at p k.Comma ∷ vs) a form one (ends_at k.Comma p vs refl refl)) (eat_yes k.Comma p vs _ _
    (groups_complete t (Some form) (found ++ a ∷ []) others vs us rest ends none (omega (arith, shorter_group one))
    ∙ ap (λ x. Some (x, us)) (append_assoc found (a ∷ []) others)))

header_complete : (ts us : Tokens) (all : List Item) → IsHeader ts all us → read.header ts ≡ Some (all, us)
unfolding read.header read.header_inside read.settings
header_complete ts us all (no_header none) = eat_no k.Hash us _ _ (not_seen k.Hash us refl none) refl
header_complete ts us all (header {us = vs} {p = p} {q = q} {r = r} list) =
    eat_yes k.Hash p (at q k.OpenParen ∷ vs) _ _ (goes_mark k.OpenParen q vs _
    (goes _ (groups_complete (length vs) None [] all vs (at r k.CloseParen ∷ us) list (ends_at k.CloseParen r us refl refl)
    (sees_other k.Comma k.CloseParen r us refl) (omega arith))
    (goes_mark k.CloseParen r us _ refl)))

direction_complete : (ts us : Tokens) (a : PortKind) → IsDirection ts a us → read.direction ts ≡ Some (a, us)
unfolding read.direction read.output_kind
direction_complete ts us a (input {us = vs} {written = written} word) =
    ap (λ x. Some (port.Input, x)) (word_complete k.Wire vs us written refl word).1
direction_complete ts us a (output_reg {q = q}) = eat_yes k.Reg q us _ _ refl
direction_complete ts us a (output_wire {us = vs} {written = written} none word) =
    eat_no k.Reg vs _ _ (not_seen k.Reg vs refl none) (ap (λ x. Some (port.OutputWire, x)) (word_complete k.Wire vs us written refl word).1)

-- a direction stands in front, and no name alone
front_direction : {ts us : Tokens} {a : PortKind} (given : Option Port) (p : Place) → IsDirection ts a us
    → read.port_by given p (first_kind ts) ts ≡ read.declared_port p ts
front_direction given p (input word) = refl
front_direction given p output_reg = refl
front_direction given p (output_wire none word) = refl

port_complete : (given : Option Port) (ts us : Tokens) (a : Port) → IsPort given ts a us → read.one_port given ts ≡ Some (a, us)
unfolding read.one_port read.declared_port read.lone_port
port_complete given ts us a
    (declared_port {us = xs} {vs = vs} {ws = ws} {t = t} {q = q} {kind = kind} {signed = signed} {range = range} {name = name} one word bounds) =
    front_direction given t.place one ∙ goes _ (direction_complete (t ∷ xs) vs kind one)
    (goes _ (signed_range_complete vs ws (at q (k.Name name) ∷ us) signed range word bounds) (goes _ (name_complete q name us) refl))
port_complete given ts us a (lone_port {p = p} {name = name}) = goes _ (name_complete p name us) refl

ports_complete : (t : ℕ) (given : Option Port) (found all : List Port) (ts us : Tokens) → ArePorts given ts all us → sees k.Comma us ≡ false
    → length ts ≤ t → read.ports_from t given found ts ≡ Some (found ++ all, us)
unfolding read.ports_from
ports_complete zero given found all ts us list none turns = absurd (omega (arith, shorter_ports list))
ports_complete (suc t) given found all ts us (last_port {a = a} one) none turns =
    goes _ (port_complete given ts us a one) (eat_no k.Comma us _ _ none refl)
ports_complete (suc t) given found all ts us (more_ports {us = vs} {p = p} {a = a} {all = others} one rest) none turns =
    goes _ (port_complete given ts (at p k.Comma ∷ vs) a one) (eat_yes k.Comma p vs _ _
    (ports_complete t (Some a) (found ++ a ∷ []) others vs us rest none (omega (arith, shorter_port one))
    ∙ ap (λ x. Some (x, us)) (append_assoc found (a ∷ []) others)))

-- no parenthesis stands in front of a port
front_port : {given : Option Port} {ts us : Tokens} {a : Port} → IsPort given ts a us → sees k.CloseParen ts ≡ false
unfolding sees
front_port (declared_port (input word) signed range) = refl
front_port (declared_port output_reg signed range) = refl
front_port (declared_port (output_wire none word) signed range) = refl
front_port lone_port = refl

front_ports : {given : Option Port} {ts us : Tokens} {all : List Port} → ArePorts given ts all us → sees k.CloseParen ts ≡ false
front_ports (last_port one) = front_port one
front_ports (more_ports one rest) = front_port one

port_list_complete : (ts us : Tokens) (all : List Port) → IsPortList ts all us → read.port_list ts ≡ Some (all, us)
unfolding read.port_list read.ports_inside read.ports
port_list_complete ts us all (no_list none) = eat_no k.OpenParen us _ _ (not_seen k.OpenParen us refl none) refl
port_list_complete ts us all (empty_list {p = p} {q = q}) = eat_yes k.OpenParen p (at q k.CloseParen ∷ us) _ _ (eat_yes k.CloseParen q us _ _ refl)
port_list_complete ts us all (grammar.ports {us = vs} {p = p} {q = q} list) =
    eat_yes k.OpenParen p vs _ _ (eat_no k.CloseParen vs _ _ (front_ports list)
    (goes _ (ports_complete (length vs) None [] all vs (at q k.CloseParen ∷ us) list (sees_other k.Comma k.CloseParen q us refl) (omega arith))
    (goes_mark k.CloseParen q us _ refl)))

module_complete : (ts us : Tokens) (a : Module) → IsModule ts a us → read.one_module ts ≡ Some (a, us)
unfolding read.one_module
module_complete ts us a
    (a_module {us = xs} {vs = vs} {ws = ws} {p = p} {q = q} {r = r} {o = o} {name = name} {params = params} {items = items} {ports = ports} one two three) =
    goes_mark k.Module p (at q (k.Name name) ∷ xs) _ (goes _ (name_complete q name xs) (goes _ (header_complete xs vs params one)
    (goes _ (port_list_complete vs (at r k.Semicolon ∷ ws) ports two) (goes_mark k.Semicolon r ws _
    (goes _ (whole_items_complete k.EndModule o ws us items refl three) (goes_mark k.EndModule o us _ refl))))))

-- a module has tokens
not_the_end : {ts us : Tokens} {a : Module} → IsModule ts a us → read.is_end ts ≡ false
not_the_end (a_module params list items) = refl

modules_from_complete : (t : ℕ) (found all : List Module) (ts : Tokens) → AreModules ts all → length ts < t
    → read.modules_from t found ts ≡ Some (found ++ all, [])
unfolding read.modules_from
modules_from_complete zero found all ts list turns = absurd (omega (arith, turns))
modules_from_complete (suc t) found all ts no_modules turns = ap (λ x. Some (x, [])) (sym (append_nil found))
modules_from_complete (suc t) found all ts (more_modules {us = vs} {a = a} {all = others} one rest) turns =
    rw (not_the_end one) (goes _ (module_complete ts vs a one)
    (modules_from_complete t (found ++ a ∷ []) others vs rest (omega (arith, shorter_module one))
    ∙ ap (λ x. Some (x, [])) (append_assoc found (a ∷ []) others)))

pub only_modules_complete : (ts : Tokens) (all : List Module) → AreModules ts all → read.only_modules ts ≡ Some all
unfolding read.only_modules read.modules
only_modules_complete ts all list = rw (modules_from_complete (length ts + 1) [] all ts list (omega arith)) refl

-- the same tokens spell the same modules
pub one_file : (ts : Tokens) (a b : List Module) → AreModules ts a → AreModules ts b → a ≡ b
one_file ts a b one two = same_Some a b (sym (only_modules_complete ts a one) ∙ only_modules_complete ts b two)

-- a file is its modules and its coverage comments
pub one_source : (tokens : TokenList) (a b : SourceFile) → SpellsFile tokens a → SpellsFile tokens b → a ≡ b
one_source tokens a b one two =
    let modules = one_file tokens.tokens a.modules b.modules one.0 two.0 in
    let pragmas = one.1 ∙ sym two.1 in
    ap (λ x. record { modules = x; pragmas = a.pragmas }) modules ∙ ap (λ x. record { modules = b.modules; pragmas = x }) pragmas
