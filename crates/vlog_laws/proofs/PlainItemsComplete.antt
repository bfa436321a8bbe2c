-- An item that holds no items and is spelled is read so.
use Rattle.std.proofs.Common.{◌≡◌, ◌<◌, length, ℕ, Bool, true, false, List, ◌∷◌, Option, Some, None, refl}
use Rattle.cov_types.specs.declared.place.Place.{Place}
use Rattle.vlog_tokens.specs.declared.token.TokenKind.TheVariants as k
use Rattle.vlog_tree.specs.declared.expression.Expr.{Expr}
use Rattle.vlog_tree.specs.declared.expression.RangeExpr.{RangeExpr}
use Rattle.vlog_tree.specs.declared.item.NamePlace.{NamePlace}
use Rattle.vlog_tree.specs.declared.item.WireName.{WireName}
use Rattle.vlog_tree.specs.declared.item.RegName.{RegName}
use Rattle.vlog_tree.specs.declared.item.ParamForm.{ParamForm}
use Rattle.vlog_tree.specs.declared.item.ParamName.{ParamName}
use Rattle.vlog_tree.specs.declared.item.AssignPart.{AssignPart}
use Rattle.vlog_tree.specs.declared.item.Conns.{Conns}
use Rattle.vlog_tree.specs.declared.item.Instance.{Instance}
use Rattle.vlog_tree.specs.declared.item.Item.{Item}
use Rattle.vlog_tree.specs.declared.item.ItemKind.TheVariants as i
use Rattle.vlog_tree.specs.Trees.{item}
use Rattle.vlog_grammar.specs.Tokens.{Tokens, at}
use Rattle.vlog_grammar.specs.Parts.{AreSeparated, last, more, IsOptional, IsWordThere}
use Rattle.vlog_grammar.specs.Expressions.{IsRange}
use Rattle.vlog_grammar.specs.Items as items
use Rattle.vlog_grammar.specs.Items.{IsName, a_name, IsWireName, IsRegName, IsForm, IsParamName, IsAssignPart, AreParameterValues, no_params, IsInstance}
use Rattle.vlog_grammar.specs.Items.{IsCover, cover, IsPlainItem, wire, reg, integer, genvar, parameter, localparam, assign, initial, always, cover_alone}
use Rattle.vlog_grammar.specs.Items.{cover_labelled}
use Rattle.vlog_reading.specs.Reading.{Parser, sees}
use Rattle.vlog_reading.specs.ReadParts as parts
use Rattle.vlog_reading.specs.ReadItemParts as part
use Rattle.vlog_reading.specs.ReadItems as read
use Rattle.vlog_laws.proofs.Basics.{Ends, goes, goes_mark, eat_yes, eat_no}
use Rattle.vlog_laws.proofs.StatementsComplete.{whole_statement_complete}
use Rattle.vlog_laws.proofs.ShorterItemParts.{shorter_name, shorter_wire_name, shorter_reg_name, shorter_param_name, shorter_assign_part, shorter_instance}
use Rattle.vlog_laws.proofs.ItemPartsComplete.{all_before_complete, name_place_complete, signed_range_complete, wire_name_complete, reg_name_complete}
use Rattle.vlog_laws.proofs.ItemPartsComplete.{param_form_complete, param_name_complete, assign_part_complete, clock_complete, params_complete}
use Rattle.vlog_laws.proofs.ItemPartsComplete.{instance_complete, cover_complete}

-- a list is read up to the semicolon after it
list_complete : {A : Type 0} (R : Tokens → A → Tokens → Type 0) (one : Parser A)
    → ((ts us : Tokens) (a : A) → R ts a us → Ends us → one ts ≡ Some (a, us)) → ((ts us : Tokens) (a : A) → R ts a us → length us < length ts)
    → (q : Place) (ts us : Tokens) (all : List A) → AreSeparated R ts all (at q k.Semicolon ∷ us) → parts.listed one ts ≡ Some (all, us)
unfolding parts.listed
list_complete R one each shorter q ts us all list =
    goes _ (all_before_complete R one k.Semicolon refl refl refl each shorter q ts us all list) (goes_mark k.Semicolon q us _ refl)

pub wires_complete : (q : Place) (ts vs ws us : Tokens) (signed : Bool) (bounds : Option RangeExpr) (names : List WireName)
    → IsWordThere k.Signed ts signed vs → IsOptional k.OpenBracket IsRange vs bounds ws → AreSeparated IsWireName ws names (at q k.Semicolon ∷ us)
    → read.wires ts ≡ Some (i.Wire signed bounds names, us)
unfolding read.wires
wires_complete q ts vs ws us signed bounds names word some list =
    goes _ (signed_range_complete ts vs ws signed bounds word some)
    (goes _ (list_complete IsWireName part.wire_name wire_name_complete (λ ts us a one. shorter_wire_name one) q ws us names list) refl)

pub regs_complete : (q : Place) (ts vs ws us : Tokens) (signed : Bool) (bounds : Option RangeExpr) (names : List RegName)
    → IsWordThere k.Signed ts signed vs → IsOptional k.OpenBracket IsRange vs bounds ws → AreSeparated IsRegName ws names (at q k.Semicolon ∷ us)
    → read.regs ts ≡ Some (i.Reg signed bounds names, us)
unfolding read.regs
regs_complete q ts vs ws us signed bounds names word some list =
    goes _ (signed_range_complete ts vs ws signed bounds word some)
    (goes _ (list_complete IsRegName part.reg_name reg_name_complete (λ ts us a one. shorter_reg_name one) q ws us names list) refl)

pub names_complete : (q : Place) (ts us : Tokens) (all : List NamePlace) → AreSeparated IsName ts all (at q k.Semicolon ∷ us)
    → parts.listed part.name_place ts ≡ Some (all, us)
names_complete q ts us all list =
    list_complete IsName part.name_place (λ ts us a one ends. name_place_complete ts us a one) (λ ts us a one. shorter_name one) q ts us all list

pub parameters_complete : (local : Bool) (q : Place) (ts vs us : Tokens) (form : ParamForm) (all : List ParamName)
    → IsForm ts form vs → AreSeparated IsParamName vs all (at q k.Semicolon ∷ us) → read.parameters local ts ≡ Some (i.Parameter local form all, us)
unfolding read.parameters
parameters_complete local q ts vs us form all kind list =
    goes _ (param_form_complete ts vs form kind)
    (goes _ (list_complete IsParamName part.param_name param_name_complete (λ ts us a one. shorter_param_name one) q vs us all list) refl)

pub assignments_complete : (q : Place) (ts us : Tokens) (all : List AssignPart) → AreSeparated IsAssignPart ts all (at q k.Semicolon ∷ us)
    → read.assignments ts ≡ Some (i.Assign all, us)
unfolding read.assignments
assignments_complete q ts us all list =
    goes _ (list_complete IsAssignPart part.assign_part assign_part_complete (λ ts us a one. shorter_assign_part one) q ts us all list) refl

front_instances : {ts us : Tokens} {all : List Instance} → AreSeparated IsInstance ts all us → sees k.Colon ts ≡ false
unfolding sees
front_instances (last (items.instance a_name ports)) = refl
front_instances (more (items.instance a_name ports) rest) = refl

-- no colon comes after the name of the module
front_params : {ts vs us : Tokens} {values : Conns} {made : List Instance} → AreParameterValues ts values vs → AreSeparated IsInstance vs made us
    → sees k.Colon ts ≡ false
unfolding sees
front_params (no_params none) list = front_instances list
front_params (items.params all) list = refl

pub instances_complete : (of : NamePlace) (q : Place) (ts vs us : Tokens) (values : Conns) (made : List Instance)
    → AreParameterValues ts values vs → AreSeparated IsInstance vs made (at q k.Semicolon ∷ us)
    → read.cover_or_instances of ts ≡ Some (i.Instances of.name values made, us)
unfolding read.cover_or_instances read.instances
instances_complete of q ts vs us values made some list =
    eat_no k.Colon ts _ _ (front_params some list) (goes _ (params_complete ts vs values some)
    (goes _ (list_complete IsInstance part.instance (λ ts us a one ends. instance_complete ts us a one)
    (λ ts us a one. shorter_instance one) q vs us made list) refl))

pub label_complete : (label : NamePlace) (q word : Place) (ts us : Tokens) (clock : List ℕ) (test : Expr) → IsCover ts word clock test us
    → read.cover_or_instances label (at q k.Colon ∷ ts) ≡ Some (i.Cover word (Some label) clock test, us)
unfolding read.cover_or_instances
label_complete label q word ts us clock test tree = eat_yes k.Colon q ts _ _ (cover_complete (Some label) ts us word clock test tree)

pub plain_layer_complete : (nested : Bool → Parser Item) (inside : Bool) (ts us : Tokens) (a : Item) → IsPlainItem inside ts a us
    → read.layer nested inside ts ≡ Some (a, us)
unfolding read.layer read.initial read.always
plain_layer_complete nested inside ts us a (wire {signed = signed} {us = xs} {vs = vs} {ws = ws} {q = q} {range = bounds} {names = names} word some list) =
    goes _ (wires_complete q xs vs ws us signed bounds names word some list) refl
plain_layer_complete nested inside ts us a (reg {signed = signed} {us = xs} {vs = vs} {ws = ws} {q = q} {range = bounds} {names = names} word some list) =
    goes _ (regs_complete q xs vs ws us signed bounds names word some list) refl
plain_layer_complete nested inside ts us a (integer {us = xs} {q = q} {names = names} list) = goes _ (goes _ (names_complete q xs us names list) refl) refl
plain_layer_complete nested inside ts us a (genvar {us = xs} {q = q} {names = names} list) = goes _ (goes _ (names_complete q xs us names list) refl) refl
plain_layer_complete nested inside ts us a (parameter {us = xs} {vs = vs} {q = q} {form = form} {names = names} kind list) =
    goes _ (parameters_complete false q xs vs us form names kind list) refl
plain_layer_complete nested inside ts us a (localparam {us = xs} {vs = vs} {q = q} {form = form} {names = names} kind list) =
    goes _ (parameters_complete true q xs vs us form names kind list) refl
plain_layer_complete nested inside ts us a (assign {us = xs} {q = q} {parts = all} list) = goes _ (assignments_complete q xs us all list) refl
plain_layer_complete nested inside ts us a (initial {us = xs} {body = body} tree) = goes _ (goes _ (whole_statement_complete xs us body tree) refl) refl
plain_layer_complete nested inside ts us a (always {us = xs} {vs = vs} {clock = rising} {body = body} some tree) =
    goes _ (goes _ (clock_complete xs vs rising some) (goes _ (whole_statement_complete vs us body tree) refl)) refl
plain_layer_complete nested inside ts us a (cover_alone {word = word} {clock = clock} {test = test} (cover one)) =
    goes _ (cover_complete None ts us word clock test (cover one)) refl
plain_layer_complete nested inside ts us a (cover_labelled {ts = xs} {p = p} {q = q} {word = word} {label = label} {clock = clock} {test = test} tree) =
    goes _ (goes _ (name_place_complete (at p (k.Name label) ∷ at q k.Colon ∷ xs) (at q k.Colon ∷ xs) _ a_name)
    (label_complete _ q word xs us clock test tree)) refl
plain_layer_complete nested inside ts us a (items.instances {us = xs} {vs = vs} {p = p} {q = q} {of = of} {params = values} {made = made} some list) =
    goes _ (goes _ (name_place_complete (at p (k.Name of) ∷ xs) xs _ a_name) (instances_complete _ q xs vs us values made some list)) refl
