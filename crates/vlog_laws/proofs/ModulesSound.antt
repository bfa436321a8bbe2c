-- What is read as a module or a file is spelled so.
use Rattle.std.proofs.Common.{◌≡◌, ℕ, zero, suc, ◌+◌, true, false, cond, List, [], ◌∷◌, ◌++◌, length, Option, Some, None, refl, sym, ◌∙◌, ap, subst, inl, inr}
use Rattle.std.proofs.Common.{append_assoc}
use Rattle.cov_types.specs.declared.place.Place.{Place}
use Rattle.vlog_tokens.specs.declared.token.TokenKind.{TokenKind}
use Rattle.vlog_tokens.specs.declared.token.TokenKind.TheVariants as k
use Rattle.vlog_tree.specs.declared.item.ParamForm.{ParamForm}
use Rattle.vlog_tree.specs.declared.item.ParamName.{ParamName}
use Rattle.vlog_tree.specs.declared.item.Item.{Item}
use Rattle.vlog_tree.specs.declared.item.ItemKind.TheVariants as i
use Rattle.vlog_tree.specs.declared.module.PortKind.{PortKind}
use Rattle.vlog_tree.specs.declared.module.Port.{Port}
use Rattle.vlog_tree.specs.declared.module.Module.{Module}
use Rattle.vlog_tree.specs.Trees.{item}
use Rattle.vlog_grammar.specs.Tokens.{Tokens, at}
use Rattle.vlog_grammar.specs.Parts.{IsOptional}
use Rattle.vlog_grammar.specs.Expressions.{IsRange}
use Rattle.vlog_grammar.specs.Items.{IsParamName, param_name, a_name, AreItems}
use Rattle.vlog_grammar.specs.Modules as grammar
use Rattle.vlog_grammar.specs.Modules.{IsSetting, declared, AreSettings, last_setting, more_settings, IsHeader, no_header, IsDirection, input, output_reg}
use Rattle.vlog_grammar.specs.Modules.{output_wire, IsPort, ArePorts, last_port, more_ports, IsPortList, no_list, empty_list, IsModule, a_module, AreModules}
use Rattle.vlog_grammar.specs.Modules.{no_modules, more_modules}
use Rattle.vlog_reading.specs.Reading.{sees, after, first_place}
use Rattle.vlog_reading.specs.ReadParts as parts
use Rattle.vlog_reading.specs.ReadItemParts as item_parts
use Rattle.vlog_reading.specs.ReadItems as items
use Rattle.vlog_reading.specs.ReadModules as read
use Rattle.vlog_laws.proofs.Basics.{nothing, both, and_then_some, if_some, expects, eats, unseen, before, onto, same}
use Rattle.vlog_laws.proofs.Sound.{whole_some}
use Rattle.vlog_laws.proofs.PartsSound.{name_sound}
use Rattle.vlog_laws.proofs.StatementsSound.{append_nil}
use Rattle.vlog_laws.proofs.ItemPartsSound.{signed_range_sound, word_there, param_form_sound, param_name_sound}
use Rattle.vlog_laws.proofs.ItemsSound.{whole_items_sound}

-- what a name alone takes from the one before takes no tokens
kept_sound : {A : Type 0} (given : Option A) (ts us : Tokens) (a : A) → read.from_before given ts ≡ Some (a, us) → (given ≡ Some a) × (ts ≡ us)
kept_sound (Some b) ts us a h = let ends = both b a ts us h in (ap (λ x. Some x) ends.0, ends.1)
kept_sound None ts us a h = nothing (a, us) h

-- the place of a name alone is that of the first token
lone_at : (form : ParamForm) (name : ParamName) (ts us : Tokens) → IsParamName ts name us
    → IsSetting (Some form) ts (item (first_place ts) (i.Parameter false form (name ∷ []))) form us
lone_at form name ts us (param_name a_name constant) = grammar.lone (param_name a_name constant)

group_sound : (given : Option ParamForm) (ts us : Tokens) (x : Item × ParamForm) → read.setting given ts ≡ Some (x, us) → IsSetting given ts x.0 x.1 us
unfolding read.setting read.setting_form read.setting_of
group_sound given ts us x h =
    let form = and_then_some (cond (sees k.Parameter ts) item_parts.param_form (read.from_before given) (after k.Parameter ts)) _ (x, us) h in
    let name = and_then_some (item_parts.param_name form.1) _ (x, us) form.3 in
    let it = param_name_sound form.1 name.1 name.0 name.2 in
    same (λ y z w. IsSetting given y z.0 z.1 w) name.3 (elim (eats k.Parameter item_parts.param_form (read.from_before given) ts (form.0, form.1) refl form.2) [
      | inl some ↦
          subst (λ y. IsSetting given y (item (first_place y) (i.Parameter false form.0 (name.0 ∷ []))) form.0 name.1) (sym some.2)
          (declared (param_form_sound some.1 form.1 form.0 some.3) it)
      | inr none ↦
          let old = kept_sound given ts form.1 form.0 none.1 in
          subst (λ g. IsSetting g ts (item (first_place ts) (i.Parameter false form.0 (name.0 ∷ []))) form.0 name.1) (sym old.0)
          (lone_at form.0 name.0 ts name.1 (before IsParamName (sym old.1) it))
    ])

-- each parameter is read after the form of the one before
groups_from_sound : (t : ℕ) (given : Option ParamForm) (found : List Item) (ts us : Tokens) (all : List Item)
    → read.settings_from t given found ts ≡ Some (all, us)
    → (new : List Item) × (all ≡ found ++ new) × AreSettings given ts new us
unfolding read.settings_from
groups_from_sound zero given found ts us all h = nothing (all, us) h
groups_from_sound (suc t) given found ts us all h =
    let first = and_then_some (read.setting given ts) _ (all, us) h in
    let one = group_sound given ts first.1 first.0 first.2 in
    elim (eats k.Comma _ _ first.1 (all, us) refl first.3) [
      | inl some ↦
          let rest = groups_from_sound t (Some first.0.1) (found ++ first.0.0 ∷ []) some.1 us all some.3 in (
            first.0.0 ∷ rest.0,
            rest.1 ∙ append_assoc found (first.0.0 ∷ []) rest.0,
            more_settings (onto (λ x y z. IsSetting given x y first.0.1 z) some.2 one) rest.2,
          )
      | inr none ↦
          let ends = both (found ++ first.0.0 ∷ []) all first.1 us none.1 in
          (first.0.0 ∷ [], sym ends.0, onto (AreSettings given) ends.1 (last_setting one))
    ]

groups_sound : (ts us : Tokens) (all : List Item) → read.settings ts ≡ Some (all, us) → AreSettings None ts all us
unfolding read.settings
groups_sound ts us all h =
    let found = groups_from_sound (length ts) None [] ts us all h in
    subst (λ x. AreSettings None ts x us) (sym found.1) found.2

header_sound : (ts us : Tokens) (all : List Item) → read.header ts ≡ Some (all, us) → IsHeader ts all us
unfolding read.header read.header_inside
header_sound ts us all h =
    elim (eats k.Hash _ _ ts (all, us) refl h) [
      | inl hash ↦
          let front = expects k.OpenParen _ hash.1 (all, us) refl hash.3 in
          let list = and_then_some (read.settings front.1) _ (all, us) front.3 in
          let shut = expects k.CloseParen _ list.1 (all, us) refl list.3 in
          same IsHeader shut.3 (before IsHeader (sym (hash.2 ∙ ap (λ x. at hash.0 k.Hash ∷ x) front.2))
          (grammar.header (onto (AreSettings None) shut.2 (groups_sound front.1 list.1 list.0 list.2))))
      | inr none ↦ same IsHeader none.1 (no_header (unseen k.Hash ts none.0))
    ]

output_sound : (p : Place) (ts us : Tokens) (a : PortKind) → read.output_kind ts ≡ Some (a, us) → IsDirection (at p k.Output ∷ ts) a us
unfolding read.output_kind
output_sound p ts us a h =
    elim (eats k.Reg _ _ ts (a, us) refl h) [
      | inl word ↦ same IsDirection word.3 (before IsDirection (ap (λ x. at p k.Output ∷ x) (sym word.2)) output_reg)
      | inr none ↦ same IsDirection none.1 (output_wire (unseen k.Reg ts none.0) (word_there k.Wire ts refl))
    ]

direction_at : (kind : TokenKind) (p : Place) (ts us : Tokens) (a : PortKind) → read.direction_by (Some kind) (at p kind ∷ ts) ≡ Some (a, us)
    → IsDirection (at p kind ∷ ts) a us
direction_at k.Input p ts us a h = same IsDirection h (input (word_there k.Wire ts refl))
direction_at k.Output p ts us a h = output_sound p ts us a h
direction_at _ p ts us a h = nothing (a, us) h

direction_sound : (ts us : Tokens) (a : PortKind) → read.direction ts ≡ Some (a, us) → IsDirection ts a us
unfolding read.direction
direction_sound [] us a h = nothing (a, us) h
direction_sound (t ∷ ts) us a h = direction_at t.what t.place ts us a h

-- with the kind, sign and range written out
declared_sound : (given : Option Port) (ts us : Tokens) (a : Port) → read.declared_port (first_place ts) ts ≡ Some (a, us) → IsPort given ts a us
unfolding read.declared_port read.direction
declared_sound given [] us a h = nothing (a, us) h
declared_sound given (t ∷ ts) us a h =
    let kind = and_then_some (read.direction (t ∷ ts)) _ (a, us) h in
    let form = and_then_some (item_parts.signed_range kind.1) _ (a, us) kind.3 in
    let name = and_then_some (parts.name_token form.1) _ (a, us) form.3 in
    let it = name_sound form.1 name.1 name.0 name.2 in
    let place : first_place form.1 ≡ it.0 = ap first_place it.1 in
    let front = signed_range_sound kind.1 form.1 form.0 form.2 in
    same (IsPort given)
    (ap (λ q. Some (record { place = t.place; kind = kind.0; signed = form.0.0; range = form.0.1; name_place = q; name = name.0 }, name.1)) (sym place)
    ∙ name.3)
    (grammar.declared_port (direction_sound (t ∷ ts) kind.1 kind.0 kind.2) front.1 (onto (IsOptional k.OpenBracket IsRange) it.1 front.2))

-- a name alone, with the kind, sign and range of the port before
lone_sound : (given : Option Port) (ts us : Tokens) (a : Port) → read.lone_port (first_place ts) given ts ≡ Some (a, us) → IsPort given ts a us
unfolding read.lone_port
lone_sound given ts us a h =
    let old = and_then_some (read.from_before given ts) _ (a, us) h in
    let name = and_then_some (parts.name_token old.1) _ (a, us) old.3 in
    let it = name_sound old.1 name.1 name.0 name.2 in
    let same_port = kept_sound given ts old.1 old.0 old.2 in
    let spelled : ts ≡ at it.0 (k.Name name.0) ∷ name.1 = same_port.1 ∙ it.1 in
    same (IsPort given) name.3
    (subst (λ g. IsPort g ts
    (record { place = first_place ts; kind = old.0.kind; signed = old.0.signed; range = old.0.range; name_place = first_place ts; name = name.0 }) name.1)
    (sym same_port.0)
    (subst (λ x. IsPort (Some old.0) x
    (record { place = first_place x; kind = old.0.kind; signed = old.0.signed; range = old.0.range; name_place = first_place x; name = name.0 }) name.1)
    (sym spelled) grammar.lone_port))

port_at : (given : Option Port) (kind : TokenKind) (p : Place) (ts us : Tokens) (a : Port) → read.port_by given p (Some kind) (at p kind ∷ ts) ≡ Some (a, us)
    → IsPort given (at p kind ∷ ts) a us
port_at given (k.Name s) p ts us a h = lone_sound given (at p (k.Name s) ∷ ts) us a h
port_at given kind p ts us a h = declared_sound given (at p kind ∷ ts) us a h

port_sound : (given : Option Port) (ts us : Tokens) (a : Port) → read.one_port given ts ≡ Some (a, us) → IsPort given ts a us
unfolding read.one_port
port_sound given [] us a h = declared_sound given [] us a h
port_sound given (t ∷ ts) us a h = port_at given t.what t.place ts us a h

-- each port is read after the one before
ports_from_sound : (t : ℕ) (given : Option Port) (found : List Port) (ts us : Tokens) (all : List Port) → read.ports_from t given found ts ≡ Some (all, us)
    → (new : List Port) × (all ≡ found ++ new) × ArePorts given ts new us
unfolding read.ports_from
ports_from_sound zero given found ts us all h = nothing (all, us) h
ports_from_sound (suc t) given found ts us all h =
    let first = and_then_some (read.one_port given ts) _ (all, us) h in
    let one = port_sound given ts first.1 first.0 first.2 in
    elim (eats k.Comma _ _ first.1 (all, us) refl first.3) [
      | inl some ↦
          let rest = ports_from_sound t (Some first.0) (found ++ first.0 ∷ []) some.1 us all some.3 in
          (first.0 ∷ rest.0, rest.1 ∙ append_assoc found (first.0 ∷ []) rest.0, more_ports (onto (IsPort given) some.2 one) rest.2)
      | inr none ↦
          let ends = both (found ++ first.0 ∷ []) all first.1 us none.1 in
          (first.0 ∷ [], sym ends.0, onto (ArePorts given) ends.1 (last_port one))
    ]

ports_sound : (ts us : Tokens) (all : List Port) → read.ports ts ≡ Some (all, us) → ArePorts None ts all us
unfolding read.ports
ports_sound ts us all h =
    let found = ports_from_sound (length ts) None [] ts us all h in
    subst (λ x. ArePorts None ts x us) (sym found.1) found.2

port_list_sound : (ts us : Tokens) (all : List Port) → read.port_list ts ≡ Some (all, us) → IsPortList ts all us
unfolding read.port_list read.ports_inside
port_list_sound ts us all h =
    elim (eats k.OpenParen _ _ ts (all, us) refl h) [
      | inl front ↦
          before IsPortList (sym front.2) (elim (eats k.CloseParen _ _ front.1 (all, us) refl front.3) [
            | inl shut ↦ before IsPortList (ap (λ x. at front.0 k.OpenParen ∷ x) (sym shut.2)) (same IsPortList shut.3 empty_list)
            | inr some ↦
                let list = and_then_some (read.ports front.1) _ (all, us) some.1 in
                let shut = expects k.CloseParen _ list.1 (all, us) refl list.3 in
                same IsPortList shut.3 (grammar.ports (onto (ArePorts None) shut.2 (ports_sound front.1 list.1 list.0 list.2)))
          ])
      | inr none ↦ same IsPortList none.1 (no_list (unseen k.OpenParen ts none.0))
    ]

module_sound : (ts us : Tokens) (a : Module) → read.one_module ts ≡ Some (a, us) → IsModule ts a us
unfolding read.one_module
module_sound ts us a h =
    let front = expects k.Module _ ts (a, us) refl h in
    let name = and_then_some (parts.name_token front.1) _ (a, us) front.3 in
    let it = name_sound front.1 name.1 name.0 name.2 in
    let params = and_then_some (read.header name.1) _ (a, us) name.3 in
    let ports = and_then_some (read.port_list params.1) _ (a, us) params.3 in
    let end = expects k.Semicolon _ ports.1 (a, us) refl ports.3 in
    let inner = and_then_some (items.whole_items k.EndModule end.1) _ (a, us) end.3 in
    let last = expects k.EndModule _ inner.1 (a, us) refl inner.3 in
    let begin : ts ≡ at front.0 k.Module ∷ at it.0 (k.Name name.0) ∷ name.1 = front.2 ∙ ap (λ x. at front.0 k.Module ∷ x) it.1 in
    same IsModule last.3
    (subst (λ x. IsModule x
    (record { place = first_place x; last = first_place inner.1; name = name.0; params = params.0; ports = ports.0; items = inner.0 }) last.1) (sym begin)
    (subst (λ q. IsModule (at front.0 k.Module ∷ at it.0 (k.Name name.0) ∷ name.1)
    (record { place = front.0; last = q; name = name.0; params = params.0; ports = ports.0; items = inner.0 }) last.1) (sym (ap first_place last.2))
    (a_module (header_sound name.1 params.1 params.0 params.2) (onto IsPortList end.2 (port_list_sound params.1 ports.1 ports.0 ports.2))
    (onto (AreItems false) last.2 (whole_items_sound k.EndModule refl end.1 inner.1 inner.0 inner.2)))))

at_end : (ts : Tokens) → read.is_end ts ≡ true → ts ≡ []
at_end [] h = refl
at_end (t ∷ ts) h = absurd cc

modules_from_sound : (t : ℕ) (found : List Module) (ts us : Tokens) (all : List Module) → read.modules_from t found ts ≡ Some (all, us)
    → (new : List Module) × (all ≡ found ++ new) × AreModules ts new
unfolding read.modules_from
modules_from_sound zero found ts us all h = nothing (all, us) h
modules_from_sound (suc t) found ts us all h =
    elim (if_some (read.is_end ts) _ _ _ h) [
      | inl end ↦
          let ends = both found all ts us end.1 in
          ([], sym ends.0 ∙ sym (append_nil found), subst (λ x. AreModules x []) (sym (at_end ts end.0)) no_modules)
      | inr go ↦
          let first = and_then_some (read.one_module ts) _ (all, us) go.1 in
          let rest = modules_from_sound t (found ++ first.0 ∷ []) first.1 us all first.3 in
          (first.0 ∷ rest.0, rest.1 ∙ append_assoc found (first.0 ∷ []) rest.0, more_modules (module_sound ts first.1 first.0 first.2) rest.2)
    ]

modules_sound : (ts us : Tokens) (all : List Module) → read.modules ts ≡ Some (all, us) → AreModules ts all
unfolding read.modules
modules_sound ts us all h =
    let found = modules_from_sound (length ts + 1) [] ts us all h in
    subst (λ x. AreModules ts x) (sym found.1) found.2

pub only_modules_sound : (ts : Tokens) (all : List Module) → read.only_modules ts ≡ Some all → AreModules ts all
unfolding read.only_modules
only_modules_sound ts all h = modules_sound ts [] all (whole_some _ all h)
