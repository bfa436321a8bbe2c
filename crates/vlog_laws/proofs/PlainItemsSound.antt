-- What is read as an item that holds no items is spelled so.
use Rattle.std.proofs.Common.{◌≡◌, ℕ, Bool, true, false, List, ◌∷◌, Some, None, refl, sym, ◌∙◌, ap, subst, inl, inr}
use Rattle.cov_types.specs.declared.place.Place.{Place}
use Rattle.vlog_tokens.specs.declared.token.TokenKind.TheVariants as k
use Rattle.vlog_tree.specs.declared.expression.Expr.{Expr}
use Rattle.vlog_tree.specs.declared.item.NamePlace.{NamePlace}
use Rattle.vlog_tree.specs.declared.item.ItemKind.{ItemKind}
use Rattle.vlog_tree.specs.declared.item.ItemKind.TheVariants as i
use Rattle.vlog_tree.specs.Trees.{item}
use Rattle.vlog_grammar.specs.Tokens.{Tokens, at}
use Rattle.vlog_grammar.specs.Parts.{AreSeparated}
use Rattle.vlog_grammar.specs.Items as items
use Rattle.vlog_grammar.specs.Items.{IsName, IsWireName, IsRegName, IsForm, IsParamName, IsAssignPart, IsInstance, IsCover, cover, IsPlainItem, wire, reg}
use Rattle.vlog_grammar.specs.Items.{integer, genvar, parameter, localparam, assign, cover_alone, cover_labelled}
use Rattle.vlog_reading.specs.Reading.{Parser, and_then, ◌>>=◌, pure, first_place}
use Rattle.vlog_reading.specs.ReadParts as parts
use Rattle.vlog_reading.specs.ReadStatements as statements
use Rattle.vlog_reading.specs.ReadItemParts as part
use Rattle.vlog_reading.specs.ReadItems as read
use Rattle.vlog_laws.proofs.Basics.{both, and_then_some, expects, eats, before, onto, same}
use Rattle.vlog_laws.proofs.PartsSound.{all_sound}
use Rattle.vlog_laws.proofs.StatementsSound.{whole_statement_sound}
use Rattle.vlog_laws.proofs.ItemPartsSound.{name_place_sound, signed_range_sound, wire_name_sound, reg_name_sound, param_form_sound, param_name_sound}
use Rattle.vlog_laws.proofs.ItemPartsSound.{assign_part_sound, clock_sound, params_sound, instance_sound, cover_sound}

-- an item at a place, where it is of this kind
abbrev pub PlainAt : Bool → Place → Tokens → ItemKind → Tokens → Type 0
PlainAt inside p ts what us = IsPlainItem inside ts (item p what) us

-- a list, and the semicolon after it
list_sound : {A : Type 0} (R : Tokens → A → Tokens → Type 0) (one : Parser A) → ((ts us : Tokens) (a : A) → one ts ≡ Some (a, us) → R ts a us)
    → (make : List A → ItemKind) (ts us : Tokens) (a : ItemKind) → and_then (parts.listed one ts) (λ all. pure (make all)) ≡ Some (a, us)
    → (all : List A) × (q : Place) × AreSeparated R ts all (at q k.Semicolon ∷ us) × (make all ≡ a)
unfolding parts.listed
list_sound R one each make ts us a h =
    let list = and_then_some (parts.listed one ts) _ (a, us) h in
    let all = and_then_some (parts.separated one ts) _ (list.0, list.1) list.2 in
    let end = expects k.Semicolon _ all.1 (list.0, list.1) refl all.3 in
    let found = both all.0 list.0 end.1 list.1 end.3 in
    let ends = both (make list.0) a list.1 us list.3 in (
      all.0,
      end.0,
      onto (AreSeparated R) (end.2 ∙ ap (λ x. at end.0 k.Semicolon ∷ x) (found.1 ∙ ends.1)) (all_sound R one each ts all.1 all.0 all.2),
      ap make found.0 ∙ ends.0,
    )

pub wires_sound : (inside : Bool) (p : Place) (ts us : Tokens) (a : ItemKind) → read.wires ts ≡ Some (a, us) → PlainAt inside p (at p k.Wire ∷ ts) a us
unfolding read.wires
wires_sound inside p ts us a h =
    let form = and_then_some (part.signed_range ts) _ (a, us) h in
    let it = signed_range_sound ts form.1 form.0 form.2 in
    let names = list_sound IsWireName part.wire_name wire_name_sound (λ all. i.Wire form.0.0 form.0.1 all) form.1 us a form.3 in
    subst (λ w. PlainAt inside p (at p k.Wire ∷ ts) w us) names.3 (wire it.1 it.2 names.2)

pub regs_sound : (inside : Bool) (p : Place) (ts us : Tokens) (a : ItemKind) → read.regs ts ≡ Some (a, us) → PlainAt inside p (at p k.Reg ∷ ts) a us
unfolding read.regs
regs_sound inside p ts us a h =
    let form = and_then_some (part.signed_range ts) _ (a, us) h in
    let it = signed_range_sound ts form.1 form.0 form.2 in
    let names = list_sound IsRegName part.reg_name reg_name_sound (λ all. i.Reg form.0.0 form.0.1 all) form.1 us a form.3 in
    subst (λ w. PlainAt inside p (at p k.Reg ∷ ts) w us) names.3 (reg it.1 it.2 names.2)

pub integers_sound : (inside : Bool) (p : Place) (ts us : Tokens) (a : ItemKind)
    → and_then (parts.listed part.name_place ts) (λ all. pure (i.Integer all)) ≡ Some (a, us)
    → PlainAt inside p (at p k.Integer ∷ ts) a us
integers_sound inside p ts us a h =
    let names = list_sound IsName part.name_place name_place_sound (λ all. i.Integer all) ts us a h in
    subst (λ w. PlainAt inside p (at p k.Integer ∷ ts) w us) names.3 (integer names.2)

pub genvars_sound : (inside : Bool) (p : Place) (ts us : Tokens) (a : ItemKind)
    → and_then (parts.listed part.name_place ts) (λ all. pure (i.Genvar all)) ≡ Some (a, us)
    → PlainAt inside p (at p k.GenVar ∷ ts) a us
genvars_sound inside p ts us a h =
    let names = list_sound IsName part.name_place name_place_sound (λ all. i.Genvar all) ts us a h in
    subst (λ w. PlainAt inside p (at p k.GenVar ∷ ts) w us) names.3 (genvar names.2)

pub parameter_sound : (p : Place) (ts us : Tokens) (a : ItemKind) → read.parameters false ts ≡ Some (a, us) → PlainAt false p (at p k.Parameter ∷ ts) a us
unfolding read.parameters
parameter_sound p ts us a h =
    let form = and_then_some (part.param_form ts) _ (a, us) h in
    let names = list_sound IsParamName part.param_name param_name_sound (λ all. i.Parameter false form.0 all) form.1 us a form.3 in
    subst (λ w. PlainAt false p (at p k.Parameter ∷ ts) w us) names.3 (parameter (param_form_sound ts form.1 form.0 form.2) names.2)

pub localparam_sound : (inside : Bool) (p : Place) (ts us : Tokens) (a : ItemKind) → read.parameters true ts ≡ Some (a, us)
    → PlainAt inside p (at p k.LocalParam ∷ ts) a us
unfolding read.parameters
localparam_sound inside p ts us a h =
    let form = and_then_some (part.param_form ts) _ (a, us) h in
    let names = list_sound IsParamName part.param_name param_name_sound (λ all. i.Parameter true form.0 all) form.1 us a form.3 in
    subst (λ w. PlainAt inside p (at p k.LocalParam ∷ ts) w us) names.3 (localparam (param_form_sound ts form.1 form.0 form.2) names.2)

pub assignments_sound : (inside : Bool) (p : Place) (ts us : Tokens) (a : ItemKind) → read.assignments ts ≡ Some (a, us)
    → PlainAt inside p (at p k.Assign ∷ ts) a us
unfolding read.assignments
assignments_sound inside p ts us a h =
    let all = list_sound IsAssignPart part.assign_part assign_part_sound (λ all. i.Assign all) ts us a h in
    subst (λ w. PlainAt inside p (at p k.Assign ∷ ts) w us) all.3 (assign all.2)

pub initial_sound : (inside : Bool) (p : Place) (ts us : Tokens) (a : ItemKind) → read.initial ts ≡ Some (a, us) → PlainAt inside p (at p k.Initial ∷ ts) a us
unfolding read.initial
initial_sound inside p ts us a h =
    let body = and_then_some (statements.whole_statement ts) _ (a, us) h in
    same (PlainAt inside p) body.3 (items.initial (whole_statement_sound ts body.1 body.0 body.2))

pub always_sound : (inside : Bool) (p : Place) (ts us : Tokens) (a : ItemKind) → read.always ts ≡ Some (a, us) → PlainAt inside p (at p k.Always ∷ ts) a us
unfolding read.always
always_sound inside p ts us a h =
    let rising = and_then_some (part.clock ts) _ (a, us) h in
    let body = and_then_some (statements.whole_statement rising.1) _ (a, us) rising.3 in
    same (PlainAt inside p) body.3 (items.always (clock_sound ts rising.1 rising.0 rising.2) (whole_statement_sound rising.1 body.1 body.0 body.2))

-- the place is that of the word `cover`
cover_place : {ts us : Tokens} {word : Place} {clock : List ℕ} {test : Expr} → IsCover ts word clock test us → first_place ts ≡ word
cover_place (cover one) = refl

pub cover_alone_sound : (inside : Bool) (ts us : Tokens) (a : ItemKind) → part.cover None ts ≡ Some (a, us) → PlainAt inside (first_place ts) ts a us
cover_alone_sound inside ts us a h =
    let found = cover_sound None ts us a h in
    subst (λ w. PlainAt inside (first_place ts) ts w us) (sym found.3)
    (subst (λ q. PlainAt inside q ts (i.Cover found.0 None found.1 found.2) us) (sym (cover_place found.4)) (cover_alone found.4))

instances_sound : (inside : Bool) (p : Place) (of : List ℕ) (ts us : Tokens) (a : ItemKind) → read.instances (record { place = p; name = of }) ts ≡ Some (a, us)
    → PlainAt inside p (at p (k.Name of) ∷ ts) a us
unfolding read.instances
instances_sound inside p of ts us a h =
    let values = and_then_some (part.parameter_values ts) _ (a, us) h in
    let made = list_sound IsInstance part.instance instance_sound (λ all. i.Instances of values.0 all) values.1 us a values.3 in
    subst (λ w. PlainAt inside p (at p (k.Name of) ∷ ts) w us) made.3 (items.instances (params_sound ts values.1 values.0 values.2) made.2)

pub labelled_sound : (inside : Bool) (p : Place) (name : List ℕ) (ts us : Tokens) (a : ItemKind)
    → (part.name_place >>= read.cover_or_instances) (at p (k.Name name) ∷ ts) ≡ Some (a, us) → PlainAt inside p (at p (k.Name name) ∷ ts) a us
unfolding part.name_place parts.name_token read.cover_or_instances
labelled_sound inside p name ts us a h =
    elim (eats k.Colon _ _ ts (a, us) refl h) [
      | inl colon ↦
          let found = cover_sound (Some (record { place = p; name = name })) colon.1 us a colon.3 in
          before (PlainAt inside p) (ap (λ x. at p (k.Name name) ∷ x) (sym colon.2))
          (subst (λ w. PlainAt inside p (at p (k.Name name) ∷ at colon.0 k.Colon ∷ colon.1) w us) (sym found.3) (cover_labelled found.4))
      | inr none ↦ instances_sound inside p name ts us a none.1
    ]
