-- The arms of items that are read from tokens are told by their places.
use Rattle.std.proofs.Common.{◌≡◌, ◌∙◌, sym, ap, refl, subst, ℕ, ◌≤◌, ◌⊎◌, inl, inr, Bool, true, false, List, [], ◌∷◌, ◌++◌, length}
use Rattle.std.proofs.Common.{Option, Some, None, arith}
use Rattle.std.specs.List.{flat_map}
use Rattle.std.proofs.lemmas.List.Elements.{Contains-append_cases}
use Rattle.cov_types.specs.declared.place.Place.{Place}
use Rattle.vlog_tokens.specs.declared.token.Token.{Token}
use Rattle.vlog_tokens.specs.declared.token.TokenKind.TheVariants as k
use Rattle.vlog_tree.specs.declared.expression.Expr.{Expr}
use Rattle.vlog_tree.specs.declared.statement.Stmt.{Stmt}
use Rattle.vlog_tree.specs.declared.item.NamePlace.{NamePlace}
use Rattle.vlog_tree.specs.declared.item.BlockPlaces.{BlockPlaces}
use Rattle.vlog_tree.specs.declared.item.ParamForm.{ParamForm}
use Rattle.vlog_tree.specs.declared.item.ParamName.{ParamName}
use Rattle.vlog_tree.specs.declared.item.Item.{Item, out-roll-Item}
use Rattle.vlog_tree.specs.declared.item.ItemKind.{ItemKind, out-ItemKind}
use Rattle.vlog_tree.specs.declared.item.ItemKind.TheVariants as i
use Rattle.vlog_tree.specs.declared.item.ItemKind.TheOpen as o
use Rattle.vlog_tree.specs.declared.item.GenArm.{GenArm, out-GenArm, out-roll-GenArm}
use Rattle.vlog_tree.specs.declared.item.GenBody.{GenBody, out-GenBody, out-roll-GenBody}
use Rattle.vlog_tree.specs.Trees.{Layer, layer, item, item_place, gen_arm, gen_body}
use Rattle.vlog_tree.specs.Inside.{statement_of, bodies_of, items_in, IsAmong, listed, deeper}
use Rattle.vlog_grammar.specs.Tokens.{Tokens, at}
use Rattle.vlog_grammar.specs.Items.{IsCover, cover, IsPlainItem, wire, reg, integer, genvar, parameter, localparam, assign, initial, always, cover_alone}
use Rattle.vlog_grammar.specs.Items.{cover_labelled, instances, IsItem, plain_item, region, loop, choose, AreGenArms, no_else, last_else, else_if, IsBranch}
use Rattle.vlog_grammar.specs.Items.{gen_block, gen_item, AreItems, no_items, more_items}
use Rattle.vlog_laws.proofs.Shorter.{shorter_expr}
use Rattle.vlog_laws.proofs.ShorterStatements.{shorter_stmt, shorter_head}
use Rattle.vlog_laws.proofs.ShorterItemParts.{shorter_clock}
use Rattle.vlog_laws.proofs.ShorterItems.{shorter_block_label, shorter_item, shorter_items, shorter_gen, shorter_gen_arms}
use Rattle.scope_meaning.proofs.WalkLaws.{never, same, none_some}
use Rattle.flat_source_meaning.specs.SourceArms.{Arm, body_arm, cover_arm, IsArmInside}
use Rattle.arm_place_laws.proofs.Ends.{IsEnd, next, OnePlace}
use Rattle.arm_place_laws.proofs.Past.{past_expr, past_head}
use Rattle.arm_place_laws.proofs.PastItems.{past_clock, past_block_label, past_item, past_branch}
use Rattle.arm_place_laws.proofs.Told.{AreTold, none_there, fewer, both, at_token}
use Rattle.arm_place_laws.proofs.StatementArms.{nothing_in, one_of, stmt_told}

-- the arms of an item itself: the body of a process and the arms in it, a cover
pub data IsArmOf : Place → Layer → Arm → Type 0 where
  its_body : {p : Place} {l : Layer} {b : Stmt} → statement_of l ≡ Some b → IsArmOf p l (body_arm p b)
  inside : {p : Place} {l : Layer} {b : Stmt} {x : Arm} → statement_of l ≡ Some b → IsArmInside b x → IsArmOf p l x
  of_cover : {p word : Place} {label : Option NamePlace} {clock : List ℕ} {test : Expr} → IsArmOf p (o.Cover word label clock test) (cover_arm word label)

-- an arm of one of some items, or of one inside them
pub record IsArmAmong (items : List Item) (x : Arm) : Type 0 where
  pub item : Item
  pub among : IsAmong items item
  pub own : IsArmOf (item_place item) (layer item) x

abbrev pub ByLayer : Place → Layer → Arm → Type 0
ByLayer p l x = IsArmOf p l x ⊎ IsArmAmong (items_in l) x

abbrev pub ArmIn : Item → Arm → Type 0
ArmIn a x = ByLayer (item_place a) (layer a) x

-- ---- lists of items

none_among : {b : Item} → IsAmong [] b → ⊥
none_among (listed found) = nothing_in found
none_among (deeper found inner) = nothing_in found

pub no_arm_among : {x : Arm} → IsArmAmong [] x → ⊥
no_arm_among found = none_among found.among

first_item : (a : Item) (items : List Item) {b : Item} → IsAmong (a ∷ items) b → ((a ≡ b) ⊎ IsAmong (items_in (layer a)) b) ⊎ IsAmong items b
first_item a items {b} (listed found) = elim (one_of a items b found) [
  | inl first ↦ inl (inl first)
  | inr more ↦ inr (listed more)
]
first_item a items {b} (deeper {b = c} found inner) = elim (one_of a items c found) [
  | inl first ↦ inl (inr (subst (λ d. IsAmong (items_in (layer d)) b) (sym first) inner))
  | inr more ↦ inr (deeper more inner)
]

pub first_arm : (a : Item) (items : List Item) (x : Arm) → IsArmAmong (a ∷ items) x → ArmIn a x ⊎ IsArmAmong items x
first_arm a items x found = elim (first_item a items found.among) [
  | inl first ↦ elim first [
    | inl same ↦ inl (inl (subst (λ b. IsArmOf (item_place b) (layer b) x) (sym same) found.own))
    | inr inner ↦ inl (inr (record { item = found.item; among = inner; own = found.own }))
  ]
  | inr more ↦ inr (record { item = found.item; among = more; own = found.own })
]

pub only_item : (a : Item) (x : Arm) → IsArmAmong (a ∷ []) x → ArmIn a x
only_item a x found = elim (first_arm a [] x found) [
  | inl first ↦ first
  | inr none ↦ absurd (no_arm_among none)
]

in_either : (xs ys : List Item) {b : Item} → IsAmong (xs ++ ys) b → IsAmong xs b ⊎ IsAmong ys b
in_either xs ys {b} (listed found) = elim (Contains-append_cases xs ys b found) [
  | inl first ↦ inl (listed first)
  | inr more ↦ inr (listed more)
]
in_either xs ys {b} (deeper {b = c} found inner) = elim (Contains-append_cases xs ys c found) [
  | inl first ↦ inl (deeper first inner)
  | inr more ↦ inr (deeper more inner)
]

arm_in_either : (xs ys : List Item) (x : Arm) → IsArmAmong (xs ++ ys) x → IsArmAmong xs x ⊎ IsArmAmong ys x
arm_in_either xs ys x found = elim (in_either xs ys found.among) [
  | inl first ↦ inl (record { item = found.item; among = first; own = found.own })
  | inr more ↦ inr (record { item = found.item; among = more; own = found.own })
]

-- ---- one item, by its layer

layer-item : (p : Place) (what : ItemKind) → layer (item p what) ≡ out-ItemKind what
layer-item p what = ap (λ x. out-ItemKind x.what) (out-roll-Item (record { place = p; what = what }))

by_layer : (p : Place) (what : ItemKind) {l : Layer} → out-ItemKind what ≡ l → (x : Arm) → ArmIn (item p what) x → ByLayer p l x
by_layer p what {l} e x found =
    subst (λ l. ByLayer p l x) (layer-item p what ∙ e)
    (subst (λ q. ByLayer q (layer (item p what)) x) (ap (λ x. x.place) (out-roll-Item (record { place = p; what = what }))) found)

abbrev is_cover : Layer → Bool
is_cover (o.Cover word label clock test) = true
is_cover _ = false

quiet : {p : Place} {l : Layer} {x : Arm} → statement_of l ≡ None → is_cover l ≡ false → IsArmOf p l x → ⊥
quiet none plain (its_body {b = b} e) = none_some b (sym none ∙ e)
quiet none plain (inside {b = b} e found) = none_some b (sym none ∙ e)
quiet none plain of_cover = never (sym plain)

of_process : {p : Place} {l : Layer} {body : Stmt} {x : Arm} → statement_of l ≡ Some body → is_cover l ≡ false → IsArmOf p l x
    → (body_arm p body ≡ x) ⊎ IsArmInside body x
of_process {p} {body = body} has plain (its_body {b = b} e) = inl (ap (body_arm p) (same body b (sym has ∙ e)))
of_process {body = body} {x = x} has plain (inside {b = b} e found) = inr (subst (λ c. IsArmInside c x) (sym (same body b (sym has ∙ e))) found)
of_process has plain of_cover = never (sym plain)

of_its_cover : {p word : Place} {label : Option NamePlace} {clock : List ℕ} {test : Expr} {x : Arm} → IsArmOf p (o.Cover word label clock test) x
    → cover_arm word label ≡ x
of_its_cover (its_body {b = b} e) = none_some b e
of_its_cover (inside {b = b} e found) = none_some b e
of_its_cover of_cover = refl

-- ---- generate constructs

abbrev items_of : GenBody → List Item
items_of body = (out-GenBody body).items

abbrev InBodies : List GenBody → Arm → Type 0
InBodies bodies = IsArmAmong (flat_map items_of bodies)

first_body : (b : GenBody) (bs : List GenBody) (x : Arm) → InBodies (b ∷ bs) x → IsArmAmong (items_of b) x ⊎ InBodies bs x
first_body b bs x found = arm_in_either (items_of b) (flat_map items_of bs) x found

only_body : (b : GenBody) (x : Arm) → InBodies (b ∷ []) x → IsArmAmong (items_of b) x
only_body b x found = elim (first_body b [] x found) [
  | inl first ↦ first
  | inr none ↦ absurd (no_arm_among none)
]

body_of : (test : Expr) (body : GenBody) → (out-GenArm (gen_arm test body)).body ≡ body
body_of test body = ap (λ a. a.body) (out-roll-GenArm (record { test = test; body = body }))

items_are : (name : Option NamePlace) (places : Option BlockPlaces) (items : List Item) → items_of (gen_body name places items) ≡ items
items_are name places items = ap (λ b. b.items) (out-roll-GenBody (record { name = name; places = places; items = items }))

in_more : (test : Expr) (body : GenBody) (bs : List GenBody) (x : Arm) → InBodies ((out-GenArm (gen_arm test body)).body ∷ bs) x
    → IsArmAmong (items_of body) x ⊎ InBodies bs x
in_more test body bs x found = elim (first_body (out-GenArm (gen_arm test body)).body bs x found) [
  | inl first ↦ inl (subst (λ b. IsArmAmong (items_of b) x) (body_of test body) first)
  | inr more ↦ inr more
]

in_two : (test : Expr) (body other : GenBody) (x : Arm) → InBodies ((out-GenArm (gen_arm test body)).body ∷ other ∷ []) x
    → IsArmAmong (items_of body) x ⊎ IsArmAmong (items_of other) x
in_two test body other x found = elim (in_more test body (other ∷ []) x found) [
  | inl first ↦ inl first
  | inr more ↦ inr (only_body other x more)
]

module _ {all : Tokens} (one : OnePlace all) where
  -- an item without arms and without items in it
  plain : {ts us : Tokens} (p : Place) (what : ItemKind) {l : Layer} → out-ItemKind what ≡ l → statement_of l ≡ None → is_cover l ≡ false → items_in l ≡ []
      → AreTold all ts us (ArmIn (item p what))
  plain p what {l} e none no_cover empty = none_there (λ x found. by_cases x (by_layer p what e x found))
    where
      by_cases : (x : Arm) → ByLayer p l x → ⊥
      by_cases x (inl own) = quiet none no_cover own
      by_cases x (inr inner) = no_arm_among (subst (λ items. IsArmAmong items x) empty inner)

  -- a process, at its first token, with its statement behind that
  process : {us vs ws : Tokens} {t : Token} (what : ItemKind) {l : Layer} {body : Stmt} → out-ItemKind what ≡ l → statement_of l ≡ Some body
      → is_cover l ≡ false → items_in l ≡ [] → IsEnd (t ∷ us) all → length vs ≤ length us → length ws ≤ length vs
      → AreTold all vs ws (IsArmInside body) → AreTold all (t ∷ us) ws (ArmIn (item t.place what))
  process {us} {vs} {ws} {t} what {l} {body} e has no_cover empty end apart low inner =
      fewer (omega arith) (omega arith) (λ x found. by_cases x (by_layer t.place what e x found))
      (both {P = λ x. body_arm t.place body ≡ x} {Q = IsArmInside body} one apart low (omega arith)
      (at_token end (λ x e. sym (ap (λ z. z.place) e)) (λ x y e f g. sym e ∙ f)) inner)
    where
      by_cases : (x : Arm) → ByLayer t.place l x → (body_arm t.place body ≡ x) ⊎ IsArmInside body x
      by_cases x (inl own) = of_process has no_cover own
      by_cases x (inr inner) = absurd (no_arm_among (subst (λ items. IsArmAmong items x) empty inner))

  -- a cover, at its word
  its_cover : {ts us : Tokens} {word : Place} {clock : List ℕ} {test : Expr} (p : Place) (label : Option NamePlace) → IsCover ts word clock test us
      → IsEnd ts all → AreTold all ts us (ArmIn (item p (i.Cover word label clock test)))
  its_cover {us = us} {word = word} {clock = clock} {test = test} p label (cover on) end =
      fewer (omega (arith, shorter_expr on)) (omega arith)
      (λ x found. by_cases x (by_layer p (i.Cover word label clock test) (i.outs-Cover word label clock test) x found))
      (at_token {P = λ x. cover_arm word label ≡ x} end (λ x e. sym (ap (λ z. z.place) e)) (λ x y e f g. sym e ∙ f))
    where
      by_cases : (x : Arm) → ByLayer p (o.Cover word label clock test) x → cover_arm word label ≡ x
      by_cases x (inl own) = of_its_cover own
      by_cases x (inr inner) = absurd (no_arm_among inner)

  plain_told : {within : Bool} {ts us : Tokens} {a : Item} → IsPlainItem within ts a us → IsEnd ts all → AreTold all ts us (ArmIn a)
  plain_told (wire {signed = signed} {p = p} {range = range} {names = names} word bounds list) end =
      plain p (i.Wire signed range names) (i.outs-Wire signed range names) refl refl refl
  plain_told (reg {signed = signed} {p = p} {range = range} {names = names} word bounds list) end =
      plain p (i.Reg signed range names) (i.outs-Reg signed range names) refl refl refl
  plain_told (integer {p = p} {names = names} list) end = plain p (i.Integer names) (i.outs-Integer names) refl refl refl
  plain_told (genvar {p = p} {names = names} list) end = plain p (i.Genvar names) (i.outs-Genvar names) refl refl refl
  plain_told (parameter {p = p} {form = form} {names = names} its list) end =
      plain p (i.Parameter false form names) (i.outs-Parameter false form names) refl refl refl
  plain_told (localparam {p = p} {form = form} {names = names} its list) end =
      plain p (i.Parameter true form names) (i.outs-Parameter true form names) refl refl refl
  plain_told (assign {p = p} {parts = parts} list) end = plain p (i.Assign parts) (i.outs-Assign parts) refl refl refl
  plain_told (initial {us = us} {vs = vs} {p = p} {body = body} done) end =
      process {vs = us} {ws = vs} (i.Initial body) (i.outs-Initial body) refl refl refl end (omega arith) (omega (arith, shorter_stmt done))
      (stmt_told one done (next end))
  plain_told (always {vs = vs} {ws = ws} {p = p} {clock = clock} {body = body} edge done) end =
      process {vs = vs} {ws = ws} (i.Always clock body) (i.outs-Always clock body) refl refl refl end (omega (arith, shorter_clock edge))
      (omega (arith, shorter_stmt done)) (stmt_told one done (past_clock edge (next end)))
  plain_told (cover_alone {word = word} on) end = its_cover word None on end
  plain_told (cover_labelled {ts = ts} {us = us} {p = p} {label = label} on) end =
      fewer {ts = ts} {us = us} (omega arith) (omega arith) (λ x found. found)
      (its_cover p (Some (record { place = p; name = label })) on (next (next end)))
  plain_told (instances {p = p} {of = of} {params = params} {made = made} values list) end =
      plain p (i.Instances of params made) (i.outs-Instances of params made) refl refl refl

  -- an item that holds items alone
  holder : {ts us vs ws : Tokens} (p : Place) (what : ItemKind) {l : Layer} → out-ItemKind what ≡ l → statement_of l ≡ None → is_cover l ≡ false
      → length ws ≤ length us → length ts ≤ length vs → AreTold all ts us (IsArmAmong (items_in l)) → AreTold all vs ws (ArmIn (item p what))
  holder p what {l} e none no_cover low high inner = fewer low high (λ x found. by_cases x (by_layer p what e x found)) inner
    where
      by_cases : (x : Arm) → ByLayer p l x → IsArmAmong (items_in l) x
      by_cases x (inl own) = absurd (quiet none no_cover own)
      by_cases x (inr inner) = inner

  mutual
    pub item_told : {within : Bool} {ts us : Tokens} {a : Item} → IsItem within ts a us → IsEnd ts all → AreTold all ts us (ArmIn a)
    item_told (plain_item d) end = plain_told d end
    item_told (region {us = us} {vs = vs} {p = p} {q = q} {items = items} list) end =
        holder {ts = us} {us = at q k.EndGenerate ∷ vs} p (i.Generate items) (i.outs-Generate items) refl refl (omega arith) (omega arith)
        (items_told list (next end))
    item_told (loop {vs = vs} {ws = ws} {p = p} {q = q} {o = o} {x = x} {name = name} {step_name = step_name} {block = block} {from = from} {test = test}
        {step = step} {items = items} head list) end =
        let label : NamePlace = record { place = o; name = block } in
        let places : BlockPlaces = record { begin = q; end = x } in
        holder {ts = vs} {us = at x k.End ∷ ws} p (i.Loop name from test step_name step label places items)
        (i.outs-Loop name from test step_name step label places items) refl refl (omega arith) (omega (arith, shorter_head head))
        (items_told list (next (next (next (past_head head (next end))))))
    item_told (choose {us = us} {vs = vs} {p = p} {arms = arms} {last = last} list) end =
        holder {ts = us} {us = vs} p (i.Choose arms last) (i.outs-Choose arms last) refl refl (omega arith) (omega arith) (gen_arms_told list (next end))

    gen_arms_told : {ts us : Tokens} {arms : List GenArm} {last : Option GenBody} → AreGenArms ts arms last us → IsEnd ts all
        → AreTold all ts us (InBodies (bodies_of arms last))
    gen_arms_told (no_else {vs = vs} {ws = ws} {test = test} {body = body} on done none) end =
        fewer {ts = vs} {us = ws} (omega arith) (omega (arith, shorter_expr on))
        (λ x found. subst (λ b. IsArmAmong (items_of b) x) (body_of test body) (only_body (out-GenArm (gen_arm test body)).body x found))
        (branch_told done (next (past_expr on (next end))))
    gen_arms_told (last_else {vs = vs} {ws = ws} {xs = xs} {r = r} {test = test} {body = body} {other = other} on done also) end =
        let behind = next (past_expr on (next end)) in
        fewer {ts = vs} {us = xs} (omega arith) (omega (arith, shorter_expr on)) (λ x found. in_two test body other x found)
        (both {us = at r k.Else ∷ ws} {vs = ws} one (omega arith) (omega (arith, shorter_gen also)) (omega (arith, shorter_gen done)) (branch_told done behind)
        (branch_told also (next (past_branch done behind))))
    gen_arms_told (else_if {vs = vs} {ws = ws} {xs = xs} {r = r} {o = o} {test = test} {body = body} {arms = arms} {last = last} on done list) end =
        let behind = next (past_expr on (next end)) in
        fewer {ts = vs} {us = xs} (omega arith) (omega (arith, shorter_expr on)) (λ x found. in_more test body (bodies_of arms last) x found)
        (both {us = at r k.Else ∷ at o k.If ∷ ws} {vs = ws} one (omega arith) (omega (arith, shorter_gen_arms list)) (omega (arith, shorter_gen done))
        (branch_told done behind) (gen_arms_told list (next (next (past_branch done behind)))))

    branch_told : {ts us : Tokens} {a : GenBody} → IsBranch ts a us → IsEnd ts all → AreTold all ts us (IsArmAmong (items_of a))
    branch_told (gen_block {vs = vs} {ws = ws} {p = p} {q = q} {name = name} {items = items} label list) end =
        fewer {ts = vs} {us = at q k.End ∷ ws} (omega arith) (omega (arith, shorter_block_label label))
        (λ x found. subst (λ ys. IsArmAmong ys x) (items_are name (Some (record { begin = p; end = q })) items) found)
        (items_told list (past_block_label label (next end)))
    branch_told (gen_item {ts = ts} {us = us} {a = a} none d) end =
        fewer {ts = ts} {us = us} (omega arith) (omega arith)
        (λ x found. only_item a x (subst (λ ys. IsArmAmong ys x) (items_are None None (a ∷ [])) found)) (item_told d end)

    pub items_told : {within : Bool} {ts us : Tokens} {list : List Item} → AreItems within ts list us → IsEnd ts all → AreTold all ts us (IsArmAmong list)
    items_told no_items end = none_there (λ x found. no_arm_among found)
    items_told (more_items {ts = ts} {us = us} {vs = vs} {a = a} {all = others} first rest) end =
        fewer {ts = ts} {us = vs} (omega arith) (omega arith) (λ x found. first_arm a others x found)
        (both {us = us} {vs = us} one (omega arith) (omega (arith, shorter_items rest)) (omega (arith, shorter_item first)) (item_told first end)
        (items_told rest (past_item first end)))

-- a declaration of parameters has no arms
pub no_parameter : (p : Place) (is_local : Bool) (form : ParamForm) (names : List ParamName) (items : List Item) (x : Arm)
    → IsArmAmong (item p (i.Parameter is_local form names) ∷ items) x → IsArmAmong items x
no_parameter p is_local form names items x found = elim (first_arm (item p (i.Parameter is_local form names)) items x found) [
  | inl first ↦ elim (by_layer p (i.Parameter is_local form names) (i.outs-Parameter is_local form names) x first) [
    | inl own ↦ absurd (quiet refl refl own)
    | inr inner ↦ absurd (no_arm_among inner)
  ]
  | inr more ↦ more
]
