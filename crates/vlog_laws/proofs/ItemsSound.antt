-- What is read as an item is spelled so.
use Rattle.std.proofs.Common.{◌≡◌, ℕ, zero, suc, Bool, true, false, List, [], ◌∷◌, ◌++◌, length, Option, Some, None, refl, sym, ◌∙◌, ap, subst, inl, inr}
use Rattle.std.proofs.Common.{append_assoc}
use Rattle.cov_types.specs.declared.place.Place.{Place}
use Rattle.vlog_tokens.specs.declared.token.TokenKind.{TokenKind}
use Rattle.vlog_tokens.specs.declared.token.TokenKind.TheVariants as k
use Rattle.vlog_tree.specs.declared.expression.Expr.{Expr}
use Rattle.vlog_tree.specs.declared.item.NamePlace.{NamePlace}
use Rattle.vlog_tree.specs.declared.item.Item.{Item}
use Rattle.vlog_tree.specs.declared.item.ItemKind.{ItemKind}
use Rattle.vlog_tree.specs.declared.item.ItemKind.TheVariants as i
use Rattle.vlog_tree.specs.declared.item.GenArm.{GenArm}
use Rattle.vlog_tree.specs.declared.item.GenBody.{GenBody}
use Rattle.vlog_tree.specs.Trees.{item, gen_arm, gen_body}
use Rattle.vlog_grammar.specs.Tokens.{Tokens, at, NotNext}
use Rattle.vlog_grammar.specs.Expressions.{IsExpr}
use Rattle.vlog_grammar.specs.Statements.{IsForHead}
use Rattle.vlog_grammar.specs.Items.{IsName, a_name, IsBlockLabel, a_label, IsItem, plain_item, region, loop, choose, AreGenArms, no_else, last_else, else_if}
use Rattle.vlog_grammar.specs.Items.{IsBranch, gen_block, gen_item, AreItems, no_items, more_items}
use Rattle.vlog_reading.specs.declared.for_head.ForHead.{ForHead}
use Rattle.vlog_reading.specs.Marks.{mark}
use Rattle.vlog_reading.specs.Reading.{Parser, sees, first_place}
use Rattle.vlog_reading.specs.ReadParts as shapes
use Rattle.vlog_reading.specs.ReadStatements as statements
use Rattle.vlog_reading.specs.ReadItemParts as parts
use Rattle.vlog_reading.specs.ReadItems as read
use Rattle.vlog_laws.proofs.Basics.{nothing, both, and_then_some, if_some, of_mark, expects, eats, unseen, before, onto, same}
use Rattle.vlog_laws.proofs.PartsSound.{test_sound, for_head_sound}
use Rattle.vlog_laws.proofs.StatementsSound.{append_nil}
use Rattle.vlog_laws.proofs.ItemPartsSound.{optional_sound, name_place_sound}
use Rattle.vlog_laws.proofs.PlainItemsSound.{wires_sound, regs_sound, integers_sound, genvars_sound, parameter_sound, localparam_sound, assignments_sound}
use Rattle.vlog_laws.proofs.PlainItemsSound.{initial_sound, always_sound, cover_alone_sound, labelled_sound}

-- an item at a place
abbrev ItemAt : Bool → Place → Tokens → ItemKind → Tokens → Type 0
ItemAt inside p ts what us = IsItem inside ts (item p what) us

-- "(" expr ")" gen
pub data IsGenArm : Tokens → GenArm → Tokens → Type 0 where
  one_arm : {us vs ws : Tokens} {p q : Place} {test : Expr} {body : GenBody} → IsExpr us test (at q k.CloseParen ∷ vs) → IsBranch vs body ws
      → IsGenArm (at p k.OpenParen ∷ us) (gen_arm test body) ws

-- a chain from its first arm on, by what comes after that
arm_alone : {ts us : Tokens} {a : GenArm} → IsGenArm ts a us → NotNext k.Else us → AreGenArms ts (a ∷ []) None us
arm_alone (one_arm test body) none = no_else test body none

arm_and_last : {ts us vs : Tokens} {r : Place} {a : GenArm} {other : GenBody} → IsGenArm ts a (at r k.Else ∷ us) → IsBranch us other vs
    → AreGenArms ts (a ∷ []) (Some other) vs
arm_and_last (one_arm test body) other = last_else test body other

arm_and_arms : {ts us vs : Tokens} {r o : Place} {a : GenArm} {arms : List GenArm} {other : Option GenBody}
    → IsGenArm ts a (at r k.Else ∷ at o k.If ∷ us) → AreGenArms us arms other vs → AreGenArms ts (a ∷ arms) other vs
arm_and_arms (one_arm test body) rest = else_if test body rest

-- a loop of this head
abbrev loop_of : ForHead → NamePlace → Place → Place → List Item → ItemKind
loop_of h block start last items = i.Loop h.name h.from h.test h.step_name h.step block (record { begin = start; end = last }) items

abbrev IsHead : Tokens → ForHead → Tokens → Type 0
IsHead ts h us = IsForHead ts h.name h.from h.test h.step_name h.step us

loop_at : {inside : Bool} {p q r x : Place} {ts us vs ws : Tokens} (h : ForHead) {block : NamePlace} {items : List Item}
    → IsHead ts h (at q k.Begin ∷ at r k.Colon ∷ us) → IsName us block vs → AreItems true vs items (at x k.End ∷ ws)
    → ItemAt inside p (at p k.For ∷ ts) (loop_of h block q x items) ws
loop_at h head a_name items = loop head items

label_sound : (ts us : Tokens) (a : NamePlace) → read.block_label ts ≡ Some (a, us) → IsBlockLabel ts a us
unfolding read.block_label
label_sound ts us a h =
    let colon = expects k.Colon _ ts (a, us) refl h in
    before IsBlockLabel (sym colon.2) (a_label (name_place_sound colon.1 us a colon.3))

-- the `begin` of a block at its place, and the name of the block
abbrev IsNamedBegin : Tokens → Place × NamePlace → Tokens → Type 0
IsNamedBegin ts begun us = (q : Place) × (vs : Tokens) × (ts ≡ at begun.0 k.Begin ∷ at q k.Colon ∷ vs) × IsName vs begun.1 us

named_begin_sound : (ts us : Tokens) (begun : Place × NamePlace) → read.named_begin ts ≡ Some (begun, us) → IsNamedBegin ts begun us
unfolding read.named_begin read.block_label
named_begin_sound ts us begun h =
    let word = expects k.Begin _ ts (begun, us) refl h in
    let start : first_place ts ≡ word.0 = ap first_place word.2 in
    let name = and_then_some (read.block_label word.1) _ (begun, us) word.3 in
    let colon = expects k.Colon _ word.1 (name.0, name.1) refl name.2 in
    same IsNamedBegin (ap (λ q. Some ((q, name.0), name.1)) (sym start) ∙ name.3)
    (colon.0, colon.1, word.2 ∙ ap (λ x. at word.0 k.Begin ∷ x) colon.2, name_place_sound colon.1 name.1 name.0 colon.3)

module _ (nested : Bool → Parser Item) (each : (inside : Bool) (ts us : Tokens) (a : Item) → nested inside ts ≡ Some (a, us) → IsItem inside ts a us) where
  -- The items are added to those that were found.
  list_sound : (inside : Bool) (close : TokenKind) (t : ℕ) (found : List Item) (ts us : Tokens) (all : List Item)
      → read.items_from nested inside close t found ts ≡ Some (all, us) → (new : List Item) × (all ≡ found ++ new) × AreItems inside ts new us
  unfolding read.items_from
  list_sound inside close zero found ts us all h = nothing (all, us) h
  list_sound inside close (suc t) found ts us all h =
      elim (if_some (sees close ts) _ _ _ h) [
        | inl halt ↦
            let ends = both found all ts us halt.1 in
            ([], sym ends.0 ∙ sym (append_nil found), onto (AreItems inside) ends.1 no_items)
        | inr go ↦
            let first = and_then_some (nested inside ts) _ (all, us) go.1 in
            let rest = list_sound inside close t (found ++ first.0 ∷ []) first.1 us all first.3 in
            (first.0 ∷ rest.0, rest.1 ∙ append_assoc found (first.0 ∷ []) rest.0, more_items (each inside ts first.1 first.0 first.2) rest.2)
      ]

  items_sound : (inside : Bool) (close : TokenKind) (ts us : Tokens) (all : List Item) → read.items nested inside close ts ≡ Some (all, us)
      → AreItems inside ts all us
  unfolding read.items
  items_sound inside close ts us all h =
      let list = list_sound inside close (length ts) [] ts us all h in
      subst (λ x. AreItems inside ts x us) (sym list.1) list.2

  region_sound : (inside : Bool) (p : Place) (ts us : Tokens) (what : ItemKind) → read.generate_region nested inside ts ≡ Some (what, us)
      → ItemAt inside p (at p k.Generate ∷ ts) what us
  unfolding read.generate_region
  region_sound inside p ts us what h =
      let found = and_then_some (read.items nested inside k.EndGenerate ts) _ (what, us) h in
      let shut = expects k.EndGenerate _ found.1 (what, us) refl found.3 in
      same (ItemAt inside p) shut.3 (region (onto (AreItems inside) shut.2 (items_sound inside k.EndGenerate ts found.1 found.0 found.2)))

  loop_sound : (inside : Bool) (p : Place) (ts us : Tokens) (what : ItemKind) → read.generate_for nested ts ≡ Some (what, us)
      → ItemAt inside p (at p k.For ∷ ts) what us
  unfolding read.generate_for read.loop_items
  loop_sound inside p ts us what h =
      let head = and_then_some (statements.for_head ts) _ (what, us) h in
      let begun = and_then_some (read.named_begin head.1) _ (what, us) head.3 in
      let front = named_begin_sound head.1 begun.1 begun.0 begun.2 in
      let found = and_then_some (read.items nested true k.End begun.1) _ (what, us) begun.3 in
      let shut = expects k.End _ found.1 (what, us) refl found.3 in
      let last : first_place found.1 ≡ shut.0 = ap first_place shut.2 in
      same (ItemAt inside p) (ap (λ q. Some (loop_of head.0 begun.0.1 begun.0.0 q found.0, shut.1)) (sym last) ∙ shut.3)
      (loop_at head.0 (onto IsHead front.2 (for_head_sound ts head.1 head.0 head.2)) front.3
      (onto (AreItems true) shut.2 (items_sound true k.End begun.1 found.1 found.0 found.2)))

  gen_block_sound : (ts us : Tokens) (a : GenBody) → read.block_branch nested ts ≡ Some (a, us) → IsBranch ts a us
  unfolding read.block_branch
  gen_block_sound ts us a h =
      let word = expects k.Begin _ ts (a, us) refl h in
      let start : first_place ts ≡ word.0 = ap first_place word.2 in
      let name = and_then_some (parts.optional read.block_label k.Colon word.1) _ (a, us) word.3 in
      let found = and_then_some (read.items nested true k.End name.1) _ (a, us) name.3 in
      let shut = expects k.End _ found.1 (a, us) refl found.3 in
      let last : first_place found.1 ≡ shut.0 = ap first_place shut.2 in
      same IsBranch (ap (λ q. Some (gen_body name.0 (Some (record { begin = q; end = shut.0 })) found.0, shut.1)) (sym start)
      ∙ ap (λ q. Some (gen_body name.0 (Some (record { begin = first_place ts; end = q })) found.0, shut.1)) (sym last) ∙ shut.3)
      (before IsBranch (sym word.2) (gen_block (optional_sound IsBlockLabel read.block_label label_sound k.Colon refl word.1 name.1 name.0 name.2)
      (onto (AreItems true) shut.2 (items_sound true k.End name.1 found.1 found.0 found.2))))

  gen_sound : (ts us : Tokens) (a : GenBody) → read.branch nested ts ≡ Some (a, us) → IsBranch ts a us
  unfolding read.branch read.single_branch
  gen_sound ts us a h =
      elim (if_some (sees k.Begin ts) _ _ _ h) [
        | inl block ↦ gen_block_sound ts us a block.1
        | inr other ↦
            elim (if_some (sees k.If ts) _ _ _ other.1) [
              | inl refused ↦ nothing (a, us) refused.1
              | inr single ↦
                  let one = and_then_some (nested true ts) _ (a, us) single.1 in
                  same IsBranch one.3 (gen_item (unseen k.If ts single.0) (each true ts one.1 one.0 one.2))
            ]
      ]

  one_arm_sound : (ts us : Tokens) (a : GenArm) → read.if_arm nested ts ≡ Some (a, us) → IsGenArm ts a us
  unfolding read.if_arm
  one_arm_sound ts us a h =
      let on = and_then_some (shapes.condition ts) _ (a, us) h in
      let it = test_sound ts on.1 on.0 on.2 in
      let body = and_then_some (read.branch nested on.1) _ (a, us) on.3 in
      before IsGenArm (sym it.3) (same IsGenArm body.3 (one_arm it.4 (gen_sound on.1 body.1 body.0 body.2)))

  -- The arms are added to those that were found.
  arms_sound : (t : ℕ) (found : List GenArm) (ts us : Tokens) (all : List GenArm) (other : Option GenBody)
      → read.if_arms_from nested t found ts ≡ Some ((all, other), us) → (new : List GenArm) × (all ≡ found ++ new) × AreGenArms ts new other us
  unfolding read.if_arms_from read.last_branch
  arms_sound zero found ts us all other h = nothing ((all, other), us) h
  arms_sound (suc t) found ts us all other h =
      let first = and_then_some (read.if_arm nested ts) _ ((all, other), us) h in
      let one = one_arm_sound ts first.1 first.0 first.2 in
      elim (eats k.Else _ _ first.1 ((all, other), us) refl first.3) [
        | inl more ↦
            elim (eats k.If _ _ more.1 ((all, other), us) refl more.3) [
              | inl again ↦
                  let rest = arms_sound t (found ++ first.0 ∷ []) again.1 us all other again.3 in (
                    first.0 ∷ rest.0,
                    rest.1 ∙ append_assoc found (first.0 ∷ []) rest.0,
                    arm_and_arms (onto IsGenArm (more.2 ∙ ap (λ x. at more.0 k.Else ∷ x) again.2) one) rest.2,
                  )
              | inr none ↦
                  let end = and_then_some (read.branch nested more.1) _ ((all, other), us) none.1 in
                  let ends = both (found ++ first.0 ∷ [], Some end.0) (all, other) end.1 us end.3 in
                  let last : AreGenArms ts (first.0 ∷ []) (Some end.0) end.1 = arm_and_last (onto IsGenArm more.2 one) (gen_sound more.1 end.1 end.0 end.2) in (
                    first.0 ∷ [],
                    sym (ap (λ r. r.0) ends.0),
                    subst (λ x. AreGenArms ts (first.0 ∷ []) x us) (ap (λ r. r.1) ends.0) (onto
                        (λ x y z. AreGenArms x y (Some end.0) z) ends.1 last),
                  )
            ]
        | inr none ↦
            let ends = both (found ++ first.0 ∷ [], None) (all, other) first.1 us none.1 in
            let last : AreGenArms ts (first.0 ∷ []) None first.1 = arm_alone one (unseen k.Else first.1 none.0) in (
              first.0 ∷ [],
              sym (ap (λ r. r.0) ends.0),
              subst (λ x. AreGenArms ts (first.0 ∷ []) x us) (ap (λ r. r.1) ends.0) (onto
                  (λ x y z. AreGenArms x y None z) ends.1 last),
            )
      ]

  choice_sound : (inside : Bool) (p : Place) (ts us : Tokens) (what : ItemKind) → read.generate_if nested ts ≡ Some (what, us)
      → ItemAt inside p (at p k.If ∷ ts) what us
  unfolding read.generate_if read.if_arms
  choice_sound inside p ts us what h =
      let found = and_then_some (read.if_arms nested ts) _ (what, us) h in
      let list = arms_sound (length ts) [] ts found.1 found.0.0 found.0.1 found.2 in
      same (ItemAt inside p) found.3 (choose (subst (λ x. AreGenArms ts x found.0.1 found.1) (sym list.1) list.2))

  -- Inside a generate block there is no `parameter`.
  parameter_by : (inside : Bool) (p : Place) (ts us : Tokens) (what : ItemKind)
      → read.kind_by nested inside (Some k.Parameter) (at p k.Parameter ∷ ts) ≡ Some (what, us)
      → ItemAt inside p (at p k.Parameter ∷ ts) what us
  parameter_by true p ts us what h = nothing (what, us) h
  parameter_by false p ts us what h = plain_item (parameter_sound p ts us what h)

  kind_sound : (inside : Bool) (kind : TokenKind) (p : Place) (ts us : Tokens) (what : ItemKind)
      → read.kind_by nested inside (Some kind) (at p kind ∷ ts) ≡ Some (what, us) → ItemAt inside p (at p kind ∷ ts) what us
  kind_sound inside k.Wire p ts us what h = plain_item (wires_sound inside p ts us what h)
  kind_sound inside k.Reg p ts us what h = plain_item (regs_sound inside p ts us what h)
  kind_sound inside k.Integer p ts us what h = plain_item (integers_sound inside p ts us what h)
  kind_sound inside k.GenVar p ts us what h = plain_item (genvars_sound inside p ts us what h)
  kind_sound inside k.Parameter p ts us what h = parameter_by inside p ts us what h
  kind_sound inside k.LocalParam p ts us what h = plain_item (localparam_sound inside p ts us what h)
  kind_sound inside k.Assign p ts us what h = plain_item (assignments_sound inside p ts us what h)
  kind_sound inside k.Initial p ts us what h = plain_item (initial_sound inside p ts us what h)
  kind_sound inside k.Always p ts us what h = plain_item (always_sound inside p ts us what h)
  kind_sound inside k.Cover p ts us what h = plain_item (cover_alone_sound inside (at p k.Cover ∷ ts) us what h)
  kind_sound inside (k.Name name) p ts us what h = plain_item (labelled_sound inside p name ts us what h)
  kind_sound inside k.Generate p ts us what h = region_sound inside p ts us what h
  kind_sound inside k.For p ts us what h = loop_sound inside p ts us what h
  kind_sound inside k.If p ts us what h = choice_sound inside p ts us what h
  kind_sound inside _ p ts us what h = nothing (what, us) h

  layer_sound : (inside : Bool) (ts us : Tokens) (a : Item) → read.layer nested inside ts ≡ Some (a, us) → IsItem inside ts a us
  unfolding read.layer
  layer_sound inside [] us a h = nothing (a, us) h
  layer_sound inside (t ∷ ts) us a h =
      let what = and_then_some (read.kind_by nested inside (Some t.what) (t ∷ ts)) _ (a, us) h in
      same (IsItem inside) what.3 (kind_sound inside t.what t.place ts what.1 what.0 what.2)

item_sound : (depth : ℕ) (inside : Bool) (ts us : Tokens) (a : Item) → read.item_within depth inside ts ≡ Some (a, us) → IsItem inside ts a us
unfolding read.item_within
item_sound zero inside ts us a h = nothing (a, us) h
item_sound (suc d) inside ts us a h = layer_sound (read.item_within d) (item_sound d) inside ts us a h

-- What is read up to a word that ends a list of items is spelled so.
pub whole_items_sound : (close : TokenKind) → of_mark (mark close) ≡ Some close → (ts us : Tokens) (all : List Item)
    → read.whole_items close ts ≡ Some (all, us)
    → AreItems false ts all us
unfolding read.whole_items
whole_items_sound close known ts us all h = items_sound (read.item_within (length ts)) (item_sound (length ts)) false close ts us all h
