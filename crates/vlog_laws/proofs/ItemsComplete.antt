-- What is spelled as an item is read so.
use Rattle.std.proofs.Common.{◌≡◌, ℕ, zero, suc, ◌≤◌, Bool, true, false, List, [], ◌∷◌, ◌++◌, length, Option, Some, refl, sym, ◌∙◌, ap, arith, append_assoc}
use Rattle.cov_types.specs.declared.place.Place.{Place}
use Rattle.vlog_tokens.specs.declared.token.TokenKind.{TokenKind}
use Rattle.vlog_tokens.specs.declared.token.TokenKind.TheVariants as k
use Rattle.vlog_tree.specs.declared.item.NamePlace.{NamePlace}
use Rattle.vlog_tree.specs.declared.item.Item.{Item}
use Rattle.vlog_tree.specs.declared.item.GenArm.{GenArm}
use Rattle.vlog_tree.specs.declared.item.GenBody.{GenBody}
use Rattle.vlog_tree.specs.Trees.{gen_arm}
use Rattle.vlog_grammar.specs.Tokens.{Tokens, at}
use Rattle.vlog_grammar.specs.Items.{IsName, a_name, IsBlockLabel, a_label, cover, IsPlainItem, wire, reg, integer, genvar, parameter, localparam, assign}
use Rattle.vlog_grammar.specs.Items.{initial, always, cover_alone, cover_labelled, instances, IsItem, plain_item, region, loop, choose, AreGenArms, no_else}
use Rattle.vlog_grammar.specs.Items.{last_else, else_if, IsBranch, gen_block, gen_item, AreItems, no_items, more_items}
use Rattle.vlog_reading.specs.Reading.{Parser, sees}
use Rattle.vlog_reading.specs.ReadItems as read
use Rattle.vlog_laws.proofs.Basics.{not_seen, sees_at, goes, goes_mark, eat_yes, eat_no}
use Rattle.vlog_laws.proofs.Shorter.{shorter_expr}
use Rattle.vlog_laws.proofs.ShorterStatements.{shorter_head}
use Rattle.vlog_laws.proofs.ShorterItems.{shorter_block_label, shorter_item, shorter_gen_arms, shorter_gen, shorter_items}
use Rattle.vlog_laws.proofs.PartsComplete.{test_complete, for_head_complete}
use Rattle.vlog_laws.proofs.StatementsSound.{append_nil}
use Rattle.vlog_laws.proofs.ItemPartsComplete.{optional_complete, name_place_complete}
use Rattle.vlog_laws.proofs.ItemsSound.{IsGenArm, one_arm}
use Rattle.vlog_laws.proofs.PlainItemsComplete.{plain_layer_complete}

-- the words that lists of items end with
abbrev pub ends_items : TokenKind → Bool
ends_items k.End = true
ends_items k.EndGenerate = true
ends_items k.EndModule = true
ends_items _ = false

-- None of those words comes next, nor the word that a generate block begins with.
abbrev Front : Tokens → Type 0
Front ts = (sees k.End ts ≡ false) × (sees k.EndGenerate ts ≡ false) × (sees k.EndModule ts ≡ false) × (sees k.Begin ts ≡ false)

front_plain : {inside : Bool} {ts us : Tokens} {a : Item} → IsPlainItem inside ts a us → Front ts
unfolding sees
front_plain (wire signed range names) = (refl, refl, refl, refl)
front_plain (reg signed range names) = (refl, refl, refl, refl)
front_plain (integer names) = (refl, refl, refl, refl)
front_plain (genvar names) = (refl, refl, refl, refl)
front_plain (parameter form names) = (refl, refl, refl, refl)
front_plain (localparam form names) = (refl, refl, refl, refl)
front_plain (assign parts) = (refl, refl, refl, refl)
front_plain (initial body) = (refl, refl, refl, refl)
front_plain (always clock body) = (refl, refl, refl, refl)
front_plain (cover_alone (cover test)) = (refl, refl, refl, refl)
front_plain (cover_labelled covered) = (refl, refl, refl, refl)
front_plain (instances values made) = (refl, refl, refl, refl)

front_item : {inside : Bool} {ts us : Tokens} {a : Item} → IsItem inside ts a us → Front ts
unfolding sees
front_item (plain_item one) = front_plain one
front_item (region items) = (refl, refl, refl, refl)
front_item (loop head items) = (refl, refl, refl, refl)
front_item (choose arms) = (refl, refl, refl, refl)

-- A word that ends a list of items begins none.
begins_no_item : (close : TokenKind) → ends_items close ≡ true → {inside : Bool} {ts us : Tokens} {a : Item} → IsItem inside ts a us → sees close ts ≡ false
begins_no_item k.End h one = (front_item one).0
begins_no_item k.EndGenerate h one = (front_item one).1
begins_no_item k.EndModule h one = (front_item one).2
begins_no_item _ h one = absurd cc

-- After an `else`, an `if` begins the next arm and nothing else.
front_gen : {ts us : Tokens} {a : GenBody} → IsBranch ts a us → sees k.If ts ≡ false
unfolding sees
front_gen (gen_block name items) = refl
front_gen {ts} (gen_item none one) = not_seen k.If ts refl none

-- Items with no more tokens than the number are read.
label_complete : (ts us : Tokens) (a : NamePlace) → IsBlockLabel ts a us → read.block_label ts ≡ Some (a, us)
unfolding read.block_label
label_complete ts us a (a_label {us = vs} {p = p} name) = goes_mark k.Colon p vs _ (name_place_complete vs us a name)

named_begin_complete : (p q : Place) (ts us : Tokens) (a : NamePlace) → IsName ts a us → read.named_begin (at p k.Begin ∷ at q k.Colon ∷ ts) ≡ Some ((p, a), us)
unfolding read.named_begin
named_begin_complete p q ts us a name = goes_mark k.Begin p _ _ (goes _ (label_complete (at q k.Colon ∷ ts) us a (a_label name)) refl)

module _ (nested : Bool → Parser Item) (d : ℕ)
    (whole : (inside : Bool) (ts us : Tokens) (a : Item) → length ts ≤ d → IsItem inside ts a us → nested inside ts ≡ Some (a, us)) where
  list_complete : (inside : Bool) (close : TokenKind) → ends_items close ≡ true → (p : Place) (us : Tokens) (t : ℕ) (found all : List Item) (ts : Tokens)
      → AreItems inside ts all (at p close ∷ us) → length ts ≤ t → length ts ≤ d
      → read.items_from nested inside close t found ts ≡ Some (found ++ all, at p close ∷ us)
  unfolding read.items_from
  list_complete inside close known p us zero found all ts items turns deep = absurd (omega (arith, shorter_items items))
  list_complete inside close known p us (suc t) found all ts no_items turns deep =
      rw (sees_at close p us) (ap (λ x. Some (x, at p close ∷ us)) (sym (append_nil found)))
  list_complete inside close known p us (suc t) found all ts (more_items {us = vs} {a = a} {all = others} one rest) turns deep =
      rw (begins_no_item close known one) (goes _ (whole inside ts vs a deep one)
      (list_complete inside close known p us t (found ++ a ∷ []) others vs rest (omega (arith, shorter_item one)) (omega (arith, shorter_item one))
      ∙ ap (λ x. Some (x, at p close ∷ us)) (append_assoc found (a ∷ []) others)))

  items_complete : (inside : Bool) (close : TokenKind) → ends_items close ≡ true → (p : Place) (ts us : Tokens) (all : List Item)
      → AreItems inside ts all (at p close ∷ us) → length ts ≤ d → read.items nested inside close ts ≡ Some (all, at p close ∷ us)
  unfolding read.items
  items_complete inside close known p ts us all items deep = list_complete inside close known p us (length ts) [] all ts items (omega arith) deep

  gen_complete : (a : GenBody) (ts us : Tokens) → IsBranch ts a us → length ts ≤ d → read.branch nested ts ≡ Some (a, us)
  unfolding read.branch read.block_branch read.single_branch
  gen_complete a ts us (gen_block {us = vs} {vs = ws} {p = p} {q = q} {name = name} {items = items} label list) deep =
      rw (sees_at k.Begin p vs) (goes_mark k.Begin p vs _ (goes _ (optional_complete IsBlockLabel read.block_label k.Colon refl ws
      (λ ts a one. label_complete ts ws a one) vs name label)
      (goes _ (items_complete true k.End refl q ws us items list (omega (arith, shorter_block_label label))) (goes_mark k.End q us _ refl))))
  gen_complete a ts us (gen_item {a = one} none tree) deep =
      rw ((front_item tree).3, not_seen k.If ts refl none) (goes _ (whole true ts us one deep tree) refl)

  one_arm_complete : (a : GenArm) (ts us : Tokens) → IsGenArm ts a us → length ts ≤ d → read.if_arm nested ts ≡ Some (a, us)
  unfolding read.if_arm
  one_arm_complete a ts us (one_arm {us = vs} {vs = ws} {p = p} {q = q} {test = test} {body = body} on tree) deep =
      goes _ (test_complete p q vs ws test on) (goes _ (gen_complete body ws us tree (omega (arith, shorter_expr on))) refl)

  arms_complete : (t : ℕ) (found all : List GenArm) (other : Option GenBody) (ts us : Tokens) → AreGenArms ts all other us → length ts ≤ t → length ts ≤ d
      → read.if_arms_from nested t found ts ≡ Some ((found ++ all, other), us)
  unfolding read.if_arms_from read.last_branch
  arms_complete zero found all other ts us arms turns deep = absurd (omega (arith, shorter_gen_arms arms))
  arms_complete (suc t) found all other ts us (no_else {test = test} {body = body} on tree none) turns deep =
      goes _ (one_arm_complete (gen_arm test body) ts us (one_arm on tree) deep) (eat_no k.Else us _ _ (not_seen k.Else us refl none) refl)
  arms_complete (suc t) found all other ts us (last_else {ws = ws} {r = r} {test = test} {body = body} {other = last} on tree end) turns deep =
      goes _ (one_arm_complete (gen_arm test body) ts (at r k.Else ∷ ws) (one_arm on tree) deep) (eat_yes k.Else r ws _ _
      (eat_no k.If ws _ _ (front_gen end) (goes _ (gen_complete last ws us end (omega (arith, shorter_expr on, shorter_gen tree))) refl)))
  arms_complete (suc t) found all other ts us (else_if {ws = ws} {r = r} {o = o} {test = test} {body = body} {arms = arms} on tree rest) turns deep =
      goes _ (one_arm_complete (gen_arm test body) ts (at r k.Else ∷ at o k.If ∷ ws) (one_arm on tree) deep) (eat_yes k.Else r (at o k.If ∷ ws) _ _
      (eat_yes k.If o ws _ _ (arms_complete t (found ++ gen_arm test body ∷ []) arms other ws us rest
      (omega (arith, shorter_expr on, shorter_gen tree)) (omega (arith, shorter_expr on, shorter_gen tree))
      ∙ ap (λ x. Some ((x, other), us)) (append_assoc found (gen_arm test body ∷ []) arms))))

  layer_complete : (inside : Bool) (a : Item) (ts us : Tokens) → IsItem inside ts a us → length ts ≤ suc d → read.layer nested inside ts ≡ Some (a, us)
  unfolding read.layer read.generate_region read.generate_for read.loop_items read.generate_if read.if_arms
  layer_complete inside a ts us (plain_item one) deep = plain_layer_complete nested inside ts us a one
  layer_complete inside a ts us (region {us = vs} {q = q} {items = items} list) deep =
      goes _ (goes _ (items_complete inside k.EndGenerate refl q vs us items list (omega arith)) (goes_mark k.EndGenerate q us _ refl)) refl
  layer_complete inside a ts us
      (loop {us = xs} {vs = vs} {q = q} {r = r} {o = o} {x = x} {name = name} {step_name = step_name} {block = block}
      {from = from} {test = test} {step = step} {items = items} head list) deep =
      goes _ (goes _ (for_head_complete xs (at q k.Begin ∷ at r k.Colon ∷ at o (k.Name block) ∷ vs) name step_name from test step head)
      (goes _ (named_begin_complete q r (at o (k.Name block) ∷ vs) vs (record { place = o; name = block }) a_name)
      (goes _ (items_complete true k.End refl x vs us items list (omega (arith, shorter_head head))) (goes_mark k.End x us _ refl)))) refl
  layer_complete inside a ts us (choose {us = vs} {arms = arms} {last = last} list) deep =
      goes _ (goes _ (arms_complete (length vs) [] arms last vs us list (omega arith) (omega arith)) refl) refl

item_complete : (d : ℕ) (inside : Bool) (ts us : Tokens) (a : Item) → length ts ≤ d → IsItem inside ts a us → read.item_within d inside ts ≡ Some (a, us)
unfolding read.item_within
item_complete zero inside ts us a deep tree = absurd (omega (arith, shorter_item tree))
item_complete (suc d) inside ts us a deep tree =
    layer_complete (read.item_within d) d (λ within vs ws b h t. item_complete d within vs ws b h t) inside a ts us tree deep

pub whole_items_complete : (close : TokenKind) (p : Place) (ts us : Tokens) (all : List Item) → ends_items close ≡ true
    → AreItems false ts all (at p close ∷ us) → read.whole_items close ts ≡ Some (all, at p close ∷ us)
unfolding read.whole_items
whole_items_complete close p ts us all known items =
    items_complete (read.item_within (length ts)) (length ts) (item_complete (length ts)) false close known p ts us all items (omega arith)
