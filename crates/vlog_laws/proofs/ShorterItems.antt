-- What spells an item has at least one token.
use Rattle.std.proofs.Common.{Bool, ◌<◌, ◌≤◌, List, length, arith, Option}
use Rattle.vlog_tokens.specs.declared.token.TokenKind.TheVariants as k
use Rattle.vlog_tree.specs.declared.item.NamePlace.{NamePlace}
use Rattle.vlog_tree.specs.declared.item.Item.{Item}
use Rattle.vlog_tree.specs.declared.item.GenArm.{GenArm}
use Rattle.vlog_tree.specs.declared.item.GenBody.{GenBody}
use Rattle.vlog_grammar.specs.Tokens.{Tokens}
use Rattle.vlog_grammar.specs.Parts.{IsOptional}
use Rattle.vlog_grammar.specs.Items.{IsBlockLabel, a_label, IsItem, plain_item, region, loop, choose, AreGenArms, no_else, last_else, else_if, IsBranch}
use Rattle.vlog_grammar.specs.Items.{gen_block, gen_item, AreItems, no_items, more_items}
use Rattle.vlog_laws.proofs.Shorter.{shorter_expr}
use Rattle.vlog_laws.proofs.ShorterStatements.{shorter_head}
use Rattle.vlog_laws.proofs.ShorterItemParts.{shorter_optional, shorter_name, shorter_plain_item}

shorter_label : {ts us : Tokens} {name : NamePlace} → IsBlockLabel ts name us → length us < length ts
shorter_label (a_label name) = omega (arith, shorter_name name)

pub shorter_block_label : {ts us : Tokens} {name : Option NamePlace} → IsOptional k.Colon IsBlockLabel ts name us → length us ≤ length ts
shorter_block_label label = shorter_optional (λ ts us a one. shorter_label one) label

mutual
  pub shorter_item : {inside : Bool} {ts us : Tokens} {a : Item} → IsItem inside ts a us → length us < length ts
  shorter_item (plain_item one) = shorter_plain_item one
  shorter_item (region items) = omega (arith, shorter_items items)
  shorter_item (loop head items) = omega (arith, shorter_head head, shorter_items items)
  shorter_item (choose arms) = omega (arith, shorter_gen_arms arms)

  pub shorter_gen_arms : {ts us : Tokens} {arms : List GenArm} {other : Option GenBody} → AreGenArms ts arms other us → length us < length ts
  shorter_gen_arms (no_else test body none) = omega (arith, shorter_expr test, shorter_gen body)
  shorter_gen_arms (last_else test body other) = omega (arith, shorter_expr test, shorter_gen body, shorter_gen other)
  shorter_gen_arms (else_if test body arms) = omega (arith, shorter_expr test, shorter_gen body, shorter_gen_arms arms)

  pub shorter_gen : {ts us : Tokens} {a : GenBody} → IsBranch ts a us → length us < length ts
  shorter_gen (gen_block name items) = omega (arith, shorter_block_label name, shorter_items items)
  shorter_gen (gen_item none one) = shorter_item one

  pub shorter_items : {inside : Bool} {ts us : Tokens} {all : List Item} → AreItems inside ts all us → length us ≤ length ts
  shorter_items no_items = omega arith
  shorter_items (more_items one rest) = omega (arith, shorter_item one, shorter_items rest)
