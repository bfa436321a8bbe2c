-- Small trees: what stands in them, and the blocks around a place.
use Rattle.std.proofs.Common.{◌≡◌, ℕ, true, List, [], ◌∷◌, Some, None, refl}
use Rattle.std.specs.Prelude.{Contains}
use Rattle.cov_types.specs.declared.place.Place.{Place}
use Rattle.vlog_tree.specs.declared.expression.Expr.{Expr}
use Rattle.vlog_tree.specs.declared.expression.Expr.TheVariants as e
use Rattle.vlog_tree.specs.declared.statement.Stmt.{Stmt}
use Rattle.vlog_tree.specs.declared.statement.StmtKind.TheVariants as s
use Rattle.vlog_tree.specs.declared.item.Item.{Item}
use Rattle.vlog_tree.specs.declared.item.ItemKind.TheVariants as i
use Rattle.vlog_tree.specs.declared.module.Module.{Module}
use Rattle.vlog_tree.specs.Trees.{stmt, item}
use Rattle.vlog_tree.specs.Inside.{AreInPreorder, no_items, item_first, IsNumbered}
use Rattle.vlog_tree.specs.Blocks.{Block, block_at, is_around, is_within}

abbrev spot : ℕ → ℕ → Place
spot line column = record { file = 0; line = line; column = column }

-- `integer a;`, `generate integer b; endgenerate` and `integer c;`
abbrev a_region : Item → Item → Item → List Item
a_region a b c = a ∷ item (spot 2 1) (i.Generate (b ∷ [])) ∷ c ∷ []

-- a plain item has no item inside it
abbrev plain : Place → Item
plain p = item p (i.Integer [])

-- A region stands before its item, and that before the item after the region.
region_in_preorder : AreInPreorder (a_region (plain (spot 1 1)) (plain (spot 2 10)) (plain (spot 3 1)))
    (plain (spot 1 1) ∷ item (spot 2 1) (i.Generate (plain (spot 2 10) ∷ [])) ∷ plain (spot 2 10) ∷ plain (spot 3 1) ∷ [])
unfolding Rattle.vlog_tree.specs.declared.item.ItemKind.TheViews.out-ItemKind denote.Hole.Carrier.out
    Rattle.vlog_tree.specs.declared.item.ItemKind.TheBlock.shown-the_row-Item-0 denote.Hole.Carrier.shown denote.Hole.Carrier.hidden
region_in_preorder = item_first no_items (item_first (item_first no_items no_items) (item_first no_items no_items))

-- A place between the ends of two nested blocks is around both, and the inner lies within the outer.
inner_block : (is_around (block_at (spot 2 3) (spot 4 1)) (spot 3 1) ≡ true)
    × (is_within (block_at (spot 2 3) (spot 4 1)) (block_at (spot 1 1) (spot 9 1)) ≡ true)
inner_block = (refl, refl)
