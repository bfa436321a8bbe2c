-- What stands in a statement, an item or a module (IEEE 1364-2005, 9 and 12.4), whatever its names stand for.
use Rattle.std.specs.Prelude.{◌≡◌, ℕ, List, [], ◌∷◌, ◌++◌, map, flat_map, Option, Some, None, Contains, slice_get}
use Rattle.vlog_tree.specs.declared.statement.Stmt.{Stmt}
use Rattle.vlog_tree.specs.declared.statement.StmtKind.TheOpen as o
use Rattle.vlog_tree.specs.declared.statement.CaseArm.{CaseArm, out-CaseArm}
use Rattle.vlog_tree.specs.declared.item.Item.{Item}
use Rattle.vlog_tree.specs.declared.item.ItemKind.TheOpen as i
use Rattle.vlog_tree.specs.declared.item.GenArm.{GenArm, out-GenArm}
use Rattle.vlog_tree.specs.declared.item.GenBody.{GenBody, out-GenBody}
use Rattle.vlog_tree.specs.declared.module.Module.{Module}
use Rattle.vlog_tree.specs.declared.module.SourceFile.{SourceFile}
use Rattle.vlog_tree.specs.Trees.{Layer, layer, StmtLayer, stmt_layer, option_list}

-- ---- statements

abbrev pub case_body : CaseArm → Stmt
case_body arm = (out-CaseArm arm).body

-- the statements of a block, and the body of a loop: what is done whenever the statement is
abbrev pub parts_of : StmtLayer → List Stmt
parts_of (o.Block body last) = body
parts_of (o.For name from test step_name step body) = body ∷ []
parts_of _ = []

-- the statements right inside, in text order
abbrev pub inner_of : StmtLayer → List Stmt
inner_of (o.If test first other) = first ∷ option_list other
inner_of (o.Case wild on arms) = map case_body arms
inner_of a = parts_of a

-- the second statement stands in the first, or is it
pub data IsInside : Stmt → Stmt → Type 0 where
  itself : {a : Stmt} → IsInside a a
  deeper : {a b c : Stmt} → Contains (inner_of (stmt_layer a)) b → IsInside b c → IsInside a c

-- the same with nothing but blocks and loops between
pub data IsDirectlyIn : Stmt → Stmt → Type 0 where
  itself : {a : Stmt} → IsDirectlyIn a a
  deeper : {a b c : Stmt} → Contains (parts_of (stmt_layer a)) b → IsDirectlyIn b c → IsDirectlyIn a c

-- the statement of an `initial` or `always`
abbrev pub statement_of : Layer → Option Stmt
statement_of (i.Initial body) = Some body
statement_of (i.Always clock body) = Some body
statement_of _ = None

-- a statement stands in a process
abbrev pub IsStmtOf : Item → Stmt → Type 0
IsStmtOf a c = (b : Stmt) × (statement_of (layer a) ≡ Some b) × IsInside b c

-- ---- items

-- the bodies of a generate `if`
abbrev pub bodies_of : List GenArm → Option GenBody → List GenBody
bodies_of arms last = map (λ arm. (out-GenArm arm).body) arms ++ option_list last

-- the items right inside one, in text order: all of a generate construct, whether or not they are chosen
abbrev pub items_in : Layer → List Item
items_in (i.Generate items) = items
items_in (i.Loop name from test step_name step block places body) = body
items_in (i.Choose arms last) = flat_map (λ body. (out-GenBody body).items) (bodies_of arms last)
items_in _ = []

-- an item stands among these or inside one of them
pub data IsAmong : List Item → Item → Type 0 where
  listed : {items : List Item} {a : Item} → Contains items a → IsAmong items a
  deeper : {items : List Item} {a b : Item} → Contains items b → IsAmong (items_in (layer b)) a → IsAmong items a

-- These items and all that stand in them, in the order of the text (preorder): each before those inside it.
pub data AreInPreorder : List Item → List Item → Type 0 where
  no_items : AreInPreorder [] []
  item_first : {a : Item} {items inner all : List Item} → AreInPreorder (items_in (layer a)) inner → AreInPreorder items all
      → AreInPreorder (a ∷ items) (a ∷ inner ++ all)

-- the item has this number in its module, counted in preorder from 0; the parameters of the header aren't counted
abbrev pub IsNumbered : Module → ℕ → Item → Type 0
IsNumbered m n a = (all : List Item) × AreInPreorder m.items all × (slice_get all n ≡ Some a)

-- an item stands in a module of the file
abbrev pub IsItemIn : SourceFile → Item → Type 0
IsItemIn file a = (m : Module) × Contains file.modules m × IsAmong m.items a
