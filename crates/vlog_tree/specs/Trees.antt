-- Making a node of a syntax tree, and opening one.
use Rattle.std.specs.Prelude.{List, [], ◌∷◌, Option, Some, None}
use Rattle.cov_types.specs.declared.place.Place.{Place}
use Rattle.vlog_tree.specs.declared.expression.Expr.{Expr}
use Rattle.vlog_tree.specs.declared.statement.Stmt.{Stmt, roll-Stmt, out-Stmt}
use Rattle.vlog_tree.specs.declared.statement.StmtKind.{StmtKind, out-StmtKind}
use Rattle.vlog_tree.specs.declared.statement.StmtKind.TheOpen.{StmtKind-F}
use Rattle.vlog_tree.specs.declared.statement.CaseArm.{CaseArm, roll-CaseArm}
use Rattle.vlog_tree.specs.declared.item.NamePlace.{NamePlace}
use Rattle.vlog_tree.specs.declared.item.BlockPlaces.{BlockPlaces}
use Rattle.vlog_tree.specs.declared.item.Item.{Item, roll-Item, out-Item}
use Rattle.vlog_tree.specs.declared.item.ItemKind.{ItemKind, out-ItemKind}
use Rattle.vlog_tree.specs.declared.item.ItemKind.TheOpen.{ItemKind-F}
use Rattle.vlog_tree.specs.declared.item.GenArm.{GenArm, roll-GenArm}
use Rattle.vlog_tree.specs.declared.item.GenBody.{GenBody, roll-GenBody}

-- a statement, an arm of a `case`, an item, an arm of a generate `if` and its body
abbrev pub stmt : Place → StmtKind → Stmt
stmt p what = roll-Stmt (record { place = p; what = what })

abbrev pub case_arm : Place → List Expr → Stmt → CaseArm
case_arm p items body = roll-CaseArm (record { place = p; items = items; body = body })

abbrev pub item : Place → ItemKind → Item
item p what = roll-Item (record { place = p; what = what })

abbrev pub gen_arm : Expr → GenBody → GenArm
gen_arm test body = roll-GenArm (record { test = test; body = body })

abbrev pub gen_body : Option NamePlace → Option BlockPlaces → List Item → GenBody
gen_body name places items = roll-GenBody (record { name = name; places = places; items = items })

-- what an item is, with the nodes right inside it
abbrev pub Layer : Type 0
Layer = ItemKind-F ItemKind GenArm GenBody Item

abbrev pub layer : Item → Layer
layer a = out-ItemKind (out-Item a).what

-- the first token of an item
abbrev pub item_place : Item → Place
item_place a = (out-Item a).place

-- what a statement is, with the nodes right inside it
abbrev pub StmtLayer : Type 0
StmtLayer = StmtKind-F StmtKind CaseArm Stmt

abbrev pub stmt_layer : Stmt → StmtLayer
stmt_layer a = out-StmtKind (out-Stmt a).what

-- the first token of a statement
abbrev pub first_token : Stmt → Place
first_token a = (out-Stmt a).place

-- a value that may be there, as a list
abbrev pub option_list : {A : Type 0} → Option A → List A
option_list (Some a) = a ∷ []
option_list None = []
