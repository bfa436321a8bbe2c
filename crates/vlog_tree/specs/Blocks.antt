-- Places in text order, and the blocks around a place (IEEE 1364-2005, 9.8 and 12.4).
use Rattle.std.specs.Prelude.{◌≡◌, Bool, true, ◌&&◌, ◌||◌, ◌==◌, not, nat_lt, List, [], ◌∷◌, filter_map, Option, Some, None, Contains}
use Rattle.cov_types.specs.declared.place.Place.{Place}
use Rattle.vlog_tree.specs.declared.statement.Stmt.{Stmt}
use Rattle.vlog_tree.specs.declared.statement.StmtKind.TheOpen as s
use Rattle.vlog_tree.specs.declared.item.BlockPlaces.{BlockPlaces}
use Rattle.vlog_tree.specs.declared.item.Item.{Item}
use Rattle.vlog_tree.specs.declared.item.ItemKind.TheOpen as i
use Rattle.vlog_tree.specs.declared.item.GenBody.{out-GenBody}
use Rattle.vlog_tree.specs.declared.module.Module.{Module}
use Rattle.vlog_tree.specs.declared.module.SourceFile.{SourceFile}
use Rattle.vlog_tree.specs.Trees.{Layer, layer, StmtLayer, stmt_layer, first_token}
use Rattle.vlog_tree.specs.Inside.{bodies_of, IsItemIn, IsStmtOf}

-- the first place stands before the second, in one file
abbrev pub is_before : Place → Place → Bool
is_before p q = p.file == q.file && (nat_lt p.line q.line || p.line == q.line && nat_lt p.column q.column)

-- it stands before it, or they are one place
abbrev pub is_up_to : Place → Place → Bool
is_up_to p q = p.file == q.file && not (is_before q p)

-- Where a block begins and ends, and the statement that it is, unless it is a generate block or a module.
pub record Block : Type 0 where
  pub first : Place
  pub last : Place
  pub statement : Option Stmt

-- a block that is no statement
abbrev pub block_at : Place → Place → Block
block_at first last = record { first = first; last = last; statement = None }

-- the block from its `begin` to its `end`
abbrev pub generate_block : BlockPlaces → Block
generate_block places = block_at places.begin places.end

-- the block of a branch of a generate `if`, unless it is a single item
abbrev pub body_block : Option BlockPlaces → Option Block
body_block (Some places) = Some (generate_block places)
body_block None = None

-- the generate blocks of an item itself; a single item as an arm of a generate `if` is no block
abbrev pub generate_blocks : Layer → List Block
generate_blocks (i.Loop name from test step_name step block places body) = generate_block places ∷ []
generate_blocks (i.Choose arms last) = filter_map (λ body. body_block (out-GenBody body).places) (bodies_of arms last)
generate_blocks _ = []

-- the block that a statement itself is
abbrev pub statement_blocks : Stmt → StmtLayer → List Block
statement_blocks a (s.Block body last) = record { first = first_token a; last = last; statement = Some a } ∷ []
statement_blocks a _ = []

-- the blocks of a file
pub data IsBlockIn (file : SourceFile) : Block → Type 0 where
  a_module : {m : Module} → Contains file.modules m → IsBlockIn file (block_at m.place m.last)
  of_item : {a : Item} {b : Block} → IsItemIn file a → Contains (generate_blocks (layer a)) b → IsBlockIn file b
  of_statement : {a : Item} {c : Stmt} {b : Block} → IsItemIn file a → IsStmtOf a c → Contains (statement_blocks c (stmt_layer c)) b → IsBlockIn file b

-- the place stands between the ends of the block
abbrev pub is_around : Block → Place → Bool
is_around b place = is_before b.first place && is_before place b.last

-- the place stands between them or at one of them
abbrev pub is_placed_in : Block → Place → Bool
is_placed_in b place = is_up_to b.first place && is_up_to place b.last

-- the first block lies inside the second, or they have the same ends
abbrev pub is_within : Block → Block → Bool
is_within b c = is_up_to c.first b.first && is_up_to b.last c.last

-- the innermost block around a place: it lies inside each block that is around the place
pub record IsInnermost (file : SourceFile) (place : Place) (b : Block) : Type 0 where
  pub block : IsBlockIn file b
  pub around : is_around b place ≡ true
  pub least : (c : Block) → IsBlockIn file c → is_around c place ≡ true → is_within b c ≡ true
