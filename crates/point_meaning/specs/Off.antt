-- What turns points off (Verilator User's Guide, coverage; the exact reach is this project's own).
use Rattle.std.specs.Prelude.{◌≡◌, ◌⊎◌, true, List, Some, None, Contains}
use Rattle.cov_types.specs.declared.place.Place.{Place}
use Rattle.cov_types.specs.declared.pragma.Pragma.{Pragma}
use Rattle.cov_types.specs.declared.pragma.PragmaKind.TheVariants as pragma
use Rattle.vlog_tree.specs.declared.statement.Stmt.{Stmt}
use Rattle.vlog_tree.specs.declared.module.SourceFile.{SourceFile}
use Rattle.flat_source_meaning.specs.SourceArms.{Arm, Stops, IsArmInside}
use Rattle.point_meaning.specs.Pragmas.{is_off_from}
use Rattle.vlog_tree.specs.Blocks.{Block, is_placed_in, IsInnermost}

-- a `coverage_block_off` of some file takes this block, the innermost around it
abbrev pub IsTaken : List SourceFile → Block → Type 0
IsTaken files b = (file : SourceFile) × (p : Pragma) × Contains files file × Contains file.pragmas p
    × (p.what ≡ pragma.BlockOff) × IsInnermost file p.place b

-- a place is off: it is switched off, or it stands in a module or generate block that is taken
pub data IsPlaceOff (files : List SourceFile) (reach place : Place) : Type 0 where
  switched : is_off_from files reach ≡ true → IsPlaceOff files reach place
  in_block : {b : Block} → IsTaken files b → b.statement ≡ None → is_placed_in b place ≡ true → IsPlaceOff files reach place

-- An arm is off: its place is, a `$stop` belongs to it directly, or a statement block is taken that is its statement or
-- has it inside.
pub data IsArmOff (files : List SourceFile) (x : Arm) : Type 0 where
  by_place : IsPlaceOff files x.reach x.place → IsArmOff files x
  by_stop : Stops x → IsArmOff files x
  by_block : {b : Block} {a : Stmt} → IsTaken files b → b.statement ≡ Some a → x.body ≡ Some a ⊎ IsArmInside a x → IsArmOff files x
