-- The modules of a design in a table.
use Rattle.std.specs.Prelude.{◌≡◌, ℕ, List, [], ◌∷◌, ◌++◌, Option, Some, None, Result, Ok, Err, slice_get}
use Rattle.vlog_tree.specs.declared.module.Module.{Module}
use Rattle.vlog_tree.specs.declared.module.SourceFile.{SourceFile}
use Rattle.elab_types.specs.declared.elab_fault.ElabFault.{ElabFault}
use Rattle.elab_types.specs.declared.elab_fault.ElabFault.TheVariants as fault
use Rattle.scope_meaning.specs.Constants.{option_of, and_then}
use Rattle.scope_meaning.specs.Heads.{module_named}
use Rattle.scope_meaning.specs.Overrides.{parameters}
use Rattle.scope_meaning.specs.ScopeTrees.{second_name, top_fault}
use Rattle.name_table.specs.Tables.{value_of}
use Rattle.elab_overrides.specs.Overrides.{AreParameters}
use Rattle.elab_modules.specs.declared.table.ModuleRow.{ModuleRow}
use Rattle.elab_modules.specs.declared.table.ModuleTable.{ModuleTable}

-- the module at a place of a file
abbrev pub module_at : List SourceFile → ℕ → ℕ → Option Module
module_at files file index = and_then (slice_get files file) (λ f. slice_get f.modules index)

-- a row is that of a module
pub record IsRow (files : List SourceFile) (m : Module) (row : ModuleRow) : Type 0 where
  pub place : module_at files row.file row.index ≡ Some m
  pub parameters : AreParameters (parameters m) row.parameters

abbrev pub IsRowAt : List SourceFile → Option Module → Option ModuleRow → Type 0
IsRowAt files (Some m) (Some row) = IsRow files m row
IsRowAt files None None = Unit {0}
IsRowAt files (Some m) None = ⊥
IsRowAt files None (Some row) = ⊥

-- The table has these modules in their order, each with the place in its file, and their numbers by name; no two have one
-- name.
pub record IsTable (files : List SourceFile) (ms : List Module) (t : ModuleTable) : Type 0 where
  pub rows : (n : ℕ) → IsRowAt files (slice_get ms n) (slice_get t.rows n)
  pub numbers : (q : List ℕ) → value_of t.numbers q ≡ option_of (λ (p : ℕ × Module). p.0) (module_named ms q)
  pub single : second_name [] ms ≡ None

-- the fault is that of a second module of one name, whatever stands behind these modules
abbrev pub IsSecond : List Module → ElabFault → Type 0
IsSecond ms fault.NoMemory = Unit {0}
IsSecond ms f = (rest : List Module) (found : Option (ℕ × Module)) → top_fault (second_name [] (ms ++ rest)) found ≡ Some f

-- more modules than these are in the table, or one of them is the second of its name
abbrev pub Adds : List SourceFile → List Module → List Module → Result ModuleTable ElabFault → Type 0
Adds files ms more (Ok t) = IsTable files (ms ++ more) t
Adds files ms more (Err f) = IsSecond (ms ++ more) f
