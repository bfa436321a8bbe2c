-- The modules of all files, and those that are found among them.
use Rattle.std.specs.Prelude.{◌≡◌, ℕ, List, [], Option, Some, None, Result, Ok, Err}
use Rattle.vlog_tree.specs.declared.module.Module.{Module}
use Rattle.vlog_tree.specs.declared.module.SourceFile.{SourceFile}
use Rattle.elab_types.specs.declared.elab_fault.ElabFault.{ElabFault}
use Rattle.elab_types.specs.declared.elab_fault.ElabFault.TheVariants as fault
use Rattle.scope_meaning.specs.Overrides as overrides
use Rattle.scope_meaning.specs.ScopeTrees.{modules, second_name, top_fault}
use Rattle.elab_overrides.specs.Overrides.{AreParameters}
use Rattle.elab_modules.specs.declared.find.Modules.{Modules}
use Rattle.elab_modules.specs.declared.find.FoundModule.{FoundModule}
use Rattle.elab_modules.specs.Tables.{IsTable}

-- they are the modules of these files
pub record AreModules (files : List SourceFile) (t : Modules) : Type 0 where
  pub same : t.files.now ≡ files
  pub table : IsTable files (modules files) t.table

-- why there are no modules: the fault before all else, whatever the top's name
abbrev pub IsDoubled : List SourceFile → ElabFault → Type 0
IsDoubled files fault.NoMemory = Unit {0}
IsDoubled files f = (found : Option (ℕ × Module)) → top_fault (second_name [] (modules files)) found ≡ Some f

abbrev pub GivesModules : List SourceFile → Result Modules ElabFault → Type 0
GivesModules files (Ok t) = AreModules files t
GivesModules files (Err f) = IsDoubled files f

-- the module that is meant is found
abbrev pub IsFound : Option (ℕ × Module) → Option FoundModule → Type 0
IsFound (Some p) (Some f) = (f.number ≡ p.0) × (f.of.now ≡ p.1) × AreParameters (overrides.parameters p.1) f.parameters.now
IsFound None None = Unit {0}
IsFound (Some p) None = ⊥
IsFound None (Some f) = ⊥
