-- Which modules a place stands in.
use Rattle.std.specs.Prelude.{◌≡◌, ℕ, List, Some, slice_get}
use Rattle.vlog_tree.specs.declared.module.Module.{Module}
use Rattle.scope_meaning.specs.Declared.{is_in}
use Rattle.scope_meaning.specs.Heads.{module_named}
use Rattle.elab_modules.specs.declared.above.OpenModules.{OpenModules}

-- those with these names, each module by the number that its name has
abbrev pub AreAbove : List Module → List (List ℕ) → OpenModules → Type 0
AreAbove design above o = (n : ℕ) (m : Module) → module_named design m.name ≡ Some (n, m) → slice_get o.entered.items n ≡ Some (is_in m.name above)
