-- When a place of the code is one of the walk.
use Rattle.std.specs.Prelude.{◌≡◌, ℕ, List}
use Rattle.source_meaning.specs.Environment.{Environment}
use Rattle.scope_meaning.specs.Scope.{Here, At, frames}
use Rattle.flat_source_meaning.specs.Environments.{environment, position}
use Rattle.scope_table.specs.Tables.{value_in}
use Rattle.flat_scopes.specs.Frames.{AreFramesAt}
use Rattle.flat_names.specs.declared.loops.LoopValue.{LoopValue}
use Rattle.flat_names.specs.Loops.{in_passes}
use Rattle.flat_sites.specs.declared.site.Site.{Site}

-- The scopes around it are those of the walk, and the variables have their numbers.
pub record IsSite (here : Here) (place : At) (site : Site) : Type 0 where
  pub frames : AreFramesAt site.scopes.now.scopes.items site.at (frames here place)
  pub scope : site.at.scope ≡ here.number
  pub numbers : (s : ℕ) (n : List ℕ) → value_in site.numbers.now s n ≡ position site.vars.now s n

-- What names stand for there, in the passes of these loops.
pub record IsSeen (site : Site) (loops : List LoopValue) (env : Environment) : Type 0 where
  pub here : Here
  pub place : At
  pub stands : IsSite here place site
  pub same : env ≡ in_passes loops (environment site.vars.now here place)
