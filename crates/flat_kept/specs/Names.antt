-- What names stand for at a place, where constants alone count.
use Rattle.std.specs.Prelude.{Option, Some, None}
use Rattle.source_meaning.specs.Environment.{Named, constant, unknown, Environment}
use Rattle.flat_scopes.specs.declared.scope.NameMeaning.{NameMeaning}
use Rattle.flat_scopes.specs.declared.scope.NameMeaning.TheVariants as means
use Rattle.flat_scopes.specs.Meanings.{meaning_by}
use Rattle.flat_kept.specs.declared.names.PlaceNames.{PlaceNames}

-- a constant, or nothing
abbrev pub stands : Option NameMeaning → Named
stands (Some (means.Constant v)) = constant v.value.width v.signed v.value.bits
stands _ = unknown

-- the environment in which names stand for constants alone
abbrev pub environment_at : PlaceNames → Environment
environment_at p = record { scope = 0; look = λ name. stands (meaning_by p.scopes.now.scopes.items p.at name) }
