-- When what the code says of a name is what it stands for.
use Rattle.std.specs.Prelude.{◌≡◌, List}
use Rattle.elab_types.specs.declared.flat_source.FlatVar.{FlatVar}
use Rattle.source_meaning.specs.Environment.{Named, variable, constant, unknown}
use Rattle.flat_meaning.specs.Expressions.{looked_up}
use Rattle.flat_expressions.specs.declared.resolved.Resolved.{Resolved}
use Rattle.flat_expressions.specs.declared.resolved.Resolved.TheVariants as is

-- the number of the variable, the constant, or nothing
abbrev pub IsResolved : List FlatVar → Named → Resolved → Type 0
IsResolved vars (variable v) (is.Variable n) = looked_up vars n ≡ variable v
IsResolved vars (constant size signed x) (is.Constant w sg n) = (w ≡ size) × (sg ≡ signed) × (n ≡ x)
IsResolved vars unknown is.Nothing = Unit {0}
IsResolved vars _ _ = ⊥
