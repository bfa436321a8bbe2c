-- The meaning of a flat expression (IEEE 1364-2005, 5): the rules of source expressions, where a name is the number of a
-- variable.
use Rattle.std.specs.Prelude.{ℕ, true, ◌||◌, List, slice_get, Option, Some, None}
use Rattle.elab_types.specs.declared.flat_source.FlatVar.{FlatVar}
use Rattle.elab_types.specs.declared.flat_expression.FlatExpr.{FlatExpr, FlatExpr-F, fold-FlatExpr}
use Rattle.elab_types.specs.declared.flat_expression.FlatExpr.TheOpen as x
use Rattle.source_meaning.specs.Meaning.{Variable, Meaning, by_itself}
use Rattle.source_meaning.specs.Operators.{unary_of, binary_of, chosen}
use Rattle.source_meaning.specs.Joins.{joined, repeated, called}
use Rattle.source_meaning.specs.Selects.{Selection, at, between, up, down, selected}
use Rattle.source_meaning.specs.Environment.{Named, variable, unknown, named}

-- what the variable of a number is to the names that stand for it; an integer is a vector from 31 to 0
abbrev pub variable_of : ℕ → FlatVar → Variable
variable_of n v = record {
  number = n;
  width = v.width;
  signed = v.signed;
  vector = v.vector || v.integer;
  low = v.low;
  memory = v.memory;
  word_low = v.word_low;
}

-- the variable, where there is one of that number
abbrev pub found : ℕ → Option FlatVar → Named
found n (Some v) = variable (variable_of n v)
found n None = unknown

-- what a number stands for among the variables
abbrev pub looked_up : List FlatVar → ℕ → Named
looked_up vars n = found n (slice_get vars n)

-- one clause for each form of an expression
abbrev pub expression : List FlatVar → FlatExpr-F Meaning Selection → Meaning
expression vars (x.Number size signed n free) = record (by_itself size signed true λ s. n) { free = free }
expression vars (x.Var n) = named (looked_up vars n)
expression vars (x.Select base select) = selected base select
expression vars (x.Unary op a) = unary_of op a
expression vars (x.Binary op a b) = binary_of op a b
expression vars (x.Choose test a b) = chosen test a b
expression vars (x.Join parts) = joined parts
expression vars (x.Repeat count parts) = repeated count parts
expression vars (x.Call name a) = called name a

-- one clause for each form of a select
abbrev pub selection : x.FlatSelect-F Meaning Selection → Selection
selection (x.At i) = at i
selection (x.Between high low) = between high low
selection (x.Up i count) = up i count
selection (x.Down i count) = down i count

-- the meaning of a flat expression
abbrev pub meaning : List FlatVar → FlatExpr → Meaning
meaning vars = fold-FlatExpr Meaning Selection (expression vars) selection
