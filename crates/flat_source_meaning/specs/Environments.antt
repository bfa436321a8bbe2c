-- What names stand for in a process, an assignment or a connection (IEEE 1364-2005, 12.7): the environment of a scope at a
-- place, in which the meanings of expressions and statements are taken.
use Rattle.std.specs.Prelude.{ℕ, ◌+◌, ◌==◌, ◌&&◌, Bool, if◌then◌else◌, List, [], ◌∷◌, Option, Some, None}
use Rattle.std.specs.Str.{bytes_eq}
use Rattle.elab_types.specs.declared.flat_source.FlatVar.{FlatVar}
use Rattle.source_meaning.specs.Environment.{Named, constant, unknown, Environment, in_pass}
use Rattle.flat_meaning.specs.Expressions.{looked_up}
use Rattle.scope_meaning.specs.Scope.{Frame, Here, At, frames, Meant, a_constant, a_variable, meaning_of}

-- whether two variables are one, by scope and name
abbrev pub is_variable : ℕ → List ℕ → ℕ → List ℕ → Bool
is_variable s n scope name = (s == scope) && bytes_eq n name

-- its place among variables, the first of which has this number
unfoldable pub position_from : ℕ → List FlatVar → ℕ → List ℕ → Option ℕ
position_from k [] s n = None
position_from k (x ∷ xs) s n = if is_variable s n x.scope x.name then Some k else position_from (k + 1) xs s n

-- the number of the variable of a scope and name
abbrev pub position : List FlatVar → ℕ → List ℕ → Option ℕ
position = position_from 0

-- what a number stands for, where there is one
abbrev pub numbered : List FlatVar → Option ℕ → Named
numbered vars (Some n) = looked_up vars n
numbered vars None = unknown

-- what is meant stands for a constant, or for the variable of its number
abbrev pub named_by : List FlatVar → Option Meant → Named
named_by vars (Some (a_constant c)) = constant c.width c.signed c.bits
named_by vars (Some (a_variable s d)) = numbered vars (position vars s d.name)
named_by vars _ = unknown

-- the environment of a scope at a place: its constants and variables, and those of the scopes around it
abbrev pub environment : List FlatVar → Here → At → Environment
environment vars here at = record { scope = here.number; look = λ name. named_by vars (meaning_of (frames here at) name) }

-- the ports of another scope, seen from this one
abbrev pub ports_of : List FlatVar → ℕ → ℕ → Environment
ports_of vars here other = record { scope = here; look = λ name. numbered vars (position vars other name) }

-- Where a statement stands: the scopes seen from its item, the names of the loop variables around it, and what names stand
-- for, each loop variable for its value in the pass.
pub record Inside : Type 0 where
  pub frames : List Frame
  pub loops : List (List ℕ)
  pub env : Environment

-- outside all loops
abbrev pub outside_loops : List FlatVar → Here → At → Inside
outside_loops vars here at = record { frames = frames here at; loops = []; env = environment vars here at }

-- inside a pass of a loop
abbrev pub inside_pass : Inside → List ℕ → ℕ → Inside
inside_pass inside name n = record { frames = inside.frames; loops = name ∷ inside.loops; env = in_pass inside.env name n }
