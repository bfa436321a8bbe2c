-- The run of a flat statement (IEEE 1364-2005, 9 and 17): the rules of source statements, without loops.
use Rattle.std.specs.Prelude.{ℕ, List, [], ◌++◌, map, flat_map, unwrap_or}
use Rattle.cov_types.specs.declared.place.Place.{Place}
use Rattle.elab_types.specs.declared.flat_source.FlatVar.{FlatVar}
use Rattle.elab_types.specs.declared.flat_statement.FlatStmt.{FlatStmt, fold-FlatStmt}
use Rattle.elab_types.specs.declared.flat_statement.FlatKind.TheOpen as k
use Rattle.circuit_run.specs.Outcomes.{Act, unchanged, in_turn, finishes, stops}
use Rattle.source_meaning.specs.Events.{Event}
use Rattle.source_meaning.specs.Meaning.{Object}
use Rattle.source_meaning.specs.Cases.{Choice}
use Rattle.source_meaning.specs.Acts.{if_runs, case_runs, sets, sets_later, displays}
use Rattle.flat_meaning.specs.Expressions.{meaning}

-- what a statement does at a place in a scope, by its kind
abbrev pub statement : List FlatVar → ℕ → k.FlatKind-F (Place → Act Event) Choice (Act Event) → Place → Act Event
statement vars scope k.Empty p = unchanged
statement vars scope (k.Block body last) p = in_turn body
statement vars scope (k.If test first second) p = if_runs scope p (meaning vars test) first second
statement vars scope (k.Case wild on arms) p = case_runs scope p (meaning vars on) arms
statement vars scope (k.Set target e) p = sets (meaning vars target) (meaning vars e)
statement vars scope (k.Later target e) p = sets_later (meaning vars target) (meaning vars e)
statement vars scope (k.Show text values) p = displays text (map (meaning vars) values)
statement vars scope k.Finish p = finishes
statement vars scope k.Stop p = stops

-- an arm of a `case`, with what its items mean and its body does
abbrev pub choice : List FlatVar → k.FlatArm-F (Place → Act Event) Choice (Act Event) → Choice
choice vars c = record { place = c.place; items = map (meaning vars) c.items; body = c.body }

-- what a flat statement does
abbrev pub does : List FlatVar → ℕ → FlatStmt → Act Event
does vars scope = fold-FlatStmt (Place → Act Event) Choice (Act Event) (statement vars scope) (choice vars) (λ s. s.what s.place)

-- the objects that the targets of its assignments name, by its kind
abbrev pub statement_targets : List FlatVar → k.FlatKind-F (List Object) (List Object) (List Object) → List Object
statement_targets vars (k.Block body last) = flat_map (λ of. of) body
statement_targets vars (k.If test first second) = first ++ unwrap_or second []
statement_targets vars (k.Case wild on arms) = flat_map (λ of. of) arms
statement_targets vars (k.Set target e) = (meaning vars target).objects
statement_targets vars (k.Later target e) = (meaning vars target).objects
statement_targets vars _ = []

-- the objects that the targets of a statement name
abbrev pub targets : List FlatVar → FlatStmt → List Object
targets vars = fold-FlatStmt (List Object) (List Object) (List Object) (statement_targets vars) (λ c. c.body) (λ s. s.what)
