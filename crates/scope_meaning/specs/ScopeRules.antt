-- When a place of the walk is refused: each rule is a condition on the place (docs/formats.md, "Refusals of a design";
-- IEEE 1364-2005, 4.3, 4.9, 12.2, 12.4).
use Rattle.std.specs.Prelude.{◌≤◌, ℕ, Bool, true, false, not, ◌||◌, if◌then◌else◌, nat_lt, IsTrue, List, [], ◌∷◌, map, Option, Some, None}
use Rattle.std.specs.List.{list_any, find}
use Rattle.std.specs.Str.{bytes_eq}
use Rattle.cov_types.specs.declared.place.Place.{Place}
use Rattle.cov_types.specs.declared.limit.LimitName.TheVariants as limit
use Rattle.elab_types.specs.declared.elab_fault.ElabFault.{ElabFault}
use Rattle.elab_types.specs.declared.elab_fault.ElabFault.TheVariants as fault
use Rattle.vlog_tree.specs.declared.module.Module.{Module}
use Rattle.scope_meaning.specs.Constants.{Wrong, constants, read}
use Rattle.scope_meaning.specs.Declared.{is_in}
use Rattle.scope_meaning.specs.Scope.{Frame, meaning_of, is_free_genvar}
use Rattle.scope_meaning.specs.Ranges.{is_bad_range, has_bad_bound, is_wide_range, words}
use Rattle.scope_meaning.specs.Overrides.{parameters, are_bad, has_twice}
use Rattle.scope_meaning.specs.Heads.{module_named, GenLoop}
use Rattle.scope_meaning.specs.Visits.{Spot, Visit, Entry, enters, sees}
use Rattle.scope_meaning.specs.Standing.{Standing, standing}

-- the rules, in their order
pub data ScopeRule : Type 0 where
  duplicate not_constant bad_select bad_range width_past_128 bad_genvar unknown_module bad_override recursive : ScopeRule

abbrev pub rules : List ScopeRule
rules = duplicate ∷ not_constant ∷ bad_select ∷ bad_range ∷ width_past_128 ∷ bad_genvar ∷ unknown_module ∷ bad_override ∷ recursive ∷ []

-- what is wrong in the expressions that have to be constants there
abbrev pub wrongs : Standing → List Wrong
wrongs x = map (λ w. (read (constants w.names) w.expr).wrong) x.wanted

abbrev pub is_bad_loop : List Frame → GenLoop → Bool
is_bad_loop fs l = not (bytes_eq l.name l.step_name) || not (is_free_genvar (meaning_of fs l.name))

abbrev pub is_unknown : Option (ℕ × Module) → Bool
is_unknown (Some m) = false
is_unknown None = true

abbrev pub is_bad_for : Option (ℕ × Module) → (Module → Bool) → Bool
is_bad_for (Some m) bad = bad m.1
is_bad_for None bad = false

-- whether a rule refuses a place
abbrev pub refuses : List Module → Standing → ScopeRule → Bool
-- A name that is declared there stands twice in its scope so far.
refuses design x duplicate = has_twice x.names || list_any (λ n. is_in n x.before) x.names
-- An expression that has to be a constant has a name without a value.
refuses design x not_constant = list_any (λ w. w.name) (wrongs x)
-- A constant has a select, or a replication count below 1.
refuses design x bad_select = list_any (λ w. w.select) (wrongs x)
-- A vector range ascends, or a bound of a range is negative or past 2 ^ 31 - 1.
refuses design x bad_range = list_any (is_bad_range x.known) x.vectors || list_any (has_bad_bound x.known) x.memories
-- A declared width, or a size inside a constant, is past 128.
refuses design x width_past_128 = list_any (λ w. w.wide) (wrongs x) || list_any (is_wide_range x.known) x.vectors
-- The names of a generate loop aren't one genvar that is visible there and not in use by a loop around.
refuses design x bad_genvar = list_any (is_bad_loop x.frames) x.loops
-- An instance names no module.
refuses design x unknown_module = list_any (λ i. is_unknown (module_named design i.0)) x.instantiated
-- A value for a parameter names none or one twice, or there are more than parameters.
refuses design x bad_override = list_any (λ i. is_bad_for (module_named design i.0) (λ m. are_bad (parameters m) i.1)) x.instantiated
-- The module of an instance is one of those that the instance stands in.
refuses design x recursive = list_any (λ i. is_in i.0 x.above) x.instantiated

-- a memory has more words than are taken
abbrev pub is_past : Option (ℕ × ℕ) → Bool
is_past (Some w) = nat_lt 65536 w.0
is_past None = false

abbrev pub has_large_memory : Standing → Bool
has_large_memory x = list_any (λ r. is_past (words x.known r)) x.memories

abbrev pub fault_of : Place → ScopeRule → ElabFault
fault_of p duplicate = fault.Duplicate p
fault_of p not_constant = fault.NotConstant p
fault_of p bad_select = fault.BadSelect p
fault_of p bad_range = fault.BadRange p
fault_of p width_past_128 = fault.WidthPast128 p
fault_of p bad_genvar = fault.BadGenvar p
fault_of p unknown_module = fault.UnknownModule p
fault_of p bad_override = fault.BadOverride p
fault_of p recursive = fault.Recursive p

-- Something refuses the design at a visit: a rule, the limit on words of a memory, or the limit on scopes.
pub data Refuses (design : List Module) : Visit → ElabFault → Type 0 where
  by_rule : {spot : Spot} (rule : ScopeRule) → IsTrue (refuses design (standing spot) rule)
      → Refuses design (sees spot) (fault_of (standing spot).place rule)
  by_memory : {spot : Spot} → IsTrue (has_large_memory (standing spot)) → Refuses design (sees spot) (fault.Limit limit.MemoryWords)
  by_scopes : {entry : Entry} → 65536 ≤ entry.number → Refuses design (enters entry) (fault.Limit limit.Scopes)

-- What refuses it there: at one place the earlier rule counts, and limits come after all rules.
abbrev pub memory_fault : Bool → Option ElabFault
memory_fault true = Some (fault.Limit limit.MemoryWords)
memory_fault false = None

abbrev pub first_of : Standing → Option ScopeRule → Option ElabFault
first_of x (Some rule) = Some (fault_of x.place rule)
first_of x None = memory_fault (has_large_memory x)

abbrev pub refusal_at : List Module → Standing → Option ElabFault
refusal_at design x = first_of x (find (refuses design x) rules)

abbrev pub refusal : List Module → Visit → Option ElabFault
refusal design (sees spot) = refusal_at design (standing spot)
refusal design (enters entry) = if nat_lt entry.number 65536 then None else Some (fault.Limit limit.Scopes)
refusal design _ = None
