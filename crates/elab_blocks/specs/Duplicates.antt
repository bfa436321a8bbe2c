-- Names that stand twice in a scope (IEEE 1364-2005, 12.7).
use Rattle.std.specs.Prelude.{ℕ, Bool, ◌||◌, List, map}
use Rattle.std.specs.List.{list_any}
use Rattle.scope_meaning.specs.Declared.{is_in}
use Rattle.scope_meaning.specs.Overrides.{has_twice}
use Rattle.elab_names.specs.declared.declared.DeclaredName.{DeclaredName}

-- one of some names stands twice, or before
abbrev pub is_duplicate : List (List ℕ) → List (List ℕ) → Bool
is_duplicate before names = has_twice names || list_any (λ n. is_in n before) names

abbrev pub names_in : List DeclaredName → List (List ℕ)
names_in = map (λ (d : DeclaredName). d.name)
