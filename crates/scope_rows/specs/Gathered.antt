-- What of some visits is gathered: their scopes in order, and the constants and rows of each.
use Rattle.std.specs.Prelude.{◌≡◌, ℕ, ◌+◌, List, [], ◌∷◌, map, length}
use Rattle.std.specs.List.{filter_map}
use Rattle.scope_meaning.specs.ScopeTrees.{entry_of, row_of, constants_in, seen_constant}
use Rattle.scope_meaning.specs.Visits.{Visits}
use Rattle.row_lists.specs.Lists.{list_at}
use Rattle.walk_state.specs.declared.record.Entered.{Entered}
use Rattle.walk_state.specs.Records.{entry_seen}
use Rattle.scope_rows.specs.declared.gathered.Gathered.{Gathered}

-- they have these numbers, the first one this one
abbrev pub AreNumbered : ℕ → List Entered → Type 0
AreNumbered n [] = Unit {0}
AreNumbered n (e ∷ es) = (e.number ≡ n) × AreNumbered (n + 1) es

pub record IsGathered (vs : Visits) (g : Gathered) : Type 0 where
  pub entries : map entry_seen g.entered ≡ filter_map entry_of vs
  pub numbers : AreNumbered 0 g.entered
  pub constants_of_each : length g.constants ≡ length g.entered
  pub items_of_each : length g.items ≡ length g.entered
  pub constants : (k : ℕ) → map seen_constant (list_at g.constants k) ≡ constants_in k vs
  pub items : (k : ℕ) → list_at g.items k ≡ filter_map (row_of k) vs
