-- What stands at a place of the walk.
use Rattle.std.specs.Prelude.{ℕ, List, [], ◌∷◌, map}
use Rattle.std.specs.List.{flat_map}
use Rattle.cov_types.specs.declared.place.Place.{Place}
use Rattle.vlog_tree.specs.declared.expression.RangeExpr.{RangeExpr}
use Rattle.vlog_tree.specs.declared.item.Conns.{Conns}
use Rattle.vlog_tree.specs.declared.module.Port.{Port}
use Rattle.vlog_tree.specs.Trees.{Layer, layer, item_place}
use Rattle.scope_meaning.specs.Constants.{Names}
use Rattle.scope_meaning.specs.Declared.{names_of}
use Rattle.scope_meaning.specs.Scope.{Here, At, Frame, frames}
use Rattle.scope_meaning.specs.Heads.{names_here, GenLoop, loops_of}
use Rattle.scope_meaning.specs.Visits.{Spot, a_port, an_item, a_turn}
use Rattle.scope_meaning.specs.Wanted.{Wanted, want, wanted, bounds, vectors_of, memories_of, instances_of}
use Rattle.vlog_tree.specs.Trees.{option_list}

-- The first token; the names that are declared, and those declared before in the scope; the expressions that have to be
-- constants; the vector and memory ranges, generate loops and instantiated modules; and where all this is looked up: the
-- scopes seen from there, the constants that names stand for, the modules that the place is in.
pub record Standing : Type 0 where
  pub place : Place
  pub names : List (List ℕ)
  pub before : List (List ℕ)
  pub wanted : List Wanted
  pub vectors : List RangeExpr
  pub memories : List RangeExpr
  pub loops : List GenLoop
  pub instantiated : List (List ℕ × Conns)
  pub frames : List Frame
  pub known : Names
  pub above : List (List ℕ)

-- an item, by its place, the names that it declares and its layer
abbrev pub standing_item : Here → At → Place → List (List ℕ) → Layer → Standing
standing_item here at p names a = record {
  place = p;
  names = names;
  before = at.earlier;
  wanted = wanted here at a;
  vectors = vectors_of a;
  memories = memories_of a;
  loops = loops_of a;
  instantiated = instances_of a;
  frames = frames here at;
  known = names_here here at;
  above = here.above;
}

abbrev pub standing_port : Here → At → Port → Standing
standing_port here at p = record {
  place = p.place;
  names = p.name ∷ [];
  before = at.earlier;
  wanted = map (want (names_here here at)) (flat_map bounds (option_list p.range));
  vectors = option_list p.range;
  memories = [];
  loops = [];
  instantiated = [];
  frames = frames here at;
  known = names_here here at;
  above = here.above;
}

abbrev pub standing : Spot → Standing
standing (a_port here at p) = standing_port here at p
standing (an_item here at a) = standing_item here at (item_place a) (names_of a) (layer a)
standing (a_turn p names e) = record {
  place = p;
  names = [];
  before = [];
  wanted = want names e ∷ [];
  vectors = [];
  memories = [];
  loops = [];
  instantiated = [];
  frames = [];
  known = names;
  above = [];
}
