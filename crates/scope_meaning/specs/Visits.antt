-- What the walk through a design comes to, one after the other (IEEE 1364-2005, 12, hierarchical structures; the order:
-- this project's own).
use Rattle.std.specs.Prelude.{ℕ, ◌+◌, if◌then◌else◌, List, [], ◌∷◌, ◌++◌, map, Option, Some, None}
use Rattle.std.specs.List.{flat_map}
use Rattle.cov_types.specs.declared.place.Place.{Place}
use Rattle.vlog_tree.specs.declared.expression.Expr.{Expr}
use Rattle.vlog_tree.specs.declared.item.Item.{Item}
use Rattle.vlog_tree.specs.declared.item.Conns.{Conns}
use Rattle.vlog_tree.specs.declared.item.Instance.{Instance}
use Rattle.vlog_tree.specs.declared.module.Port.{Port}
use Rattle.vlog_tree.specs.declared.module.Module.{Module}
use Rattle.scope_meaning.specs.Constants.{Constant, Names}
use Rattle.scope_meaning.specs.Declared.{declares, module_declares, names_of, count, constructs}
use Rattle.scope_meaning.specs.Scope.{Here, At, Given, frames}
use Rattle.scope_meaning.specs.Overrides.{has_header}
use Rattle.scope_meaning.specs.BlockNames.{inside}

-- a scope that the walk enters: its number, that of the scope around it, its path, the number of its module, and the
-- number of the scope of that module
pub record Entry : Type 0 where
  pub number : ℕ
  pub parent : Option ℕ
  pub path : List ℕ
  pub module_number : ℕ
  pub home : ℕ

-- a place at which a design can be refused: a port or an item of a scope, or one turn of a generate loop with an
-- expression of its head and what names mean in it
pub data Spot : Type 0 where
  a_port : Here → At → Port → Spot
  an_item : Here → At → Item → Spot
  a_turn : Place → Names → Expr → Spot

-- an instance on the walk: where it stands, the place of its item, the number of the scope that it makes, its module, and
-- its connections
pub record Making : Type 0 where
  pub here : Here
  pub at : At
  pub place : Place
  pub makes : ℕ
  pub of : Module
  pub ports : Conns

-- What the walk comes to: a scope, a place, an instance, a constant of a scope, and a row of a scope: an item of it, by
-- its number in its module, with the scope that it makes if it makes one.
pub data Visit : Type 0 where
  enters : Entry → Visit
  sees : Spot → Visit
  connects : Making → Visit
  has_constant : ℕ → Constant → Visit
  has_row : ℕ → ℕ → Option ℕ → Visit

abbrev pub Visits : Type 0
Visits = List Visit

-- the place behind an item that declares these constants
abbrev pub past : At → Item → List Constant → At
past at item cs = record {
  next = at.next;
  item = at.item + count item;
  construct = at.construct + constructs item;
  known = at.known ++ cs;
  earlier = at.earlier ++ names_of item;
}

-- the same place where the next scope has another number
abbrev pub with_next : At → ℕ → At
with_next at n = record at { next = n }

-- the ports of a module, in order
unfoldable pub ports_seen : Here → At → List Port → Visits
ports_seen here at [] = []
ports_seen here at (p ∷ ps) = sees (a_port here at p) ∷ ports_seen here (record at { earlier = at.earlier ++ p.name ∷ [] }) ps

-- the place behind the header and ports of a module, before its first item
abbrev pub past_header : At → List Port → At
past_header at ports = record at { item = 0; earlier = at.earlier ++ map (λ p. p.name) ports }

-- the scope of a module where an instance gives these values; and the same for its items, where those of the body of a
-- module with a header are given none
abbrev pub module_scope : ℕ → List ℕ → List (List ℕ) → List Given → ℕ → Module → Here
module_scope number path above given module_number m = record {
  number = number;
  path = path;
  module_number = module_number;
  home = number;
  above = above ++ m.name ∷ [];
  given = given;
  declared = module_declares m;
  genvar = None;
  outer = [];
}

abbrev pub body_scope : Here → Module → Here
body_scope here m = if has_header m then record here { given = [] } else here

abbrev pub module_entered : ℕ → Option ℕ → List ℕ → ℕ → Module → Visits
module_entered number parent path module_number m =
    enters (record { number = number; parent = parent; path = path; module_number = module_number; home = number }) ∷ []

-- the scope of a generate block, entered at a place of another scope
abbrev pub block_scope : Here → At → List ℕ → Option Constant → List Item → Here
block_scope here at name genvar items = record here {
  number = at.next;
  path = inside here.path name;
  given = [];
  declared = flat_map declares items;
  genvar = genvar;
  outer = frames here at;
}

abbrev pub genvar_visit : ℕ → Option Constant → Visits
genvar_visit number None = []
genvar_visit number (Some c) = has_constant number c ∷ []

abbrev pub entered : Here → At → List ℕ → Option Constant → Visits
entered here at name genvar =
    has_row here.number at.item (Some at.next)
    ∷ enters (record { number = at.next; parent = Some here.number; path = inside here.path name; module_number = here.module_number; home = here.home })
    ∷ genvar_visit at.next genvar

-- what the walk comes to at an instance before its module
abbrev pub made_at : Here → At → Place → ℕ → Module → Instance → Visits
made_at here at p n m a =
    has_row here.number at.item (Some n)
    ∷ connects (record { here = here; at = at; place = p; makes = n; of = m; ports = a.ports })
    ∷ []

abbrev pub names_declared : Here → List (List ℕ)
names_declared here = map (λ d. d.name) here.declared

-- the first place in a scope: its number, and that of its first item
abbrev pub start : ℕ → ℕ → At
start number item = record { next = number + 1; item = item; construct = 0; known = []; earlier = [] }
