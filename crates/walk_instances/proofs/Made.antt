-- Where a walk stands at instances of an item, and what it is in the module of one.
use Rattle.std.proofs.Common.{◌≡◌, ℕ, Bool, false, List, [], ◌∷◌, Option, Some, None, refl, subst, sym, ap, ◌∙◌, append-nil}
use Rattle.std.specs.Borrow.{Bor}
use Rattle.std.specs.Global.{Box}
use Rattle.cov_types.specs.declared.place.Place.{Place}
use Rattle.vlog_tree.specs.declared.item.Instance.{Instance}
use Rattle.vlog_tree.specs.declared.item.Item.{Item}
use Rattle.vlog_tree.specs.declared.module.Module.{Module}
use Rattle.vlog_tree.specs.Trees.{item_place}
use Rattle.scope_meaning.specs.Constants.{Constant}
use Rattle.scope_meaning.specs.Heads.{module_named, names_here}
use Rattle.scope_meaning.specs.Overrides.{givens, parameters}
use Rattle.scope_meaning.specs.Scope.{Here, At, Given, frames}
use Rattle.scope_meaning.specs.Visits.{Visits, past, with_next}
use Rattle.elab_modules.specs.Above.{AreAbove}
use Rattle.elab_modules.specs.declared.find.FoundModule.{FoundModule}
use Rattle.elab_modules.specs.Modules.{IsFound}
use Rattle.elab_names.specs.Frames.{AreFrames}
use Rattle.elab_overrides.specs.Overrides.{AreParameters}
use Rattle.walk_laws.specs.Rest.{Task, some_instances}
use Rattle.walk_laws.specs.Stands.{Stands}
use Rattle.walk_state.specs.declared.left.Left.{Left}
use Rattle.walk_state.specs.declared.left.Left.TheVariants as left
use Rattle.walk_state.specs.declared.left.MadeBy.{MadeBy}
use Rattle.walk_state.specs.declared.walk.Walk.{Walk}
use Rattle.walk_state.specs.Records.{AreRecorded}
use Rattle.walk_state.specs.Standing.{IsAt, AreLeft, instances, below, IsStanding, IsMidway, IsOnWay}
use Rattle.walk_entries.specs.Instances.{HasInstance}
use Rattle.walk_moves.proofs.Moving.{ended_instances}
use Rattle.walk_instances.specs.Made.{IsMaking}

instances_left : {design : List Module} {top : List ℕ} {done : Visits} {here : Here} {at : At} {by : Box MadeBy} {made : Bor (List Instance)}
    {tasks : List Task} (w : Walk)
    → AreLeft design here at (left.Instances by made ∷ w.left) tasks → Stands design top done tasks (with_next at w.next) → IsAt here at w.here
    → AreFrames (frames here at) w.names.items → AreAbove design here.above w.above → AreRecorded done w.records
    → IsMaking design top done here by.value made.now w
instances_left w (instances {place = place} {a = a} {tasks = under} item found fresh lefts) s scope names above records = record {
  place = place;
  a = a;
  under = under;
  item = item;
  found = found;
  fresh = fresh;
  midway = record { stands = s; scope = scope; names = names; above = above; left = lefts; records = records };
}
instances_left w (below x) s scope names above records = elim x [ ]

pub of_instances : {design : List Module} {top : List ℕ} {done : Visits} {here : Here} {at : At} {by : Box MadeBy} {made : Bor (List Instance)}
    {tasks : List Task} (w : Walk)
    → IsStanding design top done here at tasks (record w { left = left.Instances by made ∷ w.left }) → IsMaking design top done here by.value made.now w
of_instances w s = instances_left w s.left s.stands s.scope s.names s.above s.records

-- these instances
pub making : {design : List Module} {top : List ℕ} {done : Visits} {here : Here} {by : MadeBy} {made : List Instance} {w : Walk} (rows : List Instance)
    → IsMaking design top done here by made w → made ≡ rows → IsMaking design top done here by rows w
making {design} {top} {done} {here} {by} {w = w} rows m same = subst (λ (is : List Instance). IsMaking design top done here by is w) same m

-- None is left.
pub none_more : {design : List Module} {top : List ℕ} {done : Visits} {here : Here} {by : MadeBy} {w : Walk}
    → IsMaking design top done here by [] w → IsOnWay design top w
none_more m = ended_instances m.midway

-- The names at the item are those behind it.
pub names_at : {design : List Module} {top : List ℕ} {done : Visits} {here : Here} {by : MadeBy} {made : List Instance} {w : Walk}
    (m : IsMaking design top done here by made w) → AreFrames (frames here m.place) w.names.items
names_at {here = here} {w = w} m =
    subst (λ (cs : List Constant). AreFrames (record { number = here.number; declared = here.declared; genvar = here.genvar; known = cs } ∷ here.outer)
    w.names.items) (append-nil m.place.known) m.midway.names

-- the parameters of a module that is found by its name
pub its_parameters : (o : Option (ℕ × Module)) (f : FoundModule) (n : ℕ) (m : Module) → IsFound o (Some f) → o ≡ Some (n, m)
    → AreParameters (parameters m) f.parameters.now
its_parameters o f n m h e = (subst (λ (p : Option (ℕ × Module)). IsFound p (Some f)) e h).2

-- What instances have in common, put together from copies of it.
abbrev pub parts : MadeBy → MadeBy → MadeBy → MadeBy → MadeBy
parts a b c d = record { item = a.item; of = b.of; number = c.number; params = d.params }

pub same_parts : (a b c d by : MadeBy) → a ≡ by → b ≡ by → c ≡ by → d ≡ by → parts a b c d ≡ by
same_parts a b c d by p q r s =
    ap (λ (x : MadeBy). parts x b c d) p ∙ ap (λ (x : MadeBy). parts by x c d) q ∙ ap (λ (x : MadeBy). parts by by x d) r
    ∙ ap (λ (x : MadeBy). parts by by by x) s

-- what is left under the module of an instance
pub others_left : {design : List Module} {top : List ℕ} {done : Visits} {here : Here} {by : Box MadeBy} {one : Instance} {rest : Bor (List Instance)}
    {w : Walk} (lefts : List Left) (m : IsMaking design top done here by.value (one ∷ rest.now) w) → lefts ≡ left.Instances by rest ∷ w.left
    → AreLeft design here (past m.place m.a []) lefts
    (some_instances here m.place m.a by.value.number by.value.of.now (givens (names_here here m.place) by.value.of.now by.value.params.now) rest.now ∷ m.under)
others_left {design} {here = here} {by = by} {rest = rest} lefts m pushed =
    subst (λ (ls : List Left). AreLeft design here (past m.place m.a []) ls
    (some_instances here m.place m.a by.value.number by.value.of.now (givens (names_here here m.place) by.value.of.now by.value.params.now) rest.now ∷ m.under))
    (sym pushed) (instances m.item m.found m.fresh m.midway.left)

-- What is entered where others are left is entered.
pub same_entry : {design : List Module} {here : Here} {by place : At} {p : Place} {one : Instance} {given : List Given} {number : ℕ} {m : Module}
    {under : List Task} {w v : Walk} (lefts : List Left)
    → HasInstance design here by place p one given number m under (record w { left = lefts }) v
    → HasInstance design here by place p one given number m under w v
same_entry lefts h = record { next = h.next; scope = h.scope; names = h.names; above = h.above; left = h.left; records = h.records }
