-- Entering the module of an instance.
use Rattle.std.proofs.Common.{◌≡◌, ℕ, ◌+◌, Bool, true, false, List, [], ◌∷◌, ◌++◌, map, cond, nat_lt, Option, Some, None, refl, subst, sym, ap, ◌∙◌}
use Rattle.std.proofs.Common.{append-nil, append_assoc}
use Rattle.std.specs.List.{filter, flat_map}
use Rattle.std.specs.Borrow.{Bor}
use Rattle.std.specs.Global.{Vec}
use Rattle.cov_types.specs.declared.place.Place.{Place}
use Rattle.cov_types.specs.declared.limit.LimitName.TheVariants as limit
use Rattle.vlog_tree.specs.declared.item.Item.{Item}
use Rattle.vlog_tree.specs.declared.item.Instance.{Instance}
use Rattle.vlog_tree.specs.declared.module.Module.{Module}
use Rattle.vlog_tree.specs.Trees.{item_place}
use Rattle.elab_types.specs.declared.elab_fault.ElabFault.TheVariants as fault
use Rattle.scope_meaning.specs.Declared.{module_declares, is_in}
use Rattle.scope_meaning.specs.BlockNames.{inside}
use Rattle.scope_meaning.specs.Heads.{module_named}
use Rattle.scope_meaning.specs.Overrides.{has_header}
use Rattle.scope_meaning.specs.Scope.{Here, At, Frame, Given, frames}
use Rattle.scope_meaning.specs.Visits.{Visit, Visits, enters, connects, has_row, past, with_next, made_at, module_entered, module_scope, body_scope, start}
use Rattle.scope_meaning.specs.ScopeRules.{refusal}
use Rattle.scope_meaning.specs.ScopeTrees.{IsFirstRefusal}
use Rattle.elab_modules.specs.Above.{AreAbove}
use Rattle.elab_names.specs.declared.scope_names.ScopeNames.{ScopeNames}
use Rattle.elab_names.specs.Frames.{AreFrames, IsGenvar}
use Rattle.walk_laws.specs.Rest.{Task, a_header, some_instances, an_end, Rest}
use Rattle.walk_laws.specs.Stands.{AreCalm, Stands}
use Rattle.walk_laws.proofs.Standings.{goes_on_to, refused_there}
use Rattle.walk_laws.proofs.Modules.{into_instance, in_header, begins}
use Rattle.walk_state.specs.declared.left.Left.{Left}
use Rattle.walk_state.specs.declared.left.Left.TheVariants as left
use Rattle.walk_state.specs.declared.record.Record.TheVariants as recorded
use Rattle.walk_state.specs.declared.place.ScopePlace.{ScopePlace}
use Rattle.walk_state.specs.declared.walk.Walk.{Walk}
use Rattle.walk_state.specs.Records.{visits_of, is_recorded, AreRecorded}
use Rattle.walk_state.specs.Standing.{IsAt, AreBelow, AreLeft, nothing, in_module, header, IsOnWay, IsMidway}
use Rattle.walk_moves.proofs.Moving.{recorded-more}
use Rattle.walk_entries.specs.Instances.{instance_records, instance_scope, HasInstance}

above_by : (here : Here) (b : Bool) → (cond b (record here { given = [] }) here).above ≡ here.above
above_by here true = refl
above_by here false = refl

-- the body of a module stands in the same modules
body_above : (here : Here) (m : Module) → (body_scope here m).above ≡ here.above
body_above here m = above_by here (has_header m)

-- the records of an instance are those of its visits
recorded-instance : (here : Here) (by place : At) (p : Place) (n number item : ℕ) (path : List ℕ) (m : Module) (one : Instance) (around : ScopePlace)
    → IsAt here by around → place.item ≡ item → path ≡ inside here.path one.name.name
    → AreRecorded (made_at here place p n m one ++ module_entered n (Some here.number) (inside here.path one.name.name) number m)
    (instance_records around n item path number)
recorded-instance here by place p n number item path m one around is same its_path =
    let row : ℕ → ℕ → List ℕ → Visits =
    λ k i q. has_row k i (Some n) ∷ enters (record { number = n; parent = Some k; path = q; module_number = number; home = n }) ∷ [] in
    ap (λ (i : ℕ). row here.number i (inside here.path one.name.name)) same
    ∙ ap (λ (q : List ℕ). row here.number item q) (sym its_path)
    ∙ ap (λ (k : ℕ). row k item path) (sym is.number)

-- What the code does makes the state that of the module.
pub has_instance : {design : List Module} {here : Here} {by place : At} (p : Place) (one : Instance) (values : List Given) {under : List Task}
    (m : Bor Module) (its : Bor (List Item)) (old new : Walk) (number item : ℕ) (path : List ℕ)
    → new.next ≡ old.next + 1
    → IsAt (instance_scope here old.next one values number m.now) (start old.next 0) new.here
    → ((f : Frame) → f.declared ≡ module_declares m.now → IsGenvar f.genvar None → f.known ≡ [] → AreFrames (f ∷ []) new.names.items)
    → (AreAbove design here.above old.above → AreAbove design (here.above ++ m.now.name ∷ []) new.above)
    → AreFrames (frames here by) old.names.items
    → new.left ≡ left.Header m its ∷ left.EndOfModule old.here old.names number ∷ old.left → its.now ≡ m.now.params
    → IsAt here by old.here → AreLeft design here by old.left under
    → new.records ≡ old.records ++ instance_records old.here old.next item path number → place.item ≡ item → path ≡ inside here.path one.name.name
    → module_named design m.now.name ≡ Some (number, m.now) → is_in m.now.name here.above ≡ false
    → HasInstance design here by place p one values number m.now under old new
has_instance {design} {here} {by} {place} p one values
    {under} m its old new number item path next scope opened around are pushed params is lefts noted same_item its_path found fresh =
    let inner : Here = instance_scope here old.next one values number m.now in
    let at : At = start old.next 0 in
    let frame : Frame = record { number = old.next; declared = module_declares m.now; genvar = None; known = [] } in
    let below_it : AreBelow design (body_scope inner m.now) (left.EndOfModule old.here old.names number ∷ old.left) (an_end by ∷ under) =
    in_module is are (body_above inner m.now) found fresh lefts in
    record {
      next = next;
      scope = scope;
      names = opened frame refl tt refl;
      above = around;
      left = subst (λ (ls : List Left). AreLeft design inner at ls (a_header inner m.now m.now.params ∷ an_end by ∷ under)) (sym pushed)
          (subst (λ (ps : List Item). AreLeft design inner at (left.Header m its ∷ left.EndOfModule old.here old.names number ∷ old.left)
          (a_header inner m.now ps ∷ an_end by ∷ under))
          params (header below_it));
      records = λ done d. recorded-more done (made_at here place p old.next m.now one ++ module_entered old.next (Some here.number)
          (inside here.path one.name.name) number m.now)
          old.records (instance_records old.here old.next item path number) new.records d
          (recorded-instance here by place p old.next number item path m.now one old.here is same_item its_path) noted;
    }

-- Nothing refuses an instance whose number is below the limit on scopes,
calm-instance : (design : List Module) (here : Here) (place : At) (p : Place) (n number : ℕ) (m : Module) (one : Instance) (path : List ℕ)
    → nat_lt n 65536 ≡ true
    → AreCalm design (made_at here place p n m one ++ module_entered n (Some here.number) path number m)
calm-instance design here place p n number m one path e = ap (λ (b : Bool). None ∷ None ∷ cond b None (Some (fault.Limit limit.Scopes)) ∷ []) e

-- so the walk goes on in its module,
pub entered_instance : {design : List Module} {top : List ℕ} {done : Visits} {here : Here} {place : At} {a : Item} {number : ℕ} {m : Module}
    {values : List Given}
    {one : Instance} {more : List Instance} {under : List Task} {w v : Walk}
    → IsMidway design top done here (past place a []) (past place a []) (some_instances here place a number m values (one ∷ more) ∷ under) under w
    → nat_lt w.next 65536 ≡ true
    → HasInstance design here (past place a []) place (item_place a) one values number m (some_instances here place a number m values more ∷ under) w v
    → IsOnWay design top v
entered_instance {design} {top} {done} {here} {place} {a} {number} {m} {values} {one} {more} {under} {w} {v} s limit h =
    let inner : Here = instance_scope here w.next one values number m in
    let path : List ℕ = inside here.path one.name.name in
    let comes : Visits = made_at here place (item_place a) w.next m one ++ module_entered w.next (Some here.number) path number m in
    let new : List Task = a_header inner m m.params ∷ an_end (past place a []) ∷ some_instances here place a number m values more ∷ under in
    record {
      done = done ++ comes;
      here = inner;
      place = start w.next 0;
      tasks = new;
      standing = record {
        stands = subst (λ (k : ℕ). Stands design top (done ++ comes) new (with_next (start w.next 0) k)) (sym h.next)
            (goes_on_to comes s.stands (calm-instance design here place (item_place a) w.next number m one path limit) (λ ws whole r. into_instance r));
        scope = h.scope;
        names = h.names;
        above = h.above s.above;
        left = h.left;
        records = h.records done s.records;
      };
    }

-- and where there is no room for one more scope, that is the first refusal.
pub no_room_for_instance : {design : List Module} {top : List ℕ} {done : Visits} {here : Here} {place : At} {a : Item} {number : ℕ} {m : Module}
    {values : List Given}
    {one : Instance} {more : List Instance} {under : List Task} {w : Walk}
    → IsMidway design top done here (past place a []) (past place a []) (some_instances here place a number m values (one ∷ more) ∷ under) under w
    → nat_lt w.next 65536 ≡ false
    → IsFirstRefusal design top (fault.Limit limit.Scopes)
no_room_for_instance {design} {here = here} {place = place} {a = a} {number = number} {m = m} {values = values} {one = one} {more = more}
    {under = under} {w = w} s full =
    let path : List ℕ = inside here.path one.name.name in
    let rest : (after : Visits) × Rest design
    (a_header (instance_scope here w.next one values number m) m m.params ∷ an_end (past place a [])
    ∷ some_instances here place a number m values more ∷ under)
    (start w.next 0) after false = in_header m.params in
    refused_there (made_at here place (item_place a) w.next m one)
    (enters (record { number = w.next; parent = Some here.number; path = path; module_number = number; home = w.next }))
    rest.0 s.stands refl (into_instance rest.1)
    (ap (λ (b : Bool). cond b None (Some (fault.Limit limit.Scopes))) full)

-- The walk begins in the top module.
pub begun_top : {design : List Module} {top : List ℕ} {number : ℕ} (m : Bor Module) (its : Bor (List Item)) (w : Walk)
    → module_named design top ≡ Some (number, m.now) → w.next ≡ 1
    → IsAt (module_scope 0 top [] [] number m.now) (start 0 0) w.here
    → ((f : Frame) → f.declared ≡ module_declares m.now → IsGenvar f.genvar None → f.known ≡ [] → AreFrames (f ∷ []) w.names.items)
    → AreAbove design (m.now.name ∷ []) w.above
    → w.left ≡ left.Header m its ∷ [] → its.now ≡ m.now.params
    → w.records ≡ recorded.Enters (record { number = 0; parent = None; path = top; in_module = number; home = 0 }) ∷ []
    → IsOnWay design top w
begun_top {design} {top} {number} m its w found next scope opened around pushed params noted =
    let inner : Here = module_scope 0 top [] [] number m.now in
    let entry : Visits = module_entered 0 None top number m.now in
    let new : List Task = a_header inner m.now m.now.params ∷ [] in
    record {
      done = entry;
      here = inner;
      place = start 0 0;
      tasks = new;
      standing = record {
        stands = subst (λ (k : ℕ). Stands design top entry new (with_next (start 0 0) k)) (sym next)
            (record { calm = refl; onward = λ ws whole r. begins found r });
        scope = scope;
        names = opened (record { number = 0; declared = module_declares m.now; genvar = None; known = [] }) refl tt refl;
        above = around;
        left = subst (λ (ls : List Left). AreLeft design inner (start 0 0) ls new) (sym pushed)
            (subst (λ (ps : List Item). AreLeft design inner (start 0 0) (left.Header m its ∷ []) (a_header inner m.now ps ∷ [])) params (header nothing));
        records = ap (flat_map visits_of) (sym noted);
      };
    }
