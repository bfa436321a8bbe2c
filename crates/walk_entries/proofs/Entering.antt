-- Entering the block of a pass, or of an arm.
use Rattle.std.proofs.Common.{◌≡◌, ℕ, ◌+◌, Bool, true, false, List, [], ◌∷◌, ◌++◌, map, cond, nat_lt, Option, Some, None, refl, subst, sym, ap, ◌∙◌}
use Rattle.std.proofs.Common.{ℤ, append-nil, append_assoc}
use Rattle.std.specs.List.{filter, flat_map}
use Rattle.std.specs.Borrow.{Bor}
use Rattle.cov_types.specs.declared.limit.LimitName.TheVariants as limit
use Rattle.vlog_tree.specs.declared.item.Item.{Item}
use Rattle.vlog_tree.specs.declared.item.ItemKind.TheOpen as i
use Rattle.vlog_tree.specs.declared.item.GenArm.{GenArm}
use Rattle.vlog_tree.specs.declared.item.GenBody.{GenBody, out-GenBody}
use Rattle.vlog_tree.specs.declared.module.Module.{Module}
use Rattle.vlog_tree.specs.Trees.{layer}
use Rattle.elab_types.specs.declared.elab_fault.ElabFault.{ElabFault}
use Rattle.elab_types.specs.declared.elab_fault.ElabFault.TheVariants as fault
use Rattle.scope_meaning.specs.Constants.{Constant}
use Rattle.scope_meaning.specs.Declared.{declares}
use Rattle.scope_meaning.specs.Scope.{Here, At, Frame, frames, genvar_constant}
use Rattle.scope_meaning.specs.BlockNames.{inside, pass_name, block_name}
use Rattle.scope_meaning.specs.Heads.{GenLoop, names_here, names_in_pass, test_of, choice_from}
use Rattle.scope_meaning.specs.Visits.{Visit, Visits, Entry, enters, sees, an_item, has_row, has_constant, past, with_next, entered, genvar_visit}
use Rattle.scope_meaning.specs.Visits.{block_scope, names_declared, start}
use Rattle.scope_meaning.specs.ScopeRules.{refusal}
use Rattle.scope_meaning.specs.ScopeTrees.{seen_constant, IsFirstRefusal}
use Rattle.elab_modules.specs.declared.above.OpenModules.{OpenModules}
use Rattle.elab_modules.specs.Above.{AreAbove}
use Rattle.elab_names.specs.declared.scope_names.PassGenvar.{PassGenvar}
use Rattle.elab_names.specs.Frames.{AreFrames, IsGenvar}
use Rattle.walk_laws.specs.Rest.{Task, some_items, a_turn_of, a_step_of, an_end, Rest}
use Rattle.walk_laws.specs.Stands.{AreCalm, Stands}
use Rattle.walk_laws.proofs.Standings.{calm-append, goes_on_to, refused_there}
use Rattle.walk_laws.proofs.Steps.{test_seen, into_pass, into_choice, before_items}
use Rattle.walk_state.specs.declared.left.Left.{Left}
use Rattle.walk_state.specs.declared.left.Left.TheVariants as left
use Rattle.walk_state.specs.declared.place.ScopePlace.{ScopePlace}
use Rattle.walk_state.specs.declared.walk.Walk.{Walk}
use Rattle.walk_state.specs.Records.{visits_of, is_recorded, AreRecorded}
use Rattle.walk_state.specs.Standing.{IsAt, AreBelow, AreLeft, items, in_block, below, IsOnWay, IsMidway, IsTaken}
use Rattle.walk_moves.proofs.Moving.{recorded-more}
use Rattle.walk_entries.specs.Blocks.{constant_of, pass_records, block_records, HasEntered}

-- the genvar's constant is what its record says
pass-constant : (c : Constant) (g : PassGenvar) → IsGenvar (Some c) (Some g) → seen_constant (constant_of g) ≡ c
pass-constant c g is =
    ap (λ (n : List ℕ). record { name = n; width = g.value.value.width; signed = g.value.signed; bits = g.value.value.bits }) is.0
    ∙ ap (λ (n : ℕ). record { name = c.name; width = n; signed = g.value.signed; bits = g.value.value.bits }) is.1.width
    ∙ ap (λ (s : Bool). record { name = c.name; width = c.width; signed = s; bits = g.value.value.bits }) is.1.signed
    ∙ ap (λ (n : ℕ). record { name = c.name; width = c.width; signed = c.signed; bits = n }) is.1.bits

recorded-genvar : (n : ℕ) (genvar : Option Constant) (pass : Option PassGenvar) → IsGenvar genvar pass
    → filter is_recorded (genvar_visit n genvar) ≡ flat_map visits_of (pass_records n pass)
recorded-genvar n None None is = refl
recorded-genvar n (Some c) None is = absurd is
recorded-genvar n None (Some g) is = absurd is
recorded-genvar n (Some c) (Some g) is = ap (λ (d : Constant). has_constant n d ∷ []) (sym (pass-constant c g is))

-- The records of a block are those of its visits.
pub recorded-block : (here : Here) (by at : At) (name path : List ℕ) (genvar : Option Constant) (pass : Option PassGenvar) (around : ScopePlace) (item : ℕ)
    → IsAt here by around → at.item ≡ item → path ≡ inside here.path name → IsGenvar genvar pass
    → AreRecorded (entered here at name genvar) (block_records around at.next item path pass)
recorded-block here by at name path genvar pass around item is same its_path is_genvar =
    let entry : ℕ → List ℕ → ℕ → ℕ → Entry = λ n p m h. record { number = at.next; parent = Some n; path = p; module_number = m; home = h } in
    ap (λ (us : Visits). has_row here.number at.item (Some at.next) ∷ enters (entry here.number (inside here.path name) here.module_number here.home) ∷ us)
    (recorded-genvar at.next genvar pass is_genvar)
    ∙ ap (λ (k : ℕ). has_row here.number k (Some at.next) ∷ enters (entry here.number (inside here.path name) here.module_number here.home)
    ∷ flat_map visits_of (pass_records at.next pass)) same
    ∙ ap (λ (p : List ℕ). has_row here.number item (Some at.next) ∷ enters (entry here.number p here.module_number here.home)
    ∷ flat_map visits_of (pass_records at.next pass)) (sym its_path)
    ∙ ap (λ (k : ℕ). has_row here.number item (Some at.next) ∷ enters (entry here.number path k here.home) ∷ flat_map visits_of
    (pass_records at.next pass)) (sym is.its_module)
    ∙ ap (λ (k : ℕ). has_row here.number item (Some at.next) ∷ enters (entry here.number path around.in_module k) ∷ flat_map visits_of
    (pass_records at.next pass)) (sym is.home)
    ∙ ap (λ (k : ℕ). has_row k item (Some at.next) ∷ enters (entry k path around.in_module around.home) ∷ flat_map visits_of
    (pass_records at.next pass)) (sym is.number)

calm-genvar : (design : List Module) (n : ℕ) (genvar : Option Constant) → AreCalm design (genvar_visit n genvar)
calm-genvar design n (Some c) = refl
calm-genvar design n None = refl

-- nothing refuses a block whose number is below the limit on scopes
calm-entered : (design : List Module) (here : Here) (at : At) (name : List ℕ) (genvar : Option Constant) → nat_lt at.next 65536 ≡ true
    → AreCalm design (entered here at name genvar)
calm-entered design here at name genvar e =
    ap (λ (b : Bool). None ∷ cond b None (Some (fault.Limit limit.Scopes)) ∷ map (refusal design) (genvar_visit at.next genvar)) e
    ∙ ap (λ (os : List (Option ElabFault)). None ∷ None ∷ os) (calm-genvar design at.next genvar)

-- What the code does makes the state that of a block.
pub has_entered : {design : List Module} {here : Here} {by at : At} {name : List ℕ} {genvar : Option Constant} {its : Bor (List Item)} {first : ℕ}
    {under : List Task}
    (old new : Walk) (item : ℕ) (path : List ℕ) (pass : Option PassGenvar)
    → at.next ≡ old.next → frames here at ≡ frames here by → new.next ≡ old.next + 1 → new.above ≡ old.above
    → IsAt (block_scope here at name genvar its.now) (start at.next first) new.here
    → ((fs : List Frame) (f : Frame) → AreFrames fs old.names.items → f.declared ≡ flat_map declares its.now → IsGenvar f.genvar pass → f.known ≡ []
    → AreFrames (f ∷ fs) new.names.items)
    → AreFrames (frames here by) old.names.items → IsGenvar genvar pass
    → new.left ≡ left.Items its ∷ left.EndOfBlock old.here ∷ old.left → IsAt here by old.here → AreLeft design here by old.left under
    → new.records ≡ old.records ++ block_records old.here old.next item path pass → at.item ≡ item → path ≡ inside here.path name
    → HasEntered design here by at name genvar its.now first under old new
has_entered {design} {here} {by} {at} {name} {genvar} {its} {first}
    {under} old new item path pass numbered same next beside scope opened are is_genvar pushed is lefts noted same_item its_path =
    let block : Here = block_scope here at name genvar its.now in
    let frame : Frame = record { number = at.next; declared = flat_map declares its.now; genvar = genvar; known = [] } in
    record {
      next = next;
      scope = scope;
      names = subst (λ (fs : List Frame). AreFrames (frame ∷ fs) new.names.items) (sym same) (opened (frames here by) frame are refl is_genvar refl);
      above = beside;
      left = subst (λ (ls : List Left). AreBelow design block ls (some_items block its.now ∷ an_end by ∷ under)) (sym pushed)
          (items (in_block is same refl lefts));
      records = λ done d. recorded-more done (entered here at name genvar) old.records (block_records old.here at.next item path pass) new.records d
          (recorded-block here by at name path genvar pass old.here item is same_item its_path is_genvar)
          (noted ∙ ap (λ (n : ℕ). old.records ++ block_records old.here n item path pass) (sym numbered));
    }

-- The walk goes on in a block.
goes_into : {design : List Module} {top : List ℕ} {done : Visits} {here : Here} {place by end : At} {tasks below_it under : List Task} {w v : Walk}
    (vs : Visits)
    (at : At) (name : List ℕ) (genvar : Option Constant) (rows : List Item) (first : ℕ)
    → IsMidway design top done here place by tasks below_it w → at.next ≡ w.next
    → AreCalm design vs → filter is_recorded vs ≡ [] → nat_lt at.next 65536 ≡ true
    → ((ws : Visits) (whole : Bool) → Rest design (some_items (block_scope here at name genvar rows) rows ∷ an_end end ∷ under) (start at.next first) ws whole
    → Rest design tasks (with_next place w.next) (vs ++ (entered here at name genvar ++ ws)) whole)
    → HasEntered design here end at name genvar rows first under w v
    → IsOnWay design top v
goes_into {design} {top} {done} {here} {place} {end = end} {tasks = tasks} {under = under} {w = w}
    {v = v} vs at name genvar rows first m same calm none_recorded limit step h =
    let block : Here = block_scope here at name genvar rows in
    let comes : Visits = entered here at name genvar in
    let new : List Task = some_items block rows ∷ an_end end ∷ under in
    record {
      done = done ++ (vs ++ comes);
      here = block;
      place = start at.next first;
      tasks = new;
      standing = record {
        stands = subst (λ (k : ℕ). Stands design top (done ++ (vs ++ comes)) new (with_next (start at.next first) k))
            (ap (λ (k : ℕ). k + 1) same ∙ sym h.next)
            (goes_on_to (vs ++ comes) m.stands (calm-append design vs comes calm (calm-entered design here at name genvar limit))
            (λ ws whole r. subst (λ (us : Visits). Rest design tasks (with_next place w.next) us whole) (sym (append_assoc vs comes ws)) (step ws whole r)));
        scope = h.scope;
        names = h.names;
        above = subst (λ (o : OpenModules). AreAbove design here.above o) (sym h.above) m.above;
        left = below h.left;
        records = subst (λ (us : Visits). AreRecorded us v.records) (append_assoc done vs comes)
            (h.records (done ++ vs) (recorded-more done vs w.records [] w.records m.records none_recorded (sym (append-nil w.records))));
      };
    }

-- It is that of a pass of a generate loop,
pub entered_pass : {design : List Module} {top : List ℕ} {done : Visits} {here : Here} {place : At} {a : Item} {l : GenLoop} {n : ℤ}
    {under : List Task} {w v : Walk}
    (name : List ℕ)
    → IsMidway design top done here (past place a []) (past place a []) (a_turn_of here place a l n ∷ under) under w
    → refusal design (test_seen here place a l n) ≡ None → test_of (names_in_pass here place l.name n) l.test ≡ Some true → nat_lt w.next 65536 ≡ true
    → name ≡ pass_name l.block.name n
    → HasEntered design here (past place a []) (with_next place w.next) name (Some (genvar_constant l.name n)) l.body (place.item + 1)
    (a_step_of here place a l n ∷ under) w v
    → IsOnWay design top v
entered_pass {here = here} {place = place} {a = a} {l = l} {n = n} {w = w} name m calm holds limit named h =
    goes_into (test_seen here place a l n ∷ []) (with_next place w.next) name (Some (genvar_constant l.name n)) l.body (place.item + 1) m refl
    (ap (λ (o : Option ElabFault). o ∷ []) calm) refl limit (λ ws whole r. into_pass holds named r) h

-- or that of the chosen arm of a generate `if`.
pub entered_choice : {design : List Module} {top : List ℕ} {done : Visits} {here : Here} {place : At} {a : Item} {rest : List Item}
    {under : List Task} {w v : Walk}
    {arms : List GenArm} {last : Option GenBody} {body : GenBody} (first : ℕ) (name : List ℕ)
    → IsMidway design top done here place (past place a []) (some_items here (a ∷ rest) ∷ under) (some_items here rest ∷ under) w
    → IsTaken design here (with_next place w.next) a → layer a ≡ i.Choose arms last
    → choice_from (names_here here place) (place.item + 1) arms last ≡ Some (Some (first, body)) → nat_lt w.next 65536 ≡ true
    → name ≡ block_name (names_declared here) (place.construct + 1) (out-GenBody body).name
    → HasEntered design here (past (with_next place w.next) a []) (with_next place w.next) name None (out-GenBody body).items first
    (some_items here rest ∷ under) w v
    → IsOnWay design top v
entered_choice {here = here} {place = place} {a = a} {w = w} {body = body} first name m taken l chosen limit named h =
    goes_into (sees (an_item here (with_next place w.next) a) ∷ []) (with_next place w.next) name None (out-GenBody body).items first m refl
    (ap (λ (o : Option ElabFault). o ∷ []) taken) refl limit (λ ws whole r. into_choice {at = with_next place w.next} l chosen named r) h

-- Where there is no room for one more scope, that is the first refusal: of a pass,
pub no_room_for_pass : {design : List Module} {top : List ℕ} {done : Visits} {here : Here} {place : At} {a : Item} {l : GenLoop} {n : ℤ}
    {under : List Task} {w : Walk}
    → IsMidway design top done here (past place a []) (past place a []) (a_turn_of here place a l n ∷ under) under w
    → refusal design (test_seen here place a l n) ≡ None → test_of (names_in_pass here place l.name n) l.test ≡ Some true → nat_lt w.next 65536 ≡ false
    → IsFirstRefusal design top (fault.Limit limit.Scopes)
no_room_for_pass {here = here} {place = place} {a = a} {l = l} {n = n} {w = w} m calm holds full =
    refused_there (test_seen here place a l n ∷ has_row here.number place.item (Some w.next) ∷ [])
    (enters (record {
      number = w.next;
      parent = Some here.number;
      path = inside here.path
          (pass_name l.block.name n);
      module_number = here.module_number;
      home = here.home;
    }))
    (has_constant w.next (genvar_constant l.name n) ∷ []) m.stands
    (ap (λ (o : Option ElabFault). o ∷ None ∷ []) calm)
    (into_pass holds refl before_items)
    (ap (λ (b : Bool). cond b None (Some (fault.Limit limit.Scopes))) full)

-- and of a chosen arm.
pub no_room_for_choice : {design : List Module} {top : List ℕ} {done : Visits} {here : Here} {place : At} {a : Item} {rest : List Item}
    {under : List Task} {w : Walk}
    {arms : List GenArm} {last : Option GenBody} {first : ℕ} {body : GenBody}
    → IsMidway design top done here place (past place a []) (some_items here (a ∷ rest) ∷ under) (some_items here rest ∷ under) w
    → IsTaken design here (with_next place w.next) a → layer a ≡ i.Choose arms last
    → choice_from (names_here here place) (place.item + 1) arms last ≡ Some (Some (first, body)) → nat_lt w.next 65536 ≡ false
    → IsFirstRefusal design top (fault.Limit limit.Scopes)
no_room_for_choice {here = here} {place = place} {a = a} {w = w} {body = body} m taken l chosen full =
    let name : List ℕ = block_name (names_declared here) (place.construct + 1) (out-GenBody body).name in
    refused_there (sees (an_item here (with_next place w.next) a) ∷ has_row here.number place.item (Some w.next) ∷ [])
    (enters (record { number = w.next; parent = Some here.number; path = inside here.path name; module_number = here.module_number; home = here.home }))
    [] m.stands
    (ap (λ (o : Option ElabFault). o ∷ None ∷ []) taken)
    (into_choice {at = with_next place w.next} l chosen refl before_items)
    (ap (λ (b : Bool). cond b None (Some (fault.Limit limit.Scopes))) full)
