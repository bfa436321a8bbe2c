-- Where a walk stands at a turn of a generate loop, and what it is in the block of a pass.
use Rattle.std.proofs.Common.{◌≡◌, ℕ, ◌+◌, true, List, [], ◌∷◌, Some, None, Result, subst, sym, ap, ◌∙◌, ℤ, nat_lt, append-nil}
use Rattle.std.specs.Global.{Box}
use Rattle.vlog_tree.specs.declared.expression.Expr.{Expr}
use Rattle.vlog_tree.specs.declared.item.Item.{Item}
use Rattle.vlog_tree.specs.declared.module.Module.{Module}
use Rattle.cov_types.specs.declared.place.Place.{Place}
use Rattle.elab_types.specs.declared.elab_fault.ElabFault.{ElabFault}
use Rattle.scope_meaning.specs.Constants.{Constant, Names}
use Rattle.scope_meaning.specs.Scope.{Here, At, Frame, frames, genvar_constant}
use Rattle.scope_meaning.specs.BlockNames.{pass_name}
use Rattle.scope_meaning.specs.Heads.{GenLoop, names_in_pass, test_of}
use Rattle.scope_meaning.specs.Visits.{Visits, sees, a_turn, past, with_next}
use Rattle.scope_meaning.specs.ScopeRules.{refusal}
use Rattle.elab_modules.specs.Above.{AreAbove}
use Rattle.elab_names.specs.declared.scope_names.ScopeNames.{ScopeNames}
use Rattle.elab_names.specs.declared.scope_names.PassGenvar.{PassGenvar}
use Rattle.elab_names.specs.Frames.{AreFrames, IsGenvar}
use Rattle.elab_faults.specs.Judged.{Judges}
use Rattle.walk_laws.specs.Rest.{Task, a_turn_of, a_step_of}
use Rattle.walk_laws.specs.Stands.{Stands}
use Rattle.walk_laws.proofs.Steps.{test_seen}
use Rattle.walk_state.specs.declared.left.Left.TheVariants as left
use Rattle.walk_state.specs.declared.left.LoopPasses.{LoopPasses}
use Rattle.walk_state.specs.declared.record.Record.{Record}
use Rattle.walk_state.specs.declared.walk.Walk.{Walk}
use Rattle.walk_state.specs.Records.{AreRecorded}
use Rattle.walk_state.specs.Standing.{IsAt, IsLoop, AreLeft, below, turn, step, IsStanding, IsMidway, IsOnWay}
use Rattle.walk_entries.specs.Blocks.{HasEntered}
use Rattle.walk_entries.proofs.Entering.{entered_pass}

-- A turn, or the step, of a loop is what is left first.
pub record IsTurned (design : List Module) (top : List ℕ) (done : Visits) (here : Here) (p : LoopPasses) (task : At → Item → GenLoop → Task) (w : Walk) : Type 0
  where
    pub place : At
    pub a : Item
    pub l : GenLoop
    pub under : List Task
    pub is_loop : IsLoop place a l p
    pub midway : IsMidway design top done here (past place a []) (past place a []) (task place a l ∷ under) under w

turn_left : {design : List Module} {top : List ℕ} {done : Visits} {here : Here} {at : At} {p : Box LoopPasses} {n : ℤ} {tasks : List Task} (w : Walk)
    → AreLeft design here at (left.Turn p n ∷ w.left) tasks → Stands design top done tasks (with_next at w.next) → IsAt here at w.here
    → AreFrames (frames here at) w.names.items → AreAbove design here.above w.above → AreRecorded done w.records
    → IsTurned design top done here p.value (λ place a l. a_turn_of here place a l n) w
turn_left w (turn {place = place} {a = a} {l = l} {tasks = under} is_loop lefts) s scope names above records = record {
  place = place;
  a = a;
  l = l;
  under = under;
  is_loop = is_loop;
  midway = record { stands = s; scope = scope; names = names; above = above; left = lefts; records = records };
}
turn_left w (below x) s scope names above records = elim x [ ]

pub of_turn : {design : List Module} {top : List ℕ} {done : Visits} {here : Here} {at : At} {p : Box LoopPasses} {n : ℤ} {tasks : List Task} (w : Walk)
    → IsStanding design top done here at tasks (record w { left = left.Turn p n ∷ w.left })
    → IsTurned design top done here p.value (λ place a l. a_turn_of here place a l n) w
of_turn w s = turn_left w s.left s.stands s.scope s.names s.above s.records

step_left : {design : List Module} {top : List ℕ} {done : Visits} {here : Here} {at : At} {p : Box LoopPasses} {n : ℤ} {tasks : List Task} (w : Walk)
    → AreLeft design here at (left.Step p n ∷ w.left) tasks → Stands design top done tasks (with_next at w.next) → IsAt here at w.here
    → AreFrames (frames here at) w.names.items → AreAbove design here.above w.above → AreRecorded done w.records
    → IsTurned design top done here p.value (λ place a l. a_step_of here place a l n) w
step_left w (step {place = place} {a = a} {l = l} {tasks = under} is_loop lefts) s scope names above records = record {
  place = place;
  a = a;
  l = l;
  under = under;
  is_loop = is_loop;
  midway = record { stands = s; scope = scope; names = names; above = above; left = lefts; records = records };
}
step_left w (below x) s scope names above records = elim x [ ]

pub of_step : {design : List Module} {top : List ℕ} {done : Visits} {here : Here} {at : At} {p : Box LoopPasses} {n : ℤ} {tasks : List Task} (w : Walk)
    → IsStanding design top done here at tasks (record w { left = left.Step p n ∷ w.left })
    → IsTurned design top done here p.value (λ place a l. a_step_of here place a l n) w
of_step w s = step_left w s.left s.stands s.scope s.names s.above s.records

-- What is judged with the loop of the code is judged with that of the walk: its place, its name, the value of its genvar and an expression.
pub judged_as : {A : Type 0} {p q : Place} {name other : List ℕ} {e f : Expr} {k n : ℤ} (design : List Module) (here : Here) (at : At)
    (P : Names → Expr → A → Type 0) (r : Result A ElabFault)
    → k ≡ n → p ≡ q → name ≡ other → e ≡ f
    → Judges (P (names_in_pass here at name k) e) (refusal design (sees (a_turn p (names_in_pass here at name k) e))) r
    → Judges (P (names_in_pass here at other n) f) (refusal design (sees (a_turn q (names_in_pass here at other n) f))) r
judged_as {p = p} {name = name} {other = other} {e = e} {f = f} {n = n} design here at P r v a b c h =
    subst (λ (x : Place). Judges (P (names_in_pass here at other n) f) (refusal design (sees (a_turn x (names_in_pass here at other n) f))) r) a
    (subst (λ (x : Expr). Judges (P (names_in_pass here at other n) x) (refusal design (sees (a_turn p (names_in_pass here at other n) x))) r) c
    (subst (λ (x : List ℕ). Judges (P (names_in_pass here at x n) e) (refusal design (sees (a_turn p (names_in_pass here at x n) e))) r) b
    (subst (λ (x : ℤ). Judges (P (names_in_pass here at name x) e) (refusal design (sees (a_turn p (names_in_pass here at name x) e))) r) v h)))

-- What follows in a pass with a value follows with a value that is equal.
pub at_value : {k n : ℤ} {P : Type 0} (design : List Module) (top : List ℕ) (done : Visits) (here : Here) (place : At) (a : Item) (l : GenLoop)
    (under : List Task) (w : Walk) → k ≡ n
    → (IsMidway design top done here (past place a []) (past place a []) (a_turn_of here place a l k ∷ under) under w
    → refusal design (test_seen here place a l k) ≡ None → test_of (names_in_pass here place l.name k) l.test ≡ Some true → P)
    → IsMidway design top done here (past place a []) (past place a []) (a_turn_of here place a l n ∷ under) under w
    → refusal design (test_seen here place a l n) ≡ None → test_of (names_in_pass here place l.name n) l.test ≡ Some true → P
at_value {P = P} design top done here place a l under w e f =
    subst (λ (z : ℤ). IsMidway design top done here (past place a []) (past place a []) (a_turn_of here place a l z ∷ under) under w
    → refusal design (test_seen here place a l z) ≡ None → test_of (names_in_pass here place l.name z) l.test ≡ Some true → P) e f

-- The names of the place of the loop, as the code sees them behind its item.
pub same_frames : (here : Here) (place : At) (a : Item) (n : ℕ) → frames here (with_next place n) ≡ frames here (past place a [])
same_frames here place a n =
    ap (λ (cs : List Constant). record { number = here.number; declared = here.declared; genvar = here.genvar; known = cs } ∷ here.outer)
    (sym (append-nil place.known))

pub frames_before : (here : Here) (place : At) (a : Item) (n : ℕ) (ss names : List ScopeNames) → AreFrames (frames here (past place a [])) names → ss ≡ names
    → AreFrames (frames here (with_next place n)) ss
frames_before here place a n ss names are same =
    subst (λ (fs : List Frame). AreFrames fs ss) (sym (same_frames here place a n))
    (subst (λ (xs : List ScopeNames). AreFrames (frames here (past place a [])) xs) (sym same) are)

-- The walk goes on in the block of a pass.
pub pass_entered : {design : List Module} {top : List ℕ} {done : Visits} {here : Here} {place : At} {a : Item} {l : GenLoop} {n : ℤ} {under : List Task}
    {w old v : Walk} {name : List ℕ} {items : List Item} {first : ℕ}
    → IsMidway design top done here (past place a []) (past place a []) (a_turn_of here place a l n ∷ under) under w
    → refusal design (test_seen here place a l n) ≡ None → test_of (names_in_pass here place l.name n) l.test ≡ Some true → nat_lt w.next 65536 ≡ true
    → name ≡ pass_name l.block.name n → items ≡ l.body → first ≡ place.item + 1
    → old.next ≡ w.next → old.above ≡ w.above → old.records ≡ w.records
    → HasEntered design here (past place a []) (with_next place w.next) name (Some (genvar_constant l.name n)) items first
    (a_step_of here place a l n ∷ under) old v
    → IsOnWay design top v
pass_entered {design} {here = here} {place = place} {a = a} {l = l} {n = n} {under = under} {w = w} {old = old} {v = v} {name = name} {items = items}
    {first = first}
    m calm holds room named same_body same_first next above records h =
    let Entered : List Item → ℕ → Walk → Type 0 =
    λ rows k from. HasEntered design here (past place a []) (with_next place w.next) name (Some (genvar_constant l.name n)) rows k
    (a_step_of here place a l n ∷ under) from v in
    let from : Entered items first w = record {
      next = h.next ∙ ap (λ (k : ℕ). k + 1) next;
      scope = h.scope;
      names = h.names;
      above = h.above ∙ above;
      left = h.left;
      records = λ done d. h.records done (subst (λ (rs : List Record). AreRecorded done rs) (sym records) d);
    } in
    entered_pass name m calm holds room named
    (subst (λ (rows : List Item). Entered rows (place.item + 1) w) same_body (subst (λ (k : ℕ). Entered items k w) same_first from))

-- The genvar of a pass is that of the loop.
pub genvar_of_loop : {name other : List ℕ} {k n : ℤ} (g : PassGenvar) → name ≡ other → k ≡ n → IsGenvar (Some (genvar_constant name k)) (Some g)
    → IsGenvar (Some (genvar_constant other n)) (Some g)
genvar_of_loop {other = other} {k = k} g same value is =
    subst (λ (i : ℤ). IsGenvar (Some (genvar_constant other i)) (Some g)) value
    (subst (λ (x : List ℕ). IsGenvar (Some (genvar_constant x k)) (Some g)) same is)
