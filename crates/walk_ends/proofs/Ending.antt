-- What follows where a scope ends.
use Rattle.std.proofs.Common.{◌≡◌, ℕ, ◌-◌, Bool, List, [], ◌∷◌, ◌++◌, false, Some, take, length, refl, subst, sym, ap, ◌∙◌, append-nil, length-append, arith}
use Rattle.std.proofs.Math.Seq.{take-append_seam}
use Rattle.std.specs.Global.{Vec}
use Rattle.vlog_tree.specs.declared.module.Module.{Module}
use Rattle.scope_meaning.specs.Declared.{is_in}
use Rattle.scope_meaning.specs.Heads.{module_named}
use Rattle.scope_meaning.specs.Scope.{Here, At, Frame, frames}
use Rattle.scope_meaning.specs.Visits.{Visits, with_next}
use Rattle.elab_modules.specs.declared.above.OpenModules.{OpenModules}
use Rattle.elab_modules.specs.Above.{AreAbove}
use Rattle.elab_names.specs.declared.scope_names.ScopeNames.{ScopeNames}
use Rattle.elab_names.specs.Frames.{AreFrames, inside}
use Rattle.walk_laws.specs.Rest.{Task, an_end, Rest}
use Rattle.walk_laws.specs.Stands.{Stands}
use Rattle.walk_laws.proofs.Standings.{goes_on_to}
use Rattle.walk_laws.proofs.Steps.{behind_scope}
use Rattle.walk_state.specs.declared.left.Left.{Left}
use Rattle.walk_state.specs.declared.left.Left.TheVariants as left
use Rattle.walk_state.specs.declared.place.ScopePlace.{ScopePlace}
use Rattle.walk_state.specs.declared.walk.Walk.{Walk}
use Rattle.walk_state.specs.Standing.{IsAt, AreLeft, below, in_block, in_module, IsStanding, IsOnWay}

all_but_last : (outer : List ScopeNames) (s : ScopeNames) → take (length (outer ++ s ∷ []) - 1) (outer ++ s ∷ []) ≡ outer
all_but_last outer s =
    let count : length (outer ++ s ∷ []) - 1 ≡ length outer = omega (arith, length-append outer (s ∷ [])) in
    ap (λ (n : ℕ). take n (outer ++ s ∷ [])) count ∙ take-append_seam outer (s ∷ [])

-- Without the last names, the scope around is seen.
pub closed : {f : Frame} {fs : List Frame} {ss new : List ScopeNames} → AreFrames (f ∷ fs) ss → new ≡ take (length ss - 1) ss → AreFrames fs new
closed {fs = fs} (inside {ss = outer} {s = s} are is) e = subst (λ (l : List ScopeNames). AreFrames fs l) (sym (e ∙ all_but_last outer s)) are

-- a scope around goes on at a place
record GoesOn (design : List Module) (top : List ℕ) (done : Visits) (next : ℕ) (around : ScopePlace) (under : List Left) : Type 0 where
  outer : Here
  place : At
  tasks : List Task
  scope : IsAt outer place around
  left : AreLeft design outer place under tasks
  stands : Stands design top done tasks (with_next place next)

behind : {design : List Module} {top : List ℕ} {done : Visits} (at : At) {place : At} {next : ℕ} {tasks : List Task}
    → Stands design top done (an_end place ∷ tasks) (with_next at next) → Stands design top done tasks (with_next place next)
behind {design} {top} {done} at {place} {next} {tasks} s =
    subst (λ (us : Visits). Stands design top us tasks (with_next place next)) (append-nil done) (goes_on_to [] s refl (λ ws w r. behind_scope r))

of_block : {design : List Module} {top : List ℕ} {done : Visits} {here : Here} {at : At} {next : ℕ} {around : ScopePlace} {under : List Left}
    {tasks : List Task}
    → AreLeft design here at (left.EndOfBlock around ∷ under) tasks → Stands design top done tasks (with_next at next)
    → (it : GoesOn design top done next around under) × (here.outer ≡ frames it.outer it.place) × (here.above ≡ it.outer.above)
of_block {at = at} (below (in_block {outer = outer} {place = place} {tasks = tasks} is same beside lefts)) s =
    (record { outer = outer; place = place; tasks = tasks; scope = is; left = lefts; stands = behind at s }, same, beside)

-- the modules that a scope stands in, where it is left
record Leaves (design : List Module) (above outer : List (List ℕ)) (number : ℕ) : Type 0 where
  m : Module
  same : above ≡ outer ++ m.name ∷ []
  found : module_named design m.name ≡ Some (number, m)
  fresh : is_in m.name outer ≡ false

of_module : {design : List Module} {top : List ℕ} {done : Visits} {here : Here} {at : At} {next number : ℕ} {around : ScopePlace} {names : Vec ScopeNames}
    {under : List Left} {tasks : List Task}
    → AreLeft design here at (left.EndOfModule around names number ∷ under) tasks → Stands design top done tasks (with_next at next)
    → (it : GoesOn design top done next around under) × AreFrames (frames it.outer it.place) names.items
    × Leaves design here.above it.outer.above number
of_module {at = at} (below (in_module {outer = outer} {place = place} {m = m} {tasks = tasks} is are above found fresh lefts)) s = (
  record { outer = outer; place = place; tasks = tasks; scope = is; left = lefts; stands = behind at s },
  are,
  record { m = m; same = above; found = found; fresh = fresh },
)

-- Behind a block the scope around it goes on,
pub ended_block : {design : List Module} {top : List ℕ} {done : Visits} {here : Here} {at : At} {tasks : List Task} (w : Walk) (around : ScopePlace)
    (names : Vec ScopeNames)
    → IsStanding design top done here at tasks (record w { left = left.EndOfBlock around ∷ w.left })
    → ((fs : List Frame) (f : Frame) → AreFrames (f ∷ fs) w.names.items → AreFrames fs names.items)
    → IsOnWay design top (record w { here = around; names = names })
ended_block {design} {top} {done} {here} {at} w around names s without =
    let it = of_block s.left s.stands in
    let frame : Frame = record { number = here.number; declared = here.declared; genvar = here.genvar; known = at.known } in
    record {
      done = done;
      here = it.0.outer;
      place = it.0.place;
      tasks = it.0.tasks;
      standing = record {
        stands = it.0.stands;
        scope = it.0.scope;
        names = subst (λ (fs : List Frame). AreFrames fs names.items) it.1 (without here.outer frame s.names);
        above = subst (λ (names : List (List ℕ)). AreAbove design names w.above) it.2 s.above;
        left = it.0.left;
        records = s.records;
      };
    }

-- and behind a module that of its instance.
pub ended_module : {design : List Module} {top : List ℕ} {done : Visits} {here : Here} {at : At} {tasks : List Task} (w : Walk) (around : ScopePlace)
    (names : Vec ScopeNames) (number : ℕ) (modules : OpenModules)
    → IsStanding design top done here at tasks (record w { left = left.EndOfModule around names number ∷ w.left })
    → ((above : List (List ℕ)) (name : List ℕ) (m : Module) → AreAbove design (above ++ m.name ∷ []) w.above → module_named design name ≡ Some (number, m)
    → is_in m.name above ≡ false → AreAbove design above modules)
    → IsOnWay design top (record w { here = around; names = names; above = modules })
ended_module {design} {top} {done} w around names number modules s leave =
    let it = of_module s.left s.stands in
    record {
      done = done;
      here = it.0.outer;
      place = it.0.place;
      tasks = it.0.tasks;
      standing = record {
        stands = it.0.stands;
        scope = it.0.scope;
        names = it.1;
        above = leave it.0.outer.above it.2.m.name it.2.m (subst (λ (names : List (List ℕ)). AreAbove design names w.above) it.2.same s.above)
            it.2.found it.2.fresh;
        left = it.0.left;
        records = s.records;
      };
    }
