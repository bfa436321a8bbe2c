-- Going into the block of a chosen arm.
use Rattle.std.proofs.Common.{◌≡◌, ℕ, ◌+◌, true, false, List, [], ◌∷◌, ◌++◌, length, Option, Some, None, refl, subst, sym, ap, ◌∙◌, nat_lt}
use Rattle.std.proofs.Common.{append-nil}
use Rattle.std.proofs.Common.{◌-◌, length-append, arith}
use Rattle.std.specs.Prelude.{slice_get, MatchOption}
use Rattle.std.specs.Option.{option_copied}
use Rattle.std.specs.Borrow.{Bor}
use Rattle.vlog_tree.specs.declared.item.Item.{Item}
use Rattle.vlog_tree.specs.declared.item.ItemKind.TheOpen as i
use Rattle.vlog_tree.specs.declared.item.GenArm.{GenArm}
use Rattle.vlog_tree.specs.declared.item.GenBody.{GenBody, out-GenBody}
use Rattle.vlog_tree.specs.declared.module.Module.{Module}
use Rattle.vlog_tree.specs.Trees.{layer}
use Rattle.elab_types.specs.declared.elab_fault.ElabFault.TheVariants as fault
use Rattle.cov_types.specs.declared.limit.LimitName.TheVariants as limit
use Rattle.scope_meaning.specs.Constants.{Constant}
use Rattle.scope_meaning.specs.Scope.{Here, At, Frame, frames}
use Rattle.scope_meaning.specs.BlockNames.{block_name}
use Rattle.scope_meaning.specs.Heads.{names_here, choice_from, Choice}
use Rattle.scope_meaning.specs.Visits.{Visits, past, with_next, names_declared}
use Rattle.scope_meaning.specs.ScopeTrees.{IsFirstRefusal}
use Rattle.elab_heads.specs.declared.choice.ChosenBody.{ChosenBody}
use Rattle.elab_heads.specs.Choices.{IsChoice}
use Rattle.elab_names.specs.declared.scope_names.ScopeNames.{ScopeNames}
use Rattle.elab_names.specs.Frames.{AreFrames, inside, IsFrame}
use Rattle.walk_laws.specs.Rest.{Task, some_items}
use Rattle.walk_state.specs.declared.walk.Walk.{Walk}
use Rattle.walk_state.specs.Standing.{IsOnWay, IsTaken}
use Rattle.walk_entries.specs.Blocks.{HasEntered}
use Rattle.walk_entries.proofs.Entering.{entered_choice, no_room_for_choice}
use Rattle.walk_steps.specs.Steps.{IsBegun}

-- what is chosen, from what the code has
pub chosen_is : (o : Choice) (c : ChosenBody) → IsChoice o (Some c) → o ≡ Some (Some (c.first, c.body.now))
chosen_is (Some (Some p)) c h = ap (λ (q : ℕ × GenBody). Some (Some q)) (pair p c.first c.body.now (h.0) (h.1))
  where
    pair : (p : ℕ × GenBody) (n : ℕ) (b : GenBody) → n ≡ p.0 → b ≡ p.1 → p ≡ (n, b)
    pair p n b e f = ap (λ (k : ℕ). (k, p.1)) (sym e) ∙ ap (λ (x : GenBody). (n, x)) (sym f)
chosen_is (Some None) c h = absurd h
chosen_is None c h = absurd h

pub chosen_none : (o : Choice) → IsChoice o None → o ≡ Some None
chosen_none (Some (Some p)) h = absurd h
chosen_none (Some None) h = refl
chosen_none None h = absurd h

-- The walk goes on in the block of the arm.
pub arm_entered : {design : List Module} {top : List ℕ} {done : Visits} {here : Here} {at : At} {a : Item} {rest : List Item} {under : List Task}
    {w v : Walk} {arms : List GenArm} {last : Option GenBody} {name : List ℕ} (body : GenBody) (first : ℕ) (items : List Item)
    → IsBegun design top done here at a rest under w
    → IsTaken design here (with_next at w.next) a → layer a ≡ i.Choose arms last
    → choice_from (names_here here at) (at.item + 1) arms last ≡ Some (Some (first, body)) → nat_lt w.next 65536 ≡ true
    → name ≡ block_name (names_declared here) (at.construct + 1) (out-GenBody body).name → items ≡ (out-GenBody body).items
    → HasEntered design here (past (with_next at w.next) a []) (with_next at w.next) name None items first (some_items here rest ∷ under) w v
    → IsOnWay design top v
arm_entered {design} {here = here} {at = at} {a = a} {rest = rest} {under = under} {w = w} {v = v} {name = name} body first items b taken l chosen room named
    same h =
    entered_choice first name b.midway taken l chosen room named
    (subst (λ (rows : List Item). HasEntered design here (past (with_next at w.next) a []) (with_next at w.next) name None rows first
    (some_items here rest ∷ under) w v) same h)

pub no_room : {design : List Module} {top : List ℕ} {done : Visits} {here : Here} {at : At} {a : Item} {rest : List Item} {under : List Task}
    {w : Walk} {arms : List GenArm} {last : Option GenBody} (body : GenBody) (first : ℕ)
    → IsBegun design top done here at a rest under w
    → IsTaken design here (with_next at w.next) a → layer a ≡ i.Choose arms last
    → choice_from (names_here here at) (at.item + 1) arms last ≡ Some (Some (first, body)) → nat_lt w.next 65536 ≡ false
    → IsFirstRefusal design top (fault.Limit limit.Scopes)
no_room body first b taken l chosen full = no_room_for_choice b.midway taken l chosen full

-- The names of the place of the item, as the code sees them behind it.
pub same_frames : (here : Here) (at : At) (a : Item) (n : ℕ) → frames here (with_next at n) ≡ frames here (past (with_next at n) a [])
same_frames here at a n =
    ap (λ (cs : List Constant). record { number = here.number; declared = here.declared; genvar = here.genvar; known = cs } ∷ here.outer)
    (sym (append-nil at.known))

-- The last of the names are those of the innermost scope.
last_there : (xs : List ScopeNames) (s : ScopeNames) → slice_get (xs ++ s ∷ []) (length xs) ≡ Some s
last_there [] s = refl
last_there (x ∷ xs) s = last_there xs s

is_last : (outer : List ScopeNames) (s : ScopeNames) → slice_get (outer ++ s ∷ []) (length (outer ++ s ∷ []) - 1) ≡ Some s
is_last outer s =
    let count : length (outer ++ s ∷ []) - 1 ≡ length outer = omega (arith, length-append outer (s ∷ [])) in
    ap (slice_get (outer ++ s ∷ [])) count ∙ last_there outer s

or_this : ScopeNames → Option ScopeNames → ScopeNames
or_this d (Some s) = s
or_this d None = d

own_frame : {fs : List Frame} {f : Frame} {names : List ScopeNames} (own : ScopeNames) → AreFrames (f ∷ fs) names
    → Some own ≡ slice_get names (length names - 1) → IsFrame f own
unfolding or_this
own_frame {f = f} own (inside {ss = outer} {s = s} are is) e =
    subst (λ (t : ScopeNames). IsFrame f t) (sym (ap (or_this own) (e ∙ is_last outer s))) is

pub innermost_is : (o : Option (Bor ScopeNames)) (names : List ScopeNames) → option_copied o ≡ slice_get names (length names - 1)
    → MatchOption o (Unit {0}) (λ own. (f : Frame) (fs : List Frame) → AreFrames (f ∷ fs) names → IsFrame f own.now)
innermost_is None names e = tt
innermost_is (Some own) names e = λ f fs are. own_frame own.now are e
