-- What follows a piece of a walk follows one that has some visits in front of it.
use Rattle.std.proofs.Common.{◌≡◌, ℕ, Bool, true, false, List, [], ◌∷◌, ◌++◌, subst, sym, ap, ◌∙◌, append_assoc, append-nil}
use Rattle.vlog_tree.specs.declared.module.Module.{Module}
use Rattle.scope_meaning.specs.Scope.{At}
use Rattle.scope_meaning.specs.Visits.{Visits, with_next}
use Rattle.walk_laws.specs.Rest.{Task, Piece, Rest, cut, followed, Numbered, numbered, IsEnded, ended}

-- a piece that isn't whole, wherever it ends
abbrev pub Cut : (Visits → At → Bool → Type 0) → Visits → Type 0
Cut piece vs = (to : At) × piece vs to false

-- a piece of a walk and what follows it, or a front of the piece
pub data Then (piece : Visits → At → Bool → Type 0) (rest : At → Visits → Bool → Type 0) : Visits → Bool → Type 0 where
  a_front : {vs : Visits} (to : At) → piece vs to false → Then piece rest vs false
  with_rest : {vs ws : Visits} {to : At} {whole : Bool} → piece vs to true → rest to ws whole → Then piece rest (vs ++ ws) whole

pub opens : {design : List Module} {t : Task} {left : List Task} {at : At} {ws : Visits} {w : Bool}
    → Rest design (t ∷ left) at ws w → Then (Piece design t at) (Rest design left) ws w
opens (cut to p) = a_front to p
opens (followed vs p r) = with_rest p r

pub closes : {design : List Module} {t : Task} {left : List Task} {at : At} {ws : Visits} {w : Bool}
    → Then (Piece design t at) (Rest design left) ws w → Rest design (t ∷ left) at ws w
closes (a_front to p) = cut to p
closes (with_rest {vs = vs} p r) = followed vs p r

-- Visits in front of a piece.
pub in_front : {piece new : Visits → At → Bool → Type 0} {rest : At → Visits → Bool → Type 0} {ws : Visits} {whole : Bool} (front : Visits)
    → ((vs : Visits) (to : At) (w : Bool) → new vs to w → piece (front ++ vs) to w)
    → Then new rest ws whole → Then piece rest (front ++ ws) whole
in_front front step (a_front {vs = vs} to p) = a_front to (step vs to false p)
in_front {piece} {new} {rest} front step (with_rest {vs = vs} {ws = ws} {to = to} {whole = w} p r) =
    subst (λ (us : Visits). Then piece rest us w) (append_assoc front vs ws) (with_rest (step vs to true p) r)

behind_both : (piece two : Visits → At → Bool → Type 0) (rest : At → Visits → Bool → Type 0) (front vs : Visits) {zs : Visits} {whole : Bool}
    → ((us : Visits) (to : At) (w : Bool) → two us to w → piece (front ++ (vs ++ us)) to w) → Then two rest zs whole
    → Then piece rest (front ++ (vs ++ zs)) whole
behind_both piece two rest front vs f (a_front {vs = us} to q) = a_front to (f us to false q)
behind_both piece two rest front vs f (with_rest {vs = us} {ws = ws} {to = to} {whole = w} q r) =
    subst (λ (zs : Visits). Then piece rest zs w) (append_assoc front (vs ++ us) ws ∙ ap (λ (zs : Visits). front ++ zs) (append_assoc vs us ws))
    (with_rest (f us to true q) r)

-- Two pieces in place of one, with visits in front.
pub two_in_front : {piece one : Visits → At → Bool → Type 0} (two : At → Visits → At → Bool → Type 0) {next rest : At → Visits → Bool → Type 0} {ws : Visits}
    {whole : Bool} (front : Visits)
    → ((by : At) (us : Visits) (w : Bool) → next by us w → Then (two by) rest us w)
    → ((vs : Visits) (to : At) → one vs to false → Cut piece (front ++ vs))
    → ((vs us : Visits) (by to : At) (w : Bool) → one vs by true → two by us to w → piece (front ++ (vs ++ us)) to w)
    → Then one next ws whole → Then piece rest (front ++ ws) whole
two_in_front two front open_it inside both (a_front {vs = vs} to p) = a_front (inside vs to p).0 (inside vs to p).1
two_in_front {piece} {one} two {next} {rest} front open_it inside both (with_rest {vs = vs} {ws = zs} {to = by} {whole = whole} p r) =
    behind_both piece (two by) rest front vs (λ us to w q. both vs us by to w p q) (open_it by zs whole r)

-- One task in place of another.
pub one_task : {design : List Module} {t new : Task} {left : List Task} {at by : At} {ws : Visits} {w : Bool} (front : Visits)
    → ((vs : Visits) (to : At) (w : Bool) → Piece design new by vs to w → Piece design t at (front ++ vs) to w)
    → Rest design (new ∷ left) by ws w → Rest design (t ∷ left) at (front ++ ws) w
one_task {design} {t} {new} {left} {at} {by} front step r =
    closes (in_front {piece = Piece design t at} {new = Piece design new by} {rest = Rest design left} front step (opens r))

-- A piece and a task in place of one.
pub two_tasks : {design : List Module} {t : Task} {left : List Task} {at : At} {ws : Visits} {w : Bool} {one : Visits → At → Bool
    → Type 0} (second : Task) (front : Visits)
    → ((vs : Visits) (to : At) → one vs to false → Cut (Piece design t at) (front ++ vs))
    → ((vs us : Visits) (by to : At) (w : Bool) → one vs by true → Piece design second by us to w → Piece design t at (front ++ (vs ++ us)) to w)
    → Then one (Rest design (second ∷ left)) ws w → Rest design (t ∷ left) at (front ++ ws) w
two_tasks {design} {t} {left} {at} {one = one} second front inside both r =
    closes (two_in_front {piece = Piece design t at} {one = one} (λ by. Piece design second by) {next = Rest design (second ∷ left)}
    {rest = Rest design left} front
    (λ by us w x. opens x) inside both r)

-- What holds of each numbered walk.
pub of_numbered : (place : ℕ → At) (walk : Visits → ℕ → Bool → Type 0) (P : Visits → At → Bool → Type 0)
    → ((vs : Visits) (next : ℕ) (w : Bool) → walk vs next w → P vs (place next) w)
    → (vs : Visits) (to : At) (w : Bool) → Numbered place walk vs to w → P vs to w
of_numbered place walk P f vs to w (numbered {next = next} x) = f vs next w x

-- A scope that ends behind a walk, which is one by the number of the next scope.
pub ended_behind : (walk : Visits → ℕ → Bool → Type 0) (front vs : Visits) (by outer : At) → walk (front ++ vs) by.next true
    → (us : Visits) (to : At) (w : Bool) → IsEnded by outer us to w → Numbered (with_next outer) walk (front ++ (vs ++ us)) to w
ended_behind walk front vs by outer x us to w ended =
    subst (λ (zs : Visits). Numbered (with_next outer) walk (front ++ zs) (with_next outer by.next) true) (sym (append-nil vs)) (numbered x)
