-- What is refused somewhere has no flat source.
use Rattle.std.proofs.Common.{◌≡◌, ◌≤◌, ◌+◌, ℕ, Bool, true, false, List, [], ◌∷◌, ◌++◌, map, length, refl, subst, ap, sym, ◌∙◌, append_assoc, append-nil, arith}
use Rattle.std.specs.List.{AllByRecursion}
use Rattle.vlog_tree.specs.declared.module.Module.{Module}
use Rattle.elab_types.specs.declared.flat_fault.FlatFault.{FlatFault}
use Rattle.cov_types.specs.declared.limit.LimitName.{LimitName}
use Rattle.circuit_run.specs.Lists.{total}
use Rattle.flat_source_meaning.specs.Clocks.{Keeps, none, keep, leave}
use Rattle.scope_meaning.specs.Visits.{Visits}
use Rattle.scope_meaning.specs.ScopeTrees.{Files, IsWalkOf}
use Rattle.flat_source_meaning.specs.Joins.{Join}
use Rattle.flat_source_meaning.specs.FlatSpots.{FlatSpot}
use Rattle.elab_types.specs.declared.flat_source.FlatVar.{FlatVar}
use Rattle.flat_source_meaning.specs.Variables.{Source, AreVariables}
use Rattle.flat_source_meaning.specs.SourceCircuit.{IsSource}
use Rattle.flat_source_meaning.specs.FlatRefusals.{NoRule}
use Rattle.flat_source_meaning.specs.FlatLimits.{Weight, HasWeight, HaveWeights, PassesLimit, statements, processes, state_bits, bits_of, own_statements}
use Rattle.flat_source_meaning.specs.FlatLimits.{own_processes}
use Rattle.flat_source_meaning.specs.FlatSources.{IsCalm, IsSomeFlatRefusal, by_rule, by_limit, FlatExcludesFault}
use Rattle.scope_meaning.proofs.WalkLaws.{same_walk}
use Rattle.flat_source_meaning.proofs.SpotLaws.{FrontOf, spots_front}

-- what is kept of a list is one list
pub keeps_one : {A : Type 0} {P : A → Type 0} {xs ys : List A} → Keeps P xs ys → {zs : List A} → Keeps P xs zs → ys ≡ zs
keeps_one none none = refl
keeps_one (keep {x = x} p k) (keep q l) = ap (λ a. x ∷ a) (keeps_one k l)
keeps_one (keep p k) (leave n l) = absurd (n p)
keeps_one (leave n k) (keep q l) = absurd (n q)
keeps_one (leave n k) (leave m l) = keeps_one k l

-- a spot has one weight
same_statements : (w : Source) (spot : FlatSpot) (n m : Weight) → HasWeight w spot n → HasWeight w spot m → n.statements ≡ m.statements
same_statements w spot n m a b = a.statements ∙ ap (λ (j : List Join). own_statements spot + length j) (keeps_one a.connected b.connected) ∙ sym b.statements

same_processes : (w : Source) (spot : FlatSpot) (n m : Weight) → HasWeight w spot n → HasWeight w spot m → n.processes ≡ m.processes
same_processes w spot n m a b = a.processes ∙ ap (λ (j : List Join). own_processes spot + length j) (keeps_one a.connected b.connected) ∙ sym b.processes

same_bits : (w : Source) (spot : FlatSpot) (n m : Weight) → HasWeight w spot n → HasWeight w spot m → n.bits ≡ m.bits
same_bits w spot n m a b = a.bits ∙ ap bits_of (keeps_one a.kept b.kept) ∙ sym b.bits

-- totals grow
grows : (w : Source) (f : Weight → ℕ) → ((spot : FlatSpot) (n m : Weight) → HasWeight w spot n → HasWeight w spot m → f n ≡ f m)
    → (before more : List FlatSpot) (ns ws : List Weight) → HaveWeights w before ns → HaveWeights w (before ++ more) ws
    → total (map f ns) ≤ total (map f ws)
grows w f one [] more [] ws a b = omega arith
grows w f one [] more (n ∷ ns) ws a b = absurd a
grows w f one (x ∷ before) more [] ws a b = absurd a
grows w f one (x ∷ before) more (n ∷ ns) [] a b = absurd b
grows w f one (x ∷ before) more (n ∷ ns) (m ∷ ws) a b =
    let e : f n ≡ f m = one x n m a.0 b.0 in
    let h : total (map f ns) ≤ total (map f ws) = grows w f one before more ns ws a.1 b.1 in
    omega (arith, e, h)

pub passes_on : (w : Source) (before more : List FlatSpot) (ns ws : List Weight) (name : LimitName) → HaveWeights w before ns
    → HaveWeights w (before ++ more) ws
    → PassesLimit ns name → PassesLimit ws name
passes_on w before more ns ws name a b (statements p) =
    let h : total (map (λ (n : Weight). n.statements) ns) ≤ total (map (λ (n : Weight). n.statements) ws) = grows w (λ n. n.statements) (same_statements w)
    before more ns ws a b in
    statements (omega (arith, h, p))
passes_on w before more ns ws name a b (processes p) =
    let h : total (map (λ (n : Weight). n.processes) ns) ≤ total (map (λ (n : Weight). n.processes) ws) = grows w (λ n. n.processes) (same_processes w) before
    more ns ws a b in
    processes (omega (arith, h, p))
passes_on w before more ns ws name a b (state_bits p) =
    let h : total (map (λ (n : Weight). n.bits) ns) ≤ total (map (λ (n : Weight). n.bits) ws) = grows w (λ n. n.bits) (same_bits w) before more ns ws a b in
    state_bits (omega (arith, h, p))

pub all_at : {A : Type 0} (P : A → Type 0) (before after : List A) (x : A) → AllByRecursion P (before ++ x ∷ after) → P x
all_at P [] after x a = a.0
all_at P (y ∷ before) after x a = all_at P before after x a.1

extended : {A : Type 0} (xs ys : List A) (w : Bool) → FrontOf xs ys w → (rest : List A) × (xs ≡ ys ++ rest)
extended xs ys true e = ([], e ∙ sym (append-nil ys))
extended xs ys false f = f

calm_nowhere_refused : (w : Source) (found : FlatFault) → IsCalm w → IsSomeFlatRefusal w found → ⊥
calm_nowhere_refused w found c (by_rule before after at {whole} rule spots r) =
    let f : (rest : List FlatSpot) × (c.spots ≡ (before ++ at ∷ after) ++ rest) = extended c.spots (before ++ at ∷ after) whole (spots_front c.whole spots) in
    all_at (NoRule w) before (after ++ f.0) at (subst (AllByRecursion (NoRule w)) (f.1 ∙ append_assoc before (at ∷ after) f.0) c.calm) rule r
calm_nowhere_refused w found c (by_limit before after ns {name} {whole} spots have p) =
    let f : (rest : List FlatSpot) × (c.spots ≡ (before ++ after) ++ rest) = extended c.spots (before ++ after) whole (spots_front c.whole spots) in
    let g : HaveWeights w (before ++ (after ++ f.0)) c.weights = subst (λ (xs : List FlatSpot). HaveWeights w xs c.weights) (f.1
    ∙ append_assoc before after f.0) c.weigh in
    c.within name (passes_on w before (after ++ f.0) ns c.weights name have g p)

abbrev made_of : List Module → Visits → List ℕ → List FlatVar → Source
made_of design vs clock vars = record { design = design; vs = vs; clock = clock; vars = vars }

-- files have one source
pub one_source : (files : Files) (top clock : List ℕ) (v w : Source) → IsSource files top clock v → IsSource files top clock w → v ≡ w
one_source files top clock v w a b =
    let d : v.design ≡ w.design = a.design ∙ sym b.design in
    let walk : IsWalkOf w.design top v.vs true = subst (λ (x : List Module). IsWalkOf x top v.vs true) d a.walk in
    let e : v.vs ≡ w.vs = same_walk walk b.walk in
    let c : v.clock ≡ w.clock = a.clock_name ∙ sym b.clock_name in
    let vars : AreVariables w.vs w.clock v.vars =
    subst (λ (x : List ℕ). AreVariables w.vs x v.vars) c (subst (λ (x : Visits). AreVariables x v.clock v.vars) e a.variables) in
    ap (λ (x : List Module). made_of x v.vs v.clock v.vars) d ∙ ap (λ (x : Visits). made_of w.design x v.clock v.vars) e
    ∙ ap (λ (x : List ℕ). made_of w.design w.vs x v.vars) c ∙ ap (λ (x : List FlatVar). made_of w.design w.vs w.clock x) (keeps_one vars b.variables)

pub flat_excludes_fault : FlatExcludesFault
flat_excludes_fault files top clock flat found s f =
    let e : f.0 ≡ s.w = one_source files top clock f.0 s.w f.1 s.source in
    calm_nowhere_refused s.w found s.calm (subst (λ (w : Source). IsSomeFlatRefusal w found) e f.2)
