-- The rules on instances.
use Rattle.std.proofs.Common.{◌≡◌, ◌∙◌, sym, ap, refl, subst, ℕ, Bool, true, false, cond, ◌||◌, List, [], ◌∷◌, ◌++◌, map, append-nil, Option, Some, None}
use Rattle.std.proofs.Common.{Result, Ok, Err}
use Rattle.cov_types.specs.declared.place.Place.{Place}
use Rattle.vlog_tree.specs.declared.item.Conns.{Conns}
use Rattle.vlog_tree.specs.declared.item.Instance.{Instance}
use Rattle.vlog_tree.specs.declared.item.ItemKind.TheOpen as i
use Rattle.vlog_tree.specs.declared.module.Module.{Module}
use Rattle.elab_types.specs.declared.elab_fault.ElabFault.{ElabFault}
use Rattle.elab_types.specs.declared.elab_fault.ElabFault.TheVariants as fault
use Rattle.scope_meaning.specs.Declared.{is_in}
use Rattle.scope_meaning.specs.Scope.{Here, At}
use Rattle.scope_meaning.specs.Heads.{module_named, names_here}
use Rattle.scope_meaning.specs.Overrides.{expressions, parameters, are_bad}
use Rattle.scope_meaning.specs.Standing.{Standing, standing_item}
use Rattle.scope_meaning.specs.ScopeRules.{ScopeRule, unknown_module, bad_override, recursive, refusal_at, first_of, is_unknown, is_bad_for}
use Rattle.scope_meaning.specs.Wanted.{want}
use Rattle.elab_ranges.specs.declared.fault.RangeFault.{RangeFault}
use Rattle.elab_overrides.specs.declared.given.Givens.{Givens}
use Rattle.elab_faults.specs.Flaws.{flaws_at, flaws_in, first_flaw, IsFlaw, Finds}
use Rattle.elab_faults.specs.Judged.{Judges, IsRefusal, fault_at}
use Rattle.elab_places.proofs.Rules.{NotTwice, unflawed, refused, or_false}
use Rattle.elab_overrides.specs.Overrides.{AreParameters}
use Rattle.elab_modules.specs.declared.find.FoundModule.{FoundModule}
use Rattle.elab_modules.specs.Modules.{IsFound}
use Rattle.elab_instances.specs.declared.judge.MadeOf.{MadeOf}
use Rattle.elab_instances.specs.Instances.{IsMadeOf, IsBad, of_unknown}
use Rattle.elab_instances.specs.Instances.{refused as refused_by}

abbrev pub made_at : Here → At → Place → List (List ℕ) → List ℕ → Conns → List Instance → Standing
made_at here at p ns of params made = standing_item here at p ns (i.Instances of params made)

pub instance-flaws : (here : Here) (at : At) (p : Place) (ns : List (List ℕ)) (of : List ℕ) (params : Conns) (made : List Instance)
    → flaws_at (made_at here at p ns of params made) ≡ flaws_in (map (want (names_here here at)) (expressions params))
instance-flaws here at p ns of params made =
    let ws = map (want (names_here here at)) (expressions params) in
    ap flaws_in (append-nil (ws ++ []) ∙ append-nil ws)

abbrev by : Bool → Bool → Bool → Option ScopeRule
by u b r = cond u (Some unknown_module) (cond b (Some bad_override) (cond r (Some recursive) None))

-- what refuses instances in whose values nothing is wrong
later : (design : List Module) (here : Here) (at : At) (p : Place) (ns : List (List ℕ)) (of : List ℕ) (params : Conns) (made : List Instance)
    (found : Option (ℕ × Module))
    → NotTwice design (made_at here at p ns of params made) → first_flaw (flaws_in (map (want (names_here here at)) (expressions params))) ≡ None
    → module_named design of ≡ found
    → refusal_at design (made_at here at p ns of params made)
    ≡ first_of (made_at here at p ns of params made) (by (is_unknown found) (is_bad_for found (λ m. are_bad (parameters m) params)) (is_in of here.above))
later design here at p ns of params made found d none is =
    let x = made_at here at p ns of params made in
    let named = module_named design of in
    let bad = λ (m : Module). are_bad (parameters m) params in
    unflawed design x d (ap first_flaw (instance-flaws here at p ns of params made) ∙ none)
    ∙ ap (λ b. first_of x (by b (is_bad_for named bad || false) (is_in of here.above || false))) (or_false (is_unknown named))
    ∙ ap (λ b. first_of x (by (is_unknown named) b (is_in of here.above || false))) (or_false (is_bad_for named bad))
    ∙ ap (λ b. first_of x (by (is_unknown named) (is_bad_for named bad) b)) (or_false (is_in of here.above))
    ∙ ap (λ o. first_of x (by (is_unknown o) (is_bad_for o bad) (is_in of here.above))) is

pub of-none : (design : List Module) (here : Here) (at : At) (p : Place) (ns : List (List ℕ)) (of : List ℕ) (params : Conns) (made : List Instance)
    (P : Givens → Type 0) (values : Result Givens RangeFault) → NotTwice design (made_at here at p ns of params made) → module_named design of ≡ None
    → Finds P (flaws_in (map (want (names_here here at)) (expressions params))) values
    → IsRefusal (refusal_at design (made_at here at p ns of params made)) (of_unknown p values)
of-none design here at p ns of params made P (Ok given) d is h = later design here at p ns of params made None d h.0 is
of-none design here at p ns of params made P (Err f) d is h =
    refused design (made_at here at p ns of params made) f d (subst (λ w. IsFlaw w f) (sym (instance-flaws here at p ns of params made)) h)

pub values-refused : (design : List Module) (here : Here) (at : At) (p : Place) (ns : List (List ℕ)) (of : List ℕ) (params : Conns) (made : List Instance)
    (f : RangeFault) → NotTwice design (made_at here at p ns of params made) → IsFlaw (flaws_in (map (want (names_here here at)) (expressions params))) f
    → IsRefusal (refusal_at design (made_at here at p ns of params made)) (fault_at p f)
values-refused design here at p ns of params made f d h =
    refused design (made_at here at p ns of params made) f d (subst (λ w. IsFlaw w f) (sym (instance-flaws here at p ns of params made)) h)

-- with a module, by its parameters and the modules around
pub of-some : (design : List Module) (here : Here) (at : At) (p : Place) (ns : List (List ℕ)) (of : List ℕ) (params : Conns) (made : List Instance)
    (found : ℕ × Module) (b r : Bool) → NotTwice design (made_at here at p ns of params made)
    → first_flaw (flaws_in (map (want (names_here here at)) (expressions params))) ≡ None → module_named design of ≡ Some found
    → are_bad (parameters found.1) params ≡ b → is_in of here.above ≡ r
    → refusal_at design (made_at here at p ns of params made) ≡ first_of (made_at here at p ns of params made) (by false b r)
of-some design here at p ns of params made found b r d none is bad inner =
    later design here at p ns of params made (Some found) d none is
    ∙ ap (λ c. first_of (made_at here at p ns of params made) (by false c (is_in of here.above))) bad
    ∙ ap (λ c. first_of (made_at here at p ns of params made) (by false b c)) inner

-- what is found
pub is-none : (o : Option (ℕ × Module)) → IsFound o None → o ≡ None
is-none None h = refl
is-none (Some p) h = absurd h

pub record Meant (o : Option (ℕ × Module)) (f : FoundModule) : Type 0 where
  pub m : Module
  pub named : o ≡ Some (f.number, m)
  pub are : AreParameters (parameters m) f.parameters.now

pub is-some : (o : Option (ℕ × Module)) (f : FoundModule) → IsFound o (Some f) → Meant o f
is-some None f h = absurd h
is-some (Some p) f h = record { m = p.1; named = ap (λ n. Some (n, p.1)) (sym h.0); are = h.2 }

-- what instances of a module come to
pub judges-made : (design : List Module) (here : Here) (at : At) (p : Place) (ns : List (List ℕ)) (of : List ℕ) (params : Conns) (made : List Instance)
    (bad : Result Bool ElabFault) (inner : Bool) (r : MadeOf) → NotTwice design (made_at here at p ns of params made)
    → first_flaw (flaws_in (map (want (names_here here at)) (expressions params))) ≡ None → (is : IsMadeOf design (names_here here at) of params r)
    → IsBad (are_bad (parameters is.m) params) bad → inner ≡ is_in of here.above
    → Judges (IsMadeOf design (names_here here at) of params) (refusal_at design (made_at here at p ns of params made)) (refused_by p bad inner r)
judges-made design here at p ns of params made (Ok true) inner r d none is b i =
    of-some design here at p ns of params made (r.number, is.m) true inner d none is.found (sym b) (sym i)
judges-made design here at p ns of params made (Ok false) true r d none is b i =
    of-some design here at p ns of params made (r.number, is.m) false true d none is.found (sym b) (sym i)
judges-made design here at p ns of params made (Ok false) false r d none is b i =
    (of-some design here at p ns of params made (r.number, is.m) false false d none is.found (sym b) (sym i), is)
judges-made design here at p ns of params made (Err f) inner r d none is b i =
    subst (IsRefusal (refusal_at design (made_at here at p ns of params made))) (sym b) tt
