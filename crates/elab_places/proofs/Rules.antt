-- The first rule that refuses a place, where no name stands twice.
use Rattle.std.proofs.Common.{◌≡◌, ◌∙◌, sym, ap, refl, subst, Bool, true, false, cond, not, ◌||◌, List, [], ◌∷◌, Option, Some, None, Result, Ok, Err}
use Rattle.std.specs.Prelude.{ℤ}
use Rattle.std.specs.List.{find}
use Rattle.cov_types.specs.declared.limit.LimitName.TheVariants as limit
use Rattle.cov_types.specs.declared.place.Place.{Place}
use Rattle.vlog_tree.specs.declared.module.Module.{Module}
use Rattle.elab_types.specs.declared.elab_fault.ElabFault.{ElabFault}
use Rattle.elab_types.specs.declared.elab_fault.ElabFault.TheVariants as fault
use Rattle.scope_meaning.specs.Standing.{Standing}
use Rattle.scope_meaning.specs.ScopeRules.{ScopeRule, duplicate, not_constant, bad_select, bad_range, width_past_128, bad_genvar, unknown_module, bad_override}
use Rattle.scope_meaning.specs.ScopeRules.{recursive}
use Rattle.scope_meaning.specs.ScopeRules.{refuses, refusal_at, first_of, memory_fault, has_large_memory}
use Rattle.elab_ranges.specs.declared.fault.RangeFault.{RangeFault}
use Rattle.elab_ranges.specs.declared.fault.RangeFault.TheVariants as range
use Rattle.elab_faults.specs.Flaws.{Flaws, flaws_at, first_flaw, IsFlaw, Finds}
use Rattle.elab_faults.specs.Judged.{Judges, IsRefusal, fault_at, Nothing}
use Rattle.elab_faults.proofs.Flaws.{first}
use Rattle.elab_places.specs.Places.{at_place, limited, checked, IsStored}

-- the rules behind those on expressions and ranges
abbrev pub later : List ScopeRule
later = bad_genvar ∷ unknown_module ∷ bad_override ∷ recursive ∷ []

abbrev pub found_later : List Module → Standing → Option ScopeRule
found_later design x = find (refuses design x) later

abbrev by : Bool → Bool → Bool → Bool → Bool → Option ScopeRule → Option ScopeRule
by d n s r w tail =
    cond d (Some duplicate) (cond n (Some not_constant) (cond s (Some bad_select) (cond r (Some bad_range) (cond w (Some width_past_128) tail))))

abbrev some_is : RangeFault → Option RangeFault → RangeFault
some_is d (Some f) = f
some_is d None = d

flaw_first : (x : Standing) (n s r w : Bool) (tail : Option ScopeRule) (f : RangeFault) → first n s r w ≡ Some f
    → first_of x (by false n s r w tail) ≡ Some (fault_at x.place f)
flaw_first x true s r w tail f e = ap (λ o. Some (fault_at x.place (some_is f o))) e
flaw_first x false true r w tail f e = ap (λ o. Some (fault_at x.place (some_is f o))) e
flaw_first x false false true w tail f e = ap (λ o. Some (fault_at x.place (some_is f o))) e
flaw_first x false false false true tail f e = ap (λ o. Some (fault_at x.place (some_is f o))) e
flaw_first x false false false false tail f e = cc

none_first : (x : Standing) (n s r w : Bool) (tail : Option ScopeRule) → first n s r w ≡ None → first_of x (by false n s r w tail) ≡ first_of x tail
none_first x true s r w tail e = cc
none_first x false true r w tail e = cc
none_first x false false true w tail e = cc
none_first x false false false true tail e = cc
none_first x false false false false tail e = refl

abbrev pub NotTwice : List Module → Standing → Type 0
NotTwice design x = refuses design x duplicate ≡ false

-- the first flaw is the fault
pub flawed : (design : List Module) (x : Standing) (f : RangeFault) → NotTwice design x → first_flaw (flaws_at x) ≡ Some f
    → refusal_at design x ≡ Some (fault_at x.place f)
flawed design x f d e =
    let w = flaws_at x in
    ap (λ b. first_of x (by b w.name w.select w.range w.wide (found_later design x))) d
    ∙ flaw_first x w.name w.select w.range w.wide (found_later design x) f e

-- where there is no flaw a later rule counts
pub unflawed : (design : List Module) (x : Standing) → NotTwice design x → first_flaw (flaws_at x) ≡ None
    → refusal_at design x ≡ first_of x (found_later design x)
unflawed design x d e =
    let w = flaws_at x in
    ap (λ b. first_of x (by b w.name w.select w.range w.wide (found_later design x))) d
    ∙ none_first x w.name w.select w.range w.wide (found_later design x) e

pub refused : (design : List Module) (x : Standing) (f : RangeFault) → NotTwice design x → IsFlaw (flaws_at x) f
    → IsRefusal (refusal_at design x) (fault_at x.place f)
refused design x range.NoMemory d h = tt
refused design x range.NotConstant d h = flawed design x range.NotConstant d h
refused design x range.BadSelect d h = flawed design x range.BadSelect d h
refused design x range.BadRange d h = flawed design x range.BadRange d h
refused design x range.WidthPast128 d h = flawed design x range.WidthPast128 d h

-- a place that no later rule and no limit can refuse
pub judges : {A : Type 0} (P : A → Type 0) (design : List Module) (x : Standing) (r : Result A RangeFault) → NotTwice design x
    → found_later design x ≡ None → has_large_memory x ≡ false → Finds P (flaws_at x) r → Judges P (refusal_at design x) (at_place x.place r)
judges P design x (Ok a) d l m h =
    (unflawed design x d h.0 ∙ ap (first_of x) l ∙ ap memory_fault m, h.1)
judges P design x (Err f) d l m h = refused design x f d h

-- one whose memories may be too large
pub judges-limited : (design : List Module) (x : Standing) (r : Result Bool RangeFault) → NotTwice design x → found_later design x ≡ None
    → Finds (λ large. large ≡ has_large_memory x) (flaws_at x) r → Judges Nothing (refusal_at design x) (limited (at_place x.place r))
judges-limited design x (Ok true) d l h = unflawed design x d h.0 ∙ ap (first_of x) l ∙ ap memory_fault (sym h.1)
judges-limited design x (Ok false) d l h = (unflawed design x d h.0 ∙ ap (first_of x) l ∙ ap memory_fault (sym h.1), tt)
judges-limited design x (Err f) d l h = passes f (refused design x f d h)
  where
    passes : (f : RangeFault) → IsRefusal (refusal_at design x) (fault_at x.place f) → Judges Nothing (refusal_at design x) (limited (Err (fault_at x.place f)))
    passes f h = h

-- one whose loop may have another name
pub or_false : (a : Bool) → (a || false) ≡ a
or_false true = refl
or_false false = refl

abbrev with_later : Standing → Bool → Option ElabFault
with_later x b = first_of x (cond b (Some bad_genvar) None)

pub judges-checked : (P : ℤ → Type 0) (design : List Module) (x : Standing) (r : Result ℤ RangeFault) (is_bad : Bool) → NotTwice design x
    → refuses design x bad_genvar ≡ is_bad → find (refuses design x) (unknown_module ∷ bad_override ∷ recursive ∷ []) ≡ None → has_large_memory x ≡ false
    → Finds P (flaws_at x) r → Judges P (refusal_at design x) (checked x.place (at_place x.place r) is_bad)
judges-checked P design x (Ok n) true d g l m h =
    unflawed design x d h.0 ∙ ap (λ b. first_of x (cond b (Some bad_genvar) (find (refuses design x) (unknown_module ∷ bad_override ∷ recursive ∷ [])))) g
judges-checked P design x (Ok n) false d g l m h = (
  unflawed design x d h.0 ∙ ap (λ b. first_of x (cond b (Some bad_genvar) (find (refuses design x) (unknown_module ∷ bad_override ∷ recursive ∷ [])))) g
      ∙ ap (first_of x) l ∙ ap memory_fault m,
  h.1,
)
judges-checked P design x (Err f) is_bad d g l m h = refused design x f d h

-- what is stored at a place that nothing refuses
pub stored : {A : Type 0} (P : A → Type 0) (refused : Option ElabFault) (r : Result A ElabFault) → refused ≡ None → IsStored P r → Judges P refused r
stored P refused (Ok a) e h = (e, h)
stored P refused (Err f) e h = subst (IsRefusal refused) (sym h) tt
