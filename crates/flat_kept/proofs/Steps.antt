-- More variables, spot by spot.
use Rattle.std.proofs.Common.{◌≡◌, ◌∙◌, sym, ap, refl, subst, ℕ, ◌+◌, ◌<◌, ◌≤◌, Bool, true, false, ◌&&◌, not, cond, List, [], ◌∷◌, ◌++◌, length, take, get_or}
use Rattle.std.specs.List.{filter, flat_map, AllZip}
use Rattle.std.proofs.lemmas.List.{take_more, take_all, append_assoc, append-nil}
use Rattle.std.proofs.lemmas.List.Concat.{flat_map-append}
use Rattle.std.proofs.lemmas.List.Elements.{filter-append}
use Rattle.elab_types.specs.declared.flat_source.FlatVar.{FlatVar}
use Rattle.scope_meaning.specs.Visits.{Visits, Visit, enters, sees, connects, has_constant, has_row, a_port, an_item, a_turn}
use Rattle.flat_source_meaning.specs.Clocks.{IsClock, Keeps, none, keep, leave}
use Rattle.flat_source_meaning.specs.Variables.{variables_at, is_loop_variable, IsKept, AreVariables}
use Rattle.scope_table.specs.declared.table.ScopeTable.{ScopeTable}
use Rattle.flat_reach.specs.Reach.{has}
use Rattle.flat_scopes.specs.declared.scope.SeenScope.{SeenScope}
use Rattle.flat_spots.specs.declared.spot.Spot.{Spot}
use Rattle.flat_spots.specs.Spots.{is_spot, IsSpotOf, AreSpotsOf}
use Rattle.flat_clocks.specs.Handings.{AreClocks}
use Rattle.flat_loop_variables.specs.Turned.{AreLoopVariables}
use Rattle.flat_kept.specs.declared.kept.KeptVariables.{KeptVariables}
use Rattle.flat_kept.specs.Kept.{is_kept, AreNumbered, AreKept, IsMore, IsEmpty}
use Rattle.flat_kept.proofs.Numbers.{none_numbered}

pub no_more : (kept : KeptVariables) → IsMore [] kept kept
no_more kept = record { vars = sym (append-nil kept.vars); numbers = λ h. h }

pub none_of : (xs : List FlatVar) (kept : KeptVariables) → xs ≡ [] → IsMore xs kept kept
none_of xs kept is = subst (λ (ys : List FlatVar). IsMore ys kept kept) (sym is) (no_more kept)

pub more_and_more : (xs ys : List FlatVar) (old mid new : KeptVariables) → IsMore xs old mid → IsMore ys mid new → IsMore (xs ++ ys) old new
more_and_more xs ys old mid new a b = record {
  vars = b.vars ∙ ap (λ (vs : List FlatVar). vs ++ ys) a.vars ∙ append_assoc old.vars xs ys;
  numbers = λ h. b.numbers (a.numbers h);
}

-- ---- one variable

kept_one : (p : FlatVar → Bool) (x : FlatVar) → p x ≡ true → filter p (x ∷ []) ≡ x ∷ []
kept_one p x h = ap (λ b. cond b (x ∷ []) []) h

left_one : (p : FlatVar → Bool) (x : FlatVar) → p x ≡ false → filter p (x ∷ []) ≡ []
left_one p x h = ap (λ b. cond b (x ∷ []) []) h

pub is_clock : (clocks loops : ScopeTable Unit) (x : FlatVar) (kept : KeptVariables) (name : List ℕ) (b : Bool) → name ≡ x.name
    → b ≡ has clocks x.scope name → b ≡ true → IsMore (filter (is_kept clocks loops) (x ∷ [])) kept kept
is_clock clocks loops x kept name b named is h =
    none_of _ kept (left_one (is_kept clocks loops) x
    (ap (λ c. not c && not (has loops x.scope x.name)) (sym (ap (has clocks x.scope) named) ∙ sym is ∙ h)))

pub is_loop : (clocks loops : ScopeTable Unit) (x : FlatVar) (kept : KeptVariables) (name : List ℕ) (b : Bool) → name ≡ x.name
    → b ≡ has loops x.scope name → b ≡ true → IsMore (filter (is_kept clocks loops) (x ∷ [])) kept kept
is_loop clocks loops x kept name b named is h =
    none_of _ kept (left_one (is_kept clocks loops) x
    (ap (λ c. not (has clocks x.scope x.name) && not c) (sym (ap (has loops x.scope) named) ∙ sym is ∙ h) ∙ last (not (has clocks x.scope x.name))))
  where
    last : (b : Bool) → (b && false) ≡ false
    last true = refl
    last false = refl

pub is_variable : (clocks loops : ScopeTable Unit) (x : FlatVar) (old new : KeptVariables) (one other : List ℕ) (b c : Bool) → one ≡ x.name → other ≡ x.name
    → b ≡ has clocks x.scope one → b ≡ false → c ≡ has loops x.scope other → c ≡ false → IsMore (x ∷ []) old new
    → IsMore (filter (is_kept clocks loops) (x ∷ [])) old new
is_variable clocks loops x old new one other b c n m is h js k more =
    subst (λ (ys : List FlatVar). IsMore ys old new) (sym (kept_one (is_kept clocks loops) x both)) more
  where
    both : is_kept clocks loops x ≡ true
    both =
        ap (λ c. not c && not (has loops x.scope x.name)) (sym (ap (has clocks x.scope) n) ∙ sym is ∙ h)
        ∙ ap (λ c. not c) (sym (ap (has loops x.scope) m) ∙ sym js ∙ k)

-- ---- some variables

pub one_more : (p : FlatVar → Bool) (done : List FlatVar) (x : FlatVar) (old mid new : KeptVariables) → IsMore (filter p done) old mid
    → IsMore (filter p (x ∷ [])) mid new → IsMore (filter p (done ++ x ∷ [])) old new
one_more p done x old mid new a b =
    subst (λ (ys : List FlatVar). IsMore ys old new) (sym (filter-append p done (x ∷ []))) (more_and_more (filter p done) (filter p (x ∷ [])) old mid new a b)

pub same_variables : (p : FlatVar → Bool) (xs ys : List FlatVar) (old new : KeptVariables) → xs ≡ ys → IsMore (filter p xs) old new → IsMore (filter p ys) old new
same_variables p xs ys old new e h = subst (λ (zs : List FlatVar). IsMore (filter p zs) old new) e h

-- ---- one spot more

record Split (R : Visit → Spot → Type 0) (xs : Visits) (ys : List Spot) (y : Spot) : Type 0 where
  front : Visits
  last : Visit
  is : xs ≡ front ++ last ∷ []
  zipped : AllZip R front ys
  at_last : R last y

split : (R : Visit → Spot → Type 0) (xs : Visits) (ys : List Spot) (y : Spot) → AllZip R xs (ys ++ y ∷ []) → Split R xs ys y
split R [] [] y h = absurd h
split R (x ∷ []) [] y h = record { front = []; last = x; is = refl; zipped = tt; at_last = h.0 }
split R (x ∷ z ∷ xs) [] y h = absurd h.1
split R [] (b ∷ ys) y h = absurd h
split R (x ∷ xs) (b ∷ ys) y h =
    let s = split R xs ys y h.1 in
    record { front = x ∷ s.front; last = s.last; is = ap (λ (vs : Visits). x ∷ vs) s.is; zipped = (h.0, s.zipped); at_last = s.at_last }

pub spot_more : (scopes : List SeenScope) (p : FlatVar → Bool) (spots : List Spot) (i : ℕ) (s : Spot) (old mid new : KeptVariables) → i < length spots
    → s ≡ get_or spots i s
    → ((us : Visits) → AllZip (IsSpotOf scopes) us (take i spots) → IsMore (filter p (flat_map variables_at us)) old mid)
    → ((v : Visit) → IsSpotOf scopes v s → IsMore (filter p (variables_at v)) mid new)
    → (us : Visits) → AllZip (IsSpotOf scopes) us (take (i + 1) spots) → IsMore (filter p (flat_map variables_at us)) old new
spot_more scopes p spots i s old mid new lt is before here us zip =
    subst (λ (ys : List FlatVar). IsMore ys old new) (sym same)
    (more_and_more (filter p (flat_map variables_at parts.front)) (filter p (variables_at parts.last)) old mid new (before parts.front parts.zipped)
    (here parts.last parts.at_last))
  where
    parts : Split (IsSpotOf scopes) us (take i spots) s
    parts =
        split (IsSpotOf scopes) us (take i spots) s
        (subst (AllZip (IsSpotOf scopes) us) (take_more spots i s lt ∙ ap (λ (y : Spot). take i spots ++ y ∷ []) (sym is)) zip)

    same : filter p (flat_map variables_at us) ≡ filter p (flat_map variables_at parts.front) ++ filter p (variables_at parts.last)
    same =
        ap (λ (vs : Visits). filter p (flat_map variables_at vs)) parts.is
        ∙ ap (filter p) (flat_map-append variables_at parts.front (parts.last ∷ []))
        ∙ ap (λ (ys : List FlatVar). filter p (flat_map variables_at parts.front ++ ys)) (append-nil (variables_at parts.last))
        ∙ filter-append p (flat_map variables_at parts.front) (variables_at parts.last)

pub spots_begin : (scopes : List SeenScope) (p : FlatVar → Bool) (kept : KeptVariables) (us : Visits) → AllZip (IsSpotOf scopes) us []
    → IsMore (filter p (flat_map variables_at us)) kept kept
spots_begin scopes p kept [] zip = no_more kept
spots_begin scopes p kept (u ∷ us) zip = absurd zip

-- ---- all of them

not_both : (a b : Bool) → (not a && not b) ≡ true → (a ≡ false) × (b ≡ false)
not_both true b h = cc
not_both false true h = cc
not_both false false h = (refl, refl)

keeps : (p : FlatVar → Bool) (P : FlatVar → Type 0) → ((x : FlatVar) → p x ≡ true → P x) → ((x : FlatVar) → p x ≡ false → P x → ⊥) → (xs : List FlatVar)
    → Keeps P xs (filter p xs)
keeps p P yes_it no_it [] = none
keeps p P yes_it no_it (x ∷ xs) = by (keeps p P yes_it no_it xs) (p x) refl
  where
    by : Keeps P xs (filter p xs) → (b : Bool) → p x ≡ b → Keeps P (x ∷ xs) (cond b (x ∷ filter p xs) (filter p xs))
    by rest true h = keep (yes_it x h) rest
    by rest false h = leave (no_it x h) rest

no_variables_at : (v : Visit) → is_spot v ≡ false → variables_at v ≡ []
no_variables_at (enters e) h = refl
no_variables_at (has_constant k c) h = refl
no_variables_at (has_row k i o) h = refl
no_variables_at (sees (a_turn pl names e)) h = refl
no_variables_at (sees (a_port here pl q)) h = cc
no_variables_at (sees (an_item here pl a)) h = cc
no_variables_at (connects m) h = cc

all_of_spots : (vs : Visits) → flat_map variables_at (filter is_spot vs) ≡ flat_map variables_at vs
all_of_spots [] = refl
all_of_spots (v ∷ vs) = by (all_of_spots vs) (is_spot v) refl
  where
    by : flat_map variables_at (filter is_spot vs) ≡ flat_map variables_at vs → (b : Bool) → is_spot v ≡ b
        → flat_map variables_at (cond b (v ∷ filter is_spot vs) (filter is_spot vs)) ≡ variables_at v ++ flat_map variables_at vs
    by rest true h = ap (λ (xs : List FlatVar). variables_at v ++ xs) rest
    by rest false h = rest ∙ ap (λ (xs : List FlatVar). xs ++ flat_map variables_at vs) (sym (no_variables_at v h))

pub all_kept : (scopes : List SeenScope) (clocks loops : ScopeTable Unit) (spots : List Spot) (i : ℕ) (first kept : KeptVariables) → length spots ≤ i
    → IsEmpty first
    → ((us : Visits) → AllZip (IsSpotOf scopes) us (take i spots) → IsMore (filter (is_kept clocks loops) (flat_map variables_at us)) first kept)
    → (vs : Visits) (clock : List ℕ) → AreSpotsOf scopes vs spots → AreClocks vs clock clocks → AreLoopVariables vs loops → AreKept vs clock kept
all_kept scopes clocks loops spots i first kept le empty more vs clock are are_clocks are_loops = record {
  vars = subst (AreVariables vs clock) (sym made) (keeps p (IsKept vs clock) kept_is left_is (flat_map variables_at vs));
  numbers = made_of.numbers (none_numbered first.numbers first.vars empty.vars empty.numbers);
}
  where
    p : FlatVar → Bool
    p = is_kept clocks loops

    made_of : IsMore (filter (is_kept clocks loops) (flat_map variables_at (filter is_spot vs))) first kept
    made_of = more (filter is_spot vs) (subst (AllZip (IsSpotOf scopes) (filter is_spot vs)) (sym (take_all i spots le)) are)

    made : kept.vars ≡ filter (is_kept clocks loops) (flat_map variables_at vs)
    made =
        made_of.vars ∙ ap (λ (xs : List FlatVar). xs ++ filter (is_kept clocks loops) (flat_map variables_at (filter is_spot vs))) empty.vars
        ∙ ap (filter (is_kept clocks loops)) (all_of_spots vs)

    kept_is : (x : FlatVar) → is_kept clocks loops x ≡ true → IsKept vs clock x
    kept_is x h =
        let b = not_both (has clocks x.scope x.name) (has loops x.scope x.name) h in
        ((λ c. let f : false ≡ true = sym b.0 ∙ (are_clocks x.scope x.name).1 c in cc), sym (are_loops x.scope x.name) ∙ b.1)

    left_is : (x : FlatVar) → is_kept clocks loops x ≡ false → IsKept vs clock x → ⊥
    left_is x h k = by (has clocks x.scope x.name) refl
      where
        loop_free : has loops x.scope x.name ≡ false
        loop_free = are_loops x.scope x.name ∙ k.1

        by : (b : Bool) → has clocks x.scope x.name ≡ b → ⊥
        by true e = k.0 ((are_clocks x.scope x.name).0 e)
        by false e =
            let f : true ≡ false =
            sym (ap (λ b. not b && not (has loops x.scope x.name)) e ∙ ap (λ b. not b) loop_free) ∙ h
            in cc
