-- The integers that the code finds are the loop variables of the walk.
use Rattle.std.proofs.Common.{◌≡◌, ◌∙◌, sym, ap, refl, subst, ℕ, Bool, true, false, ◌||◌, ◌&&◌, cond, List, [], ◌∷◌, Option, Some, None}
use Rattle.std.specs.List.{list_any, filter, AllZip}
use Rattle.vlog_tree.specs.declared.item.Item.{Item}
use Rattle.vlog_tree.specs.Trees.{layer}
use Rattle.scope_meaning.specs.Declared.{DeclaredAs}
use Rattle.scope_meaning.specs.Declared as form
use Rattle.scope_meaning.specs.Scope.{Here, At, frames, Meant, a_constant, a_genvar, a_variable, no_value, meaning_of}
use Rattle.scope_meaning.specs.Visits.{Visits, Visit, enters, sees, connects, has_constant, has_row, a_port, an_item, a_turn}
use Rattle.flat_source_meaning.specs.Environments.{is_variable}
use Rattle.flat_source_meaning.specs.Variables.{is_integer, means_integer, names_of_loops, loops_over, is_loop_variable}
use Rattle.scope_table.specs.declared.table.ScopeTable.{ScopeTable}
use Rattle.flat_declared.specs.Kinds.{kind_seen}
use Rattle.flat_scopes.specs.declared.scope.NameMeaning.{NameMeaning}
use Rattle.flat_scopes.specs.declared.scope.NameMeaning.TheVariants as means
use Rattle.flat_scopes.specs.declared.scope.SeenScope.{SeenScope}
use Rattle.flat_scopes.specs.Frames.{Means}
use Rattle.flat_scopes.specs.Meanings.{meaning_by}
use Rattle.flat_scopes.proofs.Places.{means_at}
use Rattle.flat_names.proofs.Standing.{NamedAs, meant_named}
use Rattle.flat_spots.specs.declared.spot.Spot.{Spot}
use Rattle.flat_spots.specs.declared.spot.Spot.TheVariants as spot
use Rattle.flat_spots.specs.Spots.{is_spot, IsSpotOf, AreSpotsOf}
use Rattle.flat_reach.specs.Reach.{has}
use Rattle.flat_loop_variables.specs.Turned.{is_integer_seen, means_integer_by, means_integer_at, turns_over, AreLoopVariables}

-- ---- tests over lists

any_same : {X : Type 0} (f g : X → Bool) (xs : List X) → ((x : X) → f x ≡ g x) → list_any f xs ≡ list_any g xs
any_same f g [] h = refl
any_same f g (x ∷ xs) h = ap (λ b. b || list_any f xs) (h x) ∙ ap (λ b. g x || b) (any_same f g xs h)

any_zip : {X Y : Type 0} (R : X → Y → Type 0) (f : X → Bool) (g : Y → Bool) (xs : List X) (ys : List Y) → ((x : X) (y : Y) → R x y → f x ≡ g y)
    → AllZip R xs ys → list_any f xs ≡ list_any g ys
any_zip R f g [] [] h all = refl
any_zip R f g [] (y ∷ ys) h all = absurd all
any_zip R f g (x ∷ xs) [] h all = absurd all
any_zip R f g (x ∷ xs) (y ∷ ys) h all = ap (λ b. b || list_any f xs) (h x y all.0) ∙ ap (λ b. g y || b) (any_zip R f g xs ys h all.1)

any_kept : {X : Type 0} (f p : X → Bool) (xs : List X) → ((x : X) → p x ≡ false → f x ≡ false) → list_any f (filter p xs) ≡ list_any f xs
any_kept f p [] h = refl
any_kept {X} f p (x ∷ xs) h = by (any_kept f p xs h) (p x) refl
  where
    by : list_any f (filter p xs) ≡ list_any f xs → (b : Bool) → p x ≡ b → list_any f (cond b (x ∷ filter p xs) (filter p xs)) ≡ (f x || list_any f xs)
    by rest true e = ap (λ b. f x || b) rest
    by rest false e = rest ∙ sym (ap (λ b. b || list_any f xs) (h x e))

-- ---- what a name means

same_kind : (k : DeclaredAs) → is_integer k ≡ is_integer_seen (kind_seen k)
same_kind form.input = refl
same_kind form.output_wire = refl
same_kind form.output_reg = refl
same_kind form.wire = refl
same_kind form.reg = refl
same_kind form.integer = refl
same_kind form.constant = refl
same_kind form.genvar = refl
same_kind form.scope_name = refl

and_swapped : (a b : Bool) → (a && b) ≡ (b && a)
and_swapped true true = refl
and_swapped true false = refl
and_swapped false true = refl
and_swapped false false = refl

same_meaning : (s : ℕ) (n name : List ℕ) (m : Option Meant) (c : Option NameMeaning) → NamedAs name m → Means m c
    → means_integer s n m ≡ means_integer_by s n name c
same_meaning s n name None None named h = refl
same_meaning s n name None (Some (means.Constant v)) named h = absurd h
same_meaning s n name None (Some means.Genvar) named h = absurd h
same_meaning s n name None (Some (means.Variable k d)) named h = absurd h
same_meaning s n name None (Some means.NoValue) named h = absurd h
same_meaning s n name (Some (a_constant x)) None named h = absurd h
same_meaning s n name (Some (a_constant x)) (Some (means.Constant v)) named h = refl
same_meaning s n name (Some (a_constant x)) (Some means.Genvar) named h = absurd h
same_meaning s n name (Some (a_constant x)) (Some (means.Variable k d)) named h = absurd h
same_meaning s n name (Some (a_constant x)) (Some means.NoValue) named h = absurd h
same_meaning s n name (Some a_genvar) None named h = absurd h
same_meaning s n name (Some a_genvar) (Some (means.Constant v)) named h = absurd h
same_meaning s n name (Some a_genvar) (Some means.Genvar) named h = refl
same_meaning s n name (Some a_genvar) (Some (means.Variable k d)) named h = absurd h
same_meaning s n name (Some a_genvar) (Some means.NoValue) named h = absurd h
same_meaning s n name (Some no_value) None named h = absurd h
same_meaning s n name (Some no_value) (Some (means.Constant v)) named h = absurd h
same_meaning s n name (Some no_value) (Some means.Genvar) named h = absurd h
same_meaning s n name (Some no_value) (Some (means.Variable k d)) named h = absurd h
same_meaning s n name (Some no_value) (Some means.NoValue) named h = refl
same_meaning s n name (Some (a_variable i x)) None named h = absurd h
same_meaning s n name (Some (a_variable i x)) (Some (means.Constant v)) named h = absurd h
same_meaning s n name (Some (a_variable i x)) (Some means.Genvar) named h = absurd h
same_meaning s n name (Some (a_variable i x)) (Some means.NoValue) named h = absurd h
same_meaning s n name (Some (a_variable i x)) (Some (means.Variable k d)) named h =
    and_swapped (is_variable s n i x.name) (is_integer x.kind)
    ∙ ap (λ b. b && is_variable s n i x.name) (same_kind x.kind ∙ ap is_integer_seen (sym h.1))
    ∙ ap (λ (m : List ℕ). is_integer_seen d && is_variable s n i m) named
    ∙ ap (λ (j : ℕ). is_integer_seen d && is_variable s n j name) (sym h.0)

-- ---- spots

same_spot : (scopes : List SeenScope) (s : ℕ) (n : List ℕ) (v : Visit) (x : Spot) → IsSpotOf scopes v x → loops_over s n v ≡ turns_over scopes s n x
same_spot scopes s n (enters e) (spot.Port at p) is = absurd is
same_spot scopes s n (enters e) (spot.Item at item) is = absurd is
same_spot scopes s n (enters e) (spot.Instance at place makes of ports) is = absurd is
same_spot scopes s n (has_constant k c) (spot.Port at p) is = absurd is
same_spot scopes s n (has_constant k c) (spot.Item at item) is = absurd is
same_spot scopes s n (has_constant k c) (spot.Instance at place makes of ports) is = absurd is
same_spot scopes s n (has_row k i o) (spot.Port at p) is = absurd is
same_spot scopes s n (has_row k i o) (spot.Item at item) is = absurd is
same_spot scopes s n (has_row k i o) (spot.Instance at place makes of ports) is = absurd is
same_spot scopes s n (sees (a_turn pl names e)) (spot.Port at p) is = absurd is
same_spot scopes s n (sees (a_turn pl names e)) (spot.Item at item) is = absurd is
same_spot scopes s n (sees (a_turn pl names e)) (spot.Instance at place makes of ports) is = absurd is
same_spot scopes s n (sees (a_port here pl q)) (spot.Port at p) is = refl
same_spot scopes s n (sees (a_port here pl q)) (spot.Item at item) is = absurd is
same_spot scopes s n (sees (a_port here pl q)) (spot.Instance at place makes of ports) is = absurd is
same_spot scopes s n (connects m) (spot.Port at p) is = absurd is
same_spot scopes s n (connects m) (spot.Item at item) is = absurd is
same_spot scopes s n (connects m) (spot.Instance at place makes of ports) is = refl
same_spot scopes s n (sees (an_item here pl a)) (spot.Port at p) is = absurd is
same_spot scopes s n (sees (an_item here pl a)) (spot.Instance at place makes of ports) is = absurd is
same_spot scopes s n (sees (an_item here pl a)) (spot.Item at item) is =
    any_same (λ m. means_integer s n (meaning_of (frames here pl) m)) (means_integer_at scopes at s n) (names_of_loops (layer a))
    (λ m. same_meaning s n m (meaning_of (frames here pl) m) (meaning_by scopes at m) (meant_named (frames here pl) m) (means_at scopes at m _ refl is.0.seen))
    ∙ ap (λ (x : Item). list_any (means_integer_at scopes at s n) (names_of_loops (layer x))) (sym is.1)

no_spot : (s : ℕ) (n : List ℕ) (v : Visit) → is_spot v ≡ false → loops_over s n v ≡ false
no_spot s n (enters e) h = refl
no_spot s n (has_constant k c) h = refl
no_spot s n (has_row k i o) h = refl
no_spot s n (sees (a_turn pl names e)) h = refl
no_spot s n (sees (a_port here pl q)) h = cc
no_spot s n (sees (an_item here pl a)) h = cc
no_spot s n (connects m) h = cc

pub are_loop_variables : (scopes : List SeenScope) (vs : Visits) (spots : List Spot) (table : ScopeTable Unit) → AreSpotsOf scopes vs spots
    → ((s : ℕ) (n : List ℕ) → has table s n ≡ list_any (turns_over scopes s n) spots) → AreLoopVariables vs table
are_loop_variables scopes vs spots table are h = λ s n.
    h s n
    ∙ sym (any_zip (IsSpotOf scopes) (loops_over s n) (turns_over scopes s n) (filter is_spot vs) spots (same_spot scopes s n) are)
    ∙ any_kept (loops_over s n) is_spot vs (no_spot s n)
