-- The rows of a tree are those of the scopes of a walk.
use Rattle.std.proofs.Common.{◌≡◌, ◌∙◌, ap, sym, refl, subst, ℕ, suc, ◌+◌, ◌≤◌, Bool, true, false, List, [], ◌∷◌}
use Rattle.std.proofs.Common.{◌++◌, map, length, Option, Some, None, arith, length-append}
use Rattle.std.specs.Prelude.{slice_get}
use Rattle.std.specs.List.{filter, filter_map, AllZip}
use Rattle.std.proofs.lemmas.List.{map-append}
use Rattle.vlog_tree.specs.declared.module.Module.{Module}
use Rattle.vlog_tree.specs.Trees.{option_list}
use Rattle.elab_types.specs.declared.scope.Constant.{Constant as ConstantRow}
use Rattle.elab_types.specs.declared.scope.Scope.{Scope}
use Rattle.elab_types.specs.declared.scope.ScopeItem.{ScopeItem}
use Rattle.scope_meaning.specs.Constants.{Constant}
use Rattle.scope_meaning.specs.ScopeTrees.{entry_of, constant_of, row_of, constants_in, seen_constant, text_of, IsScopeRow}
use Rattle.scope_meaning.specs.Visits.{Visit, Visits, Entry, enters, sees, connects, has_constant, has_row}
use Rattle.row_lists.specs.Lists.{list_at}
use Rattle.walk_state.specs.declared.record.Entered.{Entered}
use Rattle.walk_state.specs.Records.{entry_seen, is_recorded}
use Rattle.scope_rows.specs.declared.gathered.Gathered.{Gathered}
use Rattle.scope_rows.specs.declared.text.TextedScope.{TextedScope}
use Rattle.scope_rows.specs.Gathered.{AreNumbered, IsGathered}
use Rattle.scope_rows.specs.Rows.{texted, row, rows_from}
use Rattle.scope_rows.proofs.Gathering.{picked}

-- ---- what is not recorded has no part in the tree

recorded : {B : Type 0} (f : Visit → Option B) → ((v : Visit) → is_recorded v ≡ false → f v ≡ None) → (vs : Visits)
    → filter_map f vs ≡ filter_map f (filter is_recorded vs)
recorded {B} f none [] = refl
recorded {B} f none (v ∷ vs) = by v (recorded f none vs)
  where
    out : (w : Visit) → is_recorded w ≡ false → filter_map f vs ≡ filter_map f (filter is_recorded vs)
        → filter_map f (w ∷ vs) ≡ filter_map f (filter is_recorded vs)
    out w e h = picked f w vs ∙ ap (λ (o : Option B). option_list o ++ filter_map f vs) (none w e) ∙ h

    kept : (w : Visit) → filter_map f vs ≡ filter_map f (filter is_recorded vs)
        → filter_map f (w ∷ vs) ≡ filter_map f (w ∷ filter is_recorded vs)
    kept w h = picked f w vs ∙ ap (λ (bs : List B). option_list (f w) ++ bs) h ∙ sym (picked f w (filter is_recorded vs))

    by : (w : Visit) → filter_map f vs ≡ filter_map f (filter is_recorded vs) → filter_map f (w ∷ vs) ≡ filter_map f (filter is_recorded (w ∷ vs))
    by (sees spot) h = out (sees spot) refl h
    by (connects making) h = out (connects making) refl h
    by (enters e) h = kept (enters e) h
    by (has_constant n c) h = kept (has_constant n c) h
    by (has_row n item inner) h = kept (has_row n item inner) h

no_entry : (v : Visit) → is_recorded v ≡ false → entry_of v ≡ None
no_entry (sees spot) e = refl
no_entry (connects making) e = refl
no_entry (enters x) e = cc
no_entry (has_constant n c) e = cc
no_entry (has_row n item inner) e = cc

no_constant : (k : ℕ) (v : Visit) → is_recorded v ≡ false → constant_of k v ≡ None
no_constant k (sees spot) e = refl
no_constant k (connects making) e = refl
no_constant k (enters x) e = cc
no_constant k (has_constant n c) e = cc
no_constant k (has_row n item inner) e = cc

no_row : (k : ℕ) (v : Visit) → is_recorded v ≡ false → row_of k v ≡ None
no_row k (sees spot) e = refl
no_row k (connects making) e = refl
no_row k (enters x) e = cc
no_row k (has_constant n c) e = cc
no_row k (has_row n item inner) e = cc

-- What is gathered of what is recorded is gathered of all.
pub of_all : (vs rs : Visits) (g : Gathered) → filter is_recorded vs ≡ rs → IsGathered rs g → IsGathered vs g
of_all vs rs g e h = record {
  entries = h.entries ∙ ap (filter_map entry_of) (sym e) ∙ sym (recorded entry_of no_entry vs);
  numbers = h.numbers;
  constants_of_each = h.constants_of_each;
  items_of_each = h.items_of_each;
  constants = λ k. h.constants k ∙ ap (filter_map (constant_of k)) (sym e) ∙ sym (recorded (constant_of k) (no_constant k) vs);
  items = λ k. h.items k ∙ ap (filter_map (row_of k)) (sym e) ∙ sym (recorded (row_of k) (no_row k) vs);
}

-- ---- the rows

pub rows-end : (constants : List (List ConstantRow)) (items : List (List ScopeItem)) (n : ℕ) → rows_from constants items n [] ≡ []
unfolding rows_from
rows-end constants items n = refl

rows-more : (constants : List (List ConstantRow)) (items : List (List ScopeItem)) (n : ℕ) (s : TextedScope) (ss : List TextedScope)
    → rows_from constants items n (s ∷ ss) ≡ row (list_at constants n) (list_at items n) s ∷ rows_from constants items (n + 1) ss
unfolding rows_from
rows-more constants items n s ss = refl

-- one scope more
pub rows-put : (constants : List (List ConstantRow)) (items : List (List ScopeItem)) (n : ℕ) (ss : List TextedScope) (s : TextedScope)
    → rows_from constants items n (ss ++ s ∷ [])
    ≡ rows_from constants items n ss ++ row (list_at constants (n + length ss)) (list_at items (n + length ss)) s ∷ []
rows-put constants items n [] s =
    rows-more constants items n s [] ∙ ap (λ (rows : List Scope). row (list_at constants n) (list_at items n) s ∷ rows) (rows-end constants items (n + 1))
    ∙ ap (λ k. row (list_at constants k) (list_at items k) s ∷ []) (omega arith)
    ∙ ap (λ (rows : List Scope). rows ++ row (list_at constants (n + 0)) (list_at items (n + 0)) s ∷ []) (sym (rows-end constants items n))
rows-put constants items n (x ∷ ss) s =
    rows-more constants items n x (ss ++ s ∷ [])
    ∙ ap (λ (rows : List Scope). row (list_at constants n) (list_at items n) x ∷ rows) (rows-put constants items (n + 1) ss s)
    ∙ ap (λ k. (row (list_at constants n) (list_at items n) x ∷ rows_from constants items (n + 1) ss) ++ row (list_at constants k) (list_at items k) s ∷
    []) (omega arith)
    ∙ ap (λ (rows : List Scope). rows ++ row (list_at constants (n + length (x ∷ ss))) (list_at items (n + length (x ∷ ss))) s ∷ [])
    (sym (rows-more constants items n x ss))

pub rows-length : (constants : List (List ConstantRow)) (items : List (List ScopeItem)) (n : ℕ) (ss : List TextedScope)
    → length (rows_from constants items n ss) ≡ length ss
rows-length constants items n [] = ap length (rows-end constants items n)
rows-length constants items n (s ∷ ss) = ap length (rows-more constants items n s ss) ∙ ap suc (rows-length constants items (n + 1) ss)

-- The scope of the next number is put behind those before it,
pub scope_put : (constants left : List (List ConstantRow)) (items rest : List (List ScopeItem)) (ss : List TextedScope) (s : TextedScope) (n : ℕ)
    (rows more : List Scope) (cs : List ConstantRow) (is : List ScopeItem)
    → rows ≡ rows_from constants items 0 ss → n ≡ length rows → cs ≡ list_at left n → is ≡ list_at rest n
    → ((k : ℕ) → length ss ≤ k → list_at left k ≡ list_at constants k) → ((k : ℕ) → length ss ≤ k → list_at rest k ≡ list_at items k)
    → more ≡ rows ++ row cs is s ∷ [] → more ≡ rows_from constants items 0 (ss ++ s ∷ [])
scope_put constants left items rest ss s n rows more cs is made number taken took same alike put =
    let at : n ≡ length ss = number ∙ ap length made ∙ rows-length constants items 0 ss in
    let behind : length ss ≤ n = omega (arith, at) in
    let place : n ≡ 0 + length ss = omega (arith, at) in
    put ∙ ap (λ (rs : List Scope). rs ++ row cs is s ∷ []) made
    ∙ ap (λ (l : List ConstantRow). rows_from constants items 0 ss ++ row l is s ∷ [])
    (taken ∙ same n behind ∙ ap (list_at constants) place)
    ∙ ap (λ (l : List ScopeItem). rows_from constants items 0 ss ++ row (list_at constants (0 + length ss)) l s ∷ [])
    (took ∙ alike n behind ∙ ap (list_at items) place)
    ∙ sym (rows-put constants items 0 ss s)

-- and the lists of the others are still there.
pub still : {A : Type 0} (all left now : List (List A)) (ss : List TextedScope) (s : TextedScope) (n : ℕ) → n ≡ length ss
    → ((k : ℕ) → length ss ≤ k → list_at left k ≡ list_at all k) → ((k : ℕ) → (k ≡ n → ⊥) → list_at now k ≡ list_at left k)
    → (k : ℕ) → length (ss ++ s ∷ []) ≤ k → list_at now k ≡ list_at all k
still all left now ss s n at same others k lt =
    let long = length-append ss (s ∷ []) in
    let further : k ≡ n → ⊥ = λ is. omega (arith, is, at, lt, long) in
    let behind : length ss ≤ k = omega (arith, lt, long) in
    others k further ∙ same k behind

zipped : (design : List Module) (vs : Visits) (g : Gathered) → IsGathered vs g → (n : ℕ) (es : List Entered) → AreNumbered n es
    → AllZip (IsScopeRow design vs) (map entry_seen es) (rows_from g.constants g.items n (map (texted design g.constants) es))
zipped design vs g h n [] are = subst (λ (rows : List Scope). AllZip (IsScopeRow design vs) [] rows) (sym (rows-end g.constants g.items n)) tt
zipped design vs g h n (e ∷ es) are =
    subst (λ (rows : List Scope). AllZip (IsScopeRow design vs) (entry_seen e ∷ map entry_seen es) rows)
    (sym (rows-more g.constants g.items n (texted design g.constants e) (map (texted design g.constants) es))) (
      record {
        path = refl;
        its_module = refl;
        text = ap (text_of (slice_get design e.in_module)) (h.constants e.home);
        parent = refl;
        constants = h.constants n ∙ ap (λ k. constants_in k vs) (sym are.0);
        items = h.items n ∙ ap (λ k. filter_map (row_of k) vs) (sym are.0);
      },
      zipped design vs g h (n + 1) es are.1,
    )

-- One scope more has its text.
pub text_put : (design : List Module) (constants : List (List ConstantRow)) (es : List Entered) (e : Entered) (rows more : List TextedScope)
    (text : List ℕ) (home : List ConstantRow)
    → rows ≡ map (texted design constants) es → home ≡ list_at constants e.home
    → text ≡ text_of (slice_get design e.in_module) (map seen_constant home) → more ≡ rows ++ record { entered = e; text = text } ∷ []
    → more ≡ map (texted design constants) (es ++ e ∷ [])
text_put design constants es e rows more text home made its is put =
    put ∙ ap (λ (rs : List TextedScope). rs ++ record { entered = e; text = text } ∷ []) made
    ∙ ap (λ (t : List ℕ). map (texted design constants) es ++ record { entered = e; text = t } ∷ [])
    (is ∙ ap (λ (cs : List ConstantRow). text_of (slice_get design e.in_module) (map seen_constant cs)) its)
    ∙ sym (map-append (texted design constants) es (e ∷ []))

-- The rows are those of the scopes that are gathered.
pub tree_rows : (design : List Module) (vs : Visits) (g : Gathered) (scopes : List TextedScope) (rows : List Scope) → IsGathered vs g
    → scopes ≡ map (texted design g.constants) g.entered → rows ≡ rows_from g.constants g.items 0 scopes
    → AllZip (IsScopeRow design vs) (filter_map entry_of vs) rows
tree_rows design vs g scopes rows h texts made =
    subst (λ (es : List Entry). AllZip (IsScopeRow design vs) es rows) h.entries
    (subst (λ (rs : List Scope). AllZip (IsScopeRow design vs) (map entry_seen g.entered) rs)
    (sym (made ∙ ap (rows_from g.constants g.items 0) texts)) (zipped design vs g h 0 g.entered h.numbers))
