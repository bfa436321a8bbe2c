-- What is gathered with one record more.
use Rattle.std.proofs.Common.{◌≡◌, ◌∙◌, ap, sym, refl, subst, ℕ, zero, suc, ◌+◌, ◌==◌, Bool, true, false, cond, List, [], ◌∷◌, ◌++◌, map, length, append-nil}
use Rattle.std.proofs.Common.{Option, Some, None, arith, length-append}
use Rattle.std.specs.List.{filter_map}
use Rattle.std.proofs.lemmas.List.{map-append}
use Rattle.std.proofs.lemmas.List.Elements.{filter_map-append}
use Rattle.elab_types.specs.declared.scope.Constant.{Constant as ConstantRow}
use Rattle.elab_types.specs.declared.scope.ScopeItem.{ScopeItem}
use Rattle.vlog_tree.specs.Trees.{option_list}
use Rattle.scope_meaning.specs.Constants.{Constant}
use Rattle.scope_meaning.specs.ScopeTrees.{entry_of, constant_of, row_of, constants_in, seen_constant}
use Rattle.scope_meaning.specs.Visits.{Visit, Visits, Entry, enters, has_constant, has_row}
use Rattle.row_lists.specs.Lists.{list_at}
use Rattle.walk_state.specs.declared.record.Entered.{Entered}
use Rattle.walk_state.specs.Records.{entry_seen}
use Rattle.scope_rows.specs.declared.gathered.Gathered.{Gathered}
use Rattle.scope_rows.specs.Gathered.{AreNumbered, IsGathered}

-- ---- what of a record is picked

pub picked : {A B : Type 0} (f : A → Option B) (x : A) (xs : List A) → filter_map f (x ∷ xs) ≡ option_list (f x) ++ filter_map f xs
picked {A} {B} f x xs = filter_map-append f (x ∷ []) xs ∙ ap (λ ys. ys ++ filter_map f xs) (by (f x) refl)
  where
    by : (o : Option B) → f x ≡ o → filter_map f (x ∷ []) ≡ option_list (f x)
    by None e = cc
    by (Some y) e = cc

if_that : (b : Bool) (c : Constant) (cs : List Constant) → option_list (cond b (Some c) None) ++ cond b cs [] ≡ cond b (c ∷ cs) []
if_that true c cs = refl
if_that false c cs = refl

none_of : (b : Bool) → [] ≡ cond {A = List Constant} b [] []
none_of true = refl
none_of false = refl

constants_put : (k n : ℕ) (cs : List Constant) → filter_map (constant_of k) (map (has_constant n) cs) ≡ cond (k == n) cs []
constants_put k n [] = none_of (k == n)
constants_put k n (c ∷ cs) =
    picked (constant_of k) (has_constant n c) (map (has_constant n) cs)
    ∙ ap (λ ds. option_list (cond (k == n) (Some c) None) ++ ds) (constants_put k n cs) ∙ if_that (k == n) c cs

no_row : (k n : ℕ) (cs : List Constant) → filter_map (row_of k) (map (has_constant n) cs) ≡ []
no_row k n [] = refl
no_row k n (c ∷ cs) = no_row k n cs

no_entry : (n : ℕ) (cs : List Constant) → filter_map entry_of (map (has_constant n) cs) ≡ []
no_entry n [] = refl
no_entry n (c ∷ cs) = no_entry n cs

one_row : (k n item : ℕ) (inner : Option ℕ) → filter_map (row_of k) (has_row n item inner ∷ []) ≡ cond (k == n) (record { item = item; scope = inner } ∷ []) []
one_row k n item inner = picked (row_of k) (has_row n item inner) [] ∙ by (k == n)
  where
    by : (b : Bool) → option_list {A = ScopeItem} (cond b (Some (record { item = item; scope = inner })) None) ++ [] ≡ cond b
        (record { item = item; scope = inner } ∷ []) []
    by true = refl
    by false = refl

-- where nothing of a record is picked
unpicked : {B : Type 0} (f : Visit → Option B) (vs ws : Visits) → filter_map f ws ≡ [] → filter_map f vs ≡ filter_map f (vs ++ ws)
unpicked f vs ws e = sym (append-nil (filter_map f vs)) ∙ ap (λ ys. filter_map f vs ++ ys) (sym e) ∙ sym (filter_map-append f vs ws)

-- ---- lists and numbers

list_after : {A : Type 0} (lists : List (List A)) (k : ℕ) → list_at (lists ++ [] ∷ []) k ≡ list_at lists k
list_after [] zero = refl
list_after [] (suc k) = refl
list_after (l ∷ ls) zero = refl
list_after (l ∷ ls) (suc k) = list_after ls k

numbered_more : (n : ℕ) (es : List Entered) (e : Entered) → AreNumbered n es → e.number ≡ n + length es → AreNumbered n (es ++ e ∷ [])
numbered_more n [] e h is = (is ∙ omega arith, tt)
numbered_more n (x ∷ es) e h is = (h.0, numbered_more (n + 1) es e h.1 (is ∙ omega arith))

longer : {A B : Type 0} (xs : List A) (ys : List B) (x : A) (y : B) → length xs ≡ length ys → length (xs ++ x ∷ []) ≡ length (ys ++ y ∷ [])
longer xs ys x y e = length-append xs (x ∷ []) ∙ ap (λ n. n + 1) e ∙ sym (length-append ys (y ∷ []))

-- ---- with one record more

pub entered : (vs : Visits) (old new : Gathered) (e : Entered) → new.entered ≡ old.entered ++ e ∷ [] → new.constants ≡ old.constants ++ [] ∷ []
    → new.items ≡ old.items ++ [] ∷ [] → e.number ≡ length old.entered → IsGathered vs old → IsGathered (vs ++ enters (entry_seen e) ∷ []) new
entered vs old new e added constants items number g = record {
  entries = ap (map entry_seen) added ∙ map-append entry_seen old.entered (e ∷ []) ∙ ap (λ (l : List Entry). l ++ entry_seen e ∷ []) g.entries
      ∙ sym (filter_map-append entry_of vs (enters (entry_seen e) ∷ []));
  numbers = subst (AreNumbered 0) (sym added) (numbered_more 0 old.entered e g.numbers (number ∙ omega arith));
  constants_of_each = ap length constants ∙ longer old.constants old.entered [] e g.constants_of_each ∙ sym (ap length added);
  items_of_each = ap length items ∙ longer old.items old.entered [] e g.items_of_each ∙ sym (ap length added);
  constants = λ k. ap (λ (l : List (List ConstantRow)). map seen_constant (list_at l k)) constants ∙ ap (map seen_constant) (list_after old.constants k)
      ∙ g.constants k ∙ unpicked (constant_of k) vs (enters (entry_seen e) ∷ []) refl;
  items = λ k. ap (λ (l : List (List ScopeItem)). list_at l k) items ∙ list_after old.items k
      ∙ g.items k ∙ unpicked (row_of k) vs (enters (entry_seen e) ∷ []) refl;
}

seen_if : (b : Bool) (cs : List ConstantRow) → map seen_constant (cond b cs []) ≡ cond b (map seen_constant cs) []
seen_if true cs = refl
seen_if false cs = refl

pub with_constants : (vs : Visits) (old new : Gathered) (n : ℕ) (cs : List ConstantRow) → new.entered ≡ old.entered → new.items ≡ old.items
    → length new.constants ≡ length old.constants
    → ((k : ℕ) → list_at new.constants k ≡ list_at old.constants k ++ cond (k == n) cs [])
    → IsGathered vs old → IsGathered (vs ++ map (has_constant n) (map seen_constant cs)) new
with_constants vs old new n cs same rows long put g =
    let more = map (has_constant n) (map seen_constant cs) in
    record {
      entries = ap (map entry_seen) same ∙ g.entries ∙ unpicked entry_of vs more (no_entry n (map seen_constant cs));
      numbers = subst (AreNumbered 0) (sym same) g.numbers;
      constants_of_each = long ∙ g.constants_of_each ∙ sym (ap length same);
      items_of_each = ap length rows ∙ g.items_of_each ∙ sym (ap length same);
      constants = λ k. ap (map seen_constant) (put k) ∙ map-append seen_constant (list_at old.constants k) (cond (k == n) cs [])
          ∙ ap (λ (l : List Constant). l ++ map seen_constant (cond (k == n) cs [])) (g.constants k)
          ∙ ap (λ (l : List Constant). constants_in k vs ++ l) (seen_if (k == n) cs ∙ sym (constants_put k n (map seen_constant cs)))
          ∙ sym (filter_map-append (constant_of k) vs more);
      items = λ k. ap (λ (l : List (List ScopeItem)). list_at l k) rows ∙ g.items k ∙ unpicked (row_of k) vs more (no_row k n (map seen_constant cs));
    }

pub with_item : (vs : Visits) (old new : Gathered) (n item : ℕ) (inner : Option ℕ) → new.entered ≡ old.entered → new.constants ≡ old.constants
    → length new.items ≡ length old.items
    → ((k : ℕ) → list_at new.items k ≡ list_at old.items k ++ cond (k == n) (record { item = item; scope = inner } ∷ []) [])
    → IsGathered vs old → IsGathered (vs ++ has_row n item inner ∷ []) new
with_item vs old new n item inner same constants long put g =
    let more : Visits = has_row n item inner ∷ [] in
    record {
      entries = ap (map entry_seen) same ∙ g.entries ∙ unpicked entry_of vs more refl;
      numbers = subst (AreNumbered 0) (sym same) g.numbers;
      constants_of_each = ap length constants ∙ g.constants_of_each ∙ sym (ap length same);
      items_of_each = long ∙ g.items_of_each ∙ sym (ap length same);
      constants = λ k. ap (λ (l : List (List ConstantRow)). map seen_constant (list_at l k)) constants ∙ g.constants k
          ∙ unpicked (constant_of k) vs more refl;
      items = λ k. put k ∙ ap (λ (l : List ScopeItem). l ++ cond (k == n) (record { item = item; scope = inner } ∷ []) []) (g.items k)
          ∙ ap (λ (l : List ScopeItem). filter_map (row_of k) vs ++ l) (sym (one_row k n item inner)) ∙ sym (filter_map-append (row_of k) vs more);
    }

pub nothing : (g : Gathered) → g.entered ≡ [] → g.constants ≡ [] → g.items ≡ [] → IsGathered [] g
nothing g e c i = record {
  entries = ap (map entry_seen) e;
  numbers = subst (AreNumbered 0) (sym e) tt;
  constants_of_each = ap length c ∙ sym (ap length e);
  items_of_each = ap length i ∙ sym (ap length e);
  constants = λ k. ap (λ (l : List (List ConstantRow)). map seen_constant (list_at l k)) c ∙ at_none k;
  items = λ k. ap (λ (l : List (List ScopeItem)). list_at l k) i ∙ none_at k;
}
  where
    none_at : (k : ℕ) → list_at {A = ScopeItem} [] k ≡ []
    none_at zero = refl
    none_at (suc k) = refl

    at_none : (k : ℕ) → map seen_constant (list_at [] k) ≡ []
    at_none zero = refl
    at_none (suc k) = refl
