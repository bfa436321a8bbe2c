use Rattle.std.proofs.Common.{
  ◌≡◌,
  ◌≤◌,
  ℕ,
  ◌+◌,
  Bool,
  true,
  false,
  List,
  [],
  ◌∷◌,
  ◌++◌,
  map,
  length,
  Option,
  None,
  Some,
  refl,
  sym,
  ap,
  subst,
  ◌∙◌,
  arith,
  cond,
  Ordering,
}
use Rattle.std.specs.Prelude.{nat_lt}
use Rattle.std.specs.declared.cmp.Ordering.TheVariants.{Less, Equal, Greater}
use Rattle.std.specs.List.{AllByRecursion, IsDistinct}
use Rattle.std.specs.Str.{bytes_eq}
use Rattle.std.specs.Ordering.{is_eq, nat_cmp}
use Rattle.std.specs.Cmp.Lexicographic.{slice_cmp, nat_list_cmp_total}
use Rattle.std.specs.FinMap.{entries, find, from_entries, put, entries-insert, get-entries, get-from_entries}
use Rattle.std.specs.FinMap.Entries.{by_order}
use Rattle.std.proofs.lemmas.Bool.{le-ltb, ltb-false}
use Rattle.std.proofs.lemmas.Map.Text.{is_eq-slice_cmp}
use Rattle.cov_port.specs.Sums.{total}
use Rattle.cov_types.specs.declared.limit.LimitName.TheVariants.{DataPoints, TotalKeyBytes}
use Rattle.cov_dat.specs.Merging.{Counts, added, first_keys, key_bytes, keys_of, limit_passed, merged, merged_count}
use Rattle.cov_dat.specs.DataText.{CountMap, count_map}
use Rattle.cov_dat.specs.KeyTable.{has_key, limit_at}
use Rattle.cov_dat.specs.Laws.{FilesInAnyOrder, LimitsInAnyOrder, LimitsStay, all_records}
use Rattle.cov_dat.specs.declared.record_list.Record.{Record}
use Rattle.cov_dat.proofs.FirstKeyLemmas.{first_keys-distinct}
use Rattle.cov_dat.proofs.LawLemmas.{adds_one_by_one}
use Rattle.cov_dat.proofs.MergingLemmas.{limit_passed-new, limit_passed-present}
use Rattle.cov_dat.proofs.SortLemmas.{entries-empty}

-- what the entries count together
abbrev sum_of : (List ℕ × ℕ → ℕ) → Counts → ℕ
sum_of f es = total (map f es)

-- the entries in byte order of keys
abbrev ordered : Counts → Counts
ordered es = entries {R = slice_cmp nat_cmp} (from_entries es)

-- a key that isn't found ties with no entry
absent_behind : (o : Ordering) (e : List ℕ × ℕ) (rest : Option ℕ) → o ≡ Greater → cond (is_eq o) (Some e.1) rest ≡ None → rest ≡ None
absent_behind Less e rest is none = absurd (cc)
absent_behind Equal e rest is none = absurd (cc)
absent_behind Greater e rest is none = none

never_tied : (o : Ordering) (n : ℕ) (rest : Option ℕ) → o ≡ Equal → cond (is_eq o) (Some n) rest ≡ None → ⊥
never_tied Less n rest is none = absurd (cc)
never_tied Equal n rest is none = absurd (cc)
never_tied Greater n rest is none = absurd (cc)

-- a new key counts its own more
sum_put : (f : List ℕ × ℕ → ℕ) (k : List ℕ) (v : ℕ) (es : Counts) → find (slice_cmp nat_cmp) k es ≡ None
    → sum_of f (put (slice_cmp nat_cmp) k v es) ≡ f (k, v) + sum_of f es
sum_put f k v [] none = refl
sum_put f k v (e ∷ es) none =
    elim (slice_cmp nat_cmp k e.0) as (λ o. slice_cmp nat_cmp k e.0 ≡ o
    → sum_of f (by_order o ((k, v) ∷ e ∷ es) ((e.0, v) ∷ es) (e ∷ put (slice_cmp nat_cmp) k v es)) ≡ f (k, v) + (f e + sum_of f es)) [
      | Less ↦ λ is. refl
      | Equal ↦ λ is. absurd (never_tied (slice_cmp nat_cmp k e.0) e.1 (find (slice_cmp nat_cmp) k es) is none)
      | Greater ↦ λ is.
          let rest = sum_put f k v es (absent_behind (slice_cmp nat_cmp k e.0) e (find (slice_cmp nat_cmp) k es) is none) in
          omega (arith, rest)
    ] refl

-- a key apart from all others isn't found among them
apart_absent : (k : List ℕ) (es : Counts) → AllByRecursion (λ y. bytes_eq k y ≡ false) (keys_of es) → find (slice_cmp nat_cmp) k es ≡ None
apart_absent k [] apart = refl
apart_absent k (e ∷ es) apart =
    ap (λ (t : Bool). cond t (Some e.1) (find (slice_cmp nat_cmp) k es)) (is_eq-slice_cmp k e.0 ∙ apart.0) ∙ apart_absent k es apart.1

-- order changes no sum
sum_ordered : (f : List ℕ × ℕ → ℕ) (es : Counts) → IsDistinct bytes_eq (keys_of es) → sum_of f (ordered es) ≡ sum_of f es
unfolding IsDistinct
sum_ordered f [] distinct = ap (sum_of f) entries-empty
sum_ordered f (e ∷ es) distinct =
    let absent : find (slice_cmp nat_cmp) e.0 (ordered es) ≡ None =
    sym (get-entries (from_entries es) e.0) ∙ get-from_entries nat_list_cmp_total es e.0 ∙ apart_absent e.0 es distinct.0 in
    let rest = sum_ordered f es distinct.1 in
    ap (sum_of f) (entries-insert nat_list_cmp_total (from_entries es) e.0 e.1) ∙ sum_put f e.0 e.1 (ordered es) absent ∙ ap (λ (n : ℕ). f e + n) rest

-- the keys of counts that were made of keys
keys_counted : (f : List ℕ → ℕ) (ks : List (List ℕ)) → keys_of (map (λ key. (key, f key)) ks) ≡ ks
keys_counted f [] = refl
keys_counted f (k ∷ ks) = ap (λ (xs : List (List ℕ)). k ∷ xs) (keys_counted f ks)

merged_distinct : (rs : List Record) → IsDistinct bytes_eq (keys_of (merged rs))
merged_distinct rs =
    subst (IsDistinct bytes_eq) (sym (keys_counted (merged_count rs) (first_keys (map (λ r. r.key) rs)))) (first_keys-distinct (map (λ r. r.key) rs))

-- counts of the same map have the same sums
same_sum : (f : List ℕ × ℕ → ℕ) (rs qs : List Record) → count_map (merged rs) ≡ count_map (merged qs) → sum_of f (merged rs) ≡ sum_of f (merged qs)
same_sum f rs qs same =
    sym (sum_ordered f (merged rs) (merged_distinct rs)) ∙ ap (λ (m : CountMap). sum_of f (entries m)) same ∙ sum_ordered f (merged qs) (merged_distinct qs)

length_is_sum : (es : Counts) → length es ≡ sum_of (λ e. 1) es
length_is_sum [] = refl
length_is_sum (e ∷ es) = let rest = length_is_sum es in omega (arith, rest)

-- and pass the same limit
same_limit : (rs qs : List Record) → count_map (merged rs) ≡ count_map (merged qs) → limit_passed (merged rs) ≡ limit_passed (merged qs)
same_limit rs qs same =
    let keys : length (merged rs) ≡ length (merged qs) = length_is_sum (merged rs) ∙ same_sum (λ e. 1) rs qs same ∙ sym (length_is_sum (merged qs)) in
    let bytes : key_bytes (merged rs) ≡ key_bytes (merged qs) = same_sum (λ e. length e.0) rs qs same in
    ap (λ (n : ℕ). limit_at n (key_bytes (merged rs))) keys ∙ ap (limit_at (length (merged qs))) bytes

pub limits_in_any_order : FilesInAnyOrder → LimitsInAnyOrder
limits_in_any_order law fs gs moved = same_limit (all_records fs) (all_records gs) (law fs gs moved)

-- numbers that pass no limit are within both
no_limit : (t u : Bool) → cond t (Some DataPoints) (cond u (Some TotalKeyBytes) None) ≡ None → (t ≡ false) × (u ≡ false)
no_limit true u none = absurd (cc)
no_limit false true none = absurd (cc)
no_limit false false none = (refl, refl)

-- fewer keys with fewer bytes pass no limit that more don't pass
limit_below : (keys bytes more longer : ℕ) → limit_at (keys + more) (bytes + longer) ≡ None → limit_at keys bytes ≡ None
limit_below keys bytes more longer within =
    let fit = no_limit (nat_lt 4194304 (keys + more)) (nat_lt 1073741824 (bytes + longer)) within in
    let keys_fit : keys ≤ 4194304 = omega (arith, ltb-false 4194304 (keys + more) fit.0) in
    let bytes_fit : bytes ≤ 1073741824 = omega (arith, ltb-false 1073741824 (bytes + longer) fit.1) in
    rw (le-ltb 4194304 keys keys_fit, le-ltb 1073741824 bytes bytes_fit) refl

-- counts that pass no limit with a count more pass none without
limit_before : (counts : Counts) (key : List ℕ) (count : ℕ) → limit_passed (added counts key count) ≡ None → limit_passed counts ≡ None
limit_before counts key count within =
    elim (has_key counts key) as (λ t. has_key counts key ≡ t → limit_passed counts ≡ None) [
      | true ↦ λ has. sym (limit_passed-present counts key count has) ∙ within
      | false ↦ λ new. limit_below (length counts) (key_bytes counts) 1 (length key) (sym (limit_passed-new counts key count new) ∙ within)
    ] refl

append_nothing : (rs : List Record) → rs ++ [] ≡ rs
append_nothing [] = refl
append_nothing (r ∷ rs) = ap (λ (xs : List Record). r ∷ xs) (append_nothing rs)

append_one : (rs : List Record) (q : Record) (qs : List Record) → rs ++ q ∷ qs ≡ (rs ++ q ∷ []) ++ qs
append_one [] q qs = refl
append_one (r ∷ rs) q qs = ap (λ (xs : List Record). r ∷ xs) (append_one rs q qs)

pub limits_stay : LimitsStay
limits_stay rs [] within = subst (λ (xs : List Record). limit_passed (merged xs) ≡ None) (append_nothing rs) within
limits_stay rs (q ∷ qs) within =
    limit_before (merged rs) q.key q.count
    (sym (ap limit_passed (adds_one_by_one rs q))
    ∙ limits_stay (rs ++ q ∷ []) qs (subst (λ (xs : List Record). limit_passed (merged xs) ≡ None) (append_one rs q qs) within))
