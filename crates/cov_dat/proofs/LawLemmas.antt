use Rattle.std.proofs.Common.{◌≡◌, ℕ, ◌+◌, Bool, true, false, cond, ◌||◌, List, [], ◌∷◌, ◌++◌, map, Option, None, Some, refl, sym, ap, ◌∙◌, subst}
use Rattle.std.specs.List.{AllByRecursion, IsDistinct, list_any}
use Rattle.std.specs.Str.{bytes_eq}
use Rattle.std.specs.Ordering.{nat_cmp}
use Rattle.std.specs.Cmp.Lexicographic.{slice_cmp, nat_list_cmp_total}
use Rattle.std.specs.FinMap.{find, get-from_entries, same_map, slice_cmp-IsAntisymmetric, nat_cmp-IsAntisymmetric}
use Rattle.std.proofs.lemmas.Bool.{false≢true, true≢false}
use Rattle.std.proofs.lemmas.Cmp.{nat_list_eq_equiv}
use Rattle.std.proofs.lemmas.Map.Text.{is_eq-slice_cmp}
use Rattle.std.proofs.lemmas.Slice.Eq.{bytes_eq-Decides}
use Rattle.cov_dat.specs.Merging.{Counts, added, first_keys, merged, merged_count, saturated}
use Rattle.cov_dat.specs.DataText.{count_map}
use Rattle.cov_dat.specs.Laws.{AddsOneByOne, InAnyOrder, FilesInAnyOrder, all_records}
use Rattle.cov_dat.specs.declared.record_list.Record.{Record}
use Rattle.cov_dat.proofs.FirstKeyLemmas.{any-first_keys, first_keys-distinct, first_keys-push, with_key}
use Rattle.cov_dat.proofs.WeightLemmas.{
  any-presence,
  merged_count-share,
  merged_count-with,
  presence,
  share,
  share-absent,
  weight,
  weight-IsPermutation,
  weight-all_records,
  with_record,
  zero_more,
}

-- keys with their values
abbrev counted : (List ℕ → ℕ) → List (List ℕ) → Counts
counted f ks = map (λ key. (key, f key)) ks

-- a value with a count more at one key
abbrev raised : (List ℕ → ℕ) → List ℕ → ℕ → List ℕ → ℕ
raised f k count q = cond (bytes_eq q k) (saturated (f q + count)) (f q)

-- a count more at a key leaves keys that are not it
counted-apart : (f : List ℕ → ℕ) (k : List ℕ) (count : ℕ) (ks : List (List ℕ)) → AllByRecursion (λ y. bytes_eq k y ≡ false) ks
    → counted f ks ≡ counted (raised f k count) ks
counted-apart f k count [] apart = refl
counted-apart f k count (x ∷ ks) apart =
    let other : bytes_eq x k ≡ false = nat_list_eq_equiv.symm x k ∙ apart.0 in
    ap (λ (n : ℕ). (x, n) ∷ counted f ks) (sym (ap (λ (t : Bool). cond t (saturated (f x + count)) (f x)) other))
    ∙ ap (λ (es : Counts). (x, raised f k count x) ∷ es) (counted-apart f k count ks apart.1)

-- a count more at one of distinct keys
added-counted : (f : List ℕ → ℕ) (k : List ℕ) (count : ℕ) (ks : List (List ℕ)) → IsDistinct bytes_eq ks → list_any (bytes_eq k) ks ≡ true
    → counted (raised f k count) ks ≡ added (counted f ks) k count
unfolding IsDistinct
added-counted f k count [] distinct among = absurd (false≢true among)
added-counted f k count (x ∷ ks) distinct among =
    elim (bytes_eq k x) as (λ t. bytes_eq k x ≡ t → (t || list_any (bytes_eq k) ks) ≡ true
    → (x, raised f k count x) ∷ counted (raised f k count) ks
    ≡ cond t ((x, saturated (f x + count)) ∷ counted f ks) ((x, f x) ∷ added (counted f ks) k count)) [
      | true ↦ λ is h.
          let same : k ≡ x = (bytes_eq-Decides k x).0 is in
          let apart : AllByRecursion (λ y. bytes_eq k y ≡ false) ks = subst (λ (z : List ℕ). AllByRecursion (λ y. bytes_eq z y ≡ false) ks) (sym same)
          distinct.0 in
          ap (λ (t : Bool). (x, cond t (saturated (f x + count)) (f x)) ∷ counted (raised f k count) ks) (nat_list_eq_equiv.symm x k ∙ is)
          ∙ ap (λ (es : Counts). (x, saturated (f x + count)) ∷ es) (sym (counted-apart f k count ks apart))
      | false ↦ λ is h.
          ap (λ (t : Bool). (x, cond t (saturated (f x + count)) (f x)) ∷ counted (raised f k count) ks) (nat_list_eq_equiv.symm x k ∙ is)
          ∙ ap (λ (es : Counts). (x, f x) ∷ es) (added-counted f k count ks distinct.1 h)
    ] refl among

-- a count more at a new key
added-counted_new : (f : List ℕ → ℕ) (k : List ℕ) (count : ℕ) (ks : List (List ℕ)) → f k ≡ 0 → list_any (bytes_eq k) ks ≡ false
    → counted (raised f k count) (ks ++ k ∷ []) ≡ added (counted f ks) k count
added-counted_new f k count [] none new =
    ap (λ (t : Bool). (k, cond t (saturated (f k + count)) (f k)) ∷ []) ((bytes_eq-Decides k k).1 refl)
    ∙ ap (λ (n : ℕ). (k, saturated (n + count)) ∷ []) none ∙ ap (λ (n : ℕ). (k, saturated n) ∷ []) (zero_more count)
added-counted_new f k count (x ∷ ks) none new =
    elim (bytes_eq k x) as (λ t. bytes_eq k x ≡ t → (t || list_any (bytes_eq k) ks) ≡ false
    → (x, raised f k count x) ∷ counted (raised f k count) (ks ++ k ∷ [])
    ≡ cond t ((x, saturated (f x + count)) ∷ counted f ks) ((x, f x) ∷ added (counted f ks) k count)) [
      | true ↦ λ is h. absurd (true≢false h)
      | false ↦ λ is h.
          ap (λ (t : Bool). (x, cond t (saturated (f x + count)) (f x)) ∷ counted (raised f k count) (ks ++ k ∷ [])) (nat_list_eq_equiv.symm x k ∙ is)
          ∙ ap (λ (es : Counts). (x, f x) ∷ es) (added-counted_new f k count ks none h)
    ] refl new

-- both at once
added-counted_either : (f : List ℕ → ℕ) (k : List ℕ) (count : ℕ) (ks : List (List ℕ)) → IsDistinct bytes_eq ks → (list_any (bytes_eq k) ks ≡ false → f k ≡ 0)
    → counted (raised f k count) (with_key ks k) ≡ added (counted f ks) k count
added-counted_either f k count ks distinct none =
    elim (list_any (bytes_eq k) ks) as (λ t. list_any (bytes_eq k) ks ≡ t
    → counted (raised f k count) (cond t ks (ks ++ k ∷ [])) ≡ added (counted f ks) k count) [
      | true ↦ λ is. added-counted f k count ks distinct is
      | false ↦ λ is. added-counted_new f k count ks (none is) is
    ] refl

-- the keys with a record more
map-push : (rs : List Record) (r : Record) → map (λ x. x.key) (rs ++ r ∷ []) ≡ map (λ x. x.key) rs ++ r.key ∷ []
map-push [] r = refl
map-push (x ∷ rs) r = ap (λ (ks : List (List ℕ)). x.key ∷ ks) (map-push rs r)

-- equal values give equal entries
counted-same : (f g : List ℕ → ℕ) → ((q : List ℕ) → f q ≡ g q) → (ks : List (List ℕ)) → counted f ks ≡ counted g ks
counted-same f g same [] = refl
counted-same f g same (k ∷ ks) = ap (λ (n : ℕ). (k, n) ∷ counted f ks) (same k) ∙ ap (λ (es : Counts). (k, g k) ∷ es) (counted-same f g same ks)

-- one record more is one addition more
pub adds_one_by_one : AddsOneByOne
adds_one_by_one rs r =
    let keys = map (λ (x : Record). x.key) rs in
    counted-same (merged_count (rs ++ r ∷ [])) (with_record rs r) (merged_count-with rs r) (first_keys (map (λ x. x.key) (rs ++ r ∷ [])))
    ∙ ap (λ (ks : List (List ℕ)). counted (with_record rs r) (first_keys ks)) (map-push rs r)
    ∙ ap (counted (with_record rs r)) (first_keys-push keys r.key)
    ∙ added-counted_either (merged_count rs) r.key r.count (first_keys keys) (first_keys-distinct keys)
    (λ h. merged_count-share rs r.key ∙ ap saturated (share-absent r.key rs (sym (any-first_keys r.key keys) ∙ h)))

-- the value of a key among keys with their values
find-counted : (f : List ℕ → ℕ) (q : List ℕ) (ks : List (List ℕ))
    → find (slice_cmp nat_cmp) q (counted f ks) ≡ cond (list_any (bytes_eq q) ks) (Some (f q)) None
find-counted f q [] = refl
find-counted f q (k ∷ ks) =
    ap (λ (t : Bool). cond t (Some (f k)) (find (slice_cmp nat_cmp) q (counted f ks))) (is_eq-slice_cmp q k)
    ∙ elim (bytes_eq q k) as (λ t. bytes_eq q k ≡ t
    → cond t (Some (f k)) (find (slice_cmp nat_cmp) q (counted f ks)) ≡ cond (t || list_any (bytes_eq q) ks) (Some (f q)) None) [
      | true ↦ λ is. ap (λ (z : List ℕ). Some (f z)) (sym ((bytes_eq-Decides q k).0 is))
      | false ↦ λ is. find-counted f q ks
    ] refl

-- what a key has in the map of records
found : List Record → List ℕ → Option ℕ
found rs q = cond (list_any (bytes_eq q) (map (λ r. r.key) rs)) (Some (merged_count rs q)) None

-- the merged counts have it
find-merged : (rs : List Record) (q : List ℕ) → find (slice_cmp nat_cmp) q (merged rs) ≡ found rs q
unfolding found
find-merged rs q = find-counted (merged_count rs) q (first_keys (map (λ r. r.key) rs))
    ∙ ap (λ (t : Bool). cond t (Some (merged_count rs q)) None) (any-first_keys q (map (λ r. r.key) rs))

-- it is known from the weights
found-weights : (rs qs : List Record) → ((f : Record → ℕ) → weight f rs ≡ weight f qs) → (q : List ℕ) → found rs q ≡ found qs q
unfolding found
found-weights rs qs same q = rw (any-presence q rs, any-presence q qs, merged_count-share rs q, merged_count-share qs q, same (presence q), same (share q)) refl

-- records with the same weights merge to the same map
same_weights : (rs qs : List Record) → ((f : Record → ℕ) → weight f rs ≡ weight f qs) → count_map (merged rs) ≡ count_map (merged qs)
same_weights rs qs same = same_map nat_list_cmp_total (slice_cmp-IsAntisymmetric nat_cmp-IsAntisymmetric) _ _
    (λ q. get-from_entries nat_list_cmp_total (merged rs) q ∙ find-merged rs q ∙ found-weights rs qs same q
    ∙ sym (get-from_entries nat_list_cmp_total (merged qs) q ∙ find-merged qs q))

pub in_any_order : InAnyOrder
in_any_order rs qs p = same_weights rs qs (λ f. weight-IsPermutation f rs qs p)

pub files_in_any_order : FilesInAnyOrder
files_in_any_order fs gs p = same_weights (all_records fs) (all_records gs)
    (λ f. weight-all_records f fs ∙ weight-IsPermutation (weight f) fs gs p ∙ sym (weight-all_records f gs))
