-- Points put in byte order of keys.
use Rattle.std.proofs.Common.{◌≡◌, ℕ, zero, suc, List, [], ◌∷◌, length, map, drop, refl, sym, ◌∙◌, ap, Some, slice_get, Bor, arith}
use Rattle.std.specs.declared.cmp.Ordering.TheVariants.{Less, Equal, Greater}
use Rattle.std.specs.Ordering.{nat_cmp, match_ordering}
use Rattle.std.specs.Cmp.Lexicographic.{slice_cmp, nat_list_cmp_total}
use Rattle.std.specs.FinMap.{entries, from_entries, empty, put, entries-insert, len-empty, len-entries}
use Rattle.std.specs.FinMap.Entries.{by_order}
use Rattle.std.specs.BTreeMap.{insert_entry}
use Rattle.cov_dat.specs.Merging.{Counts}
use Rattle.report_table.specs.Seen.{by_bytes, names_in, seen_sorted}

-- to insert a borrowed key is to put the key itself
pub put_seen : (es : List (Bor (List ℕ) × ℕ)) (k : Bor (List ℕ)) (v : ℕ)
    → seen_sorted (insert_entry by_bytes es k v) ≡ put (slice_cmp nat_cmp) k.now v (seen_sorted es)
put_seen [] k v = refl
put_seen (e ∷ es) k v = elim (by_bytes k e.0) as (λ o. seen_sorted (match_ordering o ((k, v) ∷ e ∷ es) ((e.0, v) ∷ es) (e ∷ insert_entry by_bytes es k v))
    ≡ by_order o ((k.now, v) ∷ (e.0.now, e.1) ∷ seen_sorted es) ((e.0.now, v) ∷ seen_sorted es)
    ((e.0.now, e.1) ∷ put (slice_cmp nat_cmp) k.now v (seen_sorted es))) [
      | Less ↦ refl
      | Equal ↦ refl
      | Greater ↦ ap (λ (xs : Counts). (e.0.now, e.1) ∷ xs) (put_seen es k v)
    ]

-- the same where values are left out
pub put_name : (es : List (Bor (List ℕ) × ℕ)) (k : Bor (List ℕ)) (v : ℕ)
    → map (λ e. (e.0.now, tt {0})) (insert_entry by_bytes es k v) ≡ put (slice_cmp nat_cmp) k.now (tt {0}) (map (λ e. (e.0.now, tt {0})) es)
put_name [] k v = refl
put_name (e ∷ es) k v = elim (by_bytes k e.0) as
    (λ o. map (λ x. (x.0.now, tt {0})) (match_ordering o ((k, v) ∷ e ∷ es) ((e.0, v) ∷ es) (e ∷ insert_entry by_bytes es k v))
    ≡ by_order o ((k.now, tt {0}) ∷ (e.0.now, tt {0}) ∷ map (λ x. (x.0.now, tt {0})) es) ((e.0.now, tt {0}) ∷ map (λ x. (x.0.now, tt {0})) es)
    ((e.0.now, tt {0}) ∷ put (slice_cmp nat_cmp) k.now (tt {0}) (map (λ x. (x.0.now, tt {0})) es))) [
      | Less ↦ refl
      | Equal ↦ refl
      | Greater ↦ ap (λ (xs : List (List ℕ × Unit {0})). (e.0.now, tt {0}) ∷ xs) (put_name es k v)
    ]

-- a key and its count
pub pair_at : (es : Counts) (n : ℕ) (k : List ℕ) (c : ℕ) → slice_get (map (λ e. e.0) es) n ≡ Some k → slice_get (map (λ e. e.1) es) n ≡ Some c
    → slice_get es n ≡ Some (k, c)
pair_at [] n k c a b = absurd (cc)
pair_at (e ∷ es) zero k c a b =
    let first : e.0 ≡ k = cc in
    let second : e.1 ≡ c = cc in
    λ i. Some (first i, second i)
pair_at (e ∷ es) (suc n) k c a b = pair_at es n k c a b

-- the entries from an index on begin with its own
drop_step : (es : Counts) (n : ℕ) (e : List ℕ × ℕ) → slice_get es n ≡ Some e → drop n es ≡ e ∷ drop (suc n) es
drop_step [] n e is = absurd (cc)
drop_step (x ∷ xs) zero e is = ap (λ (y : List ℕ × ℕ). y ∷ xs) (cc)
drop_step (x ∷ xs) (suc n) e is = drop_step xs n e is

-- to insert the entry in front of those that stand in the map gives the map from it on
pub sorted_step : (es : Counts) (n : ℕ) (e : List ℕ × ℕ) (before after : Counts) → slice_get es n ≡ Some e
    → before ≡ entries {R = slice_cmp nat_cmp} (from_entries (drop (suc n) es)) → after ≡ put (slice_cmp nat_cmp) e.0 e.1 before
    → after ≡ entries {R = slice_cmp nat_cmp} (from_entries (drop n es))
sorted_step es n e before after at b a =
    a ∙ ap (λ (xs : Counts). put (slice_cmp nat_cmp) e.0 e.1 xs) b
    ∙ sym (entries-insert nat_list_cmp_total (from_entries (drop (suc n) es)) e.0 e.1)
    ∙ ap (λ (xs : Counts). entries {R = slice_cmp nat_cmp} (from_entries xs)) (sym (drop_step es n e at))

-- a list without length is empty
no_entries : (es : Counts) → length es ≡ 0 → es ≡ []
no_entries [] e = refl
no_entries (x ∷ xs) e = absurd (omega arith)

-- an empty map has no entries
pub entries-empty : entries {X = ℕ} {R = slice_cmp nat_cmp} empty ≡ []
entries-empty = no_entries _ (sym (len-entries empty) ∙ len-empty (slice_cmp nat_cmp) ℕ)

-- the keys alone
pub names_keys : (es : List (Bor (List ℕ) × ℕ)) → names_in es ≡ map (λ (e : List ℕ × Unit {0}). e.0) (map (λ e. (e.0.now, tt {0})) es)
names_keys [] = refl
names_keys (e ∷ es) = ap (λ (ns : List (List ℕ)). e.0.now ∷ ns) (names_keys es)
