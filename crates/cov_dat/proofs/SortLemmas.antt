use Rattle.std.proofs.Common.{◌≡◌, ℕ, zero, suc, List, [], ◌∷◌, length, drop, refl, sym, ◌∙◌, ap, Some, slice_get, Ordering, Bor, arith}
use Rattle.std.specs.declared.cmp.Ordering.TheVariants.{Less, Equal, Greater}
use Rattle.std.specs.Ordering.{nat_cmp, match_ordering}
use Rattle.std.specs.Cmp.Lexicographic.{slice_cmp, nat_list_cmp_total}
use Rattle.std.specs.FinMap.{entries, from_entries, empty, put, entries-insert, len-empty, len-entries}
use Rattle.std.specs.FinMap.Entries.{by_order}
use Rattle.std.specs.BTreeMap.{insert_entry}
use Rattle.cov_dat.specs.SortedView.{seen_sorted}
use Rattle.cov_dat.specs.Merging.{Counts}

-- borrowed keys in the order of their bytes
abbrev pub by_bytes : Bor (List ℕ) → Bor (List ℕ) → Ordering
by_bytes a b = slice_cmp nat_cmp a.now b.now

-- to insert a borrowed key is to put the key itself
pub put_seen : (es : List (Bor (List ℕ) × ℕ)) (k : Bor (List ℕ)) (v : ℕ)
    → seen_sorted (insert_entry by_bytes es k v) ≡ put (slice_cmp nat_cmp) k.now v (seen_sorted es)
put_seen [] k v = refl
put_seen (e ∷ es) k v = elim (by_bytes k e.0) as (λ o. seen_sorted (match_ordering o ((k, v) ∷ e ∷ es) ((e.0, v) ∷ es) (e ∷ insert_entry by_bytes es k v))
    ≡ by_order o ((k.now, v) ∷ (e.0.now, e.1) ∷ seen_sorted es) ((e.0.now, v) ∷ seen_sorted es)
    ((e.0.now, e.1) ∷ put (slice_cmp nat_cmp) k.now v (seen_sorted es))) [
      | Less ↦ refl
      | Equal ↦ refl
      | Greater ↦ ap (λ (xs : Counts). (e.0.now, e.1) ∷ xs) (put_seen es k v)
    ]

-- the entries from an index on begin with its own
pub drop_step : (es : Counts) (n : ℕ) (e : List ℕ × ℕ) → slice_get es n ≡ Some e → drop n es ≡ e ∷ drop (suc n) es
drop_step [] n e is = absurd (cc)
drop_step (x ∷ xs) zero e is = ap (λ (y : List ℕ × ℕ). y ∷ xs) (cc)
drop_step (x ∷ xs) (suc n) e is = drop_step xs n e is

-- to insert the entry in front of those that stand in the map gives the map from it on
pub sorted_step : (es : Counts) (n : ℕ) (e : List ℕ × ℕ) (before after : Counts) → slice_get es n ≡ Some e
    → before ≡ entries {R = slice_cmp nat_cmp} (from_entries (drop (suc n) es)) → after ≡ put (slice_cmp nat_cmp) e.0 e.1 before
    → after ≡ entries {R = slice_cmp nat_cmp} (from_entries (drop n es))
sorted_step es n e before after at b a =
    a ∙ ap (λ (xs : Counts). put (slice_cmp nat_cmp) e.0 e.1 xs) b
    ∙ sym (entries-insert nat_list_cmp_total (from_entries (drop (suc n) es)) e.0 e.1)
    ∙ ap (λ (xs : Counts). entries {R = slice_cmp nat_cmp} (from_entries xs)) (sym (drop_step es n e at))

-- a list without length is empty
no_entries : (es : Counts) → length es ≡ 0 → es ≡ []
no_entries [] e = refl
no_entries (x ∷ xs) e = absurd (omega arith)

-- an empty map has no entries
pub entries-empty : entries {X = ℕ} {R = slice_cmp nat_cmp} empty ≡ []
entries-empty = no_entries _ (sym (len-entries empty) ∙ len-empty (slice_cmp nat_cmp) ℕ)
