use Rattle.std.proofs.Common.{◌≡◌, ℕ, ◌+◌, true, false, cond, nat_lt, ◌||◌, arith, List, [], ◌∷◌, ◌++◌, map, refl, sym, ap, ◌∙◌, IsPermutation}
use Rattle.std.specs.List.{list_any}
use Rattle.std.specs.Str.{bytes_eq}
use Rattle.std.proofs.lemmas.Bool.Decides.{nat_tests}
use Rattle.std.proofs.lemmas.List.Recursion.{is_sum_by}
use Rattle.std.proofs.lemmas.List.Sorted.{sum_by-IsPermutation}
use Rattle.cov_dat.specs.Merging.{merged_count, records_of, saturated}
use Rattle.cov_port.specs.Sums.{total}
use Rattle.cov_dat.specs.Laws.{all_records}
use Rattle.cov_dat.specs.declared.record_list.Record.{Record}

-- the sum of a weight over a list
abbrev pub weight : {X : Type 0} → (X → ℕ) → List X → ℕ
weight f [] = 0
weight f (x ∷ xs) = f x + weight f xs

-- 0 in front adds nothing
pub zero_more : (n : ℕ) → 0 + n ≡ n
zero_more n = omega arith

-- a rearrangement keeps each weight
pub weight-IsPermutation : {X : Type 0} (f : X → ℕ) (xs ys : List X) → IsPermutation xs ys → weight f xs ≡ weight f ys
weight-IsPermutation f xs ys p = is_sum_by (weight f) f refl (λ x xs. refl) xs ∙ sym (sum_by-IsPermutation f xs ys p)
    ∙ sym (is_sum_by (weight f) f refl (λ x xs. refl) ys)

-- the weight of two lists is the sum of theirs
pub weight-append : {X : Type 0} (f : X → ℕ) (xs ys : List X) → weight f (xs ++ ys) ≡ weight f xs + weight f ys
weight-append f [] ys = sym (zero_more (weight f ys))
weight-append f (x ∷ xs) ys = let rest = weight-append f xs ys in omega arith

-- the weight of all lists is the sum of their weights
pub weight-all_records : (f : Record → ℕ) (files : List (List Record)) → weight f (all_records files) ≡ weight (weight f) files
weight-all_records f [] = refl
weight-all_records f (rs ∷ files) = weight-append f rs (all_records files) ∙ ap (λ (n : ℕ). weight f rs + n) (weight-all_records f files)

-- what a record gives to a key
abbrev pub share : List ℕ → Record → ℕ
share key r = cond (bytes_eq key r.key) r.count 0

-- whether a record is one of a key, as a number
abbrev pub presence : List ℕ → Record → ℕ
presence key r = cond (bytes_eq key r.key) 1 0

-- the count of a key is the saturated weight of the shares
pub total-share : (key : List ℕ) (rs : List Record) → total (map (λ r. r.count) (records_of key rs)) ≡ weight (share key) rs
total-share key [] = refl
total-share key (r ∷ rs) =
    elim (bytes_eq key r.key) as (λ t. total (map (λ x. x.count) (cond t (r ∷ records_of key rs) (records_of key rs)))
    ≡ cond t r.count 0 + weight (share key) rs) [
      | true ↦ ap (λ (n : ℕ). r.count + n) (total-share key rs)
      | false ↦ total-share key rs ∙ sym (zero_more (weight (share key) rs))
    ]

-- the merged count by shares
pub merged_count-share : (rs : List Record) (key : List ℕ) → merged_count rs key ≡ saturated (weight (share key) rs)
merged_count-share rs key = ap saturated (total-share key rs)

-- a key has a record where the weight of presence is above 0
pub any-presence : (key : List ℕ) (rs : List Record) → list_any (bytes_eq key) (map (λ r. r.key) rs) ≡ nat_lt 0 (weight (presence key) rs)
any-presence key [] = refl
any-presence key (r ∷ rs) =
    elim (bytes_eq key r.key) as (λ t. (t || list_any (bytes_eq key) (map (λ x. x.key) rs)) ≡ nat_lt 0 (cond t 1 0 + weight (presence key) rs)) [
      | true ↦ grind (arith, nat_tests)
      | false ↦ any-presence key rs ∙ ap (nat_lt 0) (sym (zero_more (weight (presence key) rs)))
    ]

-- a key without a record has the sum 0
pub share-absent : (key : List ℕ) (rs : List Record) → list_any (bytes_eq key) (map (λ r. r.key) rs) ≡ false → weight (share key) rs ≡ 0
share-absent key [] none = refl
share-absent key (r ∷ rs) none =
    elim (bytes_eq key r.key) as (λ t. (t || list_any (bytes_eq key) (map (λ x. x.key) rs)) ≡ false → cond t r.count 0 + weight (share key) rs ≡ 0) [
      | true ↦ λ h. absurd (cc)
      | false ↦ λ h. zero_more (weight (share key) rs) ∙ share-absent key rs h
    ] none

-- to saturate in between changes nothing
pub saturated-twice : (n m : ℕ) → saturated (n + m) ≡ saturated (saturated n + m)
saturated-twice n m = omega arith

-- what one record more does to a count
abbrev pub with_record : List Record → Record → List ℕ → ℕ
with_record rs r key = cond (bytes_eq key r.key) (saturated (merged_count rs key + r.count)) (merged_count rs key)

-- a record more raises the count of its key alone
pub merged_count-with : (rs : List Record) (r : Record) (key : List ℕ) → merged_count (rs ++ r ∷ []) key ≡ with_record rs r key
merged_count-with rs r key =
    merged_count-share (rs ++ r ∷ []) key ∙ ap saturated (weight-append (share key) rs (r ∷ []))
    ∙ elim (bytes_eq key r.key) as (λ t. saturated (weight (share key) rs + (cond t r.count 0 + 0))
    ≡ cond t (saturated (merged_count rs key + r.count)) (merged_count rs key)) [
      | true ↦ rw (merged_count-share rs key) (omega arith)
      | false ↦ rw (merged_count-share rs key) (omega arith)
    ]
