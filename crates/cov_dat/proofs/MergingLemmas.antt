use Rattle.std.proofs.Common.{
  ◌≡◌,
  ℕ,
  zero,
  suc,
  ◌+◌,
  ◌^◌,
  ◌<◌,
  true,
  false,
  not,
  cond,
  is_some,
  ◌||◌,
  length,
  arith,
  List,
  [],
  ◌∷◌,
  ◌++◌,
  slice_get,
  refl,
  sym,
  ◌∙◌,
  ap,
  subst,
  Option,
  None,
  Some,
  option_map,
}
use Rattle.std.specs.Str.{bytes_eq}
use Rattle.std.specs.List.{AllByRecursion, IsDistinct, list_any}
use Rattle.std.specs.Map.{lookup, values_of}
use Rattle.std.proofs.lemmas.Bool.{false≢true, true≢false}
use Rattle.std.proofs.lemmas.Cmp.{nat_list_eq_equiv}
use Rattle.std.proofs.lemmas.Option.{slice_get-map}
use Rattle.std.proofs.lemmas.Slice.Eq.{bytes_eq-Decides}
use Rattle.indexmap.specs.IndexMap.{set_value_at}
use Rattle.cov_dat.specs.Merging.{Counts, added, key_bytes, keys_of, limit_passed, number_of, saturated}
use Rattle.cov_dat.specs.KeyTable.{has_key, limit_at, raised_at}

-- a number below 2^64 is its own saturation
pub saturated-small : (n : ℕ) → n < 2 ^ 64 → saturated n ≡ n
saturated-small n small = omega arith

-- to write the sum at a number is to raise the count there
pub set-raised : (es : Counts) (number before count : ℕ) → slice_get (values_of es) number ≡ Some before
    → set_value_at es number (saturated (before + count)) ≡ raised_at es number count
set-raised [] number before count at = refl
set-raised (e ∷ es) zero before count at = let same : e.1 ≡ before = cc in ap (λ (n : ℕ). (e.0, saturated (n + count)) ∷ es) (sym same)
set-raised (e ∷ es) (suc number) before count at = ap (λ (xs : Counts). e ∷ xs) (set-raised es number before count at)

-- a key that stands is raised in its place
pub added-present : (es : Counts) (key : List ℕ) (count : ℕ) → has_key es key ≡ true → added es key count ≡ raised_at es (number_of es key) count
added-present [] key count has = absurd (false≢true has)
added-present (e ∷ es) key count has =
    elim (bytes_eq key e.0) as (λ t. is_some (cond t (Some e.1) (lookup (bytes_eq key) es)) ≡ true
    → cond t ((e.0, saturated (e.1 + count)) ∷ es) (e ∷ added es key count) ≡ raised_at (e ∷ es) (cond (not t) (1 + number_of es key) 0) count) [
      | true ↦ λ h. refl
      | false ↦ λ h. let next : 1 + number_of es key
          ≡ suc (number_of es key) = omega arith in rw next (ap (λ (xs : Counts). e ∷ xs) (added-present es key count h))
    ] has

-- a new key goes last
pub added-new : (es : Counts) (key : List ℕ) (count : ℕ) → has_key es key ≡ false → added es key count ≡ es ++ (key, saturated count) ∷ []
added-new [] key count new = refl
added-new (e ∷ es) key count new =
    elim (bytes_eq key e.0) as (λ t. is_some (cond t (Some e.1) (lookup (bytes_eq key) es)) ≡ false
    → cond t ((e.0, saturated (e.1 + count)) ∷ es) (e ∷ added es key count) ≡ e ∷ es ++ (key, saturated count) ∷ []) [
      | true ↦ λ h. absurd (true≢false h)
      | false ↦ λ h. ap (λ (xs : Counts). e ∷ xs) (added-new es key count h)
    ] new

-- a new key's number is the number of keys
pub number_of-new : (es : Counts) (key : List ℕ) → has_key es key ≡ false → number_of es key ≡ length es
number_of-new [] key new = refl
number_of-new (e ∷ es) key new =
    elim (bytes_eq key e.0) as (λ t. is_some (cond t (Some e.1) (lookup (bytes_eq key) es)) ≡ false → cond (not t) (1 + number_of es key) 0 ≡ suc (length es)) [
      | true ↦ λ h. absurd (true≢false h)
      | false ↦ λ h. let rest = number_of-new es key h in omega arith
    ] new

-- a key stands where some key is equal to it
pub has_key-any : (es : Counts) (key : List ℕ) → has_key es key ≡ list_any (bytes_eq key) (keys_of es)
has_key-any [] key = refl
has_key-any (e ∷ es) key =
    elim (bytes_eq key e.0) as (λ t. is_some (cond t (Some e.1) (lookup (bytes_eq key) es)) ≡ (t || list_any (bytes_eq key) (keys_of es))) [
      | true ↦ refl
      | false ↦ has_key-any es key
    ]

pub length-raised : (es : Counts) (number count : ℕ) → length (raised_at es number count) ≡ length es
length-raised [] number count = refl
length-raised (e ∷ es) zero count = refl
length-raised (e ∷ es) (suc number) count = ap suc (length-raised es number count)

pub key_bytes-raised : (es : Counts) (number count : ℕ) → key_bytes (raised_at es number count) ≡ key_bytes es
key_bytes-raised [] number count = refl
key_bytes-raised (e ∷ es) zero count = refl
key_bytes-raised (e ∷ es) (suc number) count = ap (λ (n : ℕ). length e.0 + n) (key_bytes-raised es number count)

-- to raise a count passes no limit
pub limit_passed-raised : (es : Counts) (number count : ℕ) → limit_passed (raised_at es number count) ≡ limit_passed es
limit_passed-raised es number count = rw (length-raised es number count, key_bytes-raised es number count) refl

pub length-pushed : (es : Counts) (key : List ℕ) (count : ℕ) → length (es ++ (key, count) ∷ []) ≡ length es + 1
length-pushed [] key count = refl
length-pushed (e ∷ es) key count = let rest = length-pushed es key count in omega arith

pub key_bytes-pushed : (es : Counts) (key : List ℕ) (count : ℕ) → key_bytes (es ++ (key, count) ∷ []) ≡ key_bytes es + length key
key_bytes-pushed [] key count = omega arith
key_bytes-pushed (e ∷ es) key count = let rest = key_bytes-pushed es key count in omega arith

-- the limit that a key more passes
pub limit_passed-pushed : (es : Counts) (key : List ℕ) (count : ℕ)
    → limit_passed (es ++ (key, count) ∷ []) ≡ limit_at (length es + 1) (key_bytes es + length key)
limit_passed-pushed es key count = rw (length-pushed es key count, key_bytes-pushed es key count) refl

-- a key that stands passes no limit anew
pub limit_passed-present : (es : Counts) (key : List ℕ) (count : ℕ) → has_key es key ≡ true → limit_passed (added es key count) ≡ limit_passed es
limit_passed-present es key count has = ap limit_passed (added-present es key count has) ∙ limit_passed-raised es (number_of es key) count

-- a new key counts once more, with its bytes
pub limit_passed-new : (es : Counts) (key : List ℕ) (count : ℕ) → has_key es key ≡ false
    → limit_passed (added es key count) ≡ limit_at (length es + 1) (key_bytes es + length key)
limit_passed-new es key count new = ap limit_passed (added-new es key count new) ∙ limit_passed-pushed es key (saturated count)

-- the same of numbers that were counted
pub limit_passed-counted : (es : Counts) (key : List ℕ) (count keys bytes : ℕ) → has_key es key ≡ false → keys ≡ length es → bytes ≡ key_bytes es
    → limit_passed (added es key count) ≡ limit_at (keys + 1) (bytes + length key)
limit_passed-counted es key count keys bytes new len held = rw (len, held) (limit_passed-new es key count new)

-- to raise a key that stands is to add
pub raised-is-added : (es : Counts) (key : List ℕ) (number count : ℕ) → number_of es key ≡ number → has_key es key ≡ true
    → raised_at es number count ≡ added es key count
raised-is-added es key number count is has = sym (added-present es key count has ∙ ap (λ (n : ℕ). raised_at es n count) is)

-- to append a new key is to add
pub appended-is-added : (es : Counts) (key : List ℕ) (count : ℕ) → has_key es key ≡ false → count < 2 ^ 64 → es ++ (key, count) ∷ [] ≡ added es key count
appended-is-added es key count new small = ap (λ (n : ℕ). es ++ (key, n) ∷ []) (sym (saturated-small count small)) ∙ sym (added-new es key count new)

-- a key that stands adds no bytes
pub key_bytes-present : (es : Counts) (key : List ℕ) (count : ℕ) → has_key es key ≡ true → key_bytes (added es key count) ≡ key_bytes es
key_bytes-present es key count has = ap key_bytes (added-present es key count has) ∙ key_bytes-raised es (number_of es key) count

-- no value is there where `is_some` says so
pub none_is : {X : Type 0} (o : Option X) → is_some o ≡ false → o ≡ None
none_is None h = refl
none_is (Some x) h = absurd (true≢false h)

-- what holds of all keys and of the added one holds of all afterwards
pub all-added : (P : List ℕ → Type 0) (es : Counts) (key : List ℕ) (count : ℕ) → AllByRecursion (λ e. P e.0) es → P key
    → AllByRecursion (λ e. P e.0) (added es key count)
all-added P [] key count all holds = (holds, tt)
all-added P (e ∷ es) key count all holds =
    elim (bytes_eq key e.0) as (λ t. AllByRecursion (λ x. P x.0) (cond t ((e.0, saturated (e.1 + count)) ∷ es) (e ∷ added es key count))) [
      | true ↦ all
      | false ↦ (all.0, all-added P es key count all.1 holds)
    ]

-- what holds of all entries holds of each
pub holds-at : {X : Type 0} (P : X → Type 0) (xs : List X) (i : ℕ) (x : X) → AllByRecursion P xs → slice_get xs i ≡ Some x → P x
holds-at P [] i x all at = absurd (cc)
holds-at P (y ∷ ys) zero x all at = let same : y ≡ x = cc in subst P same all.0
holds-at P (y ∷ ys) (suc i) x all at = holds-at P ys i x all.1 at

-- a key that stands at a number has that number
pub number_of-at : (es : Counts) (i count : ℕ) (key : List ℕ) → IsDistinct bytes_eq (keys_of es) → slice_get es i ≡ Some (key, count)
    → (number_of es key ≡ i) × (has_key es key ≡ true)
unfolding IsDistinct
number_of-at [] i count key distinct at = absurd (cc)
number_of-at (e ∷ es) zero count key distinct at =
    let same : e ≡ (key, count) = cc in
    let yes : bytes_eq key e.0 ≡ true = (bytes_eq-Decides key e.0).1 (sym (ap (λ (x : List ℕ × ℕ). x.0) same)) in
    (rw yes refl, rw yes refl)
number_of-at (e ∷ es) (suc i) count key distinct at =
    let rest = number_of-at es i count key distinct.1 at in
    let there : slice_get (keys_of es) i ≡ Some key = slice_get-map (λ (x : List ℕ × ℕ). x.0) es i ∙ ap (option_map (λ (x : List ℕ × ℕ). x.0)) at in
    let no : bytes_eq key e.0 ≡ false = nat_list_eq_equiv.symm key e.0 ∙ holds-at (λ y. bytes_eq e.0 y ≡ false) (keys_of es) i key distinct.0 there in
    (rw no (omega (arith, rest.0)), rw no rest.1)
