-- What the records of several files come to together.
use Rattle.std.specs.Prelude.{ℕ, ◌+◌, ◌-◌, ◌^◌, min, not, nat_lt, length, List, [], ◌∷◌, filter, map, Option, None, Some, if◌then◌else◌}
use Rattle.std.specs.Str.{bytes_eq}
use Rattle.std.specs.List.{position_or_len}
use Rattle.cov_port.specs.Sums.{total}
use Rattle.cov_types.specs.declared.limit.LimitName.{LimitName}
use Rattle.cov_types.specs.declared.limit.LimitName.TheVariants.{DataPoints, TotalKeyBytes}
use Rattle.cov_dat.specs.declared.record_list.Record.{Record}

-- keys with their counts
abbrev pub Counts : Type 0
Counts = List (List ℕ × ℕ)

-- a number, or 2^64 - 1 where it is greater
abbrev pub saturated : ℕ → ℕ
saturated n = min n (2 ^ 64 - 1)

-- the records of a key
abbrev pub records_of : List ℕ → List Record → List Record
records_of key rs = filter (λ r. bytes_eq key r.key) rs

-- the count of a key: the sum of the counts of all its records, saturated
abbrev pub merged_count : List Record → List ℕ → ℕ
merged_count rs key = saturated (total (map (λ r. r.count) (records_of key rs)))

-- each of the keys once, in order of first arrival
abbrev pub first_keys : List (List ℕ) → List (List ℕ)
first_keys [] = []
first_keys (k ∷ ks) = k ∷ filter (λ q. not (bytes_eq k q)) (first_keys ks)

-- the merged counts of records: each key once, with its count
abbrev pub merged : List Record → Counts
merged rs = map (λ key. (key, merged_count rs key)) (first_keys (map (λ r. r.key) rs))

-- the keys alone
abbrev pub keys_of : Counts → List (List ℕ)
keys_of counts = map (λ e. e.0) counts

-- the bytes of all keys together
abbrev pub key_bytes : Counts → ℕ
key_bytes counts = total (map (λ e. length e.0) counts)

-- the limit that counts pass, if they pass one: the number of keys comes before their bytes
abbrev pub limit_passed : Counts → Option LimitName
limit_passed counts =
    if nat_lt 4194304 (length counts) then Some DataPoints
    else if nat_lt 1073741824 (key_bytes counts) then Some TotalKeyBytes
    else None

-- the counts with one count more of a key: a key that stands there keeps its place, a new one goes last
abbrev pub added : Counts → List ℕ → ℕ → Counts
added [] key count = (key, saturated count) ∷ []
added (e ∷ es) key count = if bytes_eq key e.0 then (e.0, saturated (e.1 + count)) ∷ es else e ∷ added es key count

-- the number of a key, from 0, in order of first arrival
abbrev pub number_of : Counts → List ℕ → ℕ
number_of counts key = position_or_len (bytes_eq key) (keys_of counts)
