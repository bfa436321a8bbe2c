-- The fields of a key, one after the other.
use Rattle.std.proofs.Common.{◌≡◌, ℕ, ◌<◌, Bool, true, false, cond, eqb, List, [], ◌∷◌, length, take, drop, None, Some, refl, sym, ◌∙◌, ap}
use Rattle.std.specs.List.{find, position_or_len, slice_split}
use Rattle.std.specs.Option.{option_map}
use Rattle.std.specs.Str.{bytes_eq}
use Rattle.cov_port.proofs.SplitLemmas.{Begins, begins_there, behind_mark, split_front}
use Rattle.cov_dat.specs.FieldWalk.{BeginsField}
use Rattle.cov_dat.specs.KeyFields.{field_name, field_texts, field_value, first_value, value_if}

-- a field with the name is the first
found_test : (test : Bool) (t : List ℕ) (ts : List (List ℕ)) (name value : List ℕ) → cond test (Some (field_value t)) None ≡ Some value
    → option_map field_value (cond test (Some t) (find (λ text. bytes_eq (field_name text) name) ts)) ≡ Some value
found_test true t ts name value is = is
found_test false t ts name value is = absurd (cc)

missed_test : (test : Bool) (t : List ℕ) (ts : List (List ℕ)) (name : List ℕ) → cond test (Some (field_value t)) None ≡ None
    → option_map field_value (cond test (Some t) (find (λ text. bytes_eq (field_name text) name) ts)) ≡ first_value name ts
missed_test true t ts name is = absurd (cc)
missed_test false t ts name is = refl

-- the first text and those behind
texts_from : (text : List ℕ) (n : ℕ) → n ≡ position_or_len (λ b. eqb b 1) text
    → slice_split (λ b. eqb b 1) text ≡ take n text ∷ drop 1 (slice_split (λ b. eqb b 1) (drop n text))
texts_from text n is = rw is (split_front (λ b. eqb b 1) text)

as_field : (rest : List ℕ) → Begins (λ b. eqb b 1) rest → BeginsField rest
as_field [] begins = tt
as_field (b ∷ bs) begins = begins

as_begins : (rest : List ℕ) → BeginsField rest → Begins (λ b. eqb b 1) rest
as_begins [] begins = tt
as_begins (b ∷ bs) begins = begins

-- a field begins at the first byte 1
pub field_from : (text : List ℕ) (n : ℕ) → n ≡ position_or_len (λ b. eqb b 1) text → BeginsField (drop n text)
field_from text n is = rw is (as_field (drop (position_or_len (λ b. eqb b 1) text) text) (begins_there (λ b. eqb b 1) text))

-- what stands before the first field is none
pub texts_from_start : (key : List ℕ) (n : ℕ) → n ≡ position_or_len (λ b. eqb b 1) key → field_texts (drop n key) ≡ field_texts key
texts_from_start key n is = sym (ap (λ (ts : List (List ℕ)). drop 1 ts) (texts_from key n is))

-- the first field, and those behind it
pub texts_cut : (rest : List ℕ) (n : ℕ) → 0 < length rest → BeginsField rest → n ≡ position_or_len (λ b. eqb b 1) (drop 1 rest)
    → field_texts rest ≡ take n (drop 1 rest) ∷ field_texts (drop n (drop 1 rest))
texts_cut rest n some begins at = behind_mark (λ b. eqb b 1) rest some (as_begins rest begins) ∙ texts_from (drop 1 rest) n at

pub value_found : (text value name : List ℕ) (more : List (List ℕ)) → value_if text name ≡ Some value → first_value name (text ∷ more) ≡ Some value
value_found text value name more is = found_test (bytes_eq (field_name text) name) text more name value is

pub value_missed : (text name : List ℕ) (more : List (List ℕ)) → value_if text name ≡ None → first_value name (text ∷ more) ≡ first_value name more
value_missed text name more is = missed_test (bytes_eq (field_name text) name) text more name is
