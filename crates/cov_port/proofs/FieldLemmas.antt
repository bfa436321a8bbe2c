-- What the test for keys answers before and behind the first mark.
use Rattle.std.proofs.Common.{max, ◌≡◌, ℕ, suc, ◌+◌, ◌-◌, ◌<◌, ◌≤◌, Bool, true, false, eqb, not, List, [], ◌∷◌, length, take, drop, get_or, take_all, ne_eqb}
use Rattle.std.proofs.Common.{length-drop, add-one, cond, refl, sym, ◌∙◌, ap, arith, ⊎_elim}
use Rattle.std.proofs.lemmas.Bool.{false≢true, cases_lt}
use Rattle.std.proofs.lemmas.List.{drop_all}
use Rattle.std.proofs.lemmas.List.Sums.{prefix_len_is, prefix_len_stops, prefix_len-le-length, prefix_len-drop_no, prefix_len-drop_all}
use Rattle.std.proofs.Math.Numerals.{one-add}
use Rattle.std.proofs.Math.Seq.{drop-cons}
use Rattle.std.specs.List.{position_or_len}
use Rattle.cov_types.specs.Key.{is_mark}
use Rattle.cov_port.specs.KeyTest.{completes, before_name, in_name, in_value}
use Rattle.cov_port.proofs.KeyLemmas.{not_one, not_two}

pub not_false : (m : Bool) → not m ≡ false → m ≡ true
not_false true e = refl
not_false false e = absurd (false≢true (sym e))

-- the place before which no mark stands, and at which one or the end does, is the first mark's
pub first_mark_is : (bytes : List ℕ) (n : ℕ) → n ≤ length bytes → ((k : ℕ) → k < n → is_mark (get_or bytes k 0) ≡ false)
    → (n < length bytes → is_mark (get_or bytes n 0) ≡ true) → n ≡ position_or_len is_mark bytes
first_mark_is bytes n within passed stands = sym (prefix_len_is (λ b. not (is_mark b)) bytes n 0 within (λ k l. ap not (passed k l)) (λ l. ap not (stands l)))

pub first_mark_within : (bytes : List ℕ) → position_or_len is_mark bytes ≤ length bytes
first_mark_within bytes = prefix_len-le-length (λ b. not (is_mark b)) bytes

pub mark_at_first : (bytes : List ℕ) → position_or_len is_mark bytes < length bytes → is_mark (get_or bytes (position_or_len is_mark bytes) 0) ≡ true
mark_at_first bytes l = not_false _ (prefix_len_stops (λ b. not (is_mark b)) bytes 0 l)

-- past plain bytes
module _ (b : ℕ) (bs : List ℕ) where
  one_more : (n : ℕ) → drop n bs ≡ drop (1 + n) (b ∷ bs)
  one_more n = ap (λ k. drop k (b ∷ bs)) (sym (one-add n))

  value_more : (n : ℕ) (m : Bool) → is_mark b ≡ m → completes in_value bs ≡ completes in_value (drop n bs)
      → completes in_value (b ∷ bs) ≡ completes in_value (drop (cond (not m) (1 + n) 0) (b ∷ bs))
  value_more n true mark ih = refl
  value_more n false mark ih = rw (mark, not_one b mark) (ih ∙ ap (completes in_value) (one_more n))

  name_more : (n : ℕ) (m : Bool) → is_mark b ≡ m → completes in_name bs ≡ completes in_name (drop n bs)
      → completes in_name (b ∷ bs) ≡ completes in_name (drop (cond (not m) (1 + n) 0) (b ∷ bs))
  name_more n true mark ih = refl
  name_more n false mark ih = rw (mark, not_two b mark) (ih ∙ ap (completes in_name) (one_more n))

  first_of_name : (n : ℕ) (m : Bool) → is_mark b ≡ m → 0 < cond (not m) (1 + n) 0 → completes before_name (b ∷ bs) ≡ completes in_name (b ∷ bs)
  first_of_name n true mark some = absurd (omega arith)
  first_of_name n false mark some = rw (mark, not_two b mark) refl

  no_name_here : (n : ℕ) (m : Bool) → is_mark b ≡ m → cond (not m) (1 + n) 0 ≡ 0 → completes before_name (b ∷ bs) ≡ false
  no_name_here n true mark none = rw mark refl
  no_name_here n false mark none = absurd (omega arith)

pub past_value_front : (bs : List ℕ) → completes in_value bs ≡ completes in_value (drop (position_or_len is_mark bs) bs)
past_value_front [] = refl
past_value_front (b ∷ bs) = value_more b bs (position_or_len is_mark bs) (is_mark b) refl (past_value_front bs)

past_name_front : (bs : List ℕ) → completes in_name bs ≡ completes in_name (drop (position_or_len is_mark bs) bs)
past_name_front [] = refl
past_name_front (b ∷ bs) = name_more b bs (position_or_len is_mark bs) (is_mark b) refl (past_name_front bs)

begins_name : (bs : List ℕ) → 0 < position_or_len is_mark bs → completes before_name bs ≡ completes in_name bs
begins_name [] some = absurd (omega arith)
begins_name (b ∷ bs) some = first_of_name b bs (position_or_len is_mark bs) (is_mark b) refl some

-- without a name there is no field
pub no_name : (bs : List ℕ) → position_or_len is_mark bs ≡ 0 → completes before_name bs ≡ false
no_name [] none = refl
no_name (b ∷ bs) none = no_name_here b bs (position_or_len is_mark bs) (is_mark b) refl none

-- with one, what stands behind it decides
pub past_whole_name : (bs : List ℕ) → 0 < position_or_len is_mark bs → completes before_name bs ≡ completes in_name (drop (position_or_len is_mark bs) bs)
past_whole_name bs some = begins_name bs some ∙ past_name_front bs

-- the part of a slice from a place on
pub from_place : (n : ℕ) (bs : List ℕ) → take (length bs - n) (drop n bs) ≡ drop n bs
from_place n bs = take_all _ _ (omega (arith, length-drop n bs))

wrong_mark : (b : ℕ) (bs : List ℕ) → is_mark b ≡ true → eqb b 2 ≡ false → completes in_name (b ∷ bs) ≡ false
wrong_mark b bs mark other = rw (mark, other) refl

-- a name that ends with the bytes, or at another mark than byte 2, begins no field
pub name_at_end : (bs : List ℕ) (n : ℕ) → n ≡ position_or_len is_mark bs → 0 < n → n ≡ length bs → completes before_name bs ≡ false
name_at_end bs n place some long = past_whole_name bs (omega arith) ∙ ap (completes in_name) (drop_all _ bs (omega arith))

module _ (bs : List ℕ) (n : ℕ) (place : n ≡ position_or_len is_mark bs) (some : 0 < n) (l : n < length bs) where
  to_mark : completes before_name bs ≡ completes in_name (get_or bs n 0 ∷ drop (suc n) bs)
  to_mark = past_whole_name bs (omega arith) ∙ ap (λ k. completes in_name (drop k bs)) (sym place) ∙ ap (completes in_name) (drop-cons bs n 0 l)

  pub name_at_other : ¬ (get_or bs n 0 ≡ 2) → completes before_name bs ≡ false
  name_at_other other = to_mark ∙ wrong_mark _ (drop (suc n) bs) (ap (λ k. is_mark (get_or bs k 0)) place ∙ mark_at_first bs (omega arith)) (ne_eqb _ _ other)

  -- byte 2 ends a name
  pub name_at_two : get_or bs n 0 ≡ 2 → completes before_name bs ≡ completes in_value (drop (n + 1) bs)
  name_at_two two = to_mark ∙ ap (λ (b : ℕ). completes in_name (b ∷ drop (suc n) bs)) two ∙ ap (λ k. completes in_value (drop k bs)) (sym (add-one n))

short_name_of : (b : ℕ) (bs : List ℕ) → is_mark b ≡ false → completes before_name (b ∷ 2 ∷ bs) ≡ completes in_value bs
short_name_of b bs plain = rw plain refl

-- byte 2 ends a name of one byte
pub short_name : (bs : List ℕ) → get_or bs 1 0 ≡ 2 → is_mark (get_or bs 0 0) ≡ false → completes before_name bs ≡ completes in_value (drop 2 bs)
short_name [] two plain = absurd (omega arith)
short_name (b ∷ []) two plain = absurd (omega arith)
short_name (b ∷ x ∷ bs) two plain = rw two (short_name_of b bs plain)

-- byte 1 begins a field
pub field_begins : (bs : List ℕ) → get_or bs 0 0 ≡ 1 → completes in_value bs ≡ completes before_name (drop 1 bs)
field_begins [] one = absurd (omega arith)
field_begins (b ∷ bs) one = rw one refl

pub high_is_plain : (b : ℕ) → 10 < b → is_mark b ≡ false
high_is_plain b high = rw (ne_eqb b 1 (λ e. omega arith), ne_eqb b 2 (λ e. omega arith), ne_eqb b 10 (λ e. omega arith)) refl

pub passed_more : (bytes : List ℕ) (at high : ℕ) → ((k : ℕ) → k < at → is_mark (get_or bytes k 0) ≡ false)
    → ((k : ℕ) → at ≤ k → k < at + high → 10 < get_or bytes k 0) → (k : ℕ) → k < at + high → is_mark (get_or bytes k 0) ≡ false
passed_more bytes at high before above k l = ⊎_elim (λ low. before k low) (λ le. high_is_plain _ (above k le l)) (cases_lt k at)

-- the same of two places, as far as the later one
pub passed_either : (bytes : List ℕ) (at last high : ℕ) → ((k : ℕ) → k < at → is_mark (get_or bytes k 0) ≡ false)
    → ((k : ℕ) → last ≤ k → k < last + high → 10 < get_or bytes k 0) → last ≤ at → (k : ℕ) → k < max at (last + high) → is_mark (get_or bytes k 0) ≡ false
passed_either bytes at last high before above le k l = ⊎_elim (λ low. before k low) (λ ge. high_is_plain _ (above k (omega arith) (omega arith)))
    (cases_lt k at)

no_front_at : (bs : List ℕ) (n : ℕ) → (n < length bs → is_mark (get_or bs n 0) ≡ true) → position_or_len is_mark (drop n bs) ≡ 0
no_front_at bs n mark = ⊎_elim
    (λ l. prefix_len-drop_no (λ b. not (is_mark b)) bs n 0 l (ap not (mark l)))
    (λ le. prefix_len-drop_all (λ b. not (is_mark b)) bs n le)
    (cases_lt n (length bs))

-- behind the plain front no plain byte stands
pub no_front_left : (bs : List ℕ) → position_or_len is_mark (drop (position_or_len is_mark bs) bs) ≡ 0
no_front_left bs = no_front_at bs (position_or_len is_mark bs) (mark_at_first bs)
