-- Reading digits from left to right.
use Rattle.std.proofs.Common.{◌≡◌, ◌≢◌, ℕ, ◌+◌, ◌*◌, ◌%◌, ◌^◌, ◌-◌, ◌<◌, ◌≤◌, suc, Bool, true, false, cond, eqb, List, [], length, get_or, drop, map, refl, sym}
use Rattle.std.proofs.Common.{◌∙◌, ap, arith, eqb-true}
use Rattle.std.specs.Prelude.{◌∷◌}
use Rattle.std.proofs.Math.Nat.{pow-suc, div-add-mod', mul_assoc}
use Rattle.std.proofs.Math.Nat.{pow-zero, mul-pos, le-mul_of_pos_right, mod-add-mod, mod-eq_of_lt, mul-add-mod_self_right}
use Rattle.std.proofs.lemmas.List.{at_drop_all, at_drop_more, drop-drop, take_rest}
use Rattle.std.proofs.lemmas.Nat.{mul-mod_first, pow-add}
use Rattle.std.proofs.lemmas.Bool.{le-leb, le-ltb, lt-ltb, ltb-false, ltb-true, ne_eqb}
use Rattle.std.proofs.Common.{Option, None, Some, Ok, Err, ltb, ◌/◌}
use Rattle.std.specs.Prelude.{◌||◌}
use Rattle.vlog_lexer.specs.declared.piece.Flaw.TheVariants.{BadNumber, NumberTooWide}
use Prim.Native.Nat.{zero}
use Rattle.std.specs.List.{prefix_len, take_while}
use Rattle.std.proofs.Common.{leb, min, take, subst}
use Rattle.std.specs.Char.{is_ascii_digit}
use Rattle.std.proofs.lemmas.Bool.{true≢false}
use Rattle.vlog_lexer.specs.Bytes.{begins_number, continues_decimal, continues_digits, is_free}
use Rattle.vlog_lexer.specs.Numbers.{place_value, digits_of, with_byte, below, fitting, is_wide, is_bad, width_of, bits_of, based_numeral, numeral, may_be_free}
use Rattle.vlog_lexer.specs.Numbers.{capped, size_of, plain_numeral, counted, behind_base, behind_sign, behind_quote, begins_with_quote, base_of, number_of}
use Rattle.vlog_lexer.specs.Numbers.{Counted, number_value, value_digit, free_bits, free_digit, bits_above}

-- what the digits that are left make of the value so far
abbrev pub left : (ℕ → ℕ) → ℕ → ℕ → List ℕ → ℕ
left f base v bytes = place_value base (v ∷ map f (digits_of bytes))

folded : (v d b p r : ℕ) → v * (p * b) + (d * p + r) ≡ (v * b + d) * p + r
folded v d b p r = omega arith

pub place_value-two : (base v d : ℕ) (ds : List ℕ) → place_value base (v ∷ (d ∷ ds)) ≡ place_value base ((v * base + d) ∷ ds)
place_value-two base v d ds = rw (pow-suc base (length ds)) (folded v d base (base ^ length ds) (place_value base ds))

left-cons : (f : ℕ → ℕ) (base v b : ℕ) (bs : List ℕ) (t : Bool) → eqb b 95 ≡ t → left f base v (b ∷ bs) ≡ left f base (cond t v (v * base + f b)) bs
left-cons f base v b bs true e = rw e refl
left-cons f base v b bs false e = rw e (place_value-two base v (f b) (map f (digits_of bs)))

-- a step of a loop over the digits
pub left-drop : (f : ℕ → ℕ) (base v : ℕ) (bs : List ℕ) (i : ℕ) → i < length bs
    → left f base v (drop i bs) ≡ left f base (with_byte f base v (get_or bs i 0)) (drop (i + 1) bs)
unfolding with_byte
left-drop f base v bs i l =
    at_drop_more (left f base v) bs i 0 l ∙ left-cons f base v (get_or bs i 0) (drop (i + 1) bs) (eqb (get_or bs i 0) 95) refl

pub pow-positive : (base n : ℕ) → 0 < base → 0 < base ^ n
pow-positive base zero h = rw (pow-zero base) (omega arith)
pow-positive base (suc n) h = rw (pow-suc base n) (mul-pos (pow-positive base n h) h)

above : (v p r : ℕ) → v ≤ v * p → v ≤ v * p + r
above v p r h = omega arith

pub left-above : (f : ℕ → ℕ) (base v : ℕ) (bytes : List ℕ) → 0 < base → v ≤ left f base v bytes
left-above f base v bytes h =
    let n = length (map f (digits_of bytes)) in
    above v (base ^ n) (place_value base (map f (digits_of bytes))) (le-mul_of_pos_right v (pow-positive base n h))

below-none : (n : ℕ) (t : Bool) → ltb n (2 ^ 128) ≡ t → None ≡ cond t (Some n) None → 2 ^ 128 ≤ n
below-none n true e h = absurd (cc h)
below-none n false e h = ltb-false n (2 ^ 128) e

below-some : (n m : ℕ) (t : Bool) → ltb n (2 ^ 128) ≡ t → Some m ≡ cond t (Some n) None → m ≡ n
below-some n m true e h = cc
below-some n m false e h = absurd (cc h)

pub below-past : (n : ℕ) → 2 ^ 128 ≤ n → None ≡ below n
below-past n h = rw (le-ltb n (2 ^ 128) h) refl

pub below-within : (n : ℕ) → n < 2 ^ 128 → Some n ≡ below n
below-within n h = rw (lt-ltb n (2 ^ 128) h) refl

left-zero : (p r : ℕ) → 0 * p + r ≡ r
left-zero p r = omega arith

left-last : (f : ℕ → ℕ) (base v : ℕ) → left f base v [] ≡ v
left-last f base v = rw (pow-zero base) (omega arith)

pub left-end : (f : ℕ → ℕ) (base v : ℕ) (bs : List ℕ) (i : ℕ) → length bs ≤ i → left f base v (drop i bs) ≡ v
left-end f base v bs i l = at_drop_all (left f base v) bs i l ∙ left-last f base v

pub value-start : (base : ℕ) (bs : List ℕ) → left value_digit base 0 bs ≡ number_value base bs
unfolding number_value
value-start base bs = left-zero (base ^ length (map value_digit (digits_of bs))) (place_value base (map value_digit (digits_of bs)))

pub value-stop : (base v : ℕ) (bs : List ℕ) (i total : ℕ) → 0 < base → i < length bs → None ≡ below (with_byte value_digit base v (get_or bs i 0))
    → left value_digit base v (drop i bs) ≡ total → None ≡ below total
value-stop base v bs i total h l e inv =
    let w = with_byte value_digit base v (get_or bs i 0) in
    let wide : 2 ^ 128 ≤ w = below-none w (ltb w (2 ^ 128)) refl e in
    let more : w ≤ left value_digit base w (drop (i + 1) bs) = left-above value_digit base w (drop (i + 1) bs) h in
    let same = sym (left-drop value_digit base v bs i l) ∙ inv in
    below-past total (omega arith)

pub value-on : (base v m : ℕ) (bs : List ℕ) (i total : ℕ) → i < length bs → Some m ≡ below (with_byte value_digit base v (get_or bs i 0))
    → left value_digit base v (drop i bs) ≡ total → left value_digit base m (drop (i + 1) bs) ≡ total
value-on base v m bs i total l e inv =
    let w = with_byte value_digit base v (get_or bs i 0) in
    ap (λ (n : ℕ). left value_digit base n (drop (i + 1) bs)) (below-some w m (ltb w (2 ^ 128)) refl e) ∙ sym (left-drop value_digit base v bs i l) ∙ inv

pub value-done : (base v : ℕ) (bs : List ℕ) (i total : ℕ) → v < 2 ^ 128 → length bs ≤ i → left value_digit base v (drop i bs) ≡ total → Some v ≡ below total
value-done base v bs i total h l inv = below-within v h ∙ ap below (sym (left-end value_digit base v bs i l) ∙ inv)

-- the same of the mask, in 128 bits
cut-first : (x p r m : ℕ) → ((x % m) * p + r) % m ≡ (x * p + r) % m
cut-first x p r m = sym (mod-add-mod (x % m * p) m r) ∙ ap (λ (n : ℕ). (n + r) % m) (mul-mod_first x p m) ∙ mod-add-mod (x * p) m r

pub free-start : (base : ℕ) (bs : List ℕ) → left (free_digit base) base (bits_above (digits_of bs)) bs ≡ free_bits base bs
unfolding free_bits
free-start base bs = refl

pub free-on : (base v m : ℕ) (bs : List ℕ) (i total : ℕ) → i < length bs → m ≡ with_byte (free_digit base) base v (get_or bs i 0) % 2 ^ 128
    → left (free_digit base) base v (drop i bs) % 2 ^ 128 ≡ total → left (free_digit base) base m (drop (i + 1) bs) % 2 ^ 128 ≡ total
free-on base v m bs i total l e inv =
    let f = free_digit base in
    let w = with_byte f base v (get_or bs i 0) in
    let rest = map f (digits_of (drop (i + 1) bs)) in
    ap (λ (n : ℕ). left f base n (drop (i + 1) bs) % 2 ^ 128) e
    ∙ cut-first w (base ^ length rest) (place_value base rest) (2 ^ 128)
    ∙ ap (λ (n : ℕ). n % 2 ^ 128) (sym (left-drop f base v bs i l)) ∙ inv

pub free-done : (base v : ℕ) (bs : List ℕ) (i total : ℕ) → v < 2 ^ 128 → length bs ≤ i → left (free_digit base) base v (drop i bs) % 2 ^ 128 ≡ total → v ≡ total
free-done base v bs i total h l inv = sym (mod-eq_of_lt h) ∙ ap (λ (n : ℕ). n % 2 ^ 128) (sym (left-end (free_digit base) base v bs i l)) ∙ inv

-- the first digit
digits-cons : (b : ℕ) (bs : List ℕ) (t : Bool) → eqb b 95 ≡ t → digits_of (b ∷ bs) ≡ cond t (digits_of bs) (b ∷ digits_of bs)
digits-cons b bs t e = rw e refl

pub first-digit : (bs : List ℕ) (i : ℕ) (r : Bool) (total : List ℕ) → i < length bs → get_or bs i 0 ≢ 95 → r ≡ is_free (get_or bs i 0)
    → digits_of (drop i bs) ≡ total → bits_above total ≡ cond r (2 ^ 128 - 1) 0
unfolding bits_above
first-digit bs i r total l is e inv =
    ap bits_above (sym inv ∙ at_drop_more digits_of bs i 0 l ∙ digits-cons (get_or bs i 0) (drop (i + 1) bs) false (ne_eqb (get_or bs i 0) 95 is))
    ∙ ap (λ (t : Bool). cond t (2 ^ 128 - 1) 0) (sym e)

pub digits-on : (bs : List ℕ) (i : ℕ) (total : List ℕ) → i < length bs → get_or bs i 0 ≡ 95 → digits_of (drop i bs) ≡ total
    → digits_of (drop (i + 1) bs) ≡ total
digits-on bs i total l is inv = sym (at_drop_more digits_of bs i 0 l ∙ digits-cons (get_or bs i 0) (drop (i + 1) bs) true (ap (λ (x : ℕ). eqb x 95) is)) ∙ inv

pub no-digit : (bs : List ℕ) (i : ℕ) (total : List ℕ) → length bs ≤ i → digits_of (drop i bs) ≡ total → 0 ≡ bits_above total
unfolding bits_above
no-digit bs i total l inv = ap bits_above (sym (at_drop_all digits_of bs i l) ∙ inv)

-- the low bits of the low bits
cut-twice : (n w m : ℕ) → w ≤ m → (n % 2 ^ m) % 2 ^ w ≡ n % 2 ^ w
cut-twice n w m h =
    let k = m - w in
    let sum : m ≡ k + w = omega arith in
    let whole : n ≡ n / 2 ^ m * 2 ^ m + n % 2 ^ m = sym (div-add-mod' n (2 ^ m)) in
    let power : 2 ^ m ≡ 2 ^ k * 2 ^ w = ap (λ (j : ℕ). 2 ^ j) sum ∙ pow-add 2 k w in
    let regrouped : n ≡ n / 2 ^ m * 2 ^ k * 2 ^ w + n % 2 ^ m = whole ∙ ap (λ (p : ℕ). p + n % 2 ^ m) (ap (λ (p : ℕ). n / 2 ^ m * p) power
    ∙ sym (mul_assoc (n / 2 ^ m) (2 ^ k) (2 ^ w))) in
    sym (ap (λ (x : ℕ). x % 2 ^ w) regrouped ∙ mul-add-mod_self_right (n / 2 ^ m * 2 ^ k) (2 ^ w) (n % 2 ^ m))

-- numbers behind a base
or-true : (t : Bool) → (t || true) ≡ true
or-true true = refl
or-true false = refl

wide-past : (size : Option ℕ) (n : ℕ) → 2 ^ 128 ≤ n → is_wide size n ≡ true
unfolding is_wide width_of bits_of
wide-past None n h = rw (le-leb (2 ^ 32) n (omega arith)) refl
wide-past (Some m) n h = rw (le-leb (2 ^ 128) n h) (or-true (ltb 128 m))

pub fitting-none : (size : Option ℕ) (n : ℕ) → None ≡ below n → None ≡ fitting size n
fitting-none size n e = rw (wide-past size n (below-none n (ltb n (2 ^ 128)) refl e)) refl

pub fitting-some : (size : Option ℕ) (n v : ℕ) (t : Bool) (r : Option ℕ) → Some v ≡ below n → t ≡ is_wide size v → r ≡ cond t None (Some v) → r ≡ fitting size n
fitting-some size n v t r e is out =
    let same : v ≡ n = below-some n v (ltb n (2 ^ 128)) refl e in
    out ∙ ap (λ (x : Bool). cond x None (Some v)) is ∙ ap (fitting size) same

fitting-is : (size : Option ℕ) (n v : ℕ) (t : Bool) → is_wide size n ≡ t → Some v ≡ cond t None (Some n) → (is_wide size n ≡ false) × (v ≡ n)
fitting-is size n v true is e = absurd (cc e)
fitting-is size n v false is e = (is, cc)

fitting-not : (size : Option ℕ) (n : ℕ) (t : Bool) → is_wide size n ≡ t → None ≡ cond t None (Some n) → is_wide size n ≡ true
fitting-not size n true is e = is
fitting-not size n false is e = absurd (cc e)

pub based-bad : (size : Option ℕ) (signed : Bool) (base : ℕ) (digits : List ℕ) → is_bad size signed base digits ≡ true
    → Err BadNumber ≡ based_numeral size signed base digits
unfolding based_numeral
based-bad size signed base digits bad = rw bad refl

pub based-wide : (size : Option ℕ) (signed : Bool) (base : ℕ) (digits : List ℕ) → is_bad size signed base digits ≡ false
    → None ≡ fitting size (number_value base digits) → Err NumberTooWide ≡ based_numeral size signed base digits
unfolding based_numeral
based-wide size signed base digits good e = rw (good, fitting-not size (number_value base digits) (is_wide size (number_value base digits)) refl e) refl

pub based-fits : (size : Option ℕ) (signed : Bool) (base : ℕ) (digits : List ℕ) (value low free w : ℕ) → is_bad size signed base digits ≡ false
    → Some value ≡ fitting size (number_value base digits)
    → w ≡ width_of size → low ≡ value % 2 ^ w → free ≡ (free_bits base digits % 2 ^ 128) % 2 ^ w → w ≤ 128
    → Ok (numeral w signed low free) ≡ based_numeral size signed base digits
unfolding based_numeral
based-fits size signed base digits value low free w good e is l f h =
    let fits = fitting-is size (number_value base digits) value (is_wide size (number_value base digits)) refl e in
    let low-is : low ≡ number_value base digits % 2 ^ w = l ∙ ap (λ (n : ℕ). n % 2 ^ w) fits.1 in
    let free-is : free ≡ free_bits base digits % 2 ^ w = f ∙ cut-twice (free_bits base digits) w 128 h in
    rw (good, fits.0) (ap (λ (n : ℕ). Ok (numeral w signed n free)) low-is ∙ ap (λ (n : ℕ). Ok (numeral w signed (number_value base digits % 2 ^ w) n)) free-is
    ∙ ap (λ (k : ℕ). Ok (numeral k signed (number_value base digits % 2 ^ k) (free_bits base digits % 2 ^ k))) is)

or-no : (s t : Bool) → (s || t) ≡ false → s ≡ false
or-no true t e = e
or-no false t e = refl

pub wide-within : (size : Option ℕ) (v : ℕ) (t : Bool) → t ≡ is_wide size v → t ≡ false → width_of size ≤ 128
unfolding is_wide width_of
wide-within None v t is e = omega arith
wide-within (Some m) v t is e = ltb-false 128 m (or-no (ltb 128 m) (leb (2 ^ bits_of (Some m)) v) (sym is ∙ e))

-- a size past 128 bits counts as any other
based-past : (n m : ℕ) (signed : Bool) (base : ℕ) (digits : List ℕ) → 128 < n → 128 < m
    → based_numeral (Some n) signed base digits ≡ based_numeral (Some m) signed base digits
unfolding based_numeral is_bad is_wide width_of may_be_free
based-past n m signed base digits h k =
    let n0 : n ≢ 0 = omega arith in let m0 : m ≢ 0 = omega arith in
    rw (ne_eqb n 0 n0, ne_eqb m 0 m0, lt-ltb 128 n h, lt-ltb 128 m k) refl

capped-at : (n : ℕ) (signed : Bool) (base : ℕ) (digits : List ℕ) (t : Bool) → ltb n (2 ^ 128) ≡ t
    → based_numeral (Some (min n (2 ^ 128 - 1))) signed base digits ≡ based_numeral (Some n) signed base digits
capped-at n signed base digits true e =
    let low = ltb-true n (2 ^ 128) e in
    let same : min n (2 ^ 128 - 1) ≡ n = omega arith in
    ap (λ (k : ℕ). based_numeral (Some k) signed base digits) same
capped-at n signed base digits false e =
    let high = ltb-false n (2 ^ 128) e in
    let past : 128 < min n (2 ^ 128 - 1) = omega arith in
    based-past (min n (2 ^ 128 - 1)) n signed base digits past (omega arith)

pub based-capped : (size : Option ℕ) (signed : Bool) (base : ℕ) (digits : List ℕ)
    → based_numeral (capped size) signed base digits ≡ based_numeral size signed base digits
based-capped None signed base digits = refl
based-capped (Some n) signed base digits = capped-at n signed base digits (ltb n (2 ^ 128)) refl

base-capped : (before : ℕ) (size : Option ℕ) (signed : Bool) (base : Option ℕ) (text : List ℕ)
    → behind_base before (capped size) signed base text ≡ behind_base before size signed base text
unfolding behind_base
base-capped before size signed None text = refl
base-capped before size signed (Some base) text = ap (counted (before + prefix_len continues_digits text))
    (based-capped size signed base (take_while continues_digits text))

sign-capped : (before : ℕ) (size : Option ℕ) (signed : Bool) (text : List ℕ)
    → behind_sign before (capped size) signed text ≡ behind_sign before size signed text
unfolding behind_sign
sign-capped before size signed [] = refl
sign-capped before size signed (b ∷ text) = base-capped (before + 1) size signed (base_of b) text

pub quote-capped : (before : ℕ) (size : Option ℕ) (text : List ℕ) → behind_quote before (capped size) text ≡ behind_quote before size text
unfolding behind_quote
quote-capped before size text = rw (sign-capped (before + 1) size true (drop 1 text), sign-capped before size false text) refl

-- the size before a quote
pub size-none : (digits : List ℕ) → length digits ≡ 0 → None ≡ capped (size_of digits)
unfolding size_of
size-none [] e = refl
size-none (b ∷ digits) e = absurd (omega arith)

pub size-past : (digits : List ℕ) → length digits ≢ 0 → None ≡ below (number_value 10 digits) → Some (2 ^ 128 - 1) ≡ capped (size_of digits)
unfolding size_of
size-past [] h e = absurd (omega arith)
size-past (b ∷ digits) h e =
    let high = below-none (number_value 10 (b ∷ digits)) (ltb (number_value 10 (b ∷ digits)) (2 ^ 128)) refl e in
    let same : 2 ^ 128 - 1 ≡ min (number_value 10 (b ∷ digits)) (2 ^ 128 - 1) = omega arith in
    ap (λ (n : ℕ). Some n) same

below-small : (n m : ℕ) (t : Bool) → ltb n (2 ^ 128) ≡ t → Some m ≡ cond t (Some n) None → n < 2 ^ 128
below-small n m true e h = ltb-true n (2 ^ 128) e
below-small n m false e h = absurd (cc h)

pub size-some : (v : ℕ) (digits : List ℕ) → length digits ≢ 0 → Some v ≡ below (number_value 10 digits) → Some v ≡ capped (size_of digits)
unfolding size_of
size-some v [] h e = absurd (omega arith)
size-some v (b ∷ digits) h e =
    let n = number_value 10 (b ∷ digits) in
    let is = below-some n v (ltb n (2 ^ 128)) refl e in
    let low = below-small n v (ltb n (2 ^ 128)) refl e in
    let same : v ≡ min n (2 ^ 128 - 1) = omega arith in
    ap (λ (m : ℕ). Some m) same

-- a number, whichever it is
abbrev number_at : List ℕ → ℕ → Bool → Counted
number_at s n r = cond r (behind_quote (n + 1) (size_of (take n s)) (drop (n + 1) s)) (plain_numeral n (number_value 10 (take n s)))

number-at : (s : List ℕ) (n : ℕ) (r : Bool) → n ≡ prefix_len continues_decimal s → r ≡ begins_with_quote (take (length s - n) (drop n s))
    → number_at s n r ≡ number_of s
unfolding number_of
number-at s n r is e =
    ap (number_at s n) (e ∙ ap begins_with_quote (take_rest s n)) ∙ ap (λ (k : ℕ). number_at s k (begins_with_quote (drop k s))) is

pub number-quoted : (s : List ℕ) (n : ℕ) (r : Bool) (size : Option ℕ) (out : Counted) → n ≡ prefix_len continues_decimal s
    → r ≡ begins_with_quote (take (length s - n) (drop n s)) → r ≡ true → size ≡ capped (size_of (take n s))
    → out ≡ behind_quote (n + 1) size (take (length (take (length s - n) (drop n s)) - 1) (drop 1 (take (length s - n) (drop n s)))) → out ≡ number_of s
number-quoted s n r size out is e on same given =
    given
    ∙ ap (behind_quote (n + 1) size) (take_rest (take (length s - n) (drop n s)) 1 ∙ ap (drop 1) (take_rest s n) ∙ drop-drop 1 n s)
    ∙ ap (λ (o : Option ℕ). behind_quote (n + 1) o (drop (n + 1) s)) same ∙ quote-capped (n + 1) (size_of (take n s)) (drop (n + 1) s)
    ∙ ap (number_at s n) (sym on) ∙ number-at s n r is e

pub number-plain : (s : List ℕ) (n : ℕ) (r : Bool) (out : Counted) → n ≡ prefix_len continues_decimal s
    → r ≡ begins_with_quote (take (length s - n) (drop n s)) → r ≡ false
    → out ≡ plain_numeral n (number_value 10 (take n s)) → out ≡ number_of s
number-plain s n r out is e off given = given ∙ ap (number_at s n) (sym off) ∙ number-at s n r is e

-- a plain decimal
pub plain-wide : (n value : ℕ) → None ≡ fitting None value → Err NumberTooWide ≡ plain_numeral n value
unfolding plain_numeral
plain-wide n value e = rw (fitting-not None value (is_wide None value) refl e) refl

pub plain-fits : (n value v : ℕ) → Some v ≡ fitting None value → Ok (numeral 32 true v 0, n) ≡ plain_numeral n value
unfolding plain_numeral
plain-fits n value v e =
    let fits = fitting-is None value v (is_wide None value) refl e in
    ap (λ (x : ℕ). Ok (numeral 32 true x 0, n)) fits.1 ∙ sym (rw fits.0 refl)

-- a number has at least one byte
quoted-first : (b : ℕ) (rest : List ℕ) → b ≡ 39 → begins_with_quote (drop (prefix_len continues_decimal (b ∷ rest)) (b ∷ rest)) ≡ false → ⊥
unfolding begins_with_quote continues_decimal
quoted-first b rest e off = true≢false (subst (λ (x : ℕ). begins_with_quote (drop (prefix_len continues_decimal (x ∷ rest)) (x ∷ rest)) ≡ false) e off)

digit-or-quote : (b : ℕ) (rest : List ℕ) (t : Bool) → is_ascii_digit b ≡ t → (is_ascii_digit b || eqb b 39) ≡ true
    → begins_with_quote (drop (prefix_len continues_decimal (b ∷ rest)) (b ∷ rest)) ≡ false → 0 < prefix_len continues_decimal (b ∷ rest)
unfolding continues_decimal
digit-or-quote b rest true digit begins off = rw digit (omega arith)
digit-or-quote b rest false digit begins off =
    let quote : b ≡ 39 = eqb-true b 39 (sym (ap (λ (t : Bool). t || eqb b 39) digit) ∙ begins) in
    absurd (quoted-first b rest quote off)

pub number-some : (s : List ℕ) (n : ℕ) (r : Bool) → 0 < length s → begins_number (get_or s 0 0) ≡ true → n ≡ prefix_len continues_decimal s
    → r ≡ begins_with_quote (take (length s - n) (drop n s)) → r ≡ false → 0 < n
unfolding begins_number
number-some [] n r l begins is e off = absurd (omega arith)
number-some (b ∷ rest) n r l begins is e off =
    let quote : begins_with_quote (drop (prefix_len continues_decimal (b ∷ rest)) (b ∷ rest)) ≡ false =
    sym (ap (λ (k : ℕ). begins_with_quote (drop k (b ∷ rest))) is) ∙ sym (ap begins_with_quote (take_rest (b ∷ rest) n)) ∙ sym e ∙ off in
    let some = digit-or-quote b rest (is_ascii_digit b) refl begins quote in
    omega arith
