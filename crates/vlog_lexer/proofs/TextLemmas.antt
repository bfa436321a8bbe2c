-- Reading comments and strings from left to right.
use Rattle.std.proofs.Common.{◌≡◌, ◌≢◌, ℕ, ◌+◌, ◌-◌, ◌<◌, ◌≤◌, Bool, true, false, cond, eqb, List, [], ◌∷◌, ◌++◌, length, get_or, take, drop, Option, None}
use Rattle.std.proofs.Common.{Some, Ok, Err, refl, sym, ◌∙◌, ap, subst, arith, append_assoc, append-nil, add-zero}
use Rattle.std.specs.Prelude.{Result, nat_eq}
use Rattle.std.specs.List.{starts_with}
use Rattle.std.specs.Option.{option_map}
use Rattle.std.specs.Str.{bytes_eq}
use Rattle.std.proofs.lemmas.Bool.{eqb-false, eqb-true, ne_eqb}
use Rattle.std.proofs.lemmas.List.{at_drop_all, at_drop_more, drop-drop, take_rest}
use Rattle.vlog_lexer.specs.Comments.{as_space, begins_with_gaps, block_length, squeezed}
use Rattle.vlog_lexer.specs.Texts.{GoodAt, behind_first, bytes_of, closes, escaped, first_byte, is_plain, plain_byte, quoted_length, takes_next}

-- what is left of a text, by its first byte
rest_is : (s : List ℕ) (i : ℕ) → i < length s → take (length s - i) (drop i s) ≡ get_or s i 0 ∷ drop (i + 1) s
rest_is s i l = take_rest s i ∙ at_drop_more (λ (xs : List ℕ). xs) s i 0 l

-- a count behind so many bytes
abbrev pub behind : ℕ → Option ℕ → Option ℕ
behind n found = option_map (λ k. n + k) found

abbrev one_behind : Option ℕ → Option ℕ
one_behind found = option_map (λ k. 1 + k) found

behind-one : (i : ℕ) (found : Option ℕ) → behind i (one_behind found) ≡ behind (i + 1) found
behind-one i None = refl
behind-one i (Some k) = let e : i + (1 + k) ≡ i + 1 + k = omega arith in ap (λ (n : ℕ). Some n) e

found_here : (i : ℕ) (total : Option ℕ) → behind i (Some 0) ≡ total → Some i ≡ total
found_here i total e = ap (λ (n : ℕ). Some n) (sym (add-zero i)) ∙ e

-- the end of a block comment
block-cons : (b : ℕ) (rest : List ℕ) (r : Bool) → r ≡ starts_with nat_eq (b ∷ rest) (42 ∷ (47 ∷ []))
    → block_length (b ∷ rest) ≡ cond r (Some 0) (one_behind (block_length rest))
unfolding block_length
block-cons b rest r e = ap (λ (t : Bool). cond t (Some 0) (one_behind (block_length rest))) (sym e)

block-turn : (s : List ℕ) (i : ℕ) (r : Bool) → i < length s → r ≡ starts_with nat_eq (take (length s - i) (drop i s)) (42 ∷ (47 ∷ []))
    → block_length (drop i s) ≡ cond r (Some 0) (one_behind (block_length (drop (i + 1) s)))
block-turn s i r l e = at_drop_more block_length s i 0 l ∙ block-cons (get_or s i 0) (drop (i + 1) s) r (e
    ∙ ap (λ (xs : List ℕ). starts_with nat_eq xs (42 ∷ (47 ∷ []))) (rest_is s i l))

pub block-here : (s : List ℕ) (i : ℕ) (r : Bool) (total : Option ℕ) → i < length s → r ≡ starts_with nat_eq (take (length s - i) (drop i s)) (42 ∷ (47 ∷ []))
    → r ≡ true → behind i (block_length (drop i s)) ≡ total → Some i ≡ total
block-here s i r total l e on inv = found_here i total (sym (ap (behind i) (block-turn s i r l e
    ∙ ap (λ (t : Bool). cond t (Some 0) (one_behind (block_length (drop (i + 1) s)))) on)) ∙ inv)

pub block-on : (s : List ℕ) (i : ℕ) (r : Bool) (total : Option ℕ) → i < length s → r ≡ starts_with nat_eq (take (length s - i) (drop i s)) (42 ∷ (47 ∷ []))
    → r ≡ false → behind i (block_length (drop i s)) ≡ total → behind (i + 1) (block_length (drop (i + 1) s)) ≡ total
block-on s i r total l e off inv = sym (ap (behind i) (block-turn s i r l e
    ∙ ap (λ (t : Bool). cond t (Some 0) (one_behind (block_length (drop (i + 1) s)))) off) ∙ behind-one i (block_length (drop (i + 1) s))) ∙ inv

pub block-none : (s : List ℕ) (i : ℕ) (total : Option ℕ) → length s ≤ i → behind i (block_length (drop i s)) ≡ total → None ≡ total
unfolding block_length
block-none s i total l inv = sym (ap (behind i) (at_drop_all block_length s i l)) ∙ inv

-- the end of a string
abbrev quote_turn : Bool → ℕ → List ℕ → Bool → Bool → Option ℕ
quote_turn taken b rest ends closed = cond ends None (cond closed (Some 0) (one_behind (quoted_length (takes_next taken b) rest)))

quoted-turn : (s : List ℕ) (i : ℕ) (taken : Bool) → i < length s
    → quoted_length taken (drop i s) ≡ quote_turn taken (get_or s i 0) (drop (i + 1) s) (eqb (get_or s i 0) 10) (closes taken (get_or s i 0))
unfolding quoted_length
quoted-turn s i taken l = at_drop_more (quoted_length taken) s i 0 l

pub quoted-ends : (s : List ℕ) (i : ℕ) (taken : Bool) (total : Option ℕ) → i < length s → get_or s i 0 ≡ 10
    → behind i (quoted_length taken (drop i s)) ≡ total → None ≡ total
quoted-ends s i taken total l is inv =
    sym (ap (behind i) (quoted-turn s i taken l
    ∙ ap (λ (b : ℕ). quote_turn taken (get_or s i 0) (drop (i + 1) s) (eqb b 10) (closes taken (get_or s i 0))) is)) ∙ inv

quoted-goes : (s : List ℕ) (i : ℕ) (taken r : Bool) → i < length s → get_or s i 0 ≢ 10 → r ≡ closes taken (get_or s i 0)
    → quoted_length taken (drop i s) ≡ quote_turn taken (get_or s i 0) (drop (i + 1) s) false r
quoted-goes s i taken r l is e =
    quoted-turn s i taken l
    ∙ ap (λ (t : Bool). quote_turn taken (get_or s i 0) (drop (i + 1) s) t (closes taken (get_or s i 0))) (ne_eqb (get_or s i 0) 10 is)
    ∙ ap (λ (t : Bool). quote_turn taken (get_or s i 0) (drop (i + 1) s) false t) (sym e)

pub quoted-here : (s : List ℕ) (i : ℕ) (taken r : Bool) (total : Option ℕ) → i < length s → get_or s i 0 ≢ 10 → r ≡ closes taken (get_or s i 0) → r ≡ true
    → behind i (quoted_length taken (drop i s)) ≡ total → Some i ≡ total
quoted-here s i taken r total l is e on inv = found_here i total (sym (ap (behind i) (quoted-goes s i taken r l is e
    ∙ ap (λ (t : Bool). quote_turn taken (get_or s i 0) (drop (i + 1) s) false t) on)) ∙ inv)

pub quoted-on : (s : List ℕ) (i : ℕ) (taken r next : Bool) (total : Option ℕ) → i < length s → get_or s i 0 ≢ 10 → r ≡ closes taken (get_or s i 0)
    → r ≡ false → next ≡ takes_next taken (get_or s i 0) → behind i (quoted_length taken (drop i s)) ≡ total
    → behind (i + 1) (quoted_length next (drop (i + 1) s)) ≡ total
quoted-on s i taken r next total l is e off n inv =
    ap (λ (t : Bool). behind (i + 1) (quoted_length t (drop (i + 1) s))) n
    ∙ sym (ap (behind i) (quoted-goes s i taken r l is e ∙ ap (λ (t : Bool). quote_turn taken (get_or s i 0) (drop (i + 1) s) false t) off)
    ∙ behind-one i (quoted_length (takes_next taken (get_or s i 0)) (drop (i + 1) s)))
    ∙ inv

pub quoted-none : (s : List ℕ) (i : ℕ) (taken : Bool) (total : Option ℕ) → length s ≤ i → behind i (quoted_length taken (drop i s)) ≡ total → None ≡ total
unfolding quoted_length
quoted-none s i taken total l inv = sym (ap (behind i) (at_drop_all (quoted_length taken) s i l)) ∙ inv

-- a text with its runs of gaps taken as one space
squeezed-cons : (b : ℕ) (rest : List ℕ) (r : Bool) → r ≡ begins_with_gaps (b ∷ rest) → squeezed (b ∷ rest) ≡ cond r (squeezed rest) (as_space b ∷ squeezed rest)
unfolding squeezed
squeezed-cons b rest r e = ap (λ (t : Bool). cond t (squeezed rest) (as_space b ∷ squeezed rest)) (sym e)

squeezed-turn : (s : List ℕ) (i : ℕ) (r : Bool) → i < length s → r ≡ begins_with_gaps (take (length s - i) (drop i s))
    → squeezed (drop i s) ≡ cond r (squeezed (drop (i + 1) s)) (as_space (get_or s i 0) ∷ squeezed (drop (i + 1) s))
squeezed-turn s i r l e = at_drop_more squeezed s i 0 l ∙ squeezed-cons (get_or s i 0) (drop (i + 1) s) r (e ∙ ap begins_with_gaps (rest_is s i l))

pub squeezed-gap : (s : List ℕ) (i : ℕ) (r : Bool) → i < length s → r ≡ begins_with_gaps (take (length s - i) (drop i s)) → r ≡ true
    → squeezed (drop i s) ≡ squeezed (drop (i + 1) s)
squeezed-gap s i r l e on = squeezed-turn s i r l e
    ∙ ap (λ (t : Bool). cond t (squeezed (drop (i + 1) s)) (as_space (get_or s i 0) ∷ squeezed (drop (i + 1) s))) on

pub squeezed-byte : (s : List ℕ) (i : ℕ) (r : Bool) → i < length s → r ≡ begins_with_gaps (take (length s - i) (drop i s)) → r ≡ false
    → squeezed (drop i s) ≡ as_space (get_or s i 0) ∷ squeezed (drop (i + 1) s)
squeezed-byte s i r l e off = squeezed-turn s i r l e
    ∙ ap (λ (t : Bool). cond t (squeezed (drop (i + 1) s)) (as_space (get_or s i 0) ∷ squeezed (drop (i + 1) s))) off

pub squeezed-end : (s : List ℕ) (i : ℕ) → length s ≤ i → squeezed (drop i s) ≡ []
unfolding squeezed
squeezed-end s i l = at_drop_all squeezed s i l

-- comparing with words of which the first are said
pub same-end : (x : ℕ) (xs w : List ℕ) (k : ℕ) → length w ≤ k → bytes_eq (x ∷ xs) (drop k w) ≡ false
same-end x xs w k l = at_drop_all (λ (ys : List ℕ). bytes_eq (x ∷ xs) ys) w k l

pub same-other : (x : ℕ) (xs w : List ℕ) (k : ℕ) → k < length w → x ≢ get_or w k 0 → bytes_eq (x ∷ xs) (drop k w) ≡ false
same-other x xs w k l n = at_drop_more (λ (ys : List ℕ). bytes_eq (x ∷ xs) ys) w k 0 l ∙ rw (ne_eqb x (get_or w k 0) n) refl

eqb-same : (a : ℕ) (t : Bool) → eqb a a ≡ t → eqb a a ≡ true
eqb-same a true e = e
eqb-same a false e = absurd (eqb-false a a e refl)

pub same-on : (x : ℕ) (xs w : List ℕ) (k : ℕ) → k < length w → x ≡ get_or w k 0 → bytes_eq (x ∷ xs) (drop k w) ≡ bytes_eq xs (drop (k + 1) w)
same-on x xs w k l e = at_drop_more (λ (ys : List ℕ). bytes_eq (x ∷ xs) ys) w k 0 l ∙ rw (ap (λ (y : ℕ). eqb x y) (sym e) ∙ eqb-same x (eqb x x) refl) refl

pub same-empty : (w : List ℕ) (k : ℕ) (t : Bool) → eqb k (length w) ≡ t → k ≤ length w → eqb k (length w) ≡ bytes_eq [] (drop k w)
same-empty w k true e l = let all : length w ≤ k = omega (arith, eqb-true k (length w) e) in e ∙ sym (at_drop_all (λ (ys : List ℕ). bytes_eq [] ys) w k all)
same-empty w k false e l =
    let differs : k ≢ length w = eqb-false k (length w) e in
    let some : k < length w = omega arith in
    e ∙ sym (at_drop_more (λ (ys : List ℕ). bytes_eq [] ys) w k 0 some)

-- the bytes of a string
pub good-plain : (b : ℕ) (rest : List ℕ) (t : Bool) → is_plain b ≡ t → GoodAt (b ∷ rest) (behind_first (plain_byte b) (bytes_of rest)) (plain_byte b)
unfolding plain_byte
good-plain b rest true e = rw e refl
good-plain b rest false e = rw e refl

good-escape : (b c : ℕ) (rest : List ℕ) (o : Option ℕ)
    → GoodAt (b ∷ (c ∷ rest)) (behind_first (option_map (λ d. (d, 2)) o) (bytes_of rest)) (option_map (λ d. (d, 2)) o)
good-escape b c rest None = refl
good-escape b c rest (Some d) = refl

good-two : (b c : ℕ) (rest : List ℕ) (t : Bool) → eqb b 92 ≡ t → GoodAt (b ∷ (c ∷ rest)) (bytes_of (b ∷ (c ∷ rest))) (first_byte (b ∷ (c ∷ rest)))
unfolding bytes_of first_byte
good-two b c rest true e = rw e (good-escape b c rest (escaped c))
good-two b c rest false e = rw e (good-plain b (c ∷ rest) (is_plain b) refl)

-- reading goes on behind the first byte that a text stands for
good : (xs : List ℕ) → 0 < length xs → GoodAt xs (bytes_of xs) (first_byte xs)
unfolding bytes_of first_byte
good [] l = absurd (omega arith)
good (b ∷ []) l = good-plain b [] (is_plain b) refl
good (b ∷ (c ∷ rest)) l = good-two b c rest (eqb b 92) refl

-- what the front stands for, by the bytes there
pub first_byte-none : (s : List ℕ) → length s < 1 → None ≡ first_byte s
unfolding first_byte
first_byte-none [] l = refl
first_byte-none (b ∷ s) l = absurd (omega arith)

pub first_byte-one : (s : List ℕ) → 1 ≤ length s → length s < 2 → plain_byte (get_or s 0 0) ≡ first_byte s
unfolding first_byte
first_byte-one [] l m = absurd (omega arith)
first_byte-one (b ∷ []) l m = refl
first_byte-one (b ∷ (c ∷ s)) l m = absurd (omega arith)

pub first_byte-escape : (s : List ℕ) (o : Option ℕ) → 2 ≤ length s → get_or s 0 0 ≡ 92 → o ≡ escaped (get_or s 1 0) → option_map (λ d. (d, 2)) o ≡ first_byte s
unfolding first_byte
first_byte-escape [] o l is e = absurd (omega arith)
first_byte-escape (b ∷ []) o l is e = absurd (omega arith)
first_byte-escape (b ∷ (c ∷ s)) o l is e = ap (option_map (λ d. (d, 2))) e
    ∙ sym (ap (λ (x : ℕ). cond (eqb x 92) (option_map (λ d. (d, 2)) (escaped c)) (plain_byte b)) is)

pub first_byte-plain : (s : List ℕ) → 2 ≤ length s → get_or s 0 0 ≢ 92 → plain_byte (get_or s 0 0) ≡ first_byte s
unfolding first_byte
first_byte-plain [] l is = absurd (omega arith)
first_byte-plain (b ∷ []) l is = absurd (omega arith)
first_byte-plain (b ∷ (c ∷ s)) l is = sym (ap (λ (t : Bool). cond t (option_map (λ d. (d, 2)) (escaped c)) (plain_byte b)) (ne_eqb b 92 is))

-- the bytes of a string behind those that are read, from so many bytes of its text
abbrev pub joined : List ℕ → ℕ → Result (List ℕ) ℕ → Result (List ℕ) ℕ
joined front n (Ok bytes) = Ok (front ++ bytes)
joined front n (Err at) = Err (n + at)

joined-first : (front : List ℕ) (i b n : ℕ) (read : Result (List ℕ) ℕ)
    → joined front i (behind_first (Some (b, n)) read) ≡ joined (front ++ b ∷ []) (i + n) read
joined-first front i b n (Ok bytes) = ap (λ (xs : List ℕ). Ok xs) (sym (append_assoc front (b ∷ []) bytes))
joined-first front i b n (Err at) = let e : i + (n + at) ≡ i + n + at = omega arith in ap (λ (k : ℕ). Err k) e

good_at : (s : List ℕ) (i : ℕ) (o : Option (ℕ × ℕ)) → i < length s → o ≡ first_byte (take (length s - i) (drop i s)) → GoodAt (drop i s) (bytes_of (drop i s)) o
good_at s i o l e =
    let whole : 0 < length (drop i s) = rw (at_drop_more (λ (xs : List ℕ). length xs) s i 0 l) (omega arith) in
    subst (λ (x : Option (ℕ × ℕ)). GoodAt (drop i s) (bytes_of (drop i s)) x) (sym (e ∙ ap first_byte (take_rest s i))) (good (drop i s) whole)

pub bytes-stop : (s front : List ℕ) (i : ℕ) (total : Result (List ℕ) ℕ) → i < length s → None ≡ first_byte (take (length s - i) (drop i s))
    → joined front i (bytes_of (drop i s)) ≡ total → total ≡ Err i
bytes-stop s front i total l e inv = sym inv ∙ ap (joined front i) (good_at s i None l e) ∙ ap (λ (k : ℕ). Err k) (add-zero i)

pub bytes-on : (s front : List ℕ) (i b n : ℕ) (total : Result (List ℕ) ℕ) → i < length s → Some (b, n) ≡ first_byte (take (length s - i) (drop i s))
    → joined front i (bytes_of (drop i s)) ≡ total → joined (front ++ b ∷ []) (i + n) (bytes_of (drop (i + n) s)) ≡ total
bytes-on s front i b n total l e inv =
    sym (ap (joined front i) (good_at s i (Some (b, n)) l e ∙ ap (λ (xs : List ℕ). behind_first (Some (b, n)) (bytes_of xs)) (drop-drop n i s))
    ∙ joined-first front i b n (bytes_of (drop (i + n) s))) ∙ inv

pub bytes-all : (s front : List ℕ) (i : ℕ) (total : Result (List ℕ) ℕ) → length s ≤ i → joined front i (bytes_of (drop i s)) ≡ total → total ≡ Ok front
unfolding bytes_of
bytes-all s front i total l inv = sym inv ∙ ap (joined front i) (at_drop_all bytes_of s i l) ∙ ap (λ (xs : List ℕ). Ok xs) (append-nil front)
