-- The first word of bytes, as a piece.
use Rattle.std.proofs.Common.{◌≡◌, ℕ, zero, suc, ◌+◌, ◌<◌, ◌≤◌, Bool, true, false, eqb, List, [], ◌∷◌, ◌++◌, length, take, drop, refl, sym, ◌∙◌, ap, arith}
use Rattle.std.proofs.Common.{append_assoc, length-drop}
use Rattle.std.specs.Prelude.{◌-◌, ◌*◌, ◌&&◌, not, slice_index}
use Rattle.std.proofs.lemmas.List.{take-append-drop}
use Rattle.std.specs.List.{list_all}
use Rattle.std.proofs.lemmas.Bool.{cases_Bool, eqb-true, true≢false}
use Rattle.std.proofs.lemmas.Bool.Decides.{nat_tests}
use mathlib.Core.Logic.{inl, inr}
use Rattle.memchr.specs.Find.{is_byte, is_byte2}
use Rattle.cvd_text.specs.Pieces.{Piece, a_word, feed, pieces_of, onto_word, empty_word}
use Rattle.cvd_cursor.specs.Places.{IsPlaced, pieces_left, is_ended}
use Rattle.cvd_cursor.specs.Reads.{is_nothing}

-- the bytes of which none passes a test
abbrev pub none_passes : (ℕ → Bool) → List ℕ → Bool
none_passes test bs = list_all (λ b. not (test b)) bs

fails : (b : Bool) → ¬ (b ≡ true) → not b ≡ true
fails true h = absurd (h refl)
fails false h = refl

both : (a b : Bool) → a ≡ true → b ≡ true → (a && b) ≡ true
both a b e f = rw (e, f) refl

first_of : (a b : Bool) → (a && b) ≡ true → a ≡ true
first_of true b e = refl
first_of false b e = absurd (true≢false (sym e))

second_of : (a b : Bool) → (a && b) ≡ true → b ≡ true
second_of true b e = e
second_of false b e = absurd (true≢false (sym e))

pub none_before : (test : ℕ → Bool) (bs : List ℕ) (at : ℕ) → at ≤ length bs → ((k : ℕ) → k < at → ¬ (test (slice_index bs k) ≡ true))
    → none_passes test (take at bs) ≡ true
none_before test bs zero within miss = refl
none_before test [] (suc at) within miss = refl
none_before test (b ∷ bs) (suc at) within miss =
    both (not (test b)) _ (fails (test b) (miss 0 (omega arith))) (none_before test bs at (omega arith) (λ k small. miss (suc k) (omega arith)))

pub none_at_all : (test : ℕ → Bool) (bs : List ℕ) → ((k : ℕ) → k < length bs → ¬ (test (slice_index bs k) ≡ true)) → none_passes test bs ≡ true
none_at_all test [] miss = refl
none_at_all test (b ∷ bs) miss = both (not (test b)) _ (fails (test b) (miss 0 (omega arith))) (none_at_all test bs (λ k small. miss (suc k) (omega arith)))

pub split_at : (bs : List ℕ) (at : ℕ) → at < length bs → bs ≡ take at bs ++ slice_index bs at ∷ drop (suc at) bs
split_at [] at within = absurd (omega arith)
split_at (b ∷ bs) zero within = refl
split_at (b ∷ bs) (suc at) within = ap (λ (xs : List ℕ). b ∷ xs) (split_at bs at (omega arith))

-- ---- ends

pub ended_behind : (w : List ℕ) (sep : ℕ) (bs : List ℕ) → is_ended (w ++ sep ∷ bs) ≡ true → is_ended bs ≡ true
ended_behind [] sep [] e = refl
ended_behind [] sep (b ∷ bs) e = e
ended_behind (x ∷ []) sep bs e = ended_behind [] sep bs e
ended_behind (x ∷ y ∷ w) sep bs e = ended_behind (y ∷ w) sep bs e

-- bytes that end with a line feed have pieces
pub record Some_pieces (bs : List ℕ) : Type 0 where
  pub first : Piece
  pub more : List Piece
  pub split : pieces_of bs ≡ first ∷ more

feed_pieces : (b : ℕ) (bs : List ℕ) → b ≡ 10 → pieces_of (b ∷ bs) ≡ a_word [] ∷ feed ∷ pieces_of bs
feed_pieces b bs e = ap (λ x. pieces_of (x ∷ bs)) e

blank_pieces : (b : ℕ) (bs : List ℕ) → b ≡ 32 → pieces_of (b ∷ bs) ≡ empty_word (pieces_of bs)
blank_pieces b bs e = ap (λ x. pieces_of (x ∷ bs)) e

other_pieces : (b : ℕ) (bs : List ℕ) → eqb b 10 ≡ false → eqb b 32 ≡ false → pieces_of (b ∷ bs) ≡ onto_word b (pieces_of bs)
other_pieces b bs e f = rw (e, f) refl

empty_some : (ps : List Piece) (p : Piece) (more : List Piece) → ps ≡ p ∷ more → empty_word ps ≡ a_word [] ∷ p ∷ more
empty_some ps p more e = ap empty_word e

onto_some : (b : ℕ) (p : Piece) (more : List Piece) → (q : Piece) × ((rest : List Piece) × (onto_word b (p ∷ more) ≡ q ∷ rest))
onto_some b (a_word w) more = (a_word (b ∷ w), (more, refl))
onto_some b feed more = (a_word (b ∷ []), (feed ∷ more, refl))

pub some_pieces : (b : ℕ) (bs : List ℕ) → is_ended (b ∷ bs) ≡ true → Some_pieces (b ∷ bs)
some_pieces b [] e = record { first = a_word []; more = feed ∷ []; split = feed_pieces b [] (eqb-true b 10 e) }
some_pieces b (c ∷ bs) e =
    let later = some_pieces c bs e in
    elim (cases_Bool (eqb b 10)) [
      | inl feeds ↦ record { first = a_word []; more = feed ∷ pieces_of (c ∷ bs); split = feed_pieces b (c ∷ bs) (eqb-true b 10 feeds) }
      | inr no_feed ↦ elim (cases_Bool (eqb b 32)) [
        | inl blank ↦ record {
          first = a_word [];
          more = later.first ∷ later.more;
          split = blank_pieces b (c ∷ bs) (eqb-true b 32 blank) ∙ empty_some _ later.first later.more later.split;
        }
        | inr no_blank ↦ let on = onto_some b later.first later.more in record {
          first = on.0;
          more = on.1.0;
          split = other_pieces b (c ∷ bs) no_feed no_blank ∙ ap (onto_word b) later.split ∙ on.1.1;
        }
      ]
    ]

-- ---- the first word

abbrev pub separates : ℕ → Bool
separates = is_byte2 32 10

no_feed_in : (b : ℕ) → not (separates b) ≡ true → eqb b 10 ≡ false
no_feed_in b h = grind (arith, nat_tests)

no_blank_in : (b : ℕ) → not (separates b) ≡ true → eqb b 32 ≡ false
no_blank_in b h = grind (arith, nat_tests)

which : (sep : ℕ) → separates sep ≡ true → eqb sep 10 ≡ false → sep ≡ 32
which sep h e = grind (arith, nat_tests)

empty_front : (sep : ℕ) (bs : List ℕ) → separates sep ≡ true → is_ended (sep ∷ bs) ≡ true → pieces_of (sep ∷ bs) ≡ a_word [] ∷ pieces_left (eqb sep 10) bs
empty_front sep bs h e = elim (cases_Bool (eqb sep 10)) [
  | inl feeds ↦ feed_pieces sep bs (eqb-true sep 10 feeds) ∙ sym (ap (λ t. a_word [] ∷ pieces_left t bs) feeds)
  | inr no_feed ↦ by bs e (which sep h no_feed) ∙ sym (ap (λ t. a_word [] ∷ pieces_left t bs) no_feed)
]
  where
    by : (bs : List ℕ) → is_ended (sep ∷ bs) ≡ true → sep ≡ 32 → pieces_of (sep ∷ bs) ≡ a_word [] ∷ pieces_of bs
    by [] e blank = absurd (grind (arith, nat_tests))
    by (b ∷ bs) e blank =
        let later = some_pieces b bs e in
        blank_pieces sep (b ∷ bs) blank ∙ empty_some _ later.first later.more later.split ∙ ap (λ l. a_word [] ∷ l) (sym later.split)

pub first_cut : (w : List ℕ) (sep : ℕ) (bs : List ℕ) → none_passes separates w ≡ true → separates sep ≡ true → is_ended (w ++ sep ∷ bs) ≡ true
    → pieces_of (w ++ sep ∷ bs) ≡ a_word w ∷ pieces_left (eqb sep 10) bs
first_cut [] sep bs clear h e = empty_front sep bs h e
first_cut (b ∷ w) sep bs clear h e =
    let here = first_of (not (separates b)) _ clear in
    other_pieces b (w ++ sep ∷ bs) (no_feed_in b here) (no_blank_in b here)
    ∙ ap (onto_word b) (first_cut w sep bs (second_of (not (separates b)) _ clear) h (tail_ended b w sep bs e))
  where
    tail_ended : (b : ℕ) (w : List ℕ) (sep : ℕ) (bs : List ℕ) → is_ended (b ∷ (w ++ sep ∷ bs)) ≡ true → is_ended (w ++ sep ∷ bs) ≡ true
    tail_ended b [] sep bs e = e
    tail_ended b (x ∷ w) sep bs e = e

-- bytes without a separator that are none or end with one are none
pub nothing_left : (bs : List ℕ) → none_passes separates bs ≡ true → is_ended bs ≡ true → bs ≡ []
nothing_left [] clear e = refl
nothing_left (b ∷ []) clear e = absurd (true≢false (sym e ∙ no_feed_in b (first_of (not (separates b)) _ clear)))
nothing_left (b ∷ c ∷ bs) clear e =
    absurd (some c bs (nothing_left (c ∷ bs) (second_of (not (separates b)) _ clear) e))
  where
    some : (c : ℕ) (bs : List ℕ) → c ∷ bs ≡ [] → ⊥
    some c bs h = cc

-- ---- what is behind the last line feed

no_line : (b : ℕ) → not (is_byte 10 b) ≡ true → eqb b 10 ≡ false
no_line b h = grind (arith, nat_tests)

pub no_pieces : (bs : List ℕ) → none_passes (is_byte 10) bs ≡ true → pieces_of bs ≡ []
no_pieces [] clear = refl
no_pieces (b ∷ bs) clear =
    let later = no_pieces bs (second_of (not (is_byte 10 b)) _ clear) in
    let here = no_line b (first_of (not (is_byte 10 b)) _ clear) in
    elim (cases_Bool (eqb b 32)) [
      | inl blank ↦ blank_pieces b bs (eqb-true b 32 blank) ∙ ap empty_word later
      | inr no_blank ↦ other_pieces b bs here no_blank ∙ ap (onto_word b) later
    ]

pub pieces_before : (front back : List ℕ) → pieces_of back ≡ [] → pieces_of (front ++ back) ≡ pieces_of front
pieces_before [] back none = none
pieces_before (b ∷ front) back none =
    let later = pieces_before front back none in
    elim (cases_Bool (eqb b 10)) [
      | inl feeds ↦ feed_pieces b (front ++ back) (eqb-true b 10 feeds) ∙ ap (λ l. a_word [] ∷ feed ∷ l) later ∙ sym (feed_pieces b front (eqb-true b 10 feeds))
      | inr no_feed ↦ elim (cases_Bool (eqb b 32)) [
        | inl blank ↦ blank_pieces b (front ++ back) (eqb-true b 32 blank) ∙ ap empty_word later ∙ sym (blank_pieces b front (eqb-true b 32 blank))
        | inr no_blank ↦ other_pieces b (front ++ back) no_feed no_blank ∙ ap (onto_word b) later ∙ sym (other_pieces b front no_feed no_blank)
      ]
    ]

pub ended_front : (start : List ℕ) → is_ended (start ++ 10 ∷ []) ≡ true
ended_front [] = refl
ended_front (b ∷ []) = refl
ended_front (b ∷ c ∷ start) = ended_front (c ∷ start)

-- the first word ends at the first separator
pub word_at : (rest : List ℕ) (at : ℕ) → is_ended rest ≡ true → at < length rest → ((k : ℕ) → k < at → ¬ (separates (slice_index rest k) ≡ true))
    → separates (slice_index rest at) ≡ true
    → pieces_left false rest ≡ a_word (take at rest) ∷ pieces_left (eqb (slice_index rest at) 10) (drop (suc at) rest)
word_at rest at ended within miss here =
    let split = split_at rest at within in
    let clear = none_before separates rest at (omega arith) miss in
    ap pieces_of split ∙ first_cut (take at rest) (slice_index rest at) (drop (suc at) rest) clear here (sym (ap is_ended split) ∙ ended)

pub nothing_at : (rest : List ℕ) → is_ended rest ≡ true → ((k : ℕ) → k < length rest → ¬ (separates (slice_index rest k) ≡ true)) → pieces_left false rest ≡ []
nothing_at rest ended miss = ap pieces_of (nothing_left rest (none_at_all separates rest miss) ended)

-- what is left lies in the text where a separator is passed over
pub placed_behind : (text rest : List ℕ) (count : ℕ) (at_feed : Bool) (at : ℕ) → IsPlaced text rest count at_feed → at < length rest
    → IsPlaced text (drop (suc at) rest) count (eqb (slice_index rest at) 10)
placed_behind text rest count at_feed at p within =
    let split = split_at rest at within in
    let sep = slice_index rest at in
    record {
      front = p.front ++ (take at rest ++ sep ∷ []);
      back = p.back;
      split = p.split ∙ ap (λ l. p.front ++ (l ++ p.back)) split ∙ regroup p.front (take at rest) (drop (suc at) rest) p.back sep;
      counted = p.counted;
      ended = ended_behind (take at rest) sep (drop (suc at) rest) (sym (ap is_ended split) ∙ p.ended);
      clear = p.clear;
      fed = λ feeds. (
        p.front ++ take at rest,
        ap (λ b. p.front ++ (take at rest ++ b ∷ [])) (eqb-true sep 10 feeds)
            ∙ sym (append_assoc p.front (take at rest) (10 ∷ [])),
      );
    }
  where
    regroup : (front w more back : List ℕ) (sep : ℕ) → front ++ ((w ++ sep ∷ more) ++ back) ≡ (front ++ (w ++ sep ∷ [])) ++ (more ++ back)
    regroup front w more back sep = simp append_assoc

-- all of a text is left at first
pub placed_whole : (text : List ℕ) (end : ℕ) → end ≤ length text → is_ended (take end text) ≡ true → pieces_of (drop end text) ≡ []
    → IsPlaced text (take end text) (length text - end) false
placed_whole text end within ended clear = record {
  front = [];
  back = drop end text;
  split = sym (take-append-drop end text);
  counted = length-drop end text;
  ended = ended;
  clear = clear;
  fed = λ e. absurd (true≢false (sym e));
}

-- a line feed that comes next is passed over
pub placed_on : (text rest : List ℕ) (count : ℕ) (at_feed : Bool) → IsPlaced text rest count at_feed → IsPlaced text rest count false
placed_on text rest count at_feed p = record {
  front = p.front;
  back = p.back;
  split = p.split;
  counted = p.counted;
  ended = p.ended;
  clear = p.clear;
  fed = λ e. absurd (true≢false (sym e));
}

pub all_pieces : (text : List ℕ) (end : ℕ) → pieces_of (drop end text) ≡ [] → pieces_of (take end text) ≡ pieces_of text
all_pieces text end clear = sym (pieces_before (take end text) (drop end text) clear) ∙ ap pieces_of (take-append-drop end text)

-- ---- what comes first

-- no line feed comes next
abbrev pub is_inside : List Piece → Bool
is_inside [] = true
is_inside (a_word w ∷ ps) = true
is_inside (feed ∷ ps) = false

empty_inside : (ps : List Piece) → is_inside (empty_word ps) ≡ true
empty_inside [] = refl
empty_inside (p ∷ ps) = refl

onto_inside : (b : ℕ) (ps : List Piece) → is_inside (onto_word b ps) ≡ true
onto_inside b [] = refl
onto_inside b (a_word w ∷ ps) = refl
onto_inside b (feed ∷ ps) = refl

pub pieces_inside : (bs : List ℕ) → is_inside (pieces_of bs) ≡ true
pieces_inside [] = refl
pieces_inside (b ∷ bs) = elim (cases_Bool (eqb b 10)) [
  | inl feeds ↦ ap is_inside (feed_pieces b bs (eqb-true b 10 feeds))
  | inr no_feed ↦ elim (cases_Bool (eqb b 32)) [
    | inl blank ↦ ap is_inside (blank_pieces b bs (eqb-true b 32 blank)) ∙ empty_inside (pieces_of bs)
    | inr no_blank ↦ ap is_inside (other_pieces b bs no_feed no_blank) ∙ onto_inside b (pieces_of bs)
  ]
]

pub nothing_is : (rest : List ℕ) → is_ended rest ≡ true → is_nothing (pieces_of rest) ≡ eqb (length rest) 0
nothing_is [] ended = refl
nothing_is (b ∷ bs) ended = ap is_nothing (some_pieces b bs ended).split ∙ sym (long (length bs))
  where
    long : (n : ℕ) → eqb (suc n) 0 ≡ false
    long n = grind (arith, nat_tests)

-- ---- how many pieces there are

empty_count : (ps : List Piece) → length (empty_word ps) ≤ length ps + 1
empty_count [] = omega arith
empty_count (p ∷ ps) = omega arith

onto_count : (b : ℕ) (ps : List Piece) → length (onto_word b ps) ≤ length ps + 1
onto_count b [] = omega arith
onto_count b (a_word w ∷ ps) = omega arith
onto_count b (feed ∷ ps) = omega arith

pub pieces_count : (bs : List ℕ) → length (pieces_of bs) ≤ 2 * length bs
pieces_count [] = omega arith
pieces_count (b ∷ bs) =
    let later = pieces_count bs in
    elim (cases_Bool (eqb b 10)) [
      | inl feeds ↦ let e = ap length (feed_pieces b bs (eqb-true b 10 feeds)) in omega arith
      | inr no_feed ↦ elim (cases_Bool (eqb b 32)) [
        | inl blank ↦ let e = ap length (blank_pieces b bs (eqb-true b 32 blank)) in let m = empty_count (pieces_of bs) in omega arith
        | inr no_blank ↦ let e = ap length (other_pieces b bs no_feed no_blank) in let m = onto_count b (pieces_of bs) in omega arith
      ]
    ]

pub left_count : (at_feed : Bool) (bs : List ℕ) → length (pieces_left at_feed bs) ≤ 2 * length bs + 1
left_count true bs = let m = pieces_count bs in omega arith
left_count false bs = let m = pieces_count bs in omega arith
