-- Where lines begin.
use Rattle.std.proofs.Common.{◌≡◌, ℕ, suc, ◌+◌, ◌<◌, ◌≤◌, Bool, true, false, eqb, cond, List, [], ◌∷◌, ◌++◌, length, refl, sym, ◌∙◌, ap, arith, length-append}
use Rattle.std.proofs.Common.{length-drop, append_assoc, take, drop, ◌-◌}
use Rattle.std.specs.Prelude.{◌&&◌, not, filter, slice_index}
use Rattle.std.proofs.lemmas.Bool.{eqb-true, true≢false}
use Rattle.cvd_text.specs.Pieces.{Piece, a_word, feed, pieces_of, onto_word, empty_word}
use Rattle.cvd_text.specs.Fault.{is_feed, place_behind, line_start}
use Rattle.memchr.specs.Find.{is_byte}
use Rattle.std.proofs.lemmas.List.{get_or-drop, length-take-le}
use Rattle.cvd_cursor.specs.Places.{IsPlaced, pieces_left}
use Rattle.cvd_cursor.proofs.Cutting.{none_passes, none_at_all, split_at}

-- how many pieces are line feeds, and how many bytes are
abbrev pub feeds : List Piece → ℕ
feeds ps = length (filter is_feed ps)

abbrev pub lines : List ℕ → ℕ
lines [] = 0
lines (b ∷ bs) = cond (eqb b 10) (suc (lines bs)) (lines bs)

feeds-append : (ps qs : List Piece) → feeds (ps ++ qs) ≡ feeds ps + feeds qs
feeds-append [] qs = omega arith
feeds-append (a_word w ∷ ps) qs = feeds-append ps qs
feeds-append (feed ∷ ps) qs = let later = feeds-append ps qs in omega arith

feeds-onto : (b : ℕ) (ps : List Piece) → feeds (onto_word b ps) ≡ feeds ps
feeds-onto b [] = refl
feeds-onto b (a_word w ∷ ps) = refl
feeds-onto b (feed ∷ ps) = refl

feeds-empty : (ps : List Piece) → feeds (empty_word ps) ≡ feeds ps
feeds-empty [] = refl
feeds-empty (p ∷ ps) = refl

pub feeds-pieces : (bs : List ℕ) → feeds (pieces_of bs) ≡ lines bs
feeds-pieces [] = refl
feeds-pieces (b ∷ bs) =
    let later = feeds-pieces bs in
    elim (eqb b 10) as (λ x. feeds (cond x (a_word [] ∷ feed ∷ pieces_of bs) (cond (eqb b 32) (empty_word (pieces_of bs)) (onto_word b (pieces_of bs))))
    ≡ cond x (suc (lines bs)) (lines bs)) [
      | true ↦ ap suc later
      | false ↦ elim (eqb b 32) as (λ y. feeds (cond y (empty_word (pieces_of bs)) (onto_word b (pieces_of bs))) ≡ lines bs) [
        | true ↦ feeds-empty (pieces_of bs) ∙ later
        | false ↦ feeds-onto b (pieces_of bs) ∙ later
      ]
    ]

pub lines-append : (xs ys : List ℕ) → lines (xs ++ ys) ≡ lines xs + lines ys
lines-append [] ys = omega arith
lines-append (b ∷ xs) ys =
    let later = lines-append xs ys in
    elim (eqb b 10) as (λ x. cond x (suc (lines (xs ++ ys))) (lines (xs ++ ys)) ≡ cond x (suc (lines xs)) (lines xs) + lines ys) [
      | true ↦ omega arith
      | false ↦ later
    ]

-- behind the last line feed of a front
pub behind_feed : (start rest : List ℕ) → place_behind (suc (lines start)) (start ++ 10 ∷ rest) ≡ length start + 1
behind_feed [] rest = refl
behind_feed (b ∷ start) rest =
    let later = behind_feed start rest in
    elim (eqb b 10) as (λ x. 1 + cond x (place_behind (cond x (suc (lines start)) (lines start)) (start ++ 10 ∷ rest))
    (place_behind (suc (cond x (suc (lines start)) (lines start))) (start ++ 10 ∷ rest)) ≡ suc (length start) + 1) [
      | true ↦ omega arith
      | false ↦ omega arith
    ]

-- a line's start by the bytes in front: none of them is a line feed, or one is the last
pub start_of : (text : List ℕ) (given : List Piece) (front rest : List ℕ) → text ≡ front ++ rest → feeds given ≡ lines front → lines front ≡ 0
    → line_start text given ≡ 0
start_of text given front rest split count none = ap (λ n. place_behind n text) (count ∙ none) ∙ by text
  where
    by : (text : List ℕ) → place_behind 0 text ≡ 0
    by text = refl

pub start_behind : (text : List ℕ) (given : List Piece) (start mid rest : List ℕ) → text ≡ start ++ 10 ∷ (mid ++ rest) → feeds given ≡ suc (lines start)
    → line_start text given ≡ length start + 1
start_behind text given start mid rest split count =
    ap (λ n. place_behind n text) count ∙ ap (place_behind (suc (lines start))) split ∙ behind_feed start (mid ++ rest)

-- the line feeds of the pieces that were given are those of the bytes in front
pub feeds_given : (front rest back : List ℕ) (given : List Piece) → pieces_of back ≡ []
    → pieces_of (front ++ (rest ++ back)) ≡ given ++ pieces_left false rest → feeds given ≡ lines front
feeds_given front rest back given clear e =
    let a = feeds-pieces (front ++ (rest ++ back)) in
    let b = ap feeds e ∙ feeds-append given (pieces_of rest) in
    let c = feeds-pieces rest in
    let d = lines-append front (rest ++ back) in
    let f = lines-append rest back in
    let g = sym (feeds-pieces back) ∙ ap feeds clear in
    omega arith

pub feeds_given_feed : (front rest back : List ℕ) (given : List Piece) → pieces_of back ≡ []
    → pieces_of (front ++ (rest ++ back)) ≡ given ++ pieces_left true rest → feeds given + 1 ≡ lines front
feeds_given_feed front rest back given clear e =
    let a = feeds-pieces (front ++ (rest ++ back)) in
    let b = ap feeds e ∙ feeds-append given (feed ∷ pieces_of rest) in
    let c = feeds-pieces rest in
    let d = lines-append front (rest ++ back) in
    let f = lines-append rest back in
    let g = sym (feeds-pieces back) ∙ ap feeds clear in
    omega arith

-- bytes in front, with as many line feeds as the pieces that were given
pub record Ahead (text : List ℕ) (given : List Piece) (before : ℕ) : Type 0 where
  pub front : List ℕ
  pub back : List ℕ
  pub split : text ≡ front ++ back
  pub cut : take before text ≡ front
  pub count : feeds given ≡ lines front

take_front : (front back : List ℕ) → take (length front) (front ++ back) ≡ front
take_front [] back = refl
take_front (b ∷ front) back = ap (λ l. b ∷ l) (take_front front back)

lengths : (text rest : List ℕ) (count : ℕ) (at_feed : Bool) (p : IsPlaced text rest count at_feed) → length text - count - length rest ≡ length p.front
lengths text rest count at_feed p =
    let a = ap length p.split ∙ length-append p.front (rest ++ p.back) in
    let b = length-append rest p.back in
    let c = p.counted in
    omega arith

pub ahead_word : (text rest : List ℕ) (count : ℕ) (at_feed : Bool) (p : IsPlaced text rest count at_feed) (given : List Piece) (before : ℕ)
    → at_feed ≡ false → before ≡ length text - count - length rest → pieces_of text ≡ given ++ pieces_left at_feed rest → Ahead text given before
ahead_word text rest count at_feed p given before word is e = record {
  front = p.front;
  back = rest ++ p.back;
  split = p.split;
  cut = ap (λ n. take n text) (is ∙ lengths text rest count at_feed p) ∙ ap (take (length p.front)) p.split ∙ take_front p.front (rest ++ p.back);
  count = feeds_given p.front rest p.back given p.clear (sym (ap pieces_of p.split) ∙ e ∙ ap (λ t. given ++ pieces_left t rest) word);
}

pub ahead_feed : (text rest : List ℕ) (count : ℕ) (at_feed : Bool) (p : IsPlaced text rest count at_feed) (given : List Piece) (before : ℕ)
    → at_feed ≡ true → before ≡ length text - count - length rest - 1 → pieces_of text ≡ given ++ pieces_left at_feed rest → Ahead text given before
ahead_feed text rest count at_feed p given before feeds_next is e =
    let fed = p.fed feeds_next in
    let start = fed.0 in
    let back = rest ++ p.back in
    let size = lengths text rest count at_feed p in
    let long = ap length fed.1 ∙ length-append start (10 ∷ []) in
    let split : text ≡ start ++ 10 ∷ back = p.split ∙ ap (λ l. l ++ back) fed.1 ∙ append_assoc start (10 ∷ []) back in
    let same : before ≡ length start = omega arith in
    let all = feeds_given_feed p.front rest p.back given p.clear (sym (ap pieces_of p.split) ∙ e ∙ ap (λ t. given ++ pieces_left t rest) feeds_next) in
    let counted = ap lines fed.1 ∙ lines-append start (10 ∷ []) in
    record {
      front = start;
      back = 10 ∷ back;
      split = split;
      cut = ap (λ n. take n text) same ∙ ap (take (length start)) split ∙ take_front start (10 ∷ back);
      count = omega arith;
    }

lines_none : (bs : List ℕ) → none_passes (is_byte 10) bs ≡ true → lines bs ≡ 0
lines_none [] h = refl
lines_none (b ∷ bs) h = by (eqb b 10) h (lines_none bs)
  where
    by : (t : Bool) → (not t && none_passes (is_byte 10) bs) ≡ true → (none_passes (is_byte 10) bs ≡ true → lines bs ≡ 0)
        → cond t (suc (lines bs)) (lines bs) ≡ 0
    by true h later = absurd (true≢false (sym h))
    by false h later = later h

-- no line feed stands in front
pub starts_none : (text : List ℕ) (given : List Piece) (before : ℕ) → Ahead text given before
    → ((k : ℕ) → k < length (take before text) → ¬ (is_byte 10 (slice_index (take before text) k) ≡ true)) → 0 ≡ line_start text given
starts_none text given before a miss =
    sym (start_of text given a.front a.back a.split a.count
    (ap lines (sym a.cut) ∙ lines_none (take before text) (none_at_all (is_byte 10) (take before text) miss)))

-- the last one stands there
pub starts_some : (text : List ℕ) (given : List Piece) (before at : ℕ) → Ahead text given before → at < length (take before text)
    → is_byte 10 (slice_index (take before text) at) ≡ true
    → ((k : ℕ) → at + 1 ≤ k → k < length (take before text) → ¬ (is_byte 10 (slice_index (take before text) k) ≡ true))
    → at + 1 ≡ line_start text given
starts_some text given before at a within here miss =
    let pre = take before text in
    let start = take at pre in
    let mid = drop (suc at) pre in
    let split = split_at pre at within ∙ ap (λ b. start ++ b ∷ mid) (eqb-true (slice_index pre at) 10 here) in
    let none = lines_none mid (none_at_all (is_byte 10) mid (λ k small p. miss (suc at + k) (omega arith) (omega (arith, length-drop (suc at) pre))
    (ap (is_byte 10) (sym (get_or-drop (suc at) pre k 0)) ∙ p))) in
    let count = ap lines (sym a.cut ∙ split) ∙ lines-append start (10 ∷ mid) in
    let size : length start ≡ at = length-take-le at pre (omega arith) in
    let number : feeds given ≡ suc (lines start) = omega (arith, a.count) in
    let e = start_behind text given start mid a.back
    (a.split ∙ ap (λ l. l ++ a.back) (sym a.cut ∙ split) ∙ append_assoc start (10 ∷ mid) a.back) number in
    sym (e ∙ ap (λ n. n + 1) size)
