-- Lines that a cutter gives.
use Rattle.std.proofs.Common.{◌≡◌, ℕ, zero, suc, ◌+◌, ◌<◌, ◌≤◌, Option, None, Some, IfSome, Bool, true, false, cond, not, eqb, ltb, List, [], ◌∷◌, ◌++◌, length}
use Rattle.std.proofs.Common.{take, drop, refl, sym, ◌∙◌, ap, arith, length-append, append_assoc}
use Rattle.std.specs.Prelude.{◌&&◌}
use Rattle.std.specs.List.{list_all}
use Rattle.std.proofs.lemmas.Bool.{false≢true, le-ltb, lt-ltb}
use Rattle.std.proofs.lemmas.List.{append-nil, append_cancel_left, length-take}
use Rattle.cov_port.specs.Lines.{Line, lines_of, onto_line}
use Rattle.cov_port.specs.Cutting.{Cutter, Gives, GivesTold, KeepsLeft, begins_long, has_no_feed, left_of}
use Rattle.cov_port.specs.Filling.{IsFeedAt, step_of}
use Rattle.cov_port.specs.declared.line_step.LineStep.{LineStep}
use Rattle.cov_port.specs.declared.line_step.LineStep.TheVariants.{Line as a_line}

-- a text without line feeds, by its first byte
split_test : (test rest : Bool) → (not test && rest) ≡ true → (test ≡ false) × (rest ≡ true)
split_test true rest none = absurd (false≢true none)
split_test false rest none = (refl, none)

no_feed-first : (b : ℕ) (bs : List ℕ) → has_no_feed (b ∷ bs) ≡ true → (eqb b 10 ≡ false) × (has_no_feed bs ≡ true)
no_feed-first b bs none = split_test (eqb b 10) (has_no_feed bs) none

-- a byte that is no line feed goes before the first line
onto : (b : ℕ) (bs : List ℕ) → eqb b 10 ≡ false → lines_of (b ∷ bs) ≡ onto_line b (lines_of bs)
onto b bs other = ap (λ (test : Bool). cond test (([], true) ∷ lines_of bs) (onto_line b (lines_of bs))) other

-- a line with its line feed comes first
pub lines_of-ended : (line rest : List ℕ) → has_no_feed line ≡ true → lines_of (line ++ 10 ∷ rest) ≡ (line, true) ∷ lines_of rest
lines_of-ended [] rest none = refl
lines_of-ended (b ∷ bs) rest none =
    let first = no_feed-first b bs none in
    onto b (bs ++ 10 ∷ rest) first.0 ∙ ap (onto_line b) (lines_of-ended bs rest first.1)

-- a text without line feeds is one line
pub lines_of-open : (b : ℕ) (bs : List ℕ) → has_no_feed (b ∷ bs) ≡ true → lines_of (b ∷ bs) ≡ (b ∷ bs, false) ∷ []
lines_of-open b [] none = onto b [] (no_feed-first b [] none).0
lines_of-open b (c ∷ bs) none =
    let first = no_feed-first b (c ∷ bs) none in
    onto b (c ∷ bs) first.0 ∙ ap (onto_line b) (lines_of-open c bs first.1)

pub gives_ended : (line after left : List ℕ) → has_no_feed line ≡ true → length line ≤ 65535 → left ≡ line ++ 10 ∷ after → Gives a_line line left after
gives_ended line after left none few split = record {
  bytes = split ∙ sym (append_assoc line (10 ∷ []) after);
  lines = ap lines_of split ∙ lines_of-ended line after none;
  short = ap (λ (xs : List ℕ). begins_long (lines_of xs)) split ∙ ap begins_long (lines_of-ended line after none) ∙ le-ltb 65535 (length line) few;
  ends = λ last. absurd (false≢true last);
}

pub gives_open : (left : List ℕ) → has_no_feed left ≡ true → length left ≤ 65535 → Gives (step_of left) left left []
gives_open [] none few = record { bytes = refl; lines = refl; short = refl; ends = λ last. refl }
gives_open (b ∷ bs) none few = record {
  bytes = sym (append-nil (b ∷ bs));
  lines = lines_of-open b bs none;
  short = ap begins_long (lines_of-open b bs none) ∙ le-ltb 65535 (length (b ∷ bs)) few;
  ends = λ last. refl;
}

-- a line feed among the bytes ahead ends the line that is given
pub line_told : (first : Option (List ℕ)) (cutter new : Cutter) (rest : Option (List ℕ)) (at : ℕ)
    → KeepsLeft first (left_of cutter rest) → length cutter.ahead ≤ 65536 → IsFeedAt cutter.ahead at → new.ahead ≡ drop (at + 1) cutter.ahead
    → new.line ≡ take at cutter.ahead
    → GivesTold a_line new.line first (left_of new rest)
line_told None cutter new rest at kept few feed ahead line = tt
line_told (Some left) cutter new None at kept few feed ahead line = absurd (cc)
line_told (Some left) cutter new (Some rest) at kept few feed ahead line =
    let whole : left ≡ cutter.ahead ++ rest = cc in
    let split : left ≡ take at cutter.ahead ++ 10 ∷ (drop (at + 1) cutter.ahead ++ rest) =
    whole ∙ ap (λ (xs : List ℕ). xs ++ rest) feed.split ∙ append_assoc (take at cutter.ahead) (10 ∷ drop (at + 1) cutter.ahead) rest in
    let within = feed.within in
    let short : length (take at cutter.ahead) ≤ 65535 = omega (arith, length-take at cutter.ahead) in
    (new.ahead ++ rest, refl, rw (ahead, line) (gives_ended (take at cutter.ahead) (drop (at + 1) cutter.ahead ++ rest) left feed.clear short split))

-- all that is left is the last line, or there is none
pub rest_told : (first : Option (List ℕ)) (cutter new : Cutter) (rest : Option (List ℕ)) (step : LineStep)
    → KeepsLeft first (left_of cutter rest) → has_no_feed cutter.ahead ≡ true → length cutter.ahead < 65536 → IfSome first (λ left. left ≡ cutter.ahead)
    → new.ahead ≡ [] → new.line ≡ cutter.ahead → step ≡ step_of cutter.ahead → GivesTold step new.line first (left_of new rest)
rest_told None cutter new rest step kept none few all ahead line is = tt
rest_told (Some left) cutter new None step kept none few all ahead line is = absurd (cc)
rest_told (Some left) cutter new (Some rest) step kept none few all ahead line is =
    let whole : left ≡ cutter.ahead ++ rest = cc in
    let empty : rest ≡ [] = append_cancel_left cutter.ahead rest [] (sym whole ∙ all ∙ sym (append-nil cutter.ahead)) in
    let gives : Gives (step_of cutter.ahead) cutter.ahead cutter.ahead [] = gives_open cutter.ahead none (omega arith) in
    ([], ap Some (ap (λ (xs : List ℕ). xs ++ rest) ahead ∙ empty), rw (is, line, all) gives)

-- a front without line feeds stands in the first line
record StartsLine (front : List ℕ) (lines : List Line) : Type 0 where
  tail : List ℕ
  ended : Bool
  more : List Line
  is : lines ≡ (front ++ tail, ended) ∷ more

starts_onto : (b : ℕ) (lines : List Line) → StartsLine (b ∷ []) (onto_line b lines)
starts_onto b [] = record { tail = []; ended = false; more = []; is = refl }
starts_onto b (l ∷ ls) = record { tail = l.0; ended = l.1; more = ls; is = refl }

starts_more : (b : ℕ) (front : List ℕ) (lines : List Line) → StartsLine front lines → StartsLine (b ∷ front) (onto_line b lines)
starts_more b front lines starts = record { tail = starts.tail; ended = starts.ended; more = starts.more; is = ap (onto_line b) starts.is }

starts : (b : ℕ) (front rest : List ℕ) → has_no_feed (b ∷ front) ≡ true → StartsLine (b ∷ front) (lines_of (b ∷ front ++ rest))
starts b [] rest none = rw (onto b rest (no_feed-first b [] none).0) (starts_onto b (lines_of rest))
starts b (c ∷ front) rest none =
    let first = no_feed-first b (c ∷ front) none in
    rw (onto b (c ∷ front ++ rest) first.0) (starts_more b (c ∷ front) (lines_of (c ∷ front ++ rest)) (starts c front rest first.1))

-- a long front without line feeds makes the first line too long
pub long_front : (front rest : List ℕ) → has_no_feed front ≡ true → 65535 < length front → begins_long (lines_of (front ++ rest)) ≡ true
long_front [] rest none long = absurd (omega arith)
long_front (b ∷ front) rest none long =
    let s = starts b front rest none in
    rw s.is (lt-ltb 65535 (length (b ∷ front ++ s.tail)) (omega (arith, length-append (b ∷ front) s.tail)))

pub long_told : (first : Option (List ℕ)) (cutter : Cutter) (rest : Option (List ℕ)) → KeepsLeft first (left_of cutter rest)
    → has_no_feed cutter.ahead ≡ true → length cutter.ahead ≡ 65536 → IfSome first (λ left. begins_long (lines_of left) ≡ true)
long_told None cutter rest kept none long = tt
long_told (Some left) cutter None kept none long = absurd (cc)
long_told (Some left) cutter (Some rest) kept none long =
    let whole : left ≡ cutter.ahead ++ rest = cc in
    rw whole (long_front cutter.ahead rest none (omega arith))
