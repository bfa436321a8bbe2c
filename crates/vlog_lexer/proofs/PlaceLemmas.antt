-- Lines and columns, a byte at a time.
use Rattle.std.proofs.Common.{◌≡◌, ◌≢◌, ℕ, ◌+◌, ◌<◌, Bool, true, false, cond, eqb, List, [], ◌∷◌, ◌++◌, length, get_or, take, refl, sym, ◌∙◌, ap, subst, arith}
use Rattle.std.proofs.Common.{append_assoc}
use Rattle.std.specs.Prelude.{count_by, not}
use Rattle.std.specs.List.{prefix_len}
use Rattle.std.proofs.lemmas.Bool.{ne_eqb}
use Rattle.std.proofs.lemmas.List.{reverse-append}
use Rattle.std.proofs.lemmas.List.Sums.{sum_by-append}
use Rattle.std.proofs.lemmas.Grind.{take_at_read}
use Rattle.vlog_lexer.specs.Bytes.{is_line_feed}
use Rattle.vlog_lexer.specs.Pieces.{is_no_line_feed}
use Rattle.vlog_lexer.specs.PlaceKept.{IsPosition}
use Rattle.vlog_lexer.specs.Places.{column_after, line_after, place_after}
use Rattle.vlog_lexer.specs.declared.position.Position.{Position}

abbrev pub position : ℕ → ℕ → Position
position line column = record { line = line; column = column }

pub at_start : IsPosition [] (position 1 1)
unfolding line_after column_after
at_start = record { line = refl; column = refl }

counted : (xs : List ℕ) (b : ℕ) (t : Bool) → is_line_feed b ≡ t → line_after (xs ++ b ∷ []) ≡ line_after xs + cond t 1 0
unfolding line_after
counted xs b t e =
    let sum = sum_by-append (λ (x : ℕ). cond (is_line_feed x) 1 0) xs (b ∷ []) in
    let last : count_by is_line_feed (b ∷ []) ≡ cond t 1 0 = rw e (omega arith) in
    omega (arith, sum, last)

suffixed : (xs : List ℕ) (b : ℕ) (t : Bool) → is_no_line_feed b ≡ t → column_after (xs ++ b ∷ []) ≡ 1 + cond t (column_after xs) 0
unfolding column_after
suffixed xs b t e = ap (λ (ys : List ℕ). 1 + prefix_len is_no_line_feed ys) (reverse-append xs (b ∷ [])) ∙ ap (λ (u : Bool). 1 + cond u (column_after xs) 0) e

line_feed_is : (b : ℕ) → b ≡ 10 → is_line_feed b ≡ true
unfolding is_line_feed
line_feed_is b e = ap (λ (x : ℕ). eqb x 10) e

no_line_feed_is : (b : ℕ) → is_no_line_feed b ≡ not (is_line_feed b)
unfolding is_no_line_feed
no_line_feed_is b = refl

other_is : (b : ℕ) → b ≢ 10 → is_line_feed b ≡ false
unfolding is_line_feed
other_is b n = ne_eqb b 10 n

more : (xs bs : List ℕ) (i : ℕ) → i < length bs → xs ++ take (i + 1) bs ≡ (xs ++ take i bs) ++ get_or bs i 0 ∷ []
more xs bs i l = ap (λ (ys : List ℕ). xs ++ ys) (take_at_read bs i 0 l).1 ∙ sym (append_assoc xs (take i bs) (get_or bs i 0 ∷ []))

pub behind_line_feed : (before bs : List ℕ) (i line column : ℕ) → i < length bs → get_or bs i 0 ≡ 10
    → IsPosition (before ++ take i bs) (position line column) → IsPosition (before ++ take (i + 1) bs) (position (line + 1) 1)
behind_line_feed before bs i line column l is at =
    let b = get_or bs i 0 in
    let xs = before ++ take i bs in
    let feed = line_feed_is b is in
    subst (λ (ys : List ℕ). IsPosition ys (position (line + 1) 1)) (sym (more before bs i l)) (record {
      line = omega (arith, at.line, counted xs b true feed);
      column = sym (suffixed xs b false (no_line_feed_is b ∙ ap not feed));
    })

pub behind_byte : (before bs : List ℕ) (i line column : ℕ) → i < length bs → get_or bs i 0 ≢ 10 → IsPosition (before ++ take i bs) (position line column)
    → IsPosition (before ++ take (i + 1) bs) (position line (column + 1))
behind_byte before bs i line column l is at =
    let b = get_or bs i 0 in
    let xs = before ++ take i bs in
    let other = other_is b is in
    subst (λ (ys : List ℕ). IsPosition ys (position line (column + 1))) (sym (more before bs i l)) (record {
      line = omega (arith, at.line, counted xs b false other);
      column = omega (arith, at.column, suffixed xs b true (no_line_feed_is b ∙ ap not other));
    })

pub place_is : (file line column : ℕ) (before : List ℕ) → IsPosition before (position line column)
    → record { file = file; line = line; column = column } ≡ place_after file before
unfolding place_after
place_is file line column before at = rw (at.line, at.column) refl

pub moved : (xs : List ℕ) (line column l c : ℕ) → line ≡ l → column ≡ c → IsPosition xs (position l c) → IsPosition xs (position line column)
moved xs line column l c e f at = record { line = e ∙ at.line; column = f ∙ at.column }
