-- Where the line of a point ends.
use Rattle.std.proofs.Common.{◌≡◌, ℕ, Bool, true, false, List, [], ◌∷◌, ◌++◌, Option, Some, None, Result, Ok, Err, refl, sym, ◌∙◌, ap, subst, map}
use Rattle.std.specs.Prelude.{is_some}
use Rattle.std.proofs.lemmas.Bool.{true≢false}
use mathlib.Core.Logic.{inl, inr}
use Rattle.design_tree.specs.declared.instrumented.PointRow.{PointRow}
use Rattle.spelling_laws.specs.Spelled.{Awaits, NoneFits}
use Rattle.cvd_text.specs.Lines.{Line}
use Rattle.cvd_text.specs.Tokens.{words_of}
use Rattle.cvd_text.specs.Pieces.{Piece, feed, Mark, fits, line_end}
use Rattle.cvd_cursor.specs.Places.{Reading, first_word}
use Rattle.cvd_cursor.specs.Reads.{Takes, Stops, Refused, line_marks, marks}
use Rattle.cvd_cursor.specs.declared.fault.ReadFault.{ReadFault}
use Rattle.cvd_sections.specs.Closing.{Closes, Judges}
use Rattle.cvd_sections.specs.Keys.{Sides, keyed, sides_tokens}
use Rattle.cvd_line_ends.specs.Ends.{IsEndFault, EndsLines, Halts, ReadsLines}
use Rattle.cvd_sections.proofs.KeyWords.{end_at, key_refused, key_taken}
use Rattle.cvd_line_ends.proofs.Together.{stops_or, same_front, ends_via, ends_first, ends_second, ends_tokens, end_fault}
use Rattle.cvd_sections.proofs.Points.{Parted, point_by, parted, apart_sides, sides_refused, rest_refused, point_taken, is_found, held_found}

-- Where a key is refused whatever its line's conditions are, no line may end there: one whose conditions hold would.
pub key_halts : (old new : Reading) (fault : ReadFault) → ((holds : List ℕ → Bool) → Refused (keyed holds) old fault new) → (holds : List ℕ → Bool)
    → Halts (keyed holds) old fault new
key_halts old new fault r holds = record { refused = r holds; ends = ends }
  where
    stand : List ℕ → Bool
    stand k = true

    holding : (given : List Piece) (stands : Bool) → Awaits fits (keyed holds) given (line_end stands) → Awaits fits (keyed (λ k. true)) given (line_end true)
    holding given stands w =
        let e = end_at (words_of w.value) (holds w.value) stands w.first w.more w.split in
        record { value = w.value; first = w.first; more = []; split = ap (λ l. l ++ line_end true ∷ []) (sym e.0); fit = w.fit }

    ends : EndsLines (keyed holds) old fault new
    ends given after stands e f w =
        elim (stops_or (keyed (λ k. true)) old new fault (r (λ k. true))) [ inl few ↦ few | inr s ↦ by s ]
      where
        by : Stops (keyed (λ k. true)) old new fault → IsEndFault fault
        by s =
            let same = same_front s.wrong.given given new.rest (sym s.wrong.split ∙ e) in
            let none = subst (λ l. NoneFits fits (keyed (λ k. true)) s.wrong.given l) f s.wrong.none in
            absurd (true≢false (none (line_end true)
            (subst (λ g. Awaits fits (keyed (λ k. true)) g (line_end true)) (sym same) (holding given stands w))))

module _ (line : PointRow → Line) (spelled : PointRow → List Mark) (is : (r : PointRow)
    → spelled r ≡ marks sides_tokens (r.plus, r.minus) ++ keyed (λ k. (line (record { plus = r.plus; minus = r.minus; key = k })).holds) r.key) where
  abbrev holds : Sides → List ℕ → Bool
  holds s k = (line (point_by (s, k))).holds

  abbrev both : Parted → List Mark
  both p = marks sides_tokens p.0 ++ keyed (holds p.0) p.1

  -- the counters are refused
  pub sides_halt : (old new : Reading) (fault : ReadFault) → Refused (marks sides_tokens) old fault new → Halts spelled old fault new
  sides_halt old new fault r = record {
    refused = sides_refused line spelled is old new fault r;
    ends = ends_via parted both spelled is old new fault
        (ends_first Sides (λ s. List ℕ) (marks sides_tokens) (λ s. keyed (holds s)) apart_sides old new fault
        (record { refused = r; ends = ends_tokens sides_tokens old new fault }));
  }

  -- what comes behind them is refused
  pub rest_halts : (old mid new : Reading) (s : Sides) (fault : ReadFault) → Takes (marks sides_tokens) old mid s → Halts (keyed (holds s)) mid fault new
      → Halts spelled old fault new
  rest_halts old mid new s fault h k = record {
    refused = rest_refused line spelled is old mid new s fault h k.refused;
    ends = ends_via parted both spelled is old new fault
        (ends_second Sides (λ x. List ℕ) (marks sides_tokens) (λ x. keyed (holds x)) apart_sides old mid new s fault h k);
  }

  -- behind the key a point's line is closed
  pub closes_line : (old mid there new : Reading) (s : Sides) (key : List ℕ) (found : Option PointRow) (result : Result PointRow ReadFault)
      → Takes (marks sides_tokens) old mid s → Takes (marks words_of) mid there key → first_word there.rest ≡ None
      → Judges (λ q. (line q).holds) (λ q held. held ≡ q) (point_by (s, key)) found → Closes found there result new
      → ReadsLines spelled (λ q held. held ≡ q) old result new
  closes_line old mid there new s key found (Ok held) h k end j r = (
    point_by (s, key),
    (
      point_taken line spelled is old mid new s key h
          (key_taken (holds s) mid there new key k (subst (λ b. Takes (line_marks b) there new tt) (is_found line spelled is s key found j) r.1.0)),
      held_found line spelled is s key found held r.1.1 j,
    ),
  )
  closes_line old mid there new s key found (Err fault) h k end j r =
      rest_halts old mid new s fault h (record {
        refused = key_refused (holds s) mid there new key fault k end
            (subst (λ b. Refused (line_marks b) there fault new) (is_found line spelled is s key found j) r);
        ends = λ given after stands e f w. end_fault (is_some found) there new fault after r f;
      })
