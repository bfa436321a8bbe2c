-- Where the lines of a section end.
use Rattle.std.proofs.Common.{◌≡◌, ℕ, ◌<◌, Bool, List, [], ◌∷◌, ◌++◌, length, Option, refl, sym, ◌∙◌, ap, subst, map}
use Rattle.spelling_laws.specs.Spelled.{Apart}
use Rattle.spelling_laws.specs.Lists.{headed_marks}
use Rattle.cvd_text.specs.Lines.{Line}
use Rattle.cvd_text.specs.Sections.{heading, lines_behind}
use Rattle.cvd_text.specs.Pieces.{Mark, fits, token, line_end}
use Rattle.cvd_cursor.specs.Places.{Reading}
use Rattle.cvd_cursor.specs.Reads.{Takes, Refused, marks, line_marks}
use Rattle.cvd_cursor.specs.declared.fault.ReadFault.{ReadFault}
use Rattle.cvd_sections.specs.Alone.{row_marks, marks_alone}
use Rattle.cvd_line_ends.specs.Ends.{EndsLines, Halts}
use Rattle.cvd_line_ends.proofs.Together.{ends_via, ends_first, ends_tokens, ends_heading, ends_next, end_fault}
use Rattle.cvd_sections.proofs.Lines.{refused_tokens, apart_line}
use Rattle.cvd_sections.proofs.Lists.{row, behind_row, first_row, rows_alike}
use Rattle.cvd_sections.proofs.RowSections as rows
use Rattle.cvd_sections.proofs.Tokens.{heading_tokens, apart_heading}

module _ (A : Type 0) (f : ℕ → List A → A → Line) (name : List ℕ) (ok : ℕ → Bool) (section : List A → List Mark)
    (alike : (xs : List A) → section xs ≡ row_marks (heading name (length xs) (ok (length xs))) ++ marks_alone (lines_behind (f (length xs)) [] xs))
    (some : A) (apart : (s : ℕ × List A) → Apart fits (row f s)) where
  abbrev head : ℕ → List Mark
  head n = row_marks (heading name n (ok n))

  abbrev plain : List A → List Mark
  plain = headed_marks (row f) (behind_row f) head (first_row f)

  whole_alike : (xs : List A) → section xs ≡ plain xs
  whole_alike xs = alike xs ∙ ap (λ l. row_marks (heading name (length xs) (ok (length xs))) ++ l) (rows_alike f (length xs) [] xs)

  head_apart : Apart fits head
  head_apart = apart_line (heading_tokens name) ok (apart_heading name)

  -- the tokens of the heading are refused
  pub heading_halts : (old new : Reading) (fault : ReadFault) → Refused (marks (heading_tokens name)) old fault new → Halts section old fault new
  heading_halts old new fault r = record {
    refused = rows.heading_refused A f name ok section alike some old new fault r;
    ends = ends_via (λ xs. xs) plain section whole_alike old new fault
        (ends_heading A (ℕ × List A) (row f) (behind_row f) apart head (first_row f) head_apart old new fault (record {
          refused = refused_tokens (heading_tokens name) ok (apart_heading name) old new fault r;
          ends = ends_via (λ n. (n, tt)) (λ (p : (n : ℕ) × Unit {0}). marks (heading_tokens name) p.0 ++ line_marks (ok p.0) p.1) head (λ n. refl) old new fault
              (ends_first ℕ (λ n. Unit {0}) (marks (heading_tokens name)) (λ n. line_marks (ok n)) (apart_heading name) old new fault
              (record { refused = r; ends = ends_tokens (heading_tokens name) old new fault }));
        }));
  }

  -- the heading breaks a condition
  pub heading_ends : (old mid new : Reading) (n : ℕ) (fault : ReadFault) → Takes (marks (heading_tokens name)) old mid n
      → Refused (line_marks (ok n)) mid fault new → Halts section old fault new
  heading_ends old mid new n fault h r = record {
    refused = rows.heading_broken A f name ok section alike some old mid new n fault h r;
    ends = λ given after stands e f w. end_fault (ok n) mid new fault after r f;
  }

  -- the next row is refused
  pub next_halts : (old now new : Reading) (held : Option ℕ) (ys : List A) (fault : ReadFault) (g : rows.Goes A f name ok section old now held ys)
      → length ys < g.n → Halts (row f (g.n, ys)) now fault new → Halts section old fault new
  next_halts old now new held ys fault g less h = record {
    refused = rows.one_refused A f name ok section alike some apart old now new held ys fault g less h.refused;
    ends = ends_via (λ xs. xs) plain section whole_alike old new fault
        (ends_next A (ℕ × List A) (row f) (behind_row f) apart head (first_row f) head_apart g.n ys old g.going.mid now new fault some less g.going.number
        g.going.values (subst (λ s. Halts (row f s) now fault new) g.going.state h));
  }
