-- Sections whose lines add nothing: each line in the light of their number and of those before it.
use Rattle.std.proofs.Common.{◌≡◌, ℕ, ◌^◌, ◌<◌, Bool, true, false, List, [], ◌∷◌, ◌++◌, length, Option, sym, ◌∙◌, ap, map}
use Rattle.std.specs.Prelude.{nat_lt}
use Rattle.spelling_laws.specs.Spelled.{Apart}
use Rattle.cvd_text.specs.Lines.{Line}
use Rattle.cvd_text.specs.Sections.{heading, lines_behind}
use Rattle.cvd_text.specs.Pieces.{Mark, fits, token, line_end}
use Rattle.cvd_cursor.specs.Numerals.{below}
use Rattle.cvd_cursor.specs.Places.{Reading}
use Rattle.cvd_cursor.specs.Reads.{Takes, Refused, marks, line_marks}
use Rattle.cvd_cursor.specs.declared.fault.ReadFault.{ReadFault}
use Rattle.cvd_sections.specs.Alone.{row_marks, marks_alone}
use Rattle.cvd_sections.proofs.Lists.{row, behind_row, first_row, rows_alike}
use Rattle.cvd_sections.proofs.Counting as counting
use Rattle.cvd_sections.proofs.Counting.{more_left, none_left, some_mark}
use Rattle.cvd_sections.proofs.Tokens.{heading_tokens}

pub row_some : {A : Type 0} (f : ℕ → List A → A → Line) (s : ℕ × List A) (x : A) → 0 < length (row f s x)
row_some f s x = some_mark (map token (f s.0 s.1 x).tokens) (line_end (f s.0 s.1 x).holds)

-- a test tells whether more must come
abbrev pub Tells : Bool → ℕ → Option ℕ → Type 0
Tells more read held = (n : ℕ) → held ≡ below (2 ^ 64) n → more ≡ nat_lt read n

module _ (A : Type 0) (f : ℕ → List A → A → Line) (name : List ℕ) (ok : ℕ → Bool) (section : List A → List Mark) where
  abbrev pub Goes : Reading → Reading → Option ℕ → List A → Type 0
  Goes old now held ys = counting.Goes A (ℕ × List A) (row f) (behind_row f) (first_row f) name ok section old now held (λ n. (n, ys)) ys

  pub starts : (old mid now : Reading) (n : ℕ) (held : Option ℕ) → held ≡ below (2 ^ 64) n → Takes (marks (heading_tokens name)) old mid n
      → Takes (line_marks (ok n)) mid now tt → Goes old now held []
  starts = counting.starts A (ℕ × List A) (row f) (behind_row f) (first_row f) name ok section

  pub more : (read : ℕ) (ys : List A) (b : Bool) (held : Option ℕ) (old now : Reading) (g : Goes old now held ys) → read ≡ length ys → Tells b read held
      → b ≡ true
      → length ys < g.n
  more read ys b held old now g len tells so = more_left (length ys) g.n (sym so ∙ tells g.n g.count ∙ ap (λ k. nat_lt k g.n) len)

  pub one_more : (old now new : Reading) (held : Option ℕ) (ys : List A) (x : A) (g : Goes old now held ys) → length ys < g.n
      → Takes (row f (g.n, ys)) now new x → Goes old new held (ys ++ x ∷ [])
  one_more old now new held ys x g less h =
      counting.one_more A (ℕ × List A) (row f) (behind_row f) (first_row f) name ok section old now new held (λ n. (n, ys)) ys x g less h

  module _ (alike : (xs : List A) → section xs ≡ row_marks (heading name (length xs) (ok (length xs))) ++ marks_alone (lines_behind (f (length xs)) [] xs))
      (some : A) where
    whole_alike : (xs : List A) → section xs ≡ counting.plain A (ℕ × List A) (row f) (behind_row f) (first_row f) name ok section xs
    whole_alike xs = alike xs ∙ ap (λ l. row_marks (heading name (length xs) (ok (length xs))) ++ l) (rows_alike f (length xs) [] xs)

    pub heading_refused : (old new : Reading) (fault : ReadFault) → Refused (marks (heading_tokens name)) old fault new → Refused section old fault new
    heading_refused = counting.heading_refused A (ℕ × List A) (row f) (behind_row f) (first_row f) name ok section whole_alike some

    pub heading_broken : (old mid new : Reading) (n : ℕ) (fault : ReadFault) → Takes (marks (heading_tokens name)) old mid n
        → Refused (line_marks (ok n)) mid fault new → Refused section old fault new
    heading_broken = counting.heading_broken A (ℕ × List A) (row f) (behind_row f) (first_row f) name ok section whole_alike some

    pub one_refused : ((s : ℕ × List A) → Apart fits (row f s)) → (old now new : Reading) (held : Option ℕ) (ys : List A) (fault : ReadFault)
        (g : Goes old now held ys) → length ys < g.n → Refused (row f (g.n, ys)) now fault new → Refused section old fault new
    one_refused apart old now new held ys fault g less r =
        counting.one_refused A (ℕ × List A) (row f) (behind_row f) (first_row f) name ok section whole_alike some apart old now new held (λ n. (n, ys)) ys
        fault g
        less r

    pub ends : (old now : Reading) (held : Option ℕ) (ys : List A) (read : ℕ) (b : Bool) (g : Goes old now held ys) → read ≡ length ys → Tells b read held
        → b ≡ false → Takes section old now ys
    ends old now held ys read b g len tells so =
        counting.ends A (ℕ × List A) (row f) (behind_row f) (first_row f) name ok section whole_alike some old now held (λ n. (n, ys)) ys g
        (none_left (length ys) g.n (sym so ∙ tells g.n g.count ∙ ap (λ k. nat_lt k g.n) len))
