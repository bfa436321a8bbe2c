-- A section: a line with its name and a number, and so many things, each in the light of a state that those before it lead to.
use Rattle.std.proofs.Common.{◌≡◌, ℕ, ◌^◌, ◌≤◌, ◌<◌, Bool, true, false, List, [], ◌∷◌, ◌++◌, length, Option, arith, length-append}
use Rattle.std.specs.Prelude.{nat_lt}
use Rattle.std.proofs.lemmas.Bool.Decides.{nat_tests}
use Rattle.spelling_laws.specs.Spelled.{Apart}
use Rattle.cvd_text.specs.Sections.{heading}
use Rattle.cvd_text.specs.Pieces.{Mark, fits}
use Rattle.cvd_cursor.specs.Numerals.{below}
use Rattle.cvd_cursor.specs.Places.{Reading}
use Rattle.cvd_cursor.specs.Reads.{Takes, Refused, marks, line_marks}
use Rattle.cvd_cursor.specs.declared.fault.ReadFault.{ReadFault}
use Rattle.cvd_sections.specs.Alone.{row_marks}
use Rattle.cvd_sections.proofs.Lists as lists
use Rattle.cvd_sections.proofs.Lists.{takes_alike, refused_alike, shorter}
use Rattle.cvd_sections.proofs.Lines.{takes_line, refused_tokens, refused_end, apart_line}
use Rattle.cvd_sections.proofs.Tokens.{heading_tokens, apart_heading}

pub more_left : (k n : ℕ) → true ≡ nat_lt k n → k < n
more_left k n h = grind (arith, nat_tests)

pub none_left : (k n : ℕ) → false ≡ nat_lt k n → n ≤ k
none_left k n h = grind (arith, nat_tests)

-- a line has a mark at least
pub some_mark : (ms : List Mark) (m : Mark) → 0 < length (ms ++ m ∷ [])
some_mark ms m = omega (arith, length-append ms (m ∷ []))

module _ (A S : Type 0) (spelled : S → A → List Mark) (next : S → A → S) (start : ℕ → S) (name : List ℕ) (ok : ℕ → Bool) (section : List A → List Mark) where
  abbrev pub head : ℕ → List Mark
  head n = row_marks (heading name n (ok n))

  abbrev pub plain : List A → List Mark
  plain = lists.counted A S spelled next start head

  -- the heading and some things were read
  pub record Goes (old now : Reading) (held : Option ℕ) (s : ℕ → S) (ys : List A) : Type 0 where
    pub n : ℕ
    pub count : held ≡ below (2 ^ 64) n
    pub going : lists.Going A S spelled next start head old now n (s n) ys

  pub starts : (old mid now : Reading) (n : ℕ) (held : Option ℕ) → held ≡ below (2 ^ 64) n → Takes (marks (heading_tokens name)) old mid n
      → Takes (line_marks (ok n)) mid now tt → Goes old now held start []
  starts old mid now n held e h k = record {
    n = n;
    count = e;
    going = lists.begins A S spelled next start head old now n (takes_line (heading_tokens name) ok old mid now n h k);
  }

  pub one_more : (old now new : Reading) (held : Option ℕ) (s : ℕ → S) (ys : List A) (x : A) (g : Goes old now held s ys) → length ys < g.n
      → Takes (spelled (s g.n)) now new x → Goes old new held (λ n. next (s n) x) (ys ++ x ∷ [])
  one_more old now new held s ys x g less h =
      record { n = g.n; count = g.count; going = lists.goes_on A S spelled next start head old now new g.n (s g.n) ys x less h g.going }

  module _ (alike : (xs : List A) → section xs ≡ plain xs) (some : A) where
    pub heading_refused : (old new : Reading) (fault : ReadFault) → Refused (marks (heading_tokens name)) old fault new → Refused section old fault new
    heading_refused old new fault r =
        refused_alike plain section alike old new fault
        (lists.no_number A S spelled next start head (apart_line (heading_tokens name) ok (apart_heading name)) some old new fault
        (refused_tokens (heading_tokens name) ok (apart_heading name) old new fault r))

    pub heading_broken : (old mid new : Reading) (n : ℕ) (fault : ReadFault) → Takes (marks (heading_tokens name)) old mid n
        → Refused (line_marks (ok n)) mid fault new → Refused section old fault new
    heading_broken old mid new n fault h r =
        refused_alike plain section alike old new fault
        (lists.no_number A S spelled next start head (apart_line (heading_tokens name) ok (apart_heading name)) some old new fault
        (refused_end (heading_tokens name) ok (apart_heading name) old mid new n fault h r))

    pub one_refused : (apart : (s : S) → Apart fits (spelled s)) (old now new : Reading) (held : Option ℕ) (s : ℕ → S) (ys : List A) (fault : ReadFault)
        (g : Goes old now held s ys) → length ys < g.n → Refused (spelled (s g.n)) now fault new → Refused section old fault new
    one_refused apart old now new held s ys fault g less r =
        refused_alike plain section alike old new fault
        (lists.stops A S spelled next start head (apart_line (heading_tokens name) ok (apart_heading name)) some apart old now new g.n (s g.n) ys fault less
        r g.going)

    pub ends : (old now : Reading) (held : Option ℕ) (s : ℕ → S) (ys : List A) (g : Goes old now held s ys) → g.n ≤ length ys → Takes section old now ys
    ends old now held s ys g most =
        takes_alike plain section alike old now ys (lists.ends A S spelled next start head old now g.n (s g.n) ys most g.going)
