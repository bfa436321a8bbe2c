-- So many values behind a heading, each in the light of their number and of those before it.
use Rattle.std.proofs.Common.{◌≡◌, ℕ, ◌≤◌, ◌<◌, List, [], ◌∷◌, ◌++◌, length, refl, sym, ◌∙◌, ap, subst, arith, length-append}
use Rattle.spelling_laws.specs.Spelled.{Apart}
use Rattle.spelling_laws.specs.Lists.{all_marks, headed_marks, state_behind}
use Rattle.spelling_laws.proofs.Fitting.{same_length, length-joined}
use Rattle.spelling_laws.proofs.Counted as counts
use Rattle.cvd_text.specs.Lines.{Line}
use Rattle.cvd_text.specs.Sections.{lines_behind}
use Rattle.cvd_text.specs.Pieces.{Mark, fits}
use Rattle.cvd_cursor.specs.Places.{Reading}
use Rattle.cvd_cursor.specs.Reads.{Takes, Refused}
use Rattle.cvd_cursor.specs.declared.fault.ReadFault.{ReadFault}
use Rattle.cvd_cursor.proofs.Composed.{takes_as, refused_by}
use Rattle.cvd_cursor.proofs.Lists as lists
use Rattle.cvd_sections.specs.Alone.{row_marks, marks_alone}

-- a value takes a piece at least
pub shorter : {A : Type 0} (s : A → List Mark) (a : A) → 0 < length (s a) → (old new : Reading) → Takes s old new a → length new.rest < length old.rest
shorter s a some old new h =
    let cut = ap length h.read.split ∙ length-joined h.read.given new.rest in
    let long = same_length fits h.read.given (s a) h.read.fit in
    omega arith

-- values that are spelled alike
module _ {A : Type 0} (s t : A → List Mark) (alike : (a : A) → t a ≡ s a) where
  pub takes_alike : (old new : Reading) (a : A) → Takes s old new a → Takes t old new a
  takes_alike old new a h = takes_as A A (λ b. b) (λ b. b) s t alike alike old new a h

  pub refused_alike : (old new : Reading) (fault : ReadFault) → Refused s old fault new → Refused t old fault new
  refused_alike old new fault r = refused_by A A (λ b. b) (λ b. b) s t alike alike old new fault r

-- a state leads from one value to the next; at first it is told by their number
module _ (A S : Type 0) (spelled : S → A → List Mark) (next : S → A → S) (start : ℕ → S) (head : ℕ → List Mark) where
  -- their number, and the values
  abbrev pub counted : List A → List Mark
  counted xs = headed_marks spelled next head start xs

  -- the number and some values were read, which lead to a state
  pub record Going (old now : Reading) (n : ℕ) (s : S) (ys : List A) : Type 0 where
    pub short : length ys ≤ n
    pub mid : Reading
    pub number : Takes head old mid n
    pub values : Takes (all_marks spelled next (start n)) mid now ys
    pub state : s ≡ state_behind spelled next (start n) ys

  pub begins : (old now : Reading) (n : ℕ) → Takes head old now n → Going old now n (start n) []
  begins old now n h =
      record { short = omega arith; mid = now; number = h; values = lists.takes_none A S spelled next (start n) now; state = refl }

  pub goes_on : (old now new : Reading) (n : ℕ) (s : S) (ys : List A) (x : A) → length ys < n → Takes (spelled s) now new x → Going old now n s ys
      → Going old new n (next s x) (ys ++ x ∷ [])
  goes_on old now new n s ys x less h g = record {
    short = omega (arith, length-append ys (x ∷ []));
    mid = g.mid;
    number = g.number;
    values = lists.takes_more A S spelled next (start n) ys x g.mid now new g.values (subst (λ r. Takes (spelled r) now new x) g.state h);
    state = ap (λ r. next r x) g.state ∙ sym (counts.behind_more fits A S spelled next (start n) ys (x ∷ []));
  }

  pub ends : (old now : Reading) (n : ℕ) (s : S) (ys : List A) → n ≤ length ys → Going old now n s ys → Takes counted old now ys
  ends old now n s ys most g =
      lists.takes_headed A S spelled next head start n ys (let s = g.short in omega arith) old g.mid now g.number g.values

  module _ (apart_head : Apart fits head) (some : A) where
    pub no_number : (old new : Reading) (fault : ReadFault) → Refused head old fault new → Refused counted old fault new
    no_number old new fault r = lists.refused_heading A S spelled next head start some apart_head old new fault r

    pub stops : ((s : S) → Apart fits (spelled s)) → (old now new : Reading) (n : ℕ) (s : S) (ys : List A) (fault : ReadFault) → length ys < n
        → Refused (spelled s) now fault new → Going old now n s ys → Refused counted old fault new
    stops apart old now new n s ys fault less r g =
        lists.refused_headed A S spelled next head start n (apart_head n) old g.mid new fault g.number
        (lists.refused_next A S spelled next apart some n (start n) ys less g.mid now new fault g.values
        (subst (λ r. Refused (spelled r) now fault new) g.state r))

-- ---- lines in the light of their number and of those before them

module _ {A : Type 0} (f : ℕ → List A → A → Line) where
  abbrev pub row : ℕ × List A → A → List Mark
  row s x = row_marks (f s.0 s.1 x)

  abbrev pub behind_row : ℕ × List A → A → ℕ × List A
  behind_row s x = (s.0, s.1 ++ x ∷ [])

  abbrev pub first_row : ℕ → ℕ × List A
  first_row n = (n, [])

  pub rows_alike : (n : ℕ) (before xs : List A) → marks_alone (lines_behind (f n) before xs) ≡ all_marks row behind_row (n, before) xs
  rows_alike n before [] = refl
  rows_alike n before (x ∷ xs) = ap (λ l. row_marks (f n before x) ++ l) (rows_alike n (before ++ x ∷ []) xs)
