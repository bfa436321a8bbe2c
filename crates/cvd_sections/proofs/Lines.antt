-- One line: its tokens, and its end.
use Rattle.std.proofs.Common.{◌≡◌, Bool, true, List, [], ◌∷◌, ◌++◌, Option, Some, None, Ok, Err, Result, refl, sym, subst, map}
use Rattle.std.specs.Prelude.{is_some}
use Rattle.spelling_laws.specs.Spelled.{Apart, all_fit}
use Rattle.spelling_laws.proofs.Fitting.{cut_pieces, first_true}
use Rattle.spelling_laws.proofs.Then as after
use Rattle.spelling_laws.proofs.One as single
use Rattle.cvd_text.specs.Tokens.{Token}
use Rattle.cvd_text.specs.Pieces.{Mark, Piece, a_word, feed, fits, token, line_end}
use Rattle.cvd_cursor.specs.Places.{Reading}
use Rattle.cvd_cursor.specs.Reads.{Reads, Takes, Refused, marks, line_marks}
use Rattle.cvd_cursor.specs.declared.fault.ReadFault.{ReadFault}
use Rattle.cvd_cursor.proofs.Composed.{takes_both, takes_as, refused_first, refused_second, refused_by}
use Rattle.cvd_sections.specs.Closing.{Judges, Closes}

-- the last of pieces that fit tells whether a line stands
pub end_stands : (ms : List Mark) (stands : Bool) (gs : List Piece) → all_fit fits gs (ms ++ line_end stands ∷ []) ≡ true → stands ≡ true
end_stands ms stands gs e =
    let c = cut_pieces fits gs ms (line_end stands ∷ []) e in by c.back c.back_fits
  where
    by : (gs : List Piece) → all_fit fits gs (line_end stands ∷ []) ≡ true → stands ≡ true
    by [] e = absurd (cc)
    by (a_word w ∷ gs) e = absurd (cc)
    by (feed ∷ gs) e = first_true stands (all_fit fits gs []) e

module _ {A : Type 0} (toks : A → List Token) (holds : A → Bool) where
  abbrev pub ended : A → List Mark
  ended a = map token (toks a) ++ line_end (holds a) ∷ []

  pub takes_line : (old mid new : Reading) (a : A) → Takes (marks toks) old mid a → Takes (line_marks (holds a)) mid new tt → Takes ended old new a
  takes_line old mid new a h k =
      takes_as ((b : A) × Unit {0}) A (λ p. p.0) (λ b. (b, tt)) (λ p. marks toks p.0
      ++ line_marks (holds p.0) p.1) ended (λ b. refl) (λ p. refl) old new (a, tt)
      (takes_both A (λ b. Unit {0}) (marks toks) (λ b. line_marks (holds b)) old mid new a tt h k)

  -- the tokens are wrong
  pub refused_tokens : Apart fits (marks toks) → (old new : Reading) (fault : ReadFault) → Refused (marks toks) old fault new → Refused ended old fault new
  refused_tokens apart old new fault r =
      refused_by ((b : A) × Unit {0}) A (λ p. p.0) (λ b. (b, tt)) (λ p. marks toks p.0
      ++ line_marks (holds p.0) p.1) ended (λ b. refl) (λ p. refl) old new fault
      (refused_first A (λ b. Unit {0}) (marks toks) (λ b. line_marks (holds b)) apart (λ b. tt) old new fault r)

  -- its end is wrong
  pub refused_end : Apart fits (marks toks) → (old mid new : Reading) (a : A) (fault : ReadFault) → Takes (marks toks) old mid a
      → Refused (line_marks (holds a)) mid fault new → Refused ended old fault new
  refused_end apart old mid new a fault h r =
      refused_by ((b : A) × Unit {0}) A (λ p. p.0) (λ b. (b, tt)) (λ p. marks toks p.0
      ++ line_marks (holds p.0) p.1) ended (λ b. refl) (λ p. refl) old new fault
      (refused_second A (λ b. Unit {0}) (marks toks) (λ b. line_marks (holds b)) a (apart a) old mid new fault h r)

  pub apart_line : Apart fits (marks toks) → Apart fits ended
  apart_line apart a =
      single.apart_via fits ((b : A) × Unit {0}) A (λ p. p.0) (λ b. (b, tt)) (λ b. refl) (λ p. marks toks p.0 ++ line_marks (holds p.0) p.1) ended (λ b. refl) a
      (after.apart_pair fits A (λ b. Unit {0}) (marks toks) (λ b. line_marks (holds b)) a tt (apart a) (λ u h. refl))

  -- a line that was read stands
  pub stood : (old new : Reading) (a : A) → Takes ended old new a → holds a ≡ true
  stood old new a h = end_stands (map token (toks a)) (holds a) h.read.given h.read.fit

  some_judged : {V : Type 0} (Holds : A → V → Type 0) (a : A) (found : Option V) → Judges holds Holds a found → is_some found ≡ holds a
  some_judged Holds a (Some v) j = sym j.0
  some_judged Holds a None j = sym j

  held_judged : {V : Type 0} (Holds : A → V → Type 0) (a : A) (found : Option V) (held : V) → found ≡ Some held → Judges holds Holds a found → Holds a held
  held_judged Holds a found held e j = (subst (λ f. Judges holds Holds a f) e j).1

  -- behind its tokens a line is closed
  pub closes : {V : Type 0} (Holds : A → V → Type 0) → Apart fits (marks toks)
      → (old mid new : Reading) (a : A) (found : Option V) (result : Result V ReadFault)
      → Takes (marks toks) old mid a → Judges holds Holds a found → Closes found mid result new → Reads ended Holds old result new
  closes Holds apart old mid new a found (Ok held) h j k = (
    a,
    (
      takes_line old mid new a h (subst (λ s. Takes (line_marks s) mid new tt) (some_judged Holds a found j) k.1.0),
      held_judged Holds a found held
          k.1.1 j,
    ),
  )
  closes Holds apart old mid new a found (Err fault) h j k =
      refused_end apart old mid new a fault h (subst (λ s. Refused (line_marks s) mid fault new) (some_judged Holds a found j) k)
