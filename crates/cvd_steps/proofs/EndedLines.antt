-- A line: a value of it, and the line's end with whether it stands.
use Rattle.std.proofs.Common.{◌≡◌, Bool, List, [], ◌∷◌, ◌++◌, subst}
use Rattle.spelling_laws.specs.Spelled.{Apart}
use Rattle.cvd_text.specs.Pieces.{Mark, line_end, fits}
use Rattle.cvd_cursor.specs.Places.{Reading}
use Rattle.cvd_cursor.specs.Reads.{Takes, Refused, line_marks}
use Rattle.cvd_cursor.specs.declared.fault.ReadFault.{ReadFault}
use Rattle.cvd_cursor.proofs.Composed.{takes_both, refused_first, refused_second, takes_as, refused_by}

module _ (A B : Type 0) (value_marks : A → List Mark) (flag : A → Bool) (whole_marks : B → List Mark) (to : A → B) (from : B → A) where
  abbrev Ended : Type 0
  Ended = (a : A) × Unit {0}

  abbrev pub ended_marks : Ended → List Mark
  ended_marks p = value_marks p.0 ++ line_marks (flag p.0) p.1

  abbrev to_whole : Ended → B
  to_whole p = to p.0

  abbrev from_whole : B → Ended
  from_whole b = (from b, tt)

  module _ (alike : (b : B) → whole_marks b ≡ value_marks (from b) ++ line_end (flag (from b)) ∷ [])
      (alike_to : (a : A) → whole_marks (to a) ≡ value_marks a ++ line_end (flag a) ∷ []) (apart : Apart fits value_marks) where
    -- the value is refused
    pub refused_value : (old new : Reading) (fault : ReadFault) → Refused value_marks old fault new → Refused whole_marks old fault new
    refused_value old new fault r =
        refused_by Ended B to_whole from_whole ended_marks whole_marks alike (λ p. alike_to p.0) old new fault
        (refused_first A (λ a. Unit {0}) value_marks (λ a. line_marks (flag a)) apart (λ a. tt) old new fault r)

    -- the line's end is refused
    pub refused_end : (a : A) (stands : Bool) → stands ≡ flag a → (old mid new : Reading) (fault : ReadFault) → Takes value_marks old mid a
        → Refused (line_marks stands) mid fault new → Refused whole_marks old fault new
    refused_end a stands e old mid new fault h r =
        refused_by Ended B to_whole from_whole ended_marks whole_marks alike (λ p. alike_to p.0) old new fault
        (refused_second A (λ b. Unit {0}) value_marks (λ b. line_marks (flag b)) a (apart a) old mid new fault h
        (subst (λ s. Refused (line_marks s) mid fault new) e r))

    -- both are read
    pub takes_line : (a : A) (stands : Bool) → stands ≡ flag a → (old mid new : Reading) → Takes value_marks old mid a → Takes (line_marks stands) mid new tt
        → Takes whole_marks old new (to a)
    takes_line a stands e old mid new h t =
        takes_as Ended B to_whole from_whole ended_marks whole_marks alike (λ p. alike_to p.0) old new (a, tt)
        (takes_both A (λ b. Unit {0}) value_marks (λ b. line_marks (flag b)) old mid new a tt h (subst (λ s. Takes (line_marks s) mid new tt) e t))
