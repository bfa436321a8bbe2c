-- A section, and what comes behind it.
use Rattle.std.proofs.Common.{◌≡◌, ℕ, true, List, refl, sym, subst}
use Rattle.spelling_laws.specs.Spelled.{Apart}
use Rattle.cvd_text.specs.Lines.{Load, Line, is_within}
use Rattle.cvd_text.specs.Pieces.{Mark, fits, marks_of}
use Rattle.cvd_cursor.specs.Places.{Reading}
use Rattle.cvd_cursor.specs.Reads.{Takes, Refused}
use Rattle.cvd_cursor.specs.declared.fault.ReadFault.{ReadFault}
use Rattle.cvd_cursor.proofs.Composed.{takes_both}
use Rattle.cvd_line_ends.specs.Ends.{Halts}
use Rattle.cvd_line_ends.proofs.Together.{ends_via, halts_first, halts_second, halts_sorted}
use Rattle.cvd_step_laws.specs.LineMarks.{load_behind}
use Rattle.cvd_section_laws.proofs.Whole.{section_then}
use Rattle.cvd_sort_laws.proofs.TokenSorts.{MarksSorted, line_ends, has_sort}
use Rattle.cvd_sections.specs.Alone.{marks_alone}
use Rattle.cvd_sections.proofs.Lists.{takes_alike, refused_alike}
use Rattle.cvd_read.proofs.Plain.{AddNothing, load_stays, marks_stay}

-- values in whose lines only ends come where lines may end
pub sorted_halts : {A : Type 0} (spelled : A → List Mark) → ((most : ℕ) → MarksSorted line_ends most spelled) → (old new : Reading) (fault : ReadFault)
    → Refused spelled old fault new → Halts spelled old fault new
sorted_halts spelled sorted = halts_sorted spelled (has_sort line_ends) (λ t. refl) (λ stands. refl) sorted

module _ {A B : Type 0} (lines : A → List Line) (more : A → Load → B → List Mark) (load : Load) where
  abbrev pub section : A → List Mark
  section a = marks_of load (lines a)

  abbrev pub behind : A → B → List Mark
  behind a = more a (load_behind load (lines a))

  pub takes_then : (old mid new : Reading) (a : A) (b : B) → Takes section old mid a → Takes (behind a) mid new b
      → Takes (section_then lines more load) old new (a, b)
  takes_then old mid new a b h k = takes_both A (λ x. B) section behind old mid new a b h k

  module _ (apart : Apart fits section) where
    pub section_halts : B → (old new : Reading) (fault : ReadFault) → Halts section old fault new → Halts (section_then lines more load) old fault new
    section_halts some old new fault h = halts_first A (λ x. B) section behind apart (λ x. some) old new fault h

    pub more_halts : (old mid new : Reading) (a : A) (fault : ReadFault) → Takes section old mid a → Halts (behind a) mid fault new
        → Halts (section_then lines more load) old fault new
    more_halts old mid new a fault h k = halts_second A (λ x. B) section behind apart old mid new a fault h k

    -- the section is refused, in which only ends come where lines may end
    pub section_sorted : ((most : ℕ) → MarksSorted line_ends most section) → B → (old new : Reading) (fault : ReadFault) → Refused section old fault new
        → Halts (section_then lines more load) old fault new
    section_sorted sorted some old new fault r = section_halts some old new fault (sorted_halts section sorted old new fault r)

  -- a section whose lines add nothing
  module _ (within : is_within load ≡ true) (nothing : (a : A) → AddNothing (lines a)) where
    abbrev pub alone : A → List Mark
    alone a = marks_alone (lines a)

    alike : (a : A) → section a ≡ alone a
    alike a = marks_stay load within (lines a) (nothing a)

    stays : (a : A) → load ≡ load_behind load (lines a)
    stays a = sym (load_stays load (lines a) (nothing a))

    pub plain_takes : (old mid new : Reading) (a : A) (b : B) → Takes alone old mid a → Takes (more a load) mid new b
        → Takes (section_then lines more load) old new (a, b)
    plain_takes old mid new a b h k =
        takes_then old mid new a b (takes_alike alone section alike old mid a h) (subst (λ l. Takes (more a l) mid new b) (stays a) k)

    module _ (apart : Apart fits section) where
      pub plain_halts : B → (old new : Reading) (fault : ReadFault) → Halts alone old fault new → Halts (section_then lines more load) old fault new
      plain_halts some old new fault h = section_halts apart some old new fault (record {
        refused = refused_alike alone section alike old new fault h.refused;
        ends = ends_via (λ a. a) alone section alike old new fault h.ends;
      })

      pub plain_sorted : ((most : ℕ) → MarksSorted line_ends most section) → B → (old new : Reading) (fault : ReadFault) → Refused alone old fault new
          → Halts (section_then lines more load) old fault new
      plain_sorted sorted some old new fault r = section_sorted apart sorted some old new fault (refused_alike alone section alike old new fault r)

      pub plain_more : (old mid new : Reading) (a : A) (fault : ReadFault) → Takes alone old mid a → Halts (more a load) mid fault new
          → Halts (section_then lines more load) old fault new
      plain_more old mid new a fault h k =
          more_halts apart old mid new a fault (takes_alike alone section alike old mid a h) (subst (λ l. Halts (more a l) mid fault new) (stays a) k)
