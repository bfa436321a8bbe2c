-- The first line, the number of counters, and what comes behind them.
use Rattle.std.proofs.Common.{◌≡◌, ℕ, List, [], ◌∷◌, ◌++◌, map, refl, ap}
use Rattle.std.specs.Prelude.{codes, nat_le}
use Rattle.spelling_laws.specs.Spelled.{Apart}
use Rattle.design_tree.specs.declared.instrumented.Instrumented.{Instrumented}
use Rattle.cvd_text.specs.Lines.{no_load}
use Rattle.cvd_text.specs.Pieces.{Mark, token, line_end, fits, design_marks}
use Rattle.cvd_text.specs.Sections.{heading}
use Rattle.cvd_text.specs.Spelling.{first_line, most_counters}
use Rattle.cvd_cursor.specs.Places.{Reading}
use Rattle.cvd_cursor.specs.Reads.{Takes, Refused}
use Rattle.cvd_cursor.specs.declared.fault.ReadFault.{ReadFault}
use Rattle.cvd_cursor.proofs.Composed.{takes_both, takes_as, refused_by}
use Rattle.cvd_line_ends.specs.Ends.{Halts}
use Rattle.cvd_line_ends.proofs.Together.{ends_via, halts_first, halts_second}
use Rattle.cvd_step_laws.proofs.BlockReads.{plain_stands}
use Rattle.cvd_section_laws.proofs.Rows.{heading_tokens, head_marks, apart_head_marks}
use Rattle.cvd_section_laws.proofs.Whole.{Variables, Counters, Whole, variables_on, counters_on, counters_stand, first_marks, whole_marks}
use Rattle.cvd_section_laws.proofs.Whole.{made_design, parts_of_design, design_alike, design_alike_to}
use Rattle.cvd_sort_laws.proofs.TokenSorts.{line_ends}
use Rattle.cvd_sort_laws.proofs.SectionSorts.{head_sorted}
use Rattle.cvd_sort_laws.proofs.WholeSorts.{first_sorted}
use Rattle.cvd_sections.specs.Alone.{marks_alone}
use Rattle.cvd_sections.proofs.Lists.{takes_alike, refused_alike}
use Rattle.cvd_read.proofs.Chain.{sorted_halts}

abbrev pub first_alone : Unit {0} → List Mark
first_alone u = marks_alone (first_line ∷ [])

abbrev pub counters_alone : ℕ → List Mark
counters_alone n = marks_alone (heading (codes "counters") n (nat_le n most_counters) ∷ [])

abbrev head : ℕ → List Mark
head = head_marks (codes "counters") counters_stand

abbrev behind : ℕ → Variables → List Mark
behind n = variables_on n no_load

abbrev some_variables : Variables
some_variables = ([], ([], ([], ([], ([], ([], tt))))))

head_alike : (n : ℕ) → head n ≡ counters_alone n
head_alike n =
    let tokens = heading_tokens (codes "counters") n in
    ap (λ s. map token tokens ++ line_end s ∷ []) (plain_stands no_load tokens (nat_le n most_counters) refl)

first_apart : Apart fits first_alone
first_apart u v h = refl

counters_apart_here : Apart fits head
counters_apart_here = apart_head_marks (codes "counters") counters_stand

pub takes_design : (old mid low new : Reading) (n : ℕ) (p : Variables) → Takes first_alone old mid tt → Takes counters_alone mid low n
    → Takes (variables_on n no_load) low new p → Takes design_marks old new (made_design (tt, (n, p)))
takes_design old mid low new n p h k q =
    takes_as Whole Instrumented made_design parts_of_design whole_marks design_marks design_alike design_alike_to old new (tt, (n, p))
    (takes_both (Unit {0}) (λ u. Counters) first_marks (λ u. counters_on) old mid new tt (n, p) h
    (takes_both ℕ (λ m. Variables) head behind mid low new n p (takes_alike counters_alone head head_alike mid low n k) q))

whole_halts : (old new : Reading) (fault : ReadFault) → Halts whole_marks old fault new → Halts design_marks old fault new
whole_halts old new fault h = record {
  refused = refused_by Whole Instrumented made_design parts_of_design whole_marks design_marks design_alike design_alike_to old new fault h.refused;
  ends = ends_via parts_of_design whole_marks design_marks design_alike old new fault h.ends;
}

pub first_halts : (old new : Reading) (fault : ReadFault) → Refused first_alone old fault new → Halts design_marks old fault new
first_halts old new fault r =
    whole_halts old new fault
    (halts_first (Unit {0}) (λ u. Counters) first_marks (λ u. counters_on) first_apart (λ u. (0, some_variables)) old new fault
    (sorted_halts first_marks (λ top. first_sorted line_ends top) old new fault r))

lines_halt : (old mid new : Reading) (fault : ReadFault) → Takes first_alone old mid tt → Halts counters_on mid fault new
    → Halts design_marks old fault new
lines_halt old mid new fault h r =
    whole_halts old new fault
    (halts_second (Unit {0}) (λ u. Counters) first_marks (λ u. counters_on) first_apart old mid new tt fault h r)

pub counters_halt : (old mid new : Reading) (fault : ReadFault) → Takes first_alone old mid tt → Refused counters_alone mid fault new
    → Halts design_marks old fault new
counters_halt old mid new fault h r =
    lines_halt old mid new fault h
    (halts_first ℕ (λ m. Variables) head behind counters_apart_here (λ m. some_variables) mid new fault
    (sorted_halts head (λ top. head_sorted line_ends top (codes "counters") counters_stand) mid new fault
    (refused_alike counters_alone head head_alike mid new fault r)))

pub variables_halt : (old mid low new : Reading) (n : ℕ) (fault : ReadFault) → Takes first_alone old mid tt → Takes counters_alone mid low n
    → Halts (variables_on n no_load) low fault new → Halts design_marks old fault new
variables_halt old mid low new n fault h k r =
    lines_halt old mid new fault h
    (halts_second ℕ (λ m. Variables) head behind counters_apart_here mid low new n fault (takes_alike counters_alone head head_alike mid low n k) r)
