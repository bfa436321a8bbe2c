-- The rows of an open stimulus.
use Rattle.std.proofs.Common.{◌≡◌, ℕ, ◌+◌, Bool, true, false, cond, Option, None, Some, Result, Ok, Err, IfOk, IfErr, OnOk, IfSome, List, [], ◌∷◌, sym, ◌∙◌, ap}
use Rattle.std.specs.Prelude.{nat_lt}
use Rattle.std.specs.Option.{option_map}
use Rattle.design_tree.specs.declared.design.Design.{Design}
use Rattle.stim_lines.specs.Fields.{Said, fields_of, spoken}
use Rattle.stim_lines.specs.Header.{header_fault, inputs_of}
use Rattle.stim_lines.specs.Layouts.{LaysOut, laid_fault, laid_row, rows_laid}
use Rattle.stim_lines.specs.Reading.{is_of_text}
use Rattle.stim_lines.specs.Stimulus.{headed, only_fault, stimulus_of, stimulus_said, unless_fault, with_row}
use Rattle.stim_lines.specs.declared.fault.StimFault.{StimFault}
use Rattle.stim_lines.specs.declared.fault.StimFault.TheVariants.{TooManyCycles}
use Rattle.stim_lines.specs.declared.layout.Layout.{Layout}
use Rattle.stim_lines.specs.declared.row.Row.{Row}
use Rattle.stim_lines.specs.declared.row.StimText.{StimText}
use Rattle.stimulus.specs.Lines.{LinesState, fresh_lines, heard_left}
use Rattle.stimulus.specs.Streaming.{FaultOf, IsStarted, ReaderState, TellsLeft, no_rows, rows_behind, rows_left}
use Rattle.stimulus.specs.Taking.{ComesTold, line_said, row_said}
use Rattle.stimulus.specs.declared.line_story.LineStory.TheVariants as story
use Rattle.stimulus.specs.declared.row_step.RowStep.{RowStep}
use Rattle.stimulus.specs.declared.row_step.RowStep.TheVariants as step

-- a line that gives a row gives that of its fields
said-row : (layout : Layout) (cycles n : ℕ) (fields : List (List ℕ)) (row : Row) (rest : StimText) → row_said layout cycles n fields rest ≡ with_row row rest
    → laid_row layout fields ≡ row
said-row layout cycles n fields row rest e = by (laid_fault layout.widths n fields) (nat_lt 4294967296 (cycles + (laid_row layout fields).repeat)) e
  where
    by : (o : Option StimFault) (t : Bool) → unless_fault o (cond t (only_fault (TooManyCycles n)) (with_row (laid_row layout fields) rest))
        ≡ with_row row rest → laid_row layout fields ≡ row
    by (Some flaw) t told = let rows : [] ≡ row ∷ rest.rows = ap (λ (s : StimText). s.rows) told in absurd (cc)
    by None true told = let rows : [] ≡ row ∷ rest.rows = ap (λ (s : StimText). s.rows) told in absurd (cc)
    by None false told = let rows : laid_row layout fields ∷ rest.rows ≡ row ∷ rest.rows = ap (λ (s : StimText). s.rows) told in cc

tells-said : (layout : Layout) (cycles n : ℕ) (fields : List (List ℕ)) (row : Row) (before after : Option (List Said))
    → ComesTold story.Spoken (spoken n fields) before after
    → ((rest : StimText) → row_said layout cycles n fields rest ≡ with_row row rest)
    → TellsLeft step.Row row (option_map (rows_laid layout cycles) before) (option_map (rows_laid layout (cycles + row.repeat)) after)
tells-said layout cycles n fields row None after comes said = tt
tells-said layout cycles n fields row (Some was) after comes said =
    let left = comes.0 in
    let same : (laid_row layout fields).repeat ≡ row.repeat = ap (λ (r : Row). r.repeat) (said-row layout cycles n fields row no_rows (said no_rows)) in (
      rows_laid layout (cycles + row.repeat) left,
      ap (option_map (rows_laid layout (cycles + row.repeat))) comes.1,
      ap (rows_laid layout cycles) comes.2 ∙ said (rows_laid layout (cycles + (laid_row layout fields).repeat) left)
          ∙ ap (λ (k : ℕ). with_row row (rows_laid layout (cycles + k) left)) same,
    )

-- the row that comes next
pub tells_row : (result : Result RowStep StimFault) (lines mid : LinesState) (layout : Layout) (cycles : ℕ) (flaw : Option StimFault) (new : ReaderState)
    (row : Row) (rest_old rest_new : Option (List ℕ))
    → flaw ≡ None → ComesTold story.Spoken (line_said mid) (heard_left lines rest_old) (heard_left mid rest_new) → IfOk result (λ s. s ≡ step.Row)
    → OnOk result ((rest : StimText) → row_said layout cycles mid.number (fields_of mid.cutter.line) rest ≡ with_row row rest)
    → OnOk result (new ≡ record { lines = mid; layout = layout; cycles = cycles + row.repeat; fault = flaw })
    → IfOk result (λ s. TellsLeft s row (option_map (rows_behind flaw layout cycles) (heard_left lines rest_old)) (rows_left new rest_new))
tells_row (Err fault) lines mid layout cycles flaw new row rest_old rest_new none comes is said made = tt
tells_row (Ok s) lines mid layout cycles flaw new row rest_old rest_new none comes is said made =
    rw (is, made, none) (tells-said layout cycles mid.number (fields_of mid.cutter.line) row (heard_left lines rest_old) (heard_left mid rest_new) comes said)

-- the row that is refused
refused-said : (layout : Layout) (cycles n : ℕ) (fields : List (List ℕ)) (fault : StimFault) (before after : Option (List Said))
    → ComesTold story.Spoken (spoken n fields) before after
    → ((rest : StimText) → row_said layout cycles n fields rest ≡ only_fault fault)
    → IfSome (option_map (rows_laid layout cycles) before) (λ was. was ≡ only_fault fault)
refused-said layout cycles n fields fault None after comes said = tt
refused-said layout cycles n fields fault (Some was) after comes said =
    ap (rows_laid layout cycles) comes.2 ∙ said (rows_laid layout (cycles + (laid_row layout fields).repeat) comes.0)

pub refuses_row : (result : Result RowStep StimFault) (lines mid : LinesState) (layout : Layout) (cycles : ℕ) (flaw : Option StimFault)
    (rest_old rest_new : Option (List ℕ))
    → flaw ≡ None → ComesTold story.Spoken (line_said mid) (heard_left lines rest_old) (heard_left mid rest_new)
    → IfErr result (λ fault. (rest : StimText) → row_said layout cycles mid.number (fields_of mid.cutter.line) rest ≡ only_fault fault)
    → IfErr result (λ fault. FaultOf (option_map (rows_behind flaw layout cycles) (heard_left lines rest_old)) fault)
refuses_row (Ok s) lines mid layout cycles flaw rest_old rest_new none comes said = tt
refuses_row (Err fault) lines mid layout cycles flaw rest_old rest_new none comes said =
    rw none (λ of_text. refused-said layout cycles mid.number (fields_of mid.cutter.line) fault (heard_left lines rest_old) (heard_left mid rest_new) comes
    said)

-- the header that was read
starts-header : (design : Design) (layout : Layout) (mid : LinesState) (reader : ReaderState) (rest_old rest_new : Option (List ℕ))
    → ComesTold story.Spoken (line_said mid) (heard_left fresh_lines rest_old) (heard_left mid rest_new)
    → header_fault (inputs_of design) mid.number (fields_of mid.cutter.line) ≡ None → LaysOut layout (inputs_of design) (fields_of mid.cutter.line)
    → reader ≡ record { lines = mid; layout = layout; cycles = 0; fault = None } → IsStarted design rest_old reader rest_new
starts-header design layout mid reader None rest_new comes none lays made = tt
starts-header design layout mid reader (Some text) rest_new comes none lays made =
    let left = comes.0 in (
      rows_laid layout 0 left,
      ap (stimulus_said (inputs_of design)) comes.2 ∙ ap (headed (inputs_of design) mid.number (fields_of mid.cutter.line) left) none
          ∙ ap (λ (s : StimText). Ok s) (sym (lays 0 left)),
      rw made (ap (option_map (rows_laid layout 0)) comes.1),
    )

pub header_starts : (result : Result (ReaderState × Row) StimFault) (design : Design) (mid : LinesState) (rest_old rest_new : Option (List ℕ))
    → ComesTold story.Spoken (line_said mid) (heard_left fresh_lines rest_old) (heard_left mid rest_new)
    → OnOk result (header_fault (inputs_of design) mid.number (fields_of mid.cutter.line) ≡ None)
    → IfOk result (λ made. LaysOut made.0.layout (inputs_of design) (fields_of mid.cutter.line))
    → IfOk result (λ made. made.0 ≡ record { lines = mid; layout = made.0.layout; cycles = 0; fault = None })
    → IfOk result (λ made. IsStarted design rest_old made.0 rest_new)
header_starts (Err fault) design mid rest_old rest_new comes none lays new = tt
header_starts (Ok made) design mid rest_old rest_new comes none lays new = starts-header design made.0.layout mid made.0 rest_old rest_new comes none lays new

-- the header that is refused
refused-header : (design : Design) (fault : StimFault) (mid : LinesState) (rest_old rest_new : Option (List ℕ))
    → ComesTold story.Spoken (line_said mid) (heard_left fresh_lines rest_old) (heard_left mid rest_new)
    → header_fault (inputs_of design) mid.number (fields_of mid.cutter.line) ≡ Some fault
    → IfSome rest_old (λ text. stimulus_of (inputs_of design) text ≡ Err fault)
refused-header design fault mid None rest_new comes some = tt
refused-header design fault mid (Some text) rest_new comes some =
    ap (stimulus_said (inputs_of design)) comes.2 ∙ ap (headed (inputs_of design) mid.number (fields_of mid.cutter.line) comes.0) some

pub header_refused : (result : Result (ReaderState × Row) StimFault) (design : Design) (mid : LinesState) (rest_old rest_new : Option (List ℕ))
    → ComesTold story.Spoken (line_said mid) (heard_left fresh_lines rest_old) (heard_left mid rest_new)
    → IfErr result (λ fault. is_of_text fault ≡ true → header_fault (inputs_of design) mid.number (fields_of mid.cutter.line) ≡ Some fault)
    → IfErr result (λ fault. is_of_text fault ≡ true → IfSome rest_old (λ text. stimulus_of (inputs_of design) text ≡ Err fault))
header_refused (Ok made) design mid rest_old rest_new comes some = tt
header_refused (Err fault) design mid rest_old rest_new comes some = λ of_text. refused-header design fault mid rest_old rest_new comes (some of_text)
