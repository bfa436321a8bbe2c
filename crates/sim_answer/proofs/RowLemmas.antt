-- Rows of a stimulus are rows of its design.
use Rattle.std.proofs.Common.{◌≡◌, ◌∙◌, sym, ap, subst, refl, ℕ, zero, suc, ◌+◌, ◌<◌, ◌≤◌, ◌^◌, Bool, true, false, cond, List, [], ◌∷◌, map, length, replicate}
use Rattle.std.proofs.Common.{take, take_all, Option, None, Some, Result, Ok, Err, arith}
use Rattle.std.specs.Prelude.{All, slice_index, slice_index_or, slice_get, zip, nat_lt, ◌==◌}
use Rattle.std.specs.Option.{option_map_or}
use Rattle.std.proofs.Math.Pow.{pow_mono}
use Rattle.std.proofs.lemmas.Bool.{eqb-true}
use Rattle.std.proofs.lemmas.List.{get_or-map, length-map}
use Rattle.std.proofs.lemmas.List.Elements.{All-append, All-replicate}
use Rattle.std.specs.List.{AllByRecursion}
use Rattle.cov_types.specs.declared.var.Var.{Var}
use Rattle.circuit_run.specs.States.{no_var}
use Rattle.design_tree.specs.declared.design.Design.{Design}
use Rattle.design_tree.specs.declared.design.Input as design
use Rattle.design_meaning.specs.Circuit.{input_vars}
use Rattle.design_meaning.specs.SettledLaws.{IsRow}
use Rattle.design_meaning.specs.States.{var_of}
use Rattle.stim_lines.specs.Fields.{Said, skipped, refused, spoken, text_says}
use Rattle.stim_lines.specs.Header.{Input, input_of, inputs_of, header_fault, or_else}
use Rattle.stim_lines.specs.Layouts.{DifferentNames, cell_value, cells_fault, input_widths, laid_fault, laid_row, layout_of, placed, rows_laid}
use Rattle.stim_lines.specs.RowLines.{cycles_of, value_fields}
use Rattle.stim_lines.specs.Stimulus.{headed, only_fault, row_then, rows_from, stimulus_of, stimulus_said, unless_fault, with_row}
use Rattle.stim_lines.specs.declared.fault.StimFault.{StimFault}
use Rattle.stim_lines.specs.declared.fault.StimFault.TheVariants.{BadHeader, BadRepeat, TooManyCycles, WrongCount}
use Rattle.stim_lines.specs.declared.layout.Layout.{Layout}
use Rattle.stim_lines.specs.declared.row.Row.{Row}
use Rattle.stim_lines.specs.declared.row.StimText.{StimText}
use Rattle.stim_lines.proofs.LayoutLemmas.{lays_out, none-first, none-second, test-passed}
use Rattle.stim_lines.proofs.RowLemmas.{cells-fit}
use Rattle.stim_lines.proofs.WidthLemmas.{all-named, own_columns}
use Rattle.sim_answer.specs.SimAnswer.{values_of}

-- the width of a variable that is looked for in two ways; one that isn't there has the width 0 or 1
wide : (vars : List Var) (v : ℕ) → option_map_or (λ (w : Var). w.width) (slice_get vars v) 0 ≤ (slice_index_or vars v no_var).width
wide [] v = omega arith
wide (w ∷ vars) zero = omega arith
wide (w ∷ vars) (suc v) = wide vars v

widths_at : (vars : List Var) (ds : List design.Input) (k : ℕ) → k < length ds
    → slice_index (map (λ (i : Input). i.width) (map (input_of vars) ds)) k ≤ (slice_index_or vars (slice_index (map (λ
    (i : design.Input). i.var) ds) k) no_var).width
widths_at vars [] k within = absurd (omega (arith, within))
widths_at vars (d ∷ ds) zero within = wide vars d.var
widths_at vars (d ∷ ds) (suc k) within = widths_at vars ds k (omega (arith, within))

inputs_many : (vars : List Var) (ds : List design.Input) → length (map (λ (i : Input). i.width) (map (input_of vars) ds)) ≡ length ds
inputs_many vars [] = refl
inputs_many vars (d ∷ ds) = omega (arith, inputs_many vars ds)

-- values that fit these widths, which are those of the inputs, are a row of the design
pub fits_design : (d : Design) (widths values : List ℕ) → widths ≡ map (λ (i : Input). i.width) (inputs_of d) → length values ≡ length widths
    → ((k : ℕ) → k < length values → slice_index values k < 2 ^ slice_index widths k) → IsRow d values
fits_design d widths values are many fit =
    let size : length values ≡ length d.inputs = many ∙ ap length are ∙ inputs_many d.vars d.inputs in
    record {
      as_many = size;
      fit = λ k within.
          let one = fit k within in
          let wide_enough = widths_at d.vars d.inputs k (omega (arith, within, size)) in
          let same : slice_index widths k ≡ slice_index (map (λ (i : Input). i.width) (inputs_of d)) k = ap (λ (l : List ℕ). slice_index l k) are in
          let more : 2 ^ slice_index widths k ≤ 2 ^ (var_of d (slice_index (input_vars d) k)).width = pow_mono (omega (arith, wide_enough, same)) in
          omega (arith, one, more);
    }

-- ---- rows below a header

-- values that fit the widths of the inputs
record FitsInputs (layout : Layout) (values : List ℕ) : Type 0 where
  many : length values ≡ length (input_widths layout)
  fit : (k : ℕ) → k < length values → slice_index values k < 2 ^ slice_index (input_widths layout) k

placed_at : (cells columns : List ℕ) (k : ℕ) → k < length columns → slice_index (placed cells columns) k ≡ slice_index cells (slice_index columns k)
placed_at cells columns k within = get_or-map (slice_index cells) columns k 0 0 within

placed_fit : (layout : Layout) (cells : List ℕ) → ((k : ℕ) → slice_index cells k < 2 ^ slice_index layout.widths k)
    → FitsInputs layout (placed cells layout.columns)
placed_fit layout cells fit = record {
  many = length-map layout.columns (slice_index cells) ∙ sym (length-map layout.columns (slice_index layout.widths));
  fit = λ k within.
      let inside : k < length layout.columns = omega (arith, within, length-map layout.columns (slice_index cells)) in
      rw (placed_at cells layout.columns k inside, placed_at layout.widths layout.columns k inside) (fit (slice_index layout.columns k));
}

row_fits : (layout : Layout) (n : ℕ) (fields : List (List ℕ)) → laid_fault layout.widths n fields ≡ None → FitsInputs layout (laid_row layout fields).values
row_fits layout n fields none =
    let values = value_fields fields in
    let ws = layout.widths in
    let count : Option StimFault = cond (length values == length ws) None (Some (WrongCount n)) in
    let cells : Option StimFault = cells_fault n (zip ws values) in
    let rest = none-second (option_map_or (λ cycles. None) (cycles_of fields) (Some (BadRepeat n))) (or_else count cells) none in
    let size : length values ≡ length ws = eqb-true (length values) (length ws) (test-passed (length values == length ws) (WrongCount n)
    (none-first count cells rest)) in
    let whole : take (length ws) (map cell_value values) ≡ map cell_value values =
    take_all (length ws) (map cell_value values) (omega (arith, size, length-map values cell_value)) in
    placed_fit layout (map cell_value values)
    (λ k. subst (λ (l : List ℕ). slice_index l k < 2 ^ slice_index ws k) whole (cells-fit n ws values (none-second count cells rest) k))

abbrev Fits : Layout → Row → Type 0
Fits layout row = FitsInputs layout row.values

laid_fit : (layout : Layout) (cycles : ℕ) (said : List Said) → AllByRecursion (Fits layout) (rows_laid layout cycles said).rows
laid_fit layout cycles [] = tt
laid_fit layout cycles (skipped ∷ rest) = laid_fit layout cycles rest
laid_fit layout cycles (refused flaw ∷ rest) = tt
laid_fit layout cycles (spoken n fields ∷ rest) =
    by (laid_fit layout (cycles + (laid_row layout fields).repeat) rest) (laid_fault layout.widths n fields) refl
  where
    kept : AllByRecursion (Fits layout) (rows_laid layout (cycles + (laid_row layout fields).repeat) rest).rows
        → FitsInputs layout (laid_row layout fields).values → (b : Bool)
        → AllByRecursion (Fits layout) (cond b (only_fault (TooManyCycles n)) (with_row (laid_row layout fields) (rows_laid layout (cycles +
        (laid_row layout fields).repeat) rest))).rows
    kept all fit true = tt
    kept all fit false = (fit, all)

    by : AllByRecursion (Fits layout) (rows_laid layout (cycles + (laid_row layout fields).repeat) rest).rows → (o : Option StimFault)
        → laid_fault layout.widths n fields ≡ o
        → AllByRecursion (Fits layout) (unless_fault o (row_then cycles n (laid_row layout fields) (rows_laid layout (cycles +
        (laid_row layout fields).repeat) rest))).rows
    by all None none = kept all (row_fits layout n fields none) (nat_lt (2 ^ 32) (cycles + (laid_row layout fields).repeat))
    by all (Some flaw) is = tt

-- rows that fit are rows of the design, cycle by cycle
cycles_fit : (d : Design) (layout : Layout) (rows : List Row) → input_widths layout ≡ map (λ (i : Input). i.width) (inputs_of d)
    → AllByRecursion (Fits layout) rows → All (IsRow d) (values_of rows)
cycles_fit d layout [] widths fit = λ k e within. absurd (omega (arith, within))
cycles_fit d layout (row ∷ rows) widths fit =
    All-append (IsRow d) (replicate row.repeat row.values) (values_of rows)
    (All-replicate (IsRow d) row.repeat row.values (fits_design d (input_widths layout) row.values widths fit.0.many fit.0.fit))
    (cycles_fit d layout rows widths fit.1)

-- the rows that a layout has for lines are rows of its design
pub laid_rows_fit : (d : Design) (layout : Layout) (cycles : ℕ) (said : List Said) → input_widths layout ≡ map (λ (i : Input). i.width) (inputs_of d)
    → All (IsRow d) (values_of (rows_laid layout cycles said).rows)
laid_rows_fit d layout cycles said widths = cycles_fit d layout (rows_laid layout cycles said).rows widths (laid_fit layout cycles said)

abbrev good : StimText → Result StimText StimFault
good stim = Ok stim

abbrev bad : StimFault → Result StimText StimFault
bad flaw = Err flaw

same_ok : (a b : StimText) → good a ≡ good b → a ≡ b
same_ok a b is = cc

no_err : (flaw : StimFault) (a : StimText) → bad flaw ≡ good a → ⊥
no_err flaw a is = absurd cc

said_fit : (d : Design) (said : List Said) (stim : StimText) → DifferentNames d → stimulus_said (inputs_of d) said ≡ Ok stim
    → All (IsRow d) (values_of stim.rows)
said_fit d [] stim differ is = absurd (no_err (BadHeader 1) stim is)
said_fit d (skipped ∷ rest) stim differ is = said_fit d rest stim differ is
said_fit d (refused flaw ∷ rest) stim differ is = absurd (no_err flaw stim is)
said_fit d (spoken n fields ∷ rest) stim differ is = by (header_fault (inputs_of d) n fields) refl is
  where
    by : (o : Option StimFault) → header_fault (inputs_of d) n fields ≡ o → headed (inputs_of d) n fields rest o ≡ Ok stim → All (IsRow d) (values_of stim.rows)
    by None none same =
        let rows = lays_out (inputs_of d) fields 0 rest ∙ same_ok (rows_from (inputs_of d) fields 0 rest) stim same in
        subst (λ (s : StimText). All (IsRow d) (values_of s.rows)) rows
        (laid_rows_fit d (layout_of (inputs_of d) fields) 0 rest (own_columns d.vars d.inputs fields (all-named (inputs_of d) n fields none) differ))
    by (Some flaw) some same = absurd (no_err flaw stim same)

-- the rows of a stimulus are rows of its design
pub rows_fit : (d : Design) (text : List ℕ) (stim : StimText) → DifferentNames d → stimulus_of (inputs_of d) text ≡ Ok stim
    → All (IsRow d) (values_of stim.rows)
rows_fit d text stim differ is = said_fit d (text_says text) stim differ is
