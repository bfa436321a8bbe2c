-- Rows by columns: what a header comes to, and what rows below it are (docs/formats.md, "Stimulus").
use Rattle.std.specs.Prelude.{◌≡◌, ◌≢◌, ℕ, ◌^◌, ◌==◌, ◌<◌, ◌≤◌, nat_lt, List, [], ◌∷◌, AllPairs, length, map, zip, slice_index, Option, None, Some}
use Rattle.std.specs.Prelude.{if◌then◌else◌}
use Rattle.std.specs.List.{position_or_len}
use Rattle.std.specs.Option.{option_map_or}
use Rattle.std.specs.Str.{bytes_eq}
use Rattle.cov_port.specs.Hexadecimal.{hexadecimal_of}
use Rattle.design_tree.specs.declared.design.Design.{Design}
use Rattle.stim_lines.specs.Fields.{Said}
use Rattle.stim_lines.specs.Header.{Input, or_else}
use Rattle.stim_lines.specs.RowLines.{cycles_of, value_fields, width_of}
use Rattle.stim_lines.specs.Stimulus.{rows_by, rows_from}
use Rattle.stim_lines.specs.declared.fault.StimFault.{StimFault}
use Rattle.stim_lines.specs.declared.fault.StimFault.TheVariants.{BadRepeat, WrongCount, BadValue, TooWide}
use Rattle.stim_lines.specs.declared.layout.Layout.{Layout}
use Rattle.stim_lines.specs.declared.row.Row.{Row}
use Rattle.stim_lines.specs.declared.row.StimText.{StimText}

-- the column of a name: the number of the first field of the header that is this name
abbrev pub column_of : List (List ℕ) → List ℕ → ℕ
column_of header name = position_or_len (λ field. bytes_eq field name) header

-- the layout below a header
abbrev pub layout_of : List Input → List (List ℕ) → Layout
layout_of inputs header = record { widths = map (width_of inputs) header; columns = map (λ (i : Input). column_of header i.name) inputs }

-- what is wrong with a value in a column of this width
abbrev pub cell_fault : ℕ → ℕ × List ℕ → Option StimFault
cell_fault n cell = option_map_or (λ v. if nat_lt v (2 ^ cell.0) then None else Some (TooWide n)) (hexadecimal_of cell.1) (Some (BadValue n))

-- the fault of the leftmost wrong value
abbrev pub cells_fault : ℕ → List (ℕ × List ℕ) → Option StimFault
cells_fault n [] = None
cells_fault n (cell ∷ cells) = or_else (cell_fault n cell) (cells_fault n cells)

-- what is wrong with a row below columns of these widths
abbrev pub laid_fault : List ℕ → ℕ → List (List ℕ) → Option StimFault
laid_fault widths n fields =
    or_else (option_map_or (λ cycles. None) (cycles_of fields) (Some (BadRepeat n)))
    (or_else (if length (value_fields fields) == length widths then None else Some (WrongCount n))
    (cells_fault n (zip widths (value_fields fields))))

abbrev pub cell_value : List ℕ → ℕ
cell_value text = option_map_or (λ v. v) (hexadecimal_of text) 0

-- the values of a row, column by column
abbrev pub cells_of : List (List ℕ) → List ℕ
cells_of fields = map cell_value (value_fields fields)

-- the values of the inputs, each from its column
abbrev pub placed : List ℕ → List ℕ → List ℕ
placed cells columns = map (slice_index cells) columns

abbrev pub laid_row : Layout → List (List ℕ) → Row
laid_row layout fields = record {
  values = placed (cells_of fields) layout.columns;
  repeat = option_map_or (λ n. n) (cycles_of fields) 1;
}

-- the rows of a layout, behind so many cycles
abbrev pub rows_laid : Layout → ℕ → List Said → StimText
rows_laid layout cycles said = rows_by (laid_fault layout.widths) (laid_row layout) cycles said

-- the rows of this layout are those below the header
abbrev pub LaysOut : Layout → List Input → List (List ℕ) → Type 0
LaysOut layout inputs header = (cycles : ℕ) (said : List Said) → rows_laid layout cycles said ≡ rows_from inputs header cycles said

-- the widths of the inputs, each that of its column
abbrev pub input_widths : Layout → List ℕ
input_widths layout = placed layout.widths layout.columns

-- the inputs of a design have different names
abbrev pub DifferentNames : Design → Type 0
DifferentNames d = AllPairs (λ a b. a.name ≢ b.name) d.inputs

-- a row has a value for each input, which fits its width, and stands for 1 to 2^32 cycles
pub record FitsLayout (layout : Layout) (row : Row) : Type 0 where
  pub as_many : length row.values ≡ length (input_widths layout)
  pub fit : (k : ℕ) → k < length row.values → slice_index row.values k < 2 ^ slice_index (input_widths layout) k
  pub some : 1 ≤ row.repeat
  pub most : row.repeat ≤ 2 ^ 32
