-- Rows by columns are rows by names.
use Rattle.std.proofs.Common.{◌≡◌, ℕ, ◌+◌, Bool, true, false, cond, not, suc, List, [], ◌∷◌, length, map, Option, None, Some, refl, ap, arith}
use Rattle.std.proofs.lemmas.Bool.{eqb-true}
use Rattle.std.proofs.lemmas.List.{length-map}
use Rattle.std.specs.Prelude.{find, zip, slice_index, ◌==◌}
use Rattle.std.specs.Option.{option_map_or}
use Rattle.std.specs.Str.{bytes_eq}
use Rattle.stim_lines.specs.Fields.{Said, skipped, refused, spoken}
use Rattle.stim_lines.specs.Header.{Input, or_else}
use Rattle.stim_lines.specs.Layouts.{cell_value, cells_fault, column_of, laid_fault, laid_row, layout_of, placed, LaysOut}
use Rattle.stim_lines.specs.RowLines.{cycles_of, row_fault, row_of, value_fault, value_fields, value_in, values_fault, width_of}
use Rattle.stim_lines.specs.Stimulus.{row_then, rows_by, unless_fault}
use Rattle.stim_lines.specs.declared.fault.StimFault.{StimFault}
use Rattle.stim_lines.specs.declared.fault.StimFault.TheVariants.{BadRepeat, WrongCount}
use Rattle.stim_lines.specs.declared.layout.Layout.{Layout}
use Rattle.stim_lines.specs.declared.row.Row.{Row}

-- the fault of values by the widths of their columns
cells-named : (inputs : List Input) (n : ℕ) (header values : List (List ℕ))
    → cells_fault n (zip (map (width_of inputs) header) values) ≡ values_fault inputs n (zip header values)
cells-named inputs n [] values = refl
cells-named inputs n (name ∷ names) [] = refl
cells-named inputs n (name ∷ names) (v ∷ vs) = ap (or_else (value_fault inputs n (name, v))) (cells-named inputs n names vs)

-- the value of an input is that of its column
value-at : (header values : List (List ℕ)) (name : List ℕ) (width : ℕ) → length values ≡ length header
    → slice_index (map cell_value values) (column_of header name) ≡ value_in (zip header values) (record { name = name; width = width })
value-at [] [] name width e = refl
value-at [] (v ∷ vs) name width e = absurd (omega arith)
value-at (h ∷ hs) [] name width e = absurd (omega arith)
value-at (h ∷ hs) (v ∷ vs) name width e = by (value-at hs vs name width (omega arith)) (bytes_eq h name) refl
  where
    by : slice_index (map cell_value vs) (column_of hs name) ≡ value_in (zip hs vs) (record { name = name; width = width }) → (t : Bool) → bytes_eq h name ≡ t
        → slice_index (map cell_value (v ∷ vs)) (cond (not t) (1 + column_of hs name) 0)
        ≡ option_map_or (λ (cell : List ℕ × List ℕ). cell_value cell.1)
        (cond t (Some (h, v)) (find (λ (cell : List ℕ × List ℕ). bytes_eq cell.0 name) (zip hs vs))) 0
    by more true e = refl
    by more false e = let one : 1 + column_of hs name ≡ suc (column_of hs name) = omega arith in rw one more

values-named : (inputs : List Input) (header values : List (List ℕ)) → length values ≡ length header
    → placed (map cell_value values) (map (λ (i : Input). column_of header i.name) inputs) ≡ map (value_in (zip header values)) inputs
values-named [] header values e = refl
values-named (i ∷ is) header values e = rw (value-at header values i.name i.width e, values-named is header values e) refl

-- the rows agree where faults do, and rows without fault
rows-agree : (f g : ℕ → List (List ℕ) → Option StimFault) (r s : List (List ℕ) → Row)
    → ((n : ℕ) (fields : List (List ℕ)) → f n fields ≡ g n fields) → ((n : ℕ) (fields : List (List ℕ)) → g n fields ≡ None → r fields ≡ s fields)
    → (cycles : ℕ) (said : List Said) → rows_by f r cycles said ≡ rows_by g s cycles said
rows-agree f g r s same row cycles [] = refl
rows-agree f g r s same row cycles (skipped ∷ rest) = rows-agree f g r s same row cycles rest
rows-agree f g r s same row cycles (refused fault ∷ rest) = refl
rows-agree f g r s same row cycles (spoken n fields ∷ rest) = by (rows-agree f g r s same row (cycles + (s fields).repeat) rest) (g n fields) refl
  where
    by : rows_by f r (cycles + (s fields).repeat) rest ≡ rows_by g s (cycles + (s fields).repeat) rest → (o : Option StimFault) → g n fields ≡ o
        → unless_fault (f n fields) (row_then cycles n (r fields) (rows_by f r (cycles + (r fields).repeat) rest))
        ≡ unless_fault (g n fields) (row_then cycles n (s fields) (rows_by g s (cycles + (s fields).repeat) rest))
    by more None e = rw (same n fields, e, row n fields e) (ap (row_then cycles n (s fields)) more)
    by more (Some fault) e = rw (same n fields, e) refl

same-fault : (inputs : List Input) (header : List (List ℕ)) (n : ℕ) (fields : List (List ℕ))
    → laid_fault (layout_of inputs header).widths n fields ≡ row_fault inputs header n fields
same-fault inputs header n fields = rw (length-map header (width_of inputs), cells-named inputs n header (value_fields fields)) refl

-- what goes before and behind where there is no fault
pub none-first : {A : Type 0} (a b : Option A) → or_else a b ≡ None → a ≡ None
none-first None b e = refl
none-first (Some x) b e = e

pub none-second : {A : Type 0} (a b : Option A) → or_else a b ≡ None → b ≡ None
none-second None b e = e
none-second (Some x) b e = absurd (cc)

pub test-passed : {A : Type 0} (t : Bool) (a : A) → cond t None (Some a) ≡ None → t ≡ true
test-passed true a e = refl
test-passed false a e = absurd (cc)

-- a row without fault has a value for each column
count-right : (inputs : List Input) (header : List (List ℕ)) (n : ℕ) (fields : List (List ℕ)) → row_fault inputs header n fields ≡ None
    → length (value_fields fields) ≡ length header
count-right inputs header n fields e =
    let behind = none-second (option_map_or (λ (cycles : ℕ). None) (cycles_of fields) (Some (BadRepeat n)))
    (or_else (cond (length (value_fields fields) == length header) None (Some (WrongCount n))) (values_fault inputs n (zip header (value_fields fields)))) e in
    let counted =
    none-first (cond (length (value_fields fields) == length header) None (Some (WrongCount n)))
    (values_fault inputs n (zip header (value_fields fields))) behind in
    eqb-true (length (value_fields fields)) (length header) (test-passed (length (value_fields fields) == length header) (WrongCount n) counted)

same-row : (inputs : List Input) (header : List (List ℕ)) (n : ℕ) (fields : List (List ℕ)) → row_fault inputs header n fields ≡ None
    → laid_row (layout_of inputs header) fields ≡ row_of inputs header fields
same-row inputs header n fields e = rw (values-named inputs header (value_fields fields) (count-right inputs header n fields e)) refl

pub lays_out : (inputs : List Input) (header : List (List ℕ)) → LaysOut (layout_of inputs header) inputs header
lays_out inputs header = λ cycles said. rows-agree (laid_fault (layout_of inputs header).widths) (row_fault inputs header)
    (laid_row (layout_of inputs header)) (row_of inputs header)
    (same-fault inputs header) (same-row inputs header) cycles said

pub layout-same : (ws us cs ds : List ℕ) → ws ≡ us → cs ≡ ds → ◌≡◌ {A = Layout} (record { widths = ws; columns = cs }) (record { widths = us; columns = ds })
layout-same ws us cs ds e f = rw (e, f) refl
