-- The values and the cycles of a row.
use Rattle.std.proofs.Common.{◌≡◌, ℕ, ◌-◌, ◌<◌, ◌≤◌, ◌^◌, Bool, true, false, cond, zero, suc, List, [], ◌∷◌, length, map, take, Option, None, Some, refl, sym}
use Rattle.std.proofs.Common.{◌∙◌, ap, arith}
use Rattle.std.proofs.lemmas.Bool.{eq-eqb, ltb-true}
use Rattle.std.proofs.lemmas.Nat.{pow_pos}
use Rattle.std.specs.Prelude.{nat_lt, zip, slice_index, ◌==◌}
use Rattle.std.specs.Option.{option_map_or}
use Rattle.cov_port.specs.Hexadecimal.{hexadecimal_of}
use Rattle.stim_lines.specs.Layouts.{cell_fault, cell_value, cells_fault, laid_fault}
use Rattle.stim_lines.specs.RowLines.{all_but_last, cycles_of, is_repeated, value_fields}
use Rattle.stim_lines.specs.declared.fault.StimFault.TheVariants.{BadRepeat, BadValue, TooWide, WrongCount}
use Rattle.stim_lines.proofs.LayoutLemmas.{none-first, none-second, test-passed}

-- the fields but the last
pub length-all_but_last : (fs : List (List ℕ)) → length (all_but_last fs) ≡ length fs - 1
length-all_but_last [] = refl
length-all_but_last (f ∷ []) = refl
length-all_but_last (f ∷ g ∷ fs) = omega (arith, length-all_but_last (g ∷ fs))

front-all_but_last : (fs : List (List ℕ)) → all_but_last fs ≡ take (length (all_but_last fs)) fs
front-all_but_last [] = refl
front-all_but_last (f ∷ []) = refl
front-all_but_last (f ∷ g ∷ fs) = ap (λ (xs : List (List ℕ)). f ∷ xs) (front-all_but_last (g ∷ fs))

take-all : (fs : List (List ℕ)) → take (length fs) fs ≡ fs
take-all [] = refl
take-all (f ∷ fs) = ap (λ (xs : List (List ℕ)). f ∷ xs) (take-all fs)

-- the values are the first fields
front-values : (fs : List (List ℕ)) → value_fields fs ≡ take (length (value_fields fs)) fs
front-values fs = by (is_repeated fs)
  where
    by : (t : Bool) → cond t (all_but_last fs) fs ≡ take (length (cond t (all_but_last fs) fs)) fs
    by true = front-all_but_last fs
    by false = sym (take-all fs)

zip-front : (ws : List ℕ) (fs : List (List ℕ)) → zip ws (take (length ws) fs) ≡ zip ws fs
zip-front [] fs = refl
zip-front (w ∷ ws) [] = refl
zip-front (w ∷ ws) (f ∷ fs) = ap (λ (ps : List (ℕ × List ℕ)). (w, f) ∷ ps) (zip-front ws fs)

map-front : (k : ℕ) (fs : List (List ℕ)) → map cell_value (take k fs) ≡ take k (map cell_value fs)
map-front zero fs = refl
map-front (suc k) [] = refl
map-front (suc k) (f ∷ fs) = ap (λ (ns : List ℕ). cell_value f ∷ ns) (map-front k fs)

-- the values of a row with as many as columns
pub row-cells : (ws : List ℕ) (fs : List (List ℕ)) → length (value_fields fs) ≡ length ws
    → take (length ws) (map cell_value fs) ≡ map cell_value (value_fields fs)
row-cells ws fs e = sym (ap (map cell_value) (front-values fs) ∙ map-front (length (value_fields fs)) fs ∙ ap (λ (k : ℕ). take k (map cell_value fs)) e)

row-zip : (ws : List ℕ) (fs : List (List ℕ)) → length (value_fields fs) ≡ length ws → zip ws (value_fields fs) ≡ zip ws fs
row-zip ws fs e = ap (zip ws) (front-values fs ∙ ap (λ (k : ℕ). take k fs) e) ∙ zip-front ws fs

-- the fault of a row with as many values as columns
pub laid-cells : (ws : List ℕ) (n : ℕ) (fs : List (List ℕ)) (repeat : ℕ) → cycles_of fs ≡ Some repeat → length (value_fields fs) ≡ length ws
    → laid_fault ws n fs ≡ cells_fault n (zip ws fs)
laid-cells ws n fs repeat cycles e = rw (cycles, eq-eqb (length (value_fields fs)) (length ws) e, row-zip ws fs e) refl

-- a row with another number of values
pub laid-count : (ws : List ℕ) (n : ℕ) (fs : List (List ℕ)) (repeat : ℕ) → cycles_of fs ≡ Some repeat → (length (value_fields fs) == length ws) ≡ false
    → laid_fault ws n fs ≡ Some (WrongCount n)
laid-count ws n fs repeat cycles e = rw (cycles, e) refl

pub laid-repeat : (ws : List ℕ) (n : ℕ) (fs : List (List ℕ)) → cycles_of fs ≡ None → laid_fault ws n fs ≡ Some (BadRepeat n)
laid-repeat ws n fs cycles = rw cycles refl

-- a value without fault has the width of its column
cell-fits : (n w : ℕ) (f : List ℕ) → cell_fault n (w, f) ≡ None → cell_value f < 2 ^ w
cell-fits n w f e = by (hexadecimal_of f) e
  where
    by : (o : Option ℕ) → option_map_or (λ (v : ℕ). cond (nat_lt v (2 ^ w)) None (Some (TooWide n))) o (Some (BadValue n)) ≡ None
        → option_map_or (λ (v : ℕ). v) o 0 < 2 ^ w
    by None e' = absurd (cc)
    by (Some v) e' = ltb-true v (2 ^ w) (test-passed (nat_lt v (2 ^ w)) (TooWide n) e')

pub cells-fit : (n : ℕ) (ws : List ℕ) (fs : List (List ℕ)) → cells_fault n (zip ws fs) ≡ None → (k : ℕ)
    → slice_index (take (length ws) (map cell_value fs)) k < 2 ^ slice_index ws k
cells-fit n [] fs e k = pow_pos 0
cells-fit n (w ∷ ws) [] e k = pow_pos (slice_index (w ∷ ws) k)
cells-fit n (w ∷ ws) (f ∷ fs) e zero = cell-fits n w f (none-first (cell_fault n (w, f)) (cells_fault n (zip ws fs)) e)
cells-fit n (w ∷ ws) (f ∷ fs) e (suc k) = cells-fit n ws fs (none-second (cell_fault n (w, f)) (cells_fault n (zip ws fs)) e) k

-- the last field is no value where it stands for a number of cycles
pub values-repeated : (fs : List (List ℕ)) → is_repeated fs ≡ true → length (value_fields fs) ≡ length fs - 1
values-repeated fs e = rw e (length-all_but_last fs)

-- a row whose last field repeats has a field
pub some-field : (fs : List (List ℕ)) → is_repeated fs ≡ true → 1 ≤ length fs
some-field [] e = absurd (cc)
some-field (f ∷ fs) e = omega arith
