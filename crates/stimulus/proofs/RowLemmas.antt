-- Rows that fit the inputs.
use Rattle.std.proofs.Common.{◌≡◌, ℕ, ◌<◌, ◌≤◌, ◌^◌, ◌++◌, List, length, take, ap, sym, ◌∙◌, arith}
use Rattle.std.proofs.Math.Seq.{take-append_seam}
use Rattle.std.specs.Prelude.{slice_index}
use Rattle.std.proofs.lemmas.List.{get_or-map, length-map}
use Rattle.stim_lines.specs.Layouts.{FitsLayout, placed}
use Rattle.stim_lines.specs.declared.layout.Layout.{Layout}

placed-fit : (cells widths columns : List ℕ) → ((k : ℕ) → slice_index cells k < 2 ^ slice_index widths k) → (k : ℕ) → k < length (placed cells columns)
    → slice_index (placed cells columns) k < 2 ^ slice_index (placed widths columns) k
placed-fit cells widths columns fit k within =
    let inside : k < length columns = omega (arith, within, length-map columns (slice_index cells)) in
    rw (get_or-map (slice_index cells) columns k 0 0 inside, get_or-map (slice_index widths) columns k 0 0 inside) (fit (slice_index columns k))

pub fits_layout : (layout : Layout) (cells : List ℕ) (repeat : ℕ) → ((k : ℕ) → slice_index cells k < 2 ^ slice_index layout.widths k) → 1 ≤ repeat
    → repeat ≤ 4294967296
    → FitsLayout layout (record { values = placed cells layout.columns; repeat = repeat })
fits_layout layout cells repeat fit some most = record {
  as_many = length-map layout.columns (slice_index cells) ∙ sym (length-map layout.columns (slice_index layout.widths));
  fit = placed-fit cells layout.widths layout.columns fit;
  some = some;
  most = most;
}

-- the front of a list that was joined
pub front_of : (n : ℕ) (xs ys zs : List ℕ) → zs ≡ take n (xs ++ ys) → n ≡ length xs → zs ≡ xs
front_of n xs ys zs e f = e ∙ ap (λ (k : ℕ). take k (xs ++ ys)) f ∙ take-append_seam xs ys
