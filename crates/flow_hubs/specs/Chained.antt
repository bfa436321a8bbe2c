-- Rows that are kept as chains of links. Link k goes by k + 1, and none by 0.
use Rattle.std.specs.Prelude.{ℕ, zero, suc, ◌≤◌, List, [], ◌∷◌, length, slice_index, slice_index_or, map}
use Rattle.flow_hubs.specs.declared.chains.Link.{Link}

abbrev pub no_link : Link
no_link = record { number = 0; before = 0 }

-- the numbers of at most so many links, from one back
abbrev pub back_from : List Link → ℕ → ℕ → List ℕ
back_from links zero head = []
back_from links (suc n) zero = []
back_from links (suc n) (suc k) = (slice_index_or links k no_link).number ∷ back_from links n (slice_index_or links k no_link).before

-- the row that ends with a link: no more links stand before it than its number says
unfoldable pub row_from : List Link → ℕ → List ℕ
row_from links head = back_from links head head

-- all rows, by their last links
unfoldable pub rows_of : List ℕ → List Link → List (List ℕ)
rows_of heads links = map (λ head. row_from links head) heads

-- before a link stand only links of lower numbers
abbrev pub IsBack : List Link → Type 0
IsBack links = (k : ℕ) → (slice_index_or links k no_link).before ≤ k

-- each row ends with a link that is there
pub record AreLinked (heads : List ℕ) (links : List Link) : Type 0 where
  pub ends : (i : ℕ) → slice_index heads i ≤ length links
  pub back : IsBack links
