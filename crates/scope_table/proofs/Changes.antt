-- Tables of scopes with one more, in which nothing stands.
use Rattle.std.proofs.Common.{◌≡◌, refl, ℕ, zero, suc, List, [], ◌∷◌, ◌++◌, None}
use Rattle.name_table.specs.declared.table.NameTable.{NameTable}
use Rattle.name_table.specs.Tables.{value_of}
use Rattle.scope_table.specs.Tables.{value_at}

pub with_empty : {V : Type 0} (tables : List (NameTable V)) (more : NameTable V) → ((q : List ℕ) → value_of more q ≡ None) → (s : ℕ) (q : List ℕ)
    → value_at (tables ++ more ∷ []) s q ≡ value_at tables s q
with_empty [] more empty zero q = empty q
with_empty [] more empty (suc s) q = refl
with_empty (t ∷ tables) more empty zero q = refl
with_empty (t ∷ tables) more empty (suc s) q = with_empty tables more empty s q
