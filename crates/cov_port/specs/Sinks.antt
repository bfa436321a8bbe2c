-- What a sink of bytes means.
use Rattle.std.specs.Prelude.{◌≡◌, ℕ, List, ◌++◌, take}

-- the first n bytes of the piece were put
abbrev pub Puts : ℕ → List ℕ → List ℕ → List ℕ → Type 0
Puts n piece old new = new ≡ old ++ take n piece

-- all these bytes were put
abbrev pub PutsAll : List ℕ → List ℕ → List ℕ → Type 0
PutsAll bytes old new = new ≡ old ++ bytes

-- the piece but for this rest was put
pub record FrontPut (piece rest old new : List ℕ) : Type 0 where
  pub front : List ℕ
  pub split : piece ≡ front ++ rest
  pub put : new ≡ old ++ front

-- some first bytes of the piece were put, or none, or all
abbrev pub PutsPart : List ℕ → List ℕ → List ℕ → Type 0
PutsPart piece old new = (rest : List ℕ) × FrontPut piece rest old new
