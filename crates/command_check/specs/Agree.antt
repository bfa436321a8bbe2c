-- Answers that differ in no more than the place of a fault of grammar.
use Rattle.std.specs.Prelude.{ℕ, List, codes}
use Rattle.cov_types.specs.declared.place.Place.{Place}
use Rattle.command_ending.specs.Answer.{Answer, bad_design}

-- Two answers are the same, but for the place in a file whose tokens are outside the grammar.
pub data Agree : Answer → Answer → Type 0 where
  same : {a : Answer} → Agree a a
  syntax_place : (name : List ℕ) (p q : Place) → Agree (bad_design name p (codes "Syntax")) (bad_design name q (codes "Syntax"))
