-- Visits whose scopes are numbered in their order.
use Rattle.std.specs.Prelude.{◌≡◌, ℕ, ◌+◌, ◌<◌, List, [], ◌∷◌, Option}
use Rattle.scope_meaning.specs.Constants.{Constant}
use Rattle.scope_meaning.specs.Visits.{Visits, Entry, Spot, Making, enters, sees, connects, has_constant, has_row}

-- The next scope has one number before these visits and another behind them: each scope that they enter has the next number,
-- and each of their constants and rows is that of a scope with a number before.
pub data AreNumbered : ℕ → Visits → ℕ → Type 0 where
  no_visit : {n : ℕ} → AreNumbered n [] n
  a_scope : {n m : ℕ} {e : Entry} {vs : Visits} → e.number ≡ n → AreNumbered (n + 1) vs m → AreNumbered n (enters e ∷ vs) m
  a_place : {n m : ℕ} {s : Spot} {vs : Visits} → AreNumbered n vs m → AreNumbered n (sees s ∷ vs) m
  an_instance : {n m : ℕ} {i : Making} {vs : Visits} → AreNumbered n vs m → AreNumbered n (connects i ∷ vs) m
  a_constant : {n m k : ℕ} {c : Constant} {vs : Visits} → k < n → AreNumbered n vs m → AreNumbered n (has_constant k c ∷ vs) m
  a_row : {n m k item : ℕ} {inner : Option ℕ} {vs : Visits} → k < n → AreNumbered n vs m → AreNumbered n (has_row k item inner ∷ vs) m
