-- Tables joined end to end.
use Rattle.std.proofs.Common.{◌≡◌, ℕ, Bool, true, false, cond, List, [], ◌∷◌, ◌++◌, Option, Some, None}
use Rattle.std.specs.Prelude.{nat_eq}
use Rattle.std.specs.List.{starts_with}
use Rattle.vlog_tokens.specs.declared.token.TokenKind.{TokenKind}
use Rattle.vlog_words.specs.Symbols.{first_at}
use Rattle.vlog_words.specs.Words.{Table}

abbrev Found : Type 0
Found = Option TokenKind

none_some : (kind : TokenKind) → (let o : Found = None in o) ≡ Some kind → (A : Type 0) → A
none_some kind e A = cc

step : (t : Bool) (first : Found) (rest joined : Found) (kind : TokenKind) → (rest ≡ Some kind → joined ≡ Some kind) → cond t first rest ≡ Some kind
    → cond t first joined ≡ Some kind
step true first rest joined kind more found = found
step false first rest joined kind more found = more found

-- what a table has first, it has first where another is joined to it
pub first_at-joined : (table more : Table TokenKind) (text : List ℕ) (kind : TokenKind) → first_at table text ≡ Some kind
    → first_at (table ++ more) text ≡ Some kind
first_at-joined [] more text kind found = none_some kind found (first_at more text ≡ Some kind)
first_at-joined (e ∷ table) more text kind found =
    step (starts_with nat_eq text e.0) (Some e.1) (first_at table text) (first_at (table ++ more) text) kind (first_at-joined table more text kind) found
