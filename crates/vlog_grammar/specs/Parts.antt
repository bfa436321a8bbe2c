-- Shapes that many rules share. A rule is a relation of the tokens from a place on, what they spell, and the tokens
-- after that.
use Rattle.std.specs.Prelude.{Bool, true, false, List, [], ◌∷◌, Option, Some, None}
use Rattle.cov_types.specs.declared.place.Place.{Place}
use Rattle.vlog_tokens.specs.declared.token.TokenKind.{TokenKind}
use Rattle.vlog_tokens.specs.declared.token.TokenKind.TheVariants as k
use Rattle.vlog_grammar.specs.Tokens.{Tokens, at, NotNext}

abbrev pub Rule : Type 0 → Type 1
Rule A = Tokens → A → Tokens → Type 0

-- x, ..
pub data AreSeparated {A : Type 0} (R : Rule A) : Tokens → List A → Tokens → Type 0 where
  last : {ts us : Tokens} {a : A} → R ts a us → AreSeparated R ts (a ∷ []) us
  more : {ts us vs : Tokens} {p : Place} {a : A} {all : List A}
      → R ts a (at p k.Comma ∷ us) → AreSeparated R us all vs → AreSeparated R ts (a ∷ all) vs

-- x?, where an x begins with this kind of token: where one comes next, the x stands there.
pub data IsOptional (first : TokenKind) {A : Type 0} (R : Rule A) : Tokens → Option A → Tokens → Type 0 where
  written : {us vs : Tokens} {p : Place} {a : A} → R (at p first ∷ us) a vs → IsOptional first R (at p first ∷ us) (Some a) vs
  absent : {us : Tokens} → NotNext first us → IsOptional first R us None us

-- "word"?
pub data IsWordThere (word : TokenKind) : Tokens → Bool → Tokens → Type 0 where
  there : {us : Tokens} {p : Place} → IsWordThere word (at p word ∷ us) true us
  missing : {us : Tokens} → NotNext word us → IsWordThere word us false us
