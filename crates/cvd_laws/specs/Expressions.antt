-- Laws of the spelling of expressions, targets and displayed pieces.
use Rattle.std.specs.Prelude.{ℕ, Bool, List}
use Rattle.std.specs.Str.{bytes_eq}
use Rattle.spelling_laws.specs.Spelled.{Apart, OneSort}
use Rattle.cvd_text.specs.Tokens.{Token, token_text, is_numeric}
use Rattle.cvd_text.specs.Expressions.{tokens_of}
use Rattle.cvd_text.specs.Targets.{target_tokens, piece_tokens}

-- the text is the spelling of the token
abbrev pub is_token : List ℕ → Token → Bool
is_token text t = bytes_eq text (token_text t)

-- no expression's tokens are the front of another's
abbrev pub ExpressionsApart : Type 0
ExpressionsApart = Apart is_token tokens_of

-- nor are those of targets and of displayed pieces
abbrev pub TargetsApart : Type 0
TargetsApart = Apart is_token target_tokens

abbrev pub PiecesApart : Type 0
PiecesApart = Apart is_token piece_tokens

-- behind the same tokens of an expression either a number must come, whatever the expression, or none
abbrev pub NumbersTold : Type 0
NumbersTold = (most : ℕ) → OneSort is_token most is_numeric tokens_of
