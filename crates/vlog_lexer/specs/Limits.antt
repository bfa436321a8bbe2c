-- Limits on tokens. A list of tokens so far has the latest first.
use Rattle.std.specs.Prelude.{ℕ, ◌+◌, ◌-◌, ◌&&◌, ◌||◌, Bool, true, false, not, nat_lt, List, [], ◌∷◌, length, count_by, Option, None, Some, if◌then◌else◌}
use Rattle.std.specs.List.{take_while}
use Rattle.cov_types.specs.declared.limit.LimitName.{LimitName}
use Rattle.cov_types.specs.declared.limit.LimitName.TheVariants as limit
use Rattle.vlog_lexer.specs.declared.limits.Role.{Role}
use Rattle.vlog_lexer.specs.declared.limits.Role.TheVariants as r
use Rattle.vlog_tokens.specs.declared.token.TokenKind.{TokenKind}
use Rattle.vlog_tokens.specs.declared.token.TokenKind.TheVariants as k

-- what a token is to the limits
abbrev pub role_of : TokenKind → Role
role_of k.Begin = r.Opens
role_of k.Generate = r.Opens
role_of k.Case = r.Opens
role_of k.CaseZ = r.Opens
role_of k.End = r.Closes
role_of k.EndGenerate = r.Closes
role_of k.EndCase = r.Closes
role_of k.If = r.Branches
role_of k.For = r.Branches
role_of k.Always = r.Process
role_of k.AlwaysFf = r.Process
role_of k.AlwaysComb = r.Process
role_of k.Initial = r.Process
role_of k.Function = r.Process
role_of k.Module = r.Process
role_of k.Plus = r.Operates
role_of k.Minus = r.Operates
role_of k.Star = r.Operates
role_of k.Slash = r.Operates
role_of k.Percent = r.Operates
role_of k.Exclamation = r.Operates
role_of k.Tilde = r.Operates
role_of k.Ampersand = r.Operates
role_of k.Pipe = r.Operates
role_of k.Caret = r.Operates
role_of k.Less = r.Operates
role_of k.Greater = r.Operates
role_of k.Question = r.Operates
role_of k.TildeAmpersand = r.Operates
role_of k.TildePipe = r.Operates
role_of k.TildeCaret = r.Operates
role_of k.CaretTilde = r.Operates
role_of k.LogicalAnd = r.Operates
role_of k.LogicalOr = r.Operates
role_of k.Equal = r.Operates
role_of k.NotEqual = r.Operates
role_of k.LessOrEqual = r.Operates
role_of k.GreaterOrEqual = r.Operates
role_of k.ShiftLeft = r.Operates
role_of k.ShiftRight = r.Operates
role_of k.CaseEqual = r.Operates
role_of k.CaseNotEqual = r.Operates
role_of k.ArithmeticShiftLeft = r.Operates
role_of k.ArithmeticShiftRight = r.Operates
role_of k.OpenParen = r.Opens
role_of k.OpenBracket = r.Opens
role_of k.OpenBrace = r.OpensBrace
role_of k.CloseParen = r.Closes
role_of k.CloseBracket = r.Closes
role_of k.CloseBrace = r.ClosesBrace
role_of k.Comma = r.Separates
role_of k.Semicolon = r.Ends
role_of _ = r.Other

-- open brackets and blocks: those opened less those closed, never below 0
abbrev pub nested : Role → ℕ → ℕ
nested r.Opens open_before = open_before + 1
nested r.OpensBrace open_before = open_before + 1
nested r.Closes open_before = open_before - 1
nested r.ClosesBrace open_before = open_before - 1
nested _ open_before = open_before

abbrev pub nesting : List TokenKind → ℕ
nesting [] = 0
nesting (kind ∷ before) = nested (role_of kind) (nesting before)

-- open braces: those opened less those closed, never below 0
abbrev pub braced : Role → ℕ → ℕ
braced r.OpensBrace open_before = open_before + 1
braced r.ClosesBrace open_before = open_before - 1
braced _ open_before = open_before

abbrev pub braces : List TokenKind → ℕ
braces [] = 0
braces (kind ∷ before) = braced (role_of kind) (braces before)

-- each token with those before it
abbrev pub with_those_before : List TokenKind → List (TokenKind × List TokenKind)
with_those_before [] = []
with_those_before (kind ∷ before) = (kind, before) ∷ with_those_before before

abbrev pub is_operator : Role → Bool
is_operator r.Operates = true
is_operator _ = false

abbrev pub is_comma : Role → Bool
is_comma r.Separates = true
is_comma _ = false

abbrev pub is_semicolon : Role → Bool
is_semicolon r.Ends = true
is_semicolon _ = false

-- an operator, or a comma while a brace is open
abbrev pub counts_as_operator : TokenKind × List TokenKind → Bool
counts_as_operator token = is_operator (role_of token.0) || (is_comma (role_of token.0) && nat_lt 0 (braces token.1))

-- how many of them stand since the latest `;`
abbrev pub operators : List TokenKind → ℕ
operators tokens = count_by counts_as_operator (take_while (λ token. not (is_semicolon (role_of token.0))) (with_those_before tokens))

-- `if` and `for`
abbrev pub is_branch : Role → Bool
is_branch r.Branches = true
is_branch _ = false

-- a word that begins a process, a function or a module
abbrev pub begins_process : Role → Bool
begins_process r.Process = true
begins_process _ = false

-- how many branches stand since the latest word that begins a process, a function or a module
abbrev pub branches : List TokenKind → ℕ
branches tokens = count_by (λ kind. is_branch (role_of kind)) (take_while (λ kind. not (begins_process (role_of kind))) tokens)

-- the bytes of a name; other tokens have no limit on their bytes
abbrev pub name_length : TokenKind → ℕ
name_length (k.Name bytes) = length bytes
name_length _ = 0

-- the limit that the numbers of a token's place pass, if they pass one
abbrev pub limit_at : ℕ → ℕ → ℕ → ℕ → Option LimitName
limit_at name_bytes open_here operators_here branches_here =
    if nat_lt 255 name_bytes then Some limit.Identifier else (
    if nat_lt 100 open_here then Some limit.Nesting else (
    if nat_lt 500 operators_here then Some limit.Operators else (
    if nat_lt 500 branches_here then Some limit.Branches else None)))

-- the limit that is passed at the latest of these tokens
unfoldable pub limit_passed : List TokenKind → Option LimitName
limit_passed [] = None
limit_passed (kind ∷ before) =
    limit_at (name_length kind) (nesting (kind ∷ before)) (operators (kind ∷ before)) (branches (kind ∷ before))
