-- Numbers for words and marks, by which they are told apart.
use Rattle.std.specs.Prelude.{ℕ, ◌==◌, Bool, false, [], ◌∷◌}
use Rattle.vlog_tokens.specs.declared.token.TokenKind.{TokenKind}
use Rattle.vlog_tokens.specs.declared.token.TokenKind.TheVariants as k
use Rattle.vlog_grammar.specs.Tokens.{Tokens}

-- Each word and mark that the grammar asks for has a number of its own, and all others have 0.
abbrev pub mark : TokenKind → ℕ
mark k.Always = 1
mark k.Assign = 2
mark k.Begin = 3
mark k.Case = 4
mark k.CaseZ = 5
mark k.Default = 6
mark k.Else = 7
mark k.End = 8
mark k.EndCase = 9
mark k.EndGenerate = 10
mark k.EndModule = 11
mark k.For = 12
mark k.Generate = 13
mark k.GenVar = 14
mark k.If = 15
mark k.Initial = 16
mark k.Input = 17
mark k.Integer = 18
mark k.LocalParam = 19
mark k.Module = 20
mark k.Output = 21
mark k.Parameter = 22
mark k.PosEdge = 23
mark k.Reg = 24
mark k.Signed = 25
mark k.Wire = 26
mark k.Cover = 27
mark k.Property = 28
mark k.Star = 29
mark k.LessOrEqual = 30
mark k.Question = 31
mark k.OpenParen = 32
mark k.CloseParen = 33
mark k.OpenBracket = 34
mark k.CloseBracket = 35
mark k.OpenBrace = 36
mark k.CloseBrace = 37
mark k.Comma = 38
mark k.Semicolon = 39
mark k.Colon = 40
mark k.Dot = 41
mark k.Hash = 42
mark k.At = 43
mark k.EqualSign = 44
mark k.PlusColon = 45
mark k.MinusColon = 46
mark _ = 0

-- whether a word or a mark comes next
unfoldable pub sees : TokenKind → Tokens → Bool
sees kind [] = false
sees kind (t ∷ ts) = mark t.what == mark kind
