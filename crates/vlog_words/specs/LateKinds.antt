-- The kinds of token that are made by name.
use Rattle.vlog_words.specs.declared.late.LateKind.{LateKind}
use Rattle.vlog_words.specs.declared.late.LateKind.TheVariants as late
use Rattle.vlog_tokens.specs.declared.token.TokenKind.{TokenKind}
use Rattle.vlog_tokens.specs.declared.token.TokenKind.TheVariants as k

abbrev pub kind_of : LateKind → TokenKind
kind_of late.Cover = k.Cover
kind_of late.Property = k.Property
kind_of late.Logic = k.Logic
kind_of late.AlwaysFf = k.AlwaysFf
kind_of late.AlwaysComb = k.AlwaysComb
kind_of late.Plus = k.Plus
kind_of late.Minus = k.Minus
kind_of late.Star = k.Star
kind_of late.Slash = k.Slash
kind_of late.Percent = k.Percent
kind_of late.Exclamation = k.Exclamation
kind_of late.Tilde = k.Tilde
kind_of late.Ampersand = k.Ampersand
kind_of late.Pipe = k.Pipe
kind_of late.Caret = k.Caret
kind_of late.Less = k.Less
kind_of late.Greater = k.Greater
kind_of late.Question = k.Question
kind_of late.TildeAmpersand = k.TildeAmpersand
kind_of late.TildePipe = k.TildePipe
kind_of late.TildeCaret = k.TildeCaret
kind_of late.CaretTilde = k.CaretTilde
kind_of late.LogicalAnd = k.LogicalAnd
kind_of late.LogicalOr = k.LogicalOr
kind_of late.Equal = k.Equal
kind_of late.NotEqual = k.NotEqual
kind_of late.LessOrEqual = k.LessOrEqual
kind_of late.GreaterOrEqual = k.GreaterOrEqual
kind_of late.ShiftLeft = k.ShiftLeft
kind_of late.ShiftRight = k.ShiftRight
kind_of late.CaseEqual = k.CaseEqual
kind_of late.CaseNotEqual = k.CaseNotEqual
kind_of late.ArithmeticShiftLeft = k.ArithmeticShiftLeft
kind_of late.ArithmeticShiftRight = k.ArithmeticShiftRight
kind_of late.OpenParen = k.OpenParen
kind_of late.CloseParen = k.CloseParen
kind_of late.OpenBracket = k.OpenBracket
kind_of late.CloseBracket = k.CloseBracket
kind_of late.OpenBrace = k.OpenBrace
kind_of late.CloseBrace = k.CloseBrace
kind_of late.Comma = k.Comma
kind_of late.Semicolon = k.Semicolon
kind_of late.Colon = k.Colon
kind_of late.Dot = k.Dot
kind_of late.Hash = k.Hash
kind_of late.At = k.At
kind_of late.EqualSign = k.EqualSign
kind_of late.PlusColon = k.PlusColon
kind_of late.MinusColon = k.MinusColon
