-- The kind of token that a word or a mark is.
use Rattle.vlog_tokens.specs.declared.token.TokenKind.{TokenKind}
use Rattle.vlog_tokens.specs.declared.token.TokenKind.TheVariants as k
use Rattle.vlog_cursor.specs.declared.word.Word.{Word}
use Rattle.vlog_cursor.specs.declared.word.Word.TheVariants as w

abbrev pub kind_of : Word → TokenKind
kind_of w.Always = k.Always
kind_of w.Assign = k.Assign
kind_of w.Begin = k.Begin
kind_of w.Case = k.Case
kind_of w.CaseZ = k.CaseZ
kind_of w.Default = k.Default
kind_of w.Else = k.Else
kind_of w.End = k.End
kind_of w.EndCase = k.EndCase
kind_of w.EndGenerate = k.EndGenerate
kind_of w.EndModule = k.EndModule
kind_of w.For = k.For
kind_of w.Generate = k.Generate
kind_of w.GenVar = k.GenVar
kind_of w.If = k.If
kind_of w.Initial = k.Initial
kind_of w.Input = k.Input
kind_of w.Integer = k.Integer
kind_of w.LocalParam = k.LocalParam
kind_of w.Module = k.Module
kind_of w.Output = k.Output
kind_of w.Parameter = k.Parameter
kind_of w.PosEdge = k.PosEdge
kind_of w.Reg = k.Reg
kind_of w.Signed = k.Signed
kind_of w.Wire = k.Wire
kind_of w.Cover = k.Cover
kind_of w.Property = k.Property
kind_of w.Star = k.Star
kind_of w.LessOrEqual = k.LessOrEqual
kind_of w.Question = k.Question
kind_of w.OpenParen = k.OpenParen
kind_of w.CloseParen = k.CloseParen
kind_of w.OpenBracket = k.OpenBracket
kind_of w.CloseBracket = k.CloseBracket
kind_of w.OpenBrace = k.OpenBrace
kind_of w.CloseBrace = k.CloseBrace
kind_of w.Comma = k.Comma
kind_of w.Semicolon = k.Semicolon
kind_of w.Colon = k.Colon
kind_of w.Dot = k.Dot
kind_of w.Hash = k.Hash
kind_of w.At = k.At
kind_of w.EqualSign = k.EqualSign
kind_of w.PlusColon = k.PlusColon
kind_of w.MinusColon = k.MinusColon
