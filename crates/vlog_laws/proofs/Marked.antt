-- The word or mark of a number.
use Rattle.std.proofs.Common.{◌≡◌, ℕ, ◌==◌, if◌then◌else◌, ◌⊎◌, Option, Some, None, refl, sym, ◌∙◌, ap, inl, inr}
use Rattle.vlog_tokens.specs.declared.token.TokenKind.{TokenKind}
use Rattle.vlog_tokens.specs.declared.token.TokenKind.TheVariants as k
use Rattle.vlog_reading.specs.Marks.{mark}

abbrev pub of_mark : ℕ → Option TokenKind
of_mark n =
    if n == 1 then Some k.Always else (
    if n == 2 then Some k.Assign else (
    if n == 3 then Some k.Begin else (
    if n == 4 then Some k.Case else (
    if n == 5 then Some k.CaseZ else (
    if n == 6 then Some k.Default else (
    if n == 7 then Some k.Else else (
    if n == 8 then Some k.End else (
    if n == 9 then Some k.EndCase else (
    if n == 10 then Some k.EndGenerate else (
    if n == 11 then Some k.EndModule else (
    if n == 12 then Some k.For else (
    if n == 13 then Some k.Generate else (
    if n == 14 then Some k.GenVar else (
    if n == 15 then Some k.If else (
    if n == 16 then Some k.Initial else (
    if n == 17 then Some k.Input else (
    if n == 18 then Some k.Integer else (
    if n == 19 then Some k.LocalParam else (
    if n == 20 then Some k.Module else (
    if n == 21 then Some k.Output else (
    if n == 22 then Some k.Parameter else (
    if n == 23 then Some k.PosEdge else (
    if n == 24 then Some k.Reg else (
    if n == 25 then Some k.Signed else (
    if n == 26 then Some k.Wire else (
    if n == 27 then Some k.Cover else (
    if n == 28 then Some k.Property else (
    if n == 29 then Some k.Star else (
    if n == 30 then Some k.LessOrEqual else (
    if n == 31 then Some k.Question else (
    if n == 32 then Some k.OpenParen else (
    if n == 33 then Some k.CloseParen else (
    if n == 34 then Some k.OpenBracket else (
    if n == 35 then Some k.CloseBracket else (
    if n == 36 then Some k.OpenBrace else (
    if n == 37 then Some k.CloseBrace else (
    if n == 38 then Some k.Comma else (
    if n == 39 then Some k.Semicolon else (
    if n == 40 then Some k.Colon else (
    if n == 41 then Some k.Dot else (
    if n == 42 then Some k.Hash else (
    if n == 43 then Some k.At else (
    if n == 44 then Some k.EqualSign else (
    if n == 45 then Some k.PlusColon else (
    if n == 46 then Some k.MinusColon else None)))))))))))))))))))))))))))))))))))))))))))))

marked : (kind : TokenKind) → (of_mark (mark kind) ≡ None) ⊎ (of_mark (mark kind) ≡ Some kind)
marked k.Always = inr refl
marked k.Assign = inr refl
marked k.Begin = inr refl
marked k.Case = inr refl
marked k.CaseZ = inr refl
marked k.Default = inr refl
marked k.Else = inr refl
marked k.End = inr refl
marked k.EndCase = inr refl
marked k.EndGenerate = inr refl
marked k.EndModule = inr refl
marked k.For = inr refl
marked k.Generate = inr refl
marked k.GenVar = inr refl
marked k.If = inr refl
marked k.Initial = inr refl
marked k.Input = inr refl
marked k.Integer = inr refl
marked k.LocalParam = inr refl
marked k.Module = inr refl
marked k.Output = inr refl
marked k.Parameter = inr refl
marked k.PosEdge = inr refl
marked k.Reg = inr refl
marked k.Signed = inr refl
marked k.Wire = inr refl
marked k.Cover = inr refl
marked k.Property = inr refl
marked k.Star = inr refl
marked k.LessOrEqual = inr refl
marked k.Question = inr refl
marked k.OpenParen = inr refl
marked k.CloseParen = inr refl
marked k.OpenBracket = inr refl
marked k.CloseBracket = inr refl
marked k.OpenBrace = inr refl
marked k.CloseBrace = inr refl
marked k.Comma = inr refl
marked k.Semicolon = inr refl
marked k.Colon = inr refl
marked k.Dot = inr refl
marked k.Hash = inr refl
marked k.At = inr refl
marked k.EqualSign = inr refl
marked k.PlusColon = inr refl
marked k.MinusColon = inr refl
marked _ = inl refl

pub same_Some : {A : Type 0} (x y : A) → ◌≡◌ {A = Option A} (Some x) (Some y) → x ≡ y
same_Some x y h = cc

pub same_mark : (a b : TokenKind) → of_mark (mark b) ≡ Some b → mark a ≡ mark b → a ≡ b
same_mark a b known e =
    elim (marked a) [
      | inl none ↦ absurd (let h : None ≡ Some b = sym none ∙ ap of_mark e ∙ known in cc)
      | inr some ↦ same_Some a b (sym some ∙ ap of_mark e ∙ known)
    ]
