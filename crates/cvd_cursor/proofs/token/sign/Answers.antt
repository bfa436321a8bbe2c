use Rattle.std.proofs.Common.{◌≡◌, ℕ, List, Bool, true, false, cond, Some, None, codes, sym, ◌∙◌, refl}
use Rattle.std.specs.Str.{bytes_eq}
use Rattle.cvd_text.specs.Tokens.{word}
use Rattle.cvd_text.specs.Expressions.{sign_word}
use Rattle.cvd_cursor.specs.Words.{sign_of}
use Rattle.cvd_cursor.proofs.Single.{missing, differs, takes_word}
use Rattle.cvd_cursor.proofs.token.sign.Goals as goal

found : (text : List ℕ) (s : Bool) → sign_of text ≡ Some s → bytes_eq text (sign_word s) ≡ true
found text = by (bytes_eq text (codes "s")) (bytes_eq text (codes "u")) refl refl
  where
    by : (b d : Bool) → bytes_eq text (codes "s") ≡ b → bytes_eq text (codes "u") ≡ d → (s : Bool)
        → cond b (Some true) (cond d (Some false) None) ≡ Some s → bytes_eq text (sign_word s) ≡ true
    by true d p q true e = p
    by true d p q false e = absurd (cc)
    by false true p q true e = absurd (cc)
    by false true p q false e = q
    by false false p q s e = absurd (cc)

other : (text : List ℕ) → sign_of text ≡ None → (s : Bool) → bytes_eq text (sign_word s) ≡ false
other text = by (bytes_eq text (codes "s")) (bytes_eq text (codes "u")) refl refl
  where
    by : (b d : Bool) → bytes_eq text (codes "s") ≡ b → bytes_eq text (codes "u") ≡ d
        → cond b (Some true) (cond d (Some false) None) ≡ None → (s : Bool) → bytes_eq text (sign_word s) ≡ false
    by true d p q e s = absurd (cc)
    by false true p q e s = absurd (cc)
    by false false p q e true = p
    by false false p q e false = q

pub returns-in_default : goal.returns-in_default
returns-in_default c = missing (λ s. word (sign_word s)) true c.args.cursor.now c.wrong.result (sym c.in_default.ensures) c.wrong.ensures

pub returns-in_default-sign_of : goal.returns-in_default-sign_of
returns-in_default-sign_of c =
    differs (λ s. word (sign_word s)) true c.args.cursor.now c.in-Some.word.now _ (sym c.in-Some.ensures)
    (other c.in-Some.word.now (sym c.sign_of.ensures ∙ c.in_default-sign_of.is)) refl

pub returns : goal.returns
returns c =
    let s = c.in-Some-sign_of.signed in (
      s,
      (
        takes_word (λ s. word (sign_word s)) s c.args.cursor.now _ c.in-Some.word.now (sym c.in-Some.ensures) c.skip.ensures.text c.skip.ensures.rest
            (found c.in-Some.word.now s (sym c.sign_of.ensures ∙ c.in-Some-sign_of.is)),
        refl,
      ),
    )
