use Rattle.std.proofs.Common.{◌≡◌, ◌∙◌, ap, List, ℕ, ◌++◌, ◌∷◌, [], subst, append_assoc, true, false, w32}
use Rattle.std.proofs.lemmas.Int.{to_z-of_z}
use Rattle.std.specs.Prelude.{OnOk, ℤ, pos, int_lt, unsigned_abs}
use Rattle.circuit_run.specs.Digits.{decimal_text}
use Rattle.elab_texts.proofs.Digits.{negative, positive}
use Rattle.elab_texts.proofs.number.put_integer.Goals as goal

pub returns-then-value-lt0 : goal.returns-then-value-lt0
returns-then-value-lt0 c =
    let n = c.from-number.result in
    let e : n ≡ unsigned_abs c.args.value = c.from-number.ensures ∙ c.unsigned_abs.ensures.value
    ∙ ap unsigned_abs (to_z-of_z w32 c.args.value c.ranges.value) in
    subst (λ (l : List ℕ). OnOk c.put_number.result (c.put_number.new.text ≡ l))
    (ap (λ (l : List ℕ). l ++ decimal_text n) c.in_ok-append.ensures.ok ∙ append_assoc c.args.text.now (45 ∷ []) (decimal_text n)
    ∙ ap (λ (l : List ℕ). c.args.text.now ++ l) (negative c.args.value n (subst (λ (z : ℤ). int_lt z (pos 0)
    ≡ true) (to_z-of_z w32 c.args.value c.ranges.value) c.if-value-lt0.true) e)) c.put_number.ensures

pub returns : goal.returns
returns c =
    let n = c.from-number.result in
    let e : n ≡ unsigned_abs c.args.value = c.from-number.ensures ∙ c.unsigned_abs.ensures.value
    ∙ ap unsigned_abs (to_z-of_z w32 c.args.value c.ranges.value) in
    subst (λ (l : List ℕ). OnOk c.put_number-2.result (c.put_number-2.new.text ≡ l))
    (ap (λ (l : List ℕ). c.args.text.now ++ l) (positive c.args.value n (subst (λ (z : ℤ). int_lt z (pos 0)
    ≡ false) (to_z-of_z w32 c.args.value c.ranges.value) c.if-value-lt0.false) e)) c.put_number-2.ensures
