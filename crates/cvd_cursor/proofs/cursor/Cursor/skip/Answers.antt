use Rattle.std.proofs.Common.{◌≡◌, ℕ, suc, ◌+◌, ◌-◌, List, eqb, length, take, drop, sym, ap, ◌∙◌, subst, arith}
use Rattle.std.specs.Prelude.{slice_index}
use Rattle.std.proofs.lemmas.List.{take_rest}
use Rattle.cvd_cursor.specs.Places.{Reading, IsPlaced, behind_word, pieces_left}
use Rattle.cvd_cursor.proofs.Cutting.{word_at, nothing_at, placed_behind}
use Rattle.cvd_cursor.proofs.cursor.Cursor.skip.Goals as goal

behind : (bytes : List ℕ) (at : ℕ) → drop (suc at) bytes ≡ take (length bytes - (at + 1)) (drop (at + 1) bytes)
behind bytes at = let e : suc at ≡ at + 1 = omega arith in ap (λ n. drop n bytes) e ∙ sym (take_rest bytes (at + 1))

pub invariant_of-self : goal.invariant_of-self
invariant_of-self c =
    let bytes = c.self.inside.rest.now in
    let found = c.in-Some.ensures in
    subst (λ l. IsPlaced c.self.inside.text.now l c.self.inside.behind (eqb (slice_index bytes c.in-Some.at) 10)) (behind bytes c.in-Some.at)
    (placed_behind c.self.inside.text.now bytes c.self.inside.behind c.self.inside.at_feed c.in-Some.at c.self.invariant found.0.high)

pub returns-in-Some-clause-rest : goal.returns-in-Some-clause-rest
returns-in-Some-clause-rest c =
    let bytes = c.self.inside.rest.now in
    let found = c.in-Some.ensures in
    let is = ap (λ t. pieces_left t bytes) (sym c.if-self.false) ∙ ap (λ (r : Reading). r.rest) c.self.view_is in
    let word = word_at bytes c.in-Some.at c.self.invariant.ended found.0.high (λ k below. found.0.before k (omega arith) below) found.1 in
    ap (pieces_left (eqb (slice_index bytes c.in-Some.at) 10)) (sym (behind bytes c.in-Some.at)) ∙ sym (ap behind_word (sym is ∙ word))

pub returns-in_default-clause-rest : goal.returns-in_default-clause-rest
returns-in_default-clause-rest c =
    let bytes = c.self.inside.rest.now in
    let is = ap (λ t. pieces_left t bytes) (sym c.if-self.false) ∙ ap (λ (r : Reading). r.rest) c.self.view_is in
    let none = c.in_default.ensures in
    let e = sym is ∙ nothing_at bytes c.self.invariant.ended (λ k below. none k (omega arith) below) in
    e ∙ sym (ap behind_word e)
