use Rattle.std.proofs.Common.{◌≡◌, ◌+◌, ℕ, length, take, ap, arith, add-one, sym}
use Rattle.std.proofs.lemmas.List.{length-take-le, take_rest}
use Rattle.cov_dat.proofs.QuoteLemmas.{at_last_quote-none, at_last_quote-some}
use Rattle.cov_dat.proofs.line.split_quote.Goals as goal

pub returns-in_err-at-clause-parts : goal.returns-in_err-at-clause-parts
returns-in_err-at-clause-parts c = let none = c.in_err-at.ensures in
    rw c.from_residual.ensures (sym (at_last_quote-none c.args.text.now (λ k below. none k (omega arith) below)))

pub returns-clause-parts : goal.returns-clause-parts
returns-clause-parts c = let found = c.in_ok-at.ensures in
    rw (take_rest c.args.text.now (c.in_ok-at.at + 1), add-one)
    (sym (at_last_quote-some c.args.text.now c.in_ok-at.at found.0.high found.1 (λ k from below. found.0.after k (omega arith) below)))

pub returns-clause-front : goal.returns-clause-front
returns-clause-front c =
    let found = c.in_ok-at.ensures in
    let high = found.0.high in
    let cut : length (take c.in_ok-at.at c.args.text.now) ≡ c.in_ok-at.at = length-take-le c.in_ok-at.at c.args.text.now (omega arith) in
    record { less = omega (arith, cut); same = ap (λ (k : ℕ). take k c.args.text.now) (sym cut) }
