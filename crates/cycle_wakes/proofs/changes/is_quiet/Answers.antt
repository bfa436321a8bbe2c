use Rattle.std.proofs.Common.{◌≡◌, ◌∙◌, sym, ℕ, ◌==◌, true, arith}
use Rattle.std.proofs.lemmas.Bool.Decides.{nat_tests}
use Rattle.cycle_wakes.proofs.Noting.{quiet_word}
use Rattle.cycle_wakes.proofs.changes.is_quiet.Goals as goal

are_same : (a b : ℕ) → (a == b) ≡ true → a ≡ b
are_same a b h = grind (arith, nat_tests)

pub returns : goal.returns
returns c e =
    quiet_word c.args.design.now c.args.now.now c.args.before.now c.args.var c.requires.now c.requires.before c.requires.var
    (sym c.words_of-words.ensures ∙ c.if-words-ne1.false)
    (sym c.read.ensures.value ∙ are_same c.read.result c.read-2.result e ∙ c.read-2.ensures.value)
