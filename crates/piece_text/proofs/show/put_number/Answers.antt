use Rattle.std.proofs.Common.{◌∙◌, ◌≤◌, ◌+◌, ◌++◌, ap, sym, subst, length, vec_len, vec_capacity, arith}
use Rattle.piece_text.specs.DigitCounts.{spelled}
use Rattle.piece_text.proofs.DigitLaws.{trimmed_is, length_trimmed, length-digits}
use Rattle.piece_text.proofs.show.put_number.Goals as goal

pub put_digits-requires-clause-room : goal.put_digits-requires-clause-room
put_digits-requires-clause-room c =
    let n = c.args.number in
    let room =
    subst (λ b. vec_len c.args.out.now + length (spelled b c.args.base c.args.columns n) ≤ vec_capacity c.args.out.now) c.if-short.true c.requires.room
    in
    let k = c.digit_count-count.result in
    omega (arith, room, length_trimmed c.args.base c.args.columns n k c.requires.base c.digit_count-count.ensures)

pub returns-then-short-clause-items : goal.returns-then-short-clause-items
returns-then-short-clause-items c = rw c.if-short.true
    (c.put_digits.ensures.items ∙ ap (λ xs. c.args.out.now.items
    ++ xs) (sym (trimmed_is c.args.base c.args.columns c.args.number c.digit_count-count.result c.requires.base c.digit_count-count.ensures)))

pub put_digits-requires-2-clause-room : goal.put_digits-requires-2-clause-room
put_digits-requires-2-clause-room c =
    let n = c.args.number in
    let room =
    subst (λ b. vec_len c.args.out.now + length (spelled b c.args.base c.args.columns n) ≤ vec_capacity c.args.out.now) c.if-short.false
    c.requires.room in
    omega (arith, room, length-digits c.args.base c.args.columns n)
