use Rattle.std.proofs.Common.{subst, arith}
use Rattle.elab_constants.specs.Reads.{IsJoined}
use Rattle.elab_constants.proofs.Joins.{after_none, after_some, total_grows}
use Rattle.elab_constants.proofs.joined.with.Goals as goal

pub returns-in-Empty : goal.returns-in-Empty
returns-in-Empty c = λ ms m h s.
    let j = subst (IsJoined ms) c.in-Empty.is h in
    after_none ms m c.own-part.result.width c.own-part.result.bits j.0 j.1 (omega (arith, c.own-part.ensures.width, s.size)) (c.own-part.ensures.value m s)

pub returns-then-from-gt128 : goal.returns-then-from-gt128
returns-then-from-gt128 c = λ ms m h s.
    let j = subst (IsJoined ms) c.in-Value.is h in
    total_grows ms m 129 (omega (arith, j.0, c.own-part.ensures.width, s.size))

pub returns-else-from-gt128 : goal.returns-else-from-gt128
returns-else-from-gt128 c = λ ms m h s.
    let j = subst (IsJoined ms) c.in-Value.is h in
    let all = c.concat.result in
    let high = c.in-Value.high in
    let part = c.own-part.result in
    after_some ms m high.width high.bits part.width part.bits all.width all.bits j.0 j.1 (omega (arith, c.own-part.ensures.width, s.size))
    (c.own-part.ensures.value m s)
    c.concat.ensures.width c.concat.ensures.value

pub returns-in-Past128 : goal.returns-in-Past128
returns-in-Past128 c = λ ms m h s.
    let j = subst (IsJoined ms) c.in-Past128.is h in
    total_grows ms m 129 (omega (arith, j))
