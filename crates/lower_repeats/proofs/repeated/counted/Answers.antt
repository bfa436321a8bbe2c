use Rattle.lower_repeats.proofs.Repeats.{below, some, above}
use Rattle.lower_repeats.proofs.repeated.counted.Goals as goal

pub returns-in-Below1 : goal.returns-in-Below1
returns-in-Below1 c = λ z h. below z c.args.span c.in-Below1.is h

pub returns-in-Bits : goal.returns-in-Bits
returns-in-Bits c = λ z h. some z c.args.span c.in-Bits.k c.in-Bits.is h

pub returns-in-Past128 : goal.returns-in-Past128
returns-in-Past128 c = λ z h. above z c.args.span c.in-Past128.is h
