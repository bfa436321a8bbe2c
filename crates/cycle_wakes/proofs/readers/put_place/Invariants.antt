use Rattle.cycle_wakes.specs.Readers.{HasPut}
use Rattle.cycle_wakes.proofs.readers.put_place.Given as goal

abbrev pub invariant-loop-span : goal.invariant-loop-span
invariant-loop-span l = HasPut l.spans l.span-index l.place l.fn.readers.items l.readers.items
