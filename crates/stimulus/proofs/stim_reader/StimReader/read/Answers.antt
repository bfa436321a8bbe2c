use Rattle.std.proofs.Common.{arith}
use Rattle.stimulus.proofs.RowLemmas.{fits_layout, front_of}
use Rattle.stimulus.proofs.stim_reader.StimReader.read.Goals as goal

pub returns-clause-fit : goal.returns-clause-fit
returns-clause-fit c =
    let same =
    front_of c.self.inside.cells.len c.counted_row.new.cells _ c.as_slice.result.now c.as_slice.ensures.value
    (omega (arith, c.in-Ok.ensures.len, c.as_mut_slice.ensures.len)) in
    rw (← c.self.view_is, c.put_row.ensures.row, same, c.as_slice-2.ensures)
    (fits_layout c.self.inside.layout c.counted_row.new.cells c.in-Ok.repeat c.in-Ok.ensures.fit
    c.in-Ok.ensures.some (omega (arith, c.in-Ok.ensures.sum)))
