use Rattle.counted_laws.proofs.DerivedRows.{derived_counts_give, rows_instrument}
use Rattle.counted_laws.proofs.derived_rows.Goals as goal

pub returns : goal.returns
returns c = record { gives = derived_counts_give; instruments = rows_instrument }
