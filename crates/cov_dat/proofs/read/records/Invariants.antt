use Rattle.std.proofs.Common.{◌≡◌, ◌++◌, length}
use Rattle.cov_dat.specs.Reading.{reading}
use Rattle.cov_dat.proofs.read.records.Given as goal

abbrev pub invariant-records : goal.invariant-records
invariant-records l = record {
  records : l.records ++ l.reader.records ≡ (reading l.text).records;
  fault : l.reader.fault ≡ (reading l.text).fault;
}

abbrev pub decreases-records : goal.decreases-records
decreases-records l = length l.reader.records
