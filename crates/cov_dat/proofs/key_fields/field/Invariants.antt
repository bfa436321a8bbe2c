use Rattle.std.proofs.Common.{◌≡◌, length}
use Rattle.cov_dat.specs.FieldWalk.{BeginsField}
use Rattle.cov_dat.specs.KeyFields.{field, field_texts, first_value}
use Rattle.cov_dat.proofs.key_fields.field.Given as goal

abbrev pub invariant-fields : goal.invariant-fields
invariant-fields l = record {
  value : first_value l.name (field_texts l.rest) ≡ field l.key l.name;
  begins : BeginsField l.rest;
}

abbrev pub decreases-fields : goal.decreases-fields
decreases-fields l = length l.rest
