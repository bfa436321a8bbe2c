-- Two points of a source never have one key.
use Rattle.std.proofs.Common.{◌≡◌, ℕ, refl}
use Rattle.point_meaning.specs.Points.{identity_in}
use Rattle.point_meaning.specs.PointLaws.{KeysDiffer}
use Rattle.point_key_laws.proofs.PointKeys.{key_tells_all}
use Rattle.point_laws.proofs.Names.{got}
use Rattle.point_laws.proofs.Same.{place_is, identity_is}

pub keys_differ : KeysDiffer
keys_differ source options names points are plain files j k p q first second same =
    let left = got points j p first in
    let right = got points k q second in
    let told = key_tells_all names p q (plain p left) (plain q right) same in
    let place = place_is p.place q.place (files p q left right told.file) told.line told.column in
    are.once j k p q first second (identity_is (identity_in p) (identity_in q) told.kind told.module_text place told.comment)
