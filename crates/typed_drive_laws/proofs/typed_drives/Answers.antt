use Rattle.typed_drive_laws.proofs.Drives.{typed_drives_the_same}
use Rattle.typed_drive_laws.proofs.FormedSource.{flat_bodies_are_formed}
use Rattle.typed_drive_laws.proofs.typed_drives.Goals as goal

pub returns : goal.returns
returns c = record { formed = flat_bodies_are_formed; drives = typed_drives_the_same }
