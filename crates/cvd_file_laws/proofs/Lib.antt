pub mod Clean
pub mod TextPieces
pub mod StepsClean
pub mod SectionsClean
pub mod Texts
pub mod OneFlaw
