-- A file past the limit on bytes reads as its front.
use Rattle.std.specs.Prelude.{◌≡◌, ℕ, List, take}
use Rattle.cov_dat.specs.Reading.{reading}

-- of a text past 4,294,967,296 bytes no more than one further byte is needed
abbrev pub ReadsByFront : Type 0
ReadsByFront = (text : List ℕ) → reading (take 4294967297 text) ≡ reading text
