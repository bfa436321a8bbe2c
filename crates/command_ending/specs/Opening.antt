-- A file that is open.
use Rattle.std.specs.Prelude.{◌≡◌, ℕ, List, Option, None, Some}
use Rattle.cov_port.specs.Files.{Names}

-- the file of this name is open at its first byte, where it is told what each name holds
abbrev pub IsOpened : Option Names → List ℕ → Option (List ℕ) → Type 0
IsOpened None name left = Unit {0}
IsOpened (Some names) name left = (text : List ℕ) × (names name ≡ Some text) × (left ≡ Some text)
