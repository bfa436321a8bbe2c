-- Words that tell a value.
use Rattle.std.specs.Prelude.{ℕ, Bool, true, false, List, codes, Option, None, Some, if◌then◌else◌}
use Rattle.std.specs.Str.{bytes_eq}

-- how a value is read
abbrev pub sign_of : List ℕ → Option Bool
sign_of text = if bytes_eq text (codes "s") then Some true else (if bytes_eq text (codes "u") then Some false else None)
