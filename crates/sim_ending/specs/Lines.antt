-- Private: the front of a line.
use Rattle.std.specs.Prelude.{ℕ, List, ◌++◌, codes}

-- up to the number of the line that is refused
abbrev pub front_of : List ℕ → List ℕ
front_of name = codes "vcov: BadStimulus: " ++ name ++ codes ":"
