-- The processes that are no assignments, as marks by their numbers.
use Rattle.std.specs.Prelude.{◌≡◌, ℕ, ◌<◌, false, List, length, IsTrue}
use Rattle.design_tree.specs.declared.design.Design.{Design}
use Rattle.circuit_run.specs.Kinds.{is_assign}
use Rattle.design_meaning.specs.Processes.{kind_of}
use Rattle.place_marks.specs.Marked.{is_marked}

-- a process that isn't marked is an assignment
abbrev pub AreOthers : Design → List ℕ → Type 0
AreOthers d marks = (p : ℕ) → p < length d.processes → is_marked marks p ≡ false → IsTrue (is_assign (kind_of d p))
