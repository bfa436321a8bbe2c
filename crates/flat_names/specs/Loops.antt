-- The loop variables around a place, the outermost first.
use Rattle.std.specs.Prelude.{ℕ, List, [], ◌∷◌, map, fold, Option, Some, None, if◌then◌else◌}
use Rattle.std.specs.Str.{bytes_eq}
use Rattle.source_meaning.specs.Environment.{Environment, in_pass}
use Rattle.flat_names.specs.declared.loops.LoopValue.{LoopValue}

-- the value of a name, where a loop turns over it: that of the innermost
abbrev pub or_value : List ℕ → Option ℕ → LoopValue → Option ℕ
or_value name found l = if bytes_eq name l.name.now then Some l.value else found

abbrev pub loop_value : List LoopValue → List ℕ → Option ℕ
loop_value loops name = fold (or_value name) None loops

-- their names
abbrev pub loop_names : List LoopValue → List (List ℕ)
loop_names = map (λ (l : LoopValue). l.name.now)

-- an environment in the passes of these loops
abbrev pub in_passes : List LoopValue → Environment → Environment
in_passes [] env = env
in_passes (l ∷ loops) env = in_passes loops (in_pass env l.name.now l.value)
