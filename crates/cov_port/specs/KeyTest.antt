-- A test for keys that computes. That it holds exactly of keys is a clause of `is_key`.
use Rattle.std.specs.Prelude.{ℕ, ◌==◌, ◌&&◌, Bool, true, false, not, List, [], ◌∷◌, if◌then◌else◌}
use Rattle.cov_types.specs.Key.{is_mark}

-- where in a key a byte stands: before byte 1, before a name, inside a name, inside a value
pub data Stand : Type 0 where
  outside : Stand
  before_name : Stand
  in_name : Stand
  in_value : Stand

-- whether the bytes, from such a place on, run to the end of a key
abbrev pub completes : Stand → List ℕ → Bool
completes outside [] = false
completes before_name [] = false
completes in_name [] = false
completes in_value [] = true
completes outside (b ∷ bs) = b == 1 && completes before_name bs
completes before_name (b ∷ bs) = not (is_mark b) && completes in_name bs
completes in_name (b ∷ bs) = if b == 2 then completes in_value bs else (not (is_mark b) && completes in_name bs)
completes in_value (b ∷ bs) = if b == 1 then completes before_name bs else (not (is_mark b) && completes in_value bs)

-- whether the bytes are a key
abbrev pub is_key_text : List ℕ → Bool
is_key_text key = completes outside key
