-- What names hold after one more store.
use Rattle.std.proofs.Common.{◌≡◌, ℕ, Bool, true, false, List, [], ◌∷◌, ◌++◌, refl, ◌∙◌, ap, Option, None, Some}
use Rattle.std.specs.Prelude.{if◌then◌else◌}
use Rattle.std.specs.Option.{option_map_or}
use Rattle.std.specs.Str.{bytes_eq}
use Rattle.cov_port.specs.Memory.{held_in}

-- the name holds what was stored last, and every other name what it held
pub held_push : (files : List (List ℕ × List ℕ)) (name bytes q : List ℕ)
    → held_in (files ++ (name, bytes) ∷ []) q ≡ (if bytes_eq q name then Some bytes else held_in files q)
held_push [] name bytes q = refl
held_push (f ∷ fs) name bytes q =
    ap (λ (o : Option (List ℕ)). option_map_or (λ (t : List ℕ). Some t) o (if bytes_eq q f.0 then Some f.1 else None)) (held_push fs name bytes q)
    ∙ elim (bytes_eq q name) as (λ (t : Bool). option_map_or (λ (x : List ℕ). Some x) (if t then Some bytes else held_in fs q)
    (if bytes_eq q f.0 then Some f.1 else None)
    ≡ (if t then Some bytes else option_map_or (λ (x : List ℕ). Some x) (held_in fs q) (if bytes_eq q f.0 then Some f.1 else None)))
    [ true ↦ refl | false ↦ refl ]
