-- The names of files, as a command is given them.
use Rattle.std.proofs.Common.{◌≡◌, ℕ, suc, ◌+◌, ◌<◌, ◌≤◌, true, false, List, [], ◌∷◌, ◌++◌, length, get_or, take, drop, drop-cons, map, refl, ◌∙◌, ap, subst}
use Rattle.std.proofs.Common.{arith, Bor, add-one}
use Rattle.std.specs.Prelude.{nat_lt, Contains}
use Rattle.std.proofs.lemmas.List.Elements.{Contains-get_or}
use Rattle.std.proofs.lemmas.Bool.{ltb-false, ltb-true}
use Rattle.std.proofs.lemmas.List.{get_or-map, length-map, map-append}
use Rattle.std.proofs.Math.Seq.{split_at}

-- borrowed names as lists of bytes
abbrev pub seen : List (Bor (List ℕ)) → List (List ℕ)
seen names = map (λ (name : Bor (List ℕ)). name.now) names

pub length-seen : (names : List (Bor (List ℕ))) → length (seen names) ≡ length names
length-seen names = length-map names (λ (name : Bor (List ℕ)). name.now)

-- the names around one
pub seen_around : (names : List (Bor (List ℕ))) (i : ℕ) (other : Bor (List ℕ)) → i < length names
    → seen names ≡ seen (take i names) ++ (get_or names i other).now ∷ seen (drop (suc i) names)
seen_around names i other within =
    ap seen (split_at names i other within) ∙ map-append (λ (name : Bor (List ℕ)). name.now) (take i names) (get_or names i other ∷ drop (suc i) names)

-- one of the names
pub seen_at : (names : List (Bor (List ℕ))) (i : ℕ) (other : Bor (List ℕ)) → i < length names → get_or (seen names) i [] ≡ (get_or names i other).now
seen_at names i other within = get_or-map (λ (name : Bor (List ℕ)). name.now) names i other [] within

-- the names from one on
pub seen_from : (names : List (Bor (List ℕ))) (i : ℕ) (other : Bor (List ℕ)) → i < length names
    → seen (drop i names) ≡ (get_or names i other).now ∷ seen (drop (i + 1) names)
seen_from names i other within = ap seen (drop-cons names i other within) ∙ rw add-one refl

-- more names than are read
pub many : (names : List (Bor (List ℕ))) → nat_lt 4096 (length names) ≡ true → 4096 < length (seen names)
many names is = omega (arith, ltb-true 4096 (length names) is, length-seen names)

-- no more names than are read
pub few : (names : List (Bor (List ℕ))) → nat_lt 4096 (length names) ≡ false → length (seen names) ≤ 4096
few names is = omega (arith, ltb-false 4096 (length names) is, length-seen names)

-- one of the names is among them
pub seen_within : (names : List (Bor (List ℕ))) (i : ℕ) (other : Bor (List ℕ)) → i < length names → Contains (seen names) (get_or names i other).now
seen_within names i other within =
    subst (Contains (seen names)) (seen_at names i other within) (Contains-get_or (seen names) i [] (omega (arith, length-seen names)))
