-- Output of which all, a part or nothing was put, and facts on told files.
use Rattle.std.proofs.Common.{◌≡◌, ℕ, List, [], ◌∷◌, ◌++◌, refl, ap, Option, None, Some}
use Rattle.std.specs.Prelude.{IfSome, IsSomeAnd}
use Rattle.cov_port.specs.Causes.{Both}
use Rattle.cov_port.specs.Files.{Names}
use Rattle.cov_port.specs.Sinks.{PutsAll, PutsPart}
use Rattle.command_ending.specs.World.{StoresAll}

with_none : (xs : List ℕ) → xs ≡ xs ++ []
with_none [] = refl
with_none (x ∷ xs) = ap (λ (ys : List ℕ). x ∷ ys) (with_none xs)

-- nothing is put of an output that is empty
pub puts_none : (old new : Option (List ℕ)) → new ≡ old → Both (PutsAll []) old new
puts_none None new same = rw same tt
puts_none (Some w) new same = rw same (with_none w)

-- the whole is a part
pub puts_all_part : (bytes : List ℕ) (old new : Option (List ℕ)) → Both (PutsAll bytes) old new → Both (PutsPart bytes) old new
puts_all_part bytes None None put = tt
puts_all_part bytes None (Some n) put = put
puts_all_part bytes (Some o) None put = put
puts_all_part bytes (Some o) (Some n) put = ([], record { front = bytes; split = with_none bytes; put = put })

-- no store is made
pub stores_none : (old new : Option Names) → new ≡ old → Both (StoresAll []) old new
stores_none None new same = rw same tt
stores_none (Some names) new same = rw same (λ q. refl)

-- a fact on told files, from another
pub if_told : (told : Option Names) (P Q : Names → Type 0) → ((names : Names) → P names → Q names) → IfSome told P → IfSome told Q
if_told None P Q weaker is = tt
if_told (Some names) P Q weaker is = weaker names is

pub if_told_both : (told : Option Names) (P Q R : Names → Type 0) → ((names : Names) → P names → Q names → R names) → IfSome told P → IfSome told Q
    → IfSome told R
if_told_both None P Q R weaker is also = tt
if_told_both (Some names) P Q R weaker is also = weaker names is also

pub and_told : (told : Option Names) (P Q : Names → Type 0) → IfSome told (λ names. P names → Q names) → IsSomeAnd told P → IsSomeAnd told Q
and_told None P Q weaker is = is
and_told (Some names) P Q weaker is = weaker is

pub always_told : (told : Option Names) (P : Names → Type 0) → ((names : Names) → P names) → IfSome told P
always_told None P all = tt
always_told (Some names) P all = all names
