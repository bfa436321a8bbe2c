-- What a call of the program finds and leaves.
use Rattle.std.specs.Prelude.{◌≡◌, ℕ, List, [], ◌∷◌, ◌++◌, Option, Some, if◌then◌else◌}
use Rattle.std.specs.Str.{bytes_eq}
use Rattle.cov_port.specs.Causes.{IsQuiet}
use Rattle.cov_port.specs.Files.{Names, FileFaults, AllQuiet, StoresPart}

-- What a call began with or ended with: what each name holds, how often each call on files failed, what was
-- put on standard output, and how often a put there failed; contents where they are told.
pub record World : Type 0 where
  pub held : Option Names
  pub faults : FileFaults
  pub written : Option (List ℕ)
  pub put_faults : ℕ

-- a world by its parts
abbrev pub world : Option Names → FileFaults → Option (List ℕ) → ℕ → World
world held faults written put_faults = record { held = held; faults = faults; written = written; put_faults = put_faults }

-- no number rose
pub record IsCalm (old new : World) : Type 0 where
  pub files : AllQuiet old.faults new.faults
  pub out : IsQuiet old.put_faults new.put_faults

-- no number changed
pub record IsUnharmed (old new : World) : Type 0 where
  pub files : new.faults ≡ old.faults
  pub out : new.put_faults ≡ old.put_faults

-- nothing was stored and nothing put out
pub record IsUntouched (old new : World) : Type 0 where
  pub held : new.held ≡ old.held
  pub written : new.written ≡ old.written

-- what the names hold after these stores, one after the other
abbrev pub after_stores : List (List ℕ × List ℕ) → Names → Names
after_stores [] held = held
after_stores (s ∷ ss) held = after_stores ss (λ q. if bytes_eq q s.0 then Some s.1 else held q)

-- all these stores were made, and nothing else was changed
abbrev pub StoresAll : List (List ℕ × List ℕ) → Names → Names → Type 0
StoresAll stores old new = (q : List ℕ) → new q ≡ after_stores stores old q

-- some of the stores were made, and of the next one, which is at this name, a part, or nothing
pub record StoresFront (name : List ℕ) (stores : List (List ℕ × List ℕ)) (old new : Names) : Type 0 where
  pub made : List (List ℕ × List ℕ)
  pub bytes : List ℕ
  pub left : List (List ℕ × List ℕ)
  pub split : stores ≡ made ++ (name, bytes) ∷ left
  pub part : StoresPart name bytes (after_stores made old) new
