-- What reading a string gives.
use Rattle.std.specs.Prelude.{◌≡◌, ℕ, List, Result, Ok, Err}
use Rattle.std.specs.Global.{Vec}
use Rattle.vlog_lexer.specs.declared.quoted.TextStop.{TextStop}
use Rattle.vlog_lexer.specs.declared.quoted.TextStop.TheVariants.{At, NoMemory}

-- the bytes that a text stands for, or the place of the wrong one, unless memory runs out
abbrev pub IsRead : Result (List ℕ) ℕ → Result (Vec ℕ) TextStop → Type 0
IsRead read (Ok bytes) = read ≡ Ok bytes.items
IsRead read (Err (At offset)) = read ≡ Err offset
IsRead read (Err NoMemory) = Unit {0}
