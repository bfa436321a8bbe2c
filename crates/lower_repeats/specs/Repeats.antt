-- How many times parts in braces stand there.
use Rattle.std.specs.Prelude.{◌≡◌, ◌⊎◌, ◌≤◌, ◌*◌, ℕ, min, true, false, Result, Ok, Err, ℤ, pos, int_le}
use Rattle.design_tree.specs.declared.typed.Typed.{Typed}
use Rattle.design_tree.specs.declared.typed.Typed.TheVariants as t
use Rattle.lower_forms.specs.declared.form.Form.TheVariants as f
use Rattle.lower_forms.specs.declared.sized.SizedForm.{SizedForm}
use Rattle.lower_nodes.specs.declared.fault.ExpressionFault.{ExpressionFault}
use Rattle.lower_nodes.specs.declared.fault.ExpressionFault.TheVariants as fault
use Rattle.lower_nodes.specs.declared.braces.Parts.{Parts}
use Rattle.lower_nodes.specs.Joins.{AreJoinedIn, HaveNoJoin}
use Rattle.lower_nodes.specs.Operators.{Is}
use Rattle.lower_nodes.specs.Reads.{Gives}

-- a count of at least 1, 129 standing for any more than 128
pub record IsCount (z : ℤ) (k : ℕ) : Type 0 where
  pub number : ℕ
  pub is : z ≡ pos number
  pub some : 1 ≤ number
  pub count : k ≡ min number 129

-- a count, or the first thing that is refused
abbrev pub GivesCount : ℤ → Result ℕ ExpressionFault → Type 0
GivesCount z = Gives (int_le (pos 1) z) true (IsCount z)

-- copies that have so many bits together
abbrev pub HasCopies : ℕ → ℕ → Typed → Result SizedForm ExpressionFault → Type 0
HasCopies k bits all (Ok form) = (bits ≤ 128) × Is bits false (f.Alone bits (t.Repeat k all)) form
HasCopies k bits all (Err fault.NoMemory) = Unit {0}
HasCopies k bits all (Err fault.BadSelect) = ⊥
HasCopies k bits all (Err fault.WidthPast128) = (bits ≡ 0) ⊎ (129 ≤ bits)

-- so many copies of what has so many bits
abbrev pub IsRepeated : ℕ → ℕ → Typed → Result SizedForm ExpressionFault → Type 0
IsRepeated k size all (Ok form) = (k * size ≤ 128) × Is (k * size) false (f.Alone (k * size) (t.Repeat k all)) form
IsRepeated k size all (Err fault.NoMemory) = Unit {0}
IsRepeated k size all (Err fault.BadSelect) = ⊥
IsRepeated k size all (Err fault.WidthPast128) = (k ≡ 0) ⊎ (129 ≤ k * size)

-- so many copies of parts beside one another
pub record AreRepeatedIn (k : ℕ) (parts : Parts) (made : SizedForm) : Type 0 where
  pub size : ℕ
  pub all : Typed
  pub joined : AreJoinedIn parts size all
  pub few : k * size ≤ 128
  pub is : Is (k * size) false (f.Alone (k * size) (t.Repeat k all)) made

abbrev pub IsRepeating : ℕ → Parts → Result SizedForm ExpressionFault → Type 0
IsRepeating k parts (Ok form) = AreRepeatedIn k parts form
IsRepeating k parts (Err fault.NoMemory) = Unit {0}
IsRepeating k parts (Err fault.BadSelect) = ⊥
IsRepeating k parts (Err fault.WidthPast128) = HaveNoJoin parts ⊎ ((k ≡ 0) ⊎ (129 ≤ k * parts.size))
