-- What reading an expression as a constant gives: a term that stands for it, or the first thing that is wrong in it.
use Rattle.std.specs.Prelude.{◌≡◌, ℕ, ◌≤◌, List, [], Some, None, Result, Ok, Err, pos, ◌||◌}
use Rattle.source_meaning.specs.Meaning.{Meaning, total_size, fixed_integer}
use Rattle.source_meaning.specs.Joins.{joined_value}
use Rattle.vlog_tree.specs.declared.expression.Select.{Select, fold-Select}
use Rattle.source_meaning.specs.Environment.{Environment}
use Rattle.scope_meaning.specs.Constants.{Wrong, Read, ReadSelect, node, part, meanings, any_wrong, is_low}
use Rattle.elab_constants.specs.declared.fault.ConstantFault.{ConstantFault}
use Rattle.elab_constants.specs.declared.fault.ConstantFault.TheVariants as fault
use Rattle.elab_constants.specs.declared.sized.SizedTerm.{SizedTerm}
use Rattle.elab_constants.specs.declared.joined.Joined.{Joined}
use Rattle.elab_constants.specs.declared.joined.Joined.TheVariants as joined
use Rattle.elab_constants.specs.Faults.{first_wrong}
use Rattle.elab_constants.specs.Sized.{IsSized}

-- the fault is the first thing that is wrong, want of memory aside
abbrev pub IsFault : Wrong → ConstantFault → Type 0
IsFault w fault.NoMemory = Unit {0}
IsFault w fault.NotConstant = first_wrong w ≡ Some fault.NotConstant
IsFault w fault.BadSelect = first_wrong w ≡ Some fault.BadSelect
IsFault w fault.WidthPast128 = first_wrong w ≡ Some fault.WidthPast128

-- nothing is wrong and it is what was asked for, or that is the fault
abbrev pub Gives : {A : Type 0} → (A → Type 0) → Wrong → Result A ConstantFault → Type 0
Gives is w (Ok a) = (first_wrong w ≡ None) × is a
Gives is w (Err f) = IsFault w f

-- what reading an expression gives
abbrev pub Reads : Read → Result SizedTerm ConstantFault → Type 0
Reads r = Gives (IsSized r.meaning) r.wrong

-- values beside one another: none, their bits, or more than 128 bits
abbrev pub IsJoined : List Meaning → Joined → Type 0
IsJoined ms joined.Empty = (total_size ms ≡ 0) × (joined_value ms [] ≡ 0)
IsJoined ms (joined.Value all) = (total_size ms ≡ all.width) × (joined_value ms [] ≡ all.bits)
IsJoined ms joined.Past128 = 129 ≤ total_size ms

-- what reading the parts of a concatenation gives
abbrev pub Gathers : List Read → Result Joined ConstantFault → Type 0
Gathers rs = Gives (IsJoined (meanings rs)) (any_wrong rs)

-- what a select says whose expressions have to be constants
abbrev pub read_select : Environment → Select → ReadSelect
read_select env = fold-Select Read ReadSelect (node env) part

-- what is wrong in it
abbrev pub Tells : Wrong → Result Unit ConstantFault → Type 0
Tells = Gives (λ (nothing : Unit). Unit {0})

-- a count of at least 1
abbrev pub IsCount : Meaning → ℕ → Type 0
IsCount m k = (1 ≤ k) × (fixed_integer m ≡ pos k)

-- what is wrong in the count of a replication: it is below 1, or something in it
abbrev pub count_wrong : Read → Wrong
count_wrong count = record count.wrong { select = count.wrong.select || is_low count }
