-- Which arm a generate `if` chooses (IEEE 1364-2005, 12.4.2).
use Rattle.std.specs.Prelude.{◌≡◌, ℕ, ◌+◌, ◌<◌, Bool, if◌then◌else◌, List, ◌++◌, map, take, length, Option, Some, None, Result, Ok, Err, slice_get}
use Rattle.circuit_run.specs.Lists.{total}
use Rattle.vlog_tree.specs.declared.expression.Expr.{Expr}
use Rattle.vlog_tree.specs.declared.item.GenArm.{GenArm, out-GenArm}
use Rattle.vlog_tree.specs.declared.item.GenBody.{GenBody}
use Rattle.scope_meaning.specs.Constants.{Names}
use Rattle.scope_meaning.specs.Declared.{count_body}
use Rattle.scope_meaning.specs.Heads.{Choice, choice_from, last_body}
use Rattle.elab_ranges.specs.declared.fault.RangeFault.{RangeFault}
use Rattle.elab_heads.specs.declared.choice.ChosenBody.{ChosenBody}

abbrev pub test_in : GenArm → Expr
test_in arm = (out-GenArm arm).test

abbrev pub body_in : GenArm → GenBody
body_in arm = (out-GenArm arm).body

-- the items in some arms
abbrev pub items_in : List GenArm → ℕ
items_in arms = total (map (λ arm. count_body (body_in arm)) arms)

-- the arm at k is the one that is chosen, whatever stands behind these arms
pub record IsFirstTrue (known : Names) (arms : List GenArm) (k : ℕ) : Type 0 where
  pub arm : GenArm
  pub stands : slice_get arms k ≡ Some arm
  pub within : k < length arms
  pub chosen : (n : ℕ) (rest : List GenArm) (last : Option GenBody)
      → choice_from known n (arms ++ rest) last ≡ Some (Some (n + items_in (take k arms), body_in arm))

-- that arm of these is chosen, or none of them
abbrev pub Chooses : Names → List GenArm → Option ℕ → Type 0
Chooses known arms (Some k) = IsFirstTrue known arms k
Chooses known arms None = (n : ℕ) (rest : List GenArm) (last : Option GenBody)
    → choice_from known n (arms ++ rest) last ≡ choice_from known (n + items_in arms) rest last

-- the body is the chosen one
abbrev pub IsChoice : Choice → Option ChosenBody → Type 0
IsChoice (Some (Some p)) (Some c) = (c.first ≡ p.0) × (c.body.now ≡ p.1)
IsChoice (Some None) None = Unit {0}
IsChoice (Some (Some p)) None = ⊥
IsChoice (Some None) (Some c) = ⊥
IsChoice None c = ⊥

-- ---- of the code

abbrev pub or_this : Option ℕ → ℕ → Bool → Option ℕ
or_this (Some k) at holds = Some k
or_this None at holds = if holds then Some at else None

abbrev pub step_of : ℕ → Result (Option ℕ × Bool) RangeFault → Result (Option ℕ) RangeFault
step_of at (Ok p) = Ok (or_this p.0 at p.1)
step_of at (Err f) = Err f

-- the arm at a place, or where there is none the last body
abbrev pub body_of : ℕ → List GenArm → Option GenBody → ℕ → Option GenArm → Choice
body_of n arms last k (Some arm) = Some (Some (n + items_in (take k arms), body_in arm))
body_of n arms last k None = Some (last_body (n + items_in arms) last)

abbrev pub IsBodyAt : ℕ → List GenArm → Option GenBody → ℕ → Option ChosenBody → Type 0
IsBodyAt n arms last k c = IsChoice (body_of n arms last k (slice_get arms k)) c
