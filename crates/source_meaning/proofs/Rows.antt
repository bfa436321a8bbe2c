-- Worked cases, by computation once each expression is opened.
use Rattle.std.proofs.Common.{◌≡◌, refl, ℕ, Bool, true, false, List, [], ◌∷◌, ◌++◌, map, Some, codes, if◌then◌else◌}
use Rattle.std.specs.Str.{bytes_eq}
use Rattle.vlog_tree.specs.declared.operator.BinaryOp.TheVariants as op
use Rattle.vlog_tree.specs.declared.operator.SystemCall.TheVariants as call
use Rattle.vlog_tree.specs.declared.expression.Expr.{Expr}
use Rattle.vlog_tree.specs.declared.expression.Expr.TheVariants as e
use Rattle.vlog_tree.specs.declared.expression.Select.TheVariants as select
use Rattle.circuit_run.specs.States.{State}
use Rattle.circuit_run.specs.Writes.{Part}
use Rattle.source_meaning.specs.Meaning.{Variable}
use Rattle.source_meaning.specs.Environment.{Environment, Named, variable, unknown}
use Rattle.source_meaning.specs.Expressions.{meaning}
use Rattle.source_meaning.specs.Assignments.{assigned, assigned_parts}
use Rattle.source_meaning.specs.Cases.{matches}
use Rattle.source_meaning.specs.Joins.{powers_below}
use Rattle.source_meaning.specs.Texts.{display_text}
use Rattle.source_meaning.proofs.Equations.{of-Number, of-Name, of-Select, of-Binary, of-Join, of-Repeat, of-Call, of-Between, of-Down}

-- two variables of 4 bits, `a` and `b`; `s` is signed
abbrev bits4 : ℕ → Bool → Variable
bits4 n sg = record { number = n; width = 4; signed = sg; vector = true; low = 0; memory = false; word_low = 0 }

abbrev names : List ℕ → Named
names n = if bytes_eq n (codes "a") then variable (bits4 0 false) else if bytes_eq n (codes "b") then variable (bits4 1 false) else if bytes_eq n (codes "s")
    then variable (bits4 0 true) else unknown

abbrev env : Environment
env = record { scope = 0; look = names }

abbrev state : ℕ → ℕ → State
state a b = record { width = 4; words = a ∷ [] } ∷ record { width = 4; words = b ∷ [] } ∷ []

abbrev a : Expr
a = e.Name (codes "a")

abbrev b : Expr
b = e.Name (codes "b")

abbrev s : Expr
s = e.Name (codes "s")

-- a plain decimal
abbrev number : ℕ → Expr
number n = e.Number 32 true n 0

-- `y = (a + b) >> 1` loses the carry
carry_lost : assigned 4 (meaning env (e.Binary op.ShiftRight (e.Binary op.Add a b) (number 1))) (state 15 1) ≡ 0
carry_lost = simp (of-Binary env, of-Name env, of-Number env) refl

-- `z = (a + b + 0) >> 1` keeps it
carry_kept : assigned 4 (meaning env (e.Binary op.ShiftRight (e.Binary op.Add (e.Binary op.Add a b) (number 0)) (number 1))) (state 15 1) ≡ 8
carry_kept = simp (of-Binary env, of-Name env, of-Number env) refl

-- `y = s >>> 1` with -8 in 4 bits is -4 in 8 bits; `{s} >>> 1` is unsigned
sign_filled : assigned 8 (meaning env (e.Binary op.ArithmeticShiftRight s (number 1))) (state 8 0) ≡ 0xfc
sign_filled = simp (of-Binary env, of-Name env, of-Number env) refl

zero_filled : assigned 8 (meaning env (e.Binary op.ArithmeticShiftRight (e.Join (s ∷ [])) (number 1))) (state 8 0) ≡ 4
zero_filled = simp (of-Binary env, of-Name env, of-Number env, of-Join env) refl

-- beside an unsigned operand `>>>` fills with zeros
context_unsigned : assigned 4 (meaning env (e.Binary op.Add (e.Binary op.ArithmeticShiftRight s (number 1)) b)) (state 8 0) ≡ 4
context_unsigned = simp (of-Binary env, of-Name env, of-Number env) refl

-- `{c, t} = a + b`: the value has 5 bits, and the highest goes to the first target
abbrev c_and_t : List ℕ → Named
c_and_t n = if bytes_eq n (codes "c") then variable (record (bits4 2 false) { width = 1 }) else if bytes_eq n (codes "t") then variable (bits4 3 false) else
    names n

abbrev env5 : Environment
env5 = record { scope = 0; look = c_and_t }

abbrev seen : Part → ℕ × ℕ × ℕ
seen p = (p.var, p.width, p.number)

carry_out : map seen (assigned_parts (meaning env5 (e.Join (e.Name (codes "c") ∷ e.Name (codes "t") ∷ []))) (meaning env5 (e.Binary op.Add a b)) (state 15 1))
    ≡ (2, 1, 1) ∷ (3, 4, 0) ∷ []
carry_out = simp (of-Binary env5, of-Name env5, of-Join env5) refl

-- -8 < 0 where both sides are signed; beside an unsigned side all is unsigned
signed_below : assigned 1 (meaning env (e.Binary op.Less s (number 0))) (state 8 0) ≡ 1
signed_below = simp (of-Binary env, of-Name env, of-Number env) refl

unsigned_below : assigned 1 (meaning env (e.Binary op.Less s (e.Binary op.Add (number 0) b))) (state 8 0) ≡ 0
unsigned_below = simp (of-Binary env, of-Name env, of-Number env) refl

-- `{3{2'b10}}`
three_copies : assigned 8 (meaning env (e.Repeat (number 3) (e.Number 2 false 2 0 ∷ []))) [] ≡ 0x2a
three_copies = simp (of-Number env, of-Repeat env) refl

-- `a[5:2]` of f: what lies outside reads 0; `a[b -: 3]` with b = 1
part_outside : assigned 4 (meaning env (e.Select a (select.Between (number 5) (number 2)))) (state 15 0) ≡ 3
part_outside = simp (of-Select env, of-Name env, of-Number env, of-Between env) refl

part_below : assigned 4 (meaning env (e.Select a (select.Down b (number 3)))) (state 15 1) ≡ 6
part_below = simp (of-Select env, of-Name env, of-Number env, of-Down env) refl

-- `$clog2(5)` and `-8 / 3` in 4 signed bits
logarithm : assigned 8 (meaning env (e.Call call.CeilLog2 (number 5))) [] ≡ 3
unfolding powers_below
logarithm = simp (of-Call env, of-Number env) refl

quotient : assigned 4 (meaning env (e.Binary op.Divide s (e.Number 4 true 3 0))) (state 8 0) ≡ 0xe
quotient = simp (of-Binary env, of-Name env, of-Number env) refl

by_zero : assigned 4 (meaning env (e.Binary op.Remainder a (number 0))) (state 9 0) ≡ 0
by_zero = simp (of-Binary env, of-Name env, of-Number env) refl

-- the item `4'b1?0?` of a `casez`: 1101 and 1000 match, 1010 doesn't
abbrev wild : Expr
wild = e.Number 4 false 8 5

free_match : matches 4 false (meaning env a) (state 0xd 0) (meaning env wild) ≡ true
free_match = simp (of-Name env, of-Number env) refl

free_match_too : matches 4 false (meaning env a) (state 8 0) (meaning env wild) ≡ true
free_match_too = simp (of-Name env, of-Number env) refl

no_match : matches 4 false (meaning env a) (state 0xa 0) (meaning env wild) ≡ false
no_match = simp (of-Name env, of-Number env) refl

-- `$display("n=%0d %h", n, n)` with 2 in 8 bits
abbrev env8 : Environment
env8 = record { scope = 0; look = λ n. variable (record (bits4 0 false) { width = 8 }) }

displayed : display_text (Some (codes "n=%0d %h")) (map (meaning env8) (e.Name (codes "n") ∷ e.Name (codes "n") ∷ []))
    (record { width = 8; words = 2 ∷ [] } ∷ []) ≡ codes "n=2 02" ++ 10 ∷ []
displayed = simp (of-Name env8) refl

-- `%d` of 4 bits has two columns, signed ones too
in_columns : display_text (Some (codes "%d,%d")) (map (meaning env) (a ∷ s ∷ [])) (state 8 0) ≡ codes " 8,-8" ++ 10 ∷ []
in_columns = simp (of-Name env) refl
