-- What an expression says where a constant has to stand (IEEE 1364-2005, constant expressions): its meaning where each
-- name stands for a constant or for nothing, and what is wrong in it.
use Rattle.std.specs.Prelude.{ℕ, Bool, true, false, ◌||◌, ◌&&◌, not, if◌then◌else◌, nat_lt, nat_le, ◌^◌, List, [], ◌∷◌, map, Option, Some, None, pos, int_le}
use Rattle.vlog_tree.specs.declared.expression.Expr.{Expr, Expr-F, fold-Expr}
use Rattle.vlog_tree.specs.declared.expression.Expr.TheOpen as e
use Rattle.source_meaning.specs.Meaning.{Meaning, fixed_integer}
use Rattle.source_meaning.specs.Selects.{Selection}
use Rattle.source_meaning.specs.Environment.{Named, constant, unknown, Environment}
use Rattle.source_meaning.specs.Expressions.{expression, selection}

-- a constant: a number below 2 ^ width, and how it is read
pub record Constant : Type 0 where
  pub name : List ℕ
  pub width : ℕ
  pub signed : Bool
  pub bits : ℕ

-- what a name stands for, where it stands for a constant
abbrev pub Names : Type 0
Names = List ℕ → Option Constant

abbrev pub stands_for : Option Constant → Named
stands_for (Some c) = constant c.width c.signed c.bits
stands_for None = unknown

-- the environment in which names stand for constants alone; where it is doesn't matter
abbrev pub constants : Names → Environment
constants names = record { scope = 0; look = λ name. stands_for (names name) }

-- ---- what is wrong

-- a name that stands for no constant; a select, or a count below 1; a size past 128, or of no bit, which no text has
pub record Wrong : Type 0 where
  pub name : Bool
  pub select : Bool
  pub wide : Bool

abbrev pub is_wrong : Wrong → Bool
is_wrong w = w.name || w.select || w.wide

abbrev pub nothing_wrong : Wrong
nothing_wrong = record { name = false; select = false; wide = false }

abbrev pub either_wrong : Wrong → Wrong → Wrong
either_wrong a b = record { name = a.name || b.name; select = a.select || b.select; wide = a.wide || b.wide }

-- an expression and a select, with what is wrong in them
pub record Read : Type 0 where
  pub meaning : Meaning
  pub wrong : Wrong

pub record ReadSelect : Type 0 where
  pub selection : Selection
  pub wrong : Wrong

abbrev pub meanings : List Read → List Meaning
meanings = map (λ a. a.meaning)

-- what is wrong in some of them
abbrev pub any_wrong : List Read → Wrong
any_wrong [] = nothing_wrong
any_wrong (a ∷ rest) = either_wrong a.wrong (any_wrong rest)

abbrev pub is_constant : Named → Bool
is_constant (constant size signed n) = true
is_constant _ = false

-- a value has from 1 to 128 bits
abbrev pub is_size : ℕ → Bool
is_size n = nat_le 1 n && nat_le n 128

-- a count, where nothing is wrong in it, is below 1
abbrev pub is_low : Read → Bool
is_low count = not (is_wrong count.wrong) && not (int_le (pos 1) (fixed_integer count.meaning))

-- a number of a size has room in it, as each number of a text has
abbrev pub is_number : ℕ → ℕ → Bool
is_number size n = is_size size && nat_lt n (2 ^ size)

-- an expression by its layer: what it means with the meanings of its parts, and what is wrong in it beside them
abbrev pub means : Environment → Expr-F Meaning Selection → Wrong → Read
means env layer wrong = record { meaning = expression env layer; wrong = wrong }

abbrev pub node : Environment → Expr-F Read ReadSelect → Read
node env (e.Number w signed n free) = means env (e.Number w signed n free) (record nothing_wrong { wide = not (is_number w n) })
node env (e.Name x) = means env (e.Name x) (record nothing_wrong { name = not (is_constant (env.look x)) })
-- No constant has a part of it taken.
node env (e.Select base part) = means env (e.Select base.meaning part.selection) (record (either_wrong base.wrong part.wrong) { select = true })
node env (e.Unary op a) = means env (e.Unary op a.meaning) a.wrong
node env (e.Binary op a b) = means env (e.Binary op a.meaning b.meaning) (either_wrong a.wrong b.wrong)
node env (e.Choose test a b) = means env (e.Choose test.meaning a.meaning b.meaning) (either_wrong test.wrong (either_wrong a.wrong b.wrong))
node env (e.Join parts) =
    let m = expression env (e.Join (meanings parts)) in
    means env (e.Join (meanings parts)) (either_wrong (any_wrong parts) (record nothing_wrong { wide = not (is_size m.size) }))
node env (e.Repeat count parts) =
    let m = expression env (e.Repeat count.meaning (meanings parts)) in
    means env (e.Repeat count.meaning (meanings parts)) (either_wrong (either_wrong count.wrong (any_wrong parts))
    (record { name = false; select = is_low count; wide = not (is_wrong count.wrong) && not (is_size m.size) }))
node env (e.Call f a) = means env (e.Call f a.meaning) a.wrong

abbrev pub chosen_by : e.Select-F Meaning Selection → Wrong → ReadSelect
chosen_by layer wrong = record { selection = selection layer; wrong = wrong }

abbrev pub part : e.Select-F Read ReadSelect → ReadSelect
part (e.At a) = chosen_by (e.At a.meaning) a.wrong
part (e.Between a b) = chosen_by (e.Between a.meaning b.meaning) (either_wrong a.wrong b.wrong)
part (e.Up a b) = chosen_by (e.Up a.meaning b.meaning) (either_wrong a.wrong b.wrong)
part (e.Down a b) = chosen_by (e.Down a.meaning b.meaning) (either_wrong a.wrong b.wrong)

-- what an expression says as a constant
abbrev pub read : Environment → Expr → Read
read env = fold-Expr Read ReadSelect (node env) part

-- what it means, where nothing is wrong
abbrev pub meaning_in : Read → Option Meaning
meaning_in r = if is_wrong r.wrong then None else Some r.meaning

-- ---- values that may be there

abbrev pub option_of : {A B : Type 0} → (A → B) → Option A → Option B
option_of f (Some a) = Some (f a)
option_of f None = None

abbrev pub option_both : {A B C : Type 0} → (A → B → C) → Option A → Option B → Option C
option_both f (Some a) (Some b) = Some (f a b)
option_both f _ _ = None

abbrev pub and_then : {A B : Type 0} → Option A → (A → Option B) → Option B
and_then (Some a) f = f a
and_then None f = None
