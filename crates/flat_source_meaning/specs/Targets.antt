-- Targets of assignments (IEEE 1364-2005, 6.1.2, 9.2) and the formats of `$display` (17.1).
use Rattle.std.specs.Prelude.{ℕ, ◌+◌, ◌==◌, ◌||◌, Bool, true, false, if◌then◌else◌, List, [], ◌∷◌, Option, Some, None}
use Rattle.std.specs.List.{flat_map, list_all}
use Rattle.vlog_tree.specs.declared.expression.Expr.{Expr, Expr-F, fold-Expr}
use Rattle.vlog_tree.specs.declared.expression.Expr.TheOpen as e
use Rattle.scope_meaning.specs.Constants.{option_of}
use Rattle.flat_source_meaning.specs.Names.{NameList}

-- the names that a target writes, those in its positions left out, by its form
abbrev pub target_node : Expr-F NameList NameList → NameList
target_node (e.Name name) = name ∷ []
target_node (e.Select base select) = base
target_node (e.Join parts) = flat_map (λ ns. ns) parts
target_node _ = []

-- the names that a target writes
abbrev pub target_names : Expr → NameList
target_names = fold-Expr NameList NameList target_node (λ s. [])

-- a name with selects, or several of them in braces, by its form
abbrev pub target_shape : Expr-F Bool Bool → Bool
target_shape (e.Name name) = true
target_shape (e.Select base select) = base
target_shape (e.Join parts) = list_all (λ b. b) parts
target_shape _ = false

-- an expression that may be assigned to
abbrev pub is_target : Expr → Bool
is_target = fold-Expr Bool Bool target_shape (λ s. true)

-- d, h or b, in either case
abbrev pub is_format : ℕ → Bool
is_format c = (c == 100) || (c == 104) || (c == 98) || (c == 68) || (c == 72) || (c == 66)

-- one value more, where there are any
abbrev pub more_values : Option ℕ → Option ℕ
more_values = option_of (λ n. n + 1)

-- how many values a format text takes, where each of its formats is one: `%%` takes none; a `0` may stand before a letter
unfoldable pub values_taken : List ℕ → Option ℕ
values_taken [] = Some 0
values_taken (c ∷ []) = if c == 37 then None else Some 0
values_taken (c ∷ d ∷ []) = if c == 37 then (if d == 37 then Some 0 else if is_format d then Some 1 else None) else values_taken (d ∷ [])
values_taken (c ∷ d ∷ g ∷ cs) =
    if c == 37
    then (if d == 37 then values_taken (g ∷ cs)
    else if is_format d then more_values (values_taken (g ∷ cs))
    else if d == 48 then (if is_format g then more_values (values_taken cs) else None)
    else None)
    else values_taken (d ∷ g ∷ cs)
