-- The names that a scope declares (IEEE 1364-2005, 12.7, scope rules), and how items are counted.
use Rattle.std.specs.Prelude.{ℕ, ◌+◌, Bool, true, false, not, List, [], ◌∷◌, ◌++◌, Option, Some, None, map}
use Rattle.std.specs.List.{flat_map, filter, list_any}
use Rattle.std.specs.Str.{bytes_eq}
use Rattle.vlog_tree.specs.declared.item.NamePlace.{NamePlace}
use Rattle.vlog_tree.specs.declared.item.Item.{Item, fold-Item}
use Rattle.vlog_tree.specs.declared.item.ItemKind.TheOpen as i
use Rattle.vlog_tree.specs.declared.item.GenBody.{GenBody, fold-GenBody}
use Rattle.vlog_tree.specs.declared.module.PortKind.{PortKind}
use Rattle.vlog_tree.specs.declared.module.PortKind.TheVariants as port
use Rattle.vlog_tree.specs.declared.module.Module.{Module}
use Rattle.vlog_tree.specs.Trees.{Layer}
use Rattle.circuit_run.specs.Lists.{total}

-- what a name is declared as; a function, an instance or a generate block has no value
pub data DeclaredAs : Type 0 where
  input output_wire output_reg wire reg integer : DeclaredAs
  constant genvar scope_name : DeclaredAs

pub record Declared : Type 0 where
  pub name : List ℕ
  pub kind : DeclaredAs

abbrev pub declare : DeclaredAs → List ℕ → Declared
declare kind name = record { name = name; kind = kind }

abbrev pub is_in : List ℕ → List (List ℕ) → Bool
is_in name names = list_any (bytes_eq name) names

-- each name once, the first of equal ones
unfoldable pub once : List (List ℕ) → List (List ℕ)
once [] = []
once (n ∷ ns) = n ∷ filter (λ m. not (bytes_eq n m)) (once ns)

abbrev pub or_none : Option (List (List ℕ)) → List (List ℕ)
or_none (Some ns) = ns
or_none None = []

-- What a kind of item declares in its scope, an arm or a body standing for its name: the items of a `generate` region
-- belong to the scope, those of a generate block don't. The arms of one generate `if` may have one name.
abbrev pub kind_declares : i.ItemKind-F (List Declared) (List (List ℕ)) (List (List ℕ)) (List Declared) → List Declared
kind_declares (i.Wire signed range names) = map (λ w. declare wire w.name.name) names
kind_declares (i.Reg signed range names) = map (λ r. declare reg r.name.name) names
kind_declares (i.Integer names) = map (λ n. declare integer n.name) names
kind_declares (i.Genvar names) = map (λ n. declare genvar n.name) names
kind_declares (i.Parameter local form names) = map (λ p. declare constant p.name.name) names
kind_declares (i.Instances of params made) = map (λ m. declare scope_name m.name.name) made
kind_declares (i.Generate items) = flat_map (λ ds. ds) items
kind_declares (i.Loop name from test step_name step block places body) = declare scope_name block.name ∷ []
kind_declares (i.Choose arms last) = map (declare scope_name) (once (flat_map (λ ns. ns) arms ++ or_none last))
kind_declares _ = []

abbrev pub block_names : Option NamePlace → List (List ℕ)
block_names (Some n) = n.name ∷ []
block_names None = []

-- what an item declares in its scope
abbrev pub declares : Item → List Declared
declares =
    fold-Item (List Declared) (List (List ℕ)) (List (List ℕ)) (List Declared) kind_declares (λ arm. arm.body) (λ body. block_names body.name)
    (λ item. item.what)

abbrev pub port_kind : PortKind → DeclaredAs
port_kind port.Input = input
port_kind port.OutputWire = output_wire
port_kind port.OutputReg = output_reg

-- what the scope of a module declares: its header, its ports, its items
abbrev pub module_declares : Module → List Declared
module_declares m =
    flat_map declares m.params ++ map (λ p. declare (port_kind p.kind) p.name) m.ports ++ flat_map declares m.items

abbrev pub names_of : Item → List (List ℕ)
names_of item = map (λ d. d.name) (declares item)

-- nothing is none
abbrev pub or_0 : Option ℕ → ℕ
or_0 (Some n) = n
or_0 None = 0

-- how many items it is, itself and those inside it
abbrev pub kind_count : i.ItemKind-F ℕ ℕ ℕ ℕ → ℕ
kind_count (i.Generate items) = total items + 1
kind_count (i.Loop name from test step_name step block places body) = total body + 1
kind_count (i.Choose arms last) = total arms + or_0 last + 1
kind_count _ = 1

abbrev pub count : Item → ℕ
count = fold-Item ℕ ℕ ℕ ℕ kind_count (λ arm. arm.body) (λ body. total body.items) (λ item. item.what)

abbrev pub count_body : GenBody → ℕ
count_body = fold-GenBody ℕ ℕ ℕ ℕ kind_count (λ arm. arm.body) (λ body. total body.items) (λ item. item.what)

-- how many generate constructs it is in its own scope: a `generate` region is none by itself
abbrev pub kind_constructs : i.ItemKind-F ℕ ℕ ℕ ℕ → ℕ
kind_constructs (i.Generate items) = total items
kind_constructs (i.Loop name from test step_name step block places body) = 1
kind_constructs (i.Choose arms last) = 1
kind_constructs _ = 0

abbrev pub constructs : Item → ℕ
constructs = fold-Item ℕ ℕ ℕ ℕ kind_constructs (λ arm. 0) (λ body. 0) (λ item. item.what)

-- an item that makes no scope and no constant
abbrev pub is_plain : Layer → Bool
is_plain (i.Parameter is_local form names) = false
is_plain (i.Instances of params made) = false
is_plain (i.Generate items) = false
is_plain (i.Loop name from test step_name step block places body) = false
is_plain (i.Choose arms last) = false
is_plain _ = true

-- a `generate` region: its items are items of the scope around it, and it is no place of its own
abbrev pub is_region : Layer → Bool
is_region (i.Generate items) = true
is_region _ = false
