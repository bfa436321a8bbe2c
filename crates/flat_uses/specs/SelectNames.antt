-- The names that stand in a select.
use Rattle.vlog_tree.specs.declared.expression.Select.{Select, fold-Select}
use Rattle.flat_source_meaning.specs.Names.{NameList, name_node, name_select}

-- all names in the positions of a select
abbrev pub names_of_select : Select → NameList
names_of_select = fold-Select NameList NameList name_node name_select
