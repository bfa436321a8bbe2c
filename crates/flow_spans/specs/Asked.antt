-- Private: what an expression reads where some places of its value are asked for, and whether it is constant.
use Rattle.std.specs.Prelude.{ℕ, Bool, List, Option, ℤ}
use Rattle.design_tree.specs.declared.typed.Typed.{Typed, fold-Typed, para-Typed}
use Rattle.design_meaning.specs.Spans.{Span, Reading, node_reads, index_reads, node_constant, index_constant}

abbrev pub reads_asked : Typed → Option (ℤ × ℕ) → List Span
reads_asked = para-Typed Reading (List Span) node_reads index_reads

abbrev pub constant : Typed → Bool
constant = fold-Typed Bool Bool node_constant index_constant
