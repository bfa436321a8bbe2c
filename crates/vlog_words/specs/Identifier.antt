-- Identifiers (IEEE 1364-2005, 3.7).
use Rattle.std.specs.Prelude.{ℕ, ◌&&◌, Bool, not, List, codes, is_some, nat_eq}
use Rattle.std.specs.List.{list_all, starts_with}
use Rattle.vlog_words.specs.Names.{begins_with_name, continues_name}
use Rattle.vlog_words.specs.Words.{word_of}

-- a letter or `_`, and then letters, digits, `_` and `$`
unfoldable pub is_spelled : List ℕ → Bool
is_spelled text = begins_with_name text && list_all continues_name text

-- an identifier that a design may use: it is no reserved word, and doesn't begin with `cov$`, which names of the tool's own do
unfoldable pub is_identifier : List ℕ → Bool
is_identifier text = is_spelled text && not (is_some (word_of text)) && not (starts_with nat_eq text (codes "cov$"))
