-- Files that stand one after the other in a log of bytes.
use Rattle.std.specs.Prelude.{ℕ, ◌&&◌, Bool, nat_le, List, [], ◌∷◌, slice_range}
use Rattle.std.specs.List.{list_all}
use Rattle.cov_port.specs.declared.span.Span.{Span}

abbrev pub name_in : List ℕ → Span → List ℕ
name_in log span = slice_range log span.name span.text

abbrev pub text_in : List ℕ → Span → List ℕ
text_in log span = slice_range log span.text span.end

-- the names and texts of the spans, in order
abbrev pub files_in : List ℕ → List Span → List (List ℕ × List ℕ)
files_in log [] = []
files_in log (span ∷ spans) = (name_in log span, text_in log span) ∷ files_in log spans

-- whether the span lies in a log of this length
abbrev pub is_within : ℕ → Span → Bool
is_within len span = nat_le span.name span.text && nat_le span.text span.end && nat_le span.end len

abbrev pub are_within : ℕ → List Span → Bool
are_within len spans = list_all (is_within len) spans
