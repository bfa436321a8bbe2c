-- The tests of events that are asked, and what they find of spans together.
use Rattle.std.proofs.Common.{◌≡◌, refl, ℕ, Bool, false, ◌||◌, List, [], ◌∷◌, ◌++◌}
use Rattle.circuit_run.specs.States.{Bit}
use Rattle.design_meaning.specs.Spans.{Span, is_in}
use Rattle.design_meaning.specs.Reach.{event_reads, event_sets, event_defers}
use Rattle.design_meaning.proofs.ListLaws.{any_append}
use Rattle.flow_uses.specs.Walks.{IsAdditive, sets_bit, defers_bit}

pub reads_add : (b : Bit) → IsAdditive (event_reads b)
reads_add b = record { none = refl; both = λ xs ys. any_append (is_in b) xs ys }

pub sets_add : (v : ℕ) → IsAdditive (event_sets v)
sets_add v = record { none = refl; both = λ xs ys. refl }

pub defers_add : (v : ℕ) → IsAdditive (event_defers v)
defers_add v = record { none = refl; both = λ xs ys. refl }

pub sets_bit_add : (b : Bit) → IsAdditive (sets_bit b)
sets_bit_add b = record { none = refl; both = λ xs ys. refl }

pub defers_bit_add : (b : Bit) → IsAdditive (defers_bit b)
defers_bit_add b = record { none = refl; both = λ xs ys. refl }
