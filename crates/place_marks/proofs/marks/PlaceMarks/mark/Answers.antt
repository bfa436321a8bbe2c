use Rattle.std.proofs.Common.{◌≡◌, ◌∙◌, sym, ap, subst, ℕ, ◌*◌, ◌/◌, ◌%◌, ◌^◌, ◌<◌, ◌==◌, ◌||◌, List, length, bit_or, arith}
use Rattle.std.specs.Prelude.{slice_set}
use Rattle.std.proofs.lemmas.List.{get_or_default}
use Rattle.place_marks.specs.Marked.{is_marked}
use Rattle.place_marks.proofs.Words.{one_more}
use Rattle.place_marks.proofs.marks.PlaceMarks.mark.Goals as goal

pub returns-clause-marks : goal.returns-clause-marks
returns-clause-marks c k =
    let words = c.self.inside.words.items in
    let place = c.args.place in
    let old = c.index_mut.result.now in
    let within : place < 64 * length words = subst (λ (marks : List ℕ). place < 64 * length marks) (sym c.self.view_is) c.requires in
    let is = c.index_mut.ensures.value ∙ get_or_default words (place / 64) old 0 (omega (arith, within)) in
    subst (λ (marks : List ℕ). is_marked (slice_set words (place / 64) (bit_or old (1 * 2 ^ (place % 64) % 2 ^ 64))) k ≡ (place == k || is_marked marks k))
    c.self.view_is (one_more words place old k within is)
