-- Pieces without blanks stay so behind what is read.
use Rattle.std.proofs.Common.{List, sym, ◌∙◌, ap}
use Rattle.std.specs.List.{list_all}
use Rattle.cvd_text.specs.Pieces.{Mark}
use Rattle.cvd_cursor.specs.Places.{Reading}
use Rattle.cvd_cursor.specs.Reads.{Takes}
use Rattle.cvd_sections.specs.Keys.{AreCut, is_cut}
use Rattle.cvd_sections.proofs.KeyWords.{cut_behind}

pub cut_kept : {A : Type 0} (spelled : A → List Mark) (old new : Reading) (a : A) → Takes spelled old new a → AreCut old.rest → AreCut new.rest
cut_kept spelled old new a h cut = cut_behind h.read.given new.rest (sym (ap (list_all is_cut) h.read.split) ∙ cut)
