-- Lines that add nothing: they stand where their conditions hold, and leave what is added up as it is.
use Rattle.std.proofs.Common.{◌≡◌, Bool, true, false, List, [], ◌∷◌, ◌++◌, map, refl, sym, ◌∙◌, ap, append_assoc}
use Rattle.std.specs.Prelude.{◌&&◌}
use Rattle.cvd_text.specs.Lines.{Load, Line, no_load, added, is_within, stands}
use Rattle.cvd_text.specs.Pieces.{token, line_end, marks_of}
use Rattle.cvd_text.specs.Sections.{lines_behind}
use Rattle.cvd_step_laws.specs.LineMarks.{load_behind}
use Rattle.cvd_step_laws.proofs.LineMarks.{added_nothing}
use Rattle.cvd_sections.specs.Alone.{marks_alone}

abbrev pub AddNothing : List Line → Type 0
AddNothing [] = Unit {0}
AddNothing (l ∷ ls) = (l.load ≡ no_load) × AddNothing ls

and_true : (b : Bool) → (b && true) ≡ b
and_true true = refl
and_true false = refl

added_none : (load : Load) (l : Line) → l.load ≡ no_load → added load l.load ≡ load
added_none load l h = ap (added load) h ∙ added_nothing load

pub load_stays : (load : Load) (ls : List Line) → AddNothing ls → load_behind load ls ≡ load
load_stays load [] h = refl
load_stays load (l ∷ ls) h = ap (λ b. load_behind b ls) (added_none load l h.0) ∙ load_stays load ls h.1

pub marks_stay : (load : Load) → is_within load ≡ true → (ls : List Line) → AddNothing ls → marks_of load ls ≡ marks_alone ls
marks_stay load within [] h = refl
marks_stay load within (l ∷ ls) h =
    let front = map token l.tokens in
    let same = added_none load l h.0 in
    let flag : stands load l ≡ l.holds = ap (λ b. l.holds && is_within b) same ∙ ap (λ b. l.holds && b) within ∙ and_true l.holds in
    ap (λ s. front ++ line_end s ∷ marks_of (added load l.load) ls) flag
    ∙ ap (λ b. front ++ line_end l.holds ∷ marks_of b ls) same
    ∙ ap (λ z. front ++ line_end l.holds ∷ z) (marks_stay load within ls h.1)
    ∙ sym (append_assoc front (line_end l.holds ∷ []) (marks_alone ls))

pub behind_add_nothing : {A : Type 0} (f : List A → A → Line) → ((before : List A) (x : A) → (f before x).load ≡ no_load) → (before xs : List A)
    → AddNothing (lines_behind f before xs)
behind_add_nothing f none before [] = tt
behind_add_nothing f none before (x ∷ xs) = (none before x, behind_add_nothing f none (before ++ x ∷ []) xs)
