-- The first words of steps.
use Rattle.std.proofs.Common.{◌≡◌, ℕ, false, List, [], ◌∷◌, Some, None, codes, refl, sym, ap}
use Rattle.std.specs.Str.{bytes_eq}
use Rattle.cvd_text.specs.Pieces.{Piece, a_word, feed}
use Rattle.cvd_cursor.specs.Places.{first_word}
use Rattle.cvd_cursor.proofs.Single.{word_first}
use Rattle.cvd_nodes.specs.Heads.{look_up}
use Rattle.cvd_step_laws.specs.StepMarks.{StepHead, step_word, a_set, a_later, an_if, a_case, a_show, a_finish, a_stop, a_count}
use Rattle.cvd_steps.specs.Words.{step_table, begins_with_end}

pub word_again : (h : StepHead) → look_up step_table (step_word h) ≡ Some h
word_again a_set = refl
word_again a_later = refl
word_again an_if = refl
word_again a_case = refl
word_again a_show = refl
word_again a_finish = refl
word_again a_stop = refl
word_again a_count = refl

-- whether the next word is `end`
pub next_is : (ps : List Piece) (w : List ℕ) → first_word ps ≡ Some w → bytes_eq w (codes "end") ≡ begins_with_end ps
next_is ps w e = sym (ap begins_with_end (word_first ps w e))

pub no_next : (ps : List Piece) → first_word ps ≡ None → false ≡ begins_with_end ps
no_next [] e = refl
no_next (a_word w ∷ ps) e = absurd (cc)
no_next (feed ∷ ps) e = refl
