use Rattle.std.proofs.Common.{◌≡◌, ℕ, suc, ◌+◌, ◌<◌, ◌≤◌, true, length, take, drop, List, [], ◌∷◌, ◌++◌, None, Some, sym, ap, ◌∙◌, subst, refl, arith}
use Rattle.std.proofs.Common.{length-drop}
use Rattle.std.specs.Prelude.{slice_index}
use Rattle.std.proofs.lemmas.Bool.{eqb-true}
use Rattle.std.proofs.Math.Seq.{take-suc}
use Rattle.std.proofs.lemmas.List.{get_or-drop}
use Rattle.memchr.specs.Find.{is_byte, IsLastByte}
use Rattle.cvd_text.specs.Pieces.{pieces_of}
use Rattle.cvd_cursor.specs.Places.{is_ended}
use Rattle.cvd_cursor.proofs.Cutting.{none_at_all, ended_front, no_pieces, placed_whole, all_pieces}
use Rattle.cvd_cursor.proofs.cursor.Cursor.new.Goals as goal
use Rattle.cvd_cursor.proofs.cursor.Cursor.new.Goals.{in-Some, in-None}

-- the text is cut behind its last line feed
record Cut (text : List ℕ) (end : ℕ) : Type 0 where
  within : end ≤ length text
  ended : is_ended (take end text) ≡ true
  clear : pieces_of (drop end text) ≡ []

cut_some : (text : List ℕ) (at : ℕ) → IsLastByte (is_byte 10) text (Some at) → Cut text (at + 1)
cut_some text at h =
    let e : at + 1 ≡ suc at = omega arith in
    record {
      within = let high = h.0.high in omega arith;
      ended = ap (λ k. is_ended (take k text)) e ∙ ap is_ended (front_at text at h.0.high)
          ∙ ap (λ b. is_ended (take at text ++ b ∷ [])) (eqb-true (slice_index text at) 10 h.1)
          ∙ ended_front (take at text);
      clear = no_pieces (drop (at + 1) text) (none_at_all (is_byte 10) (drop (at + 1) text) (λ k small p. h.0.after (at + 1 + k) (omega arith)
          (omega (arith, length-drop (at + 1) text)) (ap (is_byte 10) (sym (get_or-drop (at + 1) text k 0)) ∙ p)));
    }
  where
    front_at : (text : List ℕ) (at : ℕ) → at < length text → take (suc at) text ≡ take at text ++ slice_index text at ∷ []
    front_at text at within = take-suc text at 0 within

cut_none : (text : List ℕ) → IsLastByte (is_byte 10) text None → Cut text 0
cut_none text h = record {
  within = omega arith;
  ended = refl;
  clear = no_pieces text (none_at_all (is_byte 10) text (λ k small p. h k (omega arith) small p));
}

cut : (c : goal.After-row_known-1) → Cut c.args.text.now c.match-memrchr.end
cut c = elim c.match-memrchr.branch [
  | in-Some w ↦ subst (Cut c.args.text.now) (sym w.end-is) (cut_some c.args.text.now w.in-Some.at w.in-Some.ensures)
  | in-None w ↦ subst (Cut c.args.text.now) (sym w.end-is) (cut_none c.args.text.now w.in-None.ensures)
]

pub invariant_of-result : goal.invariant_of-result
invariant_of-result c = let k = cut c in placed_whole c.args.text.now c.match-memrchr.end k.within k.ended k.clear

pub returns-clause-rest : goal.returns-clause-rest
returns-clause-rest c = all_pieces c.args.text.now c.match-memrchr.end (cut c).clear
