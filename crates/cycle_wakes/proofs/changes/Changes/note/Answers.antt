use Rattle.std.proofs.Common.{◌≡◌, ◌∙◌, sym, ap, subst, refl, ℕ, ◌*◌, ◌<◌, ◌==◌, ◌||◌, length, List, slice_index_or, arith}
use Rattle.std.specs.Prelude.{All, IsTrue}
use Rattle.std.proofs.lemmas.Bool.{eq-eqb}
use Rattle.std.proofs.lemmas.List.{get_or_default}
use Rattle.place_marks.specs.Marked.{is_marked}
use Rattle.cycle_wakes.specs.Changes.{Changes, KeepsMarks}
use Rattle.cycle_wakes.specs.Wakes.{readers_of}
use Rattle.cycle_wakes.proofs.Noting.{right_true}
use Rattle.cycle_wakes.proofs.changes.Changes.note.Goals as goal

pub mark-requires : goal.mark-requires
mark-requires c = omega (arith, c.requires.var, c.requires.room.vars, ap (λ (x : Changes). length x.vars) c.self.view_is)

pub mark_each-requires : goal.mark_each-requires
mark_each-requires c =
    subst (λ ps. All (λ k. k < 64 * length c.self.inside.places) ps) (sym c.readers_of.ensures)
    (subst (λ (x : Changes). All (λ k. k < 64 * length x.places) (readers_of c.args.wakes.now c.args.var)) (sym c.self.view_is)
    (c.requires.room.places c.args.var))

pub returns-clause-keeps : goal.returns-clause-keeps
returns-clause-keeps c =
    subst (λ (old : Changes). KeepsMarks old (record { places = c.mark_each.new.marks; vars = c.mark.new.self })) c.self.view_is
    (record {
      room_places = c.mark_each.ensures.room;
      room_vars = c.mark.ensures.room;
      places = c.mark_each.ensures.kept;
      vars = λ v h. c.mark.ensures.marks v ∙ right_true (c.args.var == v) (is_marked c.self.inside.vars v) h;
    })

pub returns-clause-noted : goal.returns-clause-noted
returns-clause-noted c =
    let marks = c.mark_each.new.marks in
    record {
      marked = c.mark.ensures.marks c.args.var ∙ ap (λ x. x || is_marked c.self.inside.vars c.args.var) (eq-eqb c.args.var c.args.var refl);
      woken = subst (All (λ k. IsTrue (is_marked marks k))) c.readers_of.ensures
          (λ k d lt. subst (λ p. IsTrue (is_marked marks p)) (get_or_default c.readers_of.result.now k 0 d lt) (c.mark_each.ensures.there k lt));
    }
