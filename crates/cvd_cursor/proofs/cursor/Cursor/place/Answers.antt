use Rattle.std.proofs.Common.{◌≡◌, ◌++◌, sym, ap, ◌∙◌, arith}
use Rattle.cvd_text.specs.Pieces.{pieces_of}
use Rattle.cvd_cursor.specs.Places.{Reading, pieces_left}
use Rattle.cvd_text.specs.Fault.{line_start}
use Rattle.cvd_cursor.proofs.Starts.{Ahead, ahead_word, ahead_feed, starts_none, starts_some}
use Rattle.cvd_cursor.proofs.cursor.Cursor.place.Goals as goal
use Rattle.cvd_cursor.proofs.cursor.Cursor.place.Goals.{then-self, else-self}

pub returns-in-Some : goal.returns-in-Some
returns-in-Some c = λ given e.
    let text = c.self.inside.text.now in
    let here = ap (λ (r : Reading). r.text) c.self.view_is in
    let rest = ap (λ (r : Reading). r.rest) c.self.view_is in
    let split : pieces_of text ≡ given ++ pieces_left c.self.inside.at_feed c.self.inside.rest.now = ap pieces_of here ∙ e ∙ ap (λ l. given ++ l) (sym rest) in
    let ahead : Ahead text given c.if-self.before = elim c.if-self.branch [
      | then-self w ↦ ahead_feed text c.self.inside.rest.now c.self.inside.behind c.self.inside.at_feed c.self.invariant given _ w.if-self.true w.before-is
          split
      | else-self w ↦ ahead_word text c.self.inside.rest.now c.self.inside.behind c.self.inside.at_feed c.self.invariant given _ w.if-self.false w.before-is
          split
    ] in
    let found = c.in-Some.ensures in
    starts_some text given c.if-self.before c.in-Some.feed ahead found.0.high found.1 found.0.after ∙ ap (λ t. line_start t given) here

pub returns-in-None : goal.returns-in-None
returns-in-None c = λ given e.
    let text = c.self.inside.text.now in
    let here = ap (λ (r : Reading). r.text) c.self.view_is in
    let rest = ap (λ (r : Reading). r.rest) c.self.view_is in
    let split : pieces_of text ≡ given ++ pieces_left c.self.inside.at_feed c.self.inside.rest.now = ap pieces_of here ∙ e ∙ ap (λ l. given ++ l) (sym rest) in
    let ahead : Ahead text given c.if-self.before = elim c.if-self.branch [
      | then-self w ↦ ahead_feed text c.self.inside.rest.now c.self.inside.behind c.self.inside.at_feed c.self.invariant given _ w.if-self.true w.before-is
          split
      | else-self w ↦ ahead_word text c.self.inside.rest.now c.self.inside.behind c.self.inside.at_feed c.self.invariant given _ w.if-self.false w.before-is
          split
    ] in
    let none = c.in-None.ensures in
    starts_none text given c.if-self.before ahead (λ k small. none k (omega arith) small) ∙ ap (λ t. line_start t given) here
