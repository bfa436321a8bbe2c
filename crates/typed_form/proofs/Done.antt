-- When steps have done what a statement does.
use Rattle.std.proofs.Common.{◌≡◌, ◌∙◌, sym, ap, refl, subst, ℕ, Bool, true, false, ◌==◌, if◌then◌else◌, List, [], ◌∷◌, ◌++◌, map, get_or, ℤ, pos, negsuc}
use Rattle.std.proofs.Common.{append-nil}
use Rattle.std.proofs.lemmas.List.{map-append}
use Rattle.std.proofs.Math.Seq.{map-set_same}
use Rattle.std.proofs.Math.ListN.{get_or-map}
use Rattle.bit_values.specs.Values.{flag}
use Rattle.elab_types.specs.declared.flat_source.FlatVar.{FlatVar}
use Rattle.design_tree.specs.declared.step.Step.{Step}
use Rattle.design_tree.specs.declared.step.Step.TheVariants as v
use Rattle.circuit_run.specs.States.{State, VarWords, held, no_words}
use Rattle.circuit_run.specs.Writes.{Part, word_written, written, all_written}
use Rattle.circuit_run.specs.Outcomes.{Outcome, Act, unchanged, joined, in_turn, notes}
use Rattle.circuit_run.specs.Agreement.{Agrees}
use Rattle.circuit_run.proofs.Agreements.{Same, agrees_same, agrees_joined, agrees_unchanged, same_alone, same_in_turn}
use Rattle.source_meaning.specs.Events.{Event}
use Rattle.design_meaning.specs.Steps.{does}
use Rattle.typed_form.specs.TypedLaws.{HasWidths}
use Rattle.typed_form.proofs.Doings.{of-count}

-- ---- widths stay

abbrev pub widths_of : State → List ℕ
widths_of s = map (λ h. h.width) s

word_width : (h : VarWords) (z : ℤ) (p : Part) → (word_written h z p).width ≡ h.width
word_width h (pos n) p = refl
word_width h (negsuc n) p = refl

pub written_widths : (s : State) (ps : List Part) → widths_of (all_written s ps) ≡ widths_of s
written_widths s [] = refl
written_widths s (p ∷ ps) = written_widths (written s p) ps
    ∙ map-set_same (λ h. h.width) s p.var (word_written (held s p.var) p.word p) no_words (word_width (held s p.var) p.word p)

width_at : (s : State) (k : ℕ) → get_or (widths_of s) k 1 ≡ (held s k).width
width_at s k = get_or-map (λ h. h.width) s k no_words

pub widths_follow : (vars : List FlatVar) (s s' : State) → HasWidths vars s → widths_of s' ≡ widths_of s → HasWidths vars s'
widths_follow vars s s' widths p k v q = sym (width_at s' k) ∙ ap (λ ws. get_or ws k 1) p ∙ width_at s k ∙ widths k v q

module _ (marks : Event → List ℕ) where
  -- From a state the two runs agree, and widths stay.
  pub record Done (s : State) (a : Outcome Event) (b : Outcome ℕ) : Type 0 where
    pub agrees : Agrees marks a b
    pub widths : widths_of a.state ≡ widths_of s

  pub done_nothing : (s : State) → Done s (unchanged s) (unchanged s)
  done_nothing s = record { agrees = agrees_unchanged marks s; widths = refl }

  -- one after the other
  pub done_then : (first second : Act Event) (xs ys : List (Act ℕ)) (s : State)
      → Done s (first s) (in_turn xs s) → Done (first s).state (second (first s).state) (in_turn ys (first s).state)
      → Done s (joined (first s) (second (first s).state)) (in_turn (xs ++ ys) s)
  done_then first second xs ys s d e = record {
    agrees =
        agrees_same
        (agrees_joined d.agrees (subst (λ z. Agrees marks (second (first s).state) (in_turn ys z)) (sym d.agrees.state) e.agrees))
        (same_in_turn xs ys s);
    widths = e.widths ∙ d.widths;
  }

  -- a step alone
  pub done_alone : (s : State) (a : Outcome Event) (f : Act ℕ) → Done s a (f s) → Done s a (in_turn (f ∷ []) s)
  done_alone s a f d = record { agrees = agrees_same d.agrees (same_alone (f s) (f s).state refl); widths = d.widths }

  -- ---- counts before an arm

  -- counts note their counters and do nothing else
  counted : (cs : List ℕ) (ys : List (Act ℕ)) (s : State)
      → Same (record (in_turn ys s) { notes = cs ++ (in_turn ys s).notes }) (in_turn (map does (map v.Count cs) ++ ys) s)
  counted [] ys s = record { state = refl; updates = refl; text = refl; notes = refl; finished = refl; stopped = refl }
  counted (c ∷ cs) ys s =
      let rest = counted cs ys s in
      subst (λ f. Same (record (in_turn ys s) { notes = (c ∷ cs) ++ (in_turn ys s).notes }) (joined (f s) (in_turn (map does (map v.Count cs)
      ++ ys) (f s).state))) (sym (of-count c))
      (record {
        state = rest.state;
        updates = rest.updates;
        text = rest.text;
        notes = ap (λ x. c ∷ x) rest.notes;
        finished = rest.finished;
        stopped =
            rest.stopped;
      })

  pub done_counted : (e : Event) (a : Outcome Event) (ys : List (Act ℕ)) (s : State) → Done s a (in_turn ys s)
      → Done s (joined (notes e s) a) (in_turn (map does (map v.Count (marks e)) ++ ys) s)
  done_counted e a ys s d = record {
    agrees = agrees_same (record {
      state = d.agrees.state;
      updates = d.agrees.updates;
      text = d.agrees.text;
      notes = ap (λ x. marks e ++ x) d.agrees.notes;
      finished = d.agrees.finished;
      stopped = d.agrees.stopped;
    }) (counted (marks e) ys s);
    widths = d.widths;
  }

  -- the same where the arm's steps stand in one list with the counts
  pub done_arm : (e : Event) (a : Outcome Event) (ys : List Step) (s : State) → Done s a (in_turn (map does ys) s)
      → Done s (joined (notes e s) a) (in_turn (map does (map v.Count (marks e) ++ ys)) s)
  done_arm e a ys s d =
      subst (λ acts. Done s (joined (notes e s) a) (in_turn acts s)) (sym (map-append does (map v.Count (marks e)) ys)) (done_counted e a (map does ys) s d)

  -- an arm that has counts alone
  pub done_counts : (e : Event) (s : State) → Done s (joined (notes e s) (unchanged s)) (in_turn (map does (map v.Count (marks e))) s)
  done_counts e s =
      subst (λ acts. Done s (joined (notes e s) (unchanged s)) (in_turn acts s)) (append-nil (map does (map v.Count (marks e))))
      (done_counted e (unchanged s) [] s (done_nothing s))

  -- ---- a choice by a test

  pub done_if : (c : Bool) (n : ℕ) (s : State) (a b : Outcome Event) (xs ys : List (Act ℕ)) → n ≡ flag c
      → Done s a (in_turn xs s) → Done s b (in_turn ys s) → Done s (if c then a else b) (in_turn (if n == 0 then ys else xs) s)
  done_if true n s a b xs ys p d e = subst (λ n. Done s a (in_turn (if n == 0 then ys else xs) s)) (sym p) d
  done_if false n s a b xs ys p d e = subst (λ n. Done s b (in_turn (if n == 0 then ys else xs) s)) (sym p) e
