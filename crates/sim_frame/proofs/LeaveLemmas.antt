-- What a `sim` leaves once it may have printed.
use Rattle.std.proofs.Common.{◌≡◌, ℕ, List, [], ◌∷◌, ◌++◌, true, false, refl, sym, subst, inr, Option, None, Some}
use Rattle.std.specs.Prelude.{IfSome}
use Rattle.cov_port.specs.Causes.{Both, Rose}
use Rattle.cov_port.specs.Files.{Names, ReadsRose, Stores, StoresPart, StoresRose}
use Rattle.cov_port.specs.Sinks.{PutsAll, PutsPart}
use Rattle.stim_lines.specs.Reading.{is_of_text}
use Rattle.stim_lines.specs.declared.fault.StimFault.{StimFault}
use Rattle.stim_lines.specs.declared.fault.StimFault.TheVariants as fault
use Rattle.command_ending.specs.Answer.{Answer, done, refused_behind}
use Rattle.command_ending.specs.ErrorLines.{output_line, read_line, stopped_line, store_line}
use Rattle.command_ending.specs.Leaves.{HasPutPart, HasStoredPart, Leaves}
use Rattle.command_ending.specs.Leaves as leaves
use Rattle.command_ending.specs.Promise.{IsLineOf, comes_first}
use Rattle.command_ending.specs.World.{IsUnharmed, StoresAll, StoresFront, World}
use Rattle.command_ending.specs.declared.status.Status.{Status}
use Rattle.command_ending.specs.declared.status.Status.TheVariants.{Done, Fault, Stopped}
use Rattle.command_ending.proofs.PutLemmas.{if_told, stores_none}
use Rattle.sim_output.proofs.KeepLemmas.{part_first}
use Rattle.sim_answer.specs.Refusals.{stimulus_refusal}
use Rattle.sim_answer.specs.SimAnswer.{IsSimAnswer, stopped_with}
use Rattle.sim_answer.specs.SimPromise.{SimRefuses, by_stop, in_stimulus, sim_promise}
use Rattle.sim_answer.specs.Simulation.{Simulation}

module _ (asked : Simulation) (old new : World) where
  -- ---- a stimulus that is refused behind output

  refused : (out : List ℕ) (status : Status) (line : List ℕ) → (status ≡ Fault → ⊥) → comes_first true status ≡ false → IsLineOf (SimRefuses asked) status line
      → IfSome old.held (λ held. IsSimAnswer held asked (refused_behind out status line)) → new.held ≡ old.held → IsUnharmed old new
      → Both (PutsAll out) old.written new.written → Leaves (sim_promise asked) line old new status
  refused out status line other late may is same unharmed put = record {
    answer = λ no_fault no_want. if_told old.held _ _ (λ names one.
        (refused_behind out status line, one, record { status = refl; stores = stores_none old.held new.held same; output = put; line = refl })) is;
    unharmed = λ so. unharmed;
    fault = λ so. absurd (other so);
    untouched = λ first. absurd (cc);
    line = may;
  }

  pub refused_leaves : (out : List ℕ) (flaw : StimFault) → is_of_text flaw ≡ true
      → IfSome old.held (λ held. IsSimAnswer held asked (stimulus_refusal out asked.stimulus flaw)) → new.held ≡ old.held → IsUnharmed old new
      → Both (PutsAll out) old.written new.written
      → Leaves (sim_promise asked) (stimulus_refusal [] asked.stimulus flaw).line old new (stimulus_refusal [] asked.stimulus flaw).status
  refused_leaves out (fault.BadHeader n) text = refused out _ _ (λ is. absurd (cc)) refl (in_stimulus (fault.BadHeader n) text)
  refused_leaves out (fault.UnknownInput n) text = refused out _ _ (λ is. absurd (cc)) refl (in_stimulus (fault.UnknownInput n) text)
  refused_leaves out (fault.MissingInput n) text = refused out _ _ (λ is. absurd (cc)) refl (in_stimulus (fault.MissingInput n) text)
  refused_leaves out (fault.RepeatedInput n) text = refused out _ _ (λ is. absurd (cc)) refl (in_stimulus (fault.RepeatedInput n) text)
  refused_leaves out (fault.BadValue n) text = refused out _ _ (λ is. absurd (cc)) refl (in_stimulus (fault.BadValue n) text)
  refused_leaves out (fault.TooWide n) text = refused out _ _ (λ is. absurd (cc)) refl (in_stimulus (fault.TooWide n) text)
  refused_leaves out (fault.WrongCount n) text = refused out _ _ (λ is. absurd (cc)) refl (in_stimulus (fault.WrongCount n) text)
  refused_leaves out (fault.BadRepeat n) text = refused out _ _ (λ is. absurd (cc)) refl (in_stimulus (fault.BadRepeat n) text)
  refused_leaves out (fault.TooManyCycles n) text = refused out _ _ (λ is. absurd (cc)) refl (in_stimulus (fault.TooManyCycles n) text)
  refused_leaves out (fault.LineTooLong n) text = refused out _ _ (λ is. absurd (cc)) refl (in_stimulus (fault.LineTooLong n) text)
  refused_leaves out (fault.Limit name) text = refused out _ _ (λ is. absurd (cc)) refl (in_stimulus (fault.Limit name) text)
  refused_leaves out fault.Failed text = absurd (cc)
  refused_leaves out fault.NoMemory text = absurd (cc)

  -- ---- calls that fail

  -- what was put is a part of this text, which is the front of what an answer prints
  pub has_part : (text : List ℕ) → new.held ≡ old.held
      → IfSome old.held (λ held. (answer : Answer) × IsSimAnswer held asked answer × ((more : List ℕ) × (answer.out ≡ text ++ more)))
      → Both (PutsPart text) old.written new.written → HasPutPart (sim_promise asked) old new
  has_part text same is part = record {
    held = same;
    out = if_told old.held _ _ (λ names one. (
      one.0,
      one.1,
      subst (λ (out : List ℕ). Both (PutsPart out) old.written new.written) (sym one.2.1) (part_first text one.2.0 old.written new.written part),
    )) is;
  }

  pub read_failed_leaves : ReadsRose old.faults new.faults → new.put_faults ≡ old.put_faults → HasPutPart (sim_promise asked) old new
      → Leaves (sim_promise asked) (read_line asked.stimulus) old new Fault
  read_failed_leaves rose quiet part = record {
    answer = λ other. absurd (other refl);
    unharmed = λ other. absurd (other refl);
    fault = λ so. leaves.read_failed asked.stimulus (inr refl) refl rose quiet (inr part);
    untouched = λ first. absurd (cc);
    line = tt;
  }

  pub put_failed_leaves : Rose old.put_faults new.put_faults → new.faults ≡ old.faults → HasPutPart (sim_promise asked) old new
      → Leaves (sim_promise asked) output_line old new Fault
  put_failed_leaves rose quiet part = record {
    answer = λ other. absurd (other refl);
    unharmed = λ other. absurd (other refl);
    fault = λ so. leaves.put_failed refl rose quiet part;
    untouched = λ first. absurd (cc);
    line = tt;
  }

  -- ---- a run that is at its end

  all_stored : (name bytes : List ℕ) (told now : Option Names) → Both (Stores name bytes) told now → Both (StoresAll ((name, bytes) ∷ [])) told now
  all_stored name bytes None None stored = tt
  all_stored name bytes None (Some n) stored = stored
  all_stored name bytes (Some o) None stored = stored
  all_stored name bytes (Some o) (Some n) stored = stored

  front_stored : (name bytes : List ℕ) (told now : Option Names) → Both (StoresPart name bytes) told now
      → Both (StoresFront name ((name, bytes) ∷ [])) told now
  front_stored name bytes None None part = tt
  front_stored name bytes None (Some n) part = part
  front_stored name bytes (Some o) None part = part
  front_stored name bytes (Some o) (Some n) part = record { made = []; bytes = bytes; left = []; split = refl; part = part }

  pub done_leaves : (out bytes : List ℕ) → IfSome old.held (λ held. IsSimAnswer held asked (done out ((asked.data_name, bytes) ∷ [])))
      → IsUnharmed old new → Both (PutsAll out) old.written new.written → Both (Stores asked.data_name bytes) old.held new.held
      → Leaves (sim_promise asked) [] old new Done
  done_leaves out bytes is unharmed put stored = record {
    answer = λ no_fault no_want. if_told old.held _ _ (λ names one. (
      done out ((asked.data_name, bytes) ∷ []),
      one,
      record { status = refl; stores = all_stored asked.data_name bytes old.held new.held stored; output = put; line = refl },
    )) is;
    unharmed = λ so. unharmed;
    fault = λ so. absurd (cc);
    untouched = λ first. absurd (cc);
    line = refl;
  }

  pub stopped_leaves : (out bytes : List ℕ) → IfSome old.held (λ held. IsSimAnswer held asked (stopped_with out ((asked.data_name, bytes) ∷ [])))
      → IsUnharmed old new → Both (PutsAll out) old.written new.written → Both (Stores asked.data_name bytes) old.held new.held
      → Leaves (sim_promise asked) stopped_line old new Stopped
  stopped_leaves out bytes is unharmed put stored = record {
    answer = λ no_fault no_want. if_told old.held _ _ (λ names one. (
      stopped_with out ((asked.data_name, bytes) ∷ []),
      one,
      record { status = refl; stores = all_stored asked.data_name bytes old.held new.held stored; output = put; line = refl },
    )) is;
    unharmed = λ so. unharmed;
    fault = λ so. absurd (cc);
    untouched = λ first. absurd (cc);
    line = by_stop;
  }

  pub store_failed_leaves : (answer : Answer) (bytes : List ℕ) → answer.stores ≡ (asked.data_name, bytes) ∷ []
      → IfSome old.held (λ held. IsSimAnswer held asked answer) → StoresRose old.faults new.faults → new.put_faults ≡ old.put_faults
      → Both (PutsAll answer.out) old.written new.written → Both (StoresPart asked.data_name bytes) old.held new.held
      → Leaves (sim_promise asked) (store_line asked.data_name) old new Fault
  store_failed_leaves answer bytes stores is rose quiet put part = record {
    answer = λ other. absurd (other refl);
    unharmed = λ other. absurd (other refl);
    fault = λ so. leaves.store_failed asked.data_name refl refl rose quiet (record {
      answer = if_told old.held _ _ (λ names one. (
        answer,
        one,
        put,
        subst (λ (l : List (List ℕ × List ℕ)). Both (StoresFront asked.data_name l) old.held new.held) (sym stores)
            (front_stored asked.data_name bytes old.held new.held part),
      )) is;
    });
    untouched = λ first. absurd (cc);
    line = tt;
  }
