-- A start and rows behind it are a run.
use Rattle.std.proofs.Common.{◌≡◌, sym, subst, refl, ℕ, List, [], ◌∷◌, ◌++◌, map, Option, None, Some, append-nil, append_assoc}
use Rattle.std.specs.Prelude.{All, IfSome}
use Rattle.std.specs.Option.{option_map}
use Rattle.std.proofs.lemmas.List.Elements.{All-tail}
use Rattle.cov_port.specs.Causes.{Both}
use Rattle.cov_port.specs.Sinks.{FrontPut, PutsPart}
use Rattle.circuit_run.specs.Ends.{End, goes, finished, stopped}
use Rattle.design_tree.specs.declared.design.Design.{Design}
use Rattle.design_tree.specs.declared.instrumented.Instrumented.{Instrumented}
use Rattle.design_meaning.specs.Cycles.{Between, IsStart}
use Rattle.design_meaning.specs.FlowFaults.{Flows}
use Rattle.design_meaning.specs.MachineLaws.{AreCycles, CyclesAreRuns, StartsAreRuns}
use Rattle.design_meaning.specs.Orders.{IsOrder}
use Rattle.design_meaning.specs.Runs.{IsRun}
use Rattle.design_meaning.specs.SettledLaws.{IsRow}
use Rattle.design_meaning.specs.States.{IsStateOf}
use Rattle.design_meaning.specs.Valid.{IsValidDesign}
use Rattle.stim_lines.specs.Fields.{Said}
use Rattle.stim_lines.specs.Header.{Input, inputs_of}
use Rattle.stim_lines.specs.Layouts.{input_widths}
use Rattle.stim_lines.specs.declared.row.StimText.{StimText}
use Rattle.stimulus.specs.Lines.{heard_left}
use Rattle.stimulus.specs.Streaming.{ReaderState, rows_behind, rows_left}
use Rattle.cycle_run.specs.Ends.{end_seen}
use Rattle.cycle_run.specs.declared.end.CycleEnd.{CycleEnd}
use Rattle.cycle_run.specs.declared.end.CycleEnd.TheVariants as cycle_end
use Rattle.sim_answer.specs.SimAnswer.{values_of}
use Rattle.sim_answer.specs.Underway.{PrintsOn, RunsGoOn}
use Rattle.sim_answer.proofs.RowLemmas.{laid_rows_fit}
use Rattle.sim_answer.proofs.RunLemmas.{starts_go_on}
use Rattle.sim_output.proofs.KeepLemmas.{keeps_behind, part_behind}
use Rattle.sim_run.specs.Running.{HasStarted, HasStartedPart}
use Rattle.sim_run.specs.Ends.{ComeFirst, ComeTo, HasBegun, HasEnded, IfEnded, IfFailed, IfRefused, IsWhole, RowsEndIn}
use Rattle.sim_run.specs.declared.rows_end.RowsEnd.{RowsEnd}
use Rattle.sim_run.specs.declared.rows_end.RowsEnd.TheVariants as rows_end
use Rattle.sim_run.proofs.CycleLemmas.{end_flags, extended}
use Rattle.sim_run.proofs.RowLemmas.{if_rows}

-- ---- rows that are told

-- those that are left of a stimulus are rows of its design
pub told_fit : (d : Design) (reader : ReaderState) (rest : Option (List ℕ)) → reader.fault ≡ None
    → input_widths reader.layout ≡ map (λ (i : Input). i.width) (inputs_of d) → IfSome (rows_left reader rest) (λ stim. All (IsRow d) (values_of stim.rows))
told_fit d reader rest none widths =
    rw none (by (heard_left reader.lines rest))
  where
    by : (o : Option (List Said)) → IfSome (option_map (rows_behind None reader.layout reader.cycles) o) (λ stim. All (IsRow d) (values_of stim.rows))
    by None = tt
    by (Some said) = laid_rows_fit d reader.layout reader.cycles said widths

all_left : (d : Design) (ran left : List (List ℕ)) → All (IsRow d) (ran ++ left) → All (IsRow d) left
all_left d [] left all = all
all_left d (row ∷ ran) left all = all_left d ran left (All-tail (IsRow d) row (ran ++ left) all)

front_is_part : (piece rest : List ℕ) (old new : Option (List ℕ)) → Both (FrontPut piece rest) old new → Both (PutsPart piece) old new
front_is_part piece rest None None put = tt
front_is_part piece rest None (Some n) put = put
front_is_part piece rest (Some o) None put = put
front_is_part piece rest (Some o) (Some n) put = (rest, put)

-- what a run goes on by
pub record GoesOn (x : Instrumented) (order : List ℕ) : Type 0 where
  pub starts : StartsAreRuns
  pub cycles : CyclesAreRuns
  pub go : RunsGoOn
  pub valid : IsValidDesign x.design
  pub flows : Flows x.design
  pub is_order : IsOrder x.design order

-- a run that was printed whole is printed on by nothing
run_prints : (x : Instrumented) (rows : List (List ℕ)) (text : List ℕ) (end : End) (counts : List ℕ) → IsRun x rows text end counts → PrintsOn x rows text
run_prints x rows text end counts run = record {
  more = [];
  end = end;
  counts = counts;
  run = subst (λ (l : List ℕ). IsRun x rows l end counts) (sym (append-nil text)) run;
}

module _ (x : Instrumented) (order : List ℕ) (on : GoesOn x order) (a : Between) (told : Option StimText) (kept mid : List ℕ)
    (put put_mid : Option (List ℕ)) where
  -- ---- the start alone

  -- it sets a flag
  pub start_ends : (end : CycleEnd) → (end ≡ cycle_end.Goes → ⊥) → HasStarted x a (end_seen end) kept mid put put_mid
      → HasEnded x told (end_seen end) a.counts kept mid put put_mid
  start_ends end other s = record { text = s.text; printed = s.printed; run = each told }
    where
      each : (o : Option StimText) → IfSome o (λ stim. IsRun x (values_of stim.rows) s.text (end_seen end) a.counts)
      each None = tt
      each (Some stim) = on.starts x (values_of stim.rows) a s.text (end_seen end) s.start (end_flags end other)

  start_prints : (rows : List (List ℕ)) (text : List ℕ) (end : End) → IsStateOf x.design a.registers → All (IsRow x.design) rows → IsStart x a text end
      → PrintsOn x rows text
  start_prints rows text goes state fit start =
      on.go x order [] rows a text on.valid on.flows on.is_order state fit (starts_go_on x a text start)
  start_prints rows text finished state fit start = run_prints x rows text finished a.counts (on.starts x rows a text finished start (λ is. absurd cc))
  start_prints rows text stopped state fit start = run_prints x rows text stopped a.counts (on.starts x rows a text stopped start (λ is. absurd cc))

  -- its put fails
  pub start_fails : (end : End) → IsStateOf x.design a.registers → IfSome told (λ stim. All (IsRow x.design) (values_of stim.rows))
      → HasStartedPart x a end kept put put_mid → HasBegun x told kept put put_mid
  start_fails end state fit s = record {
    text = s.text;
    part = s.part;
    run = if_rows told _ _ (λ stim all. start_prints (values_of stim.rows) s.text end state all s.start) fit;
  }

  -- ---- rows behind it

  module _ (s : HasStarted x a goes kept mid put put_mid) (b : Between) (kept_now : List ℕ) (put_now : Option (List ℕ)) where
    printed_behind : (text : List ℕ) → Both (FrontPut (mid ++ text) kept_now) put_mid put_now → Both (FrontPut (kept ++ (s.text ++ text)) kept_now) put put_now
    printed_behind text printed = subst (λ (l : List ℕ). Both (FrontPut l kept_now) put put_now) (append_assoc kept s.text text)
        (keeps_behind (kept ++ s.text) mid text kept_now put put_mid put_now s.printed printed)

    run_behind : (ran : List (List ℕ)) (text : List ℕ) (end : End) → AreCycles x a ran b text end → IsRun x ran (s.text ++ text) end b.counts
    run_behind ran text end cycles = on.cycles x ran a b s.text text end s.start cycles

    -- a run on the cycles up to a flag, or on all
    run_to : (end : CycleEnd) (ran : List (List ℕ)) (text : List ℕ) (stim : StimText) → AreCycles x a ran b text (end_seen end) → ComeTo end ran stim
        → IsRun x (values_of stim.rows) (s.text ++ text) (end_seen end) b.counts
    run_to cycle_end.Goes ran text stim cycles all =
        subst (λ (l : List (List ℕ)). IsRun x l (s.text ++ text) goes b.counts) (sym all.cycles) (run_behind ran text goes cycles)
    run_to cycle_end.Finished ran text stim cycles come =
        subst (λ (l : List (List ℕ)). IsRun x l (s.text ++ text) finished b.counts) (sym come.1)
        (run_behind (ran ++ come.0) text finished (extended x come.0 (λ is. absurd cc) cycles))
    run_to cycle_end.Stopped ran text stim cycles come =
        subst (λ (l : List (List ℕ)). IsRun x l (s.text ++ text) stopped b.counts) (sym come.1)
        (run_behind (ran ++ come.0) text stopped (extended x come.0 (λ is. absurd cc) cycles))

    -- a run on these cycles and more begins with their text
    run_on : (end : End) (ran left : List (List ℕ)) (text : List ℕ) → IsStateOf x.design b.registers → All (IsRow x.design) (ran ++ left)
        → AreCycles x a ran b text end → PrintsOn x (ran ++ left) (s.text ++ text)
    run_on goes ran left text state fit cycles =
        on.go x order ran left b (s.text ++ text) on.valid on.flows on.is_order state (all_left x.design ran left fit)
        (record { first = a; opening = s.text; lines = text; start = s.start; cycles = cycles; prints = refl })
    run_on finished ran left text state fit cycles =
        run_prints x (ran ++ left) (s.text ++ text) finished b.counts
        (run_behind (ran ++ left) text finished (extended x left (λ is. absurd cc) cycles))
    run_on stopped ran left text state fit cycles =
        run_prints x (ran ++ left) (s.text ++ text) stopped b.counts
        (run_behind (ran ++ left) text stopped (extended x left (λ is. absurd cc) cycles))

    begun : (end : End) (ran : List (List ℕ)) (text : List ℕ) → IsStateOf x.design b.registers
        → IfSome told (λ stim. All (IsRow x.design) (values_of stim.rows)) → AreCycles x a ran b text end
        → Both (PutsPart (kept ++ (s.text ++ text))) put put_now → IfSome told (ComeFirst ran) → HasBegun x told kept put put_now
    begun end ran text state fit cycles part come = record { text = s.text ++ text; part = part; run = each told fit come }
      where
        each : (o : Option StimText) → IfSome o (λ stim. All (IsRow x.design) (values_of stim.rows)) → IfSome o (ComeFirst ran)
            → IfSome o (λ stim. PrintsOn x (values_of stim.rows) (s.text ++ text))
        each None all first = tt
        each (Some stim) all first =
            subst (λ (l : List (List ℕ)). PrintsOn x l (s.text ++ text)) (sym first.1)
            (run_on end ran first.0 text state (subst (λ (l : List (List ℕ)). All (IsRow x.design) l) first.1 all) cycles)

    -- ---- by where the rows end

    pub rows_ended : (end : RowsEnd) (last : End) → RowsEndIn end x a b last told mid kept_now put_mid put_now
        → IfEnded end (λ e. HasEnded x told (end_seen e) b.counts kept kept_now put put_now)
    rows_ended (rows_end.Ended end) last e = record {
      text = s.text ++ e.has_run.text;
      printed = printed_behind e.has_run.text e.has_run.printed;
      run = if_rows told _ _ (λ stim come. run_to end e.ran e.has_run.text stim e.has_run.cycles come) e.first;
    }
    rows_ended (rows_end.Refused flaw) last e = tt
    rows_ended rows_end.ReadFailed last e = tt
    rows_ended rows_end.PutFailed last e = tt

    pub rows_refused : (end : RowsEnd) (last : End) → RowsEndIn end x a b last told mid kept_now put_mid put_now
        → IfRefused end (λ flaw. HasEnded x told goes b.counts kept kept_now put put_now)
    rows_refused (rows_end.Ended end) last e = tt
    rows_refused (rows_end.Refused flaw) last e = record {
      text = s.text ++ e.has_run.text;
      printed = printed_behind e.has_run.text e.has_run.printed;
      run = if_rows told _ _ (λ stim all. subst (λ (l : List (List ℕ)). IsRun x l (s.text ++ e.has_run.text) goes b.counts) (sym all.cycles)
          (run_behind e.ran e.has_run.text goes e.has_run.cycles)) e.first;
    }
    rows_refused rows_end.ReadFailed last e = tt
    rows_refused rows_end.PutFailed last e = tt

    pub rows_begun : (end : RowsEnd) (last : End) → IsStateOf x.design b.registers → IfSome told (λ stim. All (IsRow x.design) (values_of stim.rows))
        → RowsEndIn end x a b last told mid kept_now put_mid put_now → IfFailed end (HasBegun x told kept put put_now)
    rows_begun (rows_end.Ended end) last state fit e = tt
    rows_begun (rows_end.Refused flaw) last state fit e = tt
    rows_begun rows_end.ReadFailed last state fit e =
        begun goes e.ran e.has_run.text state fit e.has_run.cycles
        (front_is_part (kept ++ (s.text ++ e.has_run.text)) kept_now put put_now (printed_behind e.has_run.text e.has_run.printed)) e.first
    rows_begun rows_end.PutFailed last state fit e =
        begun last e.ran e.has_run.text state fit e.has_run.cycles
        (subst (λ (l : List ℕ). Both (PutsPart l) put put_now) (append_assoc kept s.text e.has_run.text)
        (part_behind (kept ++ s.text) mid e.has_run.text put put_mid put_now s.printed e.has_run.part)) e.first

-- ---- the fault of the rows

module _ (x : Instrumented) (a b : Between) (told : Option StimText) (mid kept_now : List ℕ) (put_mid put_now : Option (List ℕ)) where
  whole : (end : CycleEnd) (ran : List (List ℕ)) → IfSome told (ComeTo end ran) → IsWhole end told
  whole cycle_end.Goes ran come = if_rows told _ _ (λ stim all. all.fault) come
  whole cycle_end.Finished ran come = tt
  whole cycle_end.Stopped ran come = tt

  pub rows_whole : (end : RowsEnd) (last : End) → RowsEndIn end x a b last told mid kept_now put_mid put_now → IfEnded end (λ e. IsWhole e told)
  rows_whole (rows_end.Ended end) last e = whole end e.ran e.first
  rows_whole (rows_end.Refused flaw) last e = tt
  rows_whole rows_end.ReadFailed last e = tt
  rows_whole rows_end.PutFailed last e = tt

  pub rows_fault : (end : RowsEnd) (last : End) → RowsEndIn end x a b last told mid kept_now put_mid put_now
      → IfRefused end (λ flaw. IfSome told (λ stim. stim.fault ≡ Some flaw))
  rows_fault (rows_end.Ended end) last e = tt
  rows_fault (rows_end.Refused flaw) last e = if_rows told _ _ (λ stim all. all.fault) e.first
  rows_fault rows_end.ReadFailed last e = tt
  rows_fault rows_end.PutFailed last e = tt

-- a flag of the start leaves the stimulus unread
pub flag_whole : (end : CycleEnd) (told : Option StimText) → (end ≡ cycle_end.Goes → ⊥) → IsWhole end told
flag_whole cycle_end.Goes told other = absurd (other refl)
flag_whole cycle_end.Finished told other = tt
flag_whole cycle_end.Stopped told other = tt
