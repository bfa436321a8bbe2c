-- Runs that have not come to their end go on.
use Rattle.std.proofs.Common.{◌≡◌, ◌≢◌, ◌∙◌, sym, ap, subst, refl, ℕ, zero, suc, ◌+◌, ◌<◌, List, [], ◌∷◌, ◌++◌, length, Some, append-nil, append_assoc, arith}
use Rattle.std.specs.Prelude.{All, slice_index}
use Rattle.design_tree.specs.declared.instrumented.Instrumented.{Instrumented}
use Rattle.circuit_run.specs.Ends.{End, goes, finished, stopped, end_of}
use Rattle.circuit_run.specs.Lists.{how_many}
use Rattle.circuit_run.specs.Runs.{Cycle, cycle_on, output_line}
use Rattle.design_meaning.specs.Circuit.{circuit_of}
use Rattle.design_meaning.specs.Counters.{HasCounted, toggled}
use Rattle.design_meaning.specs.CycleLaws.{OneEdge}
use Rattle.design_meaning.specs.Cycles.{Between, IsCycle}
use Rattle.design_meaning.specs.FlowFaults.{Flows}
use Rattle.design_meaning.specs.MachineLaws.{AreCycles, no_rows, last, more, CyclesAreRuns}
use Rattle.design_meaning.specs.Orders.{IsOrder}
use Rattle.design_meaning.specs.Runs.{IsRun}
use Rattle.design_meaning.specs.SettledLaws.{IsRow, OrderSettlesOnce}
use Rattle.design_meaning.specs.States.{IsStateOf}
use Rattle.design_meaning.specs.Valid.{IsValidDesign}
use Rattle.sim_answer.specs.Underway.{StartsGoOn, CyclesGoOn, FlagsEnd, RowsEnd, RunsGoOn}

-- ---- cycles behind cycles

pub joined : (x : Instrumented) {a m after : Between} {done rest : List (List ℕ)} {text others : List ℕ} {e end : End} → e ≡ goes
    → AreCycles x a done m text e → AreCycles x m rest after others end → AreCycles x a (done ++ rest) after (text ++ others) end
joined x is no_rows next = next
joined x is (last one flags) next = absurd (flags is)
joined x {a = a} {after = after} {rest = rest} {others = others} {end = end} is (more {row = row} {rows = rows} {text = t} {texts = ts} one later) next =
    subst (λ (l : List ℕ). AreCycles x a (row ∷ (rows ++ rest)) after l end) (sym (append_assoc t ts others)) (more one (joined x is later next))

pub starts_go_on : StartsGoOn
starts_go_on x m text start = record { first = m; opening = text; lines = []; start = start; cycles = no_rows; prints = sym (append-nil text) }

pub cycles_go_on : CyclesGoOn
cycles_go_on x done m after row text line on one = record {
  first = on.first;
  opening = on.opening;
  lines = on.lines ++ (line ++ []);
  start = on.start;
  cycles = joined x refl on.cycles (more one no_rows);
  prints = ap (λ (l : List ℕ). l ++ line) on.prints ∙ append_assoc on.opening on.lines line
      ∙ ap (λ (l : List ℕ). on.opening ++ (on.lines ++ l)) (sym (append-nil line));
}

pub flags_end : CyclesAreRuns → FlagsEnd
flags_end runs x done rest m after row text line end on one flags =
    subst (λ (l : List ℕ). IsRun x (done ++ row ∷ rest) l end after.counts)
    (sym (append_assoc on.opening on.lines line) ∙ ap (λ (l : List ℕ). l ++ line) (sym on.prints))
    (runs x (done ++ row ∷ rest) on.first after on.opening (on.lines ++ line) end on.start (joined x refl on.cycles (last one flags)))

pub rows_end : CyclesAreRuns → RowsEnd
rows_end runs x done m text on =
    subst (λ (l : List ℕ). IsRun x done l goes m.counts) (sym on.prints) (runs x done on.first m on.opening on.lines goes on.start on.cycles)

-- ---- counters that were raised

raised_from : ℕ → List ℕ → List ℕ → List ℕ
raised_from k [] raised = []
raised_from k (c ∷ cs) raised = (c + how_many k raised) ∷ raised_from (suc k) cs raised

length-raised : (k : ℕ) (cs raised : List ℕ) → length (raised_from k cs raised) ≡ length cs
unfolding raised_from
length-raised k [] raised = refl
length-raised k (c ∷ cs) raised = omega (arith, length-raised (suc k) cs raised)

index-raised : (k j : ℕ) (cs raised : List ℕ) → j < length cs → slice_index (raised_from k cs raised) j ≡ slice_index cs j + how_many (k + j) raised
unfolding raised_from
index-raised k j [] raised within = absurd (omega (arith, within))
index-raised k zero (c ∷ cs) raised within = let same : k ≡ k + 0 = omega arith in ap (λ n. c + how_many n raised) same
index-raised k (suc j) (c ∷ cs) raised within =
    let same : suc k + j ≡ k + suc j = omega arith in
    index-raised (suc k) j cs raised (omega (arith, within)) ∙ ap (λ n. slice_index cs j + how_many n raised) same

has_raised : (old raised : List ℕ) → HasCounted old raised (raised_from 0 old raised)
has_raised old raised = record {
  as_many = length-raised 0 old raised;
  each = λ k within. let same : 0 + k ≡ k = omega arith in index-raised 0 k old raised within ∙ ap (λ n. slice_index old k + how_many n raised) same;
}

-- ---- more cycles

-- a cycle that leaves a state of the design
record Goes (x : Instrumented) (m : Between) (row : List ℕ) : Type 0 where
  after : Between
  line : List ℕ
  end : End
  cycle : IsCycle x m row after line end
  stays : IsStateOf x.design after.registers

-- cycles for rows
record GoOn (x : Instrumented) (m : Between) (rows : List (List ℕ)) : Type 0 where
  after : Between
  lines : List ℕ
  end : End
  cycles : AreCycles x m rows after lines end

finished_flags : finished ≢ goes
finished_flags is = absurd cc

stopped_flags : stopped ≢ goes
stopped_flags is = absurd cc

module _ (edges : OneEdge) (settles : OrderSettlesOnce) (x : Instrumented) (order : List ℕ) (valid : IsValidDesign x.design) (flows : Flows x.design)
    (is_order : IsOrder x.design order) where
  one_cycle : (m : Between) (row : List ℕ) → IsStateOf x.design m.registers → IsRow x.design row → Goes x m row
  one_cycle m row state fits =
      let one = settles x.design order valid flows is_order m.registers row state fits in
      let edge = edges x.design one.0 valid one.1.agrees.is_state in
      let k : Cycle ℕ = cycle_on (circuit_of x.design) one.0 in
      record {
        after = record { registers = edge.0; last_settled = Some one.0; counts = raised_from 0 m.counts (k.notes ++ toggled m.last_settled one.0 x.toggles) };
        line = output_line x.design.outputs one.0 ++ k.text;
        end = end_of k.finished k.stopped;
        cycle = record {
          cycle = k;
          is_cycle = record { settled = one.1; edge = edge.2; on = refl };
          kept = refl;
          counted = has_raised m.counts (k.notes ++ toggled m.last_settled one.0 x.toggles);
          printed = refl;
          ends = refl;
        };
        stays = edge.1;
      }

  behind : (m after : Between) (row line : List ℕ) (rows : List (List ℕ)) (end : End) → IsCycle x m row after line end → GoOn x after rows
      → GoOn x m (row ∷ rows)
  behind m after row line rows goes one on = record { after = on.after; lines = line ++ on.lines; end = on.end; cycles = more one on.cycles }
  behind m after row line rows finished one on = record { after = after; lines = line; end = finished; cycles = last one finished_flags }
  behind m after row line rows stopped one on = record { after = after; lines = line; end = stopped; cycles = last one stopped_flags }

  go_on : (rows : List (List ℕ)) → All (IsRow x.design) rows → (m : Between) → IsStateOf x.design m.registers → GoOn x m rows
  go_on [] fit m state = record { after = m; lines = []; end = goes; cycles = no_rows }
  go_on (row ∷ rows) fit m state =
      let one = one_cycle m row state (fit zero row (omega arith)) in
      behind m one.after row one.line rows one.end one.cycle (go_on rows (λ i e within. fit (suc i) e (omega (arith, within))) one.after one.stays)

pub runs_go_on : OneEdge → OrderSettlesOnce → CyclesAreRuns → RunsGoOn
runs_go_on edges settles runs x order done rest m text valid flows is_order state fit on =
    let g = go_on edges settles x order valid flows is_order rest fit m state in
    record {
      more = g.lines;
      end = g.end;
      counts = g.after.counts;
      run = subst (λ (l : List ℕ). IsRun x (done ++ rest) l g.end g.after.counts)
          (sym (append_assoc on.opening on.lines g.lines) ∙ ap (λ (l : List ℕ). l ++ g.lines) (sym on.prints))
          (runs x (done ++ rest) on.first g.after on.opening (on.lines ++ g.lines) g.end on.start (joined x refl on.cycles g.cycles));
    }
