-- Rows one after the other, as they are told.
use Rattle.std.proofs.Common.{◌≡◌, ◌∙◌, sym, ap, refl, ℕ, true, List, [], ◌++◌, replicate, Option, None, Some, append_assoc}
use Rattle.std.specs.Prelude.{IfSome}
use Rattle.circuit_run.specs.Ends.{End, goes}
use Rattle.design_meaning.specs.Cycles.{Between}
use Rattle.design_tree.specs.declared.instrumented.Instrumented.{Instrumented}
use Rattle.stim_lines.specs.Reading.{is_of_text}
use Rattle.stim_lines.specs.Stimulus.{with_row}
use Rattle.stim_lines.specs.declared.fault.StimFault.{StimFault}
use Rattle.stim_lines.specs.declared.row.Row.{Row}
use Rattle.stim_lines.specs.declared.row.StimText.{StimText}
use Rattle.stimulus.specs.Streaming.{FaultOf, TellsLeft}
use Rattle.stimulus.specs.declared.row_step.RowStep.TheVariants as step
use Rattle.cycle_run.specs.Ends.{end_seen}
use Rattle.cycle_run.specs.declared.end.CycleEnd.{CycleEnd}
use Rattle.cycle_run.specs.declared.end.CycleEnd.TheVariants as cycle_end
use Rattle.sim_answer.specs.SimAnswer.{values_of}
use Rattle.sim_run.specs.Running.{HasRun, HasRunFirst}
use Rattle.sim_run.specs.Ends.{AreAll, ComeFirst, ComeTo, EndsBehind, RowsEndIn}
use Rattle.sim_run.specs.declared.rows_end.RowsEnd.{RowsEnd}
use Rattle.sim_run.specs.declared.rows_end.RowsEnd.TheVariants as rows_end
use Rattle.sim_run.proofs.CycleLemmas.{fails_behind, none_run, runs_behind}

-- a fact on rows that are told, from another
pub if_rows : (told : Option StimText) (P Q : StimText → Type 0) → ((stim : StimText) → P stim → Q stim) → IfSome told P → IfSome told Q
if_rows None P Q weaker is = tt
if_rows (Some stim) P Q weaker is = weaker stim is

-- ---- one row

-- the cycles of the row that comes next come first
next_first : (row : Row) (was left : StimText) → was ≡ with_row row left → values_of was.rows ≡ replicate row.repeat row.values ++ values_of left.rows
next_first row was left is = ap (λ (s : StimText). values_of s.rows) is

flag_comes : (end : CycleEnd) (row : Row) (was left : StimText) → (end ≡ cycle_end.Goes → ⊥) → was ≡ with_row row left
    → ComeTo end (replicate row.repeat row.values) was
flag_comes cycle_end.Goes row was left other is = absurd (other refl)
flag_comes cycle_end.Finished row was left other is = (values_of left.rows, next_first row was left is)
flag_comes cycle_end.Stopped row was left other is = (values_of left.rows, next_first row was left is)

module _ (x : Instrumented) (a b : Between) (row : Row) (told after : Option StimText) (kept kept_now : List ℕ) (put put_now : Option (List ℕ))
    (tells : TellsLeft step.Row row told after) where
  -- a cycle of the row sets a flag
  pub row_ends : (end : CycleEnd) (last : End) → (end ≡ cycle_end.Goes → ⊥)
      → HasRun x a b (replicate row.repeat row.values) (end_seen end) kept kept_now put put_now
      → RowsEndIn (rows_end.Ended end) x a b last told kept kept_now put put_now
  row_ends end last other run = record {
    ran = replicate row.repeat row.values;
    has_run = run;
    first = if_rows told _ _ (λ was t. flag_comes end row was t.0 other t.2) tells;
  }

  -- a put fails
  pub row_breaks : (last : End) → HasRunFirst x a b (replicate row.repeat row.values) last kept put put_now
      → RowsEndIn rows_end.PutFailed x a b last told kept kept_now put put_now
  row_breaks last run = record {
    ran = run.ran;
    has_run = run.first;
    first = if_rows told _ _ (λ was t. (
      run.left ++ values_of t.0.rows,
      next_first row was t.0 t.2 ∙ ap (λ (l : List (List ℕ)). l ++ values_of t.0.rows) run.split ∙ append_assoc run.ran run.left (values_of t.0.rows),
    )) tells;
  }

-- ---- no row

module _ (x : Instrumented) (m : Between) (last : End) (told : Option StimText) (kept : List ℕ) (put : Option (List ℕ)) where
  -- the rows are at their end
  pub end_ends : (row : Row) (after : Option StimText) → TellsLeft step.End row told after
      → RowsEndIn (rows_end.Ended cycle_end.Goes) x m m last told kept kept put put
  end_ends row after tells = record {
    ran = [];
    has_run = none_run x m kept put;
    first = if_rows told _ _ (λ was t. record {
      cycles = ap (λ (s : StimText). values_of s.rows) t.2.0;
      fault = ap (λ (s : StimText). s.fault) t.2.0;
    }) tells;
  }

  -- a line is refused
  pub fault_ends : (flaw : StimFault) → is_of_text flaw ≡ true → FaultOf told flaw → RowsEndIn (rows_end.Refused flaw) x m m last told kept kept put put
  fault_ends flaw of_text fault = record {
    ran = [];
    has_run = none_run x m kept put;
    first = if_rows told _ _ (λ was is. record {
      cycles = ap (λ (s : StimText). values_of s.rows) is;
      fault = ap (λ (s : StimText). s.fault) is;
    }) (fault of_text);
  }

  -- a read fails
  pub read_ends : RowsEndIn rows_end.ReadFailed x m m last told kept kept put put
  read_ends = record { ran = []; has_run = none_run x m kept put; first = all_left told }
    where
      all_left : (o : Option StimText) → IfSome o (ComeFirst [])
      all_left None = tt
      all_left (Some stim) = (values_of stim.rows, refl)

-- ---- rows behind rows

-- behind these cycles this is left
pub record IsLeft (ran : List (List ℕ)) (told : Option StimText) (stim : StimText) : Type 0 where
  pub left : StimText
  pub told_left : told ≡ Some left
  pub cycles : values_of stim.rows ≡ ran ++ values_of left.rows
  pub fault : stim.fault ≡ left.fault

-- nothing was run as yet
pub all_is_left : (told : Option StimText) → IfSome told (IsLeft [] told)
all_is_left None = tt
all_is_left (Some stim) = record { left = stim; told_left = refl; cycles = refl; fault = refl }

-- one row more
pub next_left : (row : Row) (ran : List (List ℕ)) (first told after : Option StimText) → TellsLeft step.Row row told after → IfSome first (IsLeft ran told)
    → IfSome first (IsLeft (ran ++ replicate row.repeat row.values) after)
next_left row ran first told after tells = if_rows first _ _ (λ stim is.
    let t : (left : StimText) × (after ≡ Some left) × (is.left ≡ with_row row left) = rw is.told_left at tells in
    record {
      left = t.0;
      told_left = t.1;
      cycles = is.cycles ∙ ap (λ (l : List (List ℕ)). ran ++ l) (next_first row is.left t.0 t.2)
          ∙ sym (append_assoc ran (replicate row.repeat row.values) (values_of t.0.rows));
      fault = is.fault ∙ ap (λ (s : StimText). s.fault) t.2;
    })

-- rows were run to their end, and those that are told are left but for them
pub record HasCome (x : Instrumented) (a m : Between) (first told : Option StimText) (kept mid : List ℕ) (put put_mid : Option (List ℕ)) : Type 0 where
  pub ran : List (List ℕ)
  pub has_run : HasRun x a m ran goes kept mid put put_mid
  pub left : IfSome first (IsLeft ran told)

pub none_come : (x : Instrumented) (m : Between) (told : Option StimText) (kept : List ℕ) (put : Option (List ℕ)) → HasCome x m m told told kept kept put put
none_come x m told kept put = record { ran = []; has_run = none_run x m kept put; left = all_is_left told }

pub row_comes : (x : Instrumented) (a m b : Between) (row : Row) (first told after : Option StimText) (kept mid kept_now : List ℕ)
    (put put_mid put_now : Option (List ℕ)) → HasCome x a m first told kept mid put put_mid → TellsLeft step.Row row told after
    → HasRun x m b (replicate row.repeat row.values) goes mid kept_now put_mid put_now → HasCome x a b first after kept kept_now put put_now
row_comes x a m b row first told after kept mid kept_now put put_mid put_now come tells run = record {
  ran = come.ran ++ replicate row.repeat row.values;
  has_run = runs_behind x a m b come.ran kept mid put put_mid put_now come.has_run (replicate row.repeat row.values) goes kept_now run;
  left = next_left row come.ran first told after tells come.left;
}

-- what is told of all rows, from what is told of those that were left
first_behind : (ran more : List (List ℕ)) (told : Option StimText) (stim : StimText) → IsLeft ran told stim → IfSome told (ComeFirst more)
    → ComeFirst (ran ++ more) stim
first_behind ran more told stim is come =
    let c : (left : List (List ℕ)) × (values_of is.left.rows ≡ more ++ left) = rw is.told_left at come in
    (c.0, is.cycles ∙ ap (λ (l : List (List ℕ)). ran ++ l) c.1 ∙ sym (append_assoc ran more c.0))

all_behind : (ran more : List (List ℕ)) (flaw : Option StimFault) (told : Option StimText) (stim : StimText) → IsLeft ran told stim
    → IfSome told (AreAll more flaw) → AreAll (ran ++ more) flaw stim
all_behind ran more flaw told stim is all =
    let c : AreAll more flaw is.left = rw is.told_left at all in
    record { cycles = is.cycles ∙ ap (λ (l : List (List ℕ)). ran ++ l) c.cycles; fault = is.fault ∙ c.fault }

to_behind : (end : CycleEnd) (ran more : List (List ℕ)) (told : Option StimText) (stim : StimText) → IsLeft ran told stim → IfSome told (ComeTo end more)
    → ComeTo end (ran ++ more) stim
to_behind cycle_end.Goes ran more told stim = all_behind ran more None told stim
to_behind cycle_end.Finished ran more told stim = first_behind ran more told stim
to_behind cycle_end.Stopped ran more told stim = first_behind ran more told stim

module _ (x : Instrumented) (a m b : Between) (last : End) (first told : Option StimText) (kept mid kept_now : List ℕ)
    (put put_mid put_now : Option (List ℕ)) (come : HasCome x a m first told kept mid put put_mid) where
  behind : (end : End) (Told : List (List ℕ) → StimText → Type 0)
      → ((more : List (List ℕ)) (stim : StimText) → IsLeft come.ran told stim → IfSome told (Told more) → Told (come.ran ++ more) stim)
      → EndsBehind x m b end told Told mid kept_now put_mid put_now → EndsBehind x a b end first Told kept kept_now put put_now
  behind end Told weaker e = record {
    ran = come.ran ++ e.ran;
    has_run = runs_behind x a m b come.ran kept mid put put_mid put_now come.has_run e.ran end kept_now e.has_run;
    first = if_rows first _ _ (λ stim left. weaker e.ran stim left e.first) come.left;
  }

  -- the end of the rows that were left is that of all
  pub ends_behind : (end : RowsEnd) → RowsEndIn end x m b last told mid kept_now put_mid put_now → RowsEndIn end x a b last first kept kept_now put put_now
  ends_behind (rows_end.Ended end) e = behind (end_seen end) (ComeTo end) (λ more. to_behind end come.ran more told) e
  ends_behind (rows_end.Refused flaw) e = behind goes (λ l. AreAll l (Some flaw)) (λ more. all_behind come.ran more (Some flaw) told) e
  ends_behind rows_end.ReadFailed e = behind goes ComeFirst (λ more. first_behind come.ran more told) e
  ends_behind rows_end.PutFailed e = record {
    ran = come.ran ++ e.ran;
    has_run = fails_behind x a m b come.ran kept mid put put_mid put_now come.has_run e.ran last e.has_run;
    first = if_rows first _ _ (λ stim left. first_behind come.ran e.ran told stim left e.first) come.left;
  }
