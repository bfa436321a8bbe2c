-- Cycles one after the other, and their text.
use Rattle.std.proofs.Common.{◌≡◌, ◌≢◌, ◌∙◌, ◌-◌, sym, ap, subst, refl, ℕ, ◌+◌, ◌<◌, List, [], ◌∷◌, ◌++◌, replicate, Option, append-nil, append_assoc, arith}
use Rattle.std.proofs.lemmas.List.{replicate-append-replicate, replicate_more}
use Rattle.cov_port.specs.Causes.{Both}
use Rattle.cov_port.specs.Sinks.{FrontPut, PutsPart}
use Rattle.circuit_run.specs.Ends.{End, goes, finished, stopped}
use Rattle.design_meaning.specs.Cycles.{Between, IsCycle}
use Rattle.design_meaning.specs.MachineLaws.{AreCycles, no_rows, last, more}
use Rattle.design_tree.specs.declared.instrumented.Instrumented.{Instrumented}
use Rattle.cycle_run.specs.Ends.{end_seen}
use Rattle.cycle_run.specs.declared.end.CycleEnd.{CycleEnd}
use Rattle.cycle_run.specs.declared.end.CycleEnd.TheVariants as cycle_end
use Rattle.sim_answer.proofs.RunLemmas.{joined}
use Rattle.sim_output.proofs.KeepLemmas.{keeps_all, keeps_behind, part_behind}
use Rattle.sim_run.specs.Running.{HasRun, HasRunFirst, HasRunPart}

-- one cycle
one_cycle : (x : Instrumented) (a b : Between) (row line : List ℕ) (end : End) → IsCycle x a row b line end → AreCycles x a (row ∷ []) b line end
one_cycle x a b row line goes one = subst (λ (l : List ℕ). AreCycles x a (row ∷ []) b l goes) (append-nil line) (more one no_rows)
one_cycle x a b row line finished one = last one (λ is. absurd cc)
one_cycle x a b row line stopped one = last one (λ is. absurd cc)

-- an end that isn't that of a run that goes on is a flag's
pub end_flags : (end : CycleEnd) → (end ≡ cycle_end.Goes → ⊥) → end_seen end ≢ goes
end_flags cycle_end.Goes other = λ is. other refl
end_flags cycle_end.Finished other = λ is. absurd cc
end_flags cycle_end.Stopped other = λ is. absurd cc

-- rows behind a flag make no difference
pub extended : (x : Instrumented) {a b : Between} {rows : List (List ℕ)} {text : List ℕ} {end : End} (rest : List (List ℕ)) → end ≢ goes
    → AreCycles x a rows b text end → AreCycles x a (rows ++ rest) b text end
extended x rest flags no_rows = absurd (flags refl)
extended x rest flags (last one so) = last one so
extended x rest flags (more one later) = more one (extended x rest flags later)

module _ (x : Instrumented) (a b : Between) (kept : List ℕ) (put put_now : Option (List ℕ)) where
  pub cycle_runs : (row line : List ℕ) (end : End) (kept_now : List ℕ) → IsCycle x a row b line end → Both (FrontPut (kept ++ line) kept_now) put put_now
      → HasRun x a b (row ∷ []) end kept kept_now put put_now
  cycle_runs row line end kept_now one printed = record { text = line; cycles = one_cycle x a b row line end one; printed = printed }

  pub cycle_fails : (row line : List ℕ) (end : End) → IsCycle x a row b line end → Both (PutsPart (kept ++ line)) put put_now
      → HasRunPart x a b (row ∷ []) end kept put put_now
  cycle_fails row line end one part = record { text = line; cycles = one_cycle x a b row line end one; part = part }

  pub flag_runs : (rows rest : List (List ℕ)) (end : End) (kept_now : List ℕ) → end ≢ goes → HasRun x a b rows end kept kept_now put put_now
      → HasRun x a b (rows ++ rest) end kept kept_now put put_now
  flag_runs rows rest end kept_now flags run = record { text = run.text; cycles = extended x rest flags run.cycles; printed = run.printed }

-- nothing was run as yet
pub none_run : (x : Instrumented) (m : Between) (kept : List ℕ) (put : Option (List ℕ)) → HasRun x m m [] goes kept kept put put
none_run x m kept put = record { text = []; cycles = no_rows; printed = keeps_all (kept ++ []) kept put put (sym (append-nil kept)) refl }

module _ (x : Instrumented) (a m b : Between) (ran : List (List ℕ)) (kept mid : List ℕ) (put put_mid put_now : Option (List ℕ))
    (first : HasRun x a m ran goes kept mid put put_mid) where
  -- rows behind rows
  pub runs_behind : (rows : List (List ℕ)) (end : End) (kept_now : List ℕ) → HasRun x m b rows end mid kept_now put_mid put_now
      → HasRun x a b (ran ++ rows) end kept kept_now put put_now
  runs_behind rows end kept_now next = record {
    text = first.text ++ next.text;
    cycles = joined x refl first.cycles next.cycles;
    printed = subst (λ (l : List ℕ). Both (FrontPut l kept_now) put put_now) (append_assoc kept first.text next.text)
        (keeps_behind (kept ++ first.text) mid next.text kept_now put put_mid put_now first.printed next.printed);
  }

  pub fails_behind : (rows : List (List ℕ)) (end : End) → HasRunPart x m b rows end mid put_mid put_now
      → HasRunPart x a b (ran ++ rows) end kept put put_now
  fails_behind rows end next = record {
    text = first.text ++ next.text;
    cycles = joined x refl first.cycles next.cycles;
    part = subst (λ (l : List ℕ). Both (PutsPart l) put put_now) (append_assoc kept first.text next.text)
        (part_behind (kept ++ first.text) mid next.text put put_mid put_now first.printed next.part);
  }

-- ---- a row that is repeated

-- so many cycles of it, and the others
split_row : (values : List ℕ) (n k : ℕ) → k < n → replicate n values ≡ (replicate k values ++ values ∷ []) ++ replicate (n - (k + 1)) values
split_row values n k within =
    let sum : (k + 1) + (n - (k + 1)) ≡ n = omega (arith, within) in
    sym (ap (λ m. replicate m values) sum) ∙ sym (replicate-append-replicate (k + 1) (n - (k + 1)) values)
    ∙ ap (λ (l : List (List ℕ)). l ++ replicate (n - (k + 1)) values) (sym (replicate_more k values))

module _ (x : Instrumented) (a m b : Between) (values : List ℕ) (n k : ℕ) (kept mid : List ℕ) (put put_mid put_now : Option (List ℕ)) (within : k < n)
    (first : HasRun x a m (replicate k values) goes kept mid put put_mid) where
  -- one cycle more
  pub turn_runs : (end : End) (kept_now : List ℕ) → HasRun x m b (values ∷ []) end mid kept_now put_mid put_now
      → HasRun x a b (replicate (k + 1) values) end kept kept_now put put_now
  turn_runs end kept_now one = subst (λ (l : List (List ℕ)). HasRun x a b l end kept kept_now put put_now) (replicate_more k values)
      (runs_behind x a m b (replicate k values) kept mid put put_mid put_now first (values ∷ []) end kept_now one)

  -- the last one, with a flag
  pub row_flags : (end : End) (kept_now : List ℕ) → end ≢ goes → HasRun x m b (values ∷ []) end mid kept_now put_mid put_now
      → HasRun x a b (replicate n values) end kept kept_now put put_now
  row_flags end kept_now flags one = subst (λ (l : List (List ℕ)). HasRun x a b l end kept kept_now put put_now) (sym (split_row values n k within))
      (flag_runs x a b kept put put_now (replicate k values ++ values ∷ []) (replicate (n - (k + 1)) values) end kept_now flags
      (runs_behind x a m b (replicate k values) kept mid put put_mid put_now first (values ∷ []) end kept_now one))

  -- the last one, whose put failed
  pub row_fails : (end : End) → HasRunPart x m b (values ∷ []) end mid put_mid put_now → HasRunFirst x a b (replicate n values) end kept put put_now
  row_fails end one = record {
    ran = replicate k values ++ values ∷ [];
    left = replicate (n - (k + 1)) values;
    split = split_row values n k within;
    first = fails_behind x a m b (replicate k values) kept mid put put_mid put_now first (values ∷ []) end one;
  }
