-- Cycles that were run, and their text on its way out.
use Rattle.std.specs.Prelude.{◌≡◌, ℕ, List, ◌++◌, Option}
use Rattle.cov_port.specs.Causes.{Both}
use Rattle.cov_port.specs.Sinks.{FrontPut, PutsPart}
use Rattle.circuit_run.specs.Ends.{End}
use Rattle.design_meaning.specs.Cycles.{Between, IsStart}
use Rattle.design_meaning.specs.MachineLaws.{AreCycles}
use Rattle.design_tree.specs.declared.instrumented.Instrumented.{Instrumented}

-- A run was started. All that was kept and its text are put, but for what is kept now.
pub record HasStarted (x : Instrumented) (after : Between) (end : End) (kept kept_now : List ℕ) (put put_now : Option (List ℕ)) : Type 0 where
  pub text : List ℕ
  pub start : IsStart x after text end
  pub printed : Both (FrontPut (kept ++ text) kept_now) put put_now

-- A run was started, and a put failed. Some first bytes of what was kept and of its text are put.
pub record HasStartedPart (x : Instrumented) (after : Between) (end : End) (kept : List ℕ) (put put_now : Option (List ℕ)) : Type 0 where
  pub text : List ℕ
  pub start : IsStart x after text end
  pub part : Both (PutsPart (kept ++ text)) put put_now

-- Cycles were run, one for each of these rows or up to the first that set a flag. All that was kept and their text are put, but for
-- what is kept now.
pub record HasRun (x : Instrumented) (before after : Between) (rows : List (List ℕ)) (end : End) (kept kept_now : List ℕ)
    (put put_now : Option (List ℕ)) : Type 0 where
  pub text : List ℕ
  pub cycles : AreCycles x before rows after text end
  pub printed : Both (FrontPut (kept ++ text) kept_now) put put_now

-- Such cycles were run, and a put failed. Some first bytes of what was kept and of their text are put.
pub record HasRunPart (x : Instrumented) (before after : Between) (rows : List (List ℕ)) (end : End) (kept : List ℕ)
    (put put_now : Option (List ℕ)) : Type 0 where
  pub text : List ℕ
  pub cycles : AreCycles x before rows after text end
  pub part : Both (PutsPart (kept ++ text)) put put_now

-- The same for some first ones of these rows.
pub record HasRunFirst (x : Instrumented) (before after : Between) (rows : List (List ℕ)) (end : End) (kept : List ℕ)
    (put put_now : Option (List ℕ)) : Type 0 where
  pub ran : List (List ℕ)
  pub left : List (List ℕ)
  pub split : rows ≡ ran ++ left
  pub first : HasRunPart x before after ran end kept put put_now
