-- What a command leaves that puts its output and makes its stores.
use Rattle.std.proofs.Common.{ℕ, List, refl, map}
use Rattle.std.specs.Prelude.{IfSome, Contains}
use Rattle.command_ending.specs.Answer.{done}
use Rattle.command_ending.specs.Ending.{line_at, status_at}
use Rattle.command_ending.specs.Finish.{IsFinish, all_done, put_failed, store_failed}
use Rattle.command_ending.specs.Leaves.{Leaves}
use Rattle.command_ending.specs.Leaves as leaves
use Rattle.command_ending.specs.Promise.{Promise}
use Rattle.command_ending.specs.World.{World}
use Rattle.command_ending.specs.declared.ending.Ending.{Ending}
use Rattle.command_ending.proofs.PutLemmas.{if_told}

-- what a command leaves that has an answer with this output and these stores
pub finish_leaves : (p : Promise) (out : List ℕ) (stores : List (List ℕ × List ℕ)) (old new : World) (e : Ending)
    → IfSome old.held (λ names. p.Answers names (done out stores))
    → ((name : List ℕ) → Contains (map (λ (s : List ℕ × List ℕ). s.0) stores) name → p.Stores name)
    → IsFinish out stores old new e → Leaves p (line_at e) old new (status_at e)
finish_leaves p out stores old new e is named (all_done unharmed puts made) = record {
  answer = λ no_fault no_want. if_told old.held _ _
      (λ names one. (done out stores, one, record { status = refl; stores = made; output = puts; line = refl })) is;
  unharmed = λ other. unharmed;
  fault = λ never. absurd (cc);
  untouched = λ never. absurd (cc);
  line = refl;
}
finish_leaves p out stores old new e is named (put_failed rose files held part) = record {
  answer = λ other. absurd (other refl);
  unharmed = λ other. absurd (other refl);
  fault = λ so. leaves.put_failed refl rose files (record { held = held; out = if_told old.held _ _ (λ names one. (done out stores, one, part)) is });
  untouched = λ never. absurd (cc);
  line = tt;
}
finish_leaves p out stores old new e is named (store_failed name line there is_line rose puts whole part) = record {
  answer = λ other. absurd (other refl);
  unharmed = λ other. absurd (other refl);
  fault = λ so. leaves.store_failed name (named name there) is_line rose puts
      (record { answer = if_told old.held _ _ (λ names one. (done out stores, one, whole, part)) is });
  untouched = λ never. absurd (cc);
  line = tt;
}
