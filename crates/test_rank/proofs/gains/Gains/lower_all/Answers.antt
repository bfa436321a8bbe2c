use Rattle.std.proofs.Common.{◌≡◌, ℕ, ◌+◌, true, false, eqb, cond, get_or, take, List, arith, refl, sym, ◌∙◌, ap}
use Rattle.test_rank.specs.Counting.{count}
use Rattle.test_rank.proofs.Counts.{count-front, count-take_more, eqb-is, eqb-same}
use Rattle.std.proofs.lemmas.Bool.{false≢true}
use Rattle.test_rank.proofs.gains.Gains.lower_all.Goals as goal

pub lower-requires : goal.lower-requires
lower-requires g c =
    let tests = c.args.tests.now in
    let test = get_or tests c.tests.test-index 0 in
    let lowered = c.tests.invariant.lowered test in
    let front = count-front tests c.tests.test-index c.tests-test.true in
    let enough = c.requires test in
    omega arith

-- what one test more lowers
one-more : (before after old test k t : ℕ) (lists : List ℕ) (m : ℕ) → test ≡ get_or lists k 0 → before + count t (take k lists) ≡ old
    → count t (take (k + 1) lists) ≡ count t (take k lists) + cond (eqb t test) 1 0
    → (t ≡ test → after + 1 ≡ before) → ((t ≡ test → ⊥) → after ≡ before) → after + count t (take (k + 1) lists) ≡ old
one-more before after old test k t lists m is lowered counted here other =
    elim (eqb t test) as (λ b. eqb t test ≡ b → count t (take (k + 1) lists) ≡ count t (take k lists) + cond b 1 0
    → after + count t (take (k + 1) lists) ≡ old) [
      | true ↦ λ e n. let h = here (eqb-is t test e) in omega arith
      | false ↦ λ e n. let h = other (λ same. false≢true (sym e ∙ ap (λ (j : ℕ). eqb j test) same ∙ eqb-same test)) in omega arith
    ] refl counted

pub tests-preserved : goal.tests-preserved
tests-preserved g c =
    let tests = c.args.tests.now in
    let k = c.tests.test-index in
    let test = get_or tests k 0 in
    record {
      lowered = λ t. one-more (get_or c.tests.self t 0) (get_or c.lower.new.self t 0) (get_or c.args.self.now t 0) test k t tests 0 refl
          (c.tests.invariant.lowered t) (count-take_more t tests k c.tests-test.true)
          (λ same. ap (λ (j : ℕ). get_or c.lower.new.self j 0 + 1) same ∙ c.lower.ensures.here
          ∙ ap (λ (j : ℕ). get_or c.tests.self j 0) (sym same)) (c.lower.ensures.others t);
      len = c.lower.ensures.len ∙ c.tests.invariant.len;
      ticks = let a = c.lower.ensures.sum in let b = c.tick.ensures in let d = c.tests.invariant.ticks in omega arith;
    }
