use Rattle.std.proofs.Common.{◌≡◌, ℕ, ◌+◌, ◌*◌, ◌^◌, ◌<◌, ◌||◌, Bool, true, false, length, get_or, List, [], ◌∷◌, ◌++◌, arith, rules, refl, sym, ◌∙◌, ap}
use Rattle.std.proofs.lemmas.Grind.{common_steps}
use Rattle.test_rank.specs.Ranking.{points_of, is_among, gain}
use Rattle.test_rank.specs.Counting.{marked, total}
use Rattle.test_rank.specs.Choosing.{pick, tests_of}
use Rattle.test_rank.proofs.Counts.{among-counts}
use Rattle.test_rank.proofs.Covering.{gain-marked, uncovered-all, uncovered-none}
use Rattle.test_rank.proofs.Sums.{most-some, pairs-total, sizes-at, total-less, zero-total}
use Rattle.test_rank.proofs.Chosen.{begins-more, begins-whole, comes-next, step-covered, step-marks, step-points, step-tests}
use Rattle.test_rank.proofs.choose.choose.Goals as goal

pub picks-init : goal.picks-init
picks-init g c =
    let covers = c.args.covers.now in
    let all = c.in_ok-gains.ensures.all in
    let none = c.new-picks.ensures in
    record {
      gains = λ t. ap (λ (gs : List ℕ). get_or gs t 0) all ∙ sizes-at covers t
          ∙ sym (uncovered-all (marked c.in_ok-covered.covered) (points_of covers t) c.in_ok-covered.ensures.none);
      len = ap length all ∙ (grind (arith, common_steps));
      covered = λ p. rw none (c.in_ok-covered.ensures.none p);
      room = λ t p among. let l = c.end.ensures t p (among-counts (points_of covers t) p among) in let len = c.in_ok-covered.ensures.len in omega arith;
      begins = rw none (λ rest chosen. chosen);
      points = rw none refl;
      marks = λ t. rw none (c.requires.none t);
      marks_room = c.requires.room;
      most = let sum = ap total all ∙ pairs-total covers in rw none (omega arith);
      ticks = let sum = ap total all ∙ pairs-total covers in omega arith;
    }

pub overflow_cast-best : goal.overflow_cast-best
overflow_cast-best g c = let l = c.greatest-best.ensures.given in let n = c.picks.invariant.len in
    let small : c.greatest-best.result < 2 ^ 32 = let f = c.in_ok-gains.ensures.few in omega arith in search rules

-- the gain of the best
gained : (g : Rattle.test_rank.proofs.choose.choose.Given.Over) (c : goal.After-cover g)
    → c.get.result ≡ gain c.args.covers.now (tests_of c.picks.picks) c.greatest-best.result
gained g c = c.get.ensures ∙ gain-marked c.args.covers.now (tests_of c.picks.picks) (marked c.picks.covered) c.picks.gains c.greatest-best.result
    c.picks.invariant.covered c.picks.invariant.gains

some : (g : Rattle.test_rank.proofs.choose.choose.Given.Over) (c : goal.After-cover g) → 0 < total c.picks.gains
some g c = let l = c.picks-test.true in let e = c.left.ensures in omega arith

or-end : (b : Bool) → (b || true) ≡ true
or-end true = refl
or-end false = refl

less : (g : Rattle.test_rank.proofs.choose.choose.Given.Over) (c : goal.After-cover g) → total c.cover.new.gains < total c.picks.gains
less g c =
    let best = c.greatest-best.result in
    let above = most-some c.picks.gains best c.greatest-best.ensures.most (some g c) in
    let covered : (p : ℕ) → is_among (points_of c.args.covers.now best) p ≡ true → marked c.cover.new.covered p ≡ true =
    λ p among. c.cover.ensures.covered p ∙ rw among (or-end (marked c.picks.covered p)) in
    let none = c.cover.ensures.gains best ∙ uncovered-none (marked c.cover.new.covered) (points_of c.args.covers.now best) covered in
    total-less c.cover.new.gains c.picks.gains best c.cover.ensures.len c.cover.ensures.falls (omega arith)

pub picks-smaller : goal.picks-smaller
picks-smaller g c = less g c

times-more : (n k m : ℕ) → m ≡ k + 1 → n * m ≡ n * k + n
times-more n k m e = rw e (omega arith)

pub picks-preserved : goal.picks-preserved
picks-preserved g c =
    let covers = c.args.covers.now in
    let best = c.greatest-best.result in
    let inv = c.picks.invariant in
    let pushed : c.push.new.self ≡ c.picks.picks ++ pick best c.get.result ∷ [] = c.in_ok-push.ensures.ok in
    let tests = step-tests c.picks.picks c.push.new.self best c.get.result pushed in
    let given : best < length covers = let l = c.greatest-best.ensures.given in let len = inv.len in omega arith in
    let comes =
    comes-next covers (tests_of c.picks.picks) (marked c.picks.covered) c.picks.gains best inv.covered inv.gains given c.greatest-best.ensures.most
    c.greatest-best.ensures.earliest (some g c) in
    let one : length c.push.new.self ≡ length c.picks.picks + 1 = grind (arith, common_steps) in
    record {
      gains = c.cover.ensures.gains;
      len = c.cover.ensures.len ∙ inv.len;
      covered = step-covered covers (tests_of c.picks.picks) (tests_of c.push.new.self) best (marked c.picks.covered) (marked c.cover.new.covered) tests
          inv.covered c.cover.ensures.covered;
      room = λ t p among. let l = inv.room t p among in let e = c.cover.ensures.room in omega arith;
      begins = rw tests (begins-more covers (tests_of c.picks.picks) best inv.begins comes);
      points = step-points covers c.picks.picks c.push.new.self best c.get.result pushed inv.points (gained g c);
      marks = step-marks (tests_of c.picks.picks) (tests_of c.push.new.self) best (marked c.picks.chosen) (marked c.mark.new.self) tests inv.marks
          c.mark.ensures.marked;
      marks_room = c.mark.ensures.len ∙ inv.marks_room;
      most = let l = less g c in let m = inv.most in omega arith;
      ticks =
          let a = c.cover.ensures.ticks in
          let b = c.greatest-best.ensures.ticks in
          let d = inv.ticks in
          let e = times-more (length covers) (length c.picks.picks) (length c.push.new.self) one in
          let f = inv.len in
          omega arith;
    }

pub returns-clause-chosen : goal.returns-clause-chosen
returns-clause-chosen g c =
    let zero : total c.picks.gains ≡ 0 = let l = c.picks-test.false in let e = c.left.ensures in omega arith in
    begins-whole c.args.covers.now (tests_of c.picks.picks) c.picks.invariant.begins
    (λ t. sym (gain-marked c.args.covers.now (tests_of c.picks.picks) (marked c.picks.covered) c.picks.gains t c.picks.invariant.covered
    c.picks.invariant.gains) ∙ zero-total c.picks.gains t zero)

pub returns-clause-most : goal.returns-clause-most
returns-clause-most g c = let m = c.picks.invariant.most in let f = c.in_ok-gains.ensures.most in omega arith

pub returns-clause-room : goal.returns-clause-room
returns-clause-room g c = c.picks.invariant.marks_room
