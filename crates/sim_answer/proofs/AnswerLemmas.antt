-- A `sim` has one answer.
use Rattle.std.proofs.Common.{◌≡◌, ◌∙◌, inl, inr, sym, ap, subst, refl, ℕ, zero, suc, ◌+◌, ◌<◌, ◌≤◌, Bool, true, false, List, [], ◌∷◌, length, Option, None}
use Rattle.std.proofs.Common.{Some, Result, Ok, Err, arith}
use Rattle.std.specs.Prelude.{nat_lt, slice_index}
use Rattle.std.proofs.lemmas.Bool.{ltb-true, ltb-false}
use Rattle.cov_types.specs.Limits.{most}
use Rattle.cov_types.specs.declared.limit.LimitName.TheVariants.{CvdBytes}
use Rattle.cov_port.specs.Files.{Names}
use Rattle.design_tree.specs.declared.instrumented.Instrumented.{Instrumented}
use Rattle.circuit_run.specs.Ends.{End, run_end}
use Rattle.circuit_run.specs.Runs.{Run, printed}
use Rattle.circuit_run.specs.Runs as circuit
use Rattle.design_meaning.specs.Circuit.{circuit_of}
use Rattle.design_meaning.specs.CycleLaws.{HasOneRun, OneRun}
use Rattle.design_meaning.specs.FlowFaults.{Fault, IsFaultOf}
use Rattle.design_meaning.specs.Runs.{IsRun, counter_count}
use Rattle.cvd_text.specs.Fault.{Flaw, IsFlaw}
use Rattle.cvd_text.specs.Laws.{OneDesign}
use Rattle.cvd_text.specs.Spelling.{Cvd}
use Rattle.stim_lines.specs.Header.{inputs_of}
use Rattle.stim_lines.specs.Stimulus.{stimulus_of}
use Rattle.stim_lines.specs.declared.fault.StimFault.{StimFault}
use Rattle.stim_lines.specs.declared.row.StimText.{StimText}
use Rattle.command_ending.specs.Answer.{Answer, absent, over_limit}
use Rattle.sim_answer.specs.Laws.{NeverBoth, DesignOrFlaw, OneSim, HasAnAnswer}
use Rattle.sim_answer.specs.Refusals.{design_refusal, stimulus_refusal}
use Rattle.sim_answer.specs.Simulation.{Simulation}
use Rattle.sim_answer.specs.SimAnswer.{HoldsDesign, IsSimAnswer, no_design, too_long, bad_design, no_stimulus, bad_header, ran, run_answer, values_of}
use Rattle.sim_answer.proofs.RowLemmas.{rows_fit}

-- ---- what names hold

none_some : {A : Type 0} {o : Option A} {a : A} → o ≡ None → o ≡ Some a → ⊥
none_some none some = absurd (cc)

same_some : {A : Type 0} {o : Option A} {a b : A} → o ≡ Some a → o ≡ Some b → a ≡ b
same_some one two = cc

fault_rows : {r : Result StimText StimFault} {flaw : StimFault} {stim : StimText} → r ≡ Err flaw → r ≡ Ok stim → ⊥
fault_rows one two = absurd (cc)

same_fault : {r : Result StimText StimFault} {a b : StimFault} → r ≡ Err a → r ≡ Err b → a ≡ b
same_fault one two = cc

same_rows : {r : Result StimText StimFault} {a b : StimText} → r ≡ Ok a → r ≡ Ok b → a ≡ b
same_rows one two = cc

-- ---- one run

same_numbers : (xs ys : List ℕ) → length xs ≡ length ys → ((k : ℕ) → k < length xs → slice_index xs k ≡ slice_index ys k) → xs ≡ ys
same_numbers [] [] size same = refl
same_numbers [] (y ∷ ys) size same = absurd (omega (arith, size))
same_numbers (x ∷ xs) [] size same = absurd (omega (arith, size))
same_numbers (x ∷ xs) (y ∷ ys) size same =
    let rest : xs ≡ ys = same_numbers xs ys (omega (arith, size)) (λ k within. same (suc k) (omega (arith, within))) in
    ap (λ n. n ∷ xs) (same zero (omega arith)) ∙ ap (λ (l : List ℕ). y ∷ l) rest

-- two runs on the same rows print the same, end alike, and leave the same counters
same_run : (x : Instrumented) (rows : List (List ℕ)) (o p : List ℕ) (e f : End) (c d : List ℕ) → HasOneRun x.design rows → IsRun x rows o e c
    → IsRun x rows p f d
    → (o ≡ p) × (e ≡ f) × (c ≡ d)
same_run x rows o p e f c d has r s =
    let one : r.run ≡ s.run = has.2 r.run r.is_run ∙ sym (has.2 s.run s.is_run) in (
      r.prints ∙ ap (printed x.design.outputs) one ∙ sym s.prints,
      r.ends ∙ ap run_end one ∙ sym s.ends,
      same_numbers c d (r.as_many ∙ sym s.as_many)
          (λ k within. r.counted k (omega (arith, within, r.as_many)) ∙ ap (λ (q : Run ℕ). counter_count x q k) one ∙ sym (s.counted k (omega
          (arith, within, r.as_many)))),
    )

-- ---- one design

same_design : OneDesign → (held : Names) (name : List ℕ) (x y : Instrumented) → HoldsDesign held name x → HoldsDesign held name y → x ≡ y
same_design designs held name x y d e = designs x y e.text (subst (Cvd x) (same_some d.holds e.holds) d.spelled) e.spelled

refused_design : NeverBoth → (held : Names) (asked : Simulation) (x : Instrumented) (text : List ℕ) (flaw : Flaw Fault) → HoldsDesign held asked.design x
    → held asked.design ≡ Some text → IsFlaw Fault IsFaultOf text flaw → ⊥
refused_design never held asked x text flaw d holds is = never x text flaw (subst (Cvd x) (same_some d.holds holds) d.spelled) d.flows is

too_many : (s t : List ℕ) → s ≡ t → most CvdBytes < length s → length t ≤ most CvdBytes → ⊥
too_many s t same many few = absurd (omega (arith, ap length same, many, few))

same_reading : OneDesign → (held : Names) (asked : Simulation) (x y : Instrumented) (s t : List ℕ) → HoldsDesign held asked.design x
    → HoldsDesign held asked.design y
    → held asked.stimulus ≡ Some s → held asked.stimulus ≡ Some t → stimulus_of (inputs_of x.design) s ≡ stimulus_of (inputs_of y.design) t
same_reading designs held asked x y s t d e one two =
    ap (λ (z : Instrumented). stimulus_of (inputs_of z.design) s) (same_design designs held asked.design x y d e)
    ∙ ap (stimulus_of (inputs_of y.design)) (same_some one two)

one_run_of : OneRun → (held : Names) (name : List ℕ) (x : Instrumented) (text : List ℕ) (stim : StimText) → HoldsDesign held name x
    → stimulus_of (inputs_of x.design) text ≡ Ok stim → HasOneRun x.design (values_of stim.rows)
one_run_of runs held name x text stim d is =
    runs x.design (values_of stim.rows) (x, d.spelled.valid, refl) d.flows (rows_fit x.design text stim d.spelled.valid.inputs.differ is)

same_ends : OneRun → (held : Names) (asked : Simulation) (x y : Instrumented) (text : List ℕ) (s u : StimText) (o p : List ℕ) (e f : End) (c k : List ℕ)
    → HoldsDesign held asked.design x → x ≡ y → stimulus_of (inputs_of x.design) text ≡ Ok s → s ≡ u
    → IsRun x (values_of s.rows) o e c → IsRun y (values_of u.rows) p f k → run_answer asked x s.fault o e c ≡ run_answer asked y u.fault p f k
same_ends runs held asked x y text s u o p e f c k d same_x is same_s r q =
    let here : IsRun x (values_of s.rows) p f k =
    subst (λ (z : Instrumented). IsRun z (values_of s.rows) p f k) (sym same_x) (subst (λ (w : StimText). IsRun y (values_of w.rows) p f k)
    (sym same_s) q) in
    let same = same_run x (values_of s.rows) o p e f c k (one_run_of runs held asked.design x text s d is) r here in
    ap (λ (l : List ℕ). run_answer asked x s.fault l e c) same.0 ∙ ap (λ (n : End). run_answer asked x s.fault p n c) same.1
    ∙ ap (run_answer asked x s.fault p f) same.2 ∙ ap (λ (w : StimText). run_answer asked x w.fault p f k) same_s
    ∙ ap (λ (z : Instrumented). run_answer asked z u.fault p f k) same_x

pub one_sim : OneSim
one_sim designs refusals never runs held asked a b (no_design n1) (no_design n2) = refl
one_sim designs refusals never runs held asked a b (no_design n1) (too_long t2 h2 l2) = absurd (none_some n1 h2)
one_sim designs refusals never runs held asked a b (no_design n1) (bad_design t2 f2 h2 w2 i2) = absurd (none_some n1 h2)
one_sim designs refusals never runs held asked a b (no_design n1) (no_stimulus x2 d2 m2) = absurd (none_some n1 d2.holds)
one_sim designs refusals never runs held asked a b (no_design n1) (bad_header x2 t2 f2 d2 h2 i2) = absurd (none_some n1 d2.holds)
one_sim designs refusals never runs held asked a b (no_design n1) (ran x2 t2 s2 o2 e2 c2 d2 h2 i2 r2) = absurd (none_some n1 d2.holds)
one_sim designs refusals never runs held asked a b (too_long t1 h1 l1) (no_design n2) = absurd (none_some n2 h1)
one_sim designs refusals never runs held asked a b (too_long t1 h1 l1) (too_long t2 h2 l2) = refl
one_sim designs refusals never runs held asked a b (too_long t1 h1 l1) (bad_design t2 f2 h2 w2 i2) = absurd (too_many t1 t2 (same_some h1 h2) l1 w2)
one_sim designs refusals never runs held asked a b (too_long t1 h1 l1) (no_stimulus x2 d2 m2) =
    absurd (too_many t1 d2.text (same_some h1 d2.holds) l1 d2.within)
one_sim designs refusals never runs held asked a b (too_long t1 h1 l1) (bad_header x2 t2 f2 d2 h2 i2) =
    absurd (too_many t1 d2.text (same_some h1 d2.holds) l1 d2.within)
one_sim designs refusals never runs held asked a b (too_long t1 h1 l1) (ran x2 t2 s2 o2 e2 c2 d2 h2 i2 r2) =
    absurd (too_many t1 d2.text (same_some h1 d2.holds) l1 d2.within)
one_sim designs refusals never runs held asked a b (bad_design t1 f1 h1 w1 i1) (no_design n2) = absurd (none_some n2 h1)
one_sim designs refusals never runs held asked a b (bad_design t1 f1 h1 w1 i1) (too_long t2 h2 l2) = absurd (too_many t2 t1 (same_some h2 h1) l2 w1)
one_sim designs refusals never runs held asked a b (bad_design t1 f1 h1 w1 i1) (bad_design t2 f2 h2 w2 i2) =
    refusals t2 asked.design f1 f2 (subst (λ (l : List ℕ). IsFlaw Fault IsFaultOf l f1) (same_some h1 h2) i1) i2
one_sim designs refusals never runs held asked a b (bad_design t1 f1 h1 w1 i1) (no_stimulus x2 d2 m2) =
    absurd (refused_design never held asked x2 t1 f1 d2 h1 i1)
one_sim designs refusals never runs held asked a b (bad_design t1 f1 h1 w1 i1) (bad_header x2 t2 f2 d2 h2 i2) =
    absurd (refused_design never held asked x2 t1 f1 d2 h1 i1)
one_sim designs refusals never runs held asked a b (bad_design t1 f1 h1 w1 i1) (ran x2 t2 s2 o2 e2 c2 d2 h2 i2 r2) =
    absurd (refused_design never held asked x2 t1 f1 d2 h1 i1)
one_sim designs refusals never runs held asked a b (no_stimulus x1 d1 m1) (no_design n2) = absurd (none_some n2 d1.holds)
one_sim designs refusals never runs held asked a b (no_stimulus x1 d1 m1) (too_long t2 h2 l2) =
    absurd (too_many t2 d1.text (same_some h2 d1.holds) l2 d1.within)
one_sim designs refusals never runs held asked a b (no_stimulus x1 d1 m1) (bad_design t2 f2 h2 w2 i2) =
    absurd (refused_design never held asked x1 t2 f2 d1 h2 i2)
one_sim designs refusals never runs held asked a b (no_stimulus x1 d1 m1) (no_stimulus x2 d2 m2) = refl
one_sim designs refusals never runs held asked a b (no_stimulus x1 d1 m1) (bad_header x2 t2 f2 d2 h2 i2) = absurd (none_some m1 h2)
one_sim designs refusals never runs held asked a b (no_stimulus x1 d1 m1) (ran x2 t2 s2 o2 e2 c2 d2 h2 i2 r2) = absurd (none_some m1 h2)
one_sim designs refusals never runs held asked a b (bad_header x1 t1 f1 d1 h1 i1) (no_design n2) = absurd (none_some n2 d1.holds)
one_sim designs refusals never runs held asked a b (bad_header x1 t1 f1 d1 h1 i1) (too_long t2 h2 l2) =
    absurd (too_many t2 d1.text (same_some h2 d1.holds) l2 d1.within)
one_sim designs refusals never runs held asked a b (bad_header x1 t1 f1 d1 h1 i1) (bad_design t2 f2 h2 w2 i2) =
    absurd (refused_design never held asked x1 t2 f2 d1 h2 i2)
one_sim designs refusals never runs held asked a b (bad_header x1 t1 f1 d1 h1 i1) (no_stimulus x2 d2 m2) = absurd (none_some m2 h1)
one_sim designs refusals never runs held asked a b (bad_header x1 t1 f1 d1 h1 i1) (bad_header x2 t2 f2 d2 h2 i2) =
    ap (stimulus_refusal [] asked.stimulus) (same_fault i1 (same_reading designs held asked x1 x2 t1 t2 d1 d2 h1 h2 ∙ i2))
one_sim designs refusals never runs held asked a b (bad_header x1 t1 f1 d1 h1 i1) (ran x2 t2 s2 o2 e2 c2 d2 h2 i2 r2) =
    absurd (fault_rows i1 (same_reading designs held asked x1 x2 t1 t2 d1 d2 h1 h2 ∙ i2))
one_sim designs refusals never runs held asked a b (ran x1 t1 s1 o1 e1 c1 d1 h1 i1 r1) (no_design n2) = absurd (none_some n2 d1.holds)
one_sim designs refusals never runs held asked a b (ran x1 t1 s1 o1 e1 c1 d1 h1 i1 r1) (too_long t2 h2 l2) =
    absurd (too_many t2 d1.text (same_some h2 d1.holds) l2 d1.within)
one_sim designs refusals never runs held asked a b (ran x1 t1 s1 o1 e1 c1 d1 h1 i1 r1) (bad_design t2 f2 h2 w2 i2) =
    absurd (refused_design never held asked x1 t2 f2 d1 h2 i2)
one_sim designs refusals never runs held asked a b (ran x1 t1 s1 o1 e1 c1 d1 h1 i1 r1) (no_stimulus x2 d2 m2) = absurd (none_some m2 h1)
one_sim designs refusals never runs held asked a b (ran x1 t1 s1 o1 e1 c1 d1 h1 i1 r1) (bad_header x2 t2 f2 d2 h2 i2) =
    absurd (fault_rows i2 (same_reading designs held asked x2 x1 t2 t1 d2 d1 h2 h1 ∙ i1))
one_sim designs refusals never runs held asked a b (ran x1 t1 s1 o1 e1 c1 d1 h1 i1 r1) (ran x2 t2 s2 o2 e2 c2 d2 h2 i2 r2) =
    same_ends runs held asked x1 x2 t1 s1 s2 o1 o2 e1 e2 c1 c2 d1 (same_design designs held asked.design x1 x2 d1 d2) i1
    (same_rows i1 (same_reading designs held asked x1 x2 t1 t2 d1 d2 h1 h2 ∙ i2)) r1 r2

-- ---- some answer

table : (ℕ → ℕ) → ℕ → ℕ → List ℕ
table f k zero = []
table f k (suc n) = f k ∷ table f (suc k) n

length-table : (f : ℕ → ℕ) (k n : ℕ) → length (table f k n) ≡ n
unfolding table
length-table f k zero = refl
length-table f k (suc n) = omega (arith, length-table f (suc k) n)

index-table : (f : ℕ → ℕ) (k n j : ℕ) → j < n → slice_index (table f k n) j ≡ f (k + j)
unfolding table
index-table f k zero j within = absurd (omega (arith, within))
index-table f k (suc n) zero within = let same : k ≡ k + 0 = omega arith in ap f same
index-table f k (suc n) (suc j) within = let same : suc k + j ≡ k + suc j = omega arith in index-table f (suc k) n j (omega (arith, within)) ∙ ap f same

counted_run : (x : Instrumented) (rows : List (List ℕ)) (r : Run ℕ) → circuit.IsRun (circuit_of x.design) rows r
    → IsRun x rows (printed x.design.outputs r) (run_end r) (table (counter_count x r) 0 x.counters)
counted_run x rows r is = record {
  run = r;
  is_run = is;
  prints = refl;
  ends = refl;
  as_many = length-table (counter_count x r) 0 x.counters;
  counted = λ k within. let same : 0 + k ≡ k = omega arith in index-table (counter_count x r) 0 x.counters k within ∙ ap (counter_count x r) same;
}

Answers : Names → Simulation → Type 0
Answers held asked = (answer : Answer) × IsSimAnswer held asked answer

of_stimulus : OneRun → (held : Names) (asked : Simulation) (x : Instrumented) → HoldsDesign held asked.design x → Answers held asked
unfolding Answers
of_stimulus runs held asked x d = by (held asked.stimulus) refl
  where
    read : (text : List ℕ) → held asked.stimulus ≡ Some text → (r : Result StimText StimFault) → stimulus_of (inputs_of x.design) text ≡ r → Answers held asked
    read text holds (Err flaw) is = (stimulus_refusal [] asked.stimulus flaw, bad_header x text flaw d holds is)
    read text holds (Ok stim) is =
        let one = one_run_of runs held asked.design x text stim d is in
        (_, ran x text stim _ _ _ d holds is (counted_run x (values_of stim.rows) one.0 one.1))

    by : (o : Option (List ℕ)) → held asked.stimulus ≡ o → Answers held asked
    by None lacks = (absent asked.stimulus, no_stimulus x d lacks)
    by (Some text) holds = read text holds (stimulus_of (inputs_of x.design) text) refl

of_design : DesignOrFlaw → OneRun → (held : Names) (asked : Simulation) (text : List ℕ) → held asked.design ≡ Some text → Answers held asked
unfolding Answers
of_design texts runs held asked text holds = by (nat_lt (most CvdBytes) (length text)) refl
  where
    by : (b : Bool) → nat_lt (most CvdBytes) (length text) ≡ b → Answers held asked
    by true many = (over_limit CvdBytes, too_long text holds (ltb-true (most CvdBytes) (length text) many))
    by false few =
        let within = ltb-false (most CvdBytes) (length text) few in
        elim (texts text) [
          | inl one ↦ of_stimulus runs held asked one.0 (record { text = text; holds = holds; within = within; spelled = one.1; flows = one.2 })
          | inr flaw ↦ (design_refusal asked.design flaw.0, bad_design text flaw.0 holds within flaw.1)
        ]

pub has_an_answer : HasAnAnswer
unfolding Answers
has_an_answer texts runs held asked = by (held asked.design) refl
  where
    by : (o : Option (List ℕ)) → held asked.design ≡ o → Answers held asked
    by None lacks = (absent asked.design, no_design lacks)
    by (Some text) holds = of_design texts runs held asked text holds
