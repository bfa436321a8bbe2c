-- Which processes may be passed over: each variable is as it was, or all that read it are marked.
use Rattle.std.proofs.Common.{◌≡◌, ◌≢◌, ◌∙◌, sym, ap, subst, refl, ℕ, zero, suc, ◌+◌, ◌-◌, ◌*◌, ◌<◌, ◌≤◌, ◌==◌, ◌⊎◌}
use Rattle.std.proofs.Common.{inl, inr, Bool, true, false, List, [], length, arith}
use Rattle.std.specs.Prelude.{All, Any, Contains, IsTrue, slice_index, slice_index_or}
use Rattle.std.specs.List.{list_any}
use Rattle.std.specs.Int.{bit_at}
use Rattle.std.proofs.lemmas.Bool.{cases_Bool, eq-eqb}
use Rattle.std.proofs.lemmas.Bool.Decides.{nat_tests}
use Rattle.std.proofs.lemmas.List.{ext_get_or}
use Rattle.std.proofs.lemmas.List.Folds.{Any-from_list_any, list_any_at}
use Rattle.design_tree.specs.declared.design.Design.{Design}
use Rattle.circuit_run.specs.States.{State, Bit, bit, held, AreWordsOf}
use Rattle.design_meaning.specs.States.{IsBitOf, IsStateOf, var_of}
use Rattle.design_meaning.specs.Reach.{drives}
use Rattle.design_meaning.specs.Valid.{IsValidDesign}
use Rattle.design_meaning.specs.FlowFaults.{Flows}
use Rattle.design_meaning.specs.Orders.{IsOrder}
use Rattle.design_meaning.specs.RunLaws.{after}
use Rattle.design_meaning.proofs.FlowFacts.{Settling}
use Rattle.design_meaning.proofs.StateBits.{bits_tell_words}
use Rattle.design_meaning.proofs.StateKeeps.{outside}
use Rattle.design_meaning.proofs.RunTheorems.{runs_keep_states}
use Rattle.design_meaning.proofs.Frame.{leaves_others}
use Rattle.flow_order.specs.declared.mask.WordMask.{WordMask}
use Rattle.flow_order.specs.Orders.{AreReadsOf, HasChanged, OrderOf}
use Rattle.cycle_laws.proofs.EdgeEnds.{is_bit}
use Rattle.place_marks.specs.Marked.{is_marked}
use Rattle.cycle_parts.specs.Raised.{Raised}
use Rattle.cycle_wakes.specs.Changes.{Changes, HasRoom, HasRoomFor, IsNoted, IsQuiet, KeepsMarks}
use Rattle.cycle_wakes.specs.Wakes.{AreWakesOf, DrivesAll, Wakes, readers_of, targets_of}
use Rattle.cycle_wakes.proofs.Noting.{QuietOrNoted, still_noted}
use Rattle.cycle_settle.specs.Settling.{Follows, HasNoted, IsRan, IsSkipped}
use Rattle.cycle_settle.proofs.Middle.{Middle, in_design, one_run, one_skip}

-- ---- lists

of_contained : (P : ℕ → Type 0) (xs : List ℕ) (x : ℕ) → All P xs → Contains xs x → P x
of_contained P xs x h c = subst P c.2 (h c.0 x c.1)

-- a number is in a list, or it isn't
contained : (xs : List ℕ) (x : ℕ) → Contains xs x ⊎ (Contains xs x → ⊥)
contained xs x = elim (cases_Bool (list_any (λ y. y == x) xs)) [
  | inl e ↦ inl (found (Any-from_list_any (λ y. y == x) xs e))
  | inr e ↦ inr (λ c. cc (e, list_any_at (λ y. y == x) xs c.0 x c.1 (eq-eqb (slice_index_or xs c.0 x) x c.2)))
]
  where
    same : (y : ℕ) → (y == x) ≡ true → y ≡ x
    same y h = grind (arith, nat_tests)

    found : Any (λ y. (y == x) ≡ true) xs → Contains xs x
    found a = subst (Contains xs) (same a.1 a.4) (a.0, a.2, a.3)

-- ---- a variable by its bits

quiet_bits : (d : Design) (s t : State) (v : ℕ) → IsStateOf d s → IsStateOf d t → v < length d.vars
    → ((b : Bit) → IsBitOf d b → b.var ≡ v → bit s b ≡ bit t b) → IsQuiet s t v
quiet_bits d s t v hs ht lt same =
    let a : AreWordsOf (var_of d v) (held s v) = hs.each v lt in
    let c : AreWordsOf (var_of d v) (held t v) = ht.each v lt in
    let words : (held s v).words ≡ (held t v).words = ext_get_or 0 (held s v).words (held t v).words (a.as_many ∙ sym c.as_many) (λ w hw.
    bits_tell_words d s t v w hs ht lt
    (λ i hi. same (record { var = v; word = w; place = i }) (record { of_variable = lt; of_word = omega (arith, hw, a.as_many); in_width = hi }) refl)) in
    λ k. record { width = (a.as_wide ∙ sym c.as_wide) k; words = words k }

quiet_bit : (s t : State) (b : Bit) → IsQuiet s t b.var → bit s b ≡ bit t b
quiet_bit s t b q = ap (λ h. bit_at (slice_index h.words b.word) b.place) q

-- ---- room

pub room_for : (d : Design) (order : List ℕ) (w : Wakes) (c : Changes) → AreWakesOf d order w → HasRoom (length order) (length d.vars) c → HasRoomFor w c
room_for d order w c are room = record {
  vars = omega (arith, are.many_variables, room.vars);
  places = λ v k x lt. omega (arith, are.readers_in v k x lt, room.places);
}

pub room_kept : (places vars : ℕ) (a b : Changes) → KeepsMarks a b → HasRoom places vars a → HasRoom places vars b
room_kept places vars a b h r = record { places = omega (arith, h.room_places, r.places); vars = omega (arith, h.room_vars, r.vars) }

-- ---- what is known of all variables

abbrev pub AreKnown : Design → Wakes → State → State → Changes → Type 0
AreKnown d w now before c = (v : ℕ) → v < length d.vars → QuietOrNoted w now before c v

module _ (d : Design) (order : List ℕ) (w : Wakes) (are : AreWakesOf d order w) (before : State) (hs : IsStateOf d before) where
  -- at the start: what processes of the order drive is as it was, and each other variable was compared
  pub known_first : (now : State) (kept : List Raised) (c : Changes) → IsStateOf d now → Follows d before now kept
      → All (λ v. IsQuiet now before v ⊎ IsNoted w c v) w.sources → AreKnown d w now before c
  known_first now kept c hn follows noted v lt = elim (are.sources v lt) [
    | inl listed ↦ of_contained (λ v. IsQuiet now before v ⊎ IsNoted w c v) w.sources v noted listed
    | inr driven ↦ inl (quiet_bits d now before v hn hs lt (λ b hb e. follows.alike driven.0 b driven.1.settling hb (driven.1.all b hb e)))
  ]

  -- after a run of a process whose targets are noted
  pub known_run : IsValidDesign d → (p : ℕ) (now : State) (a c : Changes) → IsStateOf d now → p < length d.processes → HasNoted w p a c
      → AreKnown d w now before a → AreKnown d w (after d p now) before c
  known_run valid p now a c hn lt noted known v lv = elim (known v lv) [
    | inr old ↦ inr (still_noted w a c v noted.keeps old)
    | inl quiet ↦ elim (contained (targets_of w p) v) [
      | inl target ↦ inr (of_contained (IsNoted w c) (targets_of w p) v noted.noted target)
      | inr none ↦ inl (quiet_bits d (after d p now) now v (runs_keep_states d p now valid hn) hn lv
          (λ b hb e. leaves_others d p now b valid hn hb (undriven b hb e none))
          ∙ quiet)
    ]
  ]
    where
      undriven : (b : Bit) → IsBitOf d b → b.var ≡ v → (Contains (targets_of w p) v → ⊥) → drives d p b ≡ false
      undriven b hb e none = elim (cases_Bool (drives d p b)) [
        | inl dr ↦ absurd (none (subst (Contains (targets_of w p)) e (are.driven p b lt hb dr)))
        | inr no' ↦ no'
      ]

  -- a process whose place isn't marked reads nothing that differs
  pub idle_at : (reads : List (List WordMask)) → AreReadsOf d reads → IsOrder d order → (now : State) (c : Changes) → IsStateOf d now → AreKnown d w now
      before c
      → (k : ℕ) → k < length order → is_marked c.places k ≡ false → HasChanged (slice_index_or reads (slice_index_or order k 0) []) now before → ⊥
  idle_at reads read io now c hn known k lt unmarked h = elim (is_bit d h.0) [
    | inr n ↦ h.2 (outside d now h.0 hn n ∙ sym (outside d before h.0 hs n))
    | inl hb ↦ elim (known h.0.var hb.of_variable) [
      | inl quiet ↦ h.2 (quiet_bit now before h.0 quiet)
      | inr noted ↦ cc (
        unmarked,
        of_contained (λ k. IsTrue (is_marked c.places k)) (readers_of w h.0.var) k noted.woken
            (are.read k h.0 lt hb (sym (read.read (slice_index_or order k 0) h.0 (io.only k 0 lt) hb) ∙ h.1)),
      )
    ]
  ]

-- ---- places that are passed over

module _ (d : Design) (valid : IsValidDesign d) (flows : Flows d) (order : List ℕ) (io : IsOrder d order) (all : Bool) (before final now : State)
    (kept : List Raised) (old new : ℕ) (reads : List (List WordMask)) (read : AreReadsOf d reads) (hs : IsStateOf d before) where
  passed : (n gap : ℕ) → n + gap ≤ length order → (gap ≢ 0 → (all ≡ false) × ((q : ℕ) → Settling d q → after d q before ≡ before))
      → ((k : ℕ) → n ≤ k → k < n + gap → HasChanged (slice_index_or reads (slice_index_or order k 0) []) now before → ⊥)
      → Middle all d order before final n now kept old new → Middle all d order before final (n + gap) now kept old new
  passed n zero within goes idle m = subst (λ j. Middle all d order before final j now kept old new) (none n) m
    where
      none : (n : ℕ) → n ≡ n + 0
      none n = omega arith
  passed n (suc gap) within goes idle m = subst (λ j. Middle all d order before final j now kept old new) (more n gap)
      (one_skip d valid flows order io (n + gap) (omega (arith, within)) all before final now kept old new
      (passed n gap (omega (arith, within)) (λ ne. goes (λ e. omega (arith, e))) (λ k le lt. idle k le (omega (arith, lt))) m)
      reads read hs (goes (λ e. omega (arith, e))).0 (goes (λ e. omega (arith, e))).1 (idle (n + gap) (omega arith) (omega arith)))
    where
      more : (n gap : ℕ) → n + gap + 1 ≡ n + suc gap
      more n gap = omega arith

  pub passed_to : (n at : ℕ) → n ≤ at → at ≤ length order → (n < at → (all ≡ false) × ((q : ℕ) → Settling d q → after d q before ≡ before))
      → ((k : ℕ) → n ≤ k → k < at → HasChanged (slice_index_or reads (slice_index_or order k 0) []) now before → ⊥)
      → Middle all d order before final n now kept old new → Middle all d order before final at now kept old new
  passed_to n at le within goes idle m = subst (λ j. Middle all d order before final j now kept old new) (sum n at le)
      (passed n (at - n) (omega (arith, within, le)) (λ ne. goes (omega (arith, le, ne))) (λ k l lt. idle k l (omega (arith, lt, le))) m)
    where
      sum : (n at : ℕ) → n ≤ at → n + (at - n) ≡ at
      sum n at le = omega (arith, le)

-- ---- how settling stands at a place

pub record Stands (all : Bool) (d : Design) (order : List ℕ) (w : Wakes) (before final : State) (n : ℕ) (now : State) (kept : List Raised) (old new : ℕ)
    (c : Changes) : Type 0 where
  pub middle : Middle all d order before final n now kept old new
  pub known : all ≡ false → AreKnown d w now before c
  pub room : HasRoom (length order) (length d.vars) c

module _ (d : Design) (valid : IsValidDesign d) (flows : Flows d) (order : List ℕ) (io : IsOrder d order) (w : Wakes) (are : AreWakesOf d order w)
    (all : Bool) (before final : State) (hs : IsStateOf d before) (whole : OrderOf) (read : AreReadsOf d whole.reads) (old : ℕ)
    (still : all ≡ false → (q : ℕ) → Settling d q → after d q before ≡ before) where
  -- over places that aren't marked
  pub stands_on : (n at : ℕ) (now : State) (kept : List Raised) (new : ℕ) (c : Changes) → n ≤ at → at ≤ length order
      → ((k : ℕ) → n ≤ k → k < at → (all ≡ false) × (is_marked c.places k ≡ false)) → Stands all d order w before final n now kept old new c
      → Stands all d order w before final at now kept old new c
  stands_on n at now kept new c le within between s = record {
    middle = passed_to d valid flows order io all before final now kept old new whole.reads read hs n at le within
        (λ lt. ((between n (omega arith) lt).0, still (between n (omega arith) lt).0))
        (λ k l lt. idle_at d order w are before hs whole.reads read io now c s.middle.of (s.known (between k l lt).0) k (omega (arith, lt, within))
        (between k l lt).1)
        s.middle;
    known = s.known;
    room = s.room;
  }

  -- where the process at the place was run or skipped
  pub stands_one : (n : ℕ) → n < length order → (now now_new : State) (kept kept_new : List Raised) (ticks ticks_new : ℕ) (c c_new : Changes)
      → (IsRan all d whole (slice_index_or order n 0) before now now_new kept kept_new ticks ticks_new × HasNoted w (slice_index_or order n 0) c c_new)
      ⊎ (IsSkipped all whole (slice_index_or order n 0) before now now_new kept kept_new ticks ticks_new × (c_new ≡ c))
      → Stands all d order w before final n now kept old ticks c → Stands all d order w before final (n + 1) now_new kept_new old ticks_new c_new
  stands_one n lt now now_new kept kept_new ticks ticks_new c c_new (inl ran) s = record {
    middle = subst (Middle all d order before final (n + 1) now_new kept_new old) (sym ran.0.ticked)
        (one_run d valid flows order io n lt all before final now kept old ticks s.middle whole.reads now_new kept_new read hs there ran.0.wanted ran.0.run);
    known = λ e. subst (λ t. AreKnown d w t before c_new) (sym ran.0.run.state)
        (known_run d order w are before hs valid (slice_index_or order n 0) now c c_new s.middle.of there ran.1 (s.known e));
    room = room_kept (length order) (length d.vars) c c_new ran.1.keeps s.room;
  }
    where
      there : slice_index_or order n 0 < length d.processes
      there = in_design d (slice_index_or order n 0) (io.only n 0 lt)
  stands_one n lt now now_new kept kept_new ticks ticks_new c c_new (inr skipped) s = record {
    middle = subst (λ t. Middle all d order before final (n + 1) t kept_new old ticks_new) (sym skipped.0.state)
        (subst (λ k. Middle all d order before final (n + 1) now k old ticks_new) (sym skipped.0.raised)
        (subst (Middle all d order before final (n + 1) now kept old) (sym skipped.0.ticked)
        (one_skip d valid flows order io n lt all before final now kept old ticks s.middle whole.reads read hs skipped.0.goes_on
        (still skipped.0.goes_on) skipped.0.idle)));
    known = λ e. subst (λ t. AreKnown d w t before c_new) (sym skipped.0.state) (subst (AreKnown d w now before) (sym skipped.1) (s.known e));
    room = subst (HasRoom (length order) (length d.vars)) (sym skipped.1) s.room;
  }
