-- Settling in the middle: the first n processes of the order have been run or skipped.
use Rattle.std.proofs.Common.{◌≡◌, ◌≢◌, ◌∙◌, sym, ap, subst, refl, ℕ, zero, suc, ◌+◌, ◌<◌, ◌≤◌, ◌⊎◌, inl, inr, Bool, true, false, true≢false, List, [], ◌∷◌}
use Rattle.std.proofs.Common.{◌++◌, length, take, drop, arith}
use Rattle.std.specs.Prelude.{All, AllPairs, Contains, IsTrue, slice_index_or, slice_set}
use Rattle.std.proofs.lemmas.Bool.{cases_Bool, cases_eq, cases_lt}
use Rattle.std.proofs.lemmas.List.{get_or-set_same, get_or-set_other, length-set, get_or_default, get_or-drop, drop_more, drop_all, get_or_past, length-drop}
use Rattle.design_tree.specs.declared.design.Process.{Process}
use Rattle.design_tree.specs.declared.design.Design.{Design}
use Rattle.circuit_run.specs.States.{State, Bit, bit}
use Rattle.circuit_run.specs.Kinds.{settles}
use Rattle.design_meaning.specs.States.{IsBitOf, IsStateOf}
use Rattle.design_meaning.specs.Steps.{run_of}
use Rattle.design_meaning.specs.Processes.{process_of, kind_of, no_process}
use Rattle.design_meaning.specs.Reach.{drives}
use Rattle.design_meaning.specs.Valid.{IsValidDesign}
use Rattle.design_meaning.specs.FlowFaults.{Flows}
use Rattle.design_meaning.specs.Orders.{IsOrder}
use Rattle.design_meaning.specs.RunLaws.{after, SameEffects}
use Rattle.design_meaning.specs.SettledLaws.{after_all}
use Rattle.design_meaning.proofs.FlowFacts.{Settling, alone}
use Rattle.design_meaning.proofs.OrderSettles.{NoneDrives}
use Rattle.design_meaning.proofs.Listed.{by_recursion}
use Rattle.design_meaning.proofs.StateKeeps.{outside}
use Rattle.design_meaning.proofs.RunTheorems.{runs_keep_states}
use Rattle.design_meaning.proofs.Frame.{leaves_others}
use Rattle.flat_design.specs.Effects.{room_of}
use Rattle.flow_order.specs.declared.mask.WordMask.{WordMask}
use Rattle.flow_order.specs.Orders.{AreReadsOf, HasChanged}
use Rattle.cycle_laws.specs.Chains.{IsIdle}
use Rattle.cycle_laws.proofs.Idle.{idle_stays, rest_leaves_reads, rest_leaves}
use Rattle.cycle_laws.proofs.EdgeEnds.{is_bit}
use Rattle.cycle_parts.specs.Raised.{Raised, none_raised}
use Rattle.cycle_settle.specs.Settling.{kept_of, HasRooms, raised_by, AreRaised, Follows, IsActive, ActiveIn, IsRun}

-- the process at a place of the order
abbrev at : List ℕ → ℕ → ℕ
at order j = slice_index_or order j 0

-- the first n of the order may have ticked
pub record Ticked (all : Bool) (d : Design) (order : List ℕ) (before final : State) (n old new : ℕ) : Type 0 where
  pub ran : List ℕ
  pub once : AllPairs (λ p q. p ≢ q) ran
  pub settling : All (λ p. IsTrue (settles (kind_of d p))) ran
  pub active : All (ActiveIn all d before final) ran
  pub few : new ≤ old + length ran
  pub listed : All (λ p. (j : ℕ) × (j < n) × (p ≡ slice_index_or order j 0)) ran

pub record Middle (all : Bool) (d : Design) (order : List ℕ) (before final : State) (n : ℕ) (now : State) (kept : List Raised) (old new : ℕ) : Type 0 where
  pub of : IsStateOf d now
  pub ends : after_all d (drop n order) now ≡ final
  pub alike : all ≡ false → (j : ℕ) → n ≤ j → j < length order → (b : Bit) → IsBitOf d b → IsTrue (drives d (slice_index_or order j 0) b)
      → bit now b ≡ bit before b
  pub done : (j : ℕ) → j < n → j < length order → (kept_of kept (slice_index_or order j 0)).counters ≡ raised_by d (slice_index_or order j 0) final
  pub ahead : all ≡ false → (j : ℕ) → n ≤ j → j < length order
      → (kept_of kept (slice_index_or order j 0)).counters ≡ raised_by d (slice_index_or order j 0) before
  pub rooms : HasRooms d kept
  pub ticked : Ticked all d order before final n old new

-- ---- lists

take_drop : {X : Type 0} (n : ℕ) (xs : List X) → xs ≡ take n xs ++ drop n xs
take_drop zero xs = refl
take_drop (suc n) [] = refl
take_drop (suc n) (x ∷ xs) = ap (λ ys. x ∷ ys) (take_drop n xs)

cons_all : {X : Type 0} (P : X → Type 0) (x : X) (xs : List X) → P x → All P xs → All P (x ∷ xs)
cons_all P x xs h k zero d lt = h
cons_all P x xs h k (suc i) d lt = k i d (omega (arith, lt))

none_all : {X : Type 0} (P : X → Type 0) → All P []
none_all P k d lt = absurd (omega (arith, lt))

cons_pairs : (x : ℕ) (xs : List ℕ) → All (λ y. x ≢ y) xs → AllPairs (λ p q. p ≢ q) xs → AllPairs (λ p q. p ≢ q) (x ∷ xs)
cons_pairs x xs h k zero zero d i j = absurd (omega (arith, i))
cons_pairs x xs h k zero (suc j) d lt m = h j d (omega (arith, m))
cons_pairs x xs h k (suc i) zero d lt m = absurd (omega (arith, lt))
cons_pairs x xs h k (suc i) (suc j) d lt m = k i j d (omega (arith, lt)) (omega (arith, m))

all_map : {X : Type 0} (P Q : X → Type 0) (xs : List X) → ((x : X) → P x → Q x) → All P xs → All Q xs
all_map P Q xs f h k d lt = f (slice_index_or xs k d) (h k d lt)

abbrev Apart : ℕ → ℕ → Type 0
Apart p q = p ≢ q

no_pairs : AllPairs Apart []
no_pairs i j d lt m = absurd (omega (arith, m))

-- ---- what is kept

set_kept : (d : Design) (kept : List Raised) (p : ℕ) (x : Raised) → HasRooms d kept → p < length d.processes → kept_of (slice_set kept p x) p ≡ x
set_kept d kept p x r lt = get_or-set_same kept p x (none_raised 0) (omega (arith, lt, r.as_many))

other_kept : (kept : List Raised) (p q : ℕ) (x : Raised) → p ≢ q → kept_of (slice_set kept p x) q ≡ kept_of kept q
other_kept kept p q x ne = get_or-set_other kept p q x (none_raised 0) (λ e. ne (sym e))

set_rooms : (d : Design) (kept : List Raised) (p : ℕ) (counters : List ℕ) → HasRooms d kept → p < length d.processes
    → HasRooms d (slice_set kept p (record (kept_of kept p) { counters = counters }))
set_rooms d kept p counters r lt = record {
  as_many = length-set kept p new ∙ r.as_many;
  rooms = λ q l. elim (cases_eq p q) [
    | inl e ↦ subst (λ q. (kept_of (slice_set kept p new) q).room ≡ (room_of d (process_of d q)).counters) e
        (ap (λ k. k.room) (set_kept d kept p new r lt) ∙ r.rooms p lt)
    | inr ne ↦ ap (λ k. k.room) (other_kept kept p q new ne) ∙ r.rooms q l
  ];
}
  where
    new : Raised
    new = record (kept_of kept p) { counters = counters }

-- ---- the start

pub begins : (all : Bool) (d : Design) (order : List ℕ) (before now : State) (kept : List Raised) (ticks : ℕ) → IsOrder d order → IsStateOf d now
    → (all ≡ false → Follows d before now kept) → HasRooms d kept → Middle all d order before (after_all d order now) 0 now kept ticks ticks
begins all d order before now kept ticks io of follows rooms = record {
  of = of;
  ends = refl;
  alike = λ e j from lt b hb dp. (follows e).alike (slice_index_or order j 0) b (io.only j 0 lt) hb dp;
  done = λ j lt l. absurd (omega (arith, lt));
  ahead = λ e j from lt. (follows e).raised (slice_index_or order j 0) (io.only j 0 lt);
  rooms = rooms;
  ticked = record { ran = []; once = no_pairs; settling = none_all _; active = none_all _; few = omega arith; listed = none_all _ };
}

-- ---- one process more

module _ (d : Design) (valid : IsValidDesign d) (flows : Flows d) (order : List ℕ) (io : IsOrder d order) (n : ℕ) (lt : n < length order) where
  abbrev p : ℕ
  p = slice_index_or order n 0

  abbrev rest : List ℕ
  rest = drop (n + 1) order

  pub settling : Settling d (slice_index_or order n 0)
  settling = io.only n 0 lt

  split : order ≡ take n order ++ p ∷ rest
  split = take_drop n order ∙ ap (λ xs. take n order ++ xs) (drop_more order n 0 lt)

  apart : (j : ℕ) → n < j → j < length order → p ≢ slice_index_or order j 0
  apart j less l = io.once n j 0 less l

  apart_before : (j : ℕ) → j < n → p ≢ slice_index_or order j 0
  apart_before j less e = io.once j n 0 less lt (sym e)

  -- no bit that one ahead drives
  not_driven : (j : ℕ) (b : Bit) → n < j → j < length order → IsBitOf d b → IsTrue (drives d (slice_index_or order j 0) b) → drives d p b ≡ false
  not_driven j b less l hb dq = elim (cases_Bool (drives d p b)) [
    | inl dp ↦ absurd (apart j less l (alone d flows p (slice_index_or order j 0) b settling (io.only j 0 l) hb dp dq))
    | inr no' ↦ no'
  ]

  module _ (all : Bool) (before final now : State) (kept : List Raised) (old new : ℕ) (m : Middle all d order before final n now kept old new) where
    ends_here : after_all d (p ∷ rest) now ≡ final
    ends_here = ap (λ xs. after_all d xs now) (sym (drop_more order n 0 lt)) ∙ m.ends

    -- it raises here what it raises in the settled state
    raises : raised_by d p now ≡ raised_by d p final
    raises = (rest_leaves_reads d order (take n order) rest p now valid flows io split m.of).2 ∙ ap (raised_by d p) ends_here

    -- a bit in which the states differ is driven by none that is left
    none_ahead : all ≡ false → (b : Bit) → IsBitOf d b → bit now b ≢ bit before b → NoneDrives d b (drop n order)
    none_ahead e b hb ne = by_recursion (λ q. drives d q b ≡ false) (drop n order) (λ k x l.
        let here : n + k < length order = dropped k l in
        subst (λ q. drives d q b ≡ false) (get_or_default order (n + k) 0 x here ∙ sym (get_or-drop n order k x))
        (elim (cases_Bool (drives d (slice_index_or order (n + k) 0) b)) [
          | inl dq ↦ absurd (ne (m.alike e (n + k) (omega arith) here b hb dq))
          | inr no' ↦ no'
        ]))
      where
        dropped : (k : ℕ) → k < length (drop n order) → n + k < length order
        dropped k l = omega (arith, l, lt, length-drop n order)

    module _ (reads : List (List WordMask)) (are : AreReadsOf d reads) (hs : IsStateOf d before) where
      is_active : all ≡ false → HasChanged (slice_index_or reads p []) now before → IsActive d before final p
      is_active e h = elim (is_bit d h.0) [
        | inr n ↦ absurd (h.2 (outside d now h.0 m.of n ∙ sym (outside d before h.0 hs n)))
        | inl hb ↦ record {
          differs = h.0;
          here = hb;
          read = sym (are.read p h.0 settling hb) ∙ h.1;
          apart = λ same. h.2 (sym (rest_leaves d valid flows (drop n order) now h.0 m.of hb (none_ahead e h.0 hb h.2)) ∙ ap (λ s. bit s h.0) m.ends ∙ same);
        }
      ]

      wanted : (c : Bool) → all ≡ c → (c ≡ true) ⊎ HasChanged (slice_index_or reads p []) now before → ActiveIn c d before final p
      wanted true e w = tt
      wanted false e w = elim w [
        | inl t ↦ absurd (true≢false (sym t))
        | inr h ↦ is_active e h
      ]

      active_here : (all ≡ true) ⊎ HasChanged (slice_index_or reads p []) now before → ActiveIn all d before final p
      active_here w = wanted all refl w

    -- where it is run
    pub one_run : (reads : List (List WordMask)) (after_it : State) (kept_new : List Raised) → AreReadsOf d reads → IsStateOf d before → p < length d.processes
        → (all ≡ true) ⊎ HasChanged (slice_index_or reads p []) now before → IsRun d p now after_it kept kept_new
        → Middle all d order before final (n + 1) after_it kept_new old (new + 1)
    one_run reads after_it kept_new are hs there w run = subst (λ s. Middle all d order before final (n + 1) s kept_new old (new + 1)) (sym run.state)
        (subst (λ k. Middle all d order before final (n + 1) (after d p now) k old (new + 1)) (sym run.raised) here)
      where
        x : Raised
        x = record (kept_of kept (slice_index_or order n 0)) { counters = raised_by d (slice_index_or order n 0) now }

        kept_one : (j : ℕ) → j < n + 1 → j < length order → (kept_of (slice_set kept (slice_index_or order n 0) x) (slice_index_or order j 0)).counters
            ≡ raised_by d (slice_index_or order j 0) final
        kept_one j less l = elim (cases_lt j n) [
          | inl before_it ↦ ap (λ k. k.counters) (other_kept kept (slice_index_or order n 0) (slice_index_or order j 0) x (apart_before j before_it))
              ∙ m.done j before_it l
          | inr not_before ↦ (let e : n ≡ j = omega (arith, less, not_before) in
              subst (λ j. (kept_of (slice_set kept (slice_index_or order n 0) x) (slice_index_or order j 0)).counters
              ≡ raised_by d (slice_index_or order j 0) final) e
              (ap (λ k. k.counters) (set_kept d kept (slice_index_or order n 0) x m.rooms there) ∙ raises))
        ]

        here : Middle all d order before final (n + 1) (after d (slice_index_or order n 0) now) (slice_set kept (slice_index_or order n 0) x) old (new + 1)
        here = record {
          of = runs_keep_states d (slice_index_or order n 0) now valid m.of;
          ends = ends_here;
          alike = λ e j from l b hb dq. leaves_others d (slice_index_or order n 0) now b valid m.of hb (not_driven j b (omega (arith, from)) l hb dq)
              ∙ m.alike e j (omega (arith, from)) l b hb dq;
          done = kept_one;
          ahead = λ e j from l. ap (λ k. k.counters) (other_kept kept (slice_index_or order n 0) (slice_index_or order j 0) x (apart j (omega (arith, from)) l))
              ∙ m.ahead e j (omega (arith, from)) l;
          rooms = set_rooms d kept (slice_index_or order n 0) (raised_by d (slice_index_or order n 0) now) m.rooms there;
          ticked = record {
            ran = slice_index_or order n 0 ∷ m.ticked.ran;
            once = cons_pairs (slice_index_or order n 0) m.ticked.ran
                (all_map (λ q. (j : ℕ) × (j < n) × (q ≡ slice_index_or order j 0)) (λ q. slice_index_or order n 0 ≢ q) m.ticked.ran
                (λ q h. λ e. apart_before h.0 h.1 (e ∙ h.2)) m.ticked.listed) m.ticked.once;
            settling = cons_all (λ q. IsTrue (settles (kind_of d q))) (slice_index_or order n 0) m.ticked.ran settling m.ticked.settling;
            active = cons_all (ActiveIn all d before final) (slice_index_or order n 0) m.ticked.ran (active_here reads are hs w) m.ticked.active;
            few = omega (arith, m.ticked.few);
            listed = cons_all (λ q. (j : ℕ) × (j < n + 1) × (q ≡ slice_index_or order j 0)) (slice_index_or order n 0) m.ticked.ran (n, omega arith, refl)
                (all_map (λ q. (j : ℕ) × (j < n) × (q ≡ slice_index_or order j 0)) (λ q. (j : ℕ) × (j < n + 1) × (q ≡ slice_index_or order j 0)) m.ticked.ran
                (λ q h. (h.0, omega (arith, h.1), h.2)) m.ticked.listed);
          };
        }

    -- where it is skipped
    pub one_skip : (reads : List (List WordMask)) → AreReadsOf d reads → IsStateOf d before → all ≡ false → ((q : ℕ) → Settling d q → after d q before ≡ before)
        → (HasChanged (slice_index_or reads p []) now before → ⊥) → Middle all d order before final (n + 1) now kept old new
    one_skip reads are hs e still idle = record {
      of = m.of;
      ends = ap (λ s. after_all d rest s) (sym (stays.0)) ∙ ends_here;
      alike = λ e j from l. m.alike e j (omega (arith, from)) l;
      done = λ j less l. elim (cases_lt j n) [
        | inl before_it ↦ m.done j before_it l
        | inr not_before ↦ (let same : n ≡ j = omega (arith, less, not_before) in
            subst (λ j. (kept_of kept (slice_index_or order j 0)).counters ≡ raised_by d (slice_index_or order j 0) final) same
            (m.ahead e n (omega arith) lt ∙ stays.1.2 ∙ raises))
      ];
      ahead = λ e j from l. m.ahead e j (omega (arith, from)) l;
      rooms = m.rooms;
      ticked = record {
        ran = m.ticked.ran;
        once = m.ticked.once;
        settling = m.ticked.settling;
        active = m.ticked.active;
        few = m.ticked.few;
        listed = all_map (λ q. (j : ℕ) × (j < n) × (q ≡ slice_index_or order j 0)) (λ q. (j : ℕ) × (j < n + 1) × (q ≡ slice_index_or order j 0)) m.ticked.ran
            (λ q h. (h.0, omega (arith, h.1), h.2)) m.ticked.listed;
      };
    }
      where
        is_idle : IsIdle d (slice_index_or order n 0) before now
        is_idle = record {
          read = λ b hb r. elim (cases_eq (bit now b) (bit before b)) [
            | inl same ↦ same
            | inr ne ↦ absurd (idle (b, are.read (slice_index_or order n 0) b settling hb ∙ r, ne))
          ];
          driven = λ b hb dp. m.alike e n (omega arith) lt b hb dp;
        }

        stays : (after d (slice_index_or order n 0) now
            ≡ now) × SameEffects (run_of (process_of d (slice_index_or order n 0)) before) (run_of (process_of d (slice_index_or order n 0)) now)
        stays = idle_stays d (slice_index_or order n 0) before now valid flows hs m.of settling (still (slice_index_or order n 0) settling) is_idle

-- ---- the end

pub at_end : (all : Bool) (d : Design) (order : List ℕ) (before final now : State) (n : ℕ) (kept : List Raised) (old new : ℕ) → length order ≤ n
    → Middle all d order before final n now kept old new → now ≡ final
at_end all d order before final now n kept old new past m = ap (λ xs. after_all d xs now) (sym (drop_all n order past)) ∙ m.ends

pub all_raised : (all : Bool) (d : Design) (order : List ℕ) (before final now : State) (n : ℕ) (kept : List Raised) (old new : ℕ) → IsOrder d order
    → length order ≤ n
    → Middle all d order before final n now kept old new → AreRaised d final kept
all_raised all d order before final now n kept old new io past m p sp =
    let c : Contains order p = io.all p sp in
    subst (λ q. (kept_of kept q).counters ≡ raised_by d q final) (get_or_default order c.0 0 p c.1 ∙ c.2) (m.done c.0 (omega (arith, c.1, past)) c.1)

-- an assignment or a combinational process is one of the design
pub in_design : (d : Design) (p : ℕ) → Settling d p → p < length d.processes
in_design d p sp = elim (cases_lt p (length d.processes)) [
  | inl lt ↦ lt
  | inr past ↦ absurd (true≢false (sym sp ∙ ap (λ (x : Process). settles x.kind) (get_or_past d.processes p no_process past)))
]
