-- Handing names down.
use Rattle.std.proofs.Common.{◌≡◌, ◌≢◌, ◌∙◌, sym, ap, refl, subst, inl, inr, ℕ, ◌+◌, ◌<◌, ◌==◌, Bool, true, false, not, ◌||◌, cond, List, [], ◌∷◌, ◌++◌, length}
use Rattle.std.proofs.Common.{take, get_or, is_some, Option, Some, None, Result, Ok, Err, arith}
use Rattle.std.specs.Prelude.{◌⊎◌, ◌↔◌, Contains, IfOk, OnOk}
use Rattle.std.specs.Option.{option_or}
use Rattle.std.specs.Str.{bytes_eq}
use Rattle.std.proofs.lemmas.Bool.Decides.{eqb_tells}
use Rattle.std.proofs.lemmas.Slice.Eq.{bytes_eq-Decides}
use Rattle.std.proofs.lemmas.List.{take_more}
use Rattle.std.proofs.lemmas.List.Elements.{Contains-get_or, Contains-push_cases}
use Rattle.cov_types.specs.declared.no_memory.NoMemory.{NoMemory}
use Rattle.name_table.specs.Tables.{only}
use Rattle.scope_table.specs.declared.table.ScopeTable.{ScopeTable}
use Rattle.scope_table.specs.Tables.{value_in, only_in}
use Rattle.flat_reach.specs.declared.reach.Handing.{Handing}
use Rattle.flat_reach.specs.Reach.{Reach, at_first, handed, has, IsReached, IsHanded, IsSound, IsClosed, IsRound, IsFirst}

abbrev it : Unit {0}
it = tt

abbrev Puts : ScopeTable Unit → ScopeTable Unit → ℕ → List ℕ → Type 0
Puts old new n name = (s : ℕ) (q : List ℕ) → value_in new s q ≡ option_or (value_in old s q) (only_in n name it s q)

-- ---- one name put

some_stays : (o other : Option Unit) → is_some o ≡ true → is_some (option_or o other) ≡ true
some_stays (Some v) other h = refl
some_stays None other h = cc

put_kept : (old new : ScopeTable Unit) (n : ℕ) (name : List ℕ) → Puts old new n name → (s : ℕ) (q : List ℕ) → has old s q ≡ true → has new s q ≡ true
put_kept old new n name put s q h = ap is_some (put s q) ∙ some_stays (value_in old s q) (only_in n name it s q) h

put_there : (old new : ScopeTable Unit) (n : ℕ) (name : List ℕ) → Puts old new n name → has new n name ≡ true
put_there old new n name put = ap is_some (put n name) ∙ by (value_in old n name)
  where
    own : is_some (only_in n name it n name) ≡ true
    own =
        ap (λ b. is_some (cond b (only name it name) None)) (itself n)
        ∙ ap (λ b. is_some (cond b (Some it) None)) ((bytes_eq-Decides name name).1 refl)
      where
        itself : (k : ℕ) → (k == k) ≡ true
        itself k = elim (eqb_tells k k) [ inl p ↦ p.0 | inr p ↦ absurd (p.1 refl) ]

    by : (o : Option Unit) → is_some (option_or o (only_in n name it n name)) ≡ true
    by (Some v) = refl
    by None = own

put_sound : (old new : ScopeTable Unit) (n : ℕ) (name : List ℕ) → Puts old new n name → (s : ℕ) (q : List ℕ) → has new s q ≡ true
    → (has old s q ≡ true) ⊎ ((s ≡ n) × (q ≡ name))
put_sound old new n name put s q h = by (value_in old s q) refl (sym (ap is_some (put s q)) ∙ h)
  where
    named : (b : Bool) → bytes_eq q name ≡ b → is_some (cond (bytes_eq q name) (Some it) None) ≡ true → q ≡ name
    named true e k = (bytes_eq-Decides q name).0 e
    named false e k = let f : is_some (cond false (Some it) None) ≡ true = ap (λ b. is_some (cond b (Some it) None)) (sym e) ∙ k in cc

    placed : (((s == n) ≡ true) × (s ≡ n)) ⊎ (((s == n) ≡ false) × (s ≢ n)) → is_some (only_in n name it s q) ≡ true → (s ≡ n) × (q ≡ name)
    placed (inl p) k = (p.1, named (bytes_eq q name) refl (ap (λ b. is_some (cond b (only name it q) None)) (sym p.0) ∙ k))
    placed (inr p) k =
        let f : is_some (cond false (only name it q) None) ≡ true = ap (λ b. is_some (cond b (only name it q) None)) (sym p.0) ∙ k in cc

    by : (o : Option Unit) → value_in old s q ≡ o → is_some (option_or (value_in old s q) (only_in n name it s q)) ≡ true
        → (has old s q ≡ true) ⊎ ((s ≡ n) × (q ≡ name))
    by (Some v) e k = inl (ap is_some e)
    by None e k = inr (placed (eqb_tells s n) (ap (λ (o : Option Unit). is_some (option_or o (only_in n name it s q))) (sym e) ∙ k))

-- a name that was there already
put_same : (old new : ScopeTable Unit) (n : ℕ) (name : List ℕ) → Puts old new n name → has old n name ≡ true → (s : ℕ) (q : List ℕ)
    → has new s q ≡ has old s q
put_same old new n name put was s q = by (has old s q) refl
  where
    lost : (b : Bool) → has new s q ≡ b → has old s q ≡ false → has new s q ≡ false
    lost false e h = e
    lost true e h = elim (put_sound old new n name put s q e) [
      | inl p ↦ let f : false ≡ true = sym h ∙ p in cc
      | inr p ↦ let f : false ≡ true = sym h ∙ ap (λ k. has old k q) p.0 ∙ ap (has old n) p.1 ∙ was in cc
    ]

    by : (b : Bool) → has old s q ≡ b → has new s q ≡ has old s q
    by true h = put_kept old new n name put s q h ∙ sym h
    by false h = lost (has new s q) refl h ∙ sym h

was_there : (b : Bool) → false ≡ not b → b ≡ true
was_there true e = refl
was_there false e = cc

pub by_put : (h : Handing) (old new : ScopeTable Unit) (r : Result Bool NoMemory) → has old h.from h.name ≡ true → OnOk r (Puts old new h.to h.port)
    → IfOk r (λ was_new. was_new ≡ not (has old h.to h.port)) → IfOk r (λ more. IsHanded h old new more)
by_put h old new (Err e) there put new_is = tt
by_put h old new (Ok more) there put new_is = record {
  kept = put_kept old new h.to h.port put;
  sound = λ s q k. elim (put_sound old new h.to h.port put s q k) [ inl p ↦ inl p | inr p ↦ inr (there, p.0, p.1) ];
  same = λ e. put_same old new h.to h.port put (was_there (has old h.to h.port) (sym e ∙ new_is));
  done = λ e k. put_there old new h.to h.port put;
}

-- the same by what slices say
pub by_slices : (h : Handing) (old new : ScopeTable Unit) (r : Result Bool NoMemory) (found : Bool) (name port : List ℕ) → name ≡ h.name → port ≡ h.port
    → found ≡ has old h.from name → found ≡ true → OnOk r (Puts old new h.to port) → IfOk r (λ was_new. was_new ≡ not (has old h.to port))
    → IfOk r (λ more. IsHanded h old new more)
by_slices h old new r found name port n p is there put new_is =
    by_put h old new r (ap (has old h.from) (sym n) ∙ sym is ∙ there) (subst (λ (x : List ℕ). OnOk r (Puts old new h.to x)) p put)
    (subst (λ (x : List ℕ). IfOk r (λ was_new. was_new ≡ not (has old h.to x))) p new_is)

pub by_none : (h : Handing) (old : ScopeTable Unit) (b : Bool) → b ≡ has old h.from h.name → b ≡ false → IsHanded h old old false
by_none h old b is none = record {
  kept = λ s q k. k;
  sound = λ s q k. inl k;
  same = λ e s q. refl;
  done = λ e k. let f : false ≡ true = sym none ∙ is ∙ k in cc;
}

-- ---- a round

neither : (a b c : Bool) → c ≡ (a || b) → c ≡ false → (a ≡ false) × (b ≡ false)
neither true b c e f = let g : true ≡ false = sym e ∙ f in cc
neither false true c e f = let g : true ≡ false = sym e ∙ f in cc
neither false false c e f = (refl, refl)

pub round_begins : (all : List Handing) (table : ScopeTable Unit) → IsRound all [] table table false
round_begins all table = record {
  kept = λ s q k. k;
  sound = λ first k. k;
  same = λ e s q. refl;
  closed = λ e h c. let lt = c.1 in absurd (omega arith);
}

pub round_more : (all : List Handing) (i : ℕ) (h : Handing) (old mid new : ScopeTable Unit) (so_far one more : Bool) → i < length all → h ≡ get_or all i h
    → IsRound all (take i all) old mid so_far → IsHanded h mid new one → more ≡ (so_far || one) → IsRound all (take (i + 1) all) old new more
round_more all i h old mid new so_far one more lt is r g e = record {
  kept = λ s q k. g.kept s q (r.kept s q k);
  sound = λ first k s q n. elim (g.sound s q n) [
    | inl p ↦ r.sound first k s q p
    | inr p ↦ subst (λ (x : List ℕ). Reach first all s x) (sym p.2) (subst (λ (x : ℕ). Reach first all x h.port) (sym p.1)
        (handed inside (r.sound first k h.from h.name p.0)))
  ];
  same = λ f s q. let n = neither so_far one more e f in g.same n.1 s q ∙ r.same n.0 s q;
  closed = λ f k c there.
      let n = neither so_far one more e f in
      elim (Contains-push_cases (take i all) h k (subst (λ (l : List Handing). Contains l k) more_is c)) [
        | inl p ↦ g.same n.1 k.to k.port ∙ r.closed n.0 k p (sym (g.same n.1 k.from k.name) ∙ there)
        | inr p ↦ subst (λ (x : Handing). has new x.to x.port ≡ true) p
            (g.done n.1 (subst (λ (x : Handing). has new x.from x.name ≡ true) (sym p) there))
      ];
}
  where
    inside : Contains all h
    inside = subst (Contains all) (sym is) (Contains-get_or all i h lt)

    more_is : take (i + 1) all ≡ take i all ++ h ∷ []
    more_is = take_more all i h lt ∙ ap (λ (y : Handing). take i all ++ y ∷ []) (sym is)

-- ---- the first name

pub first_put : (first : Option (List ℕ)) (name slice : List ℕ) (old new : ScopeTable Unit) → first ≡ Some name → slice ≡ name
    → ((s : ℕ) (q : List ℕ) → value_in old s q ≡ None) → Puts old new 0 slice → IsFirst first new
first_put first name slice old new is same empty put = record {
  there = λ q e.
      let n : name ≡ q = named name q (sym is ∙ e) in
      subst (λ (x : List ℕ). has new 0 x ≡ true) (same ∙ n) (put_there old new 0 slice put);
  sound = λ all s q k. elim (put_sound old new 0 slice put s q k) [
    | inl p ↦ let f : false ≡ true = sym (ap is_some (empty s q)) ∙ p in cc
    | inr p ↦ subst (λ (x : ℕ). Reach first all x q) (sym p.0)
        (subst (λ (x : List ℕ). Reach first all 0 x) (sym (p.1 ∙ same)) (at_first is))
  ];
}
  where
    named : (a b : List ℕ) → Some a ≡ Some b → a ≡ b
    named a b e = cc

pub first_none : (first : Option (List ℕ)) (table : ScopeTable Unit) → first ≡ None → ((s : ℕ) (q : List ℕ) → value_in table s q ≡ None) → IsFirst first table
first_none first table is empty = record {
  there = λ q e. let f : None ≡ Some q = sym is ∙ e in cc;
  sound = λ all s q k. let f : false ≡ true = sym (ap is_some (empty s q)) ∙ k in cc;
}

-- ---- all that is reached

complete : (first : Option (List ℕ)) (all : List Handing) (table : ScopeTable Unit) → ((q : List ℕ) → first ≡ Some q → has table 0 q ≡ true)
    → IsClosed all table → {s : ℕ} {q : List ℕ} → Reach first all s q → has table s q ≡ true
complete first all table there closed (at_first {name = name} is) = there name is
complete first all table there closed (handed {h = h} c k) = closed h c (complete first all table there closed k)

pub round_ends : (first : Option (List ℕ)) (all : List Handing) (old new : ScopeTable Unit) (more : Bool)
    → ((q : List ℕ) → first ≡ Some q → has old 0 q ≡ true) → IsSound first all old → IsRound all all old new more → more ≡ false
    → IsReached first all new
round_ends first all old new more there sound r none = λ s q.
    (r.sound first sound s q, λ k. complete first all new (λ p e. r.kept 0 p (there p e)) (r.closed none) k)
