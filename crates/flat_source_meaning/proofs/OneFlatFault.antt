-- A source that has no flat source has one first fault.
use Rattle.std.proofs.Common.{◌≡◌, ◌⊎◌, inl, inr, ◌<◌, ℕ, ◌==◌, if◌then◌else◌, Bool, List, [], ◌∷◌, ◌++◌, refl, subst, ap, sym, ◌∙◌, append_assoc, append-nil}
use Rattle.std.proofs.lemmas.Bool.{cases_order}
use Rattle.cov_types.specs.declared.limit.LimitName.{LimitName}
use Rattle.elab_types.specs.declared.flat_fault.FlatFault.{FlatFault}
use Rattle.elab_types.specs.declared.flat_fault.FlatFault.TheVariants as fault
use Rattle.flat_source_meaning.specs.Variables.{Source}
use Rattle.flat_source_meaning.specs.FlatSpots.{FlatSpot, AreSpots}
use Rattle.flat_source_meaning.specs.FlatRefusals as r
use Rattle.flat_source_meaning.specs.FlatRefusals.{FlatRule, rank, IsFirstRule, NoRule, place_of_spot, flat_fault}
use Rattle.flat_source_meaning.specs.FlatLimits.{Weight, HaveWeights, PassesLimit, statements, processes, state_bits, IsFirstPassed}
use Rattle.flat_source_meaning.specs.FlatSources.{AreCalm, IsFirstFlatRefusal, first_rule, first_limit, OneFirstFlatFault}
use Rattle.flat_source_meaning.proofs.FlatLaws.{passes_on, all_at, one_source}
use Rattle.flat_source_meaning.proofs.CutSpots.{Meet, spots_meet}

-- why a spot refuses, after those before it
data Why (w : Source) (before : List FlatSpot) (at : FlatSpot) : FlatFault → Type 0 where
  rule : (k : FlatRule) → IsFirstRule w at k → Why w before at (flat_fault (place_of_spot at) k)
  limit : (ms : List Weight) {name : LimitName} → NoRule w at → HaveWeights w (before ++ at ∷ []) ms → IsFirstPassed ms name
      → Why w before at (fault.Limit name)

-- a first refusal, by its spot
record First (w : Source) (found : FlatFault) : Type 0 where
  before : List FlatSpot
  after : List FlatSpot
  at : FlatSpot
  ns : List Weight
  whole : Bool
  spots : AreSpots w.vars w.vs (before ++ at ∷ after) whole
  calm : AreCalm w before ns
  why : Why w before at found

as_first : {w : Source} {found : FlatFault} → IsFirstFlatRefusal w found → First w found
as_first (first_rule before after at {ns} {whole} k spots calm f) =
    record { before = before; after = after; at = at; ns = ns; whole = whole; spots = spots; calm = calm; why = rule k f }
as_first (first_limit before after at ns ms {name} {whole} spots calm none have f) =
    record { before = before; after = after; at = at; ns = ns; whole = whole; spots = spots; calm = calm; why = limit ms none have f }

-- ---- two spots of one list

data Places {A : Type 0} (b1 : List A) (a1 : A) (b2 : List A) (a2 : A) : Type 0 where
  equal : b1 ≡ b2 → a1 ≡ a2 → Places b1 a1 b2 a2
  earlier : (m : List A) → b2 ≡ b1 ++ a1 ∷ m → Places b1 a1 b2 a2
  later : (m : List A) → b1 ≡ b2 ++ a2 ∷ m → Places b1 a1 b2 a2

head_of : {A : Type 0} → A → List A → A
head_of d [] = d
head_of d (x ∷ xs) = x

tail_of : {A : Type 0} → List A → List A
tail_of [] = []
tail_of (x ∷ xs) = xs

longer : {A : Type 0} {b1 b2 : List A} {a1 a2 : A} (x y : A) → x ≡ y → Places b1 a1 b2 a2 → Places (x ∷ b1) a1 (y ∷ b2) a2
longer {b2 = b2} x y e (equal f g) = equal (ap (λ z. x ∷ z) f ∙ ap (λ z. z ∷ b2) e) g
longer {b2 = b2} x y e (earlier m f) = earlier m (ap (λ z. z ∷ b2) (sym e) ∙ ap (λ z. x ∷ z) f)
longer {b1 = b1} x y e (later m f) = later m (ap (λ z. z ∷ b1) e ∙ ap (λ z. y ∷ z) f)

places : {A : Type 0} (b1 : List A) (a1 : A) (c1 b2 : List A) (a2 : A) (c2 : List A) → b1 ++ a1 ∷ c1 ≡ b2 ++ a2 ∷ c2 → Places b1 a1 b2 a2
unfolding head_of tail_of
places [] a1 c1 [] a2 c2 e = equal refl (ap (head_of a1) e)
places [] a1 c1 (y ∷ b2) a2 c2 e = earlier b2 (ap (λ z. z ∷ b2) (sym (ap (head_of a1) e)))
places (x ∷ b1) a1 c1 [] a2 c2 e = later b1 (ap (λ z. z ∷ b1) (ap (head_of x) e))
places (x ∷ b1) a1 c1 (y ∷ b2) a2 c2 e = longer x y (ap (head_of x) e) (places b1 a1 c1 b2 a2 c2 (ap tail_of e))

-- ---- no spot before the first refuses

not_before : (w : Source) (before rest : List FlatSpot) (at : FlatSpot) (ns : List Weight) (found : FlatFault)
    → AreCalm w (before ++ at ∷ rest) ns → Why w before at found → ⊥
not_before w before rest at ns found calm (rule k f) = all_at (NoRule w) before rest at calm.calm k f.0
not_before w before rest at ns found calm (limit ms {name = name} none have f) =
    let weigh : HaveWeights w ((before ++ at ∷ [])
    ++ rest) ns = subst (λ (x : List FlatSpot). HaveWeights w x ns) (sym (append_assoc before (at ∷ []) rest)) calm.weigh in
    calm.within name (passes_on w (before ++ at ∷ []) rest ms ns name have weigh f.0)

-- ---- one spot has one fault

rule_of : ℕ → FlatRule
rule_of n =
    if n == 0 then r.unknown_name
    else if n == 1 then r.bad_target
    else if n == 2 then r.bad_port
    else if n == 3 then r.bad_clock
    else if n == 4 then r.loop_variable
    else if n == 5 then r.loop_bound
    else if n == 6 then r.bad_format
    else if n == 7 then r.not_in_process
    else r.not_constant

of_rank : (k : FlatRule) → rule_of (rank k) ≡ k
unfolding rule_of
of_rank r.unknown_name = refl
of_rank r.bad_target = refl
of_rank r.bad_port = refl
of_rank r.bad_clock = refl
of_rank r.loop_variable = refl
of_rank r.loop_bound = refl
of_rank r.bad_format = refl
of_rank r.not_in_process = refl
of_rank r.not_constant = refl

one_rule : (w : Source) (at : FlatSpot) (j k : FlatRule) → IsFirstRule w at j → IsFirstRule w at k → j ≡ k
one_rule w at j k x y = by_order (cases_order (rank j) (rank k))
  where
    by_order : (rank j ≡ rank k) ⊎ ((rank j < rank k) ⊎ (rank k < rank j)) → j ≡ k
    by_order (inl e) = sym (of_rank j) ∙ ap rule_of e ∙ of_rank k
    by_order (inr (inl h)) = absurd (y.1 j h x.0)
    by_order (inr (inr h)) = absurd (x.1 k h y.0)

-- limits that are passed by the same weights are one, the first
one_limit : (ms qs : List Weight) (m n : LimitName) → PassesLimit ms m → PassesLimit qs n → IsFirstPassed ms m → IsFirstPassed qs n
    → PassesLimit ms n → PassesLimit qs m → m ≡ n
one_limit ms qs m n (statements a) (statements b) x y p q = refl
one_limit ms qs m n (statements a) (processes b) x y p q = absurd (y.1 m refl q)
one_limit ms qs m n (statements a) (state_bits b) x y p q = absurd (y.1 m refl q)
one_limit ms qs m n (processes a) (statements b) x y p q = absurd (x.1 n refl p)
one_limit ms qs m n (processes a) (processes b) x y p q = refl
one_limit ms qs m n (processes a) (state_bits b) x y p q = absurd (y.1 m refl q)
one_limit ms qs m n (state_bits a) (statements b) x y p q = absurd (x.1 n refl p)
one_limit ms qs m n (state_bits a) (processes b) x y p q = absurd (x.1 n refl p)
one_limit ms qs m n (state_bits a) (state_bits b) x y p q = refl

moved : (w : Source) (spots : List FlatSpot) (ms qs : List Weight) (name : LimitName) → HaveWeights w spots ms → HaveWeights w spots qs → PassesLimit ms name
    → PassesLimit qs name
moved w spots ms qs name a b p = passes_on w spots [] ms qs name a (subst (λ (x : List FlatSpot). HaveWeights w x qs) (sym (append-nil spots)) b) p

one_why : (w : Source) (before : List FlatSpot) (at : FlatSpot) (found other : FlatFault) → Why w before at found → Why w before at other → found ≡ other
one_why w before at found other (rule j x) (rule k y) = ap (flat_fault (place_of_spot at)) (one_rule w at j k x y)
one_why w before at found other (rule j x) (limit ms none have f) = absurd (none j x.0)
one_why w before at found other (limit ms none have f) (rule k y) = absurd (none k y.0)
one_why w before at found other (limit ms {name = m} none have f) (limit qs {name = n} none' have' g) =
    let spots : List FlatSpot = before ++ at ∷ [] in
    ap fault.Limit (one_limit ms qs m n f.0 g.0 f g (moved w spots qs ms n have' have g.0) (moved w spots ms qs m have have' f.0))

-- ---- the law

by_places : (w : Source) (found other : FlatFault) (x : First w found) (y : First w other) → Places x.before x.at y.before y.at → found ≡ other
by_places w found other x y (equal e f) =
    one_why w y.before y.at found other
    (subst (λ (a : FlatSpot). Why w y.before a found) f (subst (λ (b : List FlatSpot). Why w b x.at found) e x.why)) y.why
by_places w found other x y (earlier m e) =
    absurd (not_before w x.before m x.at y.ns found (subst (λ (b : List FlatSpot). AreCalm w b y.ns) e y.calm) x.why)
by_places w found other x y (later m e) =
    absurd (not_before w y.before m y.at x.ns other (subst (λ (b : List FlatSpot). AreCalm w b x.ns) e x.calm) y.why)

one_refusal : (w : Source) (found other : FlatFault) → First w found → First w other → found ≡ other
one_refusal w found other x y = by_front (spots_meet x.spots y.spots)
  where
    by_front : Meet (x.before ++ x.at ∷ x.after) (y.before ++ y.at ∷ y.after) → found ≡ other
    by_front (inl g) = by_places w found other x y (places x.before x.at x.after y.before y.at (y.after ++ g.0) (g.1
        ∙ append_assoc y.before (y.at ∷ y.after) g.0))
    by_front (inr g) = by_places w found other x y (places x.before x.at (x.after ++ g.0) y.before y.at y.after (sym (g.1
        ∙ append_assoc x.before (x.at ∷ x.after) g.0)))

pub one_first_flat_fault : OneFirstFlatFault
one_first_flat_fault files top clock found other a b =
    let e : a.0 ≡ b.0 = one_source files top clock a.0 b.0 a.1 b.1 in
    one_refusal b.0 found other (as_first (subst (λ (w : Source). IsFirstFlatRefusal w found) e a.2)) (as_first b.2)
