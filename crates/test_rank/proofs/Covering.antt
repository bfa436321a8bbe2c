use Rattle.std.proofs.Common.{◌≡◌, ℕ, ◌+◌, ◌≤◌, Bool, true, false, cond, not, ◌||◌, eqb, length, get_or, List, [], ◌∷◌, ◌++◌, filter, arith, refl, sym, ◌∙◌, ap}
use Rattle.std.proofs.lemmas.Bool.{false≢true, true≢false}
use Rattle.test_rank.specs.Ranking.{Covers, points_of, is_among, covered_by, gain}
use Rattle.test_rank.specs.Counting.{count, uncovered, marked, AreGains}
use Rattle.test_rank.proofs.Counts.{eqb-is, eqb-same}

-- tests that answer alike leave as many uncovered
pub uncovered-same : (c d : ℕ → Bool) (points : List ℕ) → ((p : ℕ) → c p ≡ d p) → uncovered c points ≡ uncovered d points
uncovered-same c d [] same = refl
uncovered-same c d (p ∷ ps) same =
    let rest = uncovered-same c d ps same in
    rw (same p) (elim (d p) as (λ t. length (cond (not t) (p ∷ filter (λ p. not (c p)) ps) (filter (λ p. not (c p)) ps))
    ≡ length (cond (not t) (p ∷ filter (λ p. not (d p)) ps) (filter (λ p. not (d p)) ps))) [
      | true ↦ rest
      | false ↦ omega arith
    ])

eqb-turned : (n m : ℕ) → eqb n m ≡ false → eqb m n ≡ false
eqb-turned n m h = elim (eqb m n) as (λ t. eqb m n ≡ t → t ≡ false) [
  | true ↦ λ e. absurd (true≢false (sym (eqb-same m) ∙ ap (λ (k : ℕ). eqb k m) (eqb-is m n e) ∙ h))
  | false ↦ λ e. refl
] refl

uncovered-step : (c d : ℕ → Bool) (point p : ℕ) (ps : List ℕ) → c point ≡ false → uncovered d ps + count point ps ≡ uncovered c ps
    → length (cond (not (c p || eqb p point)) (p ∷ filter (λ p. not (d p)) ps) (filter (λ p. not (d p)) ps)) + (cond (eqb point p) 1 0 + count point ps)
    ≡ length (cond (not (c p)) (p ∷ filter (λ p. not (c p)) ps) (filter (λ p. not (c p)) ps))
uncovered-step c d point p ps new rest =
    elim (eqb point p) as (λ t. eqb point p ≡ t
    → length (cond (not (c p || eqb p point)) (p ∷ filter (λ p. not (d p)) ps) (filter (λ p. not (d p)) ps)) + (cond t 1 0 + count point ps)
    ≡ length (cond (not (c p)) (p ∷ filter (λ p. not (c p)) ps) (filter (λ p. not (c p)) ps))) [
      | true ↦ λ e.
          let same : p ≡ point = sym (eqb-is point p e) in
          let known : c p ≡ false = ap c same ∙ new in
          let here : eqb p point ≡ true = ap (λ (k : ℕ). eqb k point) same ∙ eqb-same point in
          rw (known, here) (omega arith)
      | false ↦ λ e.
          let off : eqb p point ≡ false = eqb-turned point p e in
          rw off (elim (c p) as (λ t. length (cond (not (t || false)) (p ∷ filter (λ p. not (d p)) ps) (filter (λ p. not (d p)) ps)) + (0 + count point ps)
          ≡ length (cond (not t) (p ∷ filter (λ p. not (c p)) ps) (filter (λ p. not (c p)) ps))) [
            | true ↦ omega arith
            | false ↦ omega arith
          ])
    ] refl

-- a point that is covered anew was counted as often as it stands there
pub uncovered-more : (c d : ℕ → Bool) (point : ℕ) (points : List ℕ) → c point ≡ false → ((p : ℕ) → d p ≡ (c p || eqb p point))
    → uncovered d points + count point points ≡ uncovered c points
uncovered-more c d point [] new more = refl
uncovered-more c d point (p ∷ ps) new more =
    let rest = uncovered-more c d point ps new more in
    rw (more p) (uncovered-step c d point p ps new rest)

pub or-right : (a b : Bool) → b ≡ true → (a || b) ≡ true
or-right true b h = refl
or-right false b h = h

-- where all are covered, none is left
pub uncovered-none : (c : ℕ → Bool) (points : List ℕ) → ((p : ℕ) → is_among points p ≡ true → c p ≡ true) → uncovered c points ≡ 0
uncovered-none c [] all = refl
uncovered-none c (p ∷ ps) all =
    let here : c p ≡ true = all p (rw (eqb-same p) refl) in
    rw here (uncovered-none c ps (λ q in_ps. all q (or-right (eqb q p) (is_among ps q) in_ps)))

-- where none is left, all are covered
pub covered-all : (c : ℕ → Bool) (points : List ℕ) (p : ℕ) → uncovered c points ≡ 0 → is_among points p ≡ true → c p ≡ true
covered-all c [] p none h = absurd (false≢true h)
covered-all c (q ∷ qs) p none h =
    elim (c q) as (λ t. c q ≡ t → length (cond (not t) (q ∷ filter (λ p. not (c p)) qs) (filter (λ p. not (c p)) qs)) ≡ 0 → c p ≡ true) [
      | true ↦ λ e n. elim (eqb p q) as (λ t. eqb p q ≡ t → (t || is_among qs p) ≡ true → c p ≡ true) [
        | true ↦ λ is _. ap c (eqb-is p q is) ∙ e
        | false ↦ λ is among. covered-all c qs p n among
      ] refl h
      | false ↦ λ e n. absurd (omega arith)
    ] refl none

-- numbers among joined lists
pub among-append : (xs ys : List ℕ) (n : ℕ) → is_among (xs ++ ys) n ≡ (is_among xs n || is_among ys n)
among-append [] ys n = refl
among-append (x ∷ xs) ys n = elim (eqb n x) as (λ t. (t || is_among (xs ++ ys) n) ≡ ((t || is_among xs n) || is_among ys n)) [
  | true ↦ refl
  | false ↦ among-append xs ys n
]

or-false : (b : Bool) → (b || false) ≡ b
or-false true = refl
or-false false = refl

pub among-pushed : (xs : List ℕ) (x n : ℕ) → is_among (xs ++ x ∷ []) n ≡ (is_among xs n || eqb n x)
among-pushed xs x n = among-append xs (x ∷ []) n ∙ ap (λ (b : Bool). is_among xs n || b) (or-false (eqb n x))

pub or-assoc : (a b c : Bool) → ((a || b) || c) ≡ (a || (b || c))
or-assoc true b c = refl
or-assoc false b c = refl

-- the points that one test more covers
pub covered_by-pushed : (covers : Covers) (tests : List ℕ) (test n : ℕ)
    → is_among (covered_by covers (tests ++ test ∷ [])) n ≡ (is_among (covered_by covers tests) n || is_among (points_of covers test) n)
covered_by-pushed covers [] test n = among-append (points_of covers test) [] n ∙ or-false (is_among (points_of covers test) n)
covered_by-pushed covers (t ∷ ts) test n =
    among-append (points_of covers t) (covered_by covers (ts ++ test ∷ [])) n
    ∙ ap (λ (b : Bool). is_among (points_of covers t) n || b) (covered_by-pushed covers ts test n)
    ∙ sym (or-assoc (is_among (points_of covers t) n) (is_among (covered_by covers ts) n) (is_among (points_of covers test) n))
    ∙ ap (λ (b : Bool). b || is_among (points_of covers test) n) (sym (among-append (points_of covers t) (covered_by covers ts) n))

-- the gain of a test by the marks
pub gain-marked : (covers : Covers) (chosen : List ℕ) (c : ℕ → Bool) (gains : List ℕ) (test : ℕ) → ((p : ℕ) → c p ≡ is_among (covered_by covers chosen) p)
    → AreGains covers c gains
    → get_or gains test 0 ≡ gain covers chosen test
gain-marked covers chosen c gains test same are = are test ∙ uncovered-same c (is_among (covered_by covers chosen)) (points_of covers test) same

-- where none is covered, all are left
pub uncovered-all : (c : ℕ → Bool) (points : List ℕ) → ((p : ℕ) → c p ≡ false) → uncovered c points ≡ length points
uncovered-all c [] none = refl
uncovered-all c (p ∷ ps) none = let rest = uncovered-all c ps none in rw (none p) (omega arith)

-- the gains when one point more is covered
pub gains-lowered : (covers : Covers) (c d : ℕ → Bool) (point : ℕ) (at old new : List ℕ) → AreGains covers c old → c point ≡ false → ((p : ℕ)
    → d p ≡ (c p || eqb p point))
    → ((t : ℕ) → count t at ≡ count point (points_of covers t)) → ((t : ℕ) → get_or new t 0 + count t at ≡ get_or old t 0) → AreGains covers d new
gains-lowered covers c d point at old new are fresh more index lowered t =
    let a = are t in
    let b = index t in
    let l = lowered t in
    let m = uncovered-more c d point (points_of covers t) fresh more in
    omega arith

-- and no gain is less than what it is lowered by
pub gains-enough : (covers : Covers) (c : ℕ → Bool) (point : ℕ) (at gains : List ℕ) → AreGains covers c gains → c point ≡ false → ((t : ℕ)
    → count t at ≡ count point (points_of covers t)) → (t : ℕ) → count t at ≤ get_or gains t 0
gains-enough covers c point at gains are fresh index t =
    let a = are t in
    let b = index t in
    let m = uncovered-more c (λ p. c p || eqb p point) point (points_of covers t) fresh (λ p. refl) in
    omega arith

-- the marks with one point more
pub marks-more : (a b c d e : Bool) → c ≡ (a || b) → d ≡ (c || e) → d ≡ (a || (b || e))
marks-more a b c d e p q = q ∙ ap (λ (x : Bool). x || e) p ∙ or-assoc a b e

or-end : (a b : Bool) → (a || (b || true)) ≡ true
or-end true b = refl
or-end false true = refl
or-end false false = refl

-- a point that is marked already
pub marks-again : (a b c e : Bool) → c ≡ (a || b) → (e ≡ true → c ≡ true) → c ≡ (a || (b || e))
marks-again a b c true p marked = marked refl ∙ sym (or-end a b)
marks-again a b c false p marked = p ∙ ap (λ (x : Bool). a || x) (sym (or-false b))
