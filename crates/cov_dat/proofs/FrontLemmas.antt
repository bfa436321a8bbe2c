-- A text past the limit on bytes reads as its front.
use Rattle.std.proofs.Common.{
  ◌≡◌,
  ℕ,
  zero,
  suc,
  ◌+◌,
  ◌-◌,
  ◌<◌,
  ◌≤◌,
  Bool,
  true,
  false,
  cond,
  eqb,
  ltb,
  List,
  [],
  ◌∷◌,
  ◌++◌,
  length,
  take,
  refl,
  sym,
  ◌∙◌,
  ap,
  Ok,
  Err,
  None,
  Some,
  arith,
  inl,
  inr,
  length-append,
  length-take,
}
use Rattle.std.proofs.lemmas.Bool.{cases_lt, cases_Bool, eqb-true, lt-ltb, le-ltb}
use Rattle.std.proofs.lemmas.List.{take_all, take-append-le}
use Rattle.cov_port.specs.Lines.{Line, bytes_of, onto_line, lines_of}
use Rattle.cov_dat.specs.DataLine.{Says, says_within}
use Rattle.cov_dat.specs.Reading.{all_say, reading_from, reading_of}
use Rattle.cov_dat.specs.FrontLaw.{ReadsByFront}
use Rattle.cov_dat.specs.declared.fault.DataFault.{DataFault}
use Rattle.cov_dat.specs.declared.fault.DataFault.TheVariants.{LineTooLong, Limit}
use Rattle.cov_dat.specs.declared.record_list.RecordList.{RecordList}
use Rattle.cov_types.specs.declared.limit.LimitName.TheVariants.{DataBytes}

-- a text without line feed, told by its lines: a line feed behind it ends it, and each front of it is one line
pub record Unbroken (line : List ℕ) : Type 0 where
  pub fed : (rest : List ℕ) → lines_of (line ++ 10 ∷ rest) ≡ (line, true) ∷ lines_of rest
  pub fronts : (k : ℕ) → suc k ≤ length line → lines_of (take (suc k) line) ≡ (take (suc k) line, false) ∷ []

-- a text is a line with a line feed and a rest, or it is a line without
pub data FirstLine (text : List ℕ) : Type 0 where
  ended : (line rest : List ℕ) → text ≡ line ++ 10 ∷ rest → Unbroken line → FirstLine text
  open_line : Unbroken text → FirstLine text

-- a byte that is no line feed goes before the first line
onto : (b : ℕ) (bs : List ℕ) → eqb b 10 ≡ false → lines_of (b ∷ bs) ≡ onto_line b (lines_of bs)
onto b bs other = ap (λ (test : Bool). cond test (([], true) ∷ lines_of bs) (onto_line b (lines_of bs))) other

fronts_onto : (b : ℕ) (line : List ℕ) (k : ℕ) → eqb b 10 ≡ false → Unbroken line
    → suc k ≤ length (b ∷ line) → lines_of (take (suc k) (b ∷ line)) ≡ (take (suc k) (b ∷ line), false) ∷ []
fronts_onto b line zero other u within = onto b [] other
fronts_onto b line (suc k) other u within = onto b (take (suc k) line) other ∙ ap (onto_line b) (u.fronts k (omega arith))

unbroken_onto : (b : ℕ) (line : List ℕ) → eqb b 10 ≡ false → Unbroken line → Unbroken (b ∷ line)
unbroken_onto b line other u = record {
  fed = λ rest. onto b (line ++ 10 ∷ rest) other ∙ ap (onto_line b) (u.fed rest);
  fronts = λ k within. fronts_onto b line k other u within;
}

unbroken_none : Unbroken []
unbroken_none = record { fed = λ rest. refl; fronts = λ k within. absurd (omega arith) }

first_line_onto : (b : ℕ) (bs : List ℕ) → eqb b 10 ≡ false → FirstLine bs → FirstLine (b ∷ bs)
first_line_onto b bs other (ended line rest is u) = ended (b ∷ line) rest (ap (λ (xs : List ℕ). b ∷ xs) is) (unbroken_onto b line other u)
first_line_onto b bs other (open_line u) = open_line (unbroken_onto b bs other u)

-- each text has a first line
first_line : (text : List ℕ) → FirstLine text
first_line [] = open_line unbroken_none
first_line (b ∷ bs) = elim (cases_Bool (eqb b 10)) [
  | inl feed ↦ ended [] bs (ap (λ (x : ℕ). x ∷ bs) (eqb-true b 10 feed)) unbroken_none
  | inr other ↦ first_line_onto b bs other (first_line bs)
]

-- why a line of at least k bytes is refused, where k bytes behind those before it pass the limit
refusal_at : ℕ → ℕ → ℕ → DataFault
refusal_at n before k = cond (ltb 65535 k) (cond (ltb 4294967296 (before + 65536)) (Limit DataBytes) (LineTooLong n)) (Limit DataBytes)

refused : (n before k : ℕ) (l : Line) → k ≤ length l.0 → 4294967296 < before + k → says_within (before + bytes_of l) n l ≡ Err (refusal_at n before k)
unfolding refusal_at
refused n before k l within past = elim (cases_lt 65535 k) [
  | inl long ↦ elim (cases_lt 4294967296 (before + 65536)) [
    | inl over ↦ rw (lt-ltb 65535 k long, lt-ltb 65535 (length l.0) (omega arith), lt-ltb 4294967296 (before + 65536) over) refl
    | inr under ↦ rw (lt-ltb 65535 k long, lt-ltb 65535 (length l.0) (omega arith), le-ltb 4294967296 (before + 65536) under) refl
  ]
  | inr short ↦ elim (cases_lt 65535 (length l.0)) [
    | inl long ↦ rw (le-ltb 65535 k short, lt-ltb 65535 (length l.0) long, lt-ltb 4294967296 (before + 65536) (omega arith)) refl
    | inr fits ↦ rw (le-ltb 65535 k short, le-ltb 65535 (length l.0) fits, lt-ltb 4294967296 (before + (length l.0 + cond l.1 1 0)) (omega arith)) refl
  ]
]

-- what stands behind a fault says nothing
reading_of-refused : (v : Says) (fault : DataFault) (a b : List Says) → v ≡ Err fault → reading_of (v ∷ a) ≡ reading_of (v ∷ b)
reading_of-refused v fault a b is = rw is refl

-- what stands behind a line counts by what is read of it
reading_of-line : (v : Says) (a b : List Says) → reading_of a ≡ reading_of b → reading_of (v ∷ a) ≡ reading_of (v ∷ b)
reading_of-line (Err fault) a b same = refl
reading_of-line (Ok None) a b same = same
reading_of-line (Ok (Some r)) a b same = ap (λ (list : RecordList). record { records = r ∷ list.records; fault = list.fault }) same

-- two lines of at least k bytes are refused alike
both_refused : (n before k : ℕ) (l m : Line) (a b : List Says) → k ≤ length l.0 → k ≤ length m.0 → 4294967296 < before + k
    → reading_of (says_within (before + bytes_of l) n l ∷ a) ≡ reading_of (says_within (before + bytes_of m) n m ∷ b)
both_refused n before k l m a b first second past = rw (refused n before k l first past, refused n before k m second past) refl

-- the bytes of a line that isn't too long
ended_bytes : (line : List ℕ) → length line ≤ 65535 → bytes_of (line, true) ≡ length line + 1
ended_bytes line short = rw (le-ltb 65535 (length line) short) refl

-- a line that ends is followed by what is read of the rest, where it isn't refused
after_ended : (n before : ℕ) (line : List ℕ) (a b : List Says)
    → (length line ≤ 65535 → before + (length line + 1) ≤ 4294967296 → reading_of a ≡ reading_of b)
    → reading_of (says_within (before + bytes_of (line, true)) n (line, true) ∷ a)
    ≡ reading_of (says_within (before + bytes_of (line, true)) n (line, true) ∷ b)
after_ended n before line a b same = elim (cases_lt 4294967296 (before + bytes_of (line, true))) [
  | inl past ↦ reading_of-refused (says_within (before + bytes_of (line, true)) n (line, true)) (Limit DataBytes) a b
      (rw (lt-ltb 4294967296 (before + bytes_of (line, true)) past) refl)
  | inr within ↦ elim (cases_lt 65535 (length line)) [
    | inl long ↦ reading_of-refused (says_within (before + bytes_of (line, true)) n (line, true)) (LineTooLong n) a b
        (rw (le-ltb 4294967296 (before + bytes_of (line, true)) within, lt-ltb 65535 (length line) long) refl)
    | inr short ↦ reading_of-line (says_within (before + bytes_of (line, true)) n (line, true)) a b (same short (let e = ended_bytes line short in omega arith))
  ]
]

-- a line of k bytes or more, and its front of k bytes
front_of_line : (n before k : ℕ) (line : List ℕ) (l : Line) (a : List Says) (front : List ℕ) → l.0 ≡ line → front ≡ take k line
    → 0 < k → k ≤ length line → 4294967296 < before + k → lines_of front ≡ (front, false) ∷ []
    → reading_from n before front ≡ reading_of (says_within (before + bytes_of l) n l ∷ a)
front_of_line n before k line l a front is cut some within past lines =
    ap (λ (ls : List Line). reading_of (all_say n before ls)) lines
    ∙ both_refused n before k (front, false) l _ a (omega (arith, ap length cut, length-take k line)) (omega (arith, ap length is)) past

some_line : (line : List ℕ) → 0 < length line → Unbroken line → lines_of line ≡ (line, false) ∷ []
some_line [] some u = absurd (omega arith)
some_line (b ∷ bs) some u =
    let whole : take (suc (length bs)) (b ∷ bs) ≡ b ∷ bs = take_all (suc (length bs)) (b ∷ bs) (omega arith) in
    ap lines_of (sym whole) ∙ u.fronts (length bs) (omega arith) ∙ ap (λ (xs : List ℕ). (xs, false) ∷ []) whole

front_line : (line : List ℕ) (k : ℕ) → 0 < k → k ≤ length line → Unbroken line → lines_of (take k line) ≡ (take k line, false) ∷ []
front_line line zero some within u = absurd (omega arith)
front_line line (suc k) some within u = u.fronts k within

-- a front that ends inside the first line
inside_first : (n before k : ℕ) (text line : List ℕ) (l : Line) (a : List Says) → Unbroken line → 0 < k → k ≤ length line → 4294967296 < before + k
    → l.0 ≡ line → take k text ≡ take k line → all_say n before (lines_of text) ≡ says_within (before + bytes_of l) n l ∷ a
    → reading_from n before (take k text) ≡ reading_from n before text
inside_first n before k text line l a u some within past is cut said =
    ap (reading_from n before) cut
    ∙ front_of_line n before k line l a (take k line) is refl some within past (front_line line k some within u)
    ∙ sym (ap reading_of said)

-- a front that goes past the first line
past_first : (n before k : ℕ) (line rest : List ℕ) → Unbroken line
    → (length line ≤ 65535 → before + (length line + 1) ≤ 4294967296
    → reading_from (n + 1) (before + bytes_of (line, true)) (take k rest) ≡ reading_from (n + 1) (before + bytes_of (line, true)) rest)
    → reading_from n before (line ++ 10 ∷ take k rest) ≡ reading_from n before (line ++ 10 ∷ rest)
past_first n before k line rest u same =
    ap (λ (ls : List Line). reading_of (all_say n before ls)) (u.fed (take k rest))
    ∙ after_ended n before line _ _ same
    ∙ sym (ap (λ (ls : List Line). reading_of (all_say n before ls)) (u.fed rest))

take_past : (k : ℕ) (line rest : List ℕ) → suc (length line) ≤ k → take k (line ++ 10 ∷ rest) ≡ line ++ 10 ∷ take (k - suc (length line)) rest
take_past zero line rest h = absurd (omega arith)
take_past (suc k) [] rest h = let e : suc k - 1 ≡ k = omega arith in ap (λ (j : ℕ). 10 ∷ take j rest) (sym e)
take_past (suc k) (b ∷ line) rest h =
    ap (λ (xs : List ℕ). b ∷ xs) (take_past k line rest (omega arith)
    ∙ (let e : k - suc (length line) ≡ suc k - suc (suc (length line)) = omega arith in ap (λ (j : ℕ). line ++ 10 ∷ take j rest) e))

-- where the front reaches past the limit, it reads as the whole
by_front : (fuel n before k : ℕ) (text : List ℕ) → FirstLine text → length text ≤ fuel → before ≤ 4294967296 → 4294967296 < before + k
    → reading_from n before (take k text) ≡ reading_from n before text
by_front zero n before k text first most start past = ap (reading_from n before) (take_all k text (omega arith))
by_front (suc fuel) n before k text (open_line u) most start past = elim (cases_lt k (length text)) [
  | inl inside ↦ inside_first n before k text text (text, false) _ u (omega arith) (omega arith) past refl refl
      (ap (all_say n before) (some_line text (omega arith) u))
  | inr whole ↦ ap (reading_from n before) (take_all k text whole)
]
by_front (suc fuel) n before k text (ended line rest is u) most start past = rw is (elim (cases_lt (length line) k) [
  | inl beyond ↦ ap (reading_from n before) (take_past k line rest (omega arith))
      ∙ past_first n before (k - suc (length line)) line rest u (λ short within.
      let bytes = ended_bytes line short in
      let shorter : length rest ≤ fuel = omega (arith, ap length is, length-append line (10 ∷ rest)) in
      by_front fuel (n + 1) (before + bytes_of (line, true)) (k - suc (length line)) rest (first_line rest) shorter (omega arith) (omega arith))
  | inr inside ↦ inside_first n before k (line ++ 10 ∷ rest) line (line, true) _ u (omega arith) inside past refl
      (take-append-le k line (10 ∷ rest) inside) (ap (all_say n before) (u.fed rest))
])

-- a text reads as its first 4,294,967,297 bytes
pub reads_by_front : ReadsByFront
reads_by_front text = by_front (length text) 1 0 4294967297 text (first_line text) (omega arith) (omega arith) (omega arith)
