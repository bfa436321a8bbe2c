-- Spans in a log that grows at its end.
use Rattle.std.proofs.Common.{◌≡◌, ℕ, zero, suc, ◌+◌, ◌-◌, ◌≤◌, Bool, true, false, ◌&&◌, List, [], ◌∷◌, ◌++◌, length, take, drop, refl, sym, ◌∙◌, ap}
use Rattle.std.proofs.Common.{append_assoc, length-append, arith}
use Rattle.std.proofs.lemmas.Bool.{false≢true}
use Rattle.std.proofs.lemmas.Bool.Decides.{nat_tests}
use Rattle.std.proofs.lemmas.List.{drop_at, take_at, take_all, drop-drop, drop-take, take-append-drop}
use Rattle.std.proofs.lemmas.Grind.{common_steps}
use Rattle.std.specs.Prelude.{slice_range}
use Rattle.cov_port.specs.Spans.{are_within, is_within, files_in, name_in, text_in}
use Rattle.cov_port.specs.declared.span.Span.{Span}

-- where a span lies
pub record Lies (len : ℕ) (span : Span) : Type 0 where
  pub first : span.name ≤ span.text
  pub second : span.text ≤ span.end
  pub last : span.end ≤ len

lies : (len : ℕ) (span : Span) → is_within len span ≡ true → Lies len span
lies len span e = record { first = grind (arith, nat_tests); second = grind (arith, nat_tests); last = grind (arith, nat_tests) }

within : (len : ℕ) (span : Span) → Lies len span → is_within len span ≡ true
within len span l = grind (arith, nat_tests)

both : (a b : Bool) → (a && b) ≡ true → (a ≡ true) × (b ≡ true)
both true b e = (refl, e)
both false b e = absurd (false≢true e)

joined : (a b : Bool) → a ≡ true → b ≡ true → (a && b) ≡ true
joined a b e f = rw (e, f) refl

-- a part of the log stays as the log grows
pub range_more : (log more : List ℕ) (a b : ℕ) → b ≤ length log → slice_range (log ++ more) a b ≡ slice_range log a b
range_more log more a b h = grind (arith, common_steps)

-- files stay as the log grows
pub files_more : (log more : List ℕ) (spans : List Span) → are_within (length log) spans ≡ true → files_in (log ++ more) spans ≡ files_in log spans
files_more log more [] e = refl
files_more log more (s ∷ ss) e =
    let parts = both (is_within (length log) s) (are_within (length log) ss) e in
    let l = lies (length log) s parts.0 in
    let name : name_in (log ++ more) s ≡ name_in log s = range_more log more s.name s.text (omega arith) in
    let text : text_in (log ++ more) s ≡ text_in log s = range_more log more s.text s.end l.last in
    rw (files_more log more ss parts.1, name, text) refl

-- spans lie in a log that is longer, and one more in it
pub within_push : (n m : ℕ) (spans : List Span) (span : Span) → n ≤ m → are_within n spans ≡ true → Lies m span → are_within m (spans ++ span ∷ []) ≡ true
within_push n m [] span le e l = joined (is_within m span) true (within m span l) refl
within_push n m (s ∷ ss) span le e l =
    let parts = both (is_within n s) (are_within n ss) e in
    let old = lies n s parts.0 in
    joined (is_within m s) (are_within m (ss ++ span ∷ []))
    (within m s (record { first = old.first; second = old.second; last = omega arith }))
    (within_push n m ss span le parts.1 l)

files_push : (log : List ℕ) (spans : List Span) (span : Span)
    → files_in log (spans ++ span ∷ []) ≡ files_in log spans ++ (name_in log span, text_in log span) ∷ []
files_push log [] span = refl
files_push log (s ∷ ss) span = ap (λ (fs : List (List ℕ × List ℕ)). (name_in log s, text_in log s) ∷ fs) (files_push log ss span)

-- the name and the text that were put at the end
pub added_file : (log new name text : List ℕ) (spans : List Span) (span : Span) → new ≡ (log ++ name) ++ text
    → span.name ≡ length log → span.text ≡ length log + length name → span.end ≡ length log + (length name + length text) → are_within (length log) spans ≡ true
    → files_in new (spans ++ span ∷ []) ≡ files_in log spans ++ (name, text) ∷ []
added_file log new name text spans span is a b d e =
    let n : name_in ((log ++ name) ++ text) span ≡ name =
    ap (λ (xs : List ℕ). take (span.text - span.name) xs) (ap (λ (xs : List ℕ). drop span.name xs) (append_assoc log name text)
    ∙ drop_at log (name ++ text) span.name (sym a))
    ∙ take_at name text (span.text - span.name) (omega arith) in
    let t : text_in ((log ++ name) ++ text) span ≡ text =
    ap (λ (xs : List ℕ). take (span.end - span.text) xs) (drop_at (log ++ name) text span.text (omega (arith, length-append log name)))
    ∙ take_all (span.end - span.text) text (omega arith) in
    let old : files_in ((log ++ name) ++ text) spans ≡ files_in log spans =
    ap (λ (l : List ℕ). files_in l spans) (append_assoc log name text) ∙ files_more log (name ++ text) spans e in
    rw is (files_push ((log ++ name) ++ text) spans span ∙ rw (n, t, old) refl)

-- what is left of a part of the log
pub range_rest : (log : List ℕ) (a b n : ℕ) → a + n ≤ b → drop n (slice_range log a b) ≡ slice_range log (a + n) b
range_rest log a b n h =
    ap (λ (k : ℕ). drop n (take k (drop a log))) (let e : b - a ≡ n + (b - (a + n)) = omega arith in e)
    ∙ drop-take n (b - (a + n)) (drop a log) ∙ ap (λ (xs : List ℕ). take (b - (a + n)) xs) (drop-drop n a log)

take_front : (n m : ℕ) (xs : List ℕ) → n ≤ m → take n (take m xs) ≡ take n xs
take_front zero m xs h = refl
take_front (suc n) m [] h = elim m as (λ (k : ℕ). take {A = ℕ} (suc n) (take {A = ℕ} k []) ≡ take {A = ℕ} (suc n) []) [ zero ↦ refl | suc k ↦ refl ]
take_front (suc n) zero (x ∷ xs) h = absurd (omega arith)
take_front (suc n) (suc m) (x ∷ xs) h = ap (λ (ys : List ℕ). x ∷ ys) (take_front n m xs (omega arith))

-- a part of the log is its first n bytes and the rest
pub range_split : (log : List ℕ) (a b n : ℕ) → a + n ≤ b → slice_range log a b ≡ slice_range log a (a + n) ++ drop n (slice_range log a b)
range_split log a b n h =
    sym (take-append-drop n (slice_range log a b))
    ∙ ap (λ (xs : List ℕ). xs ++ drop n (slice_range log a b)) (take_front n (b - a) (drop a log) (omega arith)
    ∙ ap (λ (k : ℕ). take k (drop a log)) (let e : n ≡ a + n - a = omega arith in e))

pub range_len : (log : List ℕ) (a n : ℕ) → a + n ≤ length log → length (slice_range log a (a + n)) ≡ n
range_len log a n h = grind (arith, common_steps)

pub no_range : (log : List ℕ) (a b : ℕ) → b ≤ a → slice_range log a b ≡ []
no_range log a b h = ap (λ (k : ℕ). take k (drop a log)) (let e : b - a ≡ 0 = omega arith in e)
