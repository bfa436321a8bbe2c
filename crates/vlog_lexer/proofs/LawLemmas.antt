-- A text has one reading at most.
use Rattle.std.proofs.Common.{◌≡◌, ℕ, ◌+◌, ◌<◌, ◌≤◌, ◌⊎◌, inl, inr, List, [], ◌∷◌, ◌++◌, Option, length, take, drop, Some, None, Ok, Err, refl, sym, ◌∙◌, ap}
use Rattle.std.proofs.Common.{subst, arith, append_assoc, append-nil}
use Rattle.std.specs.Prelude.{Result}
use Rattle.std.proofs.lemmas.List.{drop_all, take_at}
use Rattle.cov_types.specs.declared.limit.LimitName.{LimitName}
use Rattle.cov_types.specs.declared.pragma.Pragma.{Pragma}
use Rattle.vlog_lexer.specs.Faults.{fault_at}
use Rattle.vlog_lexer.specs.Limits.{limit_passed}
use Rattle.vlog_lexer.specs.Pieces.{Front, front_of}
use Rattle.vlog_lexer.specs.Reading.{Answers, IsFaultOf, IsFlawOf, IsLimitOf, IsListOf, IsReadingOf, IsWithinLimits, Spans, IsUnlessNoMemory, latest, place_at}
use Rattle.vlog_lexer.specs.Reading.{token_of, tokens_of, pragmas_of}
use Rattle.vlog_lexer.specs.declared.fault.LexFault.{LexFault}
use Rattle.vlog_lexer.specs.declared.fault.LexFault.TheVariants as fault
use Rattle.vlog_lexer.specs.declared.piece.Piece.{Piece}
use Rattle.vlog_lexer.specs.declared.piece.Refusal.{Refusal}
use Rattle.vlog_tokens.specs.declared.token.Token.{Token}
use Rattle.vlog_tokens.specs.declared.token_list.TokenList.{TokenList}
use Rattle.vlog_lexer.proofs.ReadingLemmas.{Spans-one_more}

-- nothing begins at the end of a text
ends : (text : List ℕ) (n : ℕ) (piece : Piece) → length text ≤ n → front_of (drop n text) ≡ Ok piece → ⊥
unfolding front_of
ends text n piece l e = let none = sym (ap front_of (drop_all n text l)) ∙ e in cc

-- one front is not a piece and a refusal
both : (front : Front) (piece : Piece) (refusal : Refusal) → front ≡ Ok piece → front ≡ Err refusal → ⊥
both front piece refusal e f = let same = sym e ∙ f in cc

-- Of two runs of pieces from one byte, one goes on where the other ends.
pub record GoesOn (text : List ℕ) (m : ℕ) (ps qs : List Piece) (k : ℕ) : Type 0 where
  pub rest : List Piece
  pub is : qs ≡ ps ++ rest
  pub on : Spans text m rest k

ok_same : {p q : Piece} → (let front : Front = Ok p in front) ≡ Ok q → p ≡ q
ok_same e = cc

cons_same : (p q : Piece) (ps qs : List Piece) → p ≡ q → ps ≡ qs → p ∷ ps ≡ q ∷ qs
cons_same p q ps qs e f = cc

goes_further : (text : List ℕ) (p q : Piece) (ps qs : List Piece) (m k : ℕ) → p ≡ q → GoesOn text m ps qs k ⊎ GoesOn text k qs ps m
    → GoesOn text m (p ∷ ps) (q ∷ qs) k ⊎ GoesOn text k (q ∷ qs) (p ∷ ps) m
goes_further text p q ps qs m k e (inl on) = inl (record { rest = on.rest; is = cons_same q p qs (ps ++ on.rest) (sym e) on.is; on = on.on })
goes_further text p q ps qs m k e (inr on) = inr (record { rest = on.rest; is = cons_same p q ps (qs ++ on.rest) e on.is; on = on.on })

compare : (text : List ℕ) (n m k : ℕ) (ps qs : List Piece) → Spans text n ps m → Spans text n qs k → GoesOn text m ps qs k ⊎ GoesOn text k qs ps m
compare text n m k [] qs e s = inl (record { rest = qs; is = refl; on = subst (λ (i : ℕ). Spans text i qs k) e s })
compare text n m k (p ∷ ps) [] s e = inr (record { rest = p ∷ ps; is = refl; on = subst (λ (i : ℕ). Spans text i (p ∷ ps) m) e s })
compare text n m k (p ∷ ps) (q ∷ qs) s t =
    let same : p ≡ q = ok_same (sym s.0 ∙ t.0) in
    let next = subst (λ (x : Piece). Spans text (n + x.len) qs k) (sym same) t.1 in
    goes_further text p q ps qs m k same (compare text (n + p.len) m k ps qs s.1 next)

-- what goes on at a place where nothing can be taken goes on with nothing
stuck : (text : List ℕ) (m k : ℕ) (rest : List Piece) → ((piece : Piece) → front_of (drop m text) ≡ Ok piece → ⊥) → Spans text m rest k → (rest ≡ []) × (m ≡ k)
stuck text m k [] off s = (refl, s)
stuck text m k (p ∷ rest) off s = absurd (off p s.0)

stuck_end : (text : List ℕ) (n : ℕ) → length text ≤ n → (piece : Piece) → front_of (drop n text) ≡ Ok piece → ⊥
stuck_end text n l piece e = ends text n piece l e

tokens_of-append : (file : ℕ) (text : List ℕ) (n m : ℕ) (ps qs : List Piece) → Spans text n ps m
    → tokens_of file text n (ps ++ qs) ≡ tokens_of file text n ps ++ tokens_of file text m qs
tokens_of-append file text n m [] qs e = ap (λ (k : ℕ). tokens_of file text k qs) e
tokens_of-append file text n m (p ∷ ps) qs s =
    let first = token_of (place_at file text n) p.what in
    ap (λ (ts : List Token). first ++ ts) (tokens_of-append file text (n + p.len) m ps qs s.1)
    ∙ sym (append_assoc first (tokens_of file text (n + p.len) ps) (tokens_of file text m qs))

some_not_none : (name : LimitName) → (let o : Option LimitName = Some name in o) ≡ None → ⊥
some_not_none name e = cc

-- a limit that is passed is passed in each longer run
limit_clash : (file : ℕ) (text : List ℕ) (name : LimitName) (is : IsLimitOf file text name) (rest : List Piece)
    → IsWithinLimits (tokens_of file text 0 ((is.pieces ++ is.piece ∷ []) ++ rest)) → ⊥
limit_clash file text name is rest within =
    let run = is.pieces ++ is.piece ∷ [] in
    let spans = Spans-one_more text 0 is.pieces is.at is.piece is.before.spans is.next in
    let tokens = tokens_of file text 0 run in
    let more = tokens_of file text (is.at + is.piece.len) rest in
    let none = within (length tokens) in
    let front : take (length tokens) (tokens_of file text 0 (run ++ rest))
    ≡ tokens = ap (take (length tokens)) (tokens_of-append file text 0 (is.at + is.piece.len) run rest spans) ∙ take_at tokens more (length tokens) refl in
    some_not_none name (sym is.passed ∙ sym (ap (λ (ts : List Token). limit_passed (latest ts)) front) ∙ none)

stops_at : (file : ℕ) (text : List ℕ) (name : LimitName) (is : IsLimitOf file text name) (qs : List Piece) (k : ℕ)
    → IsWithinLimits (tokens_of file text 0 qs) → (rest : List Piece) → qs ≡ is.pieces ++ rest → Spans text is.at rest k → (qs ≡ is.pieces) × (is.at ≡ k)
stops_at file text name is qs k within [] e s = (e ∙ append-nil is.pieces, s)
stops_at file text name is qs k within (p ∷ rest) e s =
    let same : p ≡ is.piece = ok_same (sym s.0 ∙ is.next) in
    let longer : qs ≡ (is.pieces ++ is.piece ∷ []) ++ rest = e ∙ ap (λ (x : Piece). is.pieces ++ x ∷ rest) same
    ∙ sym (append_assoc is.pieces (is.piece ∷ []) rest) in
    absurd (limit_clash file text name is rest (subst (λ (xs : List Piece). IsWithinLimits (tokens_of file text 0 xs)) longer within))

-- a run within limits does not go on past a limit
limit_stops : (file : ℕ) (text : List ℕ) (name : LimitName) (is : IsLimitOf file text name) (qs : List Piece) (k : ℕ)
    → IsWithinLimits (tokens_of file text 0 qs) → GoesOn text is.at is.pieces qs k → (qs ≡ is.pieces) × (is.at ≡ k)
limit_stops file text name is qs k within on = stops_at file text name is qs k within on.rest on.is on.on

abbrev list : List Token → List Pragma → TokenList
list tokens pragmas = record { tokens = tokens; pragmas = pragmas }

-- two lists
same_list : (a b : TokenList) → a.tokens ≡ b.tokens → a.pragmas ≡ b.pragmas → a ≡ b
same_list a b e f = ap (λ (ts : List Token). list ts a.pragmas) e ∙ ap (λ (cs : List Pragma). list b.tokens cs) f

same_from : (file : ℕ) (text : List ℕ) (a b : TokenList) (la : IsListOf file text a) (lb : IsListOf file text b) → lb.pieces ≡ la.pieces → a ≡ b
same_from file text a b la lb e = same_list a b
    (la.tokens ∙ ap (λ (ps : List Piece). tokens_of file text 0 ps) (sym e) ∙ sym lb.tokens)
    (la.pragmas ∙ ap (λ (ps : List Piece). pragmas_of file text 0 ps) (sym e) ∙ sym lb.pragmas)

whole_is : (text : List ℕ) (ps qs : List Piece) → GoesOn text (length text) ps qs (length text) → qs ≡ ps
whole_is text ps qs on =
    let none = stuck text (length text) (length text) on.rest (stuck_end text (length text) (omega arith)) on.on in
    on.is ∙ ap (λ (xs : List Piece). ps ++ xs) none.0 ∙ append-nil ps

lists : (file : ℕ) (text : List ℕ) (a b : TokenList) → IsListOf file text a → IsListOf file text b → a ≡ b
lists file text a b la lb =
    elim (compare text 0 (length text) (length text) la.pieces lb.pieces la.whole.spans lb.whole.spans) [
      | inl on ↦ same_from file text a b la lb (whole_is text la.pieces lb.pieces on)
      | inr on ↦ same_from file text a b la lb (sym (whole_is text lb.pieces la.pieces on))
    ]

apart_places : (m k : ℕ) → m ≡ k → k < m → ⊥
apart_places m k e l = omega arith

err_same : {r q : Refusal} → (let front : Front = Err r in front) ≡ Err q → r ≡ q
err_same e = cc

name_same : {x y : LimitName} → (let o : Option LimitName = Some x in o) ≡ Some y → x ≡ y
name_same e = cc

-- a refusal goes on with nothing
stuck_flaw : (text : List ℕ) (m : ℕ) (refusal : Refusal) → front_of (drop m text) ≡ Err refusal → (piece : Piece) → front_of (drop m text) ≡ Ok piece → ⊥
stuck_flaw text m refusal e piece f = both (front_of (drop m text)) piece refusal f e

list_or_flaw : (file : ℕ) (text : List ℕ) (a : TokenList) (f : LexFault) → IsListOf file text a → IsFlawOf file text f → ⊥
list_or_flaw file text a f la fb =
    elim (compare text 0 (length text) fb.at la.pieces fb.pieces la.whole.spans fb.before.spans) [
      | inl on ↦ apart_places (length text) fb.at (stuck text (length text) fb.at on.rest (stuck_end text (length text) (omega arith)) on.on).1 fb.inside
      | inr on ↦ apart_places (length text) fb.at (sym (stuck text fb.at (length text) on.rest (stuck_flaw text fb.at fb.refusal fb.refused) on.on).1) fb.inside
    ]

list_or_limit : (file : ℕ) (text : List ℕ) (a : TokenList) (name : LimitName) → IsListOf file text a → IsLimitOf file text name → ⊥
list_or_limit file text a name la is =
    elim (compare text 0 is.at (length text) is.pieces la.pieces is.before.spans la.whole.spans) [
      | inl on ↦ let end = (limit_stops file text name is la.pieces (length text) la.whole.limits on).1 in ends text is.at is.piece (omega arith) is.next
      | inr on ↦ let end = (stuck text (length text) is.at on.rest (stuck_end text (length text) (omega arith)) on.on).1 in
          ends text is.at is.piece (omega arith) is.next
    ]

flaw_or_limit : (file : ℕ) (text : List ℕ) (f : LexFault) (name : LimitName) → IsFlawOf file text f → IsLimitOf file text name → ⊥
flaw_or_limit file text f name fa is =
    elim (compare text 0 is.at fa.at is.pieces fa.pieces is.before.spans fa.before.spans) [
      | inl on ↦ let same = (limit_stops file text name is fa.pieces fa.at fa.before.limits on).1 in
          both (front_of (drop fa.at text)) is.piece fa.refusal (ap (λ (k : ℕ). front_of (drop k text)) (sym same) ∙ is.next) fa.refused
      | inr on ↦ let same = (stuck text fa.at is.at on.rest (stuck_flaw text fa.at fa.refusal fa.refused) on.on).1 in
          both (front_of (drop fa.at text)) is.piece fa.refusal (ap (λ (k : ℕ). front_of (drop k text)) same ∙ is.next) fa.refused
    ]

same_flaw : (file : ℕ) (text : List ℕ) (f g : LexFault) (fa : IsFlawOf file text f) (fb : IsFlawOf file text g) → fa.at ≡ fb.at → f ≡ g
same_flaw file text f g fa fb e =
    let same : fa.refusal ≡ fb.refusal = err_same (sym fa.refused ∙ ap (λ (k : ℕ). front_of (drop k text)) e ∙ fb.refused) in
    fa.is ∙ ap (λ (r : Refusal). fault_at r.flaw (place_at file text (fa.at + r.offset))) same
    ∙ ap (λ (k : ℕ). fault_at fb.refusal.flaw (place_at file text (k + fb.refusal.offset))) e ∙ sym fb.is

flaws : (file : ℕ) (text : List ℕ) (f g : LexFault) → IsFlawOf file text f → IsFlawOf file text g → f ≡ g
flaws file text f g fa fb =
    elim (compare text 0 fa.at fb.at fa.pieces fb.pieces fa.before.spans fb.before.spans) [
      | inl on ↦ same_flaw file text f g fa fb (stuck text fa.at fb.at on.rest (stuck_flaw text fa.at fa.refusal fa.refused) on.on).1
      | inr on ↦ same_flaw file text f g fa fb (sym (stuck text fb.at fa.at on.rest (stuck_flaw text fb.at fb.refusal fb.refused) on.on).1)
    ]

same_limit : (file : ℕ) (text : List ℕ) (x y : LimitName) (a : IsLimitOf file text x) (b : IsLimitOf file text y) → b.pieces ≡ a.pieces → a.at ≡ b.at → x ≡ y
same_limit file text x y a b e f =
    let same : a.piece ≡ b.piece = ok_same (sym a.next ∙ ap (λ (k : ℕ). front_of (drop k text)) f ∙ b.next) in
    let run : a.pieces ++ a.piece ∷ [] ≡ b.pieces ++ b.piece ∷ [] = ap (λ (ps : List Piece). ps ++ a.piece ∷ []) (sym e)
    ∙ ap (λ (p : Piece). b.pieces ++ p ∷ []) same in
    name_same (sym a.passed ∙ ap (λ (ps : List Piece). limit_passed (latest (tokens_of file text 0 ps))) run ∙ b.passed)

limits : (file : ℕ) (text : List ℕ) (x y : LimitName) → IsLimitOf file text x → IsLimitOf file text y → x ≡ y
limits file text x y a b =
    elim (compare text 0 a.at b.at a.pieces b.pieces a.before.spans b.before.spans) [
      | inl on ↦ let s = limit_stops file text x a b.pieces b.at b.before.limits on in same_limit file text x y a b s.0 s.1
      | inr on ↦ let s = limit_stops file text y b a.pieces a.at a.before.limits on in sym (same_limit file text y x b a s.0 s.1)
    ]

-- a fault is a flaw or a limit
abbrev IsLimitFault : ℕ → List ℕ → LexFault → Type 0
IsLimitFault file text f = (name : LimitName) × (f ≡ fault.Limit name) × IsLimitOf file text name

fault_kind : (file : ℕ) (text : List ℕ) (f : LexFault) → IsFaultOf file text f → IsFlawOf file text f ⊎ IsLimitFault file text f
fault_kind file text (fault.Limit name) h = inr (name, refl, h)
fault_kind file text fault.NoMemory h = absurd h
fault_kind file text f h = inl h

list_or_fault : (file : ℕ) (text : List ℕ) (a : TokenList) (f : LexFault) → IsListOf file text a → IsFaultOf file text f → ⊥
list_or_fault file text a f la h = elim (fault_kind file text f h) [
  | inl fa ↦ list_or_flaw file text a f la fa
  | inr fa ↦ list_or_limit file text a fa.0 la fa.2
]

two_faults : (file : ℕ) (text : List ℕ) (f g : LexFault) → IsFlawOf file text f ⊎ IsLimitFault file text f → IsFlawOf file text g ⊎ IsLimitFault file text g
    → f ≡ g
two_faults file text f g (inl a) (inl b) = flaws file text f g a b
two_faults file text f g (inl a) (inr b) = absurd (flaw_or_limit file text f b.0 a b.2)
two_faults file text f g (inr a) (inl b) = absurd (flaw_or_limit file text g a.0 b a.2)
two_faults file text f g (inr a) (inr b) = a.1 ∙ ap (λ (name : LimitName). fault.Limit name) (limits file text a.0 b.0 a.2 b.2) ∙ sym b.1

faults : (file : ℕ) (text : List ℕ) (f g : LexFault) → IsFaultOf file text f → IsFaultOf file text g → f ≡ g
faults file text f g h k = two_faults file text f g (fault_kind file text f h) (fault_kind file text g k)

pub one_reading : (file : ℕ) (text : List ℕ) (a b : Result TokenList LexFault) → IsReadingOf file text a → IsReadingOf file text b → a ≡ b
one_reading file text (Ok a) (Ok b) h k = ap (λ (x : TokenList). Ok x) (lists file text a b h k)
one_reading file text (Ok a) (Err f) h k = absurd (list_or_fault file text a f h k)
one_reading file text (Err f) (Ok b) h k = absurd (list_or_fault file text b f k h)
one_reading file text (Err f) (Err g) h k = ap (λ (x : LexFault). Err x) (faults file text f g h k)

-- whatever reading a text has is the one that was answered
pub answer_is : (file : ℕ) (text : List ℕ) (result other : Result TokenList LexFault) → Answers file text result → IsReadingOf file text other
    → IsUnlessNoMemory result other
answer_is file text (Ok a) other h k = one_reading file text (Ok a) other h k
answer_is file text (Err fault.NoMemory) other h k = tt
answer_is file text (Err (fault.Limit name)) other h k = one_reading file text (Err (fault.Limit name)) other h k
answer_is file text (Err f) other h k = one_reading file text (Err f) other h k
