-- What is read so far.
use Rattle.std.proofs.Common.{◌≡◌, ℕ, ◌+◌, ◌-◌, ◌<◌, ◌≤◌, Bool, true, false, leb, List, [], ◌∷◌, ◌++◌, length, take, drop, map, reverse, Some, None, Ok, Err}
use Rattle.std.proofs.Common.{refl, sym, ◌∙◌, ap, subst, arith, append_assoc, append-nil, length-append, length-drop, length-take}
use Rattle.std.proofs.lemmas.Bool.{leb-false, leb-true}
use Rattle.std.proofs.lemmas.List.{reverse-append, take-append-le, take_rest, map-append, take_all}
use Rattle.std.proofs.Math.Seq.{take-add}
use Rattle.cov_types.specs.declared.limit.LimitName.{LimitName}
use Rattle.cov_types.specs.declared.place.Place.{Place}
use Rattle.cov_types.specs.declared.pragma.Pragma.{Pragma}
use Rattle.vlog_lexer.specs.Adding.{Refuses, StaysWithin}
use Rattle.vlog_lexer.specs.Faults.{fault_at}
use Rattle.vlog_lexer.specs.Limits.{limit_passed}
use Rattle.vlog_lexer.specs.Pieces.{Front, Gives, front_of}
use Rattle.vlog_lexer.specs.Inside.{IsInside}
use Rattle.vlog_lexer.specs.Reading.{Answers, IsFlawOf, IsLimitOf, IsListOf, IsWithinLimits, ReadsTo, Spans, latest, place_at, pragma_of, pragmas_of, token_of}
use Rattle.vlog_lexer.specs.Reading.{tokens_of}
use Rattle.vlog_lexer.specs.declared.fault.LexFault.{LexFault}
use Rattle.vlog_lexer.specs.declared.fault.LexFault.TheVariants as fault
use Rattle.vlog_lexer.specs.declared.piece.Flaw.{Flaw}
use Rattle.vlog_lexer.specs.declared.piece.Flaw.TheVariants as flaw
use Rattle.vlog_lexer.specs.declared.piece.Meaning.{Meaning}
use Rattle.vlog_lexer.specs.declared.piece.Meaning.TheVariants as m
use Rattle.vlog_lexer.specs.declared.piece.Piece.{Piece}
use Rattle.vlog_lexer.specs.declared.piece.Refusal.{Refusal}
use Rattle.vlog_lexer.specs.declared.piece.Stop.{Stop}
use Rattle.vlog_lexer.specs.declared.piece.Stop.TheVariants.{Refused}
use Rattle.vlog_tokens.specs.declared.token.Token.{Token}
use Rattle.vlog_tokens.specs.declared.token.TokenKind.{TokenKind}
use Rattle.vlog_tokens.specs.declared.token_list.TokenList.{TokenList}

-- the text is read up to byte at, with these tokens and coverage comments
pub record IsRead (file : ℕ) (text : List ℕ) (tokens : List Token) (pragmas : List Pragma) (at : ℕ) : Type 0 where
  pub pieces : List Piece
  pub reads : ReadsTo file text pieces at
  pub tokens_are : tokens ≡ tokens_of file text 0 pieces
  pub pragmas_are : pragmas ≡ pragmas_of file text 0 pieces

take-none : {A : Type 0} (n : ℕ) → take n (let xs : List A = [] in xs) ≡ []
take-none n = take_all n [] (omega arith)

pub nothing_read : (file : ℕ) (text : List ℕ) → IsRead file text [] [] 0
unfolding limit_passed
nothing_read file text = record {
  pieces = [];
  reads = record { spans = refl; limits = λ n. ap (λ (ts : List Token). limit_passed (latest ts)) (take-none n) };
  tokens_are = refl;
  pragmas_are = refl;
}

pub Spans-one_more : (text : List ℕ) (n : ℕ) (pieces : List Piece) (at : ℕ) (piece : Piece) → Spans text n pieces at → front_of (drop at text) ≡ Ok piece
    → Spans text n (pieces ++ piece ∷ []) (at + piece.len)
Spans-one_more text n [] at piece e front = (ap (λ (k : ℕ). front_of (drop k text)) e ∙ front, ap (λ (k : ℕ). k + piece.len) e)
Spans-one_more text n (p ∷ pieces) at piece s front = (s.0, Spans-one_more text (n + p.len) pieces at piece s.1 front)

pub tokens_of-one_more : (file : ℕ) (text : List ℕ) (n : ℕ) (pieces : List Piece) (at : ℕ) (piece : Piece) → Spans text n pieces at
    → tokens_of file text n (pieces ++ piece ∷ []) ≡ tokens_of file text n pieces ++ token_of (place_at file text at) piece.what
tokens_of-one_more file text n [] at piece e = append-nil (token_of (place_at file text n) piece.what)
    ∙ ap (λ (k : ℕ). token_of (place_at file text k) piece.what) e
tokens_of-one_more file text n (p ∷ pieces) at piece s =
    let first = token_of (place_at file text n) p.what in
    ap (λ (ts : List Token). first ++ ts) (tokens_of-one_more file text (n + p.len) pieces at piece s.1)
    ∙ sym (append_assoc first (tokens_of file text (n + p.len) pieces) (token_of (place_at file text at) piece.what))

pub pragmas_of-one_more : (file : ℕ) (text : List ℕ) (n : ℕ) (pieces : List Piece) (at : ℕ) (piece : Piece) → Spans text n pieces at
    → pragmas_of file text n (pieces ++ piece ∷ []) ≡ pragmas_of file text n pieces ++ pragma_of (place_at file text at) piece.what
pragmas_of-one_more file text n [] at piece e = append-nil (pragma_of (place_at file text n) piece.what)
    ∙ ap (λ (k : ℕ). pragma_of (place_at file text k) piece.what) e
pragmas_of-one_more file text n (p ∷ pieces) at piece s =
    let first = pragma_of (place_at file text n) p.what in
    ap (λ (ts : List Pragma). first ++ ts) (pragmas_of-one_more file text (n + p.len) pieces at piece s.1)
    ∙ sym (append_assoc first (pragmas_of file text (n + p.len) pieces) (pragma_of (place_at file text at) piece.what))

abbrev kind_of : Token → TokenKind
kind_of token = token.what

pub latest-one_more : (tokens : List Token) (token : Token) → latest (tokens ++ token ∷ []) ≡ token.what ∷ latest tokens
latest-one_more tokens token =
    ap (λ (ks : List TokenKind). reverse ks) (map-append kind_of tokens (token ∷ [])) ∙ reverse-append (map kind_of tokens) (token.what ∷ [])

within-at : (tokens : List Token) (token : Token) (n : ℕ) (t : Bool) → leb n (length tokens) ≡ t → IsWithinLimits tokens
    → limit_passed (latest (tokens ++ token ∷ [])) ≡ None → limit_passed (latest (take n (tokens ++ token ∷ []))) ≡ None
within-at tokens token n true e within last =
    let front : n ≤ length tokens = leb-true n (length tokens) e in
    ap (λ (ts : List Token). limit_passed (latest ts)) (take-append-le n tokens (token ∷ []) front) ∙ within n
within-at tokens token n false e within last =
    let past : length tokens < n = leb-false n (length tokens) e in
    let whole : length (tokens ++ token ∷ []) ≤ n = rw length-append (omega arith) in
    ap (λ (ts : List Token). limit_passed (latest ts)) (take_all n (tokens ++ token ∷ []) whole) ∙ last

-- the limits still hold with what a piece adds
within-more : (tokens : List Token) (place : Place) (what : Meaning) → IsWithinLimits tokens → StaysWithin (latest tokens) what
    → IsWithinLimits (tokens ++ token_of place what)
within-more tokens place m.Blank within stays = subst (λ (ts : List Token). IsWithinLimits ts) (sym (append-nil tokens)) within
within-more tokens place (m.Comment kind) within stays = subst (λ (ts : List Token). IsWithinLimits ts) (sym (append-nil tokens)) within
within-more tokens place (m.Token kind) within stays =
    let token : Token = record { place = place; what = kind } in
    λ n. within-at tokens token n (leb n (length tokens)) refl within (ap limit_passed (latest-one_more tokens token) ∙ stays)

-- reading one more piece
pub read_more : (file : ℕ) (text : List ℕ) (tokens : List Token) (pragmas : List Pragma) (at : ℕ) (what : Meaning) (len : ℕ)
    → IsRead file text tokens pragmas at → front_of (drop at text) ≡ Ok (record { what = what; len = len }) → StaysWithin (latest tokens) what
    → IsRead file text (tokens ++ token_of (place_at file text at) what) (pragmas ++ pragma_of (place_at file text at) what) (at + len)
read_more file text tokens pragmas at what len read front stays =
    let piece : Piece = record { what = what; len = len } in
    let more = tokens_of-one_more file text 0 read.pieces at piece read.reads.spans in
    let same : tokens ++ token_of (place_at file text at) what ≡ tokens_of file text 0 (read.pieces ++ piece ∷ []) =
    ap (λ (ts : List Token). ts ++ token_of (place_at file text at) what) read.tokens_are ∙ sym more in
    let within = subst (λ (ts : List Token). IsWithinLimits ts) (sym read.tokens_are) read.reads.limits in
    record {
      pieces = read.pieces ++ piece ∷ [];
      reads = record {
        spans = Spans-one_more text 0 read.pieces at piece read.reads.spans front;
        limits = subst (λ (ts : List Token). IsWithinLimits ts) same (within-more tokens (place_at file text at) what within stays);
      };
      tokens_are = same;
      pragmas_are = ap (λ (ts : List Pragma). ts ++ pragma_of (place_at file text at) what) read.pragmas_are
          ∙ sym (pragmas_of-one_more file text 0 read.pieces at piece read.reads.spans);
    }

pub whole_read : (file : ℕ) (text : List ℕ) (found : TokenList) (at : ℕ) → at ≤ length text → length text ≤ at
    → IsRead file text found.tokens found.pragmas at → IsListOf file text found
whole_read file text found at l g read =
    let end : at ≡ length text = omega arith in
    record {
      pieces = read.pieces;
      whole = subst (λ (n : ℕ). ReadsTo file text read.pieces n) end read.reads;
      tokens = read.tokens_are;
      pragmas = read.pragmas_are;
    }

-- a fault of a piece
pub flaw_answers : (file : ℕ) (text : List ℕ) (f : Flaw) (place : Place) → IsFlawOf file text (fault_at f place) → Answers file text (Err (fault_at f place))
flaw_answers file text flaw.BadByte place is = is
flaw_answers file text flaw.BadNumber place is = is
flaw_answers file text flaw.NumberTooWide place is = is
flaw_answers file text flaw.OpenComment place is = is
flaw_answers file text flaw.OpenString place is = is
flaw_answers file text flaw.Directive place is = is
flaw_answers file text flaw.ReservedName place is = is

pub refused_answers : (file : ℕ) (text : List ℕ) (tokens : List Token) (pragmas : List Pragma) (at : ℕ) (refusal : Refusal) (place : Place)
    → at < length text → IsRead file text tokens pragmas at
    → front_of (drop at text) ≡ Err refusal → place ≡ place_at file text (at + refusal.offset) → Answers file text (Err (fault_at refusal.flaw place))
refused_answers file text tokens pragmas at refusal place l read front here = flaw_answers file text refusal.flaw place (record {
  pieces = read.pieces;
  at = at;
  refusal = refusal;
  before = read.reads;
  inside = l;
  refused = front;
  is = ap (fault_at refusal.flaw) here;
})

-- a limit that a token passes
limit_answers : (file : ℕ) (text : List ℕ) (tokens : List Token) (pragmas : List Pragma) (at len : ℕ) (kind : TokenKind) (name : LimitName)
    → IsRead file text tokens pragmas at
    → front_of (drop at text) ≡ Ok (record { what = m.Token kind; len = len }) → limit_passed (kind ∷ latest tokens) ≡ Some name → IsLimitOf file text name
limit_answers file text tokens pragmas at len kind name read front passed =
    let piece : Piece = record { what = m.Token kind; len = len } in
    let token : Token = record { place = place_at file text at; what = kind } in
    let same : tokens_of file text 0 (read.pieces ++ piece ∷ []) ≡ tokens ++ token ∷ [] =
    tokens_of-one_more file text 0 read.pieces at piece read.reads.spans ∙ ap (λ (ts : List Token). ts ++ token ∷ []) (sym read.tokens_are) in
    record {
      pieces = read.pieces;
      at = at;
      piece = piece;
      before = read.reads;
      next = front;
      passed = ap (λ (ts : List Token). limit_passed (latest ts)) same ∙ ap limit_passed (latest-one_more tokens token) ∙ passed;
    }

pub adding_answers : (file : ℕ) (text : List ℕ) (tokens : List Token) (pragmas : List Pragma) (at len : ℕ) (what : Meaning) (f : LexFault)
    → IsRead file text tokens pragmas at
    → front_of (drop at text) ≡ Ok (record { what = what; len = len }) → Refuses (latest tokens) what f → Answers file text (Err f)
adding_answers file text tokens pragmas at len what fault.NoMemory read front h = tt
adding_answers file text tokens pragmas at len (m.Token kind) (fault.Limit name) read front h = limit_answers file text tokens pragmas at len kind name read
    front h
adding_answers file text tokens pragmas at len what f read front h = absurd h

-- what the calls of a turn tell
pub nothing_read_yet : (file : ℕ) (text : List ℕ) (tokens : List Token) (pragmas : List Pragma) → tokens ≡ [] → pragmas ≡ [] → IsRead file text tokens pragmas 0
unfolding nothing_read
nothing_read_yet file text tokens pragmas e f = record {
  pieces = [];
  reads = (nothing_read file text).reads;
  tokens_are = e;
  pragmas_are = f;
}

pub given_refusal : (front : Front) (stop : Stop) (refusal : Refusal) → stop ≡ Refused refusal → Gives front (Err stop) → front ≡ Err refusal
given_refusal front stop refusal e gives = subst (λ (x : Stop). Gives front (Err x)) e gives

pub offset_inside : (n : ℕ) (stop : Stop) (refusal : Refusal) → stop ≡ Refused refusal → IsInside n (Err stop) → refusal.offset < n
offset_inside n stop refusal e inside = subst (λ (x : Stop). IsInside n (Err x)) e inside

pub rest_length : (text : List ℕ) (at : ℕ) → length (take (length text - at) (drop at text)) ≡ length text - at
rest_length text at = ap length (take_rest text at) ∙ length-drop at text

pub front_here : (text : List ℕ) (at : ℕ) (front : Front) → front_of (take (length text - at) (drop at text)) ≡ front → front_of (drop at text) ≡ front
front_here text at front e = sym (ap front_of (take_rest text at)) ∙ e

pub piece_bytes : (text : List ℕ) (at n : ℕ) → take at text ++ take n (take (length text - at) (drop at text)) ≡ take (at + n) text
piece_bytes text at n = ap (λ (xs : List ℕ). take at text ++ take n xs) (take_rest text at) ∙ sym (take-add at n text)

pub read_next : (file : ℕ) (text : List ℕ) (tokens new_tokens : List Token) (pragmas new_pragmas : List Pragma) (at : ℕ) (what : Meaning) (len : ℕ)
    (place : Place) → IsRead file text tokens pragmas at
    → front_of (drop at text) ≡ Ok (record { what = what; len = len }) → StaysWithin (latest tokens) what → place ≡ place_at file text at
    → new_tokens ≡ tokens ++ token_of place what → new_pragmas ≡ pragmas ++ pragma_of place what → IsRead file text new_tokens new_pragmas (at + len)
read_next file text tokens new_tokens pragmas new_pragmas at what len place read front stays here e f =
    let more = read_more file text tokens pragmas at what len read front stays in
    record {
      pieces = more.pieces;
      reads = more.reads;
      tokens_are = e ∙ ap (λ (p : Place). tokens ++ token_of p what) here ∙ more.tokens_are;
      pragmas_are = f ∙ ap (λ (p : Place). pragmas ++ pragma_of p what) here ∙ more.pragmas_are;
    }

pub take_short : (n : ℕ) (xs : List ℕ) → length (take n xs) ≤ n
take_short n xs = omega (arith, length-take n xs)
