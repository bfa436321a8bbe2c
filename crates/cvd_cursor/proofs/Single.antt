-- One token is read, or is none of those that may come.
use Rattle.std.proofs.Common.{◌≡◌, ℕ, Bool, true, false, List, [], ◌∷◌, ◌++◌, Some, None, refl, sym, ◌∙◌, ap, subst}
use Rattle.std.specs.Prelude.{not}
use Rattle.std.specs.Str.{bytes_eq}
use Rattle.std.proofs.lemmas.Bool.{true≢false}
use Rattle.cvd_text.specs.Tokens.{Token, token_text, is_numeric}
use Rattle.cvd_text.specs.Pieces.{Piece, a_word, feed, Mark, token, line_end, fits}
use Rattle.spelling_laws.specs.Spelled.{all_fit, NoneFits}
use Rattle.spelling_laws.proofs.Ended.{begins_with}
use Rattle.spelling_laws.proofs.Fitting.{head_or, both_true}
use Rattle.cvd_cursor.specs.Places.{Reading, first_word, behind_word}
use Rattle.cvd_cursor.specs.Reads.{Takes, Stops, Refused, fault_at, fault_of}
use Rattle.cvd_cursor.proofs.Cutting.{is_inside}
use Rattle.cvd_cursor.specs.declared.fault.ReadFault.{ReadFault}
use Rattle.cvd_cursor.specs.declared.fault.ReadFault.TheVariants.{NoMemory, BadNumber, BadToken, BadShape, Truncated}

-- where the pieces stop being a value's, they are refused
pub refuses : {A : Type 0} (s : A → List Mark) (old new : Reading) (fault : ReadFault) → Stops s old new fault → Refused s old fault new
refuses s old new NoMemory h = tt
refuses s old new BadNumber h = h
refuses s old new BadToken h = h
refuses s old new BadShape h = h
refuses s old new Truncated h = h

-- whether the first piece, if there is one, is a mark
abbrev pub starts : List Piece → Mark → Bool
starts = begins_with fits

module _ {A : Type 0} (mark : A → Mark) where
  abbrev pub single : A → List Mark
  single a = mark a ∷ []

  none_fits : (ps : List Piece) → ((a : A) → starts ps (mark a) ≡ false) → NoneFits fits single [] ps
  none_fits [] none = tt
  none_fits (p ∷ ps) none = λ m w. by m w.value w.first w.more w.split w.fit
    where
      by : (m : Mark) (v : A) (first more : List Mark) → single v ≡ first ++ m ∷ more → all_fit fits [] first ≡ true → fits p m ≡ false
      by m v [] more s f = subst (λ y. fits p y ≡ false) (ap (head_or m) s) (none v)
      by m v (x ∷ first) more s f = absurd (true≢false (sym f))

  -- where none of the marks comes next
  pub stops_here : (some : A) (old : Reading) (fault : ReadFault) → ((a : A) → starts old.rest (mark a) ≡ false) → fault ≡ fault_at old.rest (mark some)
      → Refused single old fault old
  stops_here some old fault none kind = refuses single old old fault (record {
    same = refl;
    wanted = mark some;
    wrong = record {
      given = [];
      split = refl;
      awaits = record { value = some; first = []; more = []; split = refl; fit = refl };
      none = none_fits old.rest none;
    };
    kind = kind;
  })

  -- where one does
  pub takes_one : (a : A) (old new : Reading) (p : Piece) → new.text ≡ old.text → old.rest ≡ p ∷ new.rest → fits p (mark a) ≡ true → Takes single old new a
  takes_one a old new p same split fit = record
      { same = same; read = record { given = p ∷ []; split = split; fit = both_true (fits p (mark a)) true fit refl } }

-- a word that comes next
pub word_first : (ps : List Piece) (w : List ℕ) → first_word ps ≡ Some w → ps ≡ a_word w ∷ behind_word ps
word_first [] w e = absurd (cc)
word_first (a_word v ∷ ps) w e = let same : v ≡ w = cc in ap (λ x. a_word x ∷ ps) same
word_first (feed ∷ ps) w e = absurd (cc)

pub no_word : (ps : List Piece) (t : Token) → first_word ps ≡ None → starts ps (token t) ≡ false
no_word [] t e = refl
no_word (a_word v ∷ ps) t e = absurd (cc)
no_word (feed ∷ ps) t e = refl

pub other_word : (ps : List Piece) (w : List ℕ) (t : Token) → first_word ps ≡ Some w → bytes_eq w (token_text t) ≡ false → starts ps (token t) ≡ false
other_word ps w t e other = ap (λ l. starts l (token t)) (word_first ps w e) ∙ other

pub token_fault : (ps : List Piece) (t : Token) → fault_of (is_numeric t) ps ≡ fault_at ps (token t)
token_fault [] t = refl
token_fault (p ∷ ps) t = refl

module _ {A : Type 0} (tok : A → Token) where
  abbrev pub one_token : A → List Mark
  one_token a = token (tok a) ∷ []

  -- no word comes next
  pub missing : (some : A) (old : Reading) (fault : ReadFault) → first_word old.rest ≡ None → fault ≡ fault_of (is_numeric (tok some)) old.rest
      → Refused one_token old fault old
  missing some old fault none kind =
      stops_here (λ a. token (tok a)) some old fault (λ a. no_word old.rest (tok a) none) (kind ∙ token_fault old.rest (tok some))

  -- another word comes next
  pub differs : (some : A) (old : Reading) (w : List ℕ) (fault : ReadFault) → first_word old.rest ≡ Some w → ((a : A) → bytes_eq w (token_text (tok a)) ≡ false)
      → fault ≡ fault_of (is_numeric (tok some)) (a_word w ∷ []) → Refused one_token old fault old
  differs some old w fault next other kind =
      stops_here (λ a. token (tok a)) some old fault (λ a. other_word old.rest w (tok a) next (other a))
      (kind ∙ sym (by old.rest next))
    where
      by : (ps : List Piece) → first_word ps ≡ Some w → fault_at ps (token (tok some)) ≡ fault_of (is_numeric (tok some)) (a_word w ∷ [])
      by ps e = ap (λ l. fault_at l (token (tok some))) (word_first ps w e)

  -- the word of a value comes next
  pub takes_word : (a : A) (old new : Reading) (w : List ℕ) → first_word old.rest ≡ Some w → new.text ≡ old.text → new.rest ≡ behind_word old.rest
      → bytes_eq w (token_text (tok a)) ≡ true → Takes one_token old new a
  takes_word a old new w next same rest fit =
      takes_one (λ b. token (tok b)) a old new (a_word w) same (word_first old.rest w next ∙ ap (λ l. a_word w ∷ l) (sym rest)) fit

-- where no line feed comes next, no line ends
pub inside_starts : (ps : List Piece) (stands : Bool) → is_inside ps ≡ true → starts ps (line_end stands) ≡ false
inside_starts [] stands h = refl
inside_starts (a_word w ∷ ps) stands h = refl
inside_starts (feed ∷ ps) stands h = absurd (true≢false (sym h))

pub inside_fault : (ps : List Piece) (stands : Bool) → is_inside ps ≡ true → fault_of false ps ≡ fault_at ps (line_end stands)
inside_fault [] stands h = refl
inside_fault (a_word w ∷ ps) stands h = refl
inside_fault (feed ∷ ps) stands h = absurd (true≢false (sym h))

pub false_from_not : (b : Bool) → true ≡ not b → b ≡ false
false_from_not true e = absurd (true≢false e)
false_from_not false e = refl

pub true_from_not : (b : Bool) → false ≡ not b → b ≡ true
true_from_not true e = refl
true_from_not false e = absurd (true≢false (sym e))
