-- A text has one fault, where a design has one fault of its flow.
use Rattle.std.proofs.Common.{◌≡◌, ℕ, Bool, true, false, List, [], ◌∷◌, ◌++◌, length, refl, sym, ◌∙◌, ap, subst, arith, eqb, append_assoc}
use Rattle.std.specs.Prelude.{if◌then◌else◌, nat_eq}
use Rattle.std.proofs.lemmas.Bool.{true≢false}
use mathlib.Core.Logic.{inl, inr}
use Rattle.design_tree.specs.declared.design.Design.{Design}
use Rattle.design_tree.specs.declared.instrumented.Instrumented.{Instrumented}
use Rattle.design_meaning.specs.Valid.{IsValid}
use Rattle.cvd_text.specs.Fault.{Awaits, IsWrong, EndsFirst, Flaw, bad_number, bad_token, trailing, invalid, has_name, has_first_line, flaw_at, line_start}
use Rattle.cvd_text.specs.Fault.{IsFlaw, other_text, no_line, other_version, wrong_piece, cut_off, goes_on, breaks_flow}
use Rattle.cvd_text.specs.Laws.{OneFlaw}
use Rattle.cvd_text.specs.Pieces.{Piece, a_word, feed, Mark, token, line_end, fits, pieces_of, onto_word, empty_word, design_marks}
use Rattle.cvd_text.specs.Spelling.{design_lines, spelling, AllStand, Cvd}
use Rattle.cvd_text.specs.Tokens.{is_numeric}
use Rattle.cvd_cursor.specs.Places.{is_ended}
use Rattle.cvd_cursor.proofs.Cutting.{pieces_before}
use Rattle.spelling_laws.specs.Spelled as laws
use Rattle.spelling_laws.specs.Spelled.{all_fit, Apart, OneSort}
use Rattle.spelling_laws.proofs.Fitting.{first_true, second_true, both_true, cut_marks, same_length, Levi, first_longer, first_shorter, levi, length-joined}
use Rattle.spelling_laws.proofs.Fitting.{no_more, head_or}
use Rattle.spelling_laws.proofs.One.{one_place}
use Rattle.cvd_section_laws.proofs.Whole.{apart_design}
use Rattle.cvd_sort_laws.proofs.TokenSorts.{is_numeric_mark}
use Rattle.cvd_sort_laws.proofs.WholeSorts.{design_sorted}
use Rattle.cvd_valid_laws.proofs.Whole.{valid_where_stands}
use Rattle.cvd_file_laws.proofs.Texts.{pieces_then, text_ended}

-- ---- whole spellings in front of pieces

-- two whole spellings in front of the same pieces are of one design
same_whole : (xs ys us vs : List Piece) (x y : Instrumented) → xs ++ ys ≡ us ++ vs → all_fit fits xs (design_marks x) ≡ true
    → all_fit fits us (design_marks y) ≡ true
    → x ≡ y
same_whole xs ys us vs x y e f g = by (levi xs ys us vs e)
  where
    by : Levi xs ys us vs → x ≡ y
    by (first_longer mid e1 f1) =
        let c = cut_marks fits us mid (design_marks x) (subst (λ l. all_fit fits l (design_marks x) ≡ true) e1 f) in
        apart_design x y (inr (record { given = us; first = c.front; more = c.back; whole = g; split = c.split; front = c.front_fits }))
    by (first_shorter p mid e1 f1) =
        let c = cut_marks fits xs (p ∷ mid) (design_marks y) (subst (λ l. all_fit fits l (design_marks y) ≡ true) e1 g) in
        apart_design x y (inl (record { given = xs; first = c.front; more = c.back; whole = f; split = c.split; front = c.front_fits }))

-- behind a whole spelling nothing is awaited
none_behind : (gs mid : List Piece) (x : Instrumented) (m : Mark) → all_fit fits gs (design_marks x) ≡ true → laws.Awaits fits design_marks (gs ++ mid) m → ⊥
none_behind gs mid x m f w =
    let c = cut_marks fits gs mid w.first w.fit in
    let same = apart_design x w.value (inl (record {
      given = gs;
      first = c.front;
      more = c.back ++ m ∷ w.more;
      whole = f;
      split = w.split ∙ ap (λ l. l ++ m ∷ w.more) c.split ∙ append_assoc c.front c.back (m ∷ w.more);
      front = c.front_fits;
    })) in
    let l1 = same_length fits gs (design_marks x) f in
    let l2 = same_length fits gs c.front c.front_fits in
    let l3 = ap (λ y. length (design_marks y)) same in
    let l4 = ap length w.split ∙ length-joined w.first (m ∷ w.more) in
    let l5 = ap length c.split ∙ length-joined c.front c.back in
    absurd (omega arith)

-- pieces that a whole spelling is in front of aren't wrong
no_wrong : (gs tail ps rest : List Piece) (x : Instrumented) (m : Mark) → ps ≡ gs ++ tail → all_fit fits gs (design_marks x) ≡ true
    → laws.IsWrong fits design_marks ps m rest → ⊥
no_wrong gs tail ps rest x m e f w = by (levi gs tail w.given rest (sym e ∙ w.split))
  where
    fitting : (p : Piece) (mid back : List Piece) (first : List Mark) (more : List Mark) → design_marks x ≡ first ++ more → all_fit fits (p ∷ mid) more ≡ true
        → all_fit fits w.given first ≡ true → laws.NoneFits fits design_marks w.given (p ∷ back) → ⊥
    fitting p mid back first [] s g h none = true≢false (sym g)
    fitting p mid back first (k ∷ more) s g h none =
        true≢false (sym (first_true (fits p k) (all_fit fits mid more) g) ∙ none k (record { value = x; first = first; more = more; split = s; fit = h }))

    by : Levi gs tail w.given rest → ⊥
    by (first_longer [] e1 f1) =
        none_behind w.given [] x m (subst (λ l. all_fit fits l (design_marks x) ≡ true) (e1 ∙ no_more w.given) f)
        (subst (λ l. laws.Awaits fits design_marks l m) (sym (no_more w.given)) w.awaits)
    by (first_longer (p ∷ mid) e1 f1) =
        let c = cut_marks fits w.given (p ∷ mid) (design_marks x) (subst (λ l. all_fit fits l (design_marks x) ≡ true) e1 f) in
        fitting p mid (mid ++ tail) c.front c.back c.split c.back_fits c.front_fits (subst (λ l. laws.NoneFits fits design_marks w.given l) f1 w.none)
    by (first_shorter p mid e1 f1) = none_behind gs (p ∷ mid) x m f (subst (λ l. laws.Awaits fits design_marks l m) e1 w.awaits)

-- ---- the pieces of a text that begins with a design's

-- bytes up to the last line feed, and those behind it
record Ended (bs : List ℕ) : Type 0 where
  front : List ℕ
  back : List ℕ
  split : bs ≡ front ++ back
  ended : is_ended front ≡ true
  clear : pieces_of back ≡ []

no_feed : (b : ℕ) (bs : List ℕ) (feeds blank : Bool) → eqb b 10 ≡ feeds → eqb b 32 ≡ blank → feeds ≡ false → pieces_of bs ≡ [] → pieces_of (b ∷ bs) ≡ []
no_feed b bs feeds blank e g none clear =
    ap (λ c. if c then a_word [] ∷ feed ∷ pieces_of bs else if eqb b 32 then empty_word (pieces_of bs) else onto_word b (pieces_of bs)) (e ∙ none)
    ∙ by blank g
  where
    by : (blank : Bool) → eqb b 32 ≡ blank → (if eqb b 32 then empty_word (pieces_of bs) else onto_word b (pieces_of bs)) ≡ []
    by true h = ap (λ c. if c then empty_word (pieces_of bs) else onto_word b (pieces_of bs)) h ∙ ap empty_word clear
    by false h = ap (λ c. if c then empty_word (pieces_of bs) else onto_word b (pieces_of bs)) h ∙ ap (onto_word b) clear

ended_cons : (b : ℕ) (bs : List ℕ) (e : Ended bs) → Ended (b ∷ bs)
ended_cons b bs e = by e.front e.split e.ended
  where
    first : (feeds : Bool) → eqb b 10 ≡ feeds → bs ≡ e.back → Ended (b ∷ bs)
    first true f s = record { front = b ∷ []; back = e.back; split = ap (λ l. b ∷ l) s; ended = f; clear = e.clear }
    first false f s = record {
      front = [];
      back = b ∷ bs;
      split = refl;
      ended = refl;
      clear = no_feed b bs false (eqb b 32) f refl refl (ap pieces_of s
          ∙ e.clear);
    }

    by : (front : List ℕ) → bs ≡ front ++ e.back → is_ended front ≡ true → Ended (b ∷ bs)
    by [] s h = first (eqb b 10) refl s
    by (c ∷ front) s h = record { front = b ∷ c ∷ front; back = e.back; split = ap (λ l. b ∷ l) s; ended = h; clear = e.clear }

ended_of : (bs : List ℕ) → Ended bs
ended_of [] = record { front = []; back = []; split = refl; ended = refl; clear = refl }
ended_of (b ∷ bs) = ended_cons b bs (ended_of bs)

joined_ended : (xs ys : List ℕ) → is_ended xs ≡ true → is_ended ys ≡ true → is_ended (xs ++ ys) ≡ true
joined_ended [] ys e f = f
joined_ended (x ∷ []) [] e f = e
joined_ended (x ∷ []) (y ∷ ys) e f = f
joined_ended (x ∷ c ∷ xs) ys e f = joined_ended (c ∷ xs) ys e f

-- a whole spelling in front of the pieces of a text
record Front (x : Instrumented) (text : List ℕ) : Type 0 where
  given : List Piece
  rest : List Piece
  split : pieces_of text ≡ given ++ rest
  fit : all_fit fits given (design_marks x) ≡ true

front_of : (x : Instrumented) → IsValid x → (text more : List ℕ) → text ≡ spelling x ++ more → Front x text
front_of x valid text more e =
    let m = ended_of more in
    let f = pieces_then x valid m.front (joined_ended (spelling x) m.front (text_ended (design_lines x)) m.ended) in
    record {
      given = f.given;
      rest = pieces_of m.front;
      split = ap pieces_of (e ∙ ap (λ l. spelling x ++ l) m.split ∙ sym (append_assoc (spelling x) m.front m.back))
          ∙ pieces_before (spelling x ++ m.front) m.back m.clear ∙ f.split;
      fit = f.fit;
    }

-- ---- wrong pieces

pub to_awaits : (gs : List Piece) (m : Mark) → Awaits gs m → laws.Awaits fits design_marks gs m
to_awaits gs m w = record { value = w.design; first = w.first; more = w.more; split = w.split; fit = w.fit }

pub from_awaits : (gs : List Piece) (m : Mark) → laws.Awaits fits design_marks gs m → Awaits gs m
from_awaits gs m w = record { design = w.value; first = w.first; more = w.more; split = w.split; fit = w.fit }

to_wrong : (ps given : List Piece) (p : Piece) (m : Mark) (w : IsWrong ps given p m) → laws.IsWrong fits design_marks ps m (p ∷ w.rest)
to_wrong ps given p m w = record {
  given = given;
  split = w.split;
  awaits = to_awaits given m w.awaits;
  none = λ other a. w.none other (from_awaits given other a);
}

-- a text that ends too early
to_end : (ps : List Piece) (m : Mark) → Awaits ps m → laws.IsWrong fits design_marks ps m []
to_end ps m w = record { given = ps; split = sym (no_more ps); awaits = to_awaits ps m w; none = tt }

same_given : (given other rest : List Piece) → given ++ rest ≡ other ++ rest → given ≡ other
same_given given other rest e = by (levi given rest other rest e)
  where
    by : Levi given rest other rest → given ≡ other
    by (first_longer [] e1 f1) = e1 ∙ no_more other
    by (first_longer (p ∷ mid) e1 f1) = let l = ap length f1 ∙ length-joined (p ∷ mid) rest in absurd (omega arith)
    by (first_shorter p mid e1 f1) = let l = ap length f1 ∙ length-joined (p ∷ mid) rest in absurd (omega arith)

module _ (FlowFault : Type 0) (IsFlowFault : Design → FlowFault → Type 0) where
  abbrev Fault : Type 0
  Fault = Flaw FlowFault

  abbrev flaw : Piece → Mark → ℕ → Fault
  flaw = flaw_at FlowFault IsFlowFault

  by_number : (numeric : Bool) → ℕ → Fault
  by_number numeric place = if numeric then bad_number place else bad_token place

  same_flaw : (given : List Piece) (p : Piece) (m n : Mark) (place : ℕ) → is_numeric_mark m ≡ is_numeric_mark n → Awaits given m → Awaits given n
      → EndsFirst given p m → EndsFirst given p n → flaw p m place ≡ flaw p n place
  same_flaw given (a_word text) (token t) (token u) place e v w f g = ap (λ c. if c then bad_number place else bad_token place) e
  same_flaw given (a_word text) (token t) (line_end s) place e v w f g = ap (λ c. if c then bad_number place else bad_token place) e
  same_flaw given (a_word text) (line_end s) (token t) place e v w f g = ap (λ c. if c then bad_number place else bad_token place) e
  same_flaw given (a_word text) (line_end s) (line_end r) place e v w f g = refl
  same_flaw given feed (token t) (token u) place e v w f g = ap (λ c. if c then bad_number place else bad_token place) e
  same_flaw given feed (token t) (line_end s) place e v w f g = absurd (true≢false (sym (f s w)))
  same_flaw given feed (line_end s) (token t) place e v w f g = absurd (true≢false (sym (g s v)))
  same_flaw given feed (line_end s) (line_end r) place e v w f g = refl

  module _ (one_fault : (d : Design) (f g : FlowFault) → IsFlowFault d f → IsFlowFault d g → f ≡ g)
      (sorted : (most : ℕ) → OneSort fits most is_numeric_mark design_marks) (text : List ℕ) where
    abbrev ps : List Piece
    ps = pieces_of text

    two_wrong : (given other : List Piece) (p q : Piece) (m n : Mark) (v : IsWrong ps given p m) (w : IsWrong ps other q n) → EndsFirst given p m
        → EndsFirst other q n → flaw p m (line_start text given) ≡ flaw q n (line_start text other)
    two_wrong given other p q m n v w f g =
        let rests =
        one_place fits Instrumented design_marks apart_design ps m n (p ∷ v.rest) (q ∷ w.rest) (to_wrong ps given p m v) (to_wrong ps other q n w) in
        let piece : p ≡ q = ap (head_or p) rests in
        let givens = same_given given other (p ∷ v.rest) (sym v.split ∙ w.split ∙ ap (λ l. other ++ l) (sym rests)) in
        moved other q givens piece w.awaits g
      where
        moved : (other : List Piece) (q : Piece) → given ≡ other → p ≡ q → Awaits other n → EndsFirst other q n
            → flaw p m (line_start text given) ≡ flaw q n (line_start text other)
        moved other q e h a g2 =
            subst (λ o. Awaits o n → EndsFirst o q n → flaw p m (line_start text given) ≡ flaw q n (line_start text o)) e
            (subst (λ r. Awaits given n → EndsFirst given r n → flaw p m (line_start text given) ≡ flaw r n (line_start text given)) h
            (λ a g. same_flaw given p m n (line_start text given)
            (sorted (length given) given m n (omega arith) (to_awaits given m v.awaits) (to_awaits given n a)) v.awaits a f g)) a g2

    wrong_and_end : (given : List Piece) (p : Piece) (m n : Mark) → IsWrong ps given p m → Awaits ps n → ⊥
    wrong_and_end given p m n v w =
        let rests = one_place fits Instrumented design_marks apart_design ps m n (p ∷ v.rest) [] (to_wrong ps given p m v) (to_end ps n w) in
        let l = ap length rests in absurd (omega arith)

    whole_and_wrong : (x : Instrumented) → Front x text → (given : List Piece) (p : Piece) (m : Mark) → IsWrong ps given p m → ⊥
    whole_and_wrong x f given p m w = no_wrong f.given f.rest ps (p ∷ w.rest) x m f.split f.fit (to_wrong ps given p m w)

    whole_and_end : (x : Instrumented) → Front x text → (m : Mark) → Awaits ps m → ⊥
    whole_and_end x f m w = no_wrong f.given f.rest ps [] x m f.split f.fit (to_end ps m w)

    two_whole : (x y : Instrumented) → Front x text → Front y text → x ≡ y
    two_whole x y f g = same_whole f.given f.rest g.given g.rest x y (sym f.split ∙ g.split) f.fit g.fit

    -- a design's text has pieces
    whole_some : (x : Instrumented) → Front x text → ps ≡ [] → ⊥
    whole_some x f e = by f.given (sym f.split ∙ e) f.fit
      where
        by : (given : List Piece) → given ++ f.rest ≡ [] → all_fit fits given (design_marks x) ≡ true → ⊥
        by [] s g = true≢false (sym g)
        by (p ∷ given) s g = let l = ap length s in absurd (omega arith)

    longer : (x y : Instrumented) (b : ℕ) (more : List ℕ) → x ≡ y → text ≡ spelling x ++ b ∷ more → text ≡ spelling y → ⊥
    longer x y b more same e f =
        let l1 = ap length (sym e ∙ f) in
        let l2 = length-joined (spelling x) (b ∷ more) in
        let l3 = ap (λ z. length (spelling z)) same in
        absurd (omega arith)

    front_more : (x : Instrumented) (b : ℕ) (more : List ℕ) → AllStand x → text ≡ spelling x ++ b ∷ more → Front x text
    front_more x b more h e = front_of x (valid_where_stands x h) text (b ∷ more) e

    front_cvd : (x : Instrumented) → Cvd x text → Front x text
    front_cvd x c = front_of x c.valid text [] (c.spelled ∙ sym (no_more (spelling x)))

    first_more : (x : Instrumented) (more : List ℕ) → text ≡ spelling x ++ more → has_first_line text ≡ true
    first_more x more e = ap has_first_line e

    first_cvd : (x : Instrumented) → Cvd x text → has_first_line text ≡ true
    first_cvd x c = ap has_first_line c.spelled

    name_first : has_first_line text ≡ true → has_name text ≡ true
    name_first = by text
      where
        by : (t : List ℕ) → has_first_line t ≡ true → has_name t ≡ true
        by [] e = absurd (true≢false (sym e))
        by (a ∷ []) e = absurd (true≢false (sym (second_true (nat_eq 67 a) _ e)))
        by (a ∷ b ∷ []) e = absurd (true≢false (sym (second_true (nat_eq 86 b) _ (second_true (nat_eq 67 a) _ e))))
        by (a ∷ b ∷ c ∷ []) e = absurd (true≢false (sym (second_true (nat_eq 68 c) _ (second_true (nat_eq 86 b) _ (second_true (nat_eq 67 a) _ e)))))
        by (a ∷ b ∷ c ∷ d ∷ t) e =
            let e1 = second_true (nat_eq 67 a) _ e in
            let e2 = second_true (nat_eq 86 b) _ e1 in
            let e3 = second_true (nat_eq 68 c) _ e2 in
            both_true (nat_eq 67 a) _ (first_true (nat_eq 67 a) _ e) (both_true (nat_eq 86 b) _ (first_true (nat_eq 86 b) _ e1)
            (both_true (nat_eq 68 c) _ (first_true (nat_eq 68 c) _ e2) (both_true (nat_eq 32 d) true (first_true (nat_eq 32 d) _ e3) refl)))

    -- a text with the right first line has neither of the faults of another
    abbrev Clash : Bool → Type 0
    Clash b = b ≡ true → b ≡ false → ⊥

    clash : (b : Bool) → Clash b
    clash b e f = true≢false (sym e ∙ f)

    no_pieces : (given : List Piece) (p : Piece) (rest : List Piece) → ps ≡ [] → ps ≡ given ++ p ∷ rest → ⊥
    no_pieces given p rest e f = let l = ap length (sym e ∙ f) ∙ length-joined given (p ∷ rest) in absurd (omega arith)

    some_pieces : (p : Piece) (rest : List Piece) → ps ≡ [] → ps ≡ p ∷ rest → ⊥
    some_pieces p rest e f = no_pieces [] p rest e f

    two_trailing : (x y : Instrumented) → x ≡ y → ◌≡◌ {A = Fault} (trailing (length (spelling x))) (trailing (length (spelling y)))
    two_trailing x y e = ap (λ z. trailing (length (spelling z))) e

    two_invalid : (x y : Instrumented) (f g : FlowFault) → x ≡ y → IsFlowFault x.design f → IsFlowFault y.design g → ◌≡◌ {A = Fault} (invalid f) (invalid g)
    two_invalid x y f g e a b = ap invalid (one_fault y.design f g (subst (λ (z : Instrumented). IsFlowFault z.design f) e a) b)

    abbrev Is : Fault → Type 0
    Is = IsFlaw FlowFault IsFlowFault text

    pub pair : (f g : Fault) → Is f → Is g → f ≡ g
    pair f g (other_text a) (other_text a2) = refl
    pair f g (other_text a) (no_line a2 n2) = absurd (clash (has_name text) a2 a)
    pair f g (other_text a) (other_version p2 qs2 a2 n2 o2) = absurd (clash (has_name text) a2 a)
    pair f g (other_text a) (wrong_piece given2 p2 m2 h2 w2 e2) = absurd (clash (has_name text) (name_first h2) a)
    pair f g (other_text a) (cut_off m2 h2 w2) = absurd (clash (has_name text) (name_first h2) a)
    pair f g (other_text a) (goes_on x2 b2 more2 h2 e2) = absurd (clash (has_name text) (name_first (first_more x2 (b2 ∷ more2) e2)) a)
    pair f g (other_text a) (breaks_flow x2 fault2 c2 h2) = absurd (clash (has_name text) (name_first (first_cvd x2 c2)) a)
    pair f g (no_line a n) (other_text a2) = absurd (clash (has_name text) a a2)
    pair f g (no_line a n) (no_line a2 n2) = refl
    pair f g (no_line a n) (other_version p2 qs2 a2 n2 o2) = absurd (some_pieces p2 qs2 n n2)
    pair f g (no_line a n) (wrong_piece given2 p2 m2 h2 w2 e2) = absurd (no_pieces given2 p2 w2.rest n w2.split)
    pair f g (no_line a n) (cut_off m2 h2 w2) = refl
    pair f g (no_line a n) (goes_on x2 b2 more2 h2 e2) = absurd (whole_some x2 (front_more x2 b2 more2 h2 e2) n)
    pair f g (no_line a n) (breaks_flow x2 fault2 c2 h2) = absurd (whole_some x2 (front_cvd x2 c2) n)
    pair f g (other_version p qs a n o) (other_text a2) = absurd (clash (has_name text) a a2)
    pair f g (other_version p qs a n o) (no_line a2 n2) = absurd (some_pieces p qs n2 n)
    pair f g (other_version p qs a n o) (other_version p2 qs2 a2 n2 o2) = refl
    pair f g (other_version p qs a n o) (wrong_piece given2 p2 m2 h2 w2 e2) = absurd (clash (has_first_line text) h2 o)
    pair f g (other_version p qs a n o) (cut_off m2 h2 w2) = absurd (clash (has_first_line text) h2 o)
    pair f g (other_version p qs a n o) (goes_on x2 b2 more2 h2 e2) = absurd (clash (has_first_line text) (first_more x2 (b2 ∷ more2) e2) o)
    pair f g (other_version p qs a n o) (breaks_flow x2 fault2 c2 h2) = absurd (clash (has_first_line text) (first_cvd x2 c2) o)
    pair f g (wrong_piece given p m h w e) (other_text a2) = absurd (clash (has_name text) (name_first h) a2)
    pair f g (wrong_piece given p m h w e) (no_line a2 n2) = absurd (no_pieces given p w.rest n2 w.split)
    pair f g (wrong_piece given p m h w e) (other_version p2 qs2 a2 n2 o2) = absurd (clash (has_first_line text) h o2)
    pair f g (wrong_piece given p m h w e) (wrong_piece given2 p2 m2 h2 w2 e2) = two_wrong given given2 p p2 m m2 w w2 e e2
    pair f g (wrong_piece given p m h w e) (cut_off m2 h2 w2) = absurd (wrong_and_end given p m m2 w w2)
    pair f g (wrong_piece given p m h w e) (goes_on x2 b2 more2 h2 e2) = absurd (whole_and_wrong x2 (front_more x2 b2 more2 h2 e2) given p m w)
    pair f g (wrong_piece given p m h w e) (breaks_flow x2 fault2 c2 h2) = absurd (whole_and_wrong x2 (front_cvd x2 c2) given p m w)
    pair f g (cut_off m h w) (other_text a2) = absurd (clash (has_name text) (name_first h) a2)
    pair f g (cut_off m h w) (no_line a2 n2) = refl
    pair f g (cut_off m h w) (other_version p2 qs2 a2 n2 o2) = absurd (clash (has_first_line text) h o2)
    pair f g (cut_off m h w) (wrong_piece given2 p2 m2 h2 w2 e2) = absurd (wrong_and_end given2 p2 m2 m w2 w)
    pair f g (cut_off m h w) (cut_off m2 h2 w2) = refl
    pair f g (cut_off m h w) (goes_on x2 b2 more2 h2 e2) = absurd (whole_and_end x2 (front_more x2 b2 more2 h2 e2) m w)
    pair f g (cut_off m h w) (breaks_flow x2 fault2 c2 h2) = absurd (whole_and_end x2 (front_cvd x2 c2) m w)
    pair f g (goes_on x b more h e) (other_text a2) = absurd (clash (has_name text) (name_first (first_more x (b ∷ more) e)) a2)
    pair f g (goes_on x b more h e) (no_line a2 n2) = absurd (whole_some x (front_more x b more h e) n2)
    pair f g (goes_on x b more h e) (other_version p2 qs2 a2 n2 o2) = absurd (clash (has_first_line text) (first_more x (b ∷ more) e) o2)
    pair f g (goes_on x b more h e) (wrong_piece given2 p2 m2 h2 w2 e2) = absurd (whole_and_wrong x (front_more x b more h e) given2 p2 m2 w2)
    pair f g (goes_on x b more h e) (cut_off m2 h2 w2) = absurd (whole_and_end x (front_more x b more h e) m2 w2)
    pair f g (goes_on x b more h e) (goes_on x2 b2 more2 h2 e2) = two_trailing x x2 (two_whole x x2 (front_more x b more h e) (front_more x2 b2 more2 h2 e2))
    pair f g (goes_on x b more h e) (breaks_flow x2 fault2 c2 h2) = absurd
        (longer x x2 b more (two_whole x x2 (front_more x b more h e) (front_cvd x2 c2)) e c2.spelled)
    pair f g (breaks_flow x fault c h) (other_text a2) = absurd (clash (has_name text) (name_first (first_cvd x c)) a2)
    pair f g (breaks_flow x fault c h) (no_line a2 n2) = absurd (whole_some x (front_cvd x c) n2)
    pair f g (breaks_flow x fault c h) (other_version p2 qs2 a2 n2 o2) = absurd (clash (has_first_line text) (first_cvd x c) o2)
    pair f g (breaks_flow x fault c h) (wrong_piece given2 p2 m2 h2 w2 e2) = absurd (whole_and_wrong x (front_cvd x c) given2 p2 m2 w2)
    pair f g (breaks_flow x fault c h) (cut_off m2 h2 w2) = absurd (whole_and_end x (front_cvd x c) m2 w2)
    pair f g (breaks_flow x fault c h) (goes_on x2 b2 more2 h2 e2) = absurd
        (longer x2 x b2 more2 (two_whole x2 x (front_more x2 b2 more2 h2 e2) (front_cvd x c)) e2 c.spelled)
    pair f g (breaks_flow x fault c h) (breaks_flow x2 fault2 c2 h2) = two_invalid x x2 fault fault2 (two_whole x x2 (front_cvd x c) (front_cvd x2 c2)) h h2

  -- a text has one fault
  pub one_flaw : ((d : Design) (f g : FlowFault) → IsFlowFault d f → IsFlowFault d g → f ≡ g) → OneFlaw FlowFault IsFlowFault
  one_flaw one_fault text = pair one_fault (λ top. design_sorted top) text
