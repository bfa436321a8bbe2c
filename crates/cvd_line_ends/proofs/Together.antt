-- Where lines end: of values one behind the other.
use Rattle.std.proofs.Common.{◌≡◌, ℕ, zero, suc, ◌<◌, Bool, true, false, List, [], ◌∷◌, ◌++◌, map, length, refl, sym, ◌∙◌, ap, subst, arith}
use Rattle.std.specs.Prelude.{◌⊎◌}
use Rattle.std.proofs.lemmas.Bool.{true≢false}
use mathlib.Core.Logic.{inl, inr}
use Rattle.spelling_laws.specs.Spelled.{all_fit, Apart, Awaits, OneSort}
use Rattle.spelling_laws.specs.Lists.{Many, many, all_marks, many_marks, headed_marks, state_behind}
use Rattle.spelling_laws.proofs.Counted.{off, first_marks, off_marks}
use Rattle.spelling_laws.proofs.Fitting.{cut_pieces, cut_marks, same_length, Levi, first_longer, first_shorter, levi, assoc, length-joined, cancel, head_or}
use Rattle.spelling_laws.proofs.Fitting.{tail_of, no_more}
use Rattle.cvd_text.specs.Tokens.{Token}
use Rattle.cvd_text.specs.Pieces.{Piece, feed, Mark, token, line_end, fits}
use Rattle.cvd_cursor.specs.Places.{Reading}
use Rattle.cvd_cursor.specs.Reads.{Takes, Stops, Refused, marks, line_marks, fault_at}
use Rattle.cvd_cursor.specs.declared.fault.ReadFault.{ReadFault}
use Rattle.cvd_cursor.specs.declared.fault.ReadFault.TheVariants.{NoMemory, BadNumber, BadToken, BadShape, Truncated}
use Rattle.cvd_cursor.proofs.Composed.{refused_first, refused_second}
use Rattle.cvd_cursor.proofs.Lists as lists
use Rattle.cvd_line_ends.specs.Ends.{IsEndFault, EndsLines, Halts}

-- what is refused stops, but for want of memory
pub stops_or : {A : Type 0} (s : A → List Mark) (old new : Reading) (fault : ReadFault) → Refused s old fault new → IsEndFault fault ⊎ Stops s old new fault
stops_or s old new NoMemory r = inl tt
stops_or s old new BadNumber r = inr r
stops_or s old new BadToken r = inr r
stops_or s old new BadShape r = inr r
stops_or s old new Truncated r = inr r

-- pieces in front of the same pieces are the same
pub same_front : {P : Type 0} (given other rest : List P) → given ++ rest ≡ other ++ rest → given ≡ other
same_front given other rest e = by (levi given rest other rest e)
  where
    by : Levi given rest other rest → given ≡ other
    by (first_longer [] e1 f1) = e1 ∙ no_more other
    by (first_longer (p ∷ mid) e1 f1) = let l = ap length f1 ∙ length-joined (p ∷ mid) rest in absurd (omega arith)
    by (first_shorter p mid e1 f1) = let l = ap length f1 ∙ length-joined (p ∷ mid) rest in absurd (omega arith)

-- ---- values that are spelled as others are

module _ {A B : Type 0} (from : B → A) (sA : A → List Mark) (sB : B → List Mark) (alike : (b : B) → sB b ≡ sA (from b)) where
  awaits_back : (gs : List Piece) (m : Mark) → Awaits fits sB gs m → Awaits fits sA gs m
  awaits_back gs m w = record { value = from w.value; first = w.first; more = w.more; split = sym (alike w.value) ∙ w.split; fit = w.fit }

  pub ends_via : (old new : Reading) (fault : ReadFault) → EndsLines sA old fault new → EndsLines sB old fault new
  ends_via old new fault h given after stands e f w = h given after stands e f (awaits_back given (line_end stands) w)

-- ---- one behind another

module _ (A : Type 0) (B : A → Type 0) (sA : A → List Mark) (sB : (a : A) → B a → List Mark) where
  abbrev both : (a : A) × B a → List Mark
  both p = sA p.0 ++ sB p.0 p.1

  -- where the next mark stands: in the first value, or behind it in the second
  data Stands (gs : List Piece) (m : Mark) : Type 0 where
    in_first : Awaits fits sA gs m → Stands gs m
    in_second : (a : A) (front back : List Piece) → gs ≡ front ++ back → all_fit fits front (sA a) ≡ true → Awaits fits (sB a) back m → Stands gs m

  stands_there : (gs : List Piece) (m : Mark) → Awaits fits both gs m → Stands gs m
  stands_there gs m v = by (levi (sA v.value.0) (sB v.value.0 v.value.1) v.first (m ∷ v.more) v.split)
    where
      by : Levi (sA v.value.0) (sB v.value.0 v.value.1) v.first (m ∷ v.more) → Stands gs m
      by (first_longer [] e f) =
          in_second v.value.0 gs [] (sym (no_more gs)) (subst (λ l. all_fit fits gs l ≡ true) (sym (e ∙ no_more v.first)) v.fit)
          (record { value = v.value.1; first = []; more = v.more; split = sym f; fit = refl })
      by (first_longer (x ∷ mid) e f) = in_first (record {
        value = v.value.0;
        first = v.first;
        more = mid;
        split = e ∙ ap (λ h. v.first ++ h ∷ mid) (sym (ap (head_or x) f));
        fit = v.fit;
      })
      by (first_shorter x mid e f) =
          let c = cut_pieces fits gs (sA v.value.0) (x ∷ mid) (subst (λ l. all_fit fits gs l ≡ true) e v.fit) in
          in_second v.value.0 c.front c.back c.split c.front_fits (record { value = v.value.1; first = x ∷ mid; more = v.more; split = f; fit = c.back_fits })

  module _ (apart : Apart fits sA) where
    -- behind a whole first value none is awaited
    not_both : (gs front back : List Piece) (a : A) (m : Mark) → gs ≡ front ++ back → all_fit fits front (sA a) ≡ true → Awaits fits sA gs m → ⊥
    not_both gs front back a m cut e v =
        let c = cut_marks fits front back v.first (subst (λ l. all_fit fits l v.first ≡ true) cut v.fit) in
        let same = apart a v.value (inl (record {
          given = front;
          first = c.front;
          more = c.back ++ m ∷ v.more;
          whole = e;
          split = v.split ∙ ap (λ l. l ++ m ∷ v.more) c.split ∙ assoc c.front c.back (m ∷ v.more);
          front = c.front_fits;
        })) in
        let l1 = same_length fits front (sA a) e in
        let l2 = same_length fits gs v.first v.fit in
        let l3 = ap length cut ∙ length-joined front back in
        let l4 = ap (λ y. length (sA y)) same in
        let l5 = ap length v.split ∙ length-joined v.first (m ∷ v.more) in
        absurd (omega arith)

    -- two whole first values in front of the same pieces are one
    same_first : (front back other rest : List Piece) (a x : A) → front ++ back ≡ other ++ rest → all_fit fits front (sA a) ≡ true
        → all_fit fits other (sA x) ≡ true → a ≡ x
    same_first front back other rest a x e f g = by (levi front back other rest e)
      where
        by : Levi front back other rest → a ≡ x
        by (first_longer mid e1 f1) =
            let c = cut_marks fits other mid (sA a) (subst (λ l. all_fit fits l (sA a) ≡ true) e1 f) in
            apart a x (inr (record { given = other; first = c.front; more = c.back; whole = g; split = c.split; front = c.front_fits }))
        by (first_shorter p mid e1 f1) =
            let c = cut_marks fits front (p ∷ mid) (sA x) (subst (λ l. all_fit fits l (sA x) ≡ true) e1 g) in
            apart a x (inl (record { given = front; first = c.front; more = c.back; whole = f; split = c.split; front = c.front_fits }))

    -- where the first is refused
    pub ends_first : (old new : Reading) (fault : ReadFault) → Halts sA old fault new → EndsLines both old fault new
    ends_first old new fault h given after stands e f w =
        elim (stops_or sA old new fault h.refused) [ inl few ↦ few | inr s ↦ by s (stands_there given (line_end stands) w) ]
      where
        by : Stops sA old new fault → Stands given (line_end stands) → IsEndFault fault
        by s (in_first v) = h.ends given after stands e f v
        by s (in_second a front back split fit v) =
            let same = same_front given s.wrong.given new.rest (sym e ∙ s.wrong.split) in
            absurd (not_both s.wrong.given front back a s.wanted (sym same ∙ split) fit s.wrong.awaits)

    -- where the first is read and the second refused
    pub ends_second : (old mid new : Reading) (a : A) (fault : ReadFault) → Takes sA old mid a → Halts (sB a) mid fault new → EndsLines both old fault new
    ends_second old mid new a fault r h given after stands e f w =
        elim (stops_or (sB a) mid new fault h.refused) [ inl few ↦ few | inr s ↦ by s (stands_there given (line_end stands) w) ]
      where
        by : Stops (sB a) mid new fault → Stands given (line_end stands) → IsEndFault fault
        by s (in_first v) =
            let whole = r.read.split ∙ ap (λ l. r.read.given ++ l) s.wrong.split ∙ sym (assoc r.read.given s.wrong.given new.rest) in
            let same = same_front given (r.read.given ++ s.wrong.given) new.rest (sym e ∙ whole) in
            absurd (not_both given r.read.given s.wrong.given a (line_end stands) same r.read.fit v)
        by s (in_second b front back split fit v) =
            let whole = r.read.split ∙ ap (λ l. r.read.given ++ l) s.wrong.split ∙ sym (assoc r.read.given s.wrong.given new.rest) in
            let same = same_front given (r.read.given ++ s.wrong.given) new.rest (sym e ∙ whole) in
            let one = same_first front back r.read.given s.wrong.given b a (sym split ∙ same) fit r.read.fit in
            let l1 = same_length fits front (sA b) fit in
            let l2 = same_length fits r.read.given (sA a) r.read.fit in
            let l3 = ap (λ z. length (sA z)) one in
            let backs = cancel front back r.read.given s.wrong.given (omega arith) (sym split ∙ same) in
            h.ends s.wrong.given after stands s.wrong.split f
            (subst (λ l. Awaits fits (sB a) l (line_end stands)) backs (subst (λ z. (q : Awaits fits (sB b) back (line_end stands))
            → Awaits fits (sB z) back (line_end stands)) one (λ q. q) v))

    pub halts_first : ((a : A) → B a) → (old new : Reading) (fault : ReadFault) → Halts sA old fault new → Halts both old fault new
    halts_first some old new fault h =
        record { refused = refused_first A B sA sB apart some old new fault h.refused; ends = ends_first old new fault h }

    pub halts_second : (old mid new : Reading) (a : A) (fault : ReadFault) → Takes sA old mid a → Halts (sB a) mid fault new → Halts both old fault new
    halts_second old mid new a fault r h = record {
      refused = refused_second A B sA sB a (apart a) old mid new fault r h.refused;
      ends = ends_second old mid new a fault r h;
    }

-- ---- tokens, and ends of lines

no_end : (ts : List Token) (stands : Bool) (first more : List Mark) → map token ts ≡ first ++ line_end stands ∷ more → ⊥
no_end [] stands [] more e = cc
no_end [] stands (m ∷ first) more e = cc
no_end (t ∷ ts) stands [] more e = cc
no_end (t ∷ ts) stands (m ∷ first) more e = no_end ts stands first more (ap tail_of e)

-- no line ends inside tokens
pub ends_tokens : {A : Type 0} (s : A → List Token) (old new : Reading) (fault : ReadFault) → EndsLines (marks s) old fault new
ends_tokens s old new fault given after stands e f w = absurd (no_end (s w.value) stands w.first w.more w.split)

-- where one mark is awaited, it is the one
only_mark : (x m : Mark) (first more : List Mark) → x ∷ [] ≡ first ++ m ∷ more → m ≡ x
only_mark x m [] more e = sym (ap (head_or m) e)
only_mark x m (y ∷ first) more e = absurd (none first (ap tail_of e))
  where
    none : (first : List Mark) → [] ≡ first ++ m ∷ more → ⊥
    none [] e = cc
    none (z ∷ first) e = cc

-- a line feed that doesn't end a line breaks its conditions
pub end_fault : (b : Bool) (old new : Reading) (fault : ReadFault) (after : List Piece) → Refused (line_marks b) old fault new → new.rest ≡ feed ∷ after
    → IsEndFault fault
end_fault b old new fault after r f = elim (stops_or (line_marks b) old new fault r) [ inl few ↦ few | inr s ↦ by s ]
  where
    by : Stops (line_marks b) old new fault → IsEndFault fault
    by s =
        let w = s.wrong.awaits in
        let wanted = only_mark (line_end b) s.wanted w.first w.more w.split in
        let is : fault ≡ BadShape = s.kind ∙ ap (λ l. fault_at l s.wanted) f ∙ ap (fault_at (feed ∷ after)) wanted in
        subst IsEndFault (sym is) tt

-- ---- so many values behind a heading

module _ (A S : Type 0) (spelled : S → A → List Mark) (next : S → A → S) (apart : (s : S) → Apart fits (spelled s)) where
  ends_many : (n : ℕ) (s : S) (xs : List A) (old mid new : Reading) (fault : ReadFault) → A → length xs < n → Takes (all_marks spelled next s) old mid xs
      → Halts (spelled (state_behind spelled next s xs)) mid fault new → EndsLines (many_marks spelled next n s) old fault new
  ends_many zero s xs old mid new fault some few h k = absurd (omega arith)
  ends_many (suc n) s [] old mid new fault some few h k =
      ends_via (off A n) (first_marks fits A S spelled next n s) (many_marks spelled next (suc n) s) (off_marks fits A S spelled next n s) old new fault
      (λ given after stands e f w.
      ends_first A (λ x. Many A n) (spelled s) (λ x. many_marks spelled next n (next s x)) (apart s) mid new fault k given after stands
      (sym (nothing h.read.given h.read.split h.read.fit) ∙ e) f w)
    where
      nothing : (gs : List Piece) → old.rest ≡ gs ++ mid.rest → all_fit fits gs [] ≡ true → old.rest ≡ mid.rest
      nothing [] e f = e
      nothing (g ∷ gs) e f = absurd (true≢false (sym f))
  ends_many (suc n) s (x ∷ xs) old mid new fault some few h k =
      let c = cut_pieces fits h.read.given (spelled s x) (all_marks spelled next (next s x) xs) h.read.fit in
      let low : Reading = record { text = old.text; rest = c.back ++ mid.rest } in
      let first : Takes (spelled s) old low x = record {
        same = refl;
        read = record {
          given = c.front;
          split = h.read.split ∙ ap (λ l. l ++ mid.rest) c.split ∙ assoc c.front c.back mid.rest;
          fit = c.front_fits;
        };
      } in
      let later : Takes (all_marks spelled next (next s x)) low mid xs
      = record { same = h.same; read = record { given = c.back; split = refl; fit = c.back_fits } } in
      ends_via (off A n) (first_marks fits A S spelled next n s) (many_marks spelled next (suc n) s) (off_marks fits A S spelled next n s) old new fault
      (ends_second A (λ y. Many A n) (spelled s) (λ y. many_marks spelled next n (next s y)) (apart s) old low new x fault first (record {
        refused = lists.refused_next A S spelled next apart some n (next s x) xs (omega arith) low mid new fault later k.refused;
        ends = ends_many n (next s x) xs low mid new fault some (omega arith) later k;
      }))

  module _ (head : ℕ → List Mark) (start : ℕ → S) (apart_head : Apart fits head) where
    abbrev headed : List A → List Mark
    headed = headed_marks spelled next head start

    -- the heading is refused
    pub ends_heading : (old new : Reading) (fault : ReadFault) → Halts head old fault new → EndsLines headed old fault new
    ends_heading old new fault h =
        ends_via (λ xs. (length xs, many (length xs) xs refl)) (λ (p : (n : ℕ) × Many A n). head p.0 ++ many_marks spelled next p.0 (start p.0) p.1) headed
        (λ xs. refl) old new fault
        (ends_first ℕ (λ n. Many A n) head (λ n. many_marks spelled next n (start n)) apart_head old new fault h)

    -- the heading and some values are read, and the next is refused
    pub ends_next : (n : ℕ) (xs : List A) (old low mid new : Reading) (fault : ReadFault) → A → length xs < n → Takes head old low n
        → Takes (all_marks spelled next (start n)) low mid xs → Halts (spelled (state_behind spelled next (start n) xs)) mid fault new
        → EndsLines headed old fault new
    ends_next n xs old low mid new fault some few t h k =
        ends_via (λ xs. (length xs, many (length xs) xs refl)) (λ (p : (n : ℕ) × Many A n). head p.0 ++ many_marks spelled next p.0 (start p.0) p.1) headed
        (λ xs. refl) old new fault
        (ends_second ℕ (λ m. Many A m) head (λ m. many_marks spelled next m (start m)) apart_head old low new n fault t (record {
          refused = lists.refused_next A S spelled next apart some n (start n) xs few low mid new fault h k.refused;
          ends = ends_many n (start n) xs low mid new fault some few h k;
        }))

-- ---- values where a line's end is awaited only where nothing else is

by_wanted : (wanted : Mark) (fault : ReadFault) (after : List Piece) → fault ≡ fault_at (feed ∷ after) wanted → (sort : Mark → Bool)
    → ((t : Token) → sort (token t) ≡ false) → sort wanted ≡ true → IsEndFault fault
by_wanted (token t) fault after kind sort tokens ends = absurd (true≢false (sym ends ∙ tokens t))
by_wanted (line_end b) fault after kind sort tokens ends = subst IsEndFault (sym kind) tt

pub halts_sorted : {A : Type 0} (s : A → List Mark) (sort : Mark → Bool) → ((t : Token) → sort (token t) ≡ false)
    → ((stands : Bool) → sort (line_end stands) ≡ true) → ((most : ℕ) → OneSort fits most sort s) → (old new : Reading) (fault : ReadFault)
    → Refused s old fault new → Halts s old fault new
halts_sorted s sort tokens line_ends sorted old new fault r = record { refused = r; ends = ends }
  where
    ends : EndsLines s old fault new
    ends given after stands e f w = elim (stops_or s old new fault r) [ inl few ↦ few | inr h ↦ by h ]
      where
        by : Stops s old new fault → IsEndFault fault
        by h =
            let same = same_front given h.wrong.given new.rest (sym e ∙ h.wrong.split) in
            let there = subst (λ g. Awaits fits s g (line_end stands)) same w in
            let one = sorted (length h.wrong.given) h.wrong.given h.wanted (line_end stands) (omega arith) h.wrong.awaits there in
            by_wanted h.wanted fault after (h.kind ∙ ap (λ l. fault_at l h.wanted) f) sort tokens (one ∙ line_ends stands)
