-- A key at the end of a line, from its words.
use Rattle.std.proofs.Common.{◌≡◌, ℕ, ◌+◌, Bool, true, false, List, [], ◌∷◌, ◌++◌, length, Some, None, refl, sym, ◌∙◌, ap, subst, arith, append_assoc, map}
use Rattle.std.specs.Prelude.{◌==◌}
use Rattle.std.specs.List.{list_all}
use Rattle.std.specs.Str.{bytes_eq}
use Rattle.std.specs.Cmp.Lexicographic.{bytes_decides}
use Rattle.std.proofs.lemmas.Bool.{true≢false}
use Rattle.std.proofs.lemmas.List.Splits.{length-slice_split}
use mathlib.Core.Logic.{inl, inr}
use Rattle.spelling_laws.specs.Spelled.{all_fit, Apart, Awaits, Fronts, NoneFits}
use Rattle.spelling_laws.proofs.Fitting.{assoc, both_true, cut_marks, cut_pieces, first_true, head_or, second_true, tail_of, join}
use Rattle.cvd_text.specs.Tokens.{Token, word, words_of}
use Rattle.cvd_text.specs.Pieces.{Piece, a_word, feed, Mark, fits, token, line_end}
use Rattle.cvd_cursor.specs.Places.{Reading, first_word, behind_word}
use Rattle.cvd_cursor.specs.Reads.{Takes, Refused, fault_at, fault_of, line_marks, marks}
use Rattle.cvd_cursor.specs.declared.fault.ReadFault.{ReadFault}
use Rattle.cvd_cursor.proofs.Composed.{refused_as}
use Rattle.cvd_cursor.proofs.Cutting.{none_passes}
use Rattle.cvd_cursor.proofs.Single.{refuses, word_first}
use Rattle.cvd_sections.specs.Keys.{AreCut, is_blank, is_cut, keyed}
use Rattle.cvd_sections.proofs.Parts.{joined, joined_parts, parts, parts_joined}

-- one word more
joined_more : (w : List ℕ) (ws : List (List ℕ)) (x : List ℕ) → joined 32 (w ∷ ws ++ x ∷ []) ≡ (joined 32 (w ∷ ws) ++ 32 ∷ []) ++ x
joined_more w [] x = refl
joined_more w (v ∷ vs) x =
    ap (λ l. (w ++ 32 ∷ []) ++ l) (joined_more v vs x) ∙ sym (append_assoc (w ++ 32 ∷ []) (joined 32 (v ∷ vs) ++ 32 ∷ []) x)
    ∙ ap (λ l. l ++ x) (sym (append_assoc (w ++ 32 ∷ []) (joined 32 (v ∷ vs)) (32 ∷ [])))

map_more : (ws : List (List ℕ)) (x : List ℕ) → map a_word (ws ++ x ∷ []) ≡ map a_word ws ++ a_word x ∷ []
map_more [] x = refl
map_more (w ∷ ws) x = ap (λ l. a_word w ∷ l) (map_more ws x)

-- a key up to here: its words were passed over
pub record KeySoFar (old now : Reading) (key : List ℕ) : Type 0 where
  pub first : List ℕ
  pub more : List (List ℕ)
  pub same : now.text ≡ old.text
  pub read : old.rest ≡ map a_word (first ∷ more) ++ now.rest
  pub is : key ≡ joined 32 (first ∷ more)

pub begins : (old now : Reading) (w : List ℕ) → first_word old.rest ≡ Some w → now.text ≡ old.text → now.rest ≡ behind_word old.rest → KeySoFar old now w
begins old now w next same rest = record {
  first = w;
  more = [];
  same = same;
  read = word_first old.rest w next ∙ ap (λ l. a_word w ∷ l) (sym rest);
  is = refl;
}

pub goes_on : (old now new : Reading) (key w : List ℕ) → KeySoFar old now key → first_word now.rest ≡ Some w → new.text ≡ now.text
    → new.rest ≡ behind_word now.rest → KeySoFar old new ((key ++ 32 ∷ []) ++ w)
goes_on old now new key w k next same rest = record {
  first = k.first;
  more = k.more ++ w ∷ [];
  same = same ∙ k.same;
  read = k.read ∙ ap (λ l. map a_word (k.first ∷ k.more) ++ l) (word_first now.rest w next ∙ ap (λ l. a_word w ∷ l) (sym rest))
      ∙ sym (assoc (map a_word (k.first ∷ k.more)) (a_word w ∷ []) new.rest) ∙ ap (λ l. (a_word k.first ∷ l) ++ new.rest) (sym (map_more k.more w));
  is = ap (λ l. (l ++ 32 ∷ []) ++ w) k.is ∙ sym (joined_more k.first k.more w);
}

words_clean : (ws : List (List ℕ)) (rest : List Piece) → list_all is_cut (map a_word ws ++ rest) ≡ true → list_all (none_passes is_blank) ws ≡ true
words_clean [] rest h = refl
words_clean (w ∷ ws) rest h =
    both_true (none_passes is_blank w) _ (first_true (none_passes is_blank w) _ h) (words_clean ws rest (second_true (none_passes is_blank w) _ h))

pub cut_behind : (front rest : List Piece) → list_all is_cut (front ++ rest) ≡ true → list_all is_cut rest ≡ true
cut_behind [] rest h = h
cut_behind (p ∷ front) rest h = cut_behind front rest (second_true (is_cut p) _ h)

words_fit : (ws : List (List ℕ)) → all_fit fits (map a_word ws) (map token (map word ws)) ≡ true
words_fit [] = refl
words_fit (w ∷ ws) = both_true (bytes_eq w w) _ ((bytes_decides w w).1 refl) (words_fit ws)

pub ends : (old now : Reading) (key : List ℕ) → AreCut old.rest → KeySoFar old now key → Takes (marks words_of) old now key
ends old now key cut k =
    let clean = words_clean (k.first ∷ k.more) now.rest (sym (ap (list_all is_cut) k.read) ∙ cut) in
    let words = ap (parts 32) k.is ∙ parts_joined 32 k.first k.more clean in
    record {
      same = k.same;
      read = record {
        given = map a_word (k.first ∷ k.more);
        split = k.read;
        fit = ap (λ ws. all_fit fits (map a_word (k.first ∷ k.more)) (map token (map word ws))) words ∙ words_fit (k.first ∷ k.more);
      };
    }

-- ---- the marks of a key and of the end of its line

-- where in them a line ends
pub end_at : (ts : List Token) (e s : Bool) (first more : List Mark) → map token ts ++ line_end e ∷ [] ≡ first ++ line_end s ∷ more
    → (first ≡ map token ts) × (s ≡ e) × (more ≡ [])
end_at [] e s [] more h = (refl, cc, sym (ap tail_of h))
end_at [] e s (m ∷ first) more h = absurd (no_end first more (ap tail_of h))
  where
    no_end : (first more : List Mark) → [] ≡ first ++ line_end s ∷ more → ⊥
    no_end [] more h = cc
    no_end (m ∷ first) more h = cc
end_at (t ∷ ts) e s [] more h = absurd (cc)
end_at (t ∷ ts) e s (m ∷ first) more h =
    let same : token t ≡ m = cc in
    let later = end_at ts e s first more (ap tail_of h) in
    (ap (λ x. x ∷ first) (sym same) ∙ ap (λ l. token t ∷ l) later.0, later.1, later.2)

module _ (holds : List ℕ → Bool) where
  first_is_word : (ts : List (List ℕ)) (e : Bool) (n : ℕ) → length ts ≡ n + 1 → (m : Mark) (more : List Mark)
      → map token (map word ts) ++ line_end e ∷ [] ≡ m ∷ more → fits feed m ≡ false
  first_is_word [] e n some m more h = absurd (omega (arith, some))
  first_is_word (t ∷ ts) e n some m more h = ap (fits feed) (sym (ap (head_or m) h))

  -- no word comes
  pub no_key : (old : Reading) (fault : ReadFault) → first_word old.rest ≡ None → fault ≡ fault_of false old.rest → Refused (keyed holds) old fault old
  no_key old fault next kind = refuses (keyed holds) old old fault (record {
    same = refl;
    wanted = token (word []);
    wrong = record {
      given = [];
      split = refl;
      awaits = record { value = []; first = []; more = line_end (holds []) ∷ []; split = refl; fit = refl };
      none = none old.rest next;
    };
    kind = kind ∙ same_fault old.rest;
  })
    where
      same_fault : (ps : List Piece) → fault_of false ps ≡ fault_at ps (token (word []))
      same_fault [] = refl
      same_fault (p ∷ ps) = refl

      at_feed : (m : Mark) (key : List ℕ) (first more : List Mark) → keyed holds key ≡ first ++ m ∷ more → all_fit fits [] first ≡ true → fits feed m ≡ false
      at_feed m key [] more s f = first_is_word (parts 32 key) (holds key) _ (length-slice_split (λ b. b == 32) key) m more s
      at_feed m key (x ∷ first) more s f = absurd (true≢false (sym f))

      none : (ps : List Piece) → first_word ps ≡ None → NoneFits fits (keyed holds) [] ps
      none [] next = tt
      none (a_word w ∷ ps) next = absurd (cc)
      none (feed ∷ ps) next = λ m w. at_feed m w.value w.first w.more w.split w.fit

  -- the same words are those of one key
  same_key : (gs : List Piece) (k l : List ℕ) → all_fit fits gs (map token (words_of k)) ≡ true → all_fit fits gs (map token (words_of l)) ≡ true → k ≡ l
  same_key gs k l e f = sym (joined_parts 32 k) ∙ ap (joined 32) (same_words gs (parts 32 k) (parts 32 l) e f) ∙ joined_parts 32 l
    where
      same_words : (gs : List Piece) (vs ws : List (List ℕ)) → all_fit fits gs (map token (map word vs)) ≡ true
          → all_fit fits gs (map token (map word ws)) ≡ true → vs ≡ ws
      same_words [] [] [] e f = refl
      same_words [] (v ∷ vs) ws e f = absurd (true≢false (sym e))
      same_words [] [] (w ∷ ws) e f = absurd (true≢false (sym f))
      same_words (g ∷ gs) [] ws e f = absurd (true≢false (sym e))
      same_words (g ∷ gs) (v ∷ vs) [] e f = absurd (true≢false (sym f))
      same_words (a_word x ∷ gs) (v ∷ vs) (w ∷ ws) e f =
          ap (λ y. y ∷ vs) (sym ((bytes_decides x v).0 (first_true (bytes_eq x v) _ e)) ∙ (bytes_decides x w).0 (first_true (bytes_eq x w) _ f))
          ∙ ap (λ l. w ∷ l) (same_words gs vs ws (second_true (bytes_eq x v) _ e) (second_true (bytes_eq x w) _ f))
      same_words (feed ∷ gs) (v ∷ vs) (w ∷ ws) e f = absurd (true≢false (sym e))

  no_end : (first more : List Mark) (m : Mark) → [] ≡ first ++ m ∷ more → ⊥
  no_end [] more m h = cc
  no_end (x ∷ first) more m h = cc

  -- where one line's end is awaited, nothing was passed over
  only_end : (b : Bool) (gs : List Piece) (first more : List Mark) (m : Mark) → line_end b ∷ [] ≡ first ++ m ∷ more → all_fit fits gs first ≡ true
      → (gs ≡ []) × (m ≡ line_end b)
  only_end b [] [] more m h f = (refl, sym (ap (head_or m) h))
  only_end b (g ∷ gs) [] more m h f = absurd (true≢false (sym f))
  only_end b gs (x ∷ first) more m h f = absurd (no_end first more m (ap tail_of h))

  -- another key's line goes on so only where it is this key
  never_fits : (given : List Piece) (key : List ℕ) → all_fit fits given (map token (words_of key)) ≡ true → holds key ≡ false → (m : Mark)
      → Awaits fits (keyed holds) given m → fits feed m ≡ false
  never_fits given key fit broken (token t) w = refl
  never_fits given key fit broken (line_end s) w =
      let e = end_at (words_of w.value) (holds w.value) s w.first w.more w.split in
      let same = same_key given key w.value fit (subst (λ l. all_fit fits given l ≡ true) e.0 w.fit) in
      e.1 ∙ ap holds (sym same) ∙ broken

  -- behind a whole key its line doesn't end
  pub key_refused : (old mid new : Reading) (key : List ℕ) (fault : ReadFault) → Takes (marks words_of) old mid key → first_word mid.rest ≡ None
      → Refused (line_marks (holds key)) mid fault new → Refused (keyed holds) old fault new
  key_refused old mid new key fault h next r = refused_as (line_marks (holds key)) (keyed holds) mid old new fault (λ f s.
      let w = s.wrong.awaits in
      let o = only_end (holds key) s.wrong.given w.first w.more s.wanted w.split w.fit in
      let here : mid.rest ≡ new.rest = s.wrong.split ∙ ap (λ l. l ++ new.rest) o.0 in
      record {
        same = s.same ∙ h.same;
        wanted = s.wanted;
        wrong = record {
          given = h.read.given;
          split = h.read.split ∙ ap (λ l. h.read.given ++ l) here;
          awaits = record {
            value = key;
            first = map token (words_of key);
            more = [];
            split = ap (λ y. map token (words_of key) ++ y ∷ []) (sym o.1);
            fit = h.read.fit;
          };
          none = none new.rest (sym (ap first_word here) ∙ next) (subst (λ gs. NoneFits fits (line_marks (holds key)) gs new.rest) o.0 s.wrong.none);
        };
        kind = s.kind;
      }) r
    where
      none : (ps : List Piece) → first_word ps ≡ None → NoneFits fits (line_marks (holds key)) [] ps → NoneFits fits (keyed holds) h.read.given ps
      none [] e broken = tt
      none (a_word x ∷ ps) e broken = absurd (cc)
      none (feed ∷ ps) e broken = λ m w.
          never_fits h.read.given key h.read.fit
          (broken (line_end (holds key)) (record { value = tt; first = []; more = []; split = refl; fit = refl })) m w

  -- pieces that fit a line's end alone are a line feed
  only_feed : (b : Bool) (gs : List Piece) → all_fit fits gs (line_end b ∷ []) ≡ true → gs ≡ feed ∷ []
  only_feed b [] f = absurd (true≢false (sym f))
  only_feed b (a_word x ∷ gs) f = absurd (true≢false (sym f))
  only_feed b (feed ∷ []) f = refl
  only_feed b (feed ∷ p ∷ gs) f = absurd (true≢false (sym (second_true b _ f)))

  ends_so : (ms : List Mark) → all_fit fits (feed ∷ []) ms ≡ true → (s : Bool) × (ms ≡ line_end s ∷ [])
  ends_so [] f = absurd (true≢false (sym f))
  ends_so (token t ∷ ms) f = absurd (true≢false (sym f))
  ends_so (line_end s ∷ []) f = (s, refl)
  ends_so (line_end s ∷ m ∷ ms) f = absurd (true≢false (sym (second_true s _ f)))

  fronts_same : (k l : List ℕ) → Fronts fits (keyed holds) k l → k ≡ l
  fronts_same k l f =
      let d = cut_pieces fits f.given (map token (words_of k)) (line_end (holds k) ∷ []) f.whole in
      let fed = only_feed (holds k) d.back d.back_fits in
      let c = cut_marks fits d.front d.back f.first (subst (λ g. all_fit fits g f.first ≡ true) d.split f.front) in
      let s = ends_so c.back (subst (λ g. all_fit fits g c.back ≡ true) fed c.back_fits) in
      let split = f.split ∙ ap (λ ms. ms ++ f.more) (c.split ∙ ap (λ b. c.front ++ b) s.1) ∙ assoc c.front (line_end s.0 ∷ []) f.more in
      let e = end_at (words_of l) (holds l) s.0 c.front f.more split in
      same_key d.front k l d.front_fits (subst (λ ms. all_fit fits d.front ms ≡ true) e.0 c.front_fits)

  pub apart_keyed : Apart fits (keyed holds)
  apart_keyed k l h = elim h [ inl f ↦ fronts_same k l f | inr f ↦ sym (fronts_same l k f) ]

  pub key_taken : (old mid new : Reading) (key : List ℕ) → Takes (marks words_of) old mid key → Takes (line_marks (holds key)) mid new tt
      → Takes (keyed holds) old new key
  key_taken old mid new key h k = record {
    same = k.same ∙ h.same;
    read = record {
      given = h.read.given ++ k.read.given;
      split = h.read.split ∙ ap (λ l. h.read.given ++ l) k.read.split ∙ sym (assoc h.read.given k.read.given new.rest);
      fit = join fits h.read.given k.read.given (map token (words_of key)) (line_marks (holds key) tt) h.read.fit k.read.fit;
    };
  }
