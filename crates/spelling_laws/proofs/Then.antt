-- One value behind another: laws of the pair from laws of the two.
use Rattle.std.specs.Prelude.{◌≡◌, Bool, true, List, [], ◌∷◌, ◌++◌, length}
use mathlib.Core.Logic.{inl, inr}
use mathlib.Core.Path.{sym, ap, subst, ◌∙◌}
use native.Mathlib.Omega.{arith}
use Rattle.spelling_laws.specs.Spelled.{all_fit, Fronts, ApartAt, Apart, Awaits, NoneFits, IsRead, IsWrong}
use Rattle.spelling_laws.proofs.Fitting.{CutPieces, CutMarks, join, cut_pieces, cut_marks, same_length, Levi, first_longer, first_shorter, levi, assoc}
use Rattle.spelling_laws.proofs.Fitting.{length-joined, cancel, head_or, no_more}

abbrev pub Pair : (A : Type 0) → (A → Type 0) → Type 0
Pair A B = (a : A) × B a

module _ {P M : Type 0} (fits : P → M → Bool) (A : Type 0) (B : A → Type 0) (sA : A → List M) (sB : (a : A) → B a → List M) where
  abbrev pub both : Pair A B → List M
  both p = sA p.0 ++ sB p.0 p.1

  -- where pieces spell a first value whole, and with more behind them begin a pair, the pair has that first value
  same_first : (a : A) → ApartAt fits sA a → (gs hs : List P) (x : A) (b : B x) (first more : List M) → all_fit fits gs (sA a) ≡ true
      → sA x ++ sB x b ≡ first ++ more → all_fit fits (gs ++ hs) first ≡ true → a ≡ x
  same_first a apart gs hs x b first more e split fit =
      by (levi (sA x) (sB x b) c.front (c.back ++ more) (split ∙ ap (λ l. l ++ more) c.split ∙ assoc c.front c.back more))
    where
      c : CutMarks fits gs hs first
      c = cut_marks fits gs hs first fit

      by : Levi (sA x) (sB x b) c.front (c.back ++ more) → a ≡ x
      by (first_longer mid e2 f) = apart x (inl (record { given = gs; first = c.front; more = mid; whole = e; split = e2; front = c.front_fits }))
      by (first_shorter y mid e2 f) =
          let d = cut_pieces fits gs (sA x) (y ∷ mid) (subst (λ l. all_fit fits gs l ≡ true) e2 c.front_fits) in
          let g = cut_marks fits d.front d.back (sA a) (subst (λ l. all_fit fits l (sA a) ≡ true) d.split e) in
          apart x (inr (record { given = d.front; first = g.front; more = g.back; whole = d.front_fits; split = g.split; front = g.front_fits }))

  -- what comes behind a first value, moved along
  moved : (a x : A) → a ≡ x → (ms : List M) (b : B x) → sA x ++ sB x b ≡ ms → (c : B a) × (sA a ++ sB a c ≡ ms)
  moved a x e ms = subst (λ y. (b : B y) → sA y ++ sB y b ≡ ms → (c : B a) × (sA a ++ sB a c ≡ ms)) e (λ b h. (b, h))

  -- behind pieces that spell a first value, marks of a pair go on with marks of a second one
  behind : (a : A) (gs hs : List P) (b : B a) (first more : List M) → all_fit fits gs (sA a) ≡ true → sA a ++ sB a b ≡ first ++ more → all_fit fits
      (gs ++ hs) first ≡ true
      → (c : List M) × (sB a b ≡ c ++ more) × (all_fit fits hs c ≡ true)
  behind a gs hs b first more e split fit =
      let c = cut_marks fits gs hs first fit in
      let l1 = same_length fits gs (sA a) e in
      let l2 = same_length fits gs c.front c.front_fits in
      (c.back, cancel (sA a) (sB a b) c.front (c.back ++ more) (omega arith) (split ∙ ap (λ l. l ++ more) c.split ∙ assoc c.front c.back more), c.back_fits)

  second_awaits : (a : A) → ApartAt fits sA a → (gs hs : List P) (m : M) → all_fit fits gs (sA a) ≡ true → Awaits fits both (gs ++ hs) m → Awaits fits
      (sB a) hs m
  second_awaits a apart gs hs m e w =
      let same = same_first a apart gs hs w.value.0 w.value.1 w.first (m ∷ w.more) e w.split w.fit in
      let y = moved a w.value.0 same (w.first ++ m ∷ w.more) w.value.1 w.split in
      let z = behind a gs hs y.0 w.first (m ∷ w.more) e y.1 w.fit in
      record { value = y.0; first = z.0; more = w.more; split = z.1; fit = z.2 }

  -- a pair is read where both are, one behind the other
  pub read_both : (ps back rest : List P) (a : A) (b : B a) → IsRead fits sA ps a back → IsRead fits (sB a) back b rest → IsRead fits both ps (a, b) rest
  read_both ps back rest a b r s = record {
    given = r.given ++ s.given;
    split = r.split ∙ ap (λ l. r.given ++ l) s.split ∙ sym (assoc r.given s.given rest);
    fit = join fits r.given s.given (sA a) (sB a b) r.fit s.fit;
  }

  -- where the first is wrong, the pair is
  pub wrong_first : Apart fits sA → ((a : A) → B a) → (ps rest : List P) (m : M) → IsWrong fits sA ps m rest → IsWrong fits both ps m rest
  wrong_first apart some ps rest m w = record { given = w.given; split = w.split; awaits = longer; none = none rest w.none }
    where
      longer : Awaits fits both w.given m
      longer = record {
        value = (w.awaits.value, some w.awaits.value);
        first = w.awaits.first;
        more = w.awaits.more ++ sB w.awaits.value (some w.awaits.value);
        split = ap (λ l. l ++ sB w.awaits.value (some w.awaits.value)) w.awaits.split ∙ assoc w.awaits.first (m ∷ w.awaits.more) (sB w.awaits.value
            (some w.awaits.value));
        fit = w.awaits.fit;
      }

      -- no front of the pieces is a first value whole
      no_whole : (x : A) (front back : List P) → w.given ≡ front ++ back → all_fit fits front (sA x) ≡ true → ⊥
      no_whole x front back cut e =
          let v = w.awaits in
          let c = cut_marks fits front back v.first (subst (λ l. all_fit fits l v.first ≡ true) cut v.fit) in
          let same = apart x v.value (inl (record {
            given = front;
            first = c.front;
            more = c.back ++ m ∷ v.more;
            whole = e;
            split = v.split ∙ ap
                (λ l. l ++ m ∷ v.more) c.split ∙ assoc c.front c.back (m ∷ v.more);
            front = c.front_fits;
          })) in
          let l1 = same_length fits front (sA x) e in
          let l2 = same_length fits w.given v.first v.fit in
          let l3 = ap length cut ∙ length-joined front back in
          let l4 = ap (λ y. length (sA y)) same in
          let l5 = ap length v.split ∙ length-joined v.first (m ∷ v.more) in
          absurd (omega arith)

      first_none : (other : M) (v : Awaits fits both w.given other) → Levi (sA v.value.0) (sB v.value.0 v.value.1) v.first (other ∷ v.more)
          → Awaits fits sA w.given other
      first_none other v (first_longer [] e f) = absurd (no_whole v.value.0 w.given [] (sym (no_more w.given)) (subst (λ l. all_fit fits w.given l ≡ true)
          (sym (e ∙ no_more v.first)) v.fit))
      first_none other v (first_longer (x ∷ mid) e f) =
          record { value = v.value.0; first = v.first; more = mid; split = e ∙ ap (λ h. v.first ++ h ∷ mid) (sym (ap (head_or x) f)); fit = v.fit }
      first_none other v (first_shorter x mid e f) =
          let c = cut_pieces fits w.given (sA v.value.0) (x ∷ mid) (subst (λ l. all_fit fits w.given l ≡ true) e v.fit) in
          absurd (no_whole v.value.0 c.front c.back c.split c.front_fits)

      none : (rest2 : List P) → NoneFits fits sA w.given rest2 → NoneFits fits both w.given rest2
      none [] h = tt
      none (p ∷ rest2) h = λ other v. h other (first_none other v (levi (sA v.value.0) (sB v.value.0 v.value.1) v.first (other ∷ v.more) v.split))

  -- where the first is read and the second is wrong, the pair is wrong there
  pub wrong_second : (a : A) → ApartAt fits sA a → (ps back rest : List P) (m : M) → IsRead fits sA ps a back → IsWrong fits (sB a) back m rest
      → IsWrong fits both ps m rest
  wrong_second a apart ps back rest m r w = record {
    given = r.given ++ w.given;
    split = r.split ∙ ap (λ l. r.given ++ l) w.split ∙ sym (assoc r.given w.given rest);
    awaits = record {
      value = (a, w.awaits.value);
      first = sA a ++ w.awaits.first;
      more = w.awaits.more;
      split = ap (λ l. sA a ++ l) w.awaits.split ∙ sym (assoc (sA a) w.awaits.first (m ∷ w.awaits.more));
      fit = join fits r.given w.given (sA a) w.awaits.first r.fit w.awaits.fit;
    };
    none = none rest w.none;
  }
    where
      none : (rest2 : List P) → NoneFits fits (sB a) w.given rest2 → NoneFits fits both (r.given ++ w.given) rest2
      none [] h = tt
      none (p ∷ rest2) h = λ other v. h other (second_awaits a apart r.given w.given other r.fit v)

  -- pairs are apart where both parts are
  pub apart_pair : (a : A) (b : B a) → ApartAt fits sA a → ApartAt fits (sB a) b → ApartAt fits both (a, b)
  apart_pair a b apart_a apart_b q h = elim h [ inl f ↦ begins q f | inr f ↦ is_begun q f ]
    where
      begins : (q : Pair A B) → Fronts fits both (a, b) q → ◌≡◌ {A = Pair A B} (a, b) q
      begins q f =
          let d = cut_pieces fits f.given (sA a) (sB a b) f.whole in
          let fit2 = subst (λ l. all_fit fits l f.first ≡ true) d.split f.front in
          let same = same_first a apart_a d.front d.back q.0 q.1 f.first f.more d.front_fits f.split fit2 in
          subst (λ y. (c : B y) → sA y ++ sB y c ≡ f.first ++ f.more → ◌≡◌ {A = Pair A B} (a, b) (y, c)) same
          (λ c s. let z = behind a d.front d.back c f.first f.more d.front_fits s fit2 in
          ap (λ e. (a, e)) (apart_b c (inl (record { given = d.back; first = z.0; more = f.more; whole = d.back_fits; split = z.1; front = z.2 })))) q.1 f.split

      same_begun : (q : Pair A B) → Fronts fits both q (a, b) → a ≡ q.0
      same_begun q f =
          by (levi (sA a) (sB a b) c.front (c.back ++ f.more) (f.split ∙ ap (λ l. l ++ f.more) c.split ∙ assoc c.front c.back f.more))
        where
          d : CutPieces fits f.given (sA q.0) (sB q.0 q.1)
          d = cut_pieces fits f.given (sA q.0) (sB q.0 q.1) f.whole

          c : CutMarks fits d.front d.back f.first
          c = cut_marks fits d.front d.back f.first (subst (λ l. all_fit fits l f.first ≡ true) d.split f.front)

          by : Levi (sA a) (sB a b) c.front (c.back ++ f.more) → a ≡ q.0
          by (first_longer mid e2 g) = apart_a q.0 (inr (record {
            given = d.front;
            first = c.front;
            more = mid;
            whole = d.front_fits;
            split = e2;
            front = c.front_fits;
          }))
          by (first_shorter y mid e2 g) =
              let h = cut_pieces fits d.front (sA a) (y ∷ mid) (subst (λ l. all_fit fits d.front l ≡ true) e2 c.front_fits) in
              let k = cut_marks fits h.front h.back (sA q.0) (subst (λ l. all_fit fits l (sA q.0) ≡ true) h.split d.front_fits) in
              apart_a q.0 (inl (record { given = h.front; first = k.front; more = k.back; whole = h.front_fits; split = k.split; front = k.front_fits }))

      is_begun : (q : Pair A B) → Fronts fits both q (a, b) → ◌≡◌ {A = Pair A B} (a, b) q
      is_begun q f =
          subst (λ y. (c : B y) → all_fit fits f.given (sA y ++ sB y c) ≡ true → ◌≡◌ {A = Pair A B} (a, b) (y, c)) (same_begun q f)
          (λ c w.
          let d = cut_pieces fits f.given (sA a) (sB a c) w in
          let z = behind a d.front d.back b f.first f.more d.front_fits f.split (subst (λ l. all_fit fits l f.first ≡ true) d.split f.front) in
          ap (λ e. (a, e)) (apart_b c (inr (record { given = d.back; first = z.0; more = f.more; whole = d.back_fits; split = z.1; front = z.2 })))) q.1 f.whole
