-- One value of an instance more.
use Rattle.std.proofs.Common.{◌≡◌, ◌∙◌, sym, ap, refl, subst, ℕ, ◌+◌, ◌<◌, Bool, true, false, ◌||◌, cond, List, [], ◌∷◌, ◌++◌, length, take, get_or, map, ◌≤◌}
use Rattle.std.proofs.Common.{Option, Some, None, Result, Ok, Err, Bor, arith}
use Rattle.std.specs.Prelude.{slice_get}
use Rattle.std.specs.List.{find, filter_map}
use Rattle.std.specs.Option.{option_or, option_copied}
use Rattle.std.specs.Str.{bytes_eq}
use Rattle.std.proofs.lemmas.List.{take_more, take_all, map-append, length-take-le}
use Rattle.std.proofs.lemmas.List.Folds.{find-append}
use Rattle.std.proofs.lemmas.List.Elements.{filter_map-append}
use Rattle.vlog_tree.specs.declared.expression.Expr.{Expr}
use Rattle.vlog_tree.specs.declared.item.NamedConn.{NamedConn}
use Rattle.source_meaning.specs.Meaning.{Meaning}
use Rattle.scope_meaning.specs.Constants.{Names, Wrong, Read, constants, read, is_wrong, either_wrong, any_wrong, option_of}
use Rattle.scope_meaning.specs.Scope.{Given}
use Rattle.scope_meaning.specs.Overrides.{given_of, in_order, with_value, pairs, expressions}
use Rattle.source_meaning.specs.Environment.{Environment}
use Rattle.vlog_tree.specs.declared.item.Conns.{Conns}
use Rattle.vlog_tree.specs.declared.item.Conns.TheVariants as conns
use Rattle.elab_constants.specs.declared.fault.ConstantFault.{ConstantFault}
use Rattle.elab_constants.specs.declared.sized.SizedTerm.{SizedTerm}
use Rattle.elab_constants.specs.Sized.{IsSized}
use Rattle.elab_constants.specs.Faults.{first_wrong}
use Rattle.elab_constants.specs.Reads.{Gives, Reads}
use Rattle.elab_constants.proofs.Faults.{first, none_some, any_wrong_more, or_assoc, first_of_both}
use Rattle.elab_constants.specs.declared.fault.ConstantFault.TheVariants as fault
use Rattle.name_table.specs.Tables.{value_of, only}
use Rattle.elab_overrides.specs.declared.given.Givens.{Givens}
use Rattle.elab_overrides.specs.Given.{IsGiven, AreGiven, IsStored, given_at, given_in_order, given_by_name}

abbrev SoFar : Type 0
SoFar = Result Givens ConstantFault

abbrev Reading : Type 0
Reading = Result SizedTerm ConstantFault

abbrev value_in : Option Given → Option Meaning
value_in = option_of (λ g. g.value)

given_or : (a : Option Given) (o : Option SizedTerm) (b : Bool) (x : Given) (t : SizedTerm) → IsGiven (value_in a) o → IsSized x.value t
    → IsGiven (value_in (option_or a (cond b (Some x) None))) (option_or o (cond b (Some t) None))
given_or (Some g) (Some s) b x t h k = h
given_or (Some g) None b x t h k = absurd h
given_or None (Some s) b x t h k = absurd h
given_or None None true x t h k = k
given_or None None false x t h k = tt

-- a value is put behind those that are there
pub stored : (before : List Given) (old new : Givens) (name : List ℕ) (m : Meaning) (t : SizedTerm) → AreGiven before old → IsSized m t
    → ((q : List ℕ) → value_of new.values q ≡ option_or (value_of old.values q) (only name t q)) → AreGiven (before ++ given_at (Some name) m) new
stored before old new name m t h k put q =
    let x : Given = record { name = name; value = m } in
    subst (λ (a : Option Given). IsGiven (value_in a) (value_of new.values q)) (sym (find-append (λ (g : Given). bytes_eq q g.name) before (x ∷ [])))
    (subst (IsGiven (value_in (option_or (find (λ (g : Given). bytes_eq q g.name) before) (cond (bytes_eq q name) (Some x) None)))) (sym (put q))
    (given_or (find (λ (g : Given). bytes_eq q g.name) before) (value_of old.values q) (bytes_eq q name) x t (h q) k))

-- ---- where nothing is wrong

pub gives_moves : {A : Type 0} (P Q : A → Type 0) (w : Wrong) (r : Result A ConstantFault) → (first_wrong w ≡ None → (a : A) → P a → Q a) → Gives P w r
    → Gives Q w r
gives_moves P Q w (Ok a) f h = (h.0, f h.0 a h.1)
gives_moves P Q w (Err fault.NoMemory) f h = h
gives_moves P Q w (Err fault.NotConstant) f h = h
gives_moves P Q w (Err fault.BadSelect) f h = h
gives_moves P Q w (Err fault.WidthPast128) f h = h

second_right : (a b c n s w : Bool) → first (a || n) (b || s) (c || w) ≡ None → (n || s || w) ≡ false
second_right true b c n s w e = none_some fault.NotConstant (sym e)
second_right false b c true s w e = none_some fault.NotConstant (sym e)
second_right false true c false s w e = none_some fault.BadSelect (sym e)
second_right false false c false true w e = none_some fault.BadSelect (sym e)
second_right false false true false false w e = none_some fault.WidthPast128 (sym e)
second_right false false false false false true e = none_some fault.WidthPast128 (sym e)
second_right false false false false false false e = refl

right : (v w : Wrong) → first_wrong (either_wrong v w) ≡ None → is_wrong w ≡ false
right v w e = second_right v.name v.select v.wide w.name w.select w.wide e

abbrev flags : Bool → Bool → Bool → Wrong
flags n s w = record { name = n; select = s; wide = w }

either-assoc : (u v w : Wrong) → either_wrong u (either_wrong v w) ≡ either_wrong (either_wrong u v) w
either-assoc u v w =
    ap (λ b. flags b (u.select || (v.select || w.select)) (u.wide || (v.wide || w.wide))) (or_assoc u.name v.name w.name)
    ∙ ap (λ b. flags ((u.name || v.name) || w.name) b (u.wide || (v.wide || w.wide))) (or_assoc u.select v.select w.select)
    ∙ ap (λ b. flags ((u.name || v.name) || w.name) ((u.select || v.select) || w.select) b) (or_assoc u.wide v.wide w.wide)

gives_stored : {A : Type 0} (P : A → Type 0) (w : Wrong) (r : Result A ConstantFault) → first_wrong w ≡ None → IsStored P r → Gives P w r
gives_stored P w (Ok a) e h = (e, h)
gives_stored P w (Err fault.NoMemory) e h = tt
gives_stored P w (Err fault.NotConstant) e h = absurd h
gives_stored P w (Err fault.BadSelect) e h = absurd h
gives_stored P w (Err fault.WidthPast128) e h = absurd h

-- a value is stored where nothing is wrong so far and in it
pub stores : (before : List Given) (name : List ℕ) (w : Wrong) (r : Read) (so_far : SoFar) (value : Reading) (given : Givens) (t : SizedTerm) (after : SoFar)
    → so_far ≡ Ok given → value ≡ Ok t → Gives (AreGiven before) w so_far → Reads r value
    → ((b : List Given) (m : Meaning) → AreGiven b given → IsSized m t → IsStored (AreGiven (b ++ given_at (Some name) m)) after)
    → Gives (AreGiven (before ++ given_at (Some name) r.meaning)) (either_wrong w r.wrong) after
stores before name w r so_far value given t after is_given is_value h k f =
    let a : Gives (AreGiven before) w (Ok given) = subst (Gives (AreGiven before) w) is_given h in
    let b : Reads r (Ok t) = subst (Reads r) is_value k in
    gives_stored (AreGiven (before ++ given_at (Some name) r.meaning)) (either_wrong w r.wrong) after (first_of_both w r.wrong None None a.0 b.0)
    (f before r.meaning a.1 b.1)

pub at_some : (xs : List (List ℕ)) (i : ℕ) (r : Option (Bor (List ℕ))) (x : Bor (List ℕ)) (name : List ℕ) → option_copied r ≡ slice_get xs i → r ≡ Some x
    → name ≡ x.now
    → Some name ≡ slice_get xs i
at_some xs i r x name h is same = ap (λ (n : List ℕ). Some n) same ∙ sym (ap option_copied is) ∙ h

pub at_none : (xs : List (List ℕ)) (i : ℕ) (r : Option (Bor (List ℕ))) → option_copied r ≡ slice_get xs i → r ≡ None → None ≡ slice_get xs i
at_none xs i r h is = sym (ap option_copied is) ∙ h

module _ (known : Names) where
  abbrev rd : Expr → Read
  rd = read (constants known)

  abbrev pair_at : Option (List ℕ) → Expr → List (List ℕ × Expr)
  pair_at (Some name) e = (name, e) ∷ []
  pair_at None e = []

  given_right : (o : Option (List ℕ)) (e : Expr) → is_wrong (rd e).wrong ≡ false → filter_map (given_of known) (pair_at o e) ≡ given_at o (rd e).meaning
  given_right None e h = refl
  given_right (Some name) e h =
      ap (λ b. filter_map (λ (x : Option Given). x) (option_of (λ m. record { name = name; value = m }) (cond b None (Some (rd e).meaning)) ∷ [])) h

  no_values : (ns : List (List ℕ)) → in_order ns [] ≡ []
  no_values [] = refl
  no_values (n ∷ ns) = refl

  in_order-more : (ns : List (List ℕ)) (es : List Expr) (e : Expr) → in_order ns (es ++ e ∷ []) ≡ in_order ns es ++ pair_at (slice_get ns (length es)) e
  in_order-more [] [] e = refl
  in_order-more [] (a ∷ es) e = refl
  in_order-more (n ∷ ns) [] e = ap (λ ps. (n, e) ∷ ps) (no_values ns)
  in_order-more (n ∷ ns) (a ∷ es) e = ap (λ ps. (n, a) ∷ ps) (in_order-more ns es e)

  next : {X : Type 0} (xs : List X) (i : ℕ) (x : X) → i < length xs → x ≡ get_or xs i x → take (i + 1) xs ≡ take i xs ++ x ∷ []
  next {X} xs i x lt is = take_more xs i x lt ∙ ap (λ (y : X). take i xs ++ y ∷ []) (sym is)

  wrong-more : (es : List Expr) (e : Expr) → any_wrong (map rd (es ++ e ∷ [])) ≡ either_wrong (any_wrong (map rd es)) (rd e).wrong
  wrong-more es e = ap any_wrong (map-append rd es (e ∷ [])) ∙ any_wrong_more (map rd es) (rd e)

  in_order-step : (ns : List (List ℕ)) (es : List Expr) (e : Expr) (after : SoFar)
      → Gives (AreGiven (given_in_order known ns es
      ++ given_at (slice_get ns (length es)) (rd e).meaning)) (either_wrong (any_wrong (map rd es)) (rd e).wrong) after
      → Gives (AreGiven (given_in_order known ns (es ++ e ∷ []))) (any_wrong (map rd (es ++ e ∷ []))) after
  in_order-step ns es e after h =
      subst (λ (w : Wrong). Gives (AreGiven (given_in_order known ns (es ++ e ∷ []))) w after) (sym (wrong-more es e))
      (gives_moves (AreGiven (given_in_order known ns es ++ given_at (slice_get ns (length es)) (rd e).meaning)) (AreGiven (given_in_order known ns (es
      ++ e ∷ []))) _ after
      (λ none g is. subst (λ (gs : List Given). AreGiven gs g)
      (ap (λ (gs : List Given). given_in_order known ns es
      ++ gs) (sym (given_right (slice_get ns (length es)) e (right (any_wrong (map rd es)) (rd e).wrong none)))
      ∙ sym (ap (filter_map (given_of known)) (in_order-more ns es e)
      ∙ filter_map-append (given_of known) (in_order ns es) (pair_at (slice_get ns (length es)) e)))
      is) h)

  -- one value in order more
  pub in_order-next : (ns : List (List ℕ)) (es : List Expr) (i : ℕ) (e : Expr) (value : Reading) (so_far after : SoFar) → i < length es → e ≡ get_or es i e
      → Gives (AreGiven (given_in_order known ns (take i es))) (any_wrong (map rd (take i es))) so_far → Reads (rd e) value
      → ((before : List Given) (w : Wrong) (r : Read) → Gives (AreGiven before) w so_far → Reads r value
      → Gives (AreGiven (before ++ given_at (slice_get ns i) r.meaning)) (either_wrong w r.wrong) after)
      → Gives (AreGiven (given_in_order known ns (take (i + 1) es))) (any_wrong (map rd (take (i + 1) es))) after
  in_order-next ns es i e value so_far after lt is h k f =
      let at : length (take i es) ≡ i = length-take-le i es (omega arith) in
      subst (λ (l : List Expr). Gives (AreGiven (given_in_order known ns l)) (any_wrong (map rd l)) after) (sym (next es i e lt is))
      (in_order-step ns (take i es) e after
      (subst (λ (n : ℕ). Gives (AreGiven (given_in_order known ns (take i es)
      ++ given_at (slice_get ns n) (rd e).meaning)) (either_wrong (any_wrong (map rd (take i es))) (rd e).wrong) after)
      (sym at) (f (given_in_order known ns (take i es)) (any_wrong (map rd (take i es))) (rd e) h k)))

  abbrev values_in : List NamedConn → List Expr
  values_in = filter_map (λ c. c.value)

  any_wrong-append : (xs ys : List Expr) → any_wrong (map rd (xs ++ ys)) ≡ either_wrong (any_wrong (map rd xs)) (any_wrong (map rd ys))
  any_wrong-append [] ys = refl
  any_wrong-append (x ∷ xs) ys =
      ap (either_wrong (rd x).wrong) (any_wrong-append xs ys) ∙ either-assoc (rd x).wrong (any_wrong (map rd xs)) (any_wrong (map rd ys))

  -- one value by name more
  pub by_name-next : (cs : List NamedConn) (i : ℕ) (c : NamedConn) (so_far after : SoFar) → i < length cs → c ≡ get_or cs i c
      → Gives (AreGiven (given_by_name known (take i cs))) (any_wrong (map rd (values_in (take i cs)))) so_far
      → ((before : List Given) (w : Wrong) → Gives (AreGiven before) w so_far
      → Gives (AreGiven (before ++ given_by_name known (c ∷ []))) (either_wrong w (any_wrong (map rd (values_in (c ∷ []))))) after)
      → Gives (AreGiven (given_by_name known (take (i + 1) cs))) (any_wrong (map rd (values_in (take (i + 1) cs)))) after
  by_name-next cs i c so_far after lt is h f =
      let all : List NamedConn = take i cs in
      subst (λ (l : List NamedConn). Gives (AreGiven (given_by_name known l)) (any_wrong (map rd (values_in l))) after) (sym (next cs i c lt is))
      (subst (λ (w : Wrong). Gives (AreGiven (given_by_name known (all ++ c ∷ []))) w after)
      (sym (ap (λ (es : List Expr). any_wrong (map rd es)) (filter_map-append (λ (d : NamedConn). d.value) all (c ∷ []))
      ∙ any_wrong-append (values_in all) (values_in (c ∷ []))))
      (subst (λ (gs : List Given). Gives (AreGiven gs) (either_wrong (any_wrong (map rd (values_in all))) (any_wrong (map rd (values_in (c ∷ []))))) after)
      (sym (ap (filter_map (given_of known)) (filter_map-append with_value all (c ∷ []))
      ∙ filter_map-append (given_of known) (filter_map with_value all) (filter_map with_value (c ∷ []))))
      (f (given_by_name known all) (any_wrong (map rd (values_in all))) h)))

  -- no value in order yet
  pub none_in_order : (ns : List (List ℕ)) (g : Givens) → AreGiven [] g → AreGiven (given_in_order known ns []) g
  none_in_order [] g h = h
  none_in_order (n ∷ ns) g h = h

  single : (r : Read) → any_wrong (r ∷ []) ≡ r.wrong
  single r = any_wrong_more [] r

  -- the value of a connection
  pub connection : (v : NamedConn) (e : Expr) (name : List ℕ) (before : List Given) (w : Wrong) (after : SoFar) → v.value ≡ Some e → name ≡ v.name
      → Gives (AreGiven (before ++ given_at (Some name) (rd e).meaning)) (either_wrong w (rd e).wrong) after
      → Gives (AreGiven (before ++ given_by_name known (v ∷ []))) (either_wrong w (any_wrong (map rd (values_in (v ∷ []))))) after
  connection v e name before w after is named h =
      let pairs : filter_map with_value (v ∷ []) ≡ (v.name, e) ∷ [] =
      ap (λ (o : Option Expr). filter_map (λ (x : Option (List ℕ × Expr)). x) (option_of (λ (a : Expr). (v.name, a)) o ∷ [])) is in
      let values : values_in (v ∷ []) ≡ e ∷ [] = ap (λ (o : Option Expr). filter_map (λ (x : Option Expr). x) (o ∷ [])) is in
      subst (λ (x : Wrong). Gives (AreGiven (before ++ given_by_name known (v ∷ []))) (either_wrong w x) after)
      (sym (ap (λ (es : List Expr). any_wrong (map rd es)) values ∙ single (rd e)))
      (gives_moves (AreGiven (before ++ given_at (Some name) (rd e).meaning)) (AreGiven (before
      ++ given_by_name known (v ∷ []))) (either_wrong w (rd e).wrong) after
      (λ none g are. subst (λ (gs : List Given). AreGiven (before ++ gs) g)
      (ap (λ (n : List ℕ). given_at (Some n) (rd e).meaning) named ∙ sym (ap (filter_map (given_of known)) pairs
      ∙ given_right (Some v.name) e (right w (rd e).wrong none)))
      are) h)

  abbrev GivesAll : List (List ℕ) → Conns → SoFar → Type 0
  GivesAll ns v r = Gives (AreGiven (filter_map (given_of known) (pairs ns v))) (any_wrong (map rd (expressions v))) r

  pub of_ordered : (ns : List (List ℕ)) (v : Conns) (es slice : List Expr) (r : SoFar) → v ≡ conns.Ordered es → slice ≡ es
      → Gives (AreGiven (given_in_order known ns slice)) (any_wrong (map rd slice)) r → GivesAll ns v r
  of_ordered ns v es slice r is same h =
      subst (λ (x : Conns). GivesAll ns x r) (sym is) (subst (λ (l : List Expr). Gives (AreGiven (given_in_order known ns l)) (any_wrong (map rd l)) r) same h)

  pub of_named : (ns : List (List ℕ)) (v : Conns) (cs slice : List NamedConn) (r : SoFar) → v ≡ conns.Named cs → slice ≡ cs
      → Gives (AreGiven (given_by_name known slice)) (any_wrong (map rd (values_in slice))) r → GivesAll ns v r
  of_named ns v cs slice r is same h =
      subst (λ (x : Conns). GivesAll ns x r) (sym is)
      (subst (λ (l : List NamedConn). Gives (AreGiven (given_by_name known l)) (any_wrong (map rd (values_in l))) r) same h)

  -- all values are read
  pub all_in_order : (ns : List (List ℕ)) (es : List Expr) (i : ℕ) (r : SoFar) → length es ≤ i
      → Gives (AreGiven (given_in_order known ns (take i es))) (any_wrong (map rd (take i es))) r
      → Gives (AreGiven (given_in_order known ns es)) (any_wrong (map rd es)) r
  all_in_order ns es i r past h = subst (λ (l : List Expr). Gives (AreGiven (given_in_order known ns l)) (any_wrong (map rd l)) r) (take_all i es past) h

  pub all_by_name : (cs : List NamedConn) (i : ℕ) (r : SoFar) → length cs ≤ i
      → Gives (AreGiven (given_by_name known (take i cs))) (any_wrong (map rd (values_in (take i cs)))) r
      → Gives (AreGiven (given_by_name known cs)) (any_wrong (map rd (values_in cs))) r
  all_by_name cs i r past h = subst (λ (l : List NamedConn). Gives (AreGiven (given_by_name known l)) (any_wrong (map rd (values_in l))) r)
      (take_all i cs past) h

-- a constant is read where the names stand
pub read_where : (env : Environment) (known : Names) (e : Expr) (r : Reading) → env ≡ constants known → Reads (read env e) r
    → Reads (read (constants known) e) r
read_where env known e r is h = subst (λ (x : Environment). Reads (read x e) r) is h
