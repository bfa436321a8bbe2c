-- What is reached by what connections hand down are the clock signals.
use Rattle.std.proofs.Common.{◌≡◌, ◌∙◌, sym, ap, refl, subst, ℕ, ◌==◌, Bool, true, false, ◌&&◌, cond, List, [], ◌∷◌, Option, Some, None, Result, Ok, Err, inl, inr}
use Rattle.std.specs.Prelude.{Contains, IfOk}
use Rattle.std.specs.List.{list_any, filter_map, flat_map}
use Rattle.std.specs.Str.{bytes_eq}
use Rattle.std.proofs.lemmas.Bool.Decides.{eqb_tells}
use Rattle.std.proofs.lemmas.Slice.Eq.{bytes_eq-Decides}
use Rattle.cov_types.specs.declared.no_memory.NoMemory.{NoMemory}
use Rattle.vlog_tree.specs.declared.expression.Expr.{Expr, Expr-F, out-Expr, roll-Expr, out-roll-Expr, roll-out-Expr}
use Rattle.vlog_tree.specs.declared.expression.Expr.TheVariants as e
use Rattle.vlog_tree.specs.declared.expression.Expr.TheOpen as o
use Rattle.vlog_tree.specs.declared.expression.Select.{Select}
use Rattle.vlog_tree.specs.declared.item.Conns.{Conns}
use Rattle.vlog_tree.specs.declared.module.Module.{Module}
use Rattle.vlog_tree.specs.declared.module.Port.{Port}
use Rattle.vlog_tree.specs.declared.module.PortKind.{PortKind}
use Rattle.vlog_tree.specs.declared.module.PortKind.TheVariants as port
use Rattle.scope_meaning.specs.Declared.{Declared}
use Rattle.scope_meaning.specs.Scope.{Here, At, Frame, frames, Meant, a_constant, a_genvar, a_variable, no_value, meaning_of}
use Rattle.scope_meaning.specs.Overrides.{pairs}
use Rattle.scope_meaning.specs.Visits.{Visits, Visit, enters, sees, connects, has_constant, has_row, a_port, an_item, a_turn, Making}
use Rattle.flat_source_meaning.specs.Clocks.{IsClock, top_input, handed_down, port_names}
use Rattle.flat_source_meaning.specs.Joins.{is_input_kind, lone_name}
use Rattle.flat_scopes.specs.declared.place.PlaceInScope.{PlaceInScope}
use Rattle.flat_scopes.specs.declared.scope.NameMeaning.{NameMeaning}
use Rattle.flat_scopes.specs.declared.scope.NameMeaning.TheVariants as means
use Rattle.flat_scopes.specs.declared.scope.SeenScope.{SeenScope}
use Rattle.flat_scopes.specs.Frames.{AreFramesAt, Means}
use Rattle.flat_scopes.specs.Meanings.{meaning_by}
use Rattle.flat_scopes.proofs.Places.{means_at}
use Rattle.flat_names.proofs.Standing.{NamedAs, meant_named}
use Rattle.flat_spots.specs.declared.spot.Spot.{Spot}
use Rattle.flat_spots.specs.declared.spot.Spot.TheVariants as spot
use Rattle.flat_spots.specs.Spots.{IsPlaceOf, IsSpotOf, AreSpotsOf}
use Rattle.flat_spots.proofs.Members.{none_in, in_flat_map, to_flat_map, in_filter_map, to_filter_map, in_any, to_any}
use Rattle.flat_spots.proofs.OfWalk.{spot_at, visit_at}
use Rattle.flat_reach.specs.declared.reach.Handing.{Handing}
use Rattle.flat_reach.specs.Reach.{Reach, at_first, handed, has, IsReached}
use Rattle.scope_table.specs.declared.table.ScopeTable.{ScopeTable}
use Rattle.flat_clocks.specs.Handings.{is_input_named, handed_from, handed_by, handing_of, handings_at, is_top_clock, first_clock, AreClocks}

pub if_ok : {A : Type 0} (P Q : A → Type 0) (r : Result A NoMemory) → ((a : A) → P a → Q a) → IfOk r P → IfOk r Q
if_ok P Q (Ok a) f h = f a h
if_ok P Q (Err e) f h = tt

-- ---- tests that hold

both_hold : (a b : Bool) → (a && b) ≡ true → (a ≡ true) × (b ≡ true)
both_hold true b h = (refl, h)
both_hold false b h = cc

input_kind : (k : PortKind) → is_input_kind k ≡ true → k ≡ port.Input
input_kind port.Input h = refl
input_kind port.OutputWire h = cc
input_kind port.OutputReg h = cc

same_number : (a b : ℕ) → (a == b) ≡ true → a ≡ b
same_number a b h = elim (eqb_tells a b) [ inl p ↦ p.1 | inr p ↦ let f : false ≡ true = sym p.0 ∙ h in cc ]

its_own : (a : ℕ) → (a == a) ≡ true
its_own a = elim (eqb_tells a a) [ inl p ↦ p.0 | inr p ↦ absurd (p.1 refl) ]

named : (n m : List ℕ) → bytes_eq n m ≡ true → n ≡ m
named n m h = (bytes_eq-Decides n m).0 h

itself : (n : List ℕ) → bytes_eq n n ≡ true
itself n = (bytes_eq-Decides n n).1 refl

is_named : (p : Port) → p.kind ≡ port.Input → is_input_named p.name p ≡ true
is_named p k = ap (λ kind. is_input_kind kind && bytes_eq p.name p.name) k ∙ itself p.name

-- ---- names alone

name_alone : (x : Expr) (v : Expr-F Expr Select) (n : List ℕ) → out-Expr x ≡ v → lone_name v ≡ Some n → x ≡ e.Name n
name_alone x (o.Name m) n is h =
    let same : m ≡ n = cc in
    sym (roll-out-Expr x) ∙ ap roll-Expr is ∙ ap (λ (k : List ℕ). roll-Expr (o.Name k)) same ∙ e.rolls-Name n
name_alone x (o.Number w signed value free) n is h = cc
name_alone x (o.Select base select) n is h = cc
name_alone x (o.Unary op of) n is h = cc
name_alone x (o.Binary op left right) n is h = cc
name_alone x (o.Choose test first other) n is h = cc
name_alone x (o.Join parts) n is h = cc
name_alone x (o.Repeat count parts) n is h = cc
name_alone x (o.Call name of) n is h = cc

alone_named : (n : List ℕ) → lone_name (out-Expr (e.Name n)) ≡ Some n
alone_named n = ap (λ x. lone_name (out-Expr x)) (sym (e.rolls-Name n)) ∙ ap lone_name (out-roll-Expr (o.Name n))

-- ---- what a name means in both

-- a variable that is handed down by a name is the one that the name means
record IsHandedBy (meant : Option Meant) (makes : ℕ) (port name : List ℕ) (h : Handing) : Type 0 where
  d : Declared
  is : meant ≡ Some (a_variable h.from d)
  by_name : h.name ≡ name
  to : h.to ≡ makes
  as_port : h.port ≡ port

abbrev one_handing : ℕ → List ℕ → ℕ → List ℕ → Handing
one_handing from name to port = record { from = from; name = name; to = to; port = port }

from_found : (makes : ℕ) (port name : List ℕ) (h : Handing) (meant : Option Meant) (m : Option NameMeaning) → Means meant m
    → handed_from makes port name m ≡ Some h → IsHandedBy meant makes port name h
from_found makes port name h meant None means_it e = cc
from_found makes port name h meant (Some (means.Constant v)) means_it e = cc
from_found makes port name h meant (Some means.Genvar) means_it e = cc
from_found makes port name h meant (Some means.NoValue) means_it e = cc
from_found makes port name h None (Some (means.Variable s k)) means_it e = absurd means_it
from_found makes port name h (Some (a_constant c)) (Some (means.Variable s k)) means_it e = absurd means_it
from_found makes port name h (Some a_genvar) (Some (means.Variable s k)) means_it e = absurd means_it
from_found makes port name h (Some no_value) (Some (means.Variable s k)) means_it e = absurd means_it
from_found makes port name h (Some (a_variable i d)) (Some (means.Variable s k)) means_it e =
    let same : one_handing s name makes port ≡ h = cc in
    record {
      d = d;
      is = ap (λ (j : ℕ). Some (a_variable j d)) (sym means_it.0 ∙ ap (λ (x : Handing). x.from) same);
      by_name = sym (ap (λ (x : Handing). x.name) same);
      to = sym (ap (λ (x : Handing). x.to) same);
      as_port = sym (ap (λ (x : Handing). x.port) same);
    }

to_found : (makes : ℕ) (port name : List ℕ) (s : ℕ) (d : Declared) (m : Option NameMeaning) → Means (Some (a_variable s d)) m
    → handed_from makes port name m ≡ Some (one_handing s name makes port)
to_found makes port name s d None means_it = absurd means_it
to_found makes port name s d (Some (means.Constant v)) means_it = absurd means_it
to_found makes port name s d (Some means.Genvar) means_it = absurd means_it
to_found makes port name s d (Some means.NoValue) means_it = absurd means_it
to_found makes port name s d (Some (means.Variable k j)) means_it = ap (λ (i : ℕ). Some (one_handing i name makes port)) means_it.0

same_name : (fs : List Frame) (name : List ℕ) (s : ℕ) (d : Declared) → meaning_of fs name ≡ Some (a_variable s d) → d.name ≡ name
same_name fs name s d is = subst (NamedAs name) is (meant_named fs name)

module _ (scopes : List SeenScope) (vs : Visits) (clock : List ℕ) where
  abbrev Clock : ℕ → List ℕ → Type 0
  Clock = IsClock vs clock

  -- ---- what is reached is a clock signal

  pair_sound : (m : Making) (at : PlaceInScope) (q : List ℕ × Expr) (h : Handing) → Contains vs (connects m) → AreFramesAt scopes at (frames m.here m.at)
      → Contains (pairs (port_names m.of.ports) m.ports) q → handing_of scopes at m.makes m.of.ports q ≡ Some h → Clock h.from h.name → Clock h.to h.port
  pair_sound m at q h cv are cq got k = by (list_any (is_input_named q.0) m.of.ports) refl got
    where
      by_lone : list_any (is_input_named q.0) m.of.ports ≡ true → (l : Option (List ℕ)) → lone_name (out-Expr q.1) ≡ l
          → handed_by scopes at m.makes q.0 l ≡ Some h → Clock h.to h.port
      by_lone input None is found = cc
      by_lone input (Some name) is found =
          let f = from_found m.makes q.0 name h (meaning_of (frames m.here m.at) name) (meaning_by scopes at name) (means_at scopes at name _ refl are) found in
          let i = in_any (is_input_named q.0) m.of.ports input in
          let b = both_hold (is_input_kind i.0.kind) (bytes_eq q.0 i.0.name) i.2 in
          let n = named q.0 i.0.name b.1 in
          let alone = name_alone q.1 (out-Expr q.1) name refl is in
          let pair : q ≡ (i.0.name, e.Name name) = ap (λ (x : List ℕ). (x, q.1)) n ∙ ap (λ (x : Expr). (i.0.name, x)) alone in
          subst (λ (x : ℕ). Clock x h.port) (sym f.to)
          (subst (Clock m.makes) (sym (f.as_port ∙ n))
          (handed_down cv i.1 (input_kind i.0.kind b.0) (subst (Contains (pairs (port_names m.of.ports) m.ports)) pair cq) f.is
          (subst (Clock h.from) (f.by_name ∙ sym (same_name (frames m.here m.at) name h.from f.d f.is)) k)))

      by : (b : Bool) → list_any (is_input_named q.0) m.of.ports ≡ b
          → cond b (handed_by scopes at m.makes q.0 (lone_name (out-Expr q.1))) None ≡ Some h → Clock h.to h.port
      by true input found = by_lone input (lone_name (out-Expr q.1)) refl found
      by false input found = cc

  abbrev all_handed : PlaceInScope → ℕ → Module → Conns → List Handing
  all_handed at makes of ports = filter_map (handing_of scopes at makes of.ports) (pairs (port_names of.ports) ports)

  sound_at : (v : Visit) (s : Spot) (h : Handing) → Contains vs v → IsSpotOf scopes v s → Contains (handings_at scopes s) h → Clock h.from h.name
      → Clock h.to h.port
  sound_at v (spot.Port at p) h cv is c k = absurd (none_in h c)
  sound_at v (spot.Item at item) h cv is c k = absurd (none_in h c)
  sound_at (enters entry) (spot.Instance at place makes of ports) h cv is c k = absurd is
  sound_at (sees (a_port here pl p)) (spot.Instance at place makes of ports) h cv is c k = absurd is
  sound_at (sees (an_item here pl a)) (spot.Instance at place makes of ports) h cv is c k = absurd is
  sound_at (sees (a_turn pl names x)) (spot.Instance at place makes of ports) h cv is c k = absurd is
  sound_at (has_constant n x) (spot.Instance at place makes of ports) h cv is c k = absurd is
  sound_at (has_row n i x) (spot.Instance at place makes of ports) h cv is c k = absurd is
  sound_at (connects m) (spot.Instance at place makes of ports) h cv is c k =
      let c1 = subst (λ (x : ℕ). Contains (all_handed at x of.now ports.now) h) is.2 c in
      let c2 = subst (λ (x : Module). Contains (all_handed at m.makes x ports.now) h) is.3 c1 in
      let c3 = subst (λ (x : Conns). Contains (all_handed at m.makes m.of x) h) is.4 c2 in
      let r = in_filter_map (handing_of scopes at m.makes m.of.ports) (pairs (port_names m.of.ports) m.ports) h c3 in
      pair_sound m at r.0 h cv is.0.seen r.1 r.2 k

  top_sound : (v : Visit) (s : Spot) → Contains vs v → IsSpotOf scopes v s → is_top_clock clock s ≡ true → Clock 0 clock
  top_sound v (spot.Item at item) cv is h = cc
  top_sound v (spot.Instance at place makes of ports) cv is h = cc
  top_sound (enters entry) (spot.Port at port) cv is h = absurd is
  top_sound (sees (an_item here pl a)) (spot.Port at port) cv is h = absurd is
  top_sound (sees (a_turn pl names x)) (spot.Port at port) cv is h = absurd is
  top_sound (connects m) (spot.Port at port) cv is h = absurd is
  top_sound (has_constant n x) (spot.Port at port) cv is h = absurd is
  top_sound (has_row n i x) (spot.Port at port) cv is h = absurd is
  top_sound (sees (a_port here pl p)) (spot.Port at port) cv is h =
      let b = both_hold (at.scope == 0) (is_input_named clock port.now) h in
      let same = subst (λ (x : Port). is_input_named clock x ≡ true) is.1 b.1 in
      let d = both_hold (is_input_kind p.kind) (bytes_eq clock p.name) same in
      top_input cv (sym is.0.number ∙ same_number at.scope 0 b.0) (input_kind p.kind d.0) (sym (named clock p.name d.1))

  module _ (spots : List Spot) (are : AreSpotsOf scopes vs spots) where
    abbrev Reached : ℕ → List ℕ → Type 0
    Reached = Reach (first_clock clock spots) (flat_map (handings_at scopes) spots)

    first_sound : (name : List ℕ) → first_clock clock spots ≡ Some name → Clock 0 name
    first_sound name e = by (list_any (is_top_clock clock) spots) refl e
      where
        by : (b : Bool) → list_any (is_top_clock clock) spots ≡ b → cond b (Some clock) None ≡ Some name → Clock 0 name
        by false h f = cc
        by true h f =
            let same : clock ≡ name = cc in
            let s = in_any (is_top_clock clock) spots h in
            let v = visit_at scopes vs spots s.0 are s.1 in
            subst (Clock 0) same (top_sound v.0 s.0 v.1 v.2 s.2)

    handed_sound : (h : Handing) → Contains (flat_map (handings_at scopes) spots) h → Clock h.from h.name → Clock h.to h.port
    handed_sound h c k =
        let s = in_flat_map (handings_at scopes) spots h c in
        let v = visit_at scopes vs spots s.0 are s.1 in
        sound_at v.0 s.0 h v.1 v.2 s.2 k

    sound : {s : ℕ} {n : List ℕ} → Reached s n → Clock s n
    sound (at_first {name = name} is) = first_sound name is
    sound (handed {h = h} c k) = handed_sound h c (sound k)

    -- ---- each clock signal is reached

    top_found : (here : Here) (pl : At) (p : Port) (s : Spot) → IsSpotOf scopes (sees (a_port here pl p)) s → here.number ≡ 0 → p.kind ≡ port.Input
        → p.name ≡ clock → is_top_clock clock s ≡ true
    top_found here pl p (spot.Item at item) is number kind name = absurd is
    top_found here pl p (spot.Instance at place makes of ports) is number kind name = absurd is
    top_found here pl p (spot.Port at q) is number kind name =
        ap (λ (k : ℕ). (k == 0) && is_input_named clock q.now) (is.0.number ∙ number)
        ∙ ap (λ (x : Port). is_input_named clock x) is.1
        ∙ ap (λ (k : PortKind). is_input_kind k && bytes_eq clock p.name) kind
        ∙ ap (bytes_eq clock) name
        ∙ itself clock

    first_complete : (here : Here) (pl : At) (p : Port) → Contains vs (sees (a_port here pl p)) → here.number ≡ 0 → p.kind ≡ port.Input → p.name ≡ clock
        → Reached 0 clock
    first_complete here pl p cv number kind name =
        let s = spot_at scopes vs spots (sees (a_port here pl p)) are cv refl in
        at_first (ap (λ b. cond b (Some clock) None) (to_any (is_top_clock clock) spots s.0 s.1 (top_found here pl p s.0 s.2 number kind name)))

    pair_complete : (m : Making) (at : PlaceInScope) (p : Port) (name : List ℕ) (s : ℕ) (d : Declared) → AreFramesAt scopes at (frames m.here m.at)
        → Contains m.of.ports p → p.kind ≡ port.Input → meaning_of (frames m.here m.at) name ≡ Some (a_variable s d)
        → handing_of scopes at m.makes m.of.ports (p.name, e.Name name) ≡ Some (one_handing s name m.makes p.name)
    pair_complete m at p name s d seen cp kind mean =
        ap (λ b. cond b (handed_by scopes at m.makes p.name (lone_name (out-Expr (e.Name name)))) None)
        (to_any (is_input_named p.name) m.of.ports p cp (is_named p kind))
        ∙ ap (handed_by scopes at m.makes p.name) (alone_named name)
        ∙ to_found m.makes p.name name s d (meaning_by scopes at name)
        (subst (λ (o : Option Meant). Means o (meaning_by scopes at name)) mean (means_at scopes at name _ refl seen))

    handing_there : (m : Making) (x : Spot) (p : Port) (name : List ℕ) (s : ℕ) (d : Declared) → IsSpotOf scopes (connects m) x → Contains m.of.ports p
        → p.kind ≡ port.Input → Contains (pairs (port_names m.of.ports) m.ports) (p.name, e.Name name)
        → meaning_of (frames m.here m.at) name ≡ Some (a_variable s d) → Contains (handings_at scopes x) (one_handing s name m.makes p.name)
    handing_there m (spot.Port at q) p name s d is cp kind cq mean = absurd is
    handing_there m (spot.Item at item) p name s d is cp kind cq mean = absurd is
    handing_there m (spot.Instance at place makes of ports) p name s d is cp kind cq mean =
        let h = one_handing s name m.makes p.name in
        let c = to_filter_map (handing_of scopes at m.makes m.of.ports) (pairs (port_names m.of.ports) m.ports) (p.name, e.Name name) h cq
        (pair_complete m at p name s d is.0.seen cp kind mean) in
        let c1 = subst (λ (x : Conns). Contains (all_handed at m.makes m.of x) h) (sym is.4) c in
        let c2 = subst (λ (x : Module). Contains (all_handed at m.makes x ports.now) h) (sym is.3) c1 in
        subst (λ (x : ℕ). Contains (all_handed at x of.now ports.now) h) (sym is.2) c2

    handed_complete : (m : Making) (p : Port) (name : List ℕ) (s : ℕ) (d : Declared) → Contains vs (connects m) → Contains m.of.ports p
        → p.kind ≡ port.Input → Contains (pairs (port_names m.of.ports) m.ports) (p.name, e.Name name)
        → meaning_of (frames m.here m.at) name ≡ Some (a_variable s d) → Reached s d.name → Reached m.makes p.name
    handed_complete m p name s d cv cp kind cq mean k =
        let x = spot_at scopes vs spots (connects m) are cv refl in
        handed {h = one_handing s name m.makes p.name}
        (to_flat_map (handings_at scopes) spots x.0 (one_handing s name m.makes p.name) x.1 (handing_there m x.0 p name s d x.2 cp kind cq mean))
        (subst (Reached s) (same_name (frames m.here m.at) name s d mean) k)

    complete : {s : ℕ} {n : List ℕ} → Clock s n → Reached s n
    complete (top_input {here = here} {at = at} {p = p} cv number kind name) = first_complete here at p cv number kind name
    complete (handed_down {m = m} {p = p} {name = name} {s = s} {d = d} cv cp kind cq mean k) = handed_complete m p name s d cv cp kind cq mean (complete k)

    pub are_clocks : (first : Option (List ℕ)) (all : List Handing) (table : ScopeTable Unit) → first ≡ first_clock clock spots
        → all ≡ flat_map (handings_at scopes) spots → IsReached first all table → AreClocks vs clock table
    are_clocks first all table is_first is_all reached = λ s n.
        let r = subst (λ (f : Option (List ℕ)). IsReached f (flat_map (handings_at scopes) spots) table) is_first
        (subst (λ (hs : List Handing). IsReached first hs table) is_all reached) in
        ((λ h. sound ((r s n).0 h)), (λ k. (r s n).1 (complete k)))
