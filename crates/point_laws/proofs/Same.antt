-- What the tests of events and toggles tell.
use Rattle.std.proofs.Common.{◌≡◌, ℕ, Bool, true, false, ◌&&◌, eqb, List, refl, sym, ◌∙◌, ap, ap₂}
use Rattle.std.specs.Str.{bytes_eq}
use Rattle.std.proofs.lemmas.Bool.{eqb-true, false≢true}
use Rattle.std.proofs.lemmas.Bool.Decides.{Decides-eqb}
use Rattle.std.proofs.lemmas.Slice.Eq.{bytes_eq-Decides}
use Rattle.cov_types.specs.declared.place.Place.{Place}
use Rattle.cov_points.specs.declared.point.PointKind.{PointKind}
use Rattle.cov_points.specs.KeyText.{kind_text}
use Rattle.point_key_laws.proofs.PointKeys.{kinds}
use Rattle.point_meaning.specs.Source.{Source, scope_at}
use Rattle.point_meaning.specs.Candidates.{Identity}
use Rattle.point_meaning.specs.Occurrences.{is_same_kind, is_same_place, is_at}

pub both : (a b : Bool) → (a && b) ≡ true → (a ≡ true) × (b ≡ true)
both true b is = (refl, is)
both false b is = absurd (false≢true is)

pub joined : (a b : Bool) → a ≡ true → b ≡ true → (a && b) ≡ true
joined a b first second = ap₂ (λ (x y : Bool). x && y) first second

pub bytes_tell : (a b : List ℕ) → bytes_eq a b ≡ true → a ≡ b
bytes_tell a b is = (bytes_eq-Decides a b).0 is

pub bytes_same : (a : List ℕ) → bytes_eq a a ≡ true
bytes_same a = (bytes_eq-Decides a a).1 refl

pub kinds_tell : (a b : PointKind) → is_same_kind a b ≡ true → a ≡ b
kinds_tell a b is = kinds a b (bytes_tell (kind_text a) (kind_text b) is)

pub place_is : (p q : Place) → p.file ≡ q.file → p.line ≡ q.line → p.column ≡ q.column → p ≡ q
place_is p q f l n = ap₂ (λ (a : ℕ) (b : ℕ × ℕ). record { file = a; line = b.0; column = b.1 }) f (ap₂ (λ (a b : ℕ). (a, b)) l n)

pub places_tell : (p q : Place) → is_same_place p q ≡ true → p ≡ q
places_tell p q is =
    let outer = both (eqb p.file q.file && eqb p.line q.line) (eqb p.column q.column) is in
    let inner = both (eqb p.file q.file) (eqb p.line q.line) outer.0 in
    place_is p q (eqb-true p.file q.file inner.0) (eqb-true p.line q.line inner.1) (eqb-true p.column q.column outer.1)

eqb_same : (n : ℕ) → eqb n n ≡ true
eqb_same n = (Decides-eqb n n).1 refl

pub place_same : (p : Place) → is_same_place p p ≡ true
place_same p = joined (eqb p.file p.file && eqb p.line p.line) (eqb p.column p.column)
    (joined (eqb p.file p.file) (eqb p.line p.line) (eqb_same p.file) (eqb_same p.line)) (eqb_same p.column)

pub identity_is : (a b : Identity) → a.kind ≡ b.kind → a.module_text ≡ b.module_text → a.place ≡ b.place → a.comment ≡ b.comment → a ≡ b
identity_is a b k m p c =
    ap₂ (λ (x : PointKind × List ℕ) (y : Place × List ℕ). record { kind = x.0; module_text = x.1; place = y.0; comment = y.1 })
    (ap₂ (λ (x : PointKind) (y : List ℕ). (x, y)) k m) (ap₂ (λ (x : Place) (y : List ℕ). (x, y)) p c)

-- what is at the place of a point stands there, in its module text
pub at_tells : (source : Source) (point : Identity) (n : ℕ) (p : Place) → is_at source point n p ≡ true
    → (p ≡ point.place) × ((scope_at source n).module_text ≡ point.module_text)
at_tells source point n p is =
    let parts = both (is_same_place p point.place) (bytes_eq (scope_at source n).module_text point.module_text) is in
    (places_tell p point.place parts.0, bytes_tell (scope_at source n).module_text point.module_text parts.1)
