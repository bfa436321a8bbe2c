-- The section of points.
use Rattle.std.proofs.Common.{◌≡◌, ℕ, Bool, true, false, List, [], ◌∷◌, ◌++◌, length, Option, Some, None, Result, Ok, Err, refl, sym, ◌∙◌, ap, subst, map}
use Rattle.std.proofs.Common.{arith, length-append}
use Rattle.std.specs.Prelude.{◌&&◌, codes, is_some, nat_le, slice_get, ◌-◌}
use Rattle.std.specs.List.{list_all}
use Rattle.std.specs.Option.{option_map}
use Rattle.cov_types.specs.Limits.{most}
use Rattle.cov_types.specs.declared.limit.LimitName.TheVariants as limit
use Rattle.design_tree.specs.declared.instrumented.PointRow.{PointRow}
use Rattle.spelling_laws.specs.Spelled.{Apart}
use Rattle.spelling_laws.proofs.Then as after
use Rattle.spelling_laws.proofs.One as single
use Rattle.cvd_text.specs.Lines.{Line}
use Rattle.cvd_text.specs.Tokens as Tokens
use Rattle.cvd_text.specs.Tokens.{words_of}
use Rattle.cvd_text.specs.Pieces.{Mark, fits, token}
use Rattle.cvd_text.specs.Sections.{heading, is_below, lines_behind, point_line, point_lines}
use Rattle.cvd_cursor.specs.Places.{Reading, first_word}
use Rattle.cvd_cursor.specs.Reads.{Reads, Takes, Refused, line_marks, marks}
use Rattle.cvd_cursor.specs.declared.fault.ReadFault.{ReadFault}
use Rattle.cvd_cursor.proofs.Composed.{takes_both, takes_as, refused_first, refused_second, refused_by}
use Rattle.cvd_nodes.proofs.Fields.{then_apart}
use Rattle.cvd_sections.specs.Alone.{marks_alone, row_marks}
use Rattle.cvd_sections.specs.Closing.{Closes, Judges}
use Rattle.cvd_sections.specs.Keys.{Sides, counters_tokens, keyed, last_key, sides_tokens}
use Rattle.cvd_sections.proofs.CounterLists.{apart_counters}
use Rattle.cvd_sections.proofs.KeyWords.{apart_keyed, key_refused, key_taken}
use Rattle.cvd_sections.proofs.Lines.{end_stands}
use Rattle.cvd_sections.proofs.Lists.{row}
use Rattle.spelling_laws.proofs.Fitting.{second_true}

pub apart_sides : Apart fits (marks sides_tokens)
apart_sides = then_apart (List ℕ) (List ℕ) (marks counters_tokens) (marks counters_tokens) apart_counters apart_counters

-- a point as its counters and its key
abbrev pub Parted : Type 0
Parted = (s : Sides) × List ℕ

abbrev pub point_by : Parted → PointRow
point_by p = record { plus = p.0.0; minus = p.0.1; key = p.1 }

abbrev pub parted : PointRow → Parted
parted r = ((r.plus, r.minus), r.key)

module _ (line : PointRow → Line) (spelled : PointRow → List Mark) (is : (r : PointRow)
    → spelled r ≡ marks sides_tokens (r.plus, r.minus) ++ keyed (λ k. (line (record { plus = r.plus; minus = r.minus; key = k })).holds) r.key) where
  abbrev holds : Sides → List ℕ → Bool
  holds s k = (line (point_by (s, k))).holds

  abbrev both : Parted → List Mark
  both p = marks sides_tokens p.0 ++ keyed (holds p.0) p.1

  pub sides_refused : (old new : Reading) (fault : ReadFault) → Refused (marks sides_tokens) old fault new → Refused spelled old fault new
  sides_refused old new fault r =
      refused_by Parted PointRow point_by parted both spelled is (λ p. is (point_by p)) old new fault
      (refused_first Sides (λ s. List ℕ) (marks sides_tokens) (λ s. keyed (holds s)) apart_sides (λ s. []) old new fault r)

  pub rest_refused : (old mid new : Reading) (s : Sides) (fault : ReadFault) → Takes (marks sides_tokens) old mid s → Refused (keyed (holds s)) mid fault new
      → Refused spelled old fault new
  rest_refused old mid new s fault h r =
      refused_by Parted PointRow point_by parted both spelled is (λ p. is (point_by p)) old new fault
      (refused_second Sides (λ x. List ℕ) (marks sides_tokens) (λ x. keyed (holds x)) s (apart_sides s) old mid new fault h r)

  pub point_taken : (old mid new : Reading) (s : Sides) (key : List ℕ) → Takes (marks sides_tokens) old mid s → Takes (keyed (holds s)) mid new key
      → Takes spelled old new (point_by (s, key))
  point_taken old mid new s key h k =
      takes_as Parted PointRow point_by parted both spelled is (λ p. is (point_by p)) old new (s, key)
      (takes_both Sides (λ x. List ℕ) (marks sides_tokens) (λ x. keyed (holds x)) old mid new s key h k)

  pub apart_point : Apart fits spelled
  apart_point r =
      single.apart_via fits Parted PointRow point_by parted (λ q. refl) both spelled is r
      (after.apart_pair fits Sides (λ s. List ℕ) (marks sides_tokens) (λ s. keyed (holds s)) (r.plus, r.minus) r.key (apart_sides (r.plus, r.minus))
      (apart_keyed (holds (r.plus, r.minus)) r.key))

  pub is_found : (s : Sides) (key : List ℕ) (found : Option PointRow) → Judges (λ q. (line q).holds) (λ q held. held ≡ q) (point_by (s, key)) found
      → is_some found ≡ holds s key
  is_found s key (Some v) j = sym j.0
  is_found s key None j = sym j

  pub held_found : (s : Sides) (key : List ℕ) (found : Option PointRow) (held : PointRow) → found ≡ Some held
      → Judges (λ q. (line q).holds) (λ q held. held ≡ q) (point_by (s, key)) found → held ≡ point_by (s, key)
  held_found s key found held e j = (subst (λ f. Judges (λ q. (line q).holds) (λ q h. h ≡ q) (point_by (s, key)) f) e j).1

abbrev pub some_point : PointRow
some_point = record { plus = []; minus = []; key = [] }

abbrev pub may_be : ℕ → Bool
may_be n = nat_le n (most limit.Points)

module _ (counters : ℕ) where
  abbrev pub each : ℕ → List PointRow → PointRow → Line
  each n before p = point_line counters before p

  abbrev pub section : List PointRow → List Mark
  section ps = marks_alone (point_lines counters ps)

  pub alike : (ps : List PointRow) → section ps ≡ row_marks (heading (codes "points") (length ps) (may_be (length ps)))
      ++ marks_alone (lines_behind (each (length ps)) [] ps)
  alike ps = refl

  pub apart_rows : (s : ℕ × List PointRow) → Apart fits (row each s)
  apart_rows s = apart_point (each s.0 s.1) (row each s) (λ r. refl)

  -- a point that was read comes behind all those before it
  pub point_stood : (before : List PointRow) (r : PointRow) (old new : Reading) → Takes (row each (0, before)) old new r
      → list_all (λ (q : PointRow). is_below q.key r.key) before ≡ true
  point_stood before r old new h =
      second_true _ _ (end_stands (token (Tokens.counters r.plus) ∷ token (Tokens.counters r.minus) ∷ map token (words_of r.key)) (each 0 before r).holds
      h.read.given h.read.fit)

last_there : (ps : List PointRow) (r : PointRow) → slice_get (ps ++ r ∷ []) (length ps) ≡ Some r
last_there [] r = refl
last_there (p ∷ ps) r = last_there ps r

pub last_added : (points : List PointRow) (r : PointRow) → last_key (points ++ r ∷ []) ≡ Some r.key
last_added points r =
    let e : length (points ++ r ∷ []) - 1 ≡ length points = omega (arith, length-append points (r ∷ [])) in
    ap (option_map (λ (p : PointRow). p.key)) (ap (slice_get (points ++ r ∷ [])) e ∙ last_there points r)

-- the conditions of a point, those of its counters first
pub grouped : (a b k s l : Bool) → ((((a && b) && k) && s) && l) ≡ ((a && b) && ((k && s) && l))
grouped true true k s l = refl
grouped true false k s l = refl
grouped false b k s l = refl

abbrev pub point_of_parts : List ℕ → List ℕ → List ℕ → PointRow
point_of_parts plus minus key = record { plus = plus; minus = minus; key = key }

pub point_same : (plus minus key : List ℕ) (p : PointRow) → plus ≡ p.plus → minus ≡ p.minus → key ≡ p.key → point_of_parts plus minus key ≡ p
point_same plus minus key p e f g =
    ap (λ x. point_of_parts x minus key) e ∙ ap (λ x. point_of_parts p.plus x key) f ∙ ap (point_of_parts p.plus p.minus) g
