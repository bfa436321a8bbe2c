-- A text is told one way: its design flows, or it has one flaw, of which a circle is one like any other.
use Rattle.std.proofs.Common.{◌≡◌, ℕ, Bool, true, false, List, [], refl, sym, ◌∙◌, ap, subst}
use Rattle.std.specs.Prelude.{◌⊎◌, if◌then◌else◌}
use mathlib.Core.Logic.{inl, inr}
use Rattle.design_tree.specs.declared.design.Design.{Design}
use Rattle.design_meaning.specs.FlowFaults.{Fault, Flows, IsFaultOf, two_drivers, mixed_driver, not_private, latch, read_before_write, comb_loop}
use Rattle.design_meaning.proofs.OneFault.{one_fault}
use Rattle.design_meaning.proofs.NeverBoth as flows
use Rattle.cvd_text.specs.Fault.{Flaw, not_cvd, version, bad_token, bad_number, bad_shape, truncated, trailing, invalid}
use Rattle.cvd_text.specs.Fault.{IsFlaw, other_text, no_line, other_version, wrong_piece, cut_off, goes_on, breaks_flow, flaw_at}
use Rattle.cvd_text.specs.Pieces.{Piece, a_word, feed, Mark, token, line_end}
use Rattle.cvd_text.specs.Tokens.{is_numeric}
use Rattle.cvd_file_laws.proofs.OneFlaw.{one_flaw}
use Rattle.cvd_flaw_laws.specs.Laws.{IsCircle, OneTold, NeverBoth}

-- a fault, but not which circle
abbrev plain : Fault → Fault
plain (two_drivers p v) = two_drivers p v
plain (mixed_driver p v) = mixed_driver p v
plain (not_private p v) = not_private p v
plain (latch p v) = latch p v
plain (read_before_write p v) = read_before_write p v
plain (comb_loop processes) = comb_loop []

-- a design flows, or has a fault
data Verdict : Type 0 where
  it_flows : Verdict
  it_breaks : Fault → Verdict

abbrev IsVerdict : Design → Verdict → Type 0
IsVerdict d it_flows = Flows d
IsVerdict d (it_breaks told) = (fault : Fault) × IsFaultOf d fault × (told ≡ plain fault)

one_plain : (d : Design) (a b : Fault) → IsFaultOf d a → IsFaultOf d b → plain a ≡ plain b
one_plain d a b h k = elim (one_fault d a b h k) [ inl same ↦ ap plain same | inr c ↦ ap plain c.2 ∙ sym (ap plain c.3) ]

one_verdict : (d : Design) (f g : Verdict) → IsVerdict d f → IsVerdict d g → f ≡ g
one_verdict d it_flows it_flows h k = refl
one_verdict d it_flows (it_breaks b) h k = absurd (flows.never_both d k.0 h k.1)
one_verdict d (it_breaks a) it_flows h k = absurd (flows.never_both d h.0 k h.1)
one_verdict d (it_breaks a) (it_breaks b) h k = ap it_breaks (h.2 ∙ one_plain d h.0 k.0 h.1 k.1 ∙ sym k.2)

-- ---- flaws as verdicts

abbrev verdict : Flaw Fault → Flaw Verdict
verdict (not_cvd n) = not_cvd n
verdict (version n) = version n
verdict (bad_token n) = bad_token n
verdict (bad_number n) = bad_number n
verdict (bad_shape n) = bad_shape n
verdict (truncated n) = truncated n
verdict (trailing n) = trailing n
verdict (invalid fault) = invalid (it_breaks (plain fault))

by_number : (b : Bool) (n : ℕ) → verdict (if b then bad_number n else bad_token n) ≡ (if b then bad_number n else bad_token n)
by_number true n = refl
by_number false n = refl

same_at : (p : Piece) (m : Mark) (n : ℕ) → verdict (flaw_at Fault IsFaultOf p m n) ≡ flaw_at Verdict IsVerdict p m n
same_at (a_word text) (token t) n = by_number (is_numeric t) n
same_at (a_word text) (line_end s) n = refl
same_at feed (token t) n = by_number (is_numeric t) n
same_at feed (line_end s) n = refl

told : (text : List ℕ) (f : Flaw Fault) → IsFlaw Fault IsFaultOf text f → IsFlaw Verdict IsVerdict text (verdict f)
told text f (other_text h) = other_text h
told text f (no_line h e) = no_line h e
told text f (other_version p ps h e k) = other_version p ps h e k
told text f (wrong_piece given p m h w e) = subst (IsFlaw Verdict IsVerdict text) (sym (same_at p m _)) (wrong_piece given p m h w e)
told text f (cut_off m h w) = cut_off m h w
told text f (goes_on x byte more h e) = goes_on x byte more h e
told text f (breaks_flow x fault c h) = breaks_flow x (it_breaks (plain fault)) c (fault, h, refl)

one_of_them : (text : List ℕ) (f g : Flaw Verdict) → IsFlaw Verdict IsVerdict text f → IsFlaw Verdict IsVerdict text g → f ≡ g
one_of_them = one_flaw Verdict IsVerdict one_verdict

pub never_both : NeverBoth
never_both x text flaw c h k = by flaw (one_of_them text (invalid it_flows) (verdict flaw) (breaks_flow x it_flows c h) (told text flaw k))
  where
    by : (flaw : Flaw Fault) → ◌≡◌ {A = Flaw Verdict} (invalid it_flows) (verdict flaw) → ⊥
    by (not_cvd n) e = cc
    by (version n) e = cc
    by (bad_token n) e = cc
    by (bad_number n) e = cc
    by (bad_shape n) e = cc
    by (truncated n) e = cc
    by (trailing n) e = cc
    by (invalid fault) e = cc

-- ---- back from verdicts

-- a flaw, but not which circle
abbrev plain_flaw : Flaw Fault → Flaw Fault
plain_flaw (not_cvd n) = not_cvd n
plain_flaw (version n) = version n
plain_flaw (bad_token n) = bad_token n
plain_flaw (bad_number n) = bad_number n
plain_flaw (bad_shape n) = bad_shape n
plain_flaw (truncated n) = truncated n
plain_flaw (trailing n) = trailing n
plain_flaw (invalid fault) = invalid (plain fault)

abbrev fault_in : Verdict → Fault
fault_in it_flows = comb_loop []
fault_in (it_breaks fault) = fault

abbrev back : Flaw Verdict → Flaw Fault
back (not_cvd n) = not_cvd n
back (version n) = version n
back (bad_token n) = bad_token n
back (bad_number n) = bad_number n
back (bad_shape n) = bad_shape n
back (truncated n) = truncated n
back (trailing n) = trailing n
back (invalid v) = invalid (fault_in v)

there_and_back : (f : Flaw Fault) → back (verdict f) ≡ plain_flaw f
there_and_back (not_cvd n) = refl
there_and_back (version n) = refl
there_and_back (bad_token n) = refl
there_and_back (bad_number n) = refl
there_and_back (bad_shape n) = refl
there_and_back (truncated n) = refl
there_and_back (trailing n) = refl
there_and_back (invalid fault) = refl

-- what is plain, or a circle
plain_or : (f : Flaw Fault) → (plain_flaw f ≡ f) ⊎ IsCircle f
plain_or (not_cvd n) = inl refl
plain_or (version n) = inl refl
plain_or (bad_token n) = inl refl
plain_or (bad_number n) = inl refl
plain_or (bad_shape n) = inl refl
plain_or (truncated n) = inl refl
plain_or (trailing n) = inl refl
plain_or (invalid (two_drivers p v)) = inl refl
plain_or (invalid (mixed_driver p v)) = inl refl
plain_or (invalid (not_private p v)) = inl refl
plain_or (invalid (latch p v)) = inl refl
plain_or (invalid (read_before_write p v)) = inl refl
plain_or (invalid (comb_loop processes)) = inr (processes, refl)

-- a plain circle is one
circle_too : (f g : Flaw Fault) → plain_flaw f ≡ plain_flaw g → plain_flaw g ≡ g → IsCircle f → IsCircle g
circle_too f g e same c = ([], sym same ∙ sym e ∙ ap plain_flaw c.1)

either : (f g : Flaw Fault) → plain_flaw f ≡ plain_flaw g → (plain_flaw f ≡ f) ⊎ IsCircle f → (plain_flaw g ≡ g) ⊎ IsCircle g
    → (f ≡ g) ⊎ (IsCircle f × IsCircle g)
either f g e (inl a) (inl b) = inl (sym a ∙ e ∙ b)
either f g e (inl a) (inr b) = inr (circle_too g f (sym e) a b, b)
either f g e (inr a) (inl b) = inr (a, circle_too f g e b a)
either f g e (inr a) (inr b) = inr (a, b)

pub one_told : OneTold
one_told text f g h k =
    let same = one_of_them text (verdict f) (verdict g) (told text f h) (told text g k) in
    either f g (sym (there_and_back f) ∙ ap back same ∙ there_and_back g) (plain_or f) (plain_or g)
