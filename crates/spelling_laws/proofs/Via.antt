-- Values that are spelled as others are: what is read and what is wrong.
use Rattle.std.specs.Prelude.{◌≡◌, Bool, List, [], ◌∷◌}
use mathlib.Core.Path.{sym, ap, ◌∙◌}
use Rattle.spelling_laws.specs.Spelled.{all_fit, Awaits, NoneFits, IsRead, IsWrong}

module _ {P M : Type 0} (fits : P → M → Bool) (A B : Type 0) (to : A → B) (from : B → A) (sA : A → List M) (sB : B → List M)
    (alike : (b : B) → sB b ≡ sA (from b)) (alike_to : (a : A) → sB (to a) ≡ sA a) where
  pub read_via : (ps rest : List P) (a : A) → IsRead fits sA ps a rest → IsRead fits sB ps (to a) rest
  read_via ps rest a r = record { given = r.given; split = r.split; fit = ap (all_fit fits r.given) (alike_to a) ∙ r.fit }

  awaits_via : (gs : List P) (m : M) → Awaits fits sA gs m → Awaits fits sB gs m
  awaits_via gs m w = record { value = to w.value; first = w.first; more = w.more; split = alike_to w.value ∙ w.split; fit = w.fit }

  awaits_back : (gs : List P) (m : M) → Awaits fits sB gs m → Awaits fits sA gs m
  awaits_back gs m w = record { value = from w.value; first = w.first; more = w.more; split = sym (alike w.value) ∙ w.split; fit = w.fit }

  none_via : (gs rest : List P) → NoneFits fits sA gs rest → NoneFits fits sB gs rest
  none_via gs [] h = tt
  none_via gs (p ∷ rest) h = λ m w. h m (awaits_back gs m w)

  pub wrong_via : (ps rest : List P) (m : M) → IsWrong fits sA ps m rest → IsWrong fits sB ps m rest
  wrong_via ps rest m w = record { given = w.given; split = w.split; awaits = awaits_via w.given m w.awaits; none = none_via w.given rest w.none }
