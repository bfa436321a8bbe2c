-- One value read behind another.
use Rattle.std.proofs.Common.{◌≡◌, List, ◌++◌, ◌∙◌}
use Rattle.cvd_text.specs.Pieces.{Mark, fits}
use Rattle.spelling_laws.specs.Spelled.{ApartAt, Apart}
use Rattle.spelling_laws.proofs.Then as after
use Rattle.spelling_laws.proofs.Via.{read_via, wrong_via}
use Rattle.cvd_cursor.specs.Places.{Reading}
use Rattle.cvd_cursor.specs.Reads.{Takes, Stops, Refused}
use Rattle.cvd_cursor.specs.declared.fault.ReadFault.{ReadFault}
use Rattle.cvd_cursor.specs.declared.fault.ReadFault.TheVariants.{NoMemory, BadNumber, BadToken, BadShape, Truncated}

-- where one kind of value is refused, another is: it is enough that the pieces stop being the other's where they stop being the one's
pub refused_as : {A B : Type 0} (sA : A → List Mark) (sB : B → List Mark) (old old2 new : Reading) (fault : ReadFault)
    → ((f : ReadFault) → Stops sA old new f → Stops sB old2 new f) → Refused sA old fault new → Refused sB old2 fault new
refused_as sA sB old old2 new NoMemory h r = tt
refused_as sA sB old old2 new BadNumber h r = h BadNumber r
refused_as sA sB old old2 new BadToken h r = h BadToken r
refused_as sA sB old old2 new BadShape h r = h BadShape r
refused_as sA sB old old2 new Truncated h r = h Truncated r

module _ (A : Type 0) (B : A → Type 0) (sA : A → List Mark) (sB : (a : A) → B a → List Mark) where
  abbrev pub both : (a : A) × B a → List Mark
  both p = sA p.0 ++ sB p.0 p.1

  -- both are read
  pub takes_both : (old mid new : Reading) (a : A) (b : B a) → Takes sA old mid a → Takes (sB a) mid new b → Takes both old new (a, b)
  takes_both old mid new a b r s = record {
    same = s.same ∙ r.same;
    read = after.read_both fits A B sA sB old.rest mid.rest new.rest a b r.read s.read;
  }

  -- the first is refused
  pub refused_first : Apart fits sA → ((a : A) → B a) → (old new : Reading) (fault : ReadFault) → Refused sA old fault new → Refused both old fault new
  refused_first apart some old new fault = refused_as sA both old old new fault (λ f h. record {
    same = h.same;
    wanted = h.wanted;
    wrong = after.wrong_first fits A B sA sB apart some old.rest new.rest h.wanted h.wrong;
    kind = h.kind;
  })

  -- the first is read and the second refused
  pub refused_second : (a : A) → ApartAt fits sA a → (old mid new : Reading) (fault : ReadFault) → Takes sA old mid a → Refused (sB a) mid fault new
      → Refused both old fault new
  refused_second a apart old mid new fault r = refused_as (sB a) both mid old new fault (λ f h. record {
    same = h.same ∙ r.same;
    wanted = h.wanted;
    wrong = after.wrong_second fits A B sA sB a apart old.rest mid.rest new.rest h.wanted r.read h.wrong;
    kind = h.kind;
  })

-- values that are spelled as others are
module _ (A B : Type 0) (to : A → B) (from : B → A) (sA : A → List Mark) (sB : B → List Mark) (alike : (b : B) → sB b ≡ sA (from b))
    (alike_to : (a : A) → sB (to a) ≡ sA a) where
  pub takes_as : (old new : Reading) (a : A) → Takes sA old new a → Takes sB old new (to a)
  takes_as old new a r = record { same = r.same; read = read_via fits A B to from sA sB alike alike_to old.rest new.rest a r.read }

  pub refused_by : (old new : Reading) (fault : ReadFault) → Refused sA old fault new → Refused sB old fault new
  refused_by old new fault = refused_as sA sB old old new fault (λ f h. record {
    same = h.same;
    wanted = h.wanted;
    wrong = wrong_via fits A B to from sA sB alike alike_to old.rest new.rest h.wanted h.wrong;
    kind = h.kind;
  })
