-- Lists that a loop reads: so many values, those behind a heading, and those up to an end.
use Rattle.std.proofs.Common.{◌≡◌, ℕ, ◌<◌, true, false, List, [], ◌∷◌, ◌++◌, length, Option, refl, ◌∙◌}
use Rattle.cvd_text.specs.Pieces.{Piece, Mark, fits}
use Rattle.spelling_laws.specs.Spelled.{ApartAt, Apart}
use Rattle.spelling_laws.specs.Lists.{Many, many, state_behind, all_marks, many_marks, headed_marks, ended_marks, end_or}
use Rattle.spelling_laws.proofs.Counted as counted
use Rattle.spelling_laws.proofs.Ended as ended
use Rattle.cvd_cursor.specs.Places.{Reading}
use Rattle.cvd_cursor.specs.Reads.{Takes, Refused}
use Rattle.cvd_cursor.specs.declared.fault.ReadFault.{ReadFault}
use Rattle.cvd_cursor.proofs.Composed.{refused_as}
use Rattle.cvd_cursor.proofs.Single.{starts}

module _ (A S : Type 0) (spelled : S → A → List Mark) (next : S → A → S) where
  abbrev marks_all : S → List A → List Mark
  marks_all = all_marks spelled next

  abbrev marks_many : (n : ℕ) → S → Many A n → List Mark
  marks_many = many_marks spelled next

  abbrev behind : S → List A → S
  behind = state_behind spelled next

  -- at first none is read
  pub takes_none : (s : S) (old : Reading) → Takes (marks_all s) old old []
  takes_none s old = record { same = refl; read = counted.read_none fits A S spelled next s old.rest }

  -- one more is read
  pub takes_more : (s : S) (xs : List A) (x : A) (old mid new : Reading) → Takes (marks_all s) old mid xs → Takes (spelled (behind s xs)) mid new x
      → Takes (marks_all s) old new (xs ++ x ∷ [])
  takes_more s xs x old mid new r q = record {
    same = q.same ∙ r.same;
    read = counted.read_more fits A S spelled next s xs x old.rest mid.rest new.rest r.read q.read;
  }

  -- so many are read
  pub takes_many : (n : ℕ) (s : S) (xs : List A) (count : length xs ≡ n) (old new : Reading) → Takes (marks_all s) old new xs
      → Takes (marks_many n s) old new (many n xs count)
  takes_many n s xs count old new r = record { same = r.same; read = counted.read_many fits A S spelled next n s xs count old.rest new.rest r.read }

  -- the next is refused
  pub refused_next : ((s : S) → Apart fits (spelled s)) → A → (n : ℕ) (s : S) (xs : List A) → length xs < n → (old mid new : Reading) (fault : ReadFault)
      → Takes (marks_all s) old mid xs → Refused (spelled (behind s xs)) mid fault new → Refused (marks_many n s) old fault new
  refused_next apart some n s xs few old mid new fault r =
      refused_as (spelled (behind s xs)) (marks_many n s) mid old new fault (λ f h. record {
        same = h.same ∙ r.same;
        wanted = h.wanted;
        wrong = counted.wrong_next fits A S spelled next apart some n s xs few old.rest mid.rest new.rest h.wanted r.read h.wrong;
        kind = h.kind;
      })

  -- ---- behind a heading

  module _ (head : ℕ → List Mark) (start : ℕ → S) where
    abbrev marks_headed : List A → List Mark
    marks_headed = headed_marks spelled next head start

    pub takes_headed : (n : ℕ) (xs : List A) → length xs ≡ n → (old mid new : Reading) → Takes head old mid n → Takes (marks_all (start n)) mid new xs
        → Takes marks_headed old new xs
    takes_headed n xs count old mid new r q = record {
      same = q.same ∙ r.same;
      read = counted.read_headed fits A S spelled next head start n xs count old.rest mid.rest new.rest r.read q.read;
    }

    -- the heading is refused
    pub refused_heading : A → Apart fits head → (old new : Reading) (fault : ReadFault) → Refused head old fault new → Refused marks_headed old fault new
    refused_heading some apart old new fault = refused_as head marks_headed old old new fault (λ f h. record {
      same = h.same;
      wanted = h.wanted;
      wrong = counted.wrong_heading fits A S spelled next head start some apart old.rest new.rest h.wanted h.wrong;
      kind = h.kind;
    })

    -- what comes behind the heading is refused
    pub refused_headed : (n : ℕ) → ApartAt fits head n → (old mid new : Reading) (fault : ReadFault) → Takes head old mid n
        → Refused (marks_many n (start n)) mid fault new → Refused marks_headed old fault new
    refused_headed n apart old mid new fault r = refused_as (marks_many n (start n)) marks_headed mid old new fault (λ f h. record {
      same = h.same ∙ r.same;
      wanted = h.wanted;
      wrong = counted.wrong_headed fits A S spelled next head start n apart old.rest mid.rest new.rest h.wanted r.read h.wrong;
      kind = h.kind;
    })

  -- ---- up to an end

  module _ (ends : S → List Mark) where
    abbrev marks_ended : S → List A → List Mark
    marks_ended = ended_marks spelled next ends

    abbrev choice : S → Option A → List Mark
    choice = end_or spelled ends

    abbrev end_marks : S → Unit {0} → List Mark
    end_marks s u = ends s

    -- the end is read
    pub takes_end : (s : S) (xs : List A) (old mid new : Reading) → Takes (marks_all s) old mid xs → Takes (end_marks (behind s xs)) mid new tt
        → Takes (marks_ended s) old new xs
    takes_end s xs old mid new r q = record {
      same = q.same ∙ r.same;
      read = ended.read_end fits A S spelled next ends s xs old.rest mid.rest new.rest r.read q.read;
    }

    -- neither one more nor the end comes
    pub refused_there : ((s : S) → Apart fits (choice s)) → (s : S) (xs : List A) (old mid new : Reading) (fault : ReadFault) → Takes (marks_all s) old mid xs
        → Refused (choice (behind s xs)) mid fault new → Refused (marks_ended s) old fault new
    refused_there apart s xs old mid new fault r = refused_as (choice (behind s xs)) (marks_ended s) mid old new fault (λ f h. record {
      same = h.same ∙ r.same;
      wanted = h.wanted;
      wrong = ended.wrong_there fits A S spelled next ends apart s xs old.rest mid.rest new.rest h.wanted r.read h.wrong;
      kind = h.kind;
    })

    -- where first marks tell the end from the others
    module _ (first : S → Mark) (after_first : S → List Mark) (end_begins : (s : S) → ends s ≡ first s ∷ after_first s) (head : S → A → Mark)
        (after_head : S → A → List Mark) (begins : (s : S) (x : A) → spelled s x ≡ head s x ∷ after_head s x)
        (told : (s : S) (x : A) (p : Piece) → fits p (first s) ≡ true → fits p (head s x) ≡ false) (apart : (s : S) → Apart fits (spelled s)) where
      choices_apart : (s : S) → Apart fits (choice s)
      choices_apart s = ended.apart_choice fits A S spelled next ends first after_first end_begins head after_head begins told s (apart s)

      -- the end doesn't come, and one more is refused
      pub refused_more : (s : S) (xs : List A) (old mid new : Reading) (fault : ReadFault) → Takes (marks_all s) old mid xs
          → starts mid.rest (first (behind s xs)) ≡ false → Refused (spelled (behind s xs)) mid fault new → Refused (marks_ended s) old fault new
      refused_more s xs old mid new fault r other w =
          refused_there choices_apart s xs old mid new fault r
          (refused_as (spelled (behind s xs)) (choice (behind s xs)) mid mid new fault (λ f h. record {
            same = h.same;
            wanted = h.wanted;
            wrong = ended.wrong_value fits A S spelled next ends first after_first end_begins head after_head begins told (behind s xs) mid.rest new.rest
                h.wanted other h.wrong;
            kind = h.kind;
          }) w)

      -- the end comes, and is refused
      pub refused_end : (s : S) (xs : List A) (old mid new : Reading) (fault : ReadFault) → Takes (marks_all s) old mid xs
          → starts mid.rest (first (behind s xs)) ≡ true → Refused (end_marks (behind s xs)) mid fault new → Refused (marks_ended s) old fault new
      refused_end s xs old mid new fault r here w =
          refused_there choices_apart s xs old mid new fault r
          (refused_as (end_marks (behind s xs)) (choice (behind s xs)) mid mid new fault (λ f h. record {
            same = h.same;
            wanted = h.wanted;
            wrong = ended.wrong_end fits A S spelled next ends first after_first end_begins head after_head begins told (behind s xs) mid.rest new.rest
                h.wanted here h.wrong;
            kind = h.kind;
          }) w)
