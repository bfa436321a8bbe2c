-- Output of which a part is kept.
use Rattle.std.proofs.Common.{◌≡◌, ◌∙◌, sym, ap, refl, ℕ, List, [], ◌++◌, Option, None, Some, Result, Ok, Err, append-nil, append_assoc}
use Rattle.std.specs.Prelude.{OnErr}
use Rattle.cov_port.specs.Causes.{Both}
use Rattle.cov_port.specs.Sinks.{FrontPut, PutsAll, PutsPart}

-- text is kept where nothing is put
pub keeps_all : (text kept : List ℕ) (old new : Option (List ℕ)) → kept ≡ text → new ≡ old → Both (FrontPut text kept) old new
keeps_all text kept None new is same = rw same tt
keeps_all text kept (Some w) new is same = rw same (record { front = []; split = sym is; put = sym (append-nil w) })

-- text is put, and nothing is kept
pub keeps_none : (text kept : List ℕ) (old new : Option (List ℕ)) → kept ≡ [] → Both (PutsAll text) old new → Both (FrontPut text kept) old new
keeps_none text kept None None is put = tt
keeps_none text kept None (Some n) is put = put
keeps_none text kept (Some o) None is put = put
keeps_none text kept (Some o) (Some n) is put =
    record { front = text; split = sym (append-nil text) ∙ ap (λ (l : List ℕ). text ++ l) (sym is); put = put }

-- Of a text this was kept; of that and more this is kept: of both texts together.
behind : (text before more kept o m n : List ℕ) → FrontPut text before o m → FrontPut (before ++ more) kept m n → FrontPut (text ++ more) kept o n
behind text before more kept o m n first next = record {
  front = first.front ++ next.front;
  split = ap (λ (l : List ℕ). l ++ more) first.split ∙ append_assoc first.front before more ∙ ap (λ (l : List ℕ). first.front ++ l) next.split
      ∙ sym (append_assoc first.front next.front kept);
  put = next.put ∙ ap (λ (l : List ℕ). l ++ next.front) first.put ∙ append_assoc o first.front next.front;
}

pub keeps_behind : (text before more kept : List ℕ) (old mid new : Option (List ℕ)) → Both (FrontPut text before) old mid
    → Both (FrontPut (before ++ more) kept) mid new → Both (FrontPut (text ++ more) kept) old new
keeps_behind text before more kept None None None first next = tt
keeps_behind text before more kept None None (Some n) first next = next
keeps_behind text before more kept None (Some m) new first next = absurd first
keeps_behind text before more kept (Some o) None new first next = absurd first
keeps_behind text before more kept (Some o) (Some m) None first next = absurd next
keeps_behind text before more kept (Some o) (Some m) (Some n) first next = behind text before more kept o m n first next

-- Of a text this was kept; a part of that and of more is put, so a part of both texts together is.
pub part_behind : (text before more : List ℕ) (old mid new : Option (List ℕ)) → Both (FrontPut text before) old mid
    → Both (PutsPart (before ++ more)) mid new → Both (PutsPart (text ++ more)) old new
part_behind text before more None None None first part = tt
part_behind text before more None None (Some n) first part = part
part_behind text before more None (Some m) new first part = absurd first
part_behind text before more (Some o) None new first part = absurd first
part_behind text before more (Some o) (Some m) None first part = absurd part
part_behind text before more (Some o) (Some m) (Some n) first part = (part.0, behind text before more part.0 o m n first part.1)

-- Of a text this was kept; that is put, so all of the text is.
pub puts_kept : (text kept : List ℕ) (old mid new : Option (List ℕ)) → Both (FrontPut text kept) old mid → Both (PutsAll kept) mid new
    → Both (PutsAll text) old new
puts_kept text kept None None None first put = tt
puts_kept text kept None None (Some n) first put = put
puts_kept text kept None (Some m) new first put = absurd first
puts_kept text kept (Some o) None new first put = absurd first
puts_kept text kept (Some o) (Some m) None first put = absurd put
puts_kept text kept (Some o) (Some m) (Some n) first put =
    put ∙ ap (λ (l : List ℕ). l ++ kept) first.put ∙ append_assoc o first.front kept ∙ ap (λ (l : List ℕ). o ++ l) (sym first.split)

-- a part of what comes first is a part of all
pub part_first : (before text : List ℕ) (old new : Option (List ℕ)) → Both (PutsPart before) old new → Both (PutsPart (before ++ text)) old new
part_first before text None None part = tt
part_first before text None (Some n) part = part
part_first before text (Some o) None part = part
part_first before text (Some o) (Some n) part = (
  part.0 ++ text,
  record {
    front = part.1.front;
    split = ap (λ (l : List ℕ). l ++ text) part.1.split ∙ append_assoc part.1.front part.0 text;
    put = part.1.put;
  },
)

-- behind all of what comes first, a part of the rest is a part of all
pub part_second : (before text : List ℕ) (old mid new : Option (List ℕ)) → Both (PutsAll before) old mid → Both (PutsPart text) mid new
    → Both (PutsPart (before ++ text)) old new
part_second before text old mid new put part = part_behind before [] text old mid new (keeps_none before [] old mid refl put) part

-- a fact on an error, from another
pub on_error : {T E : Type 0} (r : Result T E) (P Q : Type 0) → (P → Q) → OnErr r P → OnErr r Q
on_error (Ok v) P Q weaker is = tt
on_error (Err e) P Q weaker is = weaker is
