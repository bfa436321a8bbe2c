-- What a command leaves that stops while it reads.
use Rattle.std.proofs.Common.{◌≡◌, ℕ, List, refl, ap, subst, inl, true, false, Bool, Option}
use Rattle.std.specs.Prelude.{IfSome}
use Rattle.cov_port.specs.Files.{Names, FileFaults}
use Rattle.command_ending.specs.Answer.{Answer, refused_with, absent}
use Rattle.command_ending.specs.Ending.{line_at, status_at}
use Rattle.command_ending.specs.Leaves.{no_such_name, open_failed, read_failed, IsLeft, Leaves, StopsBefore}
use Rattle.command_ending.specs.Promise.{Promise, IsLineOf}
use Rattle.command_ending.specs.Stops.{is_refusal, IsRefusal, without_memory, refused, Stops, wants_memory, lacks_name, cannot_open, cannot_read, refuses}
use Rattle.command_ending.specs.World.{IsUntouched, World, world}
use Rattle.command_ending.specs.declared.ending.Ending.{Ending}
use Rattle.command_ending.specs.declared.status.Status.{Status}
use Rattle.command_ending.specs.declared.status.Status.TheVariants.{Done, BadWords, BadDesign, BadStimulus, BadData, Fault, Limit, NoMemory, Stopped}
use Rattle.command_ending.proofs.PutLemmas.{and_told, if_told, if_told_both, puts_none, stores_none}

no_fault : (status : Status) → is_refusal status ≡ true → status ≡ Fault → ⊥
no_fault status is same = let other : is_refusal status ≡ false = ap is_refusal same in absurd (cc)

no_want : (status : Status) → is_refusal status ≡ true → status ≡ NoMemory → ⊥
no_want status is same = let other : is_refusal status ≡ false = ap is_refusal same in absurd (cc)

line_of : (R : Status → List ℕ → Type 0) (status : Status) (line : List ℕ) → is_refusal status ≡ true → R status line → IsLineOf R status line
line_of R Done line is r = absurd (cc)
line_of R BadWords line is r = r
line_of R BadDesign line is r = r
line_of R BadStimulus line is r = r
line_of R BadData line is r = r
line_of R Fault line is r = tt
line_of R Limit line is r = r
line_of R NoMemory line is r = absurd (cc)
line_of R Stopped line is r = r

stops_before : (p : Promise) (early : Bool) (old new : World) → IsUntouched old new → StopsBefore early p old new
stops_before p true old new same = inl same
stops_before p false old new same = same

-- an answer that is a refusal, where nothing has changed
left_refused : (p : Promise) (status : Status) (said : List ℕ) (told new : Option Names) (before now : FileFaults) (written : Option (List ℕ))
    (put_faults : ℕ) → new ≡ told
    → IfSome told (λ names. p.Answers names (refused_with status said))
    → IfSome told (λ names. (answer : Answer) × p.Answers names answer × IsLeft answer said (world told before written put_faults)
    (world new now written put_faults) status)
left_refused p status said told new before now written put_faults same is =
    if_told told _ _ (λ names one.
    (refused_with status said, one, record { status = refl; stores = stores_none told new same; output = puts_none written written refl; line = refl })) is

-- what a command leaves that stops before it has put or stored anything
pub stopping_leaves : (p : Promise) (told new : Option Names) (before now : FileFaults) (written : Option (List ℕ)) (put_faults : ℕ) (e : Ending) → new ≡ told
    → Stops p told before now e → Leaves p (line_at e) (world told before written put_faults) (world new now written put_faults) (status_at e)
stopping_leaves p told new before now written put_faults e same (wants_memory quiet) = record {
  answer = λ no_fault_is no_want_is. absurd (no_want_is refl);
  unharmed = λ other. record { files = quiet; out = refl };
  fault = λ never. absurd (cc);
  untouched = λ first. record { held = same; written = refl };
  line = refl;
}
stopping_leaves p told new before now written put_faults e same (lacks_name name line reads is quiet lacking) = record {
  answer = λ other. absurd (other refl);
  unharmed = λ other. absurd (other refl);
  fault = λ so. no_such_name name reads is (record { files = quiet; out = refl }) (record { held = same; written = refl }) lacking;
  untouched = λ first. record { held = same; written = refl };
  line = tt;
}
stopping_leaves p told new before now written put_faults e same (cannot_open name line reads is rose) = record {
  answer = λ other. absurd (other refl);
  unharmed = λ other. absurd (other refl);
  fault = λ so. open_failed name reads is rose refl (stops_before p p.prints_early _ _ (record { held = same; written = refl }));
  untouched = λ first. record { held = same; written = refl };
  line = tt;
}
stopping_leaves p told new before now written put_faults e same (cannot_read name line reads is rose) = record {
  answer = λ other. absurd (other refl);
  unharmed = λ other. absurd (other refl);
  fault = λ so. read_failed name reads is rose refl (stops_before p p.prints_early _ _ (record { held = same; written = refl }));
  untouched = λ first. record { held = same; written = refl };
  line = tt;
}
stopping_leaves p told new before now written put_faults e same (refuses status line refusal may quiet is) = record {
  answer = λ no_fault_is no_want_is. left_refused p status line told new before now written put_faults same is;
  unharmed = λ other. record { files = quiet; out = refl };
  fault = λ so. absurd (no_fault status refusal so);
  untouched = λ first. record { held = same; written = refl };
  line = line_of p.Refuses status line refusal may;
}

-- the same of one that prints when all is read
pub stops_leave : (p : Promise) (told new : Option Names) (before now : FileFaults) (written : Option (List ℕ)) (put_faults : ℕ) (e : Ending)
    → p.prints_early ≡ false → new ≡ told
    → Stops p told before now e → Leaves p (line_at e) (world told before written put_faults) (world new now written put_faults) (status_at e)
stops_leave p told new before now written put_faults e late same is = stopping_leaves p told new before now written put_faults e same is

-- a command that does a part of another stops for reasons of the other
pub stops_weaker : (p q : Promise) (told : Option Names) (before now : FileFaults) (e : Ending) → ((name : List ℕ) → p.Reads name → q.Reads name)
    → ((status : Status) (line : List ℕ) → p.Refuses status line → q.Refuses status line)
    → IfSome told (λ held. (answer : Answer) → p.Answers held answer → q.Answers held answer) → Stops p told before now e → Stops q told before now e
stops_weaker p q told before now e reads refuse answers (wants_memory quiet) = wants_memory quiet
stops_weaker p q told before now e reads refuse answers (lacks_name name line is_read is quiet lacking) =
    lacks_name name line (reads name is_read) is quiet
    (and_told told _ _ (if_told told (λ held. (answer : Answer) → p.Answers held answer
    → q.Answers held answer) _ (λ held all. all (absent name)) answers) lacking)
stops_weaker p q told before now e reads refuse answers (cannot_open name line is_read is rose) = cannot_open name line (reads name is_read) is rose
stops_weaker p q told before now e reads refuse answers (cannot_read name line is_read is rose) = cannot_read name line (reads name is_read) is rose
stops_weaker p q told before now e reads refuse answers (refuses status line refusal may quiet is) =
    refuses status line refusal (refuse status line may) quiet
    (if_told_both told (λ held. (answer : Answer) → p.Answers held answer
    → q.Answers held answer) _ _ (λ held all one. all (refused_with status line) one) answers is)

-- the same behind calls that changed no number
pub stops_behind : (p : Promise) (told : Option Names) (first before now : FileFaults) (e : Ending) → before ≡ first → Stops p told before now e
    → Stops p told first now e
stops_behind p told first before now e same is = subst (λ (f : FileFaults). Stops p told f now e) same is

-- a refusal for a reason is one for what follows from it
pub refusal_weaker : (P Q : Answer → Type 0) (e : Ending) → ((a : Answer) → P a → Q a) → IsRefusal P e → IsRefusal Q e
refusal_weaker P Q e weaker without_memory = without_memory
refusal_weaker P Q e weaker (refused status line refusal is) = refused status line refusal (weaker _ is)

-- a command stops with a refusal that it promises
pub refusal_stops : (p : Promise) (Is : Answer → Type 0) (told : Option Names) (before now : FileFaults) (e : Ending) → now ≡ before
    → ((status : Status) (line : List ℕ) → Is (refused_with status line) → p.Refuses status line)
    → IfSome told (λ held. (answer : Answer) → Is answer → p.Answers held answer) → IsRefusal Is e → Stops p told before now e
refusal_stops p Is told before now e quiet may answers without_memory = wants_memory quiet
refusal_stops p Is told before now e quiet may answers (refused status line refusal is) =
    refuses status line refusal (may status line is) quiet
    (if_told told (λ held. (answer : Answer) → Is answer → p.Answers held answer) _ (λ held all. all (refused_with status line) is) answers)
