-- The graph of the processes of a design that lead to one another.
use Rattle.std.specs.Prelude.{◌≡◌, ◌≢◌, ℕ, ◌<◌, ◌⊎◌, Bool, true, false, IsTrue, List, Contains, length, slice_index_or}
use Rattle.design_tree.specs.declared.design.Design.{Design}
use Rattle.circuit_run.specs.States.{Bit}
use Rattle.circuit_run.specs.Kinds.{is_assign, settles}
use Rattle.design_meaning.specs.States.{IsBitOf}
use Rattle.design_meaning.specs.Processes.{kind_of}
use Rattle.flow_graph.specs.Graph.{Graph, HasEdge, next_of}
use Rattle.flow_hubs.specs.Adding.{Adds}
use Rattle.flow_hubs.specs.Hubs.{Through}
use Rattle.flow_marks.specs.declared.span.Span.{Span}
use Rattle.flow_marks.specs.Slots.{before, is_in, wide}
use Rattle.flow_uses.specs.declared.uses.Uses.{Uses}
use Rattle.flow_uses.specs.Uses.{no_uses}
use Rattle.flow_edges.specs.declared.links.Links.{Links}
use Rattle.flow_edges.specs.declared.stretch.Stretch.{Stretch}
use Rattle.flow_edges.specs.Stretches.{IsAmong, columns_of}
use Rattle.flow_edges.specs.Owning.{IsOfWord, Settles, slots_of}

-- what a process drives may be read by itself only where it is an assignment
abbrev pub MayLead : Design → ℕ → ℕ → Type 0
MayLead d p q = (p ≢ q) ⊎ IsTrue (is_assign (kind_of d p))

-- an assignment or combinational process drives a bit of a span
pub record DrivesIn (d : Design) (p : ℕ) (s : Span) : Type 0 where
  pub bit : Bit
  pub here : IsBitOf d bit
  pub within : is_in s bit ≡ true
  pub settled : Settles d p bit

-- ---- which processes stand before a reader q: pairs of such a process and of q

-- those of several rows
abbrev pub OfRows : Design → Graph → Stretch → ℕ → ℕ → ℕ → Type 0
OfRows d rows among q i x = (x ≡ q) × MayLead d i x × (at : ℕ) × IsAmong among at × HasEdge rows at i

-- those that drive a bit of a span
abbrev pub OfSpan : Design → Span → ℕ → ℕ → ℕ → Type 0
OfSpan d s q i x = (x ≡ q) × MayLead d i x × DrivesIn d i s

-- ---- what is noted of processes x that read spans s, for which S holds

-- a process stands before them where it drives a bit of such a span in one word
abbrev pub Direct : Design → (ℕ → Span → Type 0) → ℕ → ℕ → Type 0
Direct d S i x = MayLead d i x × (s : Span) × S x s × IsOfWord s × DrivesIn d i s

-- they read the columns of such a span in all words
abbrev pub Reading : Design → (ℕ → Span → Type 0) → ℕ → ℕ → Type 0
Reading d S i x = (s : Span) × S x s × (IsOfWord s → ⊥) × IsAmong (columns_of (slots_of d) s) i

pub record Grows (d : Design) (old new : Links) (S : ℕ → Span → Type 0) : Type 0 where
  pub next : Adds old.next.items new.next.items (Direct d S)
  pub readers : Adds old.readers new.readers (Reading d S)

-- there is a row for each process and for each column
pub record AreSized (d : Design) (l : Links) : Type 0 where
  pub next : length l.next.items ≡ length d.processes
  pub readers : length l.readers ≡ before wide (slots_of d) (length (slots_of d))

-- ---- all processes

-- a process that settles reads a span
abbrev pub ReadsSpan : Design → List Uses → ℕ → Span → Type 0
ReadsSpan d us x s = IsTrue (settles (kind_of d x)) × Contains (slice_index_or us x no_uses).reads s

-- all that they read is noted, and nothing else
pub record AreLinks (d : Design) (us : List Uses) (l : Links) : Type 0 where
  pub sized : AreSized d l
  pub next_only : (p q : ℕ) → HasEdge l.next.items p q → Direct d (ReadsSpan d us) p q
  pub next_there : (p q : ℕ) → Direct d (ReadsSpan d us) p q → HasEdge l.next.items p q
  pub readers_only : (i q : ℕ) → HasEdge l.readers i q → Reading d (ReadsSpan d us) i q
  pub readers_there : (i q : ℕ) → Reading d (ReadsSpan d us) i q → HasEdge l.readers i q

-- each process leads to itself where it is an assignment
pub record AreSelfish (d : Design) (selfish : List Bool) : Type 0 where
  pub many : length selfish ≡ length d.processes
  pub each : (p : ℕ) → p < length d.processes → slice_index_or selfish p false ≡ is_assign (kind_of d p)

-- ---- columns

-- the graph, and the first so many columns, each of whose drivers leads to each of its readers
abbrev pub LeadsBy : Graph → Graph → Graph → List Bool → ℕ → ℕ → ℕ → Type 0
LeadsBy next drivers readers selfish n p q = HasEdge next p q ⊎ ((c : ℕ) × (c < n) × Through (next_of drivers c) (next_of readers c) selfish p q)
