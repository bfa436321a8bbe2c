-- What is wrong with a text that is no design's (docs/formats.md, "Design files": faults).
use Rattle.std.specs.Prelude.{◌≡◌, ℕ, zero, suc, ◌+◌, ◌==◌, Bool, true, false, nat_eq, List, [], ◌∷◌, ◌++◌, codes, length, filter, if◌then◌else◌}
use Rattle.std.specs.List.{starts_with}
use Rattle.design_tree.specs.declared.design.Design.{Design}
use Rattle.design_tree.specs.declared.instrumented.Instrumented.{Instrumented}
use Rattle.cvd_text.specs.Tokens.{is_numeric}
use Rattle.cvd_text.specs.Pieces.{Piece, a_word, feed, Mark, token, line_end, fits, all_fit, pieces_of, design_marks}
use Rattle.cvd_text.specs.Spelling.{spelling, AllStand, Cvd}

-- Behind these pieces, which the text of some design begins with, this mark has to come next.
pub record Awaits (given : List Piece) (next : Mark) : Type 0 where
  pub design : Instrumented
  pub first : List Mark
  pub more : List Mark
  pub split : design_marks design ≡ first ++ next ∷ more
  pub fit : all_fit given first ≡ true

-- This is the first wrong piece: up to it some design's text goes on so, and with it none does.
pub record IsWrong (pieces given : List Piece) (wrong : Piece) (wanted : Mark) : Type 0 where
  pub rest : List Piece
  pub split : pieces ≡ given ++ wrong ∷ rest
  pub awaits : Awaits given wanted
  pub none : (other : Mark) → Awaits given other → fits wrong other ≡ false

abbrev pub is_end : Mark → Bool
is_end (token t) = false
is_end (line_end stands) = true

-- Where a line ends that may end there, it is its end that is wrong. Behind the words of a key both its end and further words may come.
abbrev pub EndsFirst : List Piece → Piece → Mark → Type 0
EndsFirst given (a_word text) wanted = Unit {0}
EndsFirst given feed wanted = (stands : Bool) → Awaits given (line_end stands) → is_end wanted ≡ true

abbrev pub is_feed : Piece → Bool
is_feed (a_word text) = false
is_feed feed = true

-- where the line behind so many line feeds begins
abbrev pub place_behind : ℕ → List ℕ → ℕ
place_behind zero text = 0
place_behind (suc feeds) [] = 0
place_behind (suc feeds) (b ∷ bs) = 1 + (if b == 10 then place_behind feeds bs else place_behind (suc feeds) bs)

-- where the line begins that these pieces lead into
abbrev pub line_start : List ℕ → List Piece → ℕ
line_start text given = place_behind (length (filter is_feed given)) text

-- a fault, with its place in bytes
pub data Flaw (FlowFault : Type 0) : Type 0 where
  not_cvd : ℕ → Flaw FlowFault
  version : ℕ → Flaw FlowFault
  bad_token : ℕ → Flaw FlowFault
  bad_number : ℕ → Flaw FlowFault
  bad_shape : ℕ → Flaw FlowFault
  truncated : ℕ → Flaw FlowFault
  trailing : ℕ → Flaw FlowFault
  invalid : FlowFault → Flaw FlowFault

abbrev pub has_name : List ℕ → Bool
has_name text = starts_with nat_eq text (codes "CVD ")

-- whether a text begins with the right first line
abbrev pub has_first_line : List ℕ → Bool
has_first_line text = starts_with nat_eq text (codes "CVD 1" ++ 10 ∷ [])

module _ (FlowFault : Type 0) (IsFlowFault : Design → FlowFault → Type 0) where
  -- a wrong piece is a bad number where a number must stand; where a line ends that may end there, its conditions are broken
  abbrev pub flaw_at : Piece → Mark → ℕ → Flaw FlowFault
  flaw_at (a_word text) (token t) place = if is_numeric t then bad_number place else bad_token place
  flaw_at (a_word text) (line_end stands) place = bad_token place
  flaw_at feed (token t) place = if is_numeric t then bad_number place else bad_token place
  flaw_at feed (line_end stands) place = bad_shape place

  -- The fault of a text.
  pub data IsFlaw (text : List ℕ) : Flaw FlowFault → Type 0 where
    -- The first line is tested in this order.
    other_text : has_name text ≡ false → IsFlaw text (not_cvd 0)
    no_line : has_name text ≡ true → pieces_of text ≡ [] → IsFlaw text (truncated (length text))
    other_version : (p : Piece) (ps : List Piece) → has_name text ≡ true → pieces_of text ≡ p ∷ ps → has_first_line text ≡ false → IsFlaw text (version 0)
    -- The first wrong piece of the lines that line feeds end.
    wrong_piece : (given : List Piece) (wrong : Piece) (wanted : Mark) → has_first_line text ≡ true
        → IsWrong (pieces_of text) given wrong wanted → EndsFirst given wrong wanted → IsFlaw text (flaw_at wrong wanted (line_start text given))
    -- All of them stand, and more must come.
    cut_off : (wanted : Mark) → has_first_line text ≡ true → Awaits (pieces_of text) wanted → IsFlaw text (truncated (length text))
    -- Bytes follow a design's text.
    goes_on : (x : Instrumented) (byte : ℕ) (more : List ℕ) → AllStand x → text ≡ spelling x ++ byte ∷ more → IsFlaw text (trailing (length (spelling x)))
    -- It is a design's text, but the design breaks the flow conditions.
    breaks_flow : (x : Instrumented) (fault : FlowFault) → Cvd x text → IsFlowFault x.design fault → IsFlaw text (invalid fault)
