-- The copies of statements that the walk comes to in a process, each before those inside it, a loop's body once per pass.
-- As the walk through scopes it may end anywhere; the `Bool` says whether it is whole.
use Rattle.std.specs.Prelude.{◌≡◌, ℕ, Bool, true, false, List, [], ◌∷◌, ◌++◌}
use Rattle.vlog_tree.specs.declared.statement.Stmt.{Stmt}
use Rattle.vlog_tree.specs.declared.statement.StmtKind.TheOpen as o
use Rattle.vlog_tree.specs.Trees.{StmtLayer, stmt_layer}
use Rattle.vlog_tree.specs.Inside.{inner_of}
use Rattle.flat_source_meaning.specs.Environments.{Inside, inside_pass}
use Rattle.flat_source_meaning.specs.ProcessLoops.{ProcessLoop, process_loops, passes}

-- a copy of a statement, and where it stands
pub record Copy : Type 0 where
  pub inside : Inside
  pub stmt : Stmt

-- a statement where it stands
abbrev pub copy : Inside → Stmt → Copy
copy inside a = record { inside = inside; stmt = a }

-- any statement but a loop
abbrev pub is_no_loop : StmtLayer → Bool
is_no_loop (o.For name from test step_name step body) = false
is_no_loop _ = true

mutual
  -- a statement where it stands, and the copies that the walk comes to in it
  pub data IsCopied : Inside → Stmt → List Copy → Bool → Type 0 where
    reached : {inside : Inside} {a : Stmt} → IsCopied inside a (copy inside a ∷ []) false
    plain : {inside : Inside} {a : Stmt} {cs : List Copy} {whole : Bool} → is_no_loop (stmt_layer a) ≡ true
        → AreCopied inside (inner_of (stmt_layer a)) cs whole → IsCopied inside a (copy inside a ∷ cs) whole
    loop : {inside : Inside} {a : Stmt} {l : ProcessLoop} {cs : List Copy} {whole : Bool}
        → process_loops (stmt_layer a) ≡ l ∷ [] → ArePassesCopied inside l (passes inside.env l) cs whole
        → IsCopied inside a (copy inside a ∷ cs) whole

  -- statements in turn
  pub data AreCopied : Inside → List Stmt → List Copy → Bool → Type 0 where
    no_stmts : {inside : Inside} → AreCopied inside [] [] true
    goes_on : {inside : Inside} {a : Stmt} {all : List Stmt} {cs ds : List Copy} {whole : Bool}
        → IsCopied inside a cs true → AreCopied inside all ds whole → AreCopied inside (a ∷ all) (cs ++ ds) whole
    ends_inside : {inside : Inside} {a : Stmt} {all : List Stmt} {cs : List Copy}
        → IsCopied inside a cs false → AreCopied inside (a ∷ all) cs false

  -- the passes of a loop, its variable having these values
  pub data ArePassesCopied : Inside → ProcessLoop → List ℕ → List Copy → Bool → Type 0 where
    over : {inside : Inside} {l : ProcessLoop} → ArePassesCopied inside l [] [] true
    turn : {inside : Inside} {l : ProcessLoop} {n : ℕ} {ns : List ℕ} {cs ds : List Copy} {whole : Bool}
        → IsCopied (inside_pass inside l.name n) l.body cs true → ArePassesCopied inside l ns ds whole
        → ArePassesCopied inside l (n ∷ ns) (cs ++ ds) whole
    ends_in_pass : {inside : Inside} {l : ProcessLoop} {n : ℕ} {ns : List ℕ} {cs : List Copy}
        → IsCopied (inside_pass inside l.name n) l.body cs false → ArePassesCopied inside l (n ∷ ns) cs false
