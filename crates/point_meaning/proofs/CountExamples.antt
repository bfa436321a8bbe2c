-- Occurrences and counts of a few runs, by computation.
use Rattle.std.specs.Prelude.{◌≡◌, ℕ, List, [], ◌∷◌, ◌++◌, ◌^◌, replicate, codes, refl}
use Rattle.cov_types.specs.declared.place.Place.{Place}
use Rattle.cov_points.specs.declared.point.PointKind.TheVariants as kind
use Rattle.source_meaning.specs.Events as event
use Rattle.point_meaning.specs.Arms.{ArmName, block, case, if_arm, else_arm, cover, kind_of, comment_of}
use Rattle.source_meaning.specs.Events.{Event}
use Rattle.circuit_run.specs.States.{VarWords}
use Rattle.point_meaning.specs.Source.{Source, Scope, Variable}
use Rattle.point_meaning.specs.Candidates.{Identity}
use Rattle.point_meaning.specs.Occurrences.{Counted, occurrences}
use Rattle.circuit_run.specs.Counting.{at_bits}
use Rattle.point_meaning.proofs.PragmaExamples.{at, options, scalar}

-- a source without files, of these scopes and variables
abbrev pub source : List Scope → List Variable → Source
source scopes variables = record { files = []; scopes = scopes; variables = variables; copies = [] }

abbrev pub scope : List ℕ → List ℕ → Scope
scope path module_text = record { path = path; module_text = module_text }

-- what is entered with an arm of this name
abbrev pub entered : ArmName → event.Arm
entered block = event.body
entered case = event.case_arm
entered if_arm = event.yes_arm
entered else_arm = event.no_arm
entered (cover comment) = event.covered

abbrev pub enters : ℕ → Place → ArmName → Event
enters n place name = record { scope = n; place = place; arm = entered name }

abbrev pub arm_point : List ℕ → Place → ArmName → Identity
arm_point module_text place name = record { kind = kind_of name; module_text = module_text; place = place; comment = comment_of name }

abbrev pub bit_point : List ℕ → Place → List ℕ → Identity
bit_point module_text place comment = record { kind = kind.Toggle; module_text = module_text; place = place; comment = comment }

-- ---- a loop of four passes around an `if`: its copies have one place; a is 7

abbrev loop_run : Counted
loop_run = record {
  trace = enters 0 (at 1 61) block ∷ enters 0 (at 1 115) if_arm ∷ enters 0 (at 1 115) if_arm ∷ enters 0 (at 1 115) if_arm ∷ enters 0 (at 1 115) else_arm ∷ [];
  settled = [];
}

abbrev loop_source : Source
loop_source = source (scope (codes "l") (codes "l") ∷ []) []

loop_yes : occurrences loop_source (options 256) (arm_point (codes "l") (at 1 115) if_arm) loop_run ≡ 3
loop_yes = refl

loop_no : occurrences loop_source (options 256) (arm_point (codes "l") (at 1 115) else_arm) loop_run ≡ 1
loop_no = refl

-- ---- two instances with one module text and one with another, five cycles

abbrev three_scopes : Source
three_scopes = source
    (scope (codes "top") (codes "top") ∷ scope (codes "top.u1") (codes "s#(W=32'sh1)")
    ∷ scope (codes "top.u2") (codes "s#(W=32'sh1)") ∷ scope (codes "top.u3") (codes "s#(W=32'sh2)") ∷ []) []

abbrev one_cycle : List Event
one_cycle = enters 1 (at 1 42) block ∷ enters 2 (at 1 42) block ∷ enters 3 (at 1 42) block ∷ []

abbrev five_cycles : Counted
five_cycles = record { trace = one_cycle ++ one_cycle ++ one_cycle ++ one_cycle ++ one_cycle; settled = [] }

both_instances : occurrences three_scopes (options 256) (arm_point (codes "s#(W=32'sh1)") (at 1 42) block) five_cycles ≡ 10
both_instances = refl

the_other : occurrences three_scopes (options 256) (arm_point (codes "s#(W=32'sh2)") (at 1 42) block) five_cycles ≡ 5
the_other = refl

-- ---- a combinational process runs once in each cycle, also where nothing changes; a bit that keeps its value has no toggle

abbrev one_bit : ℕ → VarWords
one_bit n = record { width = 1; words = n ∷ [] }

abbrev idle_run : Counted
idle_run = record {
  trace = replicate 100 (enters 0 (at 1 34) block) ++ replicate 100 (enters 0 (at 1 44) if_arm);
  settled = replicate 100 (one_bit 1 ∷ one_bit 1 ∷ []);
}

abbrev idle_source : Source
idle_source = source (scope (codes "k") (codes "k") ∷ []) (scalar (codes "a") (at 1 17) ∷ scalar (codes "y") (at 1 31) ∷ [])

idle_block : occurrences idle_source (options 256) (arm_point (codes "k") (at 1 34) block) idle_run ≡ 100
idle_block = refl

idle_bit : occurrences idle_source (options 256) (bit_point (codes "k") (at 1 17) (codes "a")) idle_run ≡ 0
idle_bit = refl

-- ---- a cover property and an input that is 1, 0, 1

abbrev pub cover_run : Counted
cover_run = record {
  trace = enters 0 (at 1 39) (cover (codes "cp")) ∷ enters 0 (at 1 39) (cover (codes "cp")) ∷ [];
  settled = (one_bit 1 ∷ []) ∷ (one_bit 0 ∷ []) ∷ (one_bit 1 ∷ []) ∷ [];
}

abbrev pub cover_source : Source
cover_source = source (scope (codes "u") (codes "u") ∷ []) (scalar (codes "a") (at 1 28) ∷ [])

covered : occurrences cover_source (options 256) (arm_point (codes "u") (at 1 39) (cover (codes "cp"))) cover_run ≡ 2
covered = refl

toggled : occurrences cover_source (options 256) (bit_point (codes "u") (at 1 28) (codes "a")) cover_run ≡ 2
toggled = refl

-- ---- counts in two bits: the greatest is 3

eight_in_two_bits : at_bits 2 8 ≡ 3
eight_in_two_bits = refl

two_in_two_bits : at_bits 2 2 ≡ 2
two_in_two_bits = refl

many_in_64_bits : at_bits 64 (2 ^ 64) ≡ 18446744073709551615
many_in_64_bits = refl
