-- The flaws of the values of an instance.
use Rattle.std.proofs.Common.{◌≡◌, ◌∙◌, sym, ap, refl, Bool, true, false, cond, ◌||◌, List, [], ◌∷◌, map, Option, Some, None, Result, Ok, Err}
use Rattle.std.specs.List.{list_any}
use Rattle.vlog_tree.specs.declared.expression.Expr.{Expr}
use Rattle.scope_meaning.specs.Constants.{Names, Wrong, constants, read, any_wrong, option_of}
use Rattle.scope_meaning.specs.Wanted.{want}
use Rattle.elab_constants.specs.declared.fault.ConstantFault.{ConstantFault}
use Rattle.elab_constants.specs.declared.fault.ConstantFault.TheVariants as reading
use Rattle.elab_constants.specs.Faults.{first_wrong}
use Rattle.elab_constants.specs.Reads.{IsFault}
use Rattle.elab_faults.specs.Flaws.{first_flaw, flaws_in, wrong_in, IsFlaw, of_constant}
use Rattle.elab_faults.proofs.Flaws.{first}
use Rattle.elab_faults.proofs.Single.{or_false}

names-wrong : (known : Names) (es : List Expr) → list_any (λ w. w.name) (map wrong_in (map (want known) es))
    ≡ (any_wrong (map (read (constants known)) es)).name
names-wrong known [] = refl
names-wrong known (e ∷ es) = ap (λ b. (read (constants known) e).wrong.name || b) (names-wrong known es)

selects-wrong : (known : Names) (es : List Expr) → list_any (λ w. w.select) (map wrong_in (map (want known) es))
    ≡ (any_wrong (map (read (constants known)) es)).select
selects-wrong known [] = refl
selects-wrong known (e ∷ es) = ap (λ b. (read (constants known) e).wrong.select || b) (selects-wrong known es)

sizes-wrong : (known : Names) (es : List Expr) → list_any (λ w. w.wide) (map wrong_in (map (want known) es))
    ≡ (any_wrong (map (read (constants known)) es)).wide
sizes-wrong known [] = refl
sizes-wrong known (e ∷ es) = ap (λ b. (read (constants known) e).wrong.wide || b) (sizes-wrong known es)

by_flags : (n s w : Bool) → first n s false w
    ≡ option_of of_constant (cond n (Some reading.NotConstant) (cond s (Some reading.BadSelect) (cond w (Some reading.WidthPast128) None)))
by_flags true s w = refl
by_flags false true w = refl
by_flags false false true = refl
by_flags false false false = refl

pub values-first : (known : Names) (es : List Expr)
    → first_flaw (flaws_in (map (want known) es)) ≡ option_of of_constant (first_wrong (any_wrong (map (read (constants known)) es)))
values-first known es =
    let w = any_wrong (map (read (constants known)) es) in
    let ws = map wrong_in (map (want known) es) in
    ap (λ b. first b (list_any (λ w. w.select) ws) false (list_any (λ w. w.wide) ws || false)) (names-wrong known es)
    ∙ ap (λ b. first w.name b false (list_any (λ w. w.wide) ws || false)) (selects-wrong known es)
    ∙ ap (λ b. first w.name w.select false b) (or_false (list_any (λ w. w.wide) ws) ∙ sizes-wrong known es)
    ∙ by_flags w.name w.select w.wide

pub values-err : (known : Names) (es : List Expr) (f : ConstantFault) → IsFault (any_wrong (map (read (constants known)) es)) f
    → IsFlaw (flaws_in (map (want known) es)) (of_constant f)
values-err known es reading.NoMemory h = tt
values-err known es reading.NotConstant h = values-first known es ∙ ap (option_of of_constant) h
values-err known es reading.BadSelect h = values-first known es ∙ ap (option_of of_constant) h
values-err known es reading.WidthPast128 h = values-first known es ∙ ap (option_of of_constant) h
