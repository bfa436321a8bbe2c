use Rattle.std.proofs.Common.{◌≡◌, ◌∙◌, sym, ap, subst, ℕ, ◌<◌, ◌^◌, List, length, map}
use Rattle.std.specs.Prelude.{◌⊎◌, All, Contains}
use Rattle.cov_types.specs.declared.var.Var.{Var}
use Rattle.flow_uses.specs.declared.uses.Uses.{Uses}
use Rattle.cycle_wakes.specs.Readers.{AreReaders, SpansIn}
use Rattle.cycle_wakes.specs.Sources.{IsWritten}
use Rattle.cycle_wakes.specs.Targets.{named_by}
use Rattle.cycle_wakes.proofs.Whole.{in_design, reads_in, sets_in, vars_few, wakes_are}
use Rattle.cycle_wakes.proofs.wakes.Wakes.new.Goals as goal

pub all_readers-requires-clause-order : goal.all_readers-requires-clause-order
all_readers-requires-clause-order c =
    in_design c.args.design.now c.args.order.now c.requires.order (length c.as_slice-uses.result.now)
    (ap (λ (us : List Uses). length us) c.as_slice-uses.ensures.value ∙ c.in_ok-all.ensures.many)

pub all_readers-requires-clause-spans : goal.all_readers-requires-clause-spans
all_readers-requires-clause-spans c =
    let us = c.in_ok-all.all.items in
    subst (λ (used : List Uses). All (λ u. SpansIn (length c.as_slice-vars.result.now) u.reads) used) (sym c.as_slice-uses.ensures.value)
    (subst (λ (vars : List Var). All (λ u. SpansIn (length vars) u.reads) us) (sym c.as_slice-vars.ensures)
    (reads_in c.args.design.now c.args.order.now us c.requires.valid c.requires.order c.in_ok-all.ensures.many c.in_ok-all.ensures.uses))

pub all_sources-requires-clause-few : goal.all_sources-requires-clause-few
all_sources-requires-clause-few c =
    subst (λ (vars : List Var). length vars < 2 ^ 32) (sym c.as_slice-vars.ensures) (vars_few c.args.design.now c.requires.valid)

pub all_sources-requires-clause-order : goal.all_sources-requires-clause-order
all_sources-requires-clause-order c =
    in_design c.args.design.now c.args.order.now c.requires.order (length c.as_slice-uses.result.now)
    (ap (λ (us : List Uses). length us) c.as_slice-uses.ensures.value ∙ c.in_ok-all.ensures.many)

pub all_sources-requires-clause-spans : goal.all_sources-requires-clause-spans
all_sources-requires-clause-spans c =
    let us = c.in_ok-all.all.items in
    subst (λ (used : List Uses). All (λ u. SpansIn (length c.as_slice-vars.result.now) u.sets) used) (sym c.as_slice-uses.ensures.value)
    (subst (λ (vars : List Var). All (λ u. SpansIn (length vars) u.sets) us) (sym c.as_slice-vars.ensures)
    (sets_in c.args.design.now c.args.order.now us c.requires.valid c.requires.order c.in_ok-all.ensures.many c.in_ok-all.ensures.uses))

pub returns : goal.returns
returns c =
    let d = c.args.design.now in
    let order = c.args.order.now in
    let us = c.in_ok-all.all.items in
    let vars_are = c.as_slice-vars.ensures in
    let uses_are = c.as_slice-uses.ensures.value in
    let readers = c.in_ok-readers.readers.items in
    let sources = c.in_ok-sources.sources in
    wakes_are d order us c.requires.valid c.requires.order c.in_ok-all.ensures.many c.in_ok-all.ensures.uses
    (record { readers = readers; targets = c.in_ok-targets.targets.items; sources = sources })
    (subst (λ (used : List Uses). AreReaders (length d.vars) used order (length order) readers) uses_are
    (subst (λ (vars : List Var). AreReaders (length vars) c.as_slice-uses.result.now order (length order) readers) vars_are c.in_ok-readers.ensures))
    (c.in_ok-targets.ensures ∙ ap (λ (used : List Uses). map named_by used) uses_are)
    (subst (λ (used : List Uses). (v : ℕ) → v < length d.vars → Contains sources v ⊎ IsWritten d.vars used order v) uses_are
    (subst (λ (vars : List Var). (v : ℕ) → v < length vars → Contains sources v ⊎ IsWritten vars c.as_slice-uses.result.now order v) vars_are
    c.in_ok-sources.ensures.each))
    (subst (λ (vars : List Var). All (λ v. v < length vars) sources) vars_are c.in_ok-sources.ensures.within)
