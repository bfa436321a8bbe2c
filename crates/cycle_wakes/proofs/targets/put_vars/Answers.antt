use Rattle.std.proofs.Common.{◌≡◌, ◌∙◌, sym, ap, ℕ, ◌+◌, ◌<◌, List, [], ◌∷◌, ◌++◌, append_assoc, length, map, take}
use Rattle.std.proofs.lemmas.List.{map-append, take_more}
use Rattle.flow_marks.specs.declared.span.Span.{Span}
use Rattle.cycle_wakes.specs.Readers.{no_span, var_at}
use Rattle.cycle_wakes.proofs.targets.put_vars.Goals as goal

put_more : (old : List ℕ) (spans : List Span) (n : ℕ) → n < length spans
    → (old ++ map (λ (s : Span). s.var) (take n spans)) ++ var_at spans n ∷ [] ≡ old ++ map (λ (s : Span). s.var) (take (n + 1) spans)
put_more old spans n lt = append_assoc old (map (λ (s : Span). s.var) (take n spans)) (var_at spans n ∷ [])
    ∙ ap (λ vs. old ++ vs) (sym (ap (map (λ (s : Span). s.var)) (take_more spans n no_span lt)
    ∙ map-append (λ (s : Span). s.var) (take n spans) _))

pub loop-span-preserved : goal.loop-span-preserved
loop-span-preserved c =
    let spans = c.args.spans.now in
    let n = c.loop-span.span-index in
    c.in_ok-push.ensures.ok ∙ ap (λ vs. vs ++ var_at spans n ∷ []) c.loop-span.invariant ∙ put_more c.args.vars.now spans n c.loop-span-test.true
