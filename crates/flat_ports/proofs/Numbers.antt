-- Numbers of ports, one port more.
use Rattle.std.proofs.Common.{◌≡◌, ◌∙◌, sym, ap, ap₂, ℕ, ◌+◌, ◌<◌, List, [], ◌∷◌, ◌++◌, length, take, get_or, Option}
use Rattle.std.specs.List.{filter_map}
use Rattle.std.proofs.lemmas.List.{take_more}
use Rattle.std.proofs.lemmas.List.Elements.{filter_map-append}
use Rattle.vlog_tree.specs.declared.module.Port.{Port}

pub more : (f : Port → Option ℕ) (ps : List Port) (i : ℕ) (p : Port) (all after : List ℕ) (n : Option ℕ) → i < length ps → p ≡ get_or ps i p
    → all ≡ filter_map f (take i ps) → n ≡ f p → after ≡ all ++ filter_map (λ (m : Option ℕ). m) (n ∷ []) → after ≡ filter_map f (take (i + 1) ps)
more f ps i p all after n lt is h k e =
    e ∙ ap₂ (λ l m. l ++ filter_map (λ (x : Option ℕ). x) (m ∷ [])) h k ∙ sym (filter_map-append f (take i ps) (p ∷ []))
    ∙ ap (filter_map f) (sym (take_more ps i p lt ∙ ap (λ (y : Port). take i ps ++ y ∷ []) (sym is)))
