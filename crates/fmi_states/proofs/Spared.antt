-- Calls in a row leave what each of them leaves.
use Rattle.std.proofs.Common.{◌≡◌, ℕ, List, Option, subst, ◌∙◌}
use Rattle.fmi_states.specs.Parts.{Among, Spares, Shares, AreDisjoint}

-- two calls that each leave every part but the unit's own leave every part but the unit's own
pub spares_on : {G : Type 0} {part : ℕ → G → Option (List ℕ)} {own mid : List ℕ} {s t u : G}
    → Spares part own s t → mid ≡ own → Spares part mid t u → Spares part own s u
spares_on first same second = record {
  each = λ p others.
      second.each p (λ among. others (subst (Among p) same among)) ∙ first.each p others;
}

-- what a unit leaves, every unit with other parts has as it was
pub spares_shares : {G : Type 0} {part : ℕ → G → Option (List ℕ)} {own other : List ℕ} {s t : G}
    → Spares part own s t → AreDisjoint own other → Shares part other s t
spares_shares spares disjoint = λ p theirs. spares.each p (λ ours. disjoint.each p ours theirs)
