-- The item of an array of one.
use Rattle.std.proofs.Common.{◌≡◌, List, [], ◌∷◌, length, get_or, Some, None, refl, arith}
use Rattle.toml.specs.View.{view, items_view}
use Rattle.toml.specs.declared.value.Value.{Value}
use Rattle.document_specs.specs.Documents.{only}

pub only_one : (vs : List Value) (d : Value) → length vs ≡ 1 → only (items_view vs) ≡ Some (view (get_or vs 0 d))
only_one [] d h = absurd (omega arith)
only_one (v ∷ []) d h = refl
only_one (v ∷ w ∷ vs) d h = absurd (omega arith)

pub only_none : (vs : List Value) → (length vs ≡ 1 → ⊥) → only (items_view vs) ≡ None
only_none [] h = refl
only_none (v ∷ []) h = absurd (h refl)
only_none (v ∷ w ∷ vs) h = refl
