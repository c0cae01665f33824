-- One more row of an array, for whoever reads its rows in a loop.
use Rattle.std.proofs.Common.{◌≡◌, ℕ, ◌+◌, ◌<◌, true, List, [], ◌∷◌, ◌++◌, length, get_or, drop, is_some, ◌∙◌, sym, ap, Result}
use Rattle.std.proofs.lemmas.Bool.{and_parts}
use Rattle.std.specs.Prelude.{unwrap_or}
use Rattle.toml.specs.Data.{Members, no_members, as_table}
use Rattle.toml.specs.View.{view, items_view}
use Rattle.toml.specs.declared.value.Value.{Value}
use Rattle.toml.proofs.Views.{items_view-drop}
use Rattle.document_specs.specs.Checks.{each, ◌>>=◌}
use Rattle.document_specs.specs.Documents.{are_tables, tables_of}

-- where what is left are tables, the next is one, and so are those behind it
pub next_is_table : (vs : List Value) (i : ℕ) (d : Value) → i < length vs → are_tables (items_view (drop i vs)) ≡ true
    → (is_some (as_table (view (get_or vs i d))) ≡ true) × (are_tables (items_view (drop (i + 1) vs)) ≡ true)
next_is_table vs i d h e =
    and_parts (is_some (as_table (view (get_or vs i d)))) (are_tables (items_view (drop (i + 1) vs))) (ap are_tables (sym (items_view-drop vs i d h)) ∙ e)

-- what reading the rest gives, by what reading the next gives
pub each_next : {E A : Type 0} (read : List A → Members → Result A E) (before : List A) (vs : List Value) (i : ℕ) (d : Value) → i < length vs
    → each read before (tables_of (items_view (drop i vs)))
    ≡ (read before (unwrap_or (as_table (view (get_or vs i d))) no_members) >>= λ x. each read (before ++ x ∷ []) (tables_of (items_view (drop (i + 1) vs))))
each_next read before vs i d h = ap (λ ds. each read before (tables_of ds)) (items_view-drop vs i d h)
