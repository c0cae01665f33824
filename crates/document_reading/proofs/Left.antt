-- What is left of an array behind one of its items.
use Rattle.std.proofs.Common.{◌≡◌, ℕ, suc, ◌+◌, ◌<◌, ◌&&◌, nat_le, List, [], ◌∷◌, length, get_or, drop, refl, ap}
use Rattle.document_specs.specs.Documents.{are_tables, are_some_tables, tables_of}
use Rattle.toml.specs.Data.{item}
use Rattle.toml.specs.View.{view, items_view}
use Rattle.toml.specs.declared.value.Value.{Value}
use Rattle.toml.proofs.Views.{items_view-drop}

pub items_left : (vs : List Value) (i : ℕ) (d : Value) → i < length vs → items_view (drop i vs) ≡ item (view (get_or vs i d)) (items_view (drop (i + 1) vs))
items_left = items_view-drop

tables_length : (vs : List Value) → length (tables_of (items_view vs)) ≡ length vs
tables_length [] = refl
tables_length (v ∷ vs) = ap suc (tables_length vs)

pub tables_count : (vs : List Value) (low high : ℕ) → are_some_tables low high (items_view vs) ≡ (are_tables (items_view vs) && (nat_le low (length vs) && nat_le (length vs) high))
tables_count vs low high = ap (λ n. are_tables (items_view vs) && (nat_le low n && nat_le n high)) (tables_length vs)
