-- How many rows an array has, and how many entries a table.
use Rattle.std.proofs.Common.{◌≡◌, ℕ, suc, ◌≤◌, Bool, true, false, nat_le, List, [], ◌∷◌, length, Option, Some, None, refl, sym, ap, subst, arith}
use Rattle.std.specs.Prelude.{option_and_then, if◌then◌else◌}
use Rattle.std.proofs.lemmas.Bool.{and_parts}
use Rattle.std.proofs.lemmas.Bool.Decides.{nat_tests}
use Rattle.toml.specs.Data.{Data, Items, Members, get_member, as_array}
use Rattle.toml.specs.View.{items_view, members_view}
use Rattle.toml.proofs.Views.{Entry}
use Rattle.toml.specs.declared.value.Value.{Value}
use Rattle.network_specs.specs.Nodes.{entries_of}
use Rattle.document_specs.specs.Documents.{tables, tables_in, some_tables, are_some_tables, are_tables, tables_of, is_within}

same_length : (vs : List Value) → length (tables_of (items_view vs)) ≡ length vs
same_length [] = refl
same_length (v ∷ vs) = ap suc (same_length vs)

in_range : (low high n : ℕ) → is_within low high n ≡ true → n ≤ high
in_range low high n h = let k = (and_parts (nat_le low n) (nat_le n high) h).1 in grind (arith, nat_tests)

if_some : {A : Type 0} (b : Bool) (a x : A) → (if b then Some a else None) ≡ Some x → (a ≡ x) × (b ≡ true)
if_some true a x h = (cc, refl)
if_some false a x h = absurd (cc)

in_items : (low high : ℕ) (ds : Items) (rows : List Members) → some_tables low high ds ≡ Some rows → length rows ≤ high
in_items low high ds rows h =
    let k = if_some (are_some_tables low high ds) (tables_of ds) rows h in
    subst (λ xs. length xs ≤ high) k.0 (in_range low high (length (tables_of ds)) (and_parts (are_tables ds) (is_within low high (length (tables_of ds))) k.1).1)

in_value : (low high : ℕ) (o : Option Items) (rows : List Members) → option_and_then (some_tables low high) o ≡ Some rows → length rows ≤ high
in_value low high None rows h = absurd (cc)
in_value low high (Some ds) rows h = in_items low high ds rows h

at_key : (low high : ℕ) (o : Option Data) (rows : List Members) → option_and_then (tables_in low high) o ≡ Some rows → length rows ≤ high
at_key low high None rows h = absurd (cc)
at_key low high (Some d) rows h = in_value low high (as_array d) rows h

pub few_rows : (low high : ℕ) (key : List ℕ) (t : Members) (vs : List Value) → Some (tables_of (items_view vs)) ≡ tables low high key t → length vs ≤ high
few_rows low high key t vs h = subst (λ n. n ≤ high) (same_length vs) (at_key low high (get_member key t) (tables_of (items_view vs)) (sym h))

pub entry_count : (es : List Entry) → length (entries_of (members_view es)) ≡ length es
entry_count [] = refl
entry_count (e ∷ es) = ap suc (entry_count es)
