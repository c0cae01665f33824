-- The nodes of an accepted network file.
use Rattle.std.proofs.Common.{◌≡◌, ℕ, ◌<◌, Bool, true, false, nat_lt, List, [], ◌∷◌, ◌++◌, length, Some, Ok, refl, sym, ap, subst, ◌∙◌, arith, codes}
use Rattle.std.specs.Prelude.{map, not, position}
use Rattle.std.specs.List.{AllByRecursion, position_or_len}
use Rattle.std.proofs.lemmas.Bool.Decides.{nat_tests}
use Rattle.toml.specs.Data.{Data, Members, as_str}
use Rattle.document_specs.specs.Checks.{needs_that, each}
use Rattle.document_specs.specs.Documents.{tables, table_at, identifier}
use Rattle.world_specs.specs.World.{AreDistinct}
use Rattle.world_specs.specs.Plan.{Between}
use Rattle.network_specs.specs.declared.field.NetworkField.TheVariants as field
use Rattle.network_specs.specs.Settings.{refusal}
use Rattle.network_specs.specs.Buses.{Bus, is_bus}
use Rattle.network_specs.specs.Nodes.{Attachment, Node, entries_of, place_of_bus, bus_named, stands_on, new_bus, attachment_at, attachments_of, new_node_name, node_at, node_of, nodes_of}
use Rattle.description_laws.specs.Fit.{AreDifferent}
use Rattle.description_laws.proofs.Steps.{needs_ok, if_some, that_ok, that_is, some_of, tables_ok, bind_ok, each_keeps, each_length, different_more, any_of_map, map_more, all_more}
use Rattle.network_laws.specs.Ranges.{IsNode}

below : {A : Type 0} (p : A → Bool) (xs : List A) (i : ℕ) → position p xs ≡ Some i → i < length xs
below p xs i h =
    let k = if_some (nat_lt (position_or_len p xs) (length xs)) (position_or_len p xs) i h in
    subst (λ n. n < length xs) k.0 (less k.1)
  where
    less : {a b : ℕ} → nat_lt a b ≡ true → a < b
    less e = grind (arith, nat_tests)

pub bus_is_there : (buses : List Bus) (d : Data) (bus : ℕ) → bus_named buses d ≡ Some bus → bus < length buses
bus_is_there buses d bus h = let name = some_of (place_of_bus buses) (as_str d) bus h in below (is_bus name.0) buses bus name.2

not_true : (b : Bool) → not b ≡ true → b ≡ false
not_true true h = absurd (cc)
not_true false h = refl

-- no two numbers are the same
pub distinct_of : (ns : List ℕ) → AreDifferent ns → AreDistinct ns
distinct_of [] h = tt
distinct_of (n ∷ ns) h = (h.0, distinct_of ns h.1)

abbrev on : List Attachment → List ℕ
on attachments = map (λ (a : Attachment). a.bus) attachments

record Attach (buses : ℕ) (attachments : List Attachment) : Type 0 where
  there : AllByRecursion (λ bus. bus < buses) (on attachments)
  different : AreDifferent (on attachments)

one_more : (buses : List Bus) (place : ℕ) (before : List Attachment) (entry : List ℕ × Data) (a : Attachment) → Attach (length buses) before → attachment_at place buses before entry ≡ Ok a → Attach (length buses) (before ++ a ∷ [])
unfolding attachment_at
one_more buses place before entry a all h =
    let k = needs_ok (refusal field.NodeBus place) (new_bus buses before entry.1) _ a h in
    let same : record { terminal = entry.0; bus = k.0 } ≡ a = cc k.2 in
    let bus : k.0 ≡ a.bus = ap (λ (x : Attachment). x.bus) same in
    let new : stands_on before k.0 ≡ false = not_true (stands_on before k.0) (that_ok (λ b. not (stands_on before b)) (bus_named buses entry.1) k.0 k.1) in
    let there : k.0 < length buses = bus_is_there buses entry.1 k.0 (that_is (λ b. not (stands_on before b)) (bus_named buses entry.1) k.0 k.1) in
    let more = map_more (λ (x : Attachment). x.bus) before a in
    record {
      there = subst (AllByRecursion (λ b. b < length buses)) (sym more) (all_more (λ b. b < length buses) (on before) a.bus all.there (subst (λ n. n < length buses) bus there));
      different = subst AreDifferent (sym more) (different_more (on before) a.bus all.different
          (any_of_map (λ (x : Attachment). x.bus) a.bus before ∙ subst (λ n. stands_on before n ≡ false) bus new));
    }

attached : (buses : List Bus) (place : ℕ) (t : Members) (attachments : List Attachment) → attachments_of place buses t ≡ Ok attachments → Attach (length buses) attachments
unfolding attachments_of
attached buses place t attachments h =
    let ms = needs_ok (refusal field.NodeBus place) (table_at (codes "bus") t) _ attachments h in
    let some = bind_ok (needs_that (refusal field.NodeBus place) (nat_lt 0 (length (entries_of ms.0)))) _ attachments ms.2 in
    each_keeps (Attach (length buses)) (attachment_at place buses) (one_more buses place) [] (entries_of ms.0) attachments (record { there = tt; different = tt }) some.2

node_ranged : (buses : List Bus) (place : ℕ) (before : List Node) (t : Members) (n : Node) → node_at place buses before t ≡ Ok n → IsNode (length buses) n
unfolding node_at
node_ranged buses place before t n h =
    let name = needs_ok (refusal field.NodeName place) (new_node_name before t) _ n h in
    let fmu = needs_ok (refusal field.NodeFmu place) (identifier (codes "fmu") t) _ n name.2 in
    let attachments = bind_ok (attachments_of place buses t) _ n fmu.2 in
    let same : record { name = name.0; fmu = fmu.0; attachments = attachments.0 } ≡ n = cc attachments.2 in
    let k = attached buses place t attachments.0 attachments.1 in
    subst (IsNode (length buses)) same (record { there = k.there; distinct = distinct_of (on attachments.0) k.different })

pub nodes_ranged : (buses : List Bus) (t : Members) (ns : List Node) → nodes_of buses t ≡ Ok ns → Between 1 32 (length ns) × AllByRecursion (IsNode (length buses)) ns
unfolding nodes_of
nodes_ranged buses t ns h =
    let rows = needs_ok (refusal field.Node 0) (tables 1 32 (codes "node") t) (each (node_of buses) []) ns h in
    let many = tables_ok 1 32 (codes "node") t rows.0 rows.1 in
    let same = each_length (node_of buses) [] rows.0 ns rows.2 in (
      (omega (arith, many.0, same), omega (arith, many.1, same)),
      each_keeps (AllByRecursion (IsNode (length buses))) (node_of buses)
          (λ before row n all is. all_more (IsNode (length buses)) before n all (node_ranged buses (length before) before row n is)) [] rows.0 ns tt rows.2,
    )
