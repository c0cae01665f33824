-- Network files that tell the same are read alike.
use Rattle.std.proofs.Common.{◌≡◌, ℕ, ◌≤◌, true, nat_le, List, length, Some, refl, sym, ◌∙◌, arith, inl, inr, codes}
use Rattle.std.proofs.lemmas.Bool.Decides.{nat_tests}
use Rattle.toml.specs.Data.{Members}
use Rattle.document_specs.specs.Documents.{document}
use Rattle.network_specs.specs.declared.field.NetworkField.TheVariants as field
use Rattle.network_specs.specs.Settings.{refusal, settings_of}
use Rattle.network_specs.specs.Buses.{Bus, bus_at, bus_of, buses_of}
use Rattle.network_specs.specs.Nodes.{Node, attachments_of, node_at, node_of, nodes_of}
use Rattle.network_specs.specs.Scripts.{ScriptEntry, entry_at, entry_of, script_of}
use Rattle.network_specs.specs.NetworkFiles.{network_file_in, network_file_of, most_bytes}
use Rattle.description_laws.specs.Keys.{AgreeAt, SameRows}
use Rattle.network_laws.specs.Keys.{TellTheSame, top_keys, bus_keys, node_keys, error_keys}
use Rattle.description_laws.proofs.Rows.{bind_same, some_rows}

settings_same : (t u : Members) → AgreeAt top_keys t u → settings_of t ≡ settings_of u
unfolding settings_of
settings_same t u h = rw (h.0, h.1.0, h.1.1.0, h.1.1.1.0) refl

bus_same : (resolution : ℕ) (before : List Bus) (t u : Members) → AgreeAt bus_keys t u
    → bus_of resolution before t ≡ bus_of resolution before u
unfolding bus_at
bus_same resolution before t u h = rw (h.0, h.1.0, h.1.1.0) refl

node_same : (buses : List Bus) (before : List Node) (t u : Members) → AgreeAt node_keys t u
    → node_of buses before t ≡ node_of buses before u
unfolding node_at attachments_of
node_same buses before t u h = rw (h.0, h.1.0, h.1.1.0) refl

entry_same : (buses : List Bus) (nodes : List Node) (before : List ScriptEntry) (t u : Members) → AgreeAt error_keys t u
    → entry_of buses nodes before t ≡ entry_of buses nodes before u
unfolding entry_at
entry_same buses nodes before t u h = rw (h.0, h.1.0, h.1.1.0, h.1.1.1.0, h.1.1.1.1.0, h.1.1.1.1.1.0) refl

buses_same : (resolution : ℕ) (t u : Members) → SameRows bus_keys (codes "bus") t u → buses_of resolution t ≡ buses_of resolution u
unfolding buses_of
buses_same resolution t u (inl same) = rw same refl
buses_same resolution t u (inr k) =
    rw (k.at_one, k.at_other) (some_rows bus_keys (refusal field.Bus 0) 1 4 (bus_of resolution) (bus_same resolution) k.one k.other k.agree)

nodes_same : (buses : List Bus) (t u : Members) → SameRows node_keys (codes "node") t u → nodes_of buses t ≡ nodes_of buses u
unfolding nodes_of
nodes_same buses t u (inl same) = rw same refl
nodes_same buses t u (inr k) =
    rw (k.at_one, k.at_other) (some_rows node_keys (refusal field.Node 0) 1 32 (node_of buses) (node_same buses) k.one k.other k.agree)

script_same : (buses : List Bus) (nodes : List Node) (t u : Members) → SameRows error_keys (codes "error") t u
    → script_of buses nodes t ≡ script_of buses nodes u
unfolding script_of
script_same buses nodes t u (inl same) = rw same refl
script_same buses nodes t u (inr k) =
    rw (k.at_one, k.at_other)
    (some_rows error_keys (refusal field.Error 0) 0 1024 (entry_of buses nodes) (entry_same buses nodes) k.one k.other k.agree)

document_same : (t u : Members) → TellTheSame t u → network_file_in t ≡ network_file_in u
unfolding network_file_in
document_same t u h =
    rw (settings_same t u h.top)
    (bind_same (settings_of u) _ _ (λ settings. rw (buses_same settings.resolution t u h.buses)
    (bind_same (buses_of settings.resolution u) _ _ (λ buses. rw (nodes_same buses t u h.nodes)
    (bind_same (nodes_of buses u) _ _ (λ nodes. rw (script_same buses nodes t u h.errors) refl))))))

fits : (m n : ℕ) → m ≤ n → nat_le m n ≡ true
fits m n h = grind (arith, nat_tests)

in_document : (bytes : List ℕ) (t : Members) → length bytes ≤ most_bytes → document bytes ≡ Some t
    → network_file_of bytes ≡ network_file_in t
unfolding network_file_of
in_document bytes t h found = rw (fits (length bytes) most_bytes h, found) refl

pub told_the_same : (one other : List ℕ) (t u : Members) → length one ≤ most_bytes → length other ≤ most_bytes
    → document one ≡ Some t → document other ≡ Some u → TellTheSame t u → network_file_of one ≡ network_file_of other
told_the_same one other t u short shorter is_one is_other same =
    in_document one t short is_one ∙ (document_same t u same ∙ sym (in_document other u shorter is_other))
