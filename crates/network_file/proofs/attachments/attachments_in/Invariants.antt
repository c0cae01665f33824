use Rattle.std.proofs.Common.{◌≡◌, []}
use Rattle.toml.specs.View.{members_view}
use Rattle.document_specs.specs.Checks.{each}
use Rattle.network_specs.specs.Nodes.{attachment_at, entries_of}
use Rattle.network_file.proofs.attachments.attachments_in.Given as goal

abbrev pub invariant-loop-key : goal.invariant-loop-key
invariant-loop-key l =
    each (attachment_at l.place l.buses) l.attachments.items (entries_of (members_view l.key-iterator))
    ≡ each (attachment_at l.place l.buses) [] (entries_of (members_view l.entries.entries))
