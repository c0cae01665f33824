use Rattle.std.proofs.Common.{◌||◌, ◌*◌, drop, length, map, take, ap, ◌∙◌}
use Rattle.std.specs.Prelude.{nat_lt, slice_index}
use Rattle.std.specs.List.{list_any}
use Rattle.bus_specs.specs.Inbox.{has_inbox}
use Rattle.unit_specs.specs.Description.{Description}
use Rattle.world_specs.specs.Plan.{NodePlan}
use Rattle.world_specs.specs.Sessions.{ticking_from}
use Rattle.world_core.proofs.Calls.{is-called, not-called}
use Rattle.world_core.proofs.sessions.call_of.Goals as goal

pub returns-then-not-is_called : goal.returns-then-not-is_called
returns-then-not-is_called c =
    let countdown = c.as_slice.ensures ∙ ap (λ (d : Description). d.countdown) c.d.view_is ∙ ap (λ (n : NodePlan). n.description.countdown) c.plan.view_is in
    let entries = drop (c.args.node * 8) c.args.clocks.now in
    let ticked = c.in_ok-ticked-in-Live.ensures ∙ ap (λ xs. map (slice_index xs) (ticking_from 0 c.args.now (take (length xs) (drop (c.args.node * 8) c.args.clocks.now)))) countdown in
    not-called c.args.buses.now c.args.resolution c.args.now c.args.node c.args.plan.now c.args.standing c.in-Live.last entries c.in_ok-ticked-in-Live.ticked c.in-Live.is ticked
    (c.if-not-is_called.ensures ∙ ap (λ l. nat_lt 0 (length l) || list_any (λ b. has_inbox b c.args.now c.args.node) c.args.buses.now) c.as_slice-in-Live.ensures)

pub returns-in_ok-input-in-Live : goal.returns-in_ok-input-in-Live
returns-in_ok-input-in-Live c =
    let countdown = c.as_slice.ensures ∙ ap (λ (d : Description). d.countdown) c.d.view_is ∙ ap (λ (n : NodePlan). n.description.countdown) c.plan.view_is in
    let entries = drop (c.args.node * 8) c.args.clocks.now in
    let ticked = c.in_ok-ticked-in-Live.ensures ∙ ap (λ xs. map (slice_index xs) (ticking_from 0 c.args.now (take (length xs) (drop (c.args.node * 8) c.args.clocks.now)))) countdown in
    is-called c.args.buses.now c.args.resolution c.args.now c.args.node c.args.plan.now c.args.standing c.in-Live.last entries c.in_ok-ticked-in-Live.ticked c.in-Live.is ticked c.in_ok-input-in-Live.input
    (c.if-not-is_called.ensures ∙ ap (λ l. nat_lt 0 (length l) || list_any (λ b. has_inbox b c.args.now c.args.node) c.args.buses.now) c.as_slice-in-Live.ensures)
    c.in_ok-input-in-Live.ensures
