-- A node behind its session is the one that the definitions name.
use Rattle.std.proofs.Common.{◌≡◌, ◌||◌, ℕ, zero, suc, Bool, true, false, if◌then◌else◌, List, [], ◌∷◌, length, map, take, Option, Some, None, get_or, slice_get, refl, sym, ap, ◌∙◌}
use Rattle.std.specs.List.{list_any, slice_index_or}
use Rattle.fmi_states.specs.declared.phase.Phase.{Phase}
use Rattle.fmi_states.specs.declared.call.Call as unit
use Rattle.fmi_states.specs.declared.reply.Reply.{Reply}
use Rattle.unit_specs.specs.Description.{Description}
use Rattle.bus_specs.specs.Bus.{Bus}
use Rattle.bus_specs.specs.Inbox.{has_inbox}
use Rattle.session_specs.specs.Outcome.{SessionIn}
use Rattle.session_specs.specs.Session as session
use Rattle.world_specs.specs.Plan.{NodePlan, Plan, description_of, units_of}
use Rattle.world_specs.specs.Sessions.{is_new, session_from, session_of, ticks}
use Rattle.world_core.specs.Called.{call_of, input_at, ticked_of}
use Rattle.world_core.specs.declared.sessions.Call.{Call}
use Rattle.world_core.specs.declared.standing.Standing.{Standing}
use Rattle.world_core.specs.declared.standing.Standing.TheVariants.{New, Live, Down, Over}
use Rattle.world_core.proofs.Placing.{node_of}

-- ---- what a plan says of the node at a place

described : (ns : List NodePlan) (i : ℕ) (n : NodePlan) (d : Description) → slice_get ns i ≡ Some n → get_or (map (λ (m : NodePlan). m.description) ns) i d ≡ n.description
described [] i n d g = absurd cc
described (m ∷ ns) zero n d g = let e : m ≡ n = cc in ap (λ (x : NodePlan). x.description) e
described (m ∷ ns) (suc i) n d g = described ns i n d g

pub names-of : (ns : List NodePlan) (i : ℕ) (n : NodePlan) → slice_get ns i ≡ Some n → slice_index_or (map (λ (m : NodePlan). m.buses) ns) i [] ≡ n.buses
names-of [] i n g = absurd cc
names-of (m ∷ ns) zero n g = let e : m ≡ n = cc in ap (λ (x : NodePlan). x.buses) e
names-of (m ∷ ns) (suc i) n g = names-of ns i n g

-- ---- who takes part, and its session

module _ {S : Type 0} (answer : S → unit.Call → Reply × S) (phase_of : S → Phase) (p : Plan) (bs : List Bus) (now i : ℕ) (n : NodePlan) (s : S) (cs : List (Option ℕ)) (at : slice_get p.nodes i ≡ Some n) where
  known : description_of p i ≡ n.description
  known = described p.nodes i n (record { identifier = []; countdown = []; terminals = [] }) at

  -- a node that isn't called has no session
  pub no-session : (t : Standing) → call_of bs p.resolution now i n t cs ≡ None → session_of (units_of answer phase_of p) bs now (node_of i n t s cs) ≡ None
  no-session New e = absurd cc
  no-session Down e = refl
  no-session Over e = refl
  no-session (Live last) e = by (list_any (ticks now) (take (length n.description.countdown) cs) || list_any (λ b. has_inbox b now i) bs) e
    where
      by : (q : Bool) → ◌≡◌ {A = Option Call} (if q then Some (record { is_new = false; input = input_at bs p.resolution now i n last (ticked_of now n (take (length n.description.countdown) cs)) }) else None) None
          → (if q then session_from (units_of answer phase_of p) bs now (node_of i n (Live last) s cs) (node_of i n (Live last) s cs).standing else None) ≡ None
      by true e = absurd cc
      by false e = refl

  -- one that is called has its session with its input
  pub its-session : (t : Standing) (call : Call) → Some call ≡ call_of bs p.resolution now i n t cs
      → session_of (units_of answer phase_of p) bs now (node_of i n t s cs) ≡ Some (session.session_of answer phase_of n.description call.input s)
  its-session New call e =
      let made : Call = record { is_new = true; input = input_at bs p.resolution now i n 0 [] } in
      let same : call ≡ made = cc in
      ap (λ (d : Description). Some (session.session_of answer phase_of d made.input s)) known
      ∙ ap (λ (c : Call). Some (session.session_of answer phase_of n.description c.input s)) (sym same)
  its-session Down call e = absurd cc
  its-session Over call e = absurd cc
  its-session (Live last) call e = by (list_any (ticks now) (take (length n.description.countdown) cs) || list_any (λ b. has_inbox b now i) bs) e
    where
      by : (q : Bool) → Some call ≡ (if q then Some (record { is_new = false; input = input_at bs p.resolution now i n last (ticked_of now n (take (length n.description.countdown) cs)) }) else None)
          → (if q then session_from (units_of answer phase_of p) bs now (node_of i n (Live last) s cs) (node_of i n (Live last) s cs).standing else None)
          ≡ Some (session.session_of answer phase_of n.description call.input s)
      by false e = absurd cc
      by true e =
          let input : Description → SessionIn = λ d. input_at bs p.resolution now i (record n { description = d }) last (ticked_of now (record n { description = d }) (take (length n.description.countdown) cs)) in
          let made : Call = record { is_new = false; input = input n.description } in
          let same : call ≡ made = cc in
          ap (λ (d : Description). Some (session.session_of answer phase_of d (input d) s)) known
          ∙ ap (λ (c : Call). Some (session.session_of answer phase_of n.description c.input s)) (sym same)

  pub newness : (t : Standing) (call : Call) → Some call ≡ call_of bs p.resolution now i n t cs → call.is_new ≡ is_new (node_of i n t s cs).standing
  newness New call e = let made : Call = record { is_new = true; input = input_at bs p.resolution now i n 0 [] } in let same : call ≡ made = cc in ap (λ (c : Call). c.is_new) same
  newness Down call e = absurd cc
  newness Over call e = absurd cc
  newness (Live last) call e = by (list_any (ticks now) (take (length n.description.countdown) cs) || list_any (λ b. has_inbox b now i) bs) e
    where
      by : (q : Bool) → Some call ≡ (if q then Some (record { is_new = false; input = input_at bs p.resolution now i n last (ticked_of now n (take (length n.description.countdown) cs)) }) else None) → call.is_new ≡ false
      by false e = absurd cc
      by true e =
          let made : Call = record { is_new = false; input = input_at bs p.resolution now i n last (ticked_of now n (take (length n.description.countdown) cs)) } in
          let same : call ≡ made = cc in
          ap (λ (c : Call). c.is_new) same
