-- A node that isn't live has nothing on any bus.
use Rattle.std.proofs.Common.{◌≡◌, ℕ, ◌==◌, false, All, ◌∙◌, ap}
use Rattle.std.proofs.lemmas.Bool.{both_ways, eqb-true, false_from_ne_true, and_parts}
use Rattle.std.specs.Prelude.{◌&&◌, not}
use Rattle.bus_specs.specs.Bus.{Bus, Member, has_request, off}
use Rattle.bus_specs.specs.Sound.{Sound, SoundMember, SoundRequest, HasNothing}
use Rattle.bus_sound.proofs.Among.{Among}
use Rattle.bus_sound.proofs.Lists.{All-each, each-All, any_to}
use Rattle.bus_sound.proofs.Members.{is_to}
use Rattle.world_specs.specs.World.{World}
use Rattle.world_specs.specs.Fits.{is_live_node, IsJoined, Fits}
use Rattle.world_laws.specs.Words.{IsLeft}

pub left : {S : Type 0} (w : World S) (node : ℕ) → Fits w → is_live_node w.nodes node ≡ false → All (IsLeft node) w.buses
left w node h e = All-each (IsLeft node) w.buses (λ b a. by b (each-All Sound w.buses b h.sound a) (each-All (IsJoined w.nodes) w.buses b h.joined a))
  where
    not-live : (b : Bus) → IsJoined w.nodes b → (m : Member) → Among b.members m → m.node ≡ node → m.live ≡ false
    not-live b j m a q = each-All (λ m. m.live ≡ is_live_node w.nodes m.node) b.members m j a ∙ ap (is_live_node w.nodes) q ∙ e

    by : (b : Bus) → Sound b → IsJoined w.nodes b → IsLeft node b
    by b s j = record {
      requests = false_from_ne_true (has_request b.requests node) (λ q.
          let r = any_to (λ r. r.node == node) b.requests q in
          let own : (r.0).node ≡ node = eqb-true (r.0).node node r.2 in
          let sender = (each-All (SoundRequest b.setup b.members) b.requests r.0 s.requests r.1).sender in
          let i = is_to (λ m. m.live && not (off m)) b.members (r.0).node sender in
          both_ways (i.member).live (not-live b j i.member i.among (i.node ∙ own)) (and_parts (i.member).live (not (off i.member)) i.holds).0);
      members = All-each (λ m. m.node ≡ node → HasNothing m) b.members (λ m a q. (each-All (SoundMember b.setup b.running) b.members m s.members a).absent (not-live b j m a q));
    }
