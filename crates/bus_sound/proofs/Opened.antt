-- An opened bus is sound.
use Rattle.std.proofs.Common.{◌≡◌, ℕ, List, [], ◌∷◌, map, arith, refl, ap}
use Rattle.std.specs.Prelude.{None}
use Rattle.std.proofs.lemmas.List.Elements.{All-map, All-nil}
use Rattle.bus_specs.specs.Bus.{Setup, new_bus, new_member}
use Rattle.bus_specs.specs.Sound.{Sound, SoundMember, SoundRequest, IsSetup, Rise}
use Rattle.bus_sound.proofs.Lists.{All-each}
use Rattle.bus_sound.proofs.Members.{nodes_of}

pub new_member-nodes : (ns : List ℕ) → nodes_of (map new_member ns) ≡ ns
new_member-nodes [] = refl
new_member-nodes (n ∷ ns) = ap (λ l. n ∷ l) (new_member-nodes ns)

pub new_bus-sound : (s : Setup) (nodes : List ℕ) (last : ℕ) → IsSetup s → Rise 0 nodes last → Sound (new_bus s nodes)
new_bus-sound s nodes last setup rise = record {
  setup = setup;
  nodes = (last, rw (new_member-nodes nodes) rise);
  numbers = omega arith;
  requests = All-nil (SoundRequest s (map new_member nodes));
  at_most = λ n. omega arith;
  members = All-map (SoundMember s None) new_member nodes (All-each (λ n. SoundMember s None (new_member n)) nodes (λ n a. record {
    tec = omega arith;
    rec = omega arith;
    off = refl;
    seen = tt;
    absent = λ e. record { lost = refl; format = refl; wake = refl; mail = refl };
    echo = tt;
    mail = tt;
  }));
  running = tt;
  last = tt;
}
