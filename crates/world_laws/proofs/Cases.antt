-- The plan of two buses is a plan.
use Rattle.std.proofs.Common.{◌≡◌, ◌<◌, ◌^◌, List, [], ◌∷◌, All, arith, refl, subst, inl, inr}
use Rattle.unit_specs.specs.Description.{Terminal}
use Rattle.bus_sound.proofs.Among.{Among}
use Rattle.bus_sound.proofs.Lists.{All-each}
use Rattle.world_specs.specs.Plan.{IsTerminal, IsDescription, IsNodePlan, IsPlan, references}
use Rattle.world_laws.specs.Cases.{sensor, gateway, two_buses}

-- what holds of each of a list by recursion holds of all
EachOf : {X : Type 0} → (X → Type 0) → List X → Type 0
EachOf P [] = Unit {0}
EachOf P (x ∷ xs) = P x × EachOf P xs

each-of : {X : Type 0} (P : X → Type 0) (xs : List X) → EachOf P xs → (x : X) → Among xs x → P x
unfolding EachOf
each-of P [] h x a = absurd a
each-of P (y ∷ xs) h x (inl e) = subst P e h.0
each-of P (y ∷ xs) h x (inr a) = each-of P xs h.1 x a

all-of : {X : Type 0} (P : X → Type 0) (xs : List X) → EachOf P xs → All P xs
all-of P xs h = All-each P xs (each-of P xs h)

pub two_buses-is : IsPlan two_buses
unfolding EachOf
two_buses-is = record {
  resolution = (omega arith, omega arith);
  stop = omega arith;
  events = (omega arith, omega arith);
  fuel = (omega arith, omega arith);
  some_buses = (omega arith, omega arith);
  some_nodes = (omega arith, omega arith);
  buses = (
    record { number = refl; rate = record { in_range = (omega arith, omega arith); exact = refl }; fd_rate = tt; members = refl; errors = all-of _ [] tt },
    (record { number = refl; rate = record { in_range = (omega arith, omega arith); exact = refl }; fd_rate = tt; members = refl; errors = all-of _ [] tt }, tt),
  );
  nodes = all-of (IsNodePlan 2) two_buses.nodes (
    record { description = sensor-is; one_each = refl; there = all-of (λ bus. bus < 2) (0 ∷ []) (omega arith, tt); distinct = (refl, tt) },
    (record { description = gateway-is; one_each = refl; there = all-of (λ bus. bus < 2) (0 ∷ 1 ∷ []) (omega arith, (omega arith, tt)); distinct = (refl, (refl, tt)) }, tt),
  );
}
  where
    terminal-is : (t : Terminal) → t.rx_max ≡ 256 → t.tx_max ≡ 256 → EachOf (λ r. r < 2 ^ 32) (references t) → IsTerminal t
    terminal-is t e f h = record { rx_max = (omega (arith, e), omega (arith, e)); tx_max = (omega (arith, f), omega (arith, f)); references = all-of (λ r. r < 2 ^ 32) (references t) h }

    sensor-is : IsDescription sensor
    sensor-is = record {
      some_terminals = (omega arith, omega arith);
      few_clocks = omega arith;
      terminals = all-of IsTerminal sensor.terminals (terminal-is _ refl refl (omega arith, (omega arith, (omega arith, (omega arith, tt)))), tt);
      clocks = all-of (λ r. r < 2 ^ 32) (0 ∷ []) (omega arith, tt);
      references = (refl, (refl, (refl, (refl, (refl, tt)))));
    }

    gateway-is : IsDescription gateway
    gateway-is = record {
      some_terminals = (omega arith, omega arith);
      few_clocks = omega arith;
      terminals = all-of IsTerminal gateway.terminals (terminal-is _ refl refl (omega arith, (omega arith, (omega arith, (omega arith, tt)))), (terminal-is _ refl refl (omega arith, (omega arith, (omega arith, (omega arith, tt)))), tt));
      clocks = all-of (λ r. r < 2 ^ 32) [] tt;
      references = (refl, (refl, (refl, (refl, (refl, (refl, (refl, (refl, tt))))))));
    }
