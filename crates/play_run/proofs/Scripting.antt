-- The script of a play can be run.
use Rattle.std.proofs.Common.{◌≡◌, ◌≤◌, ◌<◌, ◌+◌, ◌^◌, ℕ, List, [], ◌∷◌, All, map, length, Option, Some, None, refl, sym, ap, ◌∙◌, arith, subst}
use Rattle.std.specs.Prelude.{option_map, is_some}
use Rattle.std.specs.List.{range_with_len}
use Rattle.std.proofs.lemmas.List.{length-map}
use Rattle.std.proofs.lemmas.List.Elements.{All-weaker}
use Rattle.bus_specs.specs.Sound.{IsKind, Rise}
use Rattle.play_specs.specs.Scenario.{Action}
use Rattle.play_specs.specs.Play as play
use Rattle.play_specs.specs.Play.{Play, IsPlay, PlayAction, action_of, bit_time}
use Rattle.play_specs.proofs.Scenarios.{setup_of-IsSetup, nodes_of-Rise, IsPossible, actions-IsPossible}
use Rattle.bus_medium.specs.Setups.{IsWellFormed}
use Rattle.bus_medium.specs.declared.setup.BusSetup.{BusSetup}
use Rattle.play_run.specs.Ready.{Rises}
use Rattle.play_run.specs.Scripts.{IsOfNodes, IsRunnable, scenario_of}
use Rattle.play_run.specs.declared.script.Script.{Script}

rises-of : (last : ℕ) (as' : List PlayAction) → play.Rises last as' → Rises last (map action_of as')
rises-of last [] h = tt
rises-of last (a ∷ as') h = (h.0, rises-of a.moment as' h.1)

same-some : (f : ℕ → ℕ) (o : Option ℕ) → is_some (option_map f o) ≡ is_some o
same-some f None = refl
same-some f (Some n) = refl

pub runnable : (p : Play) (s : Script) → IsPlay p → length p.actions < 2 ^ 63 → scenario_of s ≡ play.scenario_of p → s.nodes ≡ p.nodes → IsRunnable s
runnable p s is few same count =
    let errors : s.setup.errors ≡ p.errors = ap (λ x. x.setup.errors) same in
    let fast : s.setup.fast ≡ option_map (bit_time p.resolution) p.fd_rate = ap (λ x. x.setup.data_bit_time) same in
    let fd_rate : s.setup.fd_rate ≡ p.fd_rate = ap (λ x. x.setup.fd_rate) same in
    let members : s.setup.members ≡ play.nodes_of p = ap (λ x. x.nodes) same in
    let stop : s.stop ≡ p.stop = ap (λ x. x.stop) same in
    let actions : s.actions.items ≡ map action_of p.actions = ap (λ x. x.actions) same in
    record {
      setup = record {
        rise = (0 + p.nodes, rw members (nodes_of-Rise p));
        errors = subst (λ es. All (λ e. IsKind e.kind 4) es) (sym errors) (setup_of-IsSetup p is);
        rates = ap is_some fast ∙ same-some (bit_time p.resolution) p.fd_rate ∙ sym (ap is_some fd_rate);
      };
      nodes = rw (members, count) refl;
      stop = rw stop is.stop;
      actions = rw (actions, count) (All-weaker (IsPossible p.nodes) (IsOfNodes p.nodes) (λ a h. record { node = h.node; item = h.item; moment = h.moment })
          (map action_of p.actions) (actions-IsPossible p is));
      rises = rw actions (rises-of 0 p.actions is.rises);
      few = rw (actions, length-map) few;
    }
