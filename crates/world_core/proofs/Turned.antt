-- What a bus was made from stays behind the turns of a moment.
use Rattle.std.proofs.Common.{◌≡◌, ◌≤◌, ◌+◌, ◌*◌, ℕ, zero, suc, List, [], ◌∷◌, map, arith, refl, ap, ◌∙◌, subst}
use Rattle.bus_specs.specs.Bus.{Bus}
use Rattle.world_specs.specs.Plan.{AllFrom, IsBusPlan, IsPlan, Plan}
use Rattle.world_specs.specs.Sessions.{turns_step}
use Rattle.world_laws.proofs.Calls.{turns-call}
use Rattle.world_laws.proofs.OneBus.{turns-buses, turns_on}
use Rattle.world_core.specs.Bare.{Bare}
use Rattle.world_core.specs.Courses.{plan_of_bus}
use Rattle.world_core.proofs.Numbered.{nodes-map}

-- a bit takes a tick at least
some-ticks : (resolution rate ticks : ℕ) → 1 ≤ resolution → ticks * rate ≡ resolution → 1 ≤ ticks
some-ticks resolution rate zero l e = absurd (omega (arith, l, e))
some-ticks resolution rate (suc ticks) l e = omega arith

plan-turned : (t : ℕ) (xs : List Bare) (b : Bus) → 1 ≤ b.setup.nominal → plan_of_bus (turns_on t xs b) ≡ plan_of_bus b
plan-turned t xs b l = let c = turns-call t xs b l in rw (c.setup, c.members, nodes-map c.change c.node b.members) refl

plans-from : (t : ℕ) (xs : List Bare) (p : Plan) (place : ℕ) (bs : List Bus) → 1 ≤ p.resolution → AllFrom place (IsBusPlan p) (map plan_of_bus bs)
    → map plan_of_bus (map (turns_on t xs) bs) ≡ map plan_of_bus bs
plans-from t xs p place [] l h = refl
plans-from t xs p place (b ∷ bs) l h =
    rw (plan-turned t xs b (some-ticks p.resolution b.setup.rate b.setup.nominal l (h.0).rate.exact), plans-from t xs p (place + 1) bs l h.1) refl

pub plans-turned : (t : ℕ) (xs : List Bare) (p : Plan) (bs : List Bus) → IsPlan p → p.buses ≡ map plan_of_bus bs → map plan_of_bus (turns_step t bs xs).0 ≡ map plan_of_bus bs
plans-turned t xs p bs ok e = ap (map plan_of_bus) (turns-buses t xs bs) ∙ plans-from t xs p 0 bs ok.resolution.0 (subst (AllFrom 0 (IsBusPlan p)) e ok.buses)
