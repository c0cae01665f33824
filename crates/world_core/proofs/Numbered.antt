-- A step of one of several buses that have their places as their numbers.
use Rattle.std.proofs.Common.{◌≡◌, ◌≤◌, ◌<◌, ◌+◌, ◌^◌, ℕ, zero, suc, Bool, true, false, if◌then◌else◌, List, [], ◌∷◌, ◌++◌, map, All, Some, slice_get, slice_set, arith, refl, sym, ap, ◌∙◌, eq-eqb, get_or, length, subst, inl, inr}
use Rattle.std.specs.Prelude.{◌==◌}
use Rattle.std.proofs.lemmas.Bool.{ne_eqb}
use Rattle.std.proofs.lemmas.List.{append-nil, length-map}
use Rattle.std.proofs.lemmas.List.Elements.{All-head, All-tail}
use Rattle.std.proofs.lemmas.Option.{slice_get_read, slice_get_within}
use Rattle.log_specs.specs.Line.{Line}
use Rattle.bus_specs.specs.Bus.{Bus, Member}
use Rattle.bus_specs.specs.Due.{Due, next_due}
use Rattle.bus_sound.proofs.Among.{Among, among-Contains}
use Rattle.bus_sound.proofs.Steady.{Steady}
use Rattle.bus_specs.specs.Inbox.{inbox}
use Rattle.world_specs.specs.Sessions.{inbox_on}
use Rattle.world_specs.specs.Plan.{AllFrom, IsBusPlan, IsNodePlan, NodePlan, Plan, IsPlan}
use Rattle.world_core.specs.Courses.{Course, plan_of_bus}
use Rattle.world_core.specs.OnBuses.{HasNumber, AreNumbered, IsDueOn, buses_with, lines_with}

module _ (step : Bus → Bus × List Line) where
  -- those behind this place have other numbers
  none-with : (place bus : ℕ) (bs : List Bus) → bus < place → AllFrom place HasNumber bs → buses_with bus step bs ≡ bs
  none-with place bus [] l h = refl
  none-with place bus (b ∷ bs) l h =
      let other : (b.setup.number == bus) ≡ false = ne_eqb b.setup.number bus (λ e. omega (arith, l, e, h.0)) in
      rw other (ap (λ cs. b ∷ cs) (none-with (place + 1) bus bs (omega arith) h.1))

  no-lines : (place bus : ℕ) (bs : List Bus) → bus < place → AllFrom place HasNumber bs → lines_with bus step bs ≡ []
  no-lines place bus [] l h = refl
  no-lines place bus (b ∷ bs) l h =
      let other : (b.setup.number == bus) ≡ false = ne_eqb b.setup.number bus (λ e. omega (arith, l, e, h.0)) in
      rw other (no-lines (place + 1) bus bs (omega arith) h.1)

  set-from : (place i : ℕ) (bs : List Bus) (on : Bus) → AllFrom place HasNumber bs → slice_get bs i ≡ Some on
      → slice_set bs i (step on).0 ≡ buses_with (place + i) step bs
  set-from place i [] on h g = absurd cc
  set-from place zero (b ∷ bs) on h g =
      let same : (b.setup.number == place + zero) ≡ true = eq-eqb b.setup.number (place + zero) (omega (arith, h.0)) in
      let it : b ≡ on = cc in
      rw same (ap (λ c. (step c).0 ∷ bs) (sym it) ∙ ap (λ cs. (step b).0 ∷ cs) (sym (none-with (place + 1) (place + zero) bs (omega arith) h.1)))
  set-from place (suc i) (b ∷ bs) on h g =
      let other : (b.setup.number == place + suc i) ≡ false = ne_eqb b.setup.number (place + suc i) (λ e. omega (arith, e, h.0)) in
      let k : place + suc i ≡ (place + 1) + i = omega arith in
      rw other (ap (λ cs. b ∷ cs) (set-from (place + 1) i bs on h.1 g ∙ ap (λ n. buses_with n step bs) (sym k)))

  lines-from : (place i : ℕ) (bs : List Bus) (on : Bus) → AllFrom place HasNumber bs → slice_get bs i ≡ Some on
      → (step on).1 ≡ lines_with (place + i) step bs
  lines-from place i [] on h g = absurd cc
  lines-from place zero (b ∷ bs) on h g =
      let same : (b.setup.number == place + zero) ≡ true = eq-eqb b.setup.number (place + zero) (omega (arith, h.0)) in
      let it : b ≡ on = cc in
      rw (same, no-lines (place + 1) (place + zero) bs (omega arith) h.1) (ap (λ c. (step c).1) (sym it) ∙ sym (append-nil (step b).1))
  lines-from place (suc i) (b ∷ bs) on h g =
      let other : (b.setup.number == place + suc i) ≡ false = ne_eqb b.setup.number (place + suc i) (λ e. omega (arith, e, h.0)) in
      let k : place + suc i ≡ (place + 1) + i = omega arith in
      rw other (lines-from (place + 1) i bs on h.1 g ∙ ap (λ n. lines_with n step bs) (sym k))

  pub set-is : (i : ℕ) (bs : List Bus) (on : Bus) → AreNumbered bs → slice_get bs i ≡ Some on → slice_set bs i (step on).0 ≡ buses_with i step bs
  set-is i bs on h g = let k : 0 + i ≡ i = omega arith in set-from 0 i bs on h g ∙ ap (λ n. buses_with n step bs) k

  pub lines-are : (i : ℕ) (bs : List Bus) (on : Bus) → AreNumbered bs → slice_get bs i ≡ Some on → (step on).1 ≡ lines_with i step bs
  lines-are i bs on h g = let k : 0 + i ≡ i = omega arith in lines-from 0 i bs on h g ∙ ap (λ n. lines_with n step bs) k

-- ---- a bus stands at its number

place-from : (place : ℕ) (bs : List Bus) (b : Bus) (i : ℕ) → AllFrom place HasNumber bs → Among bs b → b.setup.number ≡ place + i → slice_get bs i ≡ Some b
place-from place [] b i h a e = absurd a
place-from place (c ∷ bs) b zero h (inl s) e = ap Some s
place-from place (c ∷ bs) b zero h (inr a) e = absurd (let l = above (place + 1) bs b h.1 a in omega (arith, l, e))
  where
    above : (low : ℕ) (cs : List Bus) (b : Bus) → AllFrom low HasNumber cs → Among cs b → low ≤ b.setup.number
    above low [] b h a = absurd a
    above low (c ∷ cs) b h (inl s) = let k : c.setup.number ≡ b.setup.number = ap (λ (x : Bus). x.setup.number) s in omega (arith, k, h.0)
    above low (c ∷ cs) b h (inr a) = let l = above (low + 1) cs b h.1 a in omega (arith, l)
place-from place (c ∷ bs) b (suc i) h (inl s) e =
    absurd (let k : c.setup.number ≡ b.setup.number = ap (λ (x : Bus). x.setup.number) s in omega (arith, k, h.0, e))
place-from place (c ∷ bs) b (suc i) h (inr a) e = place-from (place + 1) bs b i h.1 a (omega (arith, e))

pub place-of : (bs : List Bus) (b : Bus) (bus : ℕ) → AreNumbered bs → Among bs b → b.setup.number ≡ bus → slice_get bs bus ≡ Some b
place-of bs b bus h a e = place-from 0 bs b bus h a (omega (arith, e))

pub there : (bs : List Bus) (bus : ℕ) (d : Due) → AreNumbered bs → (k : IsDueOn bs bus d) → slice_get bs bus ≡ Some k.on
there bs bus d h k = place-of bs k.on bus h (among-Contains bs k.on k.there) k.number

pub within : (bs : List Bus) (bus : ℕ) (d : Due) → AreNumbered bs → IsDueOn bs bus d → bus < length bs
within bs bus d h k = slice_get_within bs bus k.on (there bs bus d h k)

-- the bus that is read there
pub read : (bs : List Bus) (n bus : ℕ) (d : Due) (b : Bus) → n ≡ length bs → AreNumbered bs → IsDueOn bs bus d → b ≡ get_or bs bus b → slice_get bs bus ≡ Some b
read bs n bus d b e h k v = let l = within bs bus d h k in slice_get_read bs n bus b e (omega (arith, l, e)) v

pub due-there : (bs : List Bus) (bus : ℕ) (d : Due) (b : Bus) → AreNumbered bs → IsDueOn bs bus d → slice_get bs bus ≡ Some b → (since : ℕ) × (next_due b since ≡ Some d)
due-there bs bus d b h k g =
    let e = there bs bus d h k in
    let same : k.on ≡ b = cc in
    (k.since, subst (λ c. next_due c k.since ≡ Some d) same k.next)

pub all-at : {X : Type 0} (P : X → Type 0) (xs : List X) (i : ℕ) (x : X) → All P xs → slice_get xs i ≡ Some x → P x
all-at P [] i x h g = absurd cc
all-at P (y ∷ xs) zero x h g = let it : y ≡ x = cc in subst P it (All-head P y xs h)
all-at P (y ∷ xs) (suc i) x h g = all-at P xs i x (All-tail P y xs h) g

pub few-attempts : (bs : List Bus) (i : ℕ) (b : Bus) → All (λ b. b.attempts < 2 ^ 63) bs → slice_get bs i ≡ Some b → b.attempts < 2 ^ 63
few-attempts bs i b h g = all-at (λ (x : Bus). x.attempts < 2 ^ 63) bs i b h g

-- ---- what waits on a bus

others-none : (now node place bus : ℕ) (bs : List Bus) → bus < place → AllFrom place HasNumber bs → inbox_on bs now node bus ≡ []
others-none now node place bus [] l h = refl
others-none now node place bus (b ∷ bs) l h =
    let other : (b.setup.number == bus) ≡ false = ne_eqb b.setup.number bus (λ e. omega (arith, l, e, h.0)) in
    rw other (others-none now node (place + 1) bus bs (omega arith) h.1)

inbox-from : (now node place i : ℕ) (bs : List Bus) (on : Bus) → AllFrom place HasNumber bs → slice_get bs i ≡ Some on → inbox_on bs now node (place + i) ≡ inbox on now node
inbox-from now node place i [] on h g = absurd cc
inbox-from now node place zero (b ∷ bs) on h g =
    let same : (b.setup.number == place + zero) ≡ true = eq-eqb b.setup.number (place + zero) (omega (arith, h.0)) in
    let it : b ≡ on = cc in
    rw same (ap (λ l. inbox b now node ++ l) (others-none now node (place + 1) (place + zero) bs (omega arith) h.1) ∙ append-nil (inbox b now node) ∙ ap (λ c. inbox c now node) it)
inbox-from now node place (suc i) (b ∷ bs) on h g =
    let other : (b.setup.number == place + suc i) ≡ false = ne_eqb b.setup.number (place + suc i) (λ e. omega (arith, e, h.0)) in
    let k : place + suc i ≡ (place + 1) + i = omega arith in
    rw other (ap (inbox_on bs now node) k ∙ inbox-from now node (place + 1) i bs on h.1 g)

pub inbox-at : (now node i : ℕ) (bs : List Bus) (on : Bus) → AreNumbered bs → slice_get bs i ≡ Some on → inbox on now node ≡ inbox_on bs now node i
inbox-at now node i bs on h g = let k : 0 + i ≡ i = omega arith in sym (sym (ap (inbox_on bs now node) k) ∙ inbox-from now node 0 i bs on h g)

-- ---- the buses of a plan

numbers-from : (p : Plan) (place : ℕ) (bs : List Bus) → AllFrom place (IsBusPlan p) (map plan_of_bus bs) → AllFrom place HasNumber bs
numbers-from p place [] h = tt
numbers-from p place (b ∷ bs) h = ((h.0).number, numbers-from p (place + 1) bs h.1)

pub numbered : (p : Plan) (bs : List Bus) → IsPlan p → p.buses ≡ map plan_of_bus bs → AreNumbered bs
numbered p bs h e = numbers-from p 0 bs (subst (AllFrom 0 (IsBusPlan p)) e h.buses)

-- a node names buses that are there
pub names-there : (p : Plan) (bs : List Bus) (i : ℕ) (n : NodePlan) → IsPlan p → p.buses ≡ map plan_of_bus bs → slice_get p.nodes i ≡ Some n → All (λ bus. bus < length bs) n.buses
names-there p bs i n h e g =
    let many : length p.buses ≡ length bs = ap length e ∙ length-map bs plan_of_bus in
    subst (λ m. All (λ bus. bus < m) n.buses) many (all-at (IsNodePlan (length p.buses)) p.nodes i n h.nodes g).there

-- ---- what a bus was made from stays

pub nodes-map : (f : Member → Member) → ((m : Member) → (f m).node ≡ m.node) → (ms : List Member) → map (λ m. m.node) (map f ms) ≡ map (λ m. m.node) ms
nodes-map f k [] = refl
nodes-map f k (m ∷ ms) = rw (k m, nodes-map f k ms) refl

pub steady-plan : (b after : Bus) → Steady b after → plan_of_bus after ≡ plan_of_bus b
steady-plan b after s = rw (s.setup, s.members, nodes-map s.change s.node b.members) refl

pub plans-with : (step : Bus → Bus × List Line) → ((b : Bus) → Steady b (step b).0) → (bus : ℕ) (bs : List Bus)
    → map plan_of_bus (buses_with bus step bs) ≡ map plan_of_bus bs
plans-with step s bus [] = refl
plans-with step s bus (b ∷ bs) = rw (plans-with step s bus bs) (ap (λ p. p ∷ map plan_of_bus bs) (go (b.setup.number == bus)))
  where
    go : (q : Bool) → plan_of_bus (if q then (step b).0 else b) ≡ plan_of_bus b
    go true = steady-plan b (step b).0 (s b)
    go false = refl

-- a course whose buses changed, and were made from the same
pub same-course : (c : Course) (bs after : List Bus) → bs ≡ after → map plan_of_bus after ≡ map plan_of_bus c.buses → c.plan.buses ≡ map plan_of_bus c.buses
    → record {
      plan = record { resolution = c.plan.resolution; stop = c.plan.stop; events = c.plan.events; fuel = c.plan.fuel; buses = map plan_of_bus bs; nodes = c.plan.nodes };
      buses = bs;
      standings = c.standings;
      clocks = c.clocks;
      events = c.events;
      now = c.now;
    } ≡ record c { buses = after }
same-course c bs after e k p = rw (e, k, ← p) refl
