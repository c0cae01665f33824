-- Events on one bus: what the next event says of its bus, and what the network keeps.
use Rattle.std.proofs.Common.{◌≡◌, ◌<◌, ◌+◌, ℕ, List, All, Some, arith, sym, refl, ap, ◌∙◌, subst}
use Rattle.fmi_states.specs.declared.ecu.Ecu.{Ghosts}
use Rattle.bus_specs.specs.Bus.{Bus}
use Rattle.bus_specs.specs.Due.{Due, dues, next_due}
use Rattle.bus_specs.specs.Due as due
use Rattle.bus_specs.specs.Sound.{Sound}
use Rattle.bus_sound.proofs.Among.{Among, Contains-among}
use Rattle.bus_sound.proofs.Lists.{each-All}
use Rattle.world_specs.specs.World.{World}
use Rattle.world_specs.specs.Next.{What, Finish, Return, Sessions, Start, Event, at, what_of, event_of, next_event}
use Rattle.world_specs.specs.Plan.{units_of}
use Rattle.world_specs.specs.Step.{world_behind}
use Rattle.world_laws.specs.Words.{AnswersBytes}
use Rattle.world_laws.proofs.Order.{next-among}
use Rattle.world_laws.proofs.Sources.{Source, OfBus, OfMail, OfNode, source}
use Rattle.world_laws.proofs.Dues.{node-what}
use Rattle.world_laws.proofs.Planned.{units-fit}
use Rattle.state_laws.specs.Words.{IsShort}
use Rattle.state_laws.specs.Within.{IsWithin}
use Rattle.state_laws.proofs.Clocks.{units-near}
use Rattle.state_laws.proofs.Planned.{short-stays}
use Rattle.state_laws.proofs.Within.{within-step}
use Rattle.world_core.specs.Courses.{Course, network_of}
use Rattle.world_core.specs.Kept.{IsKept}
use Rattle.world_core.specs.OnBuses.{IsDueOn}
use Rattle.world_core.specs.Units.{states_of}
use Rattle.world_core.proofs.BusDues.{IsOwn, due-on}
use Rattle.world_core.proofs.SessionEvents.{few-nodes}

abbrev IsOnBus : What → Type 0
IsOnBus (Finish bus) = Unit {0}
IsOnBus (Return bus node) = Unit {0}
IsOnBus Sessions = ⊥
IsOnBus (Start bus) = Unit {0}

-- the due of a bus that the next event is
record Own {S : Type 0} (w : World S) (e : Event) : Type 0 where
  on : Bus
  among : Among w.buses on
  due : Due
  is : event_of on.setup.number due ≡ e
  next : next_due on w.now ≡ Some due

own : {S : Type 0} (stop : ℕ) (w : World S) → All Sound w.buses → (e : Event) → next_event stop w ≡ Some e → IsOnBus e.what → Own w e
own stop w sound e n i = go (source w e (next-among stop w e n))
  where
    no-notice : (bus : ℕ) (k : due.What) → IsOnBus (what_of bus k) → IsOwn k
    no-notice bus due.Finish h = tt
    no-notice bus (due.Return m) h = tt
    no-notice bus due.Notices h = h
    no-notice bus due.Start h = tt

    go : Source w e → Own w e
    go (OfBus b a d c q) = record {
      on = b;
      among = a;
      due = d;
      is = q;
      next = due-on stop w e n b a (each-All Sound w.buses b sound a) d c q (no-notice b.setup.number d.what (subst IsOnBus (sym (ap (λ (x : Event). x.what) q)) i));
    }
    go (OfMail b a m c j q) = absurd (subst IsOnBus (sym (ap (λ (x : Event). x.what) q)) i)
    go (OfNode m a c) = absurd (subst IsOnBus (node-what w.now m.standing e c) i)

record Same (bus own : ℕ) (d e : Due) : Type 0 where
  number : own ≡ bus
  due : d ≡ e

whole : (d : Due) (k : due.What) (t : ℕ) → d.what ≡ k → d.moment ≡ t → d ≡ due.at k t
whole d k t x y = rw (sym x, sym y) refl

same-finish : (number bus t : ℕ) (d : Due) → event_of number d ≡ at (Finish bus) t → Same bus number d (due.at due.Finish t)
same-finish number bus t d q = go d.what refl (ap (λ (x : Event). x.what) q)
  where
    go : (k : due.What) → d.what ≡ k → what_of number k ≡ Finish bus → Same bus number d (due.at due.Finish t)
    go due.Finish e x = record { number = cc; due = whole d due.Finish t e (ap (λ (x : Event). x.moment) q) }
    go (due.Return m) e x = absurd cc
    go due.Notices e x = absurd cc
    go due.Start e x = absurd cc

same-start : (number bus t : ℕ) (d : Due) → event_of number d ≡ at (Start bus) t → Same bus number d (due.at due.Start t)
same-start number bus t d q = go d.what refl (ap (λ (x : Event). x.what) q)
  where
    go : (k : due.What) → d.what ≡ k → what_of number k ≡ Start bus → Same bus number d (due.at due.Start t)
    go due.Finish e x = absurd cc
    go (due.Return m) e x = absurd cc
    go due.Notices e x = absurd cc
    go due.Start e x = record { number = cc; due = whole d due.Start t e (ap (λ (x : Event). x.moment) q) }

same-return : (number bus node t : ℕ) (d : Due) → event_of number d ≡ at (Return bus node) t → Same bus number d (due.at (due.Return node) t)
same-return number bus node t d q = go d.what refl (ap (λ (x : Event). x.what) q)
  where
    go : (k : due.What) → d.what ≡ k → what_of number k ≡ Return bus node → Same bus number d (due.at (due.Return node) t)
    go due.Finish e x = absurd cc
    go (due.Return m) e x =
        let s : m ≡ node = cc in
        record { number = cc; due = whole d (due.Return node) t (e ∙ ap due.Return s) (ap (λ (x : Event). x.moment) q) }
    go due.Notices e x = absurd cc
    go due.Start e x = absurd cc

module _ {S : Type 0} (stop : ℕ) (w : World S) (sound : All Sound w.buses) where
  due-is : (e : Event) (bus : ℕ) (d : Due) → next_event stop w ≡ Some e → IsOnBus e.what → ((number : ℕ) (c : Due) → event_of number c ≡ e → Same bus number c d)
      → IsDueOn w.buses bus d
  due-is e bus d n i same =
      let o = own stop w sound e n i in
      let s = same (o.on).setup.number o.due o.is in
      record { on = o.on; there = Contains-among w.buses o.on o.among; number = s.number; since = w.now; next = o.next ∙ ap Some s.due }

  pub finish-due : (bus t : ℕ) → next_event stop w ≡ Some (at (Finish bus) t) → IsDueOn w.buses bus (due.at due.Finish t)
  finish-due bus t n = due-is (at (Finish bus) t) bus (due.at due.Finish t) n tt (λ number c q. same-finish number bus t c q)

  pub start-due : (bus t : ℕ) → next_event stop w ≡ Some (at (Start bus) t) → IsDueOn w.buses bus (due.at due.Start t)
  start-due bus t n = due-is (at (Start bus) t) bus (due.at due.Start t) n tt (λ number c q. same-start number bus t c q)

  pub return-due : (bus node t : ℕ) → next_event stop w ≡ Some (at (Return bus node) t) → IsDueOn w.buses bus (due.at (due.Return node) t)
  return-due bus node t n = due-is (at (Return bus node) t) bus (due.at (due.Return node) t) n tt (λ number c q. same-return number bus node t c q)

-- ---- what the world keeps

module _ {E G S : Type 0} (g : Ghosts E G S) (replies : AnswersBytes g.answer) (c : Course) (es : List E) (shared : G) where
  -- the event of a network whose nodes stay
  pub kept-on : (e : Event) (bs : List Bus) → IsKept g c es shared → next_event c.plan.stop (network_of c (states_of g es shared)) ≡ Some e → c.events < c.plan.events
      → record { events = c.events + 1; now = e.moment; buses = bs; nodes = (network_of c (states_of g es shared)).nodes }
      ≡ world_behind (units_of g.answer g.phase_of c.plan) (network_of c (states_of g es shared)) e
      → IsKept g (record c { buses = bs; events = c.events + 1; now = e.moment }) es shared
  kept-on e bs k n l s = record {
    plan = k.plan;
    arranged = record { standings = k.arranged.standings; clocks = k.arranged.clocks; unset = k.arranged.unset };
    within = subst (IsWithin c.plan (states_of g es shared)) (sym s)
        (within-step (units_of g.answer g.phase_of c.plan) c.plan (states_of g es shared) (network_of c (states_of g es shared)) e
        (states_of g es shared) (units-fit g.answer replies g.phase_of c.plan) (units-near g.answer g.phase_of c.plan) k.plan k.short
        (let few = few-nodes 0 c.plan.nodes c.standings (states_of g es shared) c.clocks in
        let most = k.plan.some_nodes.1 in omega (arith, few, most)) l n k.within);
    short = subst (λ (v : World S). All IsShort v.buses) (sym s)
        (short-stays (units_of g.answer g.phase_of c.plan) (network_of c (states_of g es shared)) e k.short);
    each = k.each;
    phases = k.phases;
    apart = k.apart;
  }
