-- How a log ends, and that its lines are of its bus and up to the stop.
use Rattle.std.proofs.Common.{◌≡◌, ℕ, zero, suc, ◌+◌, ◌≤◌, ◌⊎◌, true, List, [], ◌∷◌, ◌++◌, Option, Some, None, arith, refl, ap, ◌∙◌, sym, subst, inl, inr, append_assoc, append-nil}
use Rattle.std.specs.Prelude.{option_map}
use Rattle.bus_specs.specs.Due.{Due}
use Rattle.log_specs.specs.Line.{Line, On, Down, Over, End}
use Rattle.run_specs.specs.Run.{behind, head, then_from}
use Rattle.play_specs.specs.Scenario.{Scenario, World, opening, next_event, event_step, world_behind, status, machine, scenario_lines, scenario_status}
use Rattle.bus_sound.proofs.Among.{Among}
use Rattle.bus_sound.proofs.Lists.{All-each, append-among}
use Rattle.log_laws.specs.Scenarios.{IsScenario}
use Rattle.log_laws.specs.Mirror.{Mirror, new_mirror}
use Rattle.log_laws.specs.Moments.{IsOf, LinesAreOf, is_told, EndsWith, GoesOn}
use Rattle.log_laws.proofs.Lawful.{Agrees, follow}
use Rattle.log_laws.proofs.Known.{Offered}
use Rattle.log_laws.proofs.Moments.{IsAt}
use Rattle.log_laws.proofs.Due.{own-finish, within-stop}
use Rattle.log_laws.proofs.Prompt.{AllAt, event-lines}
use Rattle.log_laws.proofs.Played.{RunWorld, own-start, after-sound, opening-sound}
use Rattle.log_laws.proofs.Followed.{event-goes, opening-agrees}
use Rattle.log_laws.proofs.Runs.{stops, rests, head-add, behind-add}

-- a line of the scenario's bus, up to its stop
abbrev IsOwn : Scenario → Line → Type 0
IsOwn p (On t bus node told) = IsOf p t bus
IsOwn p (Down t node cause) = ⊥
IsOwn p (Over t node) = ⊥
IsOwn p (End status events) = ⊥

at-own : (p : Scenario) (now : ℕ) (line : Line) → now ≤ p.stop → IsAt p.setup now line → IsOwn p line
at-own p now (On t bus node told) l a = record { within = subst (λ n. n ≤ p.stop) (sym a.0) l; here = a.1 }
at-own p now (Down t node cause) l a = absurd a
at-own p now (Over t node) l a = absurd a
at-own p now (End status events) l a = absurd a

all-own : (p : Scenario) (now : ℕ) (lines : List Line) → now ≤ p.stop → AllAt p.setup now lines → (line : Line) → Among lines line → IsOwn p line
all-own p now [] l a line k = absurd k
all-own p now (x ∷ lines) l a line (inl e) = subst (IsOwn p) e (at-own p now x l a.0)
all-own p now (x ∷ lines) l a line (inr k) = all-own p now lines l a.1 line k

module _ (p : Scenario) where
  run-own : (k : ℕ) (w : World) (m : Mirror) → RunWorld p w → Offered w.bus → Agrees m w.bus → (line : Line) → Among (head (machine p.stop) k w) line → IsOwn p line
  unfolding head
  run-own zero w m h f a line c = absurd c
  run-own (suc k) w m h f a line c = go (next_event p.stop w) refl c (λ v x i g b. run-own k v x i g b line)
    where
      go : (o : Option Due) → next_event p.stop w ≡ o → Among (then_from [] (λ x. x.1 ++ head (machine p.stop) k x.0) (option_map (world_behind w) o)) line
          → ((v : World) (x : Mirror) → RunWorld p v → Offered v.bus → Agrees x v.bus → Among (head (machine p.stop) k v) line → IsOwn p line) → IsOwn p line
      go None e c on = absurd c
      go (Some d) e c on = either (append-among (event_step w d.moment d.what).1 (head (machine p.stop) k (world_behind w d).0) line c)
        where
          either : Among (event_step w d.moment d.what).1 line ⊎ Among (head (machine p.stop) k (world_behind w d).0) line → IsOwn p line
          either (inl i) = all-own p d.moment (event_step w d.moment d.what).1 (within-stop p.stop w d e) (event-lines p w m d.moment d.what (own-start p w d e) h a).at line i
          either (inr i) =
              let g = event-goes p w m d.moment d.what (own-start p w d e) (own-finish p.stop w d e) h f a in
              on (world_behind w d).0 (follow p.setup m (event_step w d.moment d.what).1) (after-sound p w d e h) g.0 g.1.agrees i

  pub head-own : (k : ℕ) → IsScenario p → (line : Line) → Among (head (machine p.stop) k (opening p)) line → IsOwn p line
  head-own k h line c = run-own k (opening p) (new_mirror p.nodes) (opening-sound p h) (opening-agrees p).1 (opening-agrees p).0 line c

  own-told : (line : Line) → IsOwn p line → is_told line ≡ true
  own-told (On t bus node told) k = refl
  own-told (Down t node cause) k = absurd k
  own-told (Over t node) k = absurd k
  own-told (End status events) k = absurd k

  -- how many events there were
  record Counted (k : ℕ) (w : World) : Type 0 where
    within : (behind (machine p.stop) k w).events ≤ w.events + k
    spent : (d : Due) → next_event p.stop (behind (machine p.stop) k w) ≡ Some d → (behind (machine p.stop) k w).events ≡ w.events + k

  counted : (k : ℕ) (w : World) → Counted k w
  unfolding behind
  counted zero w = record { within = omega arith; spent = λ d e. omega arith }
  counted (suc k) w = go (next_event p.stop w) refl (λ v. counted k v)
    where
      from : World → Option Due → World
      from w o = then_from w (λ x. behind (machine p.stop) k x.0) (option_map (world_behind w) o)

      whole : (o : Option Due) → next_event p.stop w ≡ o → (from w o).events ≤ w.events + suc k
          → ((d : Due) → next_event p.stop (from w o) ≡ Some d → (from w o).events ≡ w.events + suc k) → Counted (suc k) w
      whole o e l s = record {
        within = subst (λ x. (from w x).events ≤ w.events + suc k) (sym e) l;
        spent = subst (λ x. (d : Due) → next_event p.stop (from w x) ≡ Some d → (from w x).events ≡ w.events + suc k) (sym e) s;
      }

      go : (o : Option Due) → next_event p.stop w ≡ o → ((v : World) → Counted k v) → Counted (suc k) w
      go None e on = whole None e (omega arith) (λ d q. absurd (let z : Some d ≡ None = sym q ∙ e in cc))
      go (Some c) e on =
          let r = on (world_behind w c).0 in
          whole (Some c) e (omega (arith, r.within)) (λ d q. let z = r.spent d q in omega (arith, z))

  last_world : ℕ → World
  last_world k = behind (machine p.stop) k (opening p)

  pub ends-with : (k : ℕ) → IsScenario p → EndsWith (scenario_status k p) k (scenario_lines k p)
  unfolding last_world
  ends-with k h = record {
    body = head (machine p.stop) k (opening p);
    events = (last_world k).events;
    split = refl;
    told = All-each (λ line. is_told line ≡ true) (head (machine p.stop) k (opening p)) (λ line c. own-told line (head-own k h line c));
    within = let c = counted k (opening p) in omega (arith, c.within);
    spent = λ e. left (next_event p.stop (last_world k)) refl e;
  }
    where
      left : (o : Option Due) → next_event p.stop (last_world k) ≡ o → status o ≡ 8 → (last_world k).events ≡ k
      left None q e = absurd (omega (arith, e))
      left (Some d) q e = let c = (counted k (opening p)).spent d q in omega (arith, c)

  pub goes-on : (budget more : ℕ) → GoesOn budget more p
  unfolding last_world
  goes-on j k = record {
    body = head (machine p.stop) j (opening p);
    events = (last_world j).events;
    rest = head (machine p.stop) k (last_world j) ++ End (status (next_event p.stop (behind (machine p.stop) (j + k) (opening p)))) (behind (machine p.stop) (j + k) (opening p)).events ∷ [];
    smaller = refl;
    larger = ap (λ l. l ++ End (status (next_event p.stop (behind (machine p.stop) (j + k) (opening p)))) (behind (machine p.stop) (j + k) (opening p)).events ∷ []) (head-add (machine p.stop) j k (opening p))
        ∙ append_assoc (head (machine p.stop) j (opening p)) (head (machine p.stop) k (last_world j))
        (End (status (next_event p.stop (behind (machine p.stop) (j + k) (opening p)))) (behind (machine p.stop) (j + k) (opening p)).events ∷ []);
    nothing = λ e.
        let n = over (next_event p.stop (last_world j)) refl e in
        let same : behind (machine p.stop) (j + k) (opening p) ≡ last_world j = behind-add (machine p.stop) j k (opening p) ∙ rests (machine p.stop) k (last_world j) n in
        ap (λ w. head (machine p.stop) (j + k) (opening p) ++ End (status (next_event p.stop w)) w.events ∷ []) same
        ∙ ap (λ l. l ++ End (status (next_event p.stop (last_world j))) (last_world j).events ∷ [])
        (head-add (machine p.stop) j k (opening p) ∙ ap (λ l. head (machine p.stop) j (opening p) ++ l) (stops (machine p.stop) k (last_world j) n)
        ∙ append-nil (head (machine p.stop) j (opening p)));
  }
    where
      over : (o : Option Due) → next_event p.stop (last_world j) ≡ o → status o ≡ 0 → option_map (world_behind (last_world j)) (next_event p.stop (last_world j)) ≡ None
      over None q e = ap (option_map (world_behind (last_world j))) q
      over (Some d) q e = absurd (omega (arith, e))

at-among : (before rest : List Line) (line : Line) → Among (before ++ line ∷ rest) line
at-among [] rest line = inl refl
at-among (x ∷ before) rest line = inr (at-among before rest line)

pub lines-are-of : (k : ℕ) (p : Scenario) → IsScenario p → LinesAreOf p (scenario_lines k p)
lines-are-of k p h before rest t bus node told e =
    go (append-among (head (machine p.stop) k (opening p)) (End (status (next_event p.stop (behind (machine p.stop) k (opening p)))) (behind (machine p.stop) k (opening p)).events ∷ []) (On t bus node told)
    (subst (λ l. Among l (On t bus node told)) (sym e) (at-among before rest (On t bus node told))))
  where
    go : Among (head (machine p.stop) k (opening p)) (On t bus node told) ⊎ Among (End (status (next_event p.stop (behind (machine p.stop) k (opening p)))) (behind (machine p.stop) k (opening p)).events ∷ []) (On t bus node told)
        → IsOf p t bus
    go (inl c) = head-own p k h (On t bus node told) c
    go (inr (inl s)) = absurd cc
    go (inr (inr c)) = absurd c
