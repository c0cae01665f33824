-- Each start is prompt.
use Rattle.std.proofs.Common.{◌≡◌, ℕ, zero, suc, ◌<◌, ◌≤◌, ◌==◌, Bool, true, false, cond, List, [], ◌∷◌, ◌++◌, map, filter, fold, max, Option, Some, None, arith, refl, ap, ◌∙◌, sym, subst, inl, inr}
use Rattle.std.specs.Prelude.{flat_map, option_map, nat_le, ⊤}
use Rattle.std.specs.List.{list_any}
use Rattle.std.proofs.lemmas.Bool.{and_parts, and_from, both_ways, leb-true, eqb-true, false_from_ne_true}
use Rattle.log_specs.specs.Line.{Line, On, Down, Over, End, Told}
use Rattle.log_specs.specs.Line as log
use Rattle.bus_specs.specs.Bus.{Bus, Setup, Member, Request, has_request, wants, ready_moment, winner}
use Rattle.bus_specs.specs.Bus as bus
use Rattle.bus_specs.specs.Inbox.{take_inbox}
use Rattle.bus_specs.specs.Submit.{submission_of}
use Rattle.bus_specs.specs.Start.{losers, loser_told, start_with, start}
use Rattle.bus_specs.specs.Finish.{finish, recover}
use Rattle.bus_specs.specs.Due.{Due, What, Finish, Return, Notices, Start, at, next_due}
use Rattle.run_specs.specs.Run.{behind, head, then_from}
use Rattle.play_specs.specs.Scenario.{Action, Scenario, World, opening, next_event, along, takers, action_step, moment_step, event_step, world_behind, status, machine, scenario_lines}
use Rattle.bus_sound.proofs.Among.{Among, filter-among}
use Rattle.bus_sound.proofs.Lists.{map-among, any_from, each-All}
use Rattle.bus_sound.proofs.Dues.{start-due}
use Rattle.bus_sound.proofs.Quiet.{take_inbox-sound}
use Rattle.log_laws.specs.Scenarios.{Acts, IsScenario}
use Rattle.log_laws.specs.Mirror.{Seen, Mirror, mirror, mirror_after, new_mirror}
use Rattle.log_laws.specs.Starts.{able, ready_from, of_node, contenders, moment_after, IsPrompt, StartsArePrompt}
use Rattle.log_laws.specs.Losers.{tells_start}
use Rattle.log_laws.proofs.Rows.{filter-map}
use Rattle.log_laws.proofs.Firsts.{shown}
use Rattle.log_laws.proofs.Lawful.{Agrees, seen, follow}
use Rattle.log_laws.proofs.Known.{Offered}
use Rattle.log_laws.proofs.Offers.{takes-part, ready}
use Rattle.log_laws.proofs.Moments.{IsAt, IsNoStart, Quiet, quiet-append, finish-quiet, recover-quiet, submit-quiet, take-quiet, losses-quiet, Some_lines}
use Rattle.log_laws.proofs.Due.{own-finish, start-least, event-some}
use Rattle.log_laws.proofs.Played.{RunBus, RunWorld, steady, action_step-sound, own-start, after-sound, opening-sound}
use Rattle.bus_sound.proofs.Steady.{take-steady}
use Rattle.log_laws.proofs.Followed.{event-goes, opening-agrees, all-pairs}

flat-nothing : {X Y : Type 0} (f : X → List Y) (p : X → Bool) (xs : List X) → ((x : X) → Among xs x → p x ≡ true → f x ≡ [])
    → flat_map f (filter p xs) ≡ []
flat-nothing f p [] h = refl
flat-nothing {X} {Y} f p (x ∷ xs) h = go (p x) refl (flat-nothing f p xs (λ y a. h y (inr a)))
  where
    go : (t : Bool) → p x ≡ t → flat_map f (filter p xs) ≡ [] → flat_map f (cond t (x ∷ filter p xs) (filter p xs)) ≡ []
    go true e k = rw (h x (inl refl) e) k
    go false e k = k

module _ (b : Bus) (m : Mirror) (since now : ℕ) (a : Agrees m b) (live : (x : Member) → Among b.members x → x.live ≡ true)
    (least : (x : Member) → Among b.members x → wants b x ≡ true → now ≤ max since (ready_moment b x)) where
  none-waits : (n : ℕ) → has_request b.requests n ≡ false → of_node m.waits n ≡ []
  none-waits n e = ap (λ ws. of_node ws n) a.waits ∙ filter-map (λ w. w.node == n) shown b.requests ∙ ap (map shown) (none b.requests e)
    where
      none : (l : List Request) → list_any (λ r. r.node == n) l ≡ false → filter (λ r. r.node == n) l ≡ []
      none [] k = refl
      none (r ∷ l) k = let h : (r.node == n) ≡ false = false_from_ne_true (r.node == n)
          (λ t. both_ways (list_any (λ r. r.node == n) (r ∷ l)) k (any_from (λ r. r.node == n) (r ∷ l) r (inl refl) t)) in
          rw h (none l (rw h at k))

  nothing-before : (earlier : ℕ) → since ≤ earlier → earlier < now → (x : Member) → Among b.members x
      → able b.setup m earlier (seen x) ≡ true → of_node m.waits x.node ≡ []
  nothing-before earlier from before x k t = go (has_request b.requests x.node) refl
    where
      both : (Rattle.log_laws.specs.Mirror.takes_part (seen x) ≡ true) × (nat_le (ready_from b.setup m (seen x)) earlier ≡ true)
      both = and_parts (Rattle.log_laws.specs.Mirror.takes_part (seen x)) (nat_le (ready_from b.setup m (seen x)) earlier) t

      part : bus.takes_part x ≡ true
      part = sym (takes-part b m now a live x k) ∙ both.0

      soon : ready_moment b x ≤ earlier
      soon = subst (λ n. n ≤ earlier) (ready b m now a live x) (leb-true (ready_from b.setup m (seen x)) earlier both.1)

      go : (u : Bool) → has_request b.requests x.node ≡ u → of_node m.waits x.node ≡ []
      go false e = none-waits x.node e
      go true e =
          let l : now ≤ max since (ready_moment b x) = least x k (and_from (bus.takes_part x) (has_request b.requests x.node) part e) in
          absurd (omega (arith, l, soon, from, before))

  -- before this moment no node is able that has something waiting
  pub none-able : (earlier : ℕ) → since ≤ earlier → earlier < now → contenders b.setup m earlier ≡ []
  none-able earlier from before = ap (λ xs. flat_map (λ (x : Seen). of_node m.waits x.node) (filter (able b.setup m earlier) xs)) a.nodes
      ∙ flat-nothing (λ (x : Seen). of_node m.waits x.node) (able b.setup m earlier) (map seen b.members) (λ y k t.
      let r = map-among seen b.members y k in
      ap (λ (z : Seen). of_node m.waits z.node) (sym r.2) ∙ nothing-before earlier from before r.0 r.1
      (ap (able b.setup m earlier) r.2 ∙ t))

-- prompt starts along lines
abbrev PromptTold : Setup → Mirror → ℕ → ℕ → Told → Type 0
PromptTold s m last t (log.Start f) = IsPrompt s m last t
PromptTold s m last t other = ⊤

abbrev PromptLine : Setup → Mirror → ℕ → Line → Type 0
PromptLine s m last (On t bus node told) = PromptTold s m last t told
PromptLine s m last (Down t node cause) = ⊤
PromptLine s m last (Over t node) = ⊤
PromptLine s m last (End status events) = ⊤

abbrev Prompts : Setup → Mirror → ℕ → List Line → Type 0
Prompts s m last [] = ⊤
Prompts s m last (line ∷ lines) = PromptLine s m last line × Prompts s (mirror_after s m line) (moment_after last line) lines

no-start-prompt : (s : Setup) (m : Mirror) (last t : ℕ) (told : Told) → tells_start told ≡ false → PromptTold s m last t told
no-start-prompt s m last t (log.Start f) e = absurd cc
no-start-prompt s m last t other e = tt

quiet-line : (s : Setup) (m : Mirror) (last now : ℕ) (line : Line) → IsAt s now line → IsNoStart line → PromptLine s m last line
quiet-line s m last now (On t bus node told) a n = no-start-prompt s m last t told n
quiet-line s m last now (Down t node cause) a n = tt
quiet-line s m last now (Over t node) a n = tt
quiet-line s m last now (End status events) a n = tt

quiet-prompts : (s : Setup) (now : ℕ) (lines : List Line) (m : Mirror) (last : ℕ) → Quiet s now lines → Prompts s m last lines
quiet-prompts s now [] m last q = tt
quiet-prompts s now (line ∷ lines) m last q = (
  quiet-line s m last now line q.0.0 q.0.1,
  quiet-prompts s now lines (mirror_after s m line)
      (moment_after last line) q.1,
)

prompts-append : (s : Setup) (xs ys : List Line) (m : Mirror) (last : ℕ) → Prompts s m last xs
    → Prompts s (follow s m xs) (fold moment_after last xs) ys → Prompts s m last (xs ++ ys)
prompts-append s [] ys m last h k = k
prompts-append s (x ∷ xs) ys m last h k = (h.0, prompts-append s xs ys (mirror_after s m x) (moment_after last x) h.1 k)

-- the lines of an event, all at its moment
abbrev pub AllAt : Setup → ℕ → List Line → Type 0
AllAt s now [] = ⊤
AllAt s now (line ∷ lines) = IsAt s now line × AllAt s now lines

quiet-at : (s : Setup) (now : ℕ) (lines : List Line) → Quiet s now lines → AllAt s now lines
quiet-at s now [] q = tt
quiet-at s now (line ∷ lines) q = (q.0.0, quiet-at s now lines q.1)

at-moment : (s : Setup) (now last : ℕ) (line : Line) → IsAt s now line → moment_after last line ≡ now
at-moment s now last (On t bus node told) a = a.0
at-moment s now last (Down t node cause) a = absurd a
at-moment s now last (Over t node) a = absurd a
at-moment s now last (End status events) a = absurd a

stays-at : (s : Setup) (now : ℕ) (lines : List Line) → AllAt s now lines → fold moment_after now lines ≡ now
stays-at s now [] a = refl
stays-at s now (line ∷ lines) a = ap (λ n. fold moment_after n lines) (at-moment s now now line a.0) ∙ stays-at s now lines a.1

pub comes-at : (s : Setup) (now last : ℕ) (lines : List Line) → AllAt s now lines → Some_lines lines → fold moment_after last lines ≡ now
comes-at s now last [] a k = absurd k
comes-at s now last (line ∷ lines) a k = ap (λ n. fold moment_after n lines) (at-moment s now last line a.0) ∙ stays-at s now lines a.1

-- the lines of an event
pub record EventLines (s : Setup) (m : Mirror) (last now : ℕ) (lines : List Line) : Type 0 where
  pub prompts : Prompts s m last lines
  pub at : AllAt s now lines

quiet-event : (s : Setup) (m : Mirror) (last now : ℕ) (lines : List Line) → Quiet s now lines → EventLines s m last now lines
quiet-event s m last now lines q = record { prompts = quiet-prompts s now lines m last q; at = quiet-at s now lines q }

setup-of : (p : Scenario) (b : Bus) → RunBus p b → (now : ℕ) (lines : List Line) → Quiet b.setup now lines → Quiet p.setup now lines
setup-of p b r now lines q = subst (λ s. Quiet s now lines) r.setup q

module _ (p : Scenario) where
  start-event : (w : World) (m : Mirror) (now : ℕ) → next_due w.bus w.now ≡ Some (at Start now) → w.now ≤ now → RunWorld p w
      → Agrees m w.bus → EventLines p.setup m w.now now (start w.bus now).1
  unfolding start
  start-event w m now d later h a = go (winner w.bus now)
    where
      go : (o : Option Request) → EventLines p.setup m w.now now (start_with w.bus now o).1
      go None = record { prompts = tt; at = tt }
      go (Some r) =
          let rest = setup-of p w.bus h.bus now (map (λ x. On now w.bus.setup.number x.node (loser_told w.bus x)) (losers w.bus now r.node))
          (losses-quiet w.bus now (losers w.bus now r.node)) in
          record {
            prompts = (
              subst (λ s. IsPrompt s m w.now now) h.bus.setup (record {
                later = later;
                not_before = none-able w.bus m w.now now a h.bus.live
                    (start-least w.bus w.now now d);
              }),
              quiet-prompts p.setup now (map (λ x. On now w.bus.setup.number x.node (loser_told w.bus x)) (losers w.bus now r.node))
                  (mirror_after p.setup m (On now w.bus.setup.number r.node (log.Start r.frame))) now rest,
            );
            at = (
              (refl, ap (λ (s : Setup). s.number) h.bus.setup),
              quiet-at p.setup now
                  (map (λ x. On now w.bus.setup.number x.node (loser_told w.bus x)) (losers w.bus now r.node)) rest,
            );
          }

  -- a bus of the scenario and quiet lines
  record Calm (now : ℕ) (q : Bus × List Line) : Type 0 where
    bus : RunBus p q.0
    lines : Quiet p.setup now q.1

  moment-calm : (w : World) (now : ℕ) → RunWorld p w → Quiet p.setup now (moment_step w now).1
  moment-calm w now h = (all-pairs (Calm now) action_step (filter (λ a. a.moment == now) w.ahead)
      (fold (along (λ b node. take_inbox b now node)) (w.bus, []) (takers w.bus now))
      (λ q x k c.
      let f = filter-among (λ (a : Action). a.moment == now) w.ahead x k in
      let there : x.moment ≡ now = eqb-true x.moment now f.1 in
      record {
        bus = action_step-sound p q.0 x (each-All (Acts p) w.ahead x h.ahead f.0) c.bus;
        lines = quiet-append p.setup now q.1 (action_step q.0 x).1 c.lines
            (subst (λ t. Quiet p.setup t (action_step q.0 x).1) there
            (setup-of p q.0 c.bus x.moment (action_step q.0 x).1 (submit-quiet q.0 x.moment x.node (submission_of (q.0).setup x.item))));
      })
      (all-pairs (Calm now) (λ b node. take_inbox b now node) (takers w.bus now) (w.bus, [])
      (λ q n k c. record {
        bus = steady p q.0 (take_inbox q.0 now n).0 c.bus (take-steady q.0 now n) (take_inbox-sound q.0 now n c.bus.sound);
        lines = quiet-append p.setup now q.1 (take_inbox q.0 now n).1 c.lines
            (setup-of p q.0 c.bus now (take_inbox q.0 now n).1 (take-quiet q.0 now n));
      })
      (record { bus = h.bus; lines = tt }))).lines

  pub event-lines : (w : World) (m : Mirror) (now : ℕ) (what : What) → (what ≡ Start → next_due w.bus w.now ≡ Some (at Start now))
      → RunWorld p w → Agrees m w.bus
      → EventLines p.setup m w.now now (event_step w now what).1
  event-lines w m now Finish d h a = quiet-event p.setup m w.now now (finish w.bus now).1
      (setup-of p w.bus h.bus now (finish w.bus now).1 (finish-quiet w.bus now))
  event-lines w m now (Return n) d h a = quiet-event p.setup m w.now now (recover w.bus now n).1
      (setup-of p w.bus h.bus now (recover w.bus now n).1 (recover-quiet w.bus now n))
  event-lines w m now Notices d h a = quiet-event p.setup m w.now now (moment_step w now).1 (moment-calm w now h)
  event-lines w m now Start d h a =
      let i = start-due w.bus w.now now (d refl) in
      start-event w m now (d refl) (omega (arith, i.moment)) h a

  run-prompts : (k : ℕ) (w : World) (m : Mirror) → RunWorld p w → Offered w.bus → Agrees m w.bus
      → Prompts p.setup m w.now (head (machine p.stop) k w)
  unfolding head
  run-prompts zero w m h f a = tt
  run-prompts (suc k) w m h f a = go (next_event p.stop w) refl (λ v x i g b. run-prompts k v x i g b)
    where
      go : (o : Option Due) → next_event p.stop w ≡ o
          → ((v : World) (x : Mirror) → RunWorld p v → Offered v.bus → Agrees x v.bus → Prompts p.setup x v.now (head (machine p.stop) k v))
          → Prompts p.setup m w.now (then_from [] (λ x. x.1 ++ head (machine p.stop) k x.0) (option_map (world_behind w) o))
      go None e on = tt
      go (Some d) e on =
          let g = event-goes p w m d.moment d.what (own-start p w d e) (own-finish p.stop w d e) h f a in
          let l = event-lines w m d.moment d.what (own-start p w d e) h a in
          let there : fold moment_after w.now (event_step w d.moment d.what).1 ≡ d.moment =
          comes-at p.setup d.moment w.now (event_step w d.moment d.what).1 l.at (event-some p.stop w d e) in
          prompts-append p.setup (event_step w d.moment d.what).1 (head (machine p.stop) k (world_behind w d).0) m w.now l.prompts
          (subst (λ n. Prompts p.setup (follow p.setup m (event_step w d.moment d.what).1) n (head (machine p.stop) k (world_behind w d).0))
          (sym there)
          (on (world_behind w d).0 (follow p.setup m (event_step w d.moment d.what).1) (after-sound p w d e h) g.0 g.1.agrees))

  lines-prompt : (k : ℕ) → IsScenario p → Prompts p.setup (new_mirror p.nodes) 0 (scenario_lines k p)
  lines-prompt k h = prompts-append p.setup (head (machine p.stop) k (opening p))
      (End (status (next_event p.stop (behind (machine p.stop) k (opening p)))) (behind (machine p.stop) k (opening p)).events ∷ [])
      (new_mirror p.nodes) 0 (run-prompts k (opening p) (new_mirror p.nodes) (opening-sound p h) (opening-agrees p).1 (opening-agrees p).0)
      (tt, tt)

prompt-at : (s : Setup) (m : Mirror) (last : ℕ) (before : List Line) (line : Line) (rest : List Line)
    → Prompts s m last (before ++ line ∷ rest)
    → PromptLine s (follow s m before) (fold moment_after last before) line
prompt-at s m last [] line rest h = h.0
prompt-at s m last (x ∷ before) line rest h = prompt-at s (mirror_after s m x) (moment_after last x) before line rest h.1

pub starts-prompt : (k : ℕ) (p : Scenario) → IsScenario p → StartsArePrompt p.setup p.nodes (scenario_lines k p)
starts-prompt k p h before rest t bus node f e = prompt-at p.setup (new_mirror p.nodes) 0 before (On t bus node (log.Start f)) rest
    (subst (λ l. Prompts p.setup (new_mirror p.nodes) 0 l) e (lines-prompt p k h))
