-- A log is silent of a node that is down or over.
use Rattle.std.proofs.Common.{◌≡◌, ◌⊎◌, ℕ, zero, suc, ◌==◌, ◌&&◌, Bool, true, false, not, if◌then◌else◌, List, [], ◌∷◌, ◌++◌, map, filter, fold, Option, Some, None, All, Contains, sym, refl, ap, ◌∙◌, subst, inl, inr, append_assoc, eq-eqb}
use Rattle.std.specs.Prelude.{flat_map, option_map, option_to_list}
use Rattle.std.proofs.lemmas.Bool.{both_ways, eqb-true, false_from_ne_true, and_parts}
use Rattle.operation_specs.specs.Reading.{Item}
use Rattle.log_specs.specs.Line.{Line, On, Down, Over, End, Told}
use Rattle.log_specs.specs.Line as log
use Rattle.run_specs.specs.Run.{behind, head, then_from}
use Rattle.run_specs.specs.Run as run
use Rattle.session_specs.specs.Outcome as session
use Rattle.bus_specs.specs.Counters.{level}
use Rattle.bus_specs.specs.Bus.{Bus, Member, Running, Request, Fault, Hurt, LostNotice, FormatNotice, among, has_request, offers, winner}
use Rattle.bus_specs.specs.Start.{start, start_with, losers, loser_told, discards}
use Rattle.bus_specs.specs.Finish.{finish, finish_with, outcome_line, hurt_lines, state_lines, same_level, counters_after, receivers, recover}
use Rattle.bus_specs.specs.Submit.{Submission, Transmit, Keep, Discard, Wakeup, Sleep, Rate, FdRate, Declare, FormatError, Unfit, Fate, Accepted, Full, Dropped, fate, told_fate, told_of, submission_of, submit}
use Rattle.bus_specs.specs.Inbox.{take_inbox, members_at, told_notices, due_lost, due_format, due_wake}
use Rattle.bus_sound.proofs.Among.{Among, among-Contains, filter-among}
use Rattle.bus_sound.proofs.Lists.{All-each, each-All, map-among, append-among, flat_map-among, among-map, any_to, any_from, none_from}
use Rattle.bus_sound.proofs.Orders.{foremost-among}
use Rattle.bus_sound.proofs.Foremost.{better}
use Rattle.world_specs.specs.Units.{Units}
use Rattle.world_specs.specs.World.{World, Node, Standing, New, Live}
use Rattle.world_specs.specs.World as world
use Rattle.world_specs.specs.Next.{What, Finish, Return, Sessions, Start, Event, next_event}
use Rattle.world_specs.specs.Sessions.{Turn, turns, with_entered, on_each_bus, items_on, submission_step, emission_step, end_step, turn_step, node_after, takes_part}
use Rattle.world_specs.specs.Step.{outcome_of, world_behind, event_lines}
use Rattle.world_specs.specs.Network.{step, network, close_of, close_from, failure_lines, lines_of_close, close_lines, closing, run_lines}
use Rattle.world_specs.specs.Fits.{UnitsFit, Fits, IsJoined, is_live, is_live_node}
use Rattle.world_laws.specs.Words.{IsDownOrOver, IsLeft}
use Rattle.world_laws.specs.Silence.{IsNotTo, IsSilentOf}
use Rattle.world_laws.proofs.Lists.{one-of-number}
use Rattle.world_laws.proofs.Changed.{out-not-called, not-called-stays, turn-among}
use Rattle.world_laws.proofs.Fitting.{fits-step}
use Rattle.world_laws.proofs.Left.{left}
use Rattle.world_laws.proofs.Starting.{offers-wait}

module _ (node : ℕ) where
  abbrev Lines : List Line → Type 0
  Lines ls = (l : Line) → Among ls l → IsSilentOf node l

  none : Lines []
  none l a = absurd a

  one : (l : Line) → IsSilentOf node l → Lines (l ∷ [])
  one l h m (inl e) = subst (IsSilentOf node) e h
  one l h m (inr a) = absurd a

  more : (l : Line) (ls : List Line) → IsSilentOf node l → Lines ls → Lines (l ∷ ls)
  more l ls h k m (inl e) = subst (IsSilentOf node) e h
  more l ls h k m (inr a) = k m a

  both : (ls ms : List Line) → Lines ls → Lines ms → Lines (ls ++ ms)
  both ls ms h k l a = go (append-among ls ms l a)
    where
      go : Among ls l ⊎ Among ms l → IsSilentOf node l
      go (inl b) = h l b
      go (inr b) = k l b

  each : {X : Type 0} (f : X → List Line) (xs : List X) → ((x : X) → Among xs x → Lines (f x)) → Lines (flat_map f xs)
  each f xs h l a = let r = flat_map-among f xs l a in h r.0 r.1 l r.2

  mapped : {X : Type 0} (f : X → Line) (xs : List X) → ((x : X) → Among xs x → IsSilentOf node (f x)) → Lines (map f xs)
  mapped f xs h l a = let r = map-among f xs l a in subst (IsSilentOf node) r.2 (h r.0 r.1)

  module _ (t : ℕ) where
    -- ---- the end of a frame, and a return

    finish-silent : (b : Bus) → ((m : Member) → Among b.members m → m.node ≡ node → m.live ≡ false) → Lines (finish b t).1
    unfolding finish
    finish-silent b out = go b.running
      where
        not-to : (r : Running) → among (receivers b r) node ≡ false
        not-to r = false_from_ne_true (among (receivers b r) node) (λ e.
            let i = any_to (λ n. n == node) (receivers b r) e in
            let m = map-among (λ (m : Member). m.node) (filter (λ m. among r.listeners m.node && m.live && m.awake) b.members) i.0 i.1 in
            let f = filter-among (λ (m : Member). among r.listeners m.node && m.live && m.awake) b.members m.0 m.1 in
            let p = and_parts (among r.listeners (m.0).node && (m.0).live) (m.0).awake f.1 in
            both_ways (m.0).live (out m.0 f.0 (m.2 ∙ eqb-true i.0 node i.2)) (and_parts (among r.listeners (m.0).node) (m.0).live p.0).1)

        outcome : (r : Running) (o : Option Fault) → IsSilentOf node (outcome_line b t r o)
        outcome r None = (λ e. tt, not-to r)
        outcome r (Some f) = (λ e. tt, tt)

        hurts : (o : Option Hurt) → Lines (hurt_lines b t o)
        hurts None = none
        hurts (Some h) = one _ (λ e. tt, tt)

        states : (r : Running) (m : Member) → Lines (state_lines b t r m)
        states r m = by (same_level (level m.counters) (level (counters_after r m)))
          where
            by : (q : Bool) → Lines (if q then [] else On t b.setup.number m.node (log.State (level (counters_after r m))) ∷ [])
            by true = none
            by false = one _ (λ e. tt, tt)

        go : (o : Option Running) → Lines (finish_with b t o).1
        go None = none
        go (Some r) = more _ _ (outcome r r.fault) (both (hurt_lines b t r.hurt) _ (hurts r.hurt) (each (state_lines b t r) b.members (λ m a. states r m)))

    recover-silent : (b : Bus) (n : ℕ) → Lines (recover b t n).1
    unfolding recover
    recover-silent b n = one _ (λ e. tt, tt)

    -- ---- a start: a node with no request neither wins nor loses

    start-silent : (b : Bus) → has_request b.requests node ≡ false → Lines (start b t).1
    unfolding start winner
    start-silent b h = go (winner b t) refl
      where
        apart : (q : Request) → Among (offers b t) q → q.node ≡ node → ⊥
        apart q a e = both_ways (has_request b.requests node) h (any_from (λ r. r.node == node) b.requests q (offers-wait b t q a) (eq-eqb q.node node e))

        lost : (r : Request) (q : Bool) → IsNotTo node (if q then log.LostGone r.frame else log.LostKept r.frame)
        lost r true = tt
        lost r false = tt

        go : (o : Option Request) → winner b t ≡ o → Lines (start_with b t o).1
        go None e = none
        go (Some w) e = more _ _ (λ s. absurd (apart w (foremost-among better (offers b t) w e) s), tt)
            (mapped (λ r. On t b.setup.number r.node (loser_told b r)) (losers b t w.node)
            (λ r a. (λ s. absurd (apart r (filter-among (λ (x : Request). not (x.node == w.node)) (offers b t) r a).0 s), lost r (discards b r))))

    -- ---- the turn of another node

    told-apart : (b n : ℕ) (x : Told) → (n ≡ node → ⊥) → IsNotTo node x → IsSilentOf node (On t b n x)
    told-apart b n x ne h = (λ e. absurd (ne e), h)

    notice-not-to : (m : Member) (x : Told) → Among (told_notices t m) x → IsNotTo node x
    notice-not-to m x a = go (append-among (lost ++ format) wake x a)
      where
        lost : List Told
        lost = option_to_list (option_map (λ (n : LostNotice). log.ToldLost n.id) (due_lost t m))

        format : List Told
        format = option_to_list (option_map (λ (n : FormatNotice). log.ToldFormat n.bytes) (due_format t m))

        wake : List Told
        wake = option_to_list (option_map (λ (n : ℕ). log.ToldWake) (due_wake t m))

        by-lost : (o : Option LostNotice) → Among (option_to_list (option_map (λ (n : LostNotice). log.ToldLost n.id) o)) x → IsNotTo node x
        by-lost None c = absurd c
        by-lost (Some n) (inl e) = subst (IsNotTo node) e tt
        by-lost (Some n) (inr c) = absurd c

        by-format : (o : Option FormatNotice) → Among (option_to_list (option_map (λ (n : FormatNotice). log.ToldFormat n.bytes) o)) x → IsNotTo node x
        by-format None c = absurd c
        by-format (Some n) (inl e) = subst (IsNotTo node) e tt
        by-format (Some n) (inr c) = absurd c

        by-wake : (o : Option ℕ) → Among (option_to_list (option_map (λ (n : ℕ). log.ToldWake) o)) x → IsNotTo node x
        by-wake None c = absurd c
        by-wake (Some n) (inl e) = subst (IsNotTo node) e tt
        by-wake (Some n) (inr c) = absurd c

        first : Among lost x ⊎ Among format x → IsNotTo node x
        first (inl c) = by-lost (due_lost t m) c
        first (inr c) = by-format (due_format t m) c

        go : Among (lost ++ format) x ⊎ Among wake x → IsNotTo node x
        go (inl c) = first (append-among lost format x c)
        go (inr c) = by-wake (due_wake t m) c

    asked-not-to : (b : Bus) (n : ℕ) (x : Submission) → IsNotTo node (told_of b n x)
    asked-not-to b n (Transmit f) = go (fate b n)
      where
        go : (x : Fate) → IsNotTo node (told_fate f x)
        go Accepted = tt
        go Full = tt
        go Dropped = tt
    asked-not-to b n Keep = tt
    asked-not-to b n Discard = tt
    asked-not-to b n Wakeup = tt
    asked-not-to b n Sleep = tt
    asked-not-to b n (Rate v) = tt
    asked-not-to b n (FdRate v) = tt
    asked-not-to b n (Declare l) = tt
    asked-not-to b n (FormatError bytes) = tt
    asked-not-to b n (Unfit bytes) = tt

    module _ (n : ℕ) (ne : n ≡ node → ⊥) where
      take-silent : (b : Bus) → Lines (take_inbox b t n).1
      unfolding take_inbox
      take-silent b = each (λ m. map (On t b.setup.number n) (told_notices t m)) (members_at b n)
          (λ m c. mapped (On t b.setup.number n) (told_notices t m) (λ x a. told-apart b.setup.number n x ne (notice-not-to m x a)))

      line-silent : (b : Bus) (i : Item) → Lines ((submit b t n (submission_of b.setup i)).1 ∷ [])
      unfolding submit
      line-silent b i = one _ (told-apart b.setup.number n (told_of b n (submission_of b.setup i)) ne (asked-not-to b n (submission_of b.setup i)))

      submit-silent : (items : List Item) (p : Bus × List Line) → Lines p.1 → Lines (fold (submission_step t n) p items).1
      submit-silent [] p h = h
      submit-silent (i ∷ items) p h = submit-silent items (submission_step t n p i) (both p.1 ((submit p.0 t n (submission_of p.0.setup i)).1 ∷ []) h (line-silent p.0 i))

    on-each : (f : Bus → Bus × List Line) → ((b : Bus) → Lines (f b).1) → (p : List Bus × List Line) → Lines p.1 → Lines (on_each_bus f p).1
    on-each f h p k = both p.1 (flat_map (λ b. (f b).1) p.0) k (each (λ b. (f b).1) p.0 (λ b a. h b))

    turn-silent : {S : Type 0} (x : Turn S) → (x.node.number ≡ node → ⊥) → (p : List Bus × List Line) → Lines p.1 → Lines (turn_step t p x).1
    turn-silent x ne p h = go x.out.end
      where
        emitted : Lines (on_each_bus (emission_step t x) (on_each_bus (λ b. take_inbox b t x.node.number) p)).1
        emitted = on-each (emission_step t x) (λ b. submit-silent x.node.number ne (items_on x b.setup.number) (b, []) none) (on_each_bus (λ b. take_inbox b t x.node.number) p)
            (on-each (λ b. take_inbox b t x.node.number) (λ b. take-silent x.node.number ne b) p h)

        go : (e : session.End) → Lines (end_step t x.node.number e (on_each_bus (emission_step t x) (on_each_bus (λ b. take_inbox b t x.node.number) p))).1
        go session.Live = emitted
        go session.Over = both (on_each_bus (emission_step t x) (on_each_bus (λ b. take_inbox b t x.node.number) p)).1 _ emitted (one _ ne)
        go (session.Down cause) = both (on_each_bus (emission_step t x) (on_each_bus (λ b. take_inbox b t x.node.number) p)).1 _ emitted (one _ ne)

    turns-silent : {S : Type 0} (xs : List (Turn S)) → ((x : Turn S) → Among xs x → x.node.number ≡ node → ⊥) → (p : List Bus × List Line) → Lines p.1 → Lines (fold (turn_step t) p xs).1
    turns-silent [] ne p h = h
    turns-silent (x ∷ xs) ne p h = turns-silent xs (λ y a. ne y (inr a)) (turn_step t p x) (turn-silent x (ne x (inl refl)) p h)

-- ---- a node of a network

not-live : {S : Type 0} (s : Standing S) → IsDownOrOver s → is_live s ≡ false
not-live (New s) h = refl
not-live (Live s last clocks) h = absurd h
not-live world.Down h = refl
not-live world.Over h = refl

module _ {S : Type 0} (u : Units S) (n : Node S) (out : IsDownOrOver n.standing) where
  module _ (w : World S) (h : Fits w) (a : Among w.nodes n) where
    same-node : (m : Node S) → Among w.nodes m → m.number ≡ n.number → m ≡ n
    same-node m c e = one-of-number (λ (x : Node S). x.number) w.nodes m n h.node_numbers c a e

    gone : is_live_node w.nodes n.number ≡ false
    gone = none_from (λ m. (m.number == n.number) && is_live m.standing) w.nodes
        (λ m c. false_from_ne_true ((m.number == n.number) && is_live m.standing) (λ e.
        let p = and_parts (m.number == n.number) (is_live m.standing) e in
        both_ways (is_live n.standing) (not-live n.standing out) (subst (λ (x : Node S). is_live x.standing ≡ true) (same-node m c (eqb-true m.number n.number p.0)) p.1)))

    absent : (b : Bus) → Among w.buses b → (m : Member) → Among b.members m → m.node ≡ n.number → m.live ≡ false
    absent b c m d e = each-All (λ m. m.live ≡ is_live_node w.nodes m.node) b.members m (each-All (IsJoined w.nodes) w.buses b h.joined c) d ∙ ap (is_live_node w.nodes) e ∙ gone

    no-turn : (t : ℕ) (x : Turn S) → Among (turns u w.buses t w.nodes) x → x.node.number ≡ n.number → ⊥
    no-turn t x c e =
        let r = turn-among u w.buses t w.nodes x c in
        let s : r.0 ≡ n = same-node r.0 r.1 (ap (λ (m : Node S). m.number) (sym (r.2).node) ∙ e) in
        both_ways (takes_part w.buses t n) (out-not-called u w.buses t n out) (subst (λ (m : Node S). takes_part w.buses t m ≡ true) s (r.2).part)

    event-silent : (t : ℕ) (k : What) → Lines n.number (outcome_of u w t k).lines
    event-silent t (Finish bus) = each n.number (λ b. if b.setup.number == bus then (finish b t).1 else []) w.buses (λ b c. go b c (b.setup.number == bus))
      where
        go : (b : Bus) → Among w.buses b → (q : Bool) → Lines n.number (if q then (finish b t).1 else [])
        go b c true = finish-silent n.number t b (absent b c)
        go b c false = none n.number
    event-silent t (Return bus m) = each n.number (λ b. if b.setup.number == bus then (recover b t m).1 else []) w.buses (λ b c. go b (b.setup.number == bus))
      where
        go : (b : Bus) (q : Bool) → Lines n.number (if q then (recover b t m).1 else [])
        go b true = recover-silent n.number t b m
        go b false = none n.number
    event-silent t (Start bus) = each n.number (λ b. if b.setup.number == bus then (start b t).1 else []) w.buses (λ b c. go b c (b.setup.number == bus))
      where
        go : (b : Bus) → Among w.buses b → (q : Bool) → Lines n.number (if q then (start b t).1 else [])
        go b c true = start-silent n.number t b (each-All (IsLeft n.number) w.buses b (left w n.number h gone) c).requests
        go b c false = none n.number
    event-silent t Sessions = turns-silent n.number t (turns u w.buses t w.nodes) (no-turn t) (fold with_entered w.buses (turns u w.buses t w.nodes), []) (none n.number)

    still-there : (t : ℕ) (k : What) → Among (outcome_of u w t k).nodes n
    still-there t (Finish bus) = a
    still-there t (Return bus m) = a
    still-there t (Start bus) = a
    still-there t Sessions = subst (Among (map (node_after u w.buses t) w.nodes)) (not-called-stays u w.buses t n (out-not-called u w.buses t n out)) (among-map (node_after u w.buses t) w.nodes n a)

    close-silent : Lines n.number (close_lines u w)
    close-silent = each n.number (λ m. lines_of_close w.now m.number (close_of u m)) w.nodes (λ m c. go m c m.standing refl)
      where
        differs : (m : Node S) → Among w.nodes m → is_live m.standing ≡ true → m.number ≡ n.number → ⊥
        differs m c i e = both_ways (is_live n.standing) (not-live n.standing out) (subst (λ (x : Node S). is_live x.standing ≡ true) (same-node m c e) i)

        fails : (m : Node S) → (m.number ≡ n.number → ⊥) → (c : session.End) → Lines n.number (failure_lines w.now m.number c)
        fails m ne session.Live = none n.number
        fails m ne session.Over = none n.number
        fails m ne (session.Down cause) = one n.number _ ne

        go : (m : Node S) → Among w.nodes m → (s : Standing S) → m.standing ≡ s → Lines n.number (lines_of_close w.now m.number (close_from u m.number s))
        go m c (New s) e = none n.number
        go m c (Live s last clocks) e = fails m (differs m c (ap is_live e)) (u.close m.number s).0
        go m c world.Down e = none n.number
        go m c world.Over e = none n.number

    closing-silent : (stop : ℕ) → Lines n.number (closing u stop w)
    closing-silent stop = both n.number (close_lines u w) _ close-silent (one n.number _ tt)

  log-silent : (stop k : ℕ) (w : World S) → UnitsFit u → Fits w → Among w.nodes n → Lines n.number (run.log (network u stop) k w)
  unfolding behind head step
  log-silent stop zero w fit h a = closing-silent w h a stop
  log-silent stop (suc k) w fit h a = go (next_event stop w) refl (λ v i c. log-silent stop k v fit i c)
    where
      go : (o : Option Event) → next_event stop w ≡ o → ((v : World S) → Fits v → Among v.nodes n → Lines n.number (run.log (network u stop) k v))
          → Lines n.number (then_from [] (λ p. p.1 ++ head (network u stop) k p.0) (option_map (λ e. (world_behind u w e, event_lines u w e)) o)
          ++ closing u stop (then_from w (λ p. behind (network u stop) k p.0) (option_map (λ e. (world_behind u w e, event_lines u w e)) o)))
      go None e on = closing-silent w h a stop
      go (Some d) e on =
          let v : World S = world_behind u w d in
          subst (Lines n.number) (sym (append_assoc (event_lines u w d) (head (network u stop) k v) (closing u stop (behind (network u stop) k v))))
          (both n.number (event_lines u w d) (run.log (network u stop) k v) (event-silent w h a d.moment d.what) (on v (fits-step u stop w d fit h e) (still-there w h a d.moment d.what)))

pub silent : {S : Type 0} (u : Units S) (stop budget : ℕ) (w : World S) (n : Node S) → UnitsFit u → Fits w → Contains w.nodes n → IsDownOrOver n.standing
    → All (IsSilentOf n.number) (run_lines u stop budget w)
silent u stop budget w n fit h c out = All-each (IsSilentOf n.number) (run_lines u stop budget w) (log-silent u n out stop budget w fit h (among-Contains w.nodes n c))
