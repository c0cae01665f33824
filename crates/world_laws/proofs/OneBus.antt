-- In an event each bus goes its own way: the buses behind it are a map of those before it.
use Rattle.std.proofs.Common.{◌≡◌, ℕ, ◌==◌, Bool, true, false, if◌then◌else◌, List, [], ◌∷◌, map, fold, All, sym, refl, ap, ◌∙◌}
use Rattle.log_specs.specs.Line.{Line}
use Rattle.operation_specs.specs.Reading.{Item}
use Rattle.session_specs.specs.Outcome.{End}
use Rattle.session_specs.specs.Outcome as session
use Rattle.bus_specs.specs.Bus.{Bus}
use Rattle.bus_specs.specs.Start.{start}
use Rattle.bus_specs.specs.Finish.{finish, recover}
use Rattle.bus_specs.specs.Submit.{Submission, submission_of, submit}
use Rattle.bus_specs.specs.Inbox.{take_inbox, enter, leave}
use Rattle.bus_sound.proofs.Among.{Among}
use Rattle.world_specs.specs.Units.{Units}
use Rattle.world_specs.specs.World.{World}
use Rattle.world_specs.specs.Next.{What, Finish, Return, Sessions, Start}
use Rattle.world_specs.specs.Sessions.{Turn, turns, is_new, with_entered, on_each_bus, items_on, submission_step, emission_step, end_step, turn_step, turns_step}
use Rattle.world_specs.specs.Step.{outcome_of}
use Rattle.world_laws.proofs.Lists.{map-map, map-id, all-map, all-same}

-- one bus: a new node enters, a node has its turn
abbrev pub entry : {S : Type 0} → Bus → Turn S → Bus
entry b x = if is_new x.node.standing then enter b x.node.number else b

abbrev pub by_end : End → ℕ → Bus → Bus
by_end session.Live node b = b
by_end session.Over node b = leave b node
by_end (session.Down cause) node b = leave b node

abbrev pub turn_on : {S : Type 0} → ℕ → Bus → Turn S → Bus
turn_on t b x = by_end x.out.end x.node.number (emission_step t x (take_inbox b t x.node.number).0).0

abbrev pub turns_on : {S : Type 0} → ℕ → List (Turn S) → Bus → Bus
turns_on t xs b = fold (turn_on t) (fold entry b xs) xs

entered-buses : {S : Type 0} (xs : List (Turn S)) (bs : List Bus) → fold with_entered bs xs ≡ map (λ b. fold entry b xs) bs
entered-buses [] bs = sym (map-id bs)
entered-buses (x ∷ xs) bs =
    entered-buses xs (with_entered bs x) ∙ ap (λ cs. map (λ b. fold entry b xs) cs) (go (is_new x.node.standing)) ∙ map-map (λ b. fold entry b xs) (λ b. entry b x) bs
  where
    go : (q : Bool) → (if q then map (λ b. enter b x.node.number) bs else bs) ≡ map (λ b. if q then enter b x.node.number else b) bs
    go true = refl
    go false = sym (map-id bs)

turn-buses : {S : Type 0} (t : ℕ) (p : List Bus × List Line) (x : Turn S) → (turn_step t p x).0 ≡ map (λ b. turn_on t b x) p.0
turn-buses t p x = go x.out.end
  where
    emitted : map (λ b. (emission_step t x b).0) (map (λ b. (take_inbox b t x.node.number).0) p.0) ≡ map (λ b. (emission_step t x (take_inbox b t x.node.number).0).0) p.0
    emitted = map-map (λ b. (emission_step t x b).0) (λ b. (take_inbox b t x.node.number).0) p.0

    leaving : map (λ b. leave b x.node.number) (map (λ b. (emission_step t x b).0) (map (λ b. (take_inbox b t x.node.number).0) p.0))
        ≡ map (λ b. leave (emission_step t x (take_inbox b t x.node.number).0).0 x.node.number) p.0
    leaving = ap (λ cs. map (λ b. leave b x.node.number) cs) emitted ∙ map-map (λ b. leave b x.node.number) (λ b. (emission_step t x (take_inbox b t x.node.number).0).0) p.0

    go : (e : End) → (end_step t x.node.number e (on_each_bus (emission_step t x) (on_each_bus (λ b. take_inbox b t x.node.number) p))).0
        ≡ map (λ b. by_end e x.node.number (emission_step t x (take_inbox b t x.node.number).0).0) p.0
    go session.Live = emitted
    go session.Over = leaving
    go (session.Down cause) = leaving

all-turn-buses : {S : Type 0} (t : ℕ) (xs : List (Turn S)) (p : List Bus × List Line) → (fold (turn_step t) p xs).0 ≡ map (λ b. fold (turn_on t) b xs) p.0
all-turn-buses t [] p = sym (map-id p.0)
all-turn-buses t (x ∷ xs) p =
    all-turn-buses t xs (turn_step t p x) ∙ ap (λ cs. map (λ b. fold (turn_on t) b xs) cs) (turn-buses t p x) ∙ map-map (λ b. fold (turn_on t) b xs) (λ b. turn_on t b x) p.0

pub turns-buses : {S : Type 0} (t : ℕ) (xs : List (Turn S)) (bs : List Bus) → (turns_step t bs xs).0 ≡ map (turns_on t xs) bs
turns-buses t xs bs =
    all-turn-buses t xs (fold with_entered bs xs, []) ∙ ap (λ cs. map (λ b. fold (turn_on t) b xs) cs) (entered-buses xs bs)
    ∙ map-map (λ b. fold (turn_on t) b xs) (λ b. fold entry b xs) bs

-- one bus behind an event
abbrev pub bus_behind : {S : Type 0} → Units S → World S → ℕ → What → Bus → Bus
bus_behind u w t (Finish bus) b = if b.setup.number == bus then (finish b t).0 else b
bus_behind u w t (Return bus node) b = if b.setup.number == bus then (recover b t node).0 else b
bus_behind u w t Sessions b = turns_on t (turns u w.buses t w.nodes) b
bus_behind u w t (Start bus) b = if b.setup.number == bus then (start b t).0 else b

pub buses-behind : {S : Type 0} (u : Units S) (w : World S) (t : ℕ) (k : What) → (outcome_of u w t k).buses ≡ map (bus_behind u w t k) w.buses
buses-behind u w t (Finish bus) = refl
buses-behind u w t (Return bus node) = refl
buses-behind u w t Sessions = turns-buses t (turns u w.buses t w.nodes) w.buses
buses-behind u w t (Start bus) = refl

-- what each bus keeps, all keep
pub each-bus : {S : Type 0} (u : Units S) (w : World S) (t : ℕ) (k : What) (P Q : Bus → Type 0) → ((b : Bus) → Among w.buses b → P b → Q (bus_behind u w t k b))
    → All P w.buses → All Q (outcome_of u w t k).buses
each-bus u w t k P Q h a = all-same Q (map (bus_behind u w t k) w.buses) (outcome_of u w t k).buses (sym (buses-behind u w t k)) (all-map P Q (bus_behind u w t k) w.buses h a)

-- what a call keeps, a turn keeps
pub record Kept (t : ℕ) (P : Bus → Type 0) : Type 0 where
  pub enter : (b : Bus) (node : ℕ) → P b → P (enter b node)
  pub take : (b : Bus) (node : ℕ) → P b → P (take_inbox b t node).0
  pub submit : (b : Bus) (node : ℕ) (what : Submission) → P b → P (submit b t node what).0
  pub leave : (b : Bus) (node : ℕ) → P b → P (leave b node)

module _ (t : ℕ) (P : Bus → Type 0) (k : Kept t P) where
  items-kept : (node : ℕ) (items : List Item) (p : Bus × List Line) → P p.0 → P (fold (submission_step t node) p items).0
  items-kept node [] p h = h
  items-kept node (i ∷ items) p h = items-kept node items (submission_step t node p i) (k.submit p.0 node (submission_of p.0.setup i) h)

module _ {S : Type 0} (t : ℕ) (P : Bus → Type 0) (k : Kept t P) where
  entries-kept : (xs : List (Turn S)) (b : Bus) → P b → P (fold entry b xs)
  entries-kept [] b h = h
  entries-kept (x ∷ xs) b h = entries-kept xs (entry b x) (go (is_new x.node.standing))
    where
      go : (q : Bool) → P (if q then enter b x.node.number else b)
      go true = k.enter b x.node.number h
      go false = h

  turn-kept : (x : Turn S) (b : Bus) → P b → P (turn_on t b x)
  turn-kept x b h = go x.out.end
    where
      emitted : P (emission_step t x (take_inbox b t x.node.number).0).0
      emitted = items-kept t P k x.node.number (items_on x (take_inbox b t x.node.number).0.setup.number) ((take_inbox b t x.node.number).0, []) (k.take b x.node.number h)

      go : (e : End) → P (by_end e x.node.number (emission_step t x (take_inbox b t x.node.number).0).0)
      go session.Live = emitted
      go session.Over = k.leave (emission_step t x (take_inbox b t x.node.number).0).0 x.node.number emitted
      go (session.Down cause) = k.leave (emission_step t x (take_inbox b t x.node.number).0).0 x.node.number emitted

  fold-kept : (xs : List (Turn S)) (b : Bus) → P b → P (fold (turn_on t) b xs)
  fold-kept [] b h = h
  fold-kept (x ∷ xs) b h = fold-kept xs (turn_on t b x) (turn-kept x b h)

  pub turns-kept : (xs : List (Turn S)) (b : Bus) → P b → P (turns_on t xs b)
  turns-kept xs b h = fold-kept xs (fold entry b xs) (entries-kept xs b h)
