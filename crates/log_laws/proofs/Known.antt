-- What a mirror that agrees with a bus tells of it.
use Rattle.std.proofs.Common.{◌≡◌, ℕ, ◌==◌, Bool, true, false, not, if◌then◌else◌, List, [], ◌∷◌, map, IfSome, None, refl, ap, ◌∙◌, sym, subst, eq-eqb}
use Rattle.std.specs.Prelude.{◌&&◌, count_by}
use Rattle.operation_specs.specs.Operation.{Active, Passive, Off}
use Rattle.bus_specs.specs.Counters.{Counters, level, is_active, is_passive}
use Rattle.bus_specs.specs.Counters as counters
use Rattle.bus_specs.specs.Bus.{Bus, Setup, Member, Request, Running, off, member_is, waiting}
use Rattle.bus_specs.specs.Finish.{same_level}
use Rattle.log_specs.specs.Line.{Line, On, Told}
use Rattle.bus_sound.proofs.Quiet.{one}
use Rattle.log_laws.specs.Mirror.{Seen, Mirror, mirror_after, mirror_told, with_node, is_off}
use Rattle.log_laws.specs.Deliveries.{hurt_node}
use Rattle.log_laws.specs.Losers.{tells_loss}
use Rattle.log_laws.specs.Queues.{how_many, node_off}
use Rattle.log_laws.proofs.Rows.{count-map, any-map, any-same}
use Rattle.log_laws.proofs.Firsts.{First}
use Rattle.log_laws.proofs.Lawful.{Opens, LawfulTold, Follows, Agrees, seen}

-- the running frame's request is there, the first of its node's equal frames
abbrev pub request_of : Running → Request
request_of r = record { node = r.sender; number = r.number; frame = r.frame }

abbrev pub Offered : Bus → Type 0
Offered b = IfSome b.running (λ r. First b.requests (request_of r))

pub own : (s : Setup) (m : Mirror) (t n : ℕ) (told : Told) → mirror_after s m (On t s.number n told) ≡ mirror_told s m t n told
own s m t n told = rw (eq-eqb s.number s.number refl) refl

-- a step with one line
pub one-line : (s : Setup) (m : Mirror) (t n : ℕ) (told : Told) (b : Bus) → Agrees (mirror_told s m t n told) b
    → ((rest : List Line) → Opens rest → LawfulTold s m t s.number n told rest) → tells_loss told ≡ false → hurt_node n told ≡ None
    → Follows m s (On t s.number n told ∷ []) b
one-line s m t n told b a l no-loss no-hurt = record {
  agrees = subst (λ x. Agrees x b) (sym (own s m t n told)) a;
  lawful = λ after o. (l after o, tt);
  opens = λ after o. record { loss = no-loss; hurt = no-hurt };
}

pub level-off : (c : Counters) → same_level (level c) Off ≡ counters.is_off c
level-off c = go (counters.is_off c) (is_active c)
  where
    go : (t u : Bool) → same_level (if t then Off else if u then Active else Passive) Off ≡ t
    go true u = refl
    go false true = refl
    go false false = refl

pub level-passive : (c : Counters) → same_level (level c) Passive ≡ is_passive c
level-passive c = go (counters.is_off c) (is_active c)
  where
    go : (t u : Bool) → same_level (if t then Off else if u then Active else Passive) Passive ≡ (not t && not u)
    go true u = refl
    go false true = refl
    go false false = refl

pub how-many : (m : Mirror) (b : Bus) (node : ℕ) → Agrees m b → how_many m node ≡ waiting b.requests node
how-many m b node a = ap (λ ws. count_by (λ w. w.node == node) ws) a.waits ∙ count-map (λ w. w.node == node) (λ (q : Request). record { node = q.node; frame = q.frame }) b.requests

pub node-off : (m : Mirror) (b : Bus) (node : ℕ) → Agrees m b → node_off m node ≡ member_is off b.members node
node-off m b node a = rw a.nodes (any-map (λ x. (x.node == node) && is_off x) seen b.members
    ∙ any-same (λ x. ((seen x).node == node) && is_off (seen x)) (λ x. (x.node == node) && off x) b.members (λ x k. ap (λ t. (x.node == node) && t) (level-off x.counters)))

-- a change of one member, and the same of what is seen of it
pub with_node-seen : (node : ℕ) (f : Seen → Seen) (g : Member → Member) → ((m : Member) → f (seen m) ≡ seen (g m)) → (ms : List Member)
    → with_node node f (map seen ms) ≡ map seen (map (one node g) ms)
with_node-seen node f g k [] = refl
with_node-seen node f g k (m ∷ ms) = rw (with_node-seen node f g k ms) (ap (λ x. x ∷ map seen (map (one node g) ms)) (go (m.node == node)))
  where
    go : (t : Bool) → (if t then f (seen m) else seen m) ≡ seen (if t then g m else m)
    go true = k m
    go false = refl

-- a change that isn't seen
pub map-unseen : (g : Member → Member) → ((m : Member) → seen (g m) ≡ seen m) → (ms : List Member) → map seen (map g ms) ≡ map seen ms
map-unseen g k [] = refl
map-unseen g k (m ∷ ms) = rw (k m, map-unseen g k ms) refl

pub one-unseen : (node : ℕ) (g : Member → Member) → ((m : Member) → seen (g m) ≡ seen m) → (m : Member) → seen (one node g m) ≡ seen m
one-unseen node g k m = go (m.node == node)
  where
    go : (t : Bool) → seen (if t then g m else m) ≡ seen m
    go true = k m
    go false = refl
