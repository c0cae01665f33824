-- The turns of the code, one after the other.
use Rattle.std.proofs.Common.{◌≡◌, ◌<◌, ◌+◌, ℕ, zero, suc, Bool, true, false, if◌then◌else◌, List, [], ◌∷◌, fold, map, drop, length, get_or, refl, sym, ap, ◌∙◌, arith}
use Rattle.std.proofs.lemmas.List.{drop_more}
use Rattle.log_specs.specs.Line.{Line}
use Rattle.bus_specs.specs.Bus.{Bus}
use Rattle.bus_specs.specs.Inbox.{enter}
use Rattle.world_specs.specs.Plan.{NodePlan}
use Rattle.world_specs.specs.Sessions.{is_new, turn_step, with_entered}
use Rattle.world_core.specs.Bare.{Bare, standing_if}
use Rattle.world_core.specs.SeenTurns.{entered, names_of, seen, seen_turn}
use Rattle.world_core.specs.declared.turns.Turn.{Turn}

pub entered-seen : (plans : List NodePlan) (xs : List Turn) (bs : List Bus) → entered bs xs ≡ fold with_entered bs (map (seen plans) xs)
entered-seen plans [] bs = refl
entered-seen plans (x ∷ xs) bs =
    entered-seen plans xs (if x.is_new then map (λ b. enter b x.node) bs else bs)
    ∙ ap (λ cs. fold with_entered cs (map (seen plans) xs)) (go x.is_new)
  where
    go : (q : Bool) → (if q then map (λ b. enter b x.node) bs else bs) ≡ (if is_new (standing_if q) then map (λ b. enter b x.node) bs else bs)
    go true = refl
    go false = refl

pub seen-next : (plans : List NodePlan) (xs : List Turn) (i : ℕ) (x : Turn) → i < length xs → x ≡ get_or xs i x
    → map (seen plans) (drop i xs) ≡ seen plans x ∷ map (seen plans) (drop (i + 1) xs)
seen-next plans xs i x inside at =
    ap (map (seen plans)) (drop_more xs i x inside) ∙ ap (λ y. seen plans y ∷ map (seen plans) (drop (i + 1) xs)) (sym at)

names-at : (plans : List NodePlan) (node : ℕ) (n : NodePlan) → node < length plans → names_of plans node ≡ (get_or plans node n).buses
names-at [] node n l = absurd (omega (arith, l))
names-at (m ∷ plans) zero n l = refl
names-at (m ∷ plans) (suc node) n l = names-at plans node n (omega (arith, l))

pub seen-as : (plans : List NodePlan) (x : Turn) (n : NodePlan) (names : List ℕ) → x.node < length plans → n ≡ get_or plans x.node n → names ≡ n.buses → seen plans x ≡ seen_turn names x
seen-as plans x n names l at e = ap (λ ns. seen_turn ns x) (names-at plans x.node n l ∙ ap (λ (m : NodePlan). m.buses) (sym at) ∙ sym e)

pub turns-on : (t : ℕ) (p : List Bus × List Line) (bs : List Bus) (ls : List Line) (y : Bare) (xs ys : List Bare) (all : List Bus × List Line)
    → xs ≡ y ∷ ys → bs ≡ (turn_step t p y).0 → ls ≡ (turn_step t p y).1 → fold (turn_step t) p xs ≡ all → fold (turn_step t) (bs, ls) ys ≡ all
turns-on t p bs ls y xs ys all e b l h = rw (b, l) (ap (fold (turn_step t) p) (sym e) ∙ h)
