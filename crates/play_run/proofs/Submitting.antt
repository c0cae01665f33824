-- The actions of a moment, one after another, and the nodes that take their notices.
use Rattle.std.proofs.Common.{◌≡◌, ◌≤◌, ◌^◌, ℕ, zero, suc, Bool, true, false, inl, inr, List, [], ◌∷◌, ◌++◌, All, fold, filter, map, take, get_or, refl, sym, ap, ◌∙◌, arith, subst, ◌<◌, ◌+◌, length}
use Rattle.std.specs.Prelude.{◌==◌, if◌then◌else◌}
use Rattle.std.specs.List.{range_with_len}
use Rattle.std.proofs.lemmas.List.{map-append}
use Rattle.std.proofs.lemmas.List.Sums.{fold_more, fold-append}
use Rattle.std.proofs.lemmas.List.Elements.{All-weaker, All-head, All-tail}
use Rattle.log_specs.specs.Line.{Line}
use Rattle.bus_specs.specs.Bus.{Bus, Setup, Member, member_is, new_bus, new_member}
use Rattle.bus_specs.specs.Submit.{submit, submission_of}
use Rattle.bus_specs.specs.Inbox.{take_inbox, enter, has_notice}
use Rattle.bus_sound.proofs.Among.{Among, filter-among}
use Rattle.bus_sound.proofs.Lists.{All-each, among-map, map-among}
use Rattle.bus_sound.proofs.Members.{KeepsNodes, is_from, member_is-map}
use Rattle.bus_sound.proofs.Quiet.{one}
use Rattle.bus_sound.proofs.Steady.{take-steady, enter-steady, steady-member, steady-live}
use Rattle.operation_specs.specs.Reading.{Item}
use Rattle.play_specs.specs.Scenario.{Action, along, takers, action_step}
use Rattle.play_run.specs.Moments.{taken_by, carried_out}
use Rattle.play_run.specs.Prefixes.{at_moment, behind_moment}
use Rattle.play_run.specs.Ready.{Takes, IsTaken, Rises, IsReady}
use Rattle.play_run.specs.Scripts.{IsOfNodes}
use Rattle.play_run.proofs.Lasting.{Stands, stands-acted, stands-taken}

same_moment : (a now : ℕ) → a ≡ now → (a == now) ≡ true
same_moment a now e = grind arith

at-next : (now : ℕ) (a : Action) (rest : List Action) → a.moment ≡ now → at_moment now (a ∷ rest) ≡ a ∷ at_moment now rest
at-next now a rest e = rw (same_moment a.moment now e) refl

behind-next : (now : ℕ) (a : Action) (rest : List Action) → a.moment ≡ now → behind_moment now (a ∷ rest) ≡ behind_moment now rest
behind-next now a rest e = rw (same_moment a.moment now e) refl

pub behind-step : (now : ℕ) (a : Action) (old rest all : List Action) → old ≡ a ∷ rest → a.moment ≡ now → behind_moment now old ≡ all → behind_moment now rest ≡ all
behind-step now a old rest all old_is e whole = sym (behind-next now a rest e) ∙ ap (behind_moment now) (sym old_is) ∙ whole

-- the bus and the line behind an action
abbrev pub acted : Bus → ℕ → ℕ → Item → Bus × Line
acted b now node item = submit b now node (submission_of b.setup item)

action-is : (b : Bus) (a : Action) (now node : ℕ) (item : Item) → a.moment ≡ now → node ≡ a.node → item ≡ a.item
    → action_step b a ≡ ((acted b now node item).0, (acted b now node item).1 ∷ [])
action-is b a now node item e n i = rw (e, ← n, ← i) refl

pub takes-step : (now node : ℕ) (item : Item) (a : Action) (old rest : List Action) (b new : Bus)
    → old ≡ a ∷ rest → a.moment ≡ now → node ≡ a.node → item ≡ a.item → new ≡ (acted b now node item).0 → Takes old b → Takes rest new
takes-step now node item a old rest b new old_is e n i new_is h =
    let front : Takes (a ∷ rest) b = rw old_is at h in
    let stands : Stands b.attempts rest (action_step b a).0 = stands-acted b a rest b.attempts (record { takes = front; attempted = omega arith }) in
    subst (λ c. Takes rest c) (ap (λ (r : Bus × List Line). r.0) (action-is b a now node item e n i) ∙ sym new_is) stands.takes

module _ {L : Type 0} (line_of : L → Line) where
  pub submit-step : (now node : ℕ) (item : Item) (a : Action) (old rest : List Action) (b new : Bus) (items pushed : List L) (line : L) (all : Bus × List Line)
      → old ≡ a ∷ rest → a.moment ≡ now → node ≡ a.node → item ≡ a.item → new ≡ (acted b now node item).0 → line_of line ≡ (acted b now node item).1
      → pushed ≡ items ++ line ∷ [] → carried_out (b, map line_of items) (at_moment now old) ≡ all
      → carried_out (new, map line_of pushed) (at_moment now rest) ≡ all
  submit-step now node item a old rest b new items pushed line all old_is e n i new_is line_is pushed_is whole =
      let front : carried_out (b, map line_of items) (at_moment now (a ∷ rest)) ≡ all = rw old_is at whole in
      let next : carried_out (along action_step (b, map line_of items) a) (at_moment now rest) ≡ all =
      ap (carried_out (b, map line_of items)) (sym (at-next now a rest e)) ∙ front in
      let step : along action_step (b, map line_of items) a ≡ (new, map line_of pushed) =
      ap (λ (r : Bus × List Line). (r.0, map line_of items ++ r.1)) (action-is b a now node item e n i)
      ∙ rw (pushed_is, map-append, line_is, new_is) refl in
      ap (λ s. carried_out s (at_moment now rest)) (sym step) ∙ next

-- nodes stay members when one takes its notices
pub members-kept : (b after : Bus) (now node : ℕ) (nodes : List ℕ) → after ≡ (take_inbox b now node).0
    → All (λ n. member_is (λ m. true) b.members n ≡ true) nodes → All (λ n. member_is (λ m. true) after.members n ≡ true) nodes
members-kept b after now node nodes e h = rw e (All-weaker (λ n. member_is (λ m. true) b.members n ≡ true) (λ n. member_is (λ m. true) (take_inbox b now node).0.members n ≡ true)
    (λ n k. steady-member b (take_inbox b now node).0 n (take-steady b now node) k) nodes h)

module _ {L : Type 0} (line_of : L → Line) where
  -- one more node takes its notices
  pub taken-step : (now : ℕ) (start : Bus × List Line) (nodes : List ℕ) (i d : ℕ) (b new : Bus) (items pushed told : List L)
      → i < length nodes → new ≡ (take_inbox b now (get_or nodes i d)).0 → map line_of told ≡ (take_inbox b now (get_or nodes i d)).1
      → pushed ≡ items ++ told
      → (b, map line_of items) ≡ taken_by now start (take i nodes)
      → (new, map line_of pushed) ≡ taken_by now start (take (i + 1) nodes)
  taken-step now start nodes i d b new items pushed told l new_is told_is pushed_is so_far =
      let step : along (λ b node. take_inbox b now node) (b, map line_of items) (get_or nodes i d) ≡ (new, map line_of pushed) =
      rw (pushed_is, map-append, told_is, new_is) refl in
      sym step
      ∙ ap (λ s. along (λ b node. take_inbox b now node) s (get_or nodes i d)) so_far
      ∙ sym (fold_more (along (λ b node. take_inbox b now node)) start nodes i d l)

-- who takes notices is a member
pub takers-members : (b : Bus) (now : ℕ) → All (λ n. member_is (λ m. true) b.members n ≡ true) (takers b now)
takers-members b now = All-each (λ n. member_is (λ m. true) b.members n ≡ true) (takers b now) (λ n a.
    let r = map-among (λ (m : Member). m.node) (filter (has_notice now) b.members) n a in
    is_from (λ m. true) b.members r.0 n (filter-among (has_notice now) b.members r.0 r.1).0 r.2 refl)

-- what is ahead can be carried out behind the notices
pub takes-behind : (b after : Bus) (now : ℕ) (ahead : List Action) → after ≡ (taken_by now (b, []) (takers b now)).0 → Takes ahead b → Takes ahead after
takes-behind b after now ahead e h =
    let stands : Stands b.attempts ahead (taken_by now (b, []) (takers b now)).0 =
    stands-taken now ahead b.attempts (takers b now) (b, []) (record { takes = h; attempted = omega arith }) in
    rw e stands.takes

-- the same from what the code took
pub takes-of : (b after : Bus) (now : ℕ) (ahead : List Action) (nodes : List ℕ) (lines : List Line) → lines ≡ [] → nodes ≡ takers b now
    → after ≡ (taken_by now (b, lines) nodes).0 → Takes ahead b → Takes ahead after
takes-of b after now ahead nodes lines l n e h =
    takes-behind b after now ahead (e ∙ ap (λ ls. (taken_by now (b, ls) nodes).0) l ∙ ap (λ ns. (taken_by now (b, []) ns).0) n) h

-- all nodes enter, one after another
pub enter-member : (b : Bus) (node n : ℕ) → member_is (λ m. true) b.members n ≡ true → member_is (λ m. true) (enter b node).members n ≡ true
enter-member b node n h = steady-member b (enter b node) n (enter-steady b node) h

pub all-members : (b : Bus) (node : ℕ) (nodes : List ℕ) → All (λ n. member_is (λ m. true) b.members n ≡ true) nodes
    → All (λ n. member_is (λ m. true) (enter b node).members n ≡ true) nodes
all-members b node nodes h = All-weaker (λ n. member_is (λ m. true) b.members n ≡ true) (λ n. member_is (λ m. true) (enter b node).members n ≡ true)
    (λ n k. enter-member b node n k) nodes h

range-more : (a n : ℕ) → range_with_len a (n + 1) ≡ range_with_len a n ++ (a + n) ∷ []
range-more a zero = let e : a + 0 ≡ a = omega arith in rw e refl
range-more a (suc n) =
    let k : suc n + 1 ≡ suc (n + 1) = omega arith in
    let m : a + suc n ≡ (a + 1) + n = omega arith in
    rw (k, m) (ap (λ l. a ∷ l) (range-more (a + 1) n))

-- one more number
pub numbers-step : (items pushed : List ℕ) (n : ℕ) → pushed ≡ items ++ n ∷ [] → items ≡ range_with_len 0 n → pushed ≡ range_with_len 0 (n + 1)
numbers-step items pushed n e so_far =
    let z : 0 + n ≡ n = omega arith in
    e ∙ ap (λ l. l ++ n ∷ []) so_far ∙ ap (λ k. range_with_len 0 n ++ k ∷ []) (sym z) ∙ sym (range-more 0 n)

-- one more node enters
pub enter-step : (start b new : Bus) (node : ℕ) → new ≡ enter b node → b ≡ fold enter start (range_with_len 0 node)
    → new ≡ fold enter start (range_with_len 0 (node + 1))
enter-step start b new node e so_far =
    let more : range_with_len 0 (node + 1) ≡ range_with_len 0 node ++ node ∷ [] = rw (range-more 0 node) (let z : 0 + node ≡ node = omega arith in ap (λ n. range_with_len 0 node ++ n ∷ []) z) in
    e ∙ ap (λ c. enter c node) so_far
    ∙ sym (ap (fold enter start) more ∙ fold-append enter start (range_with_len 0 node) (node ∷ []))

-- the nodes of a new bus are its members
pub new-members : (s : Setup) (nodes : List ℕ) → All (λ n. member_is (λ m. true) (new_bus s nodes).members n ≡ true) nodes
new-members s nodes = All-each (λ n. member_is (λ m. true) (new_bus s nodes).members n ≡ true) nodes (λ n a.
    is_from (λ m. true) (map new_member nodes) (new_member n) n (among-map new_member nodes n a) refl refl)

pub zero-plus : (n : ℕ) → 0 + n ≡ n
zero-plus n = omega arith

-- ---- the first world of a script

-- all nodes are live behind their entering
entered-live : (nodes : List ℕ) (b : Bus) (n : ℕ) → member_is (λ m. m.live) b.members n ≡ true → member_is (λ m. m.live) (fold enter b nodes).members n ≡ true
entered-live [] b n h = h
entered-live (k ∷ nodes) b n h = entered-live nodes (enter b k) n (steady-live b (enter b k) n (enter-steady b k) h)

enters-keeps : (n : ℕ) → KeepsNodes (one n (λ m. record m { live = true }))
enters-keeps n m = go (m.node == n)
  where
    go : (t : Bool) → (if t then record m { live = true } else m).node ≡ m.node
    go true = refl
    go false = refl

enters-live : (b : Bus) (n : ℕ) → member_is (λ m. true) b.members n ≡ true → member_is (λ m. m.live) (enter b n).members n ≡ true
enters-live b n h = member_is-map (λ m. true) (λ m. m.live) (one n (λ m. record m { live = true })) b.members n (enters-keeps n)
    (λ m a e t. let same : (m.node == n) ≡ true = grind (arith, e) in rw same refl) h

pub all-live : (nodes : List ℕ) (b : Bus) (n : ℕ) → Among nodes n → All (λ k. member_is (λ m. true) b.members k ≡ true) nodes
    → member_is (λ m. m.live) (fold enter b nodes).members n ≡ true
all-live [] b n a h = absurd a
all-live (k ∷ nodes) b n (inl e) h =
    entered-live nodes (enter b k) n (subst (λ j. member_is (λ m. m.live) (enter b k).members j ≡ true) e
    (enters-live b k (All-head (λ j. member_is (λ m. true) b.members j ≡ true) k nodes h)))
all-live (k ∷ nodes) b n (inr a) h =
    all-live nodes (enter b k) n a (all-members b k nodes (All-tail (λ j. member_is (λ m. true) b.members j ≡ true) k nodes h))

-- entering gives out no number and counts no attempt
pub entered-next : (nodes : List ℕ) (b : Bus) → (fold enter b nodes).next ≡ b.next
entered-next [] b = refl
entered-next (k ∷ nodes) b = entered-next nodes (enter b k)

pub entered-attempts : (nodes : List ℕ) (b : Bus) → (fold enter b nodes).attempts ≡ b.attempts
entered-attempts [] b = refl
entered-attempts (k ∷ nodes) b = entered-attempts nodes (enter b k)

in-range : (a n k : ℕ) → a ≤ k → k < a + n → Among (range_with_len a n) k
in-range a zero k l u = absurd (omega (arith, l, u))
in-range a (suc n) k l u = go (a == k) refl (λ m. in-range (a + 1) n k m (omega (arith, u)))
  where
    go : (t : Bool) → (a == k) ≡ t → (a + 1 ≤ k → Among (range_with_len (a + 1) n) k) → Among (range_with_len a (suc n)) k
    go true e on = inl (grind arith)
    go false e on = inr (on (grind (arith, l)))

pub first-ready : (setup : Setup) (nodes : List ℕ) (count : ℕ) (actions : List Action) → nodes ≡ range_with_len 0 count
    → All (IsOfNodes count) actions → Rises 0 actions → length actions < 2 ^ 63
    → IsReady (record { events = 0; now = 0; ahead = actions; bus = fold enter (new_bus setup nodes) nodes })
first-ready setup nodes count actions e all rises few = record {
  takes = record {
    possible = All-weaker (IsOfNodes count) (IsTaken (fold enter (new_bus setup nodes) nodes)) (λ a h. record {
      live = all-live nodes (new_bus setup nodes) a.node (subst (λ ns. Among ns a.node) (sym e) (in-range 0 count a.node (omega arith) (omega (arith, h.node)))) (new-members setup nodes);
      item = h.item;
      moment = h.moment;
    }) actions all;
    numbered = let n : (fold enter (new_bus setup nodes) nodes).next ≡ 0 = entered-next nodes (new_bus setup nodes) in omega (arith, few, n);
  };
  rises = rises;
  attempted = let n : (fold enter (new_bus setup nodes) nodes).attempts ≡ 0 = entered-attempts nodes (new_bus setup nodes) in omega (arith, n);
}
