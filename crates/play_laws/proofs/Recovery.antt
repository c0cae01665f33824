-- The occurrences of 11 recessive bits that an off node sees, and when it returns.
use Rattle.std.proofs.Common.{◌≡◌, ◌≤◌, ◌<◌, ◌⊎◌, ℕ, ◌+◌, ◌-◌, ◌*◌, ◌/◌, ◌==◌, Bool, true, false, if◌then◌else◌, map, filter, flat_map, ◌++◌, IfSome, Option, Some, None, is_some, refl, arith, sym, ap, ◌∙◌, subst, inl, inr}
use Rattle.std.specs.Prelude.{option_map, max}
use Rattle.std.proofs.Math.Nat.{mul-div_cancel}
use Rattle.std.proofs.lemmas.Bool.{both_ways, eqb-true}
use Rattle.bus_specs.specs.Counters.{Counters, count, Nothing, is_off}
use Rattle.bus_specs.specs.Bus.{Bus, Member, Running, Fault, Hurt, off, among, wants, ready_moment}
use Rattle.bus_specs.specs.Start.{discarded, member_after_start, start_with, start}
use Rattle.bus_specs.specs.Finish.{Sending, Listening, Apart, Hurting, part, hurt_part, happening, one_more, occurrences, counters_after, member_after_finish, finish_with, finish, return_moment}
use Rattle.bus_specs.specs.Due.{Due, What, Start, Return, Notices, Finish, rank, precedes, at, notice_moments, notices, returns, starts, dues, next_due}
use Rattle.bus_specs.specs.Sound.{Sound, SoundMember, most_seen}
use Rattle.bus_sound.proofs.Among.{Among, among-Contains, Contains-among, filter_map-among, among-filter_map, among-append_left}
use Rattle.bus_sound.proofs.Lists.{map-among, append-among, any_to, each-All, unique}
use Rattle.bus_sound.proofs.Orders.{foremost-among, foremost-some, foremost-unbeaten}
use Rattle.bus_sound.proofs.Members.{KeepsNodes}
use Rattle.bus_sound.proofs.Dues.{not-before, precedes-order}
use Rattle.bus_sound.proofs.Consequences.{sender-on, listener-on, hurt-on}
use Rattle.play_laws.specs.Steps.{Starts, Runs, Becomes, span, idle_spans, Returns, OneMore, NextUpTo}
use Rattle.play_laws.proofs.Attempts.{started}

-- the node behind a change of all members
changed : (f : Member → Member) → KeepsNodes f → (b after : Bus) (m m' : Member) → Sound b → after.members ≡ map f b.members → Becomes b after m m' → f m ≡ m'
changed f keeps b after m m' h e c =
    let x = map-among f b.members m' (subst (λ ms. Among ms m') e (among-Contains after.members m' c.behind)) in
    let same : (x.0).node ≡ m.node = sym (keeps x.0) ∙ ap (λ (y : Member). y.node) x.2 ∙ c.same in
    subst (λ y. f y ≡ m') (unique (λ (y : Member). y.node) 0 b.members x.0 m (h.nodes).0 (h.nodes).1 x.1 (among-Contains b.members m c.before) same) x.2

module _ (b : Bus) (now : ℕ) (r : Running) (u : Runs b r) where
  members : ((finish b now).0).members ≡ map (member_after_finish r) b.members
  unfolding finish
  members = ap (λ o. ((finish_with b now o).0).members) u.runs

  sound-member : (m : Member) → Among b.members m → SoundMember b.setup b.running m
  sound-member m a = each-All (SoundMember b.setup b.running) b.members m (u.sound).members a

  hurt-apart : (m : Member) → Among b.members m → off m ≡ true → (o : Option Hurt) → r.hurt ≡ o → hurt_part o m.node ≡ Apart
  hurt-apart m a e None k = refl
  hurt-apart m a e (Some x) k = go (x.node == m.node) refl
    where
      go : (t : Bool) → (x.node == m.node) ≡ t → (if t then Hurting x.kind else Apart) ≡ Apart
      go true q = absurd (both_ways (off m) (hurt-on b r x m u.sound u.runs k a (sym (eqb-true x.node m.node q))) e)
      go false q = refl

  -- an off node takes no part
  off-apart : (m : Member) → Among b.members m → off m ≡ true → part r m.node ≡ Apart
  off-apart m a e = go (r.sender == m.node) (among r.listeners m.node) refl refl
    where
      go : (t s : Bool) → (r.sender == m.node) ≡ t → among r.listeners m.node ≡ s
          → (if t then Sending else if s then Listening else hurt_part r.hurt m.node) ≡ Apart
      go true s p q = absurd (both_ways (off m) (sender-on b r m u.sound u.runs a (sym (eqb-true r.sender m.node p))) e)
      go false true p q =
          let l = any_to (λ n. n == m.node) r.listeners q in
          absurd (both_ways (off m) (listener-on b r m u.sound u.runs a (subst (λ n. Among r.listeners n) (eqb-true l.0 m.node l.2) l.1)) e)
      go false false p q = hurt-apart m a e r.hurt refl

  nothing : (fault : Option Fault) (m : Member) → happening fault Apart m ≡ Nothing
  nothing None m = refl
  nothing (Some x) m = refl

  off-counters : (m : Member) → Among b.members m → off m ≡ true → counters_after r m ≡ m.counters
  off-counters m a e = ap (λ p. count m.counters (happening r.fault p m)) (off-apart m a e) ∙ ap (count m.counters) (nothing r.fault m)

  grown : (c : Counters) (o : Option ℕ) → is_off c ≡ true → occurrences c o ≡ Some (one_more o)
  grown c o e = rw e refl

  pub finish-one-more : (m m' : Member) → Becomes b (finish b now).0 m m' → off m ≡ true → OneMore m m'
  finish-one-more m m' c e = go m.occurrences refl ((sound-member m a).off ∙ e)
    where
      a : Among b.members m
      a = among-Contains b.members m c.before

      same : member_after_finish r m ≡ m'
      same = changed (member_after_finish r) (λ x. refl) b (finish b now).0 m m' u.sound members c

      counters : counters_after r m ≡ m.counters
      counters = off-counters m a e

      behind : m'.occurrences ≡ Some (one_more m.occurrences)
      behind = sym (ap (λ (x : Member). x.occurrences) same) ∙ grown (counters_after r m) m.occurrences (ap is_off counters ∙ e)

      go : (o : Option ℕ) → m.occurrences ≡ o → is_some m.occurrences ≡ true → OneMore m m'
      go None q s = absurd (both_ways (is_some m.occurrences) (ap is_some q) s)
      go (Some n) q s = record { seen = n; before = q; behind = behind ∙ ap (λ o. Some (one_more o)) q; counters = sym (ap (λ (x : Member). x.counters) same) ∙ counters }

  pub finish-goes-off : (m m' : Member) → Becomes b (finish b now).0 m m' → off m ≡ false → off m' ≡ true → m'.occurrences ≡ Some 0
  finish-goes-off m m' c e f = go m.occurrences refl ((sound-member m (among-Contains b.members m c.before)).off ∙ e)
    where
      same : member_after_finish r m ≡ m'
      same = changed (member_after_finish r) (λ x. refl) b (finish b now).0 m m' u.sound members c

      behind : m'.occurrences ≡ Some (one_more m.occurrences)
      behind = sym (ap (λ (x : Member). x.occurrences) same) ∙ grown (counters_after r m) m.occurrences (ap off same ∙ f)

      go : (o : Option ℕ) → m.occurrences ≡ o → is_some m.occurrences ≡ false → m'.occurrences ≡ Some 0
      go None q s = behind ∙ ap (λ o. Some (one_more o)) q
      go (Some n) q s = absurd (both_ways (is_some m.occurrences) s (ap is_some q))

pub start-idle-spans : (b : Bus) (since now : ℕ) (r : Running) (m m' : Member) (seen : ℕ) → Starts b since now r → Becomes b (start b now).0 m m'
    → m.occurrences ≡ Some seen → m'.occurrences ≡ Some (seen + idle_spans b now)
unfolding start
start-idle-spans b since now r m m' seen s c e =
    let x = started b since now r s in
    let members : ((start b now).0).members ≡ map (member_after_start b now (discarded b now (x.first).node)) b.members = ap (λ o. ((start_with b now o).0).members) x.wins in
    let same = changed (member_after_start b now (discarded b now (x.first).node)) (λ y. refl) b (start b now).0 m m' s.sound members c in
    sym (ap (λ (y : Member). y.occurrences) same) ∙ ap (option_map (λ n. n + idle_spans b now)) e

-- ---- returns

ranks-apart : (c d : Due) → c ≡ d → rank c.what ≡ rank d.what
ranks-apart c d e = ap (λ (x : Due). rank x.what) e

node_of : What → ℕ
node_of (Return node) = node
node_of Finish = 0
node_of Notices = 0
node_of Start = 0

-- what a return due says of its member
record Source (b : Bus) (node t : ℕ) : Type 0 where
  member : Member
  among : Among b.members member
  node-is : member.node ≡ node
  seen : ℕ
  count : member.occurrences ≡ Some seen
  moment : t ≡ return_moment b seen

in-notices : (b : Bus) (node t : ℕ) → Among (notices b) (at (Return node) t) → ⊥
in-notices b node t a =
    let x = map-among (at Notices) (flat_map notice_moments b.members) (at (Return node) t) a in
    let k : 2 ≡ 1 = ap (λ (d : Due). rank d.what) x.2 in omega (arith, k)

in-starts : (b : Bus) (since node t : ℕ) → Among (starts b since) (at (Return node) t) → ⊥
in-starts b since node t a =
    let x = map-among (λ m. at Start (max since (ready_moment b m))) (filter (wants b) b.members) (at (Return node) t) a in
    let k : 3 ≡ 1 = ap (λ (d : Due). rank d.what) x.2 in omega (arith, k)

in-returns : (b : Bus) (node t : ℕ) → Among (returns b) (at (Return node) t) → Source b node t
unfolding node_of
in-returns b node t a =
    let x = filter_map-among (λ (m : Member). option_map (λ seen. at (Return m.node) (return_moment b seen)) m.occurrences) b.members (at (Return node) t) a in
    go x.0 x.1 (x.0).occurrences refl x.2
  where
    go : (m : Member) → Among b.members m → (o : Option ℕ) → m.occurrences ≡ o → option_map (λ seen. at (Return m.node) (return_moment b seen)) o ≡ Some (at (Return node) t) → Source b node t
    go m a None q e = absurd (let z : None ≡ Some (at (Return node) t) = e in cc)
    go m a (Some n) q e = let same : at (Return m.node) (return_moment b n) ≡ at (Return node) t = cc in
        record { member = m; among = a; node-is = ap (λ (d : Due). node_of d.what) same; seen = n; count = q; moment = sym (ap (λ (d : Due). d.moment) same) }

source : (b : Bus) (since node t : ℕ) (o : Option Running) → Among (dues b since o) (at (Return node) t) → (o ≡ None) × Source b node t
source b since node t (Some r) (inl s) = absurd (let k : 0 ≡ 1 = ap (λ (d : Due). rank d.what) s in omega (arith, k))
source b since node t (Some r) (inr a) = absurd (in-notices b node t a)
source b since node t None a = (refl, first (append-among (returns b ++ notices b) (starts b since) (at (Return node) t) a))
  where
    first : Among (returns b ++ notices b) (at (Return node) t) ⊎ Among (starts b since) (at (Return node) t) → Source b node t
    first (inr k) = absurd (in-starts b since node t k)
    first (inl k) = second (append-among (returns b) (notices b) (at (Return node) t) k)
      where
        second : Among (returns b) (at (Return node) t) ⊎ Among (notices b) (at (Return node) t) → Source b node t
        second (inl k) = in-returns b node t k
        second (inr k) = absurd (in-notices b node t k)

reached-by : (idle n seen t : ℕ) → 1 ≤ n → seen ≤ 128 → t ≡ idle + (128 - seen) * n → seen + (t - idle) / n ≡ 128
reached-by idle n seen t some most e =
    let past : t - idle ≡ (128 - seen) * n = omega (arith, e) in
    let whole : (t - idle) / n ≡ 128 - seen = ap (λ x. x / n) past ∙ mul-div_cancel (128 - seen) (omega (arith, some)) in
    omega (arith, whole, most)

pub return-due : (b : Bus) (since t node : ℕ) → Sound b → next_due b since ≡ Some (at (Return node) t) → Returns b node t
unfolding next_due
return-due b since t node h d =
    let x = source b since node t b.running (foremost-among precedes (dues b since b.running) (at (Return node) t) d) in
    let y = x.1 in
    let most : y.seen ≤ 128 = subst (λ o. IfSome o (λ n. n ≤ 128)) y.count
    (subst (λ o. IfSome (y.member).occurrences (λ n. n ≤ most_seen o)) x.0 (each-All (SoundMember b.setup b.running) b.members y.member h.members y.among).seen) in
    record {
      member = y.member;
      among = Contains-among b.members y.member y.among;
      node = y.node-is;
      seen = y.seen;
      count = y.count;
      free = x.0;
      moment = y.moment;
      reached = λ some. reached-by b.idle (span b) y.seen t (omega (arith, some)) most y.moment;
    }

pub return-prompt : (b : Bus) (since seen : ℕ) (m : Member) → b.running ≡ None → Among b.members m → m.occurrences ≡ Some seen
    → NextUpTo b since (return_moment b seen)
unfolding next_due
return-prompt b since seen m free a e = go (next_due b since) refl (foremost-some precedes (dues b since b.running) it among)
  where
    it : Due
    it = at (Return m.node) (return_moment b seen)

    return' : Among (returns b) it
    return' = among-filter_map (λ (x : Member). option_map (λ n. at (Return x.node) (return_moment b n)) x.occurrences) b.members m it a
        (ap (option_map (λ n. at (Return m.node) (return_moment b n))) e)

    among : Among (dues b since b.running) it
    among = subst (λ o. Among (dues b since o) it) (sym free)
        (among-append_left (returns b ++ notices b) (starts b since) it (among-append_left (returns b) (notices b) it return'))

    within : (d : Due) → (d.moment < it.moment) ⊎ ((d.moment ≡ it.moment) × (rank d.what ≤ rank it.what)) → d.moment ≤ it.moment
    within d (inl l) = omega (arith, l)
    within d (inr l) = omega (arith, l.0)

    go : (o : Option Due) → next_due b since ≡ o → is_some (next_due b since) ≡ true → NextUpTo b since (return_moment b seen)
    go None q t = absurd (both_ways (is_some (next_due b since)) (ap is_some q) t)
    go (Some d) q t = record { due = d; next = q; within = within d (not-before it d (foremost-unbeaten precedes precedes-order (dues b since b.running) d it q among)) }
