-- The bus behind the end of a frame, put together from its parts.
use Rattle.std.proofs.Common.{◌≡◌, ℕ, ◌≤◌, ◌+◌, ◌*◌, ◌^◌, ◌==◌, ◌⊎◌, Bool, if◌then◌else◌, not, List, ◌∷◌, ◌++◌, length, map, filter, flat_map, take, drop, Option, Some, None, arith, refl, sym, ap, ◌∙◌, subst, inl, inr}
use Rattle.std.specs.Prelude.{◌&&◌, option_map, max}
use Rattle.std.proofs.lemmas.List.{take_at, length-map}
use Rattle.bus_specs.specs.Bus.{Bus, Member, Request, Running, Fault, Hurt, bits, off, member_is, wants, ready_moment, with_member}
use Rattle.bus_specs.specs.Due.{Due, Finish, Notices, Start, Return, rank, precedes, at, notices, returns, starts, dues, next_due, notice_moments}
use Rattle.bus_specs.specs.Finish.{is_sent, member_after_finish, member_after_return, counters_after, finish_with, finish, recover, return_moment, receivers, outcome_line, hurt_lines}
use Rattle.log_specs.specs.Line.{Line}
use Rattle.bus_sound.proofs.Among.{Among, filter_map-among}
use Rattle.bus_sound.proofs.Lists.{map-among, append-among}
use Rattle.bus_sound.proofs.Members.{nodes-map}
use Rattle.bus_sound.proofs.Orders.{foremost-among}
use Rattle.bus_sound.proofs.Finished.{finish-sound}
use Rattle.bus_sound.proofs.Quiet.{recover-sound}
use Rattle.bus_medium.specs.Finishing.{After, after, with_afters, receiver, state_line, outcome, hurt_line}
use Rattle.bus_medium.specs.Places.{Rising}
use Rattle.bus_medium.specs.Setups.{IsKept}
use Rattle.bus_medium.proofs.Ending.{all-planned, receivers-are}

-- a finish is due only while a frame runs
finish-among : (b : Bus) (now t : ℕ) → Among (dues b now None) (at Finish t) → ⊥
finish-among b now t a = go (append-among (returns b ++ notices b) (starts b now) (at Finish t) a)
  where
    by : Among (returns b) (at Finish t) ⊎ Among (notices b) (at Finish t) → ⊥
    by (inl k) =
        let r = filter_map-among (λ (m : Member). option_map (λ seen. at (Return m.node) (return_moment b seen)) m.occurrences) b.members (at Finish t) k in
        back (r.0).node (r.0).occurrences r.2
      where
        back : (node : ℕ) (o : Option ℕ) → option_map (λ seen. at (Return node) (return_moment b seen)) o ≡ Some (at Finish t) → ⊥
        back node None e = cc
        back node (Some n) e = let s : at (Return node) (return_moment b n) ≡ at Finish t = cc in
            let k : 1 ≡ 0 = ap (λ (x : Due). rank x.what) s in omega (arith, k)
    by (inr k) =
        let r = map-among (at Notices) (flat_map notice_moments b.members) (at Finish t) k in
        let e : 2 ≡ 0 = ap (λ (x : Due). rank x.what) r.2 in omega (arith, e)

    go : Among (returns b ++ notices b) (at Finish t) ⊎ Among (starts b now) (at Finish t) → ⊥
    go (inl k) = by (append-among (returns b) (notices b) (at Finish t) k)
    go (inr k) =
        let r = map-among (λ m. at Start (max now (ready_moment b m))) (filter (wants b) b.members) (at Finish t) k in
        let e : 3 ≡ 0 = ap (λ (x : Due). rank x.what) r.2 in omega (arith, e)

pub finish-runs : (b : Bus) (now t : ℕ) → next_due b now ≡ Some (at Finish t) → b.running ≡ None → ⊥
unfolding next_due
finish-runs b now t due free = finish-among b now t
    (subst (λ o. Among (dues b now o) (at Finish t)) free (foremost-among precedes (dues b now b.running) (at Finish t) due))

pub rising-after : (r : Running) (ms seen : List Member) → Rising ms → seen ≡ map (member_after_finish r) ms → Rising seen
rising-after r ms seen rise e = subst Rising (sym e) (rise.0, rw (nodes-map (member_after_finish r) (λ m. refl) ms) rise.1)

-- what a slice of all members leaves behind
pub members-after : (r : Running) (old seen seen' new : List Member) (n : ℕ) (afters : List After) → n ≡ length old → seen ≡ old → seen' ≡ old
    → afters ≡ map (after r) seen → new ≡ with_afters afters seen' → take n (new ++ drop (length new) old) ≡ map (member_after_finish r) old
members-after r old seen seen' new n afters size same same' plan e =
    let all : new ≡ map (member_after_finish r) old =
    e ∙ ap (λ xs. with_afters xs seen') (plan ∙ ap (map (after r)) same) ∙ ap (with_afters (map (after r) old)) same' ∙ all-planned r old in
    let long : length new ≡ n = ap length all ∙ length-map old (member_after_finish r) ∙ sym size in
    take_at new (drop (length new) old) n long ∙ all

abbrev stays : Running → List Member → Request → Bool
stays r ms q = not (is_sent r r.fault q) && not (member_is off ms q.node)

pub finish-state : (b inside : Bus) (now : ℕ) (r : Running) (ms seen : List Member) (rs : List Request) (t s : ℕ) (run : Option Running)
    → inside ≡ b → inside.running ≡ Some r → ms ≡ map (member_after_finish r) inside.members → seen ≡ ms
    → rs ≡ filter (λ q. not (is_sent r r.fault q) && not (member_is off seen q.node)) inside.requests → t ≡ bits inside 3 → s ≡ r.sender → run ≡ None
    → record inside { members = ms; requests = rs; idle = now + t; last_sender = Some s; running = run } ≡ (finish b now).0
unfolding finish
finish-state b inside now r ms seen rs t s run view runs members shown requests ticks sender free =
    let all = map (member_after_finish r) inside.members in
    let left : rs ≡ filter (stays r all) inside.requests = requests ∙ ap (λ xs. filter (stays r xs) inside.requests) (shown ∙ members) in
    ap (λ x. record inside { members = x; requests = rs; idle = now + t; last_sender = Some s; running = run }) members
    ∙ ap (λ x. record inside { members = all; requests = x; idle = now + t; last_sender = Some s; running = run }) left
    ∙ ap (λ x. record inside { members = all; requests = filter (stays r all) inside.requests; idle = now + x; last_sender = Some s; running = run }) ticks
    ∙ ap (λ x. record inside { members = all; requests = filter (stays r all) inside.requests; idle = now + bits inside 3; last_sender = Some x; running = run }) sender
    ∙ ap (λ x. record inside { members = all; requests = filter (stays r all) inside.requests; idle = now + bits inside 3; last_sender = Some r.sender; running = x }) free
    ∙ ap (λ o. (finish_with inside now o).0) (sym runs)
    ∙ ap (λ (v : Bus). (finish_with v now v.running).0) view

outcome-is : (b : Bus) (now : ℕ) (r : Running) (fault : Option Fault) → outcome now b.setup.number r (receivers b r) fault ≡ outcome_line b now r fault
outcome-is b now r None = refl
outcome-is b now r (Some e) = refl

hurt-is : (b : Bus) (now : ℕ) (hurt : Option Hurt) → hurt_line now b.setup.number hurt ≡ hurt_lines b now hurt
hurt-is b now None = refl
hurt-is b now (Some h) = refl

pub finish-log : (b inside : Bus) (now : ℕ) (r : Running) (ms : List Member) (heard : List ℕ) (changes : List Line)
    → inside ≡ b → inside.running ≡ Some r → ms ≡ inside.members → heard ≡ flat_map (receiver r) ms
    → changes ≡ flat_map (λ m. state_line now inside.setup.number (counters_after r m) m) ms
    → outcome now inside.setup.number r heard r.fault ∷ hurt_line now inside.setup.number r.hurt ++ changes ≡ (finish b now).1
unfolding finish
finish-log b inside now r ms heard changes view runs same receive change =
    let to : heard ≡ receivers inside r = receive ∙ ap (flat_map (receiver r)) same ∙ receivers-are r inside.members in
    let n = inside.setup.number in
    ap (λ x. outcome now n r x r.fault ∷ hurt_line now n r.hurt ++ changes) to
    ∙ ap (λ x. x ∷ hurt_line now n r.hurt ++ changes) (outcome-is inside now r r.fault)
    ∙ ap (λ x. outcome_line inside now r r.fault ∷ x ++ changes) (hurt-is inside now r.hurt)
    ∙ ap (λ x. outcome_line inside now r r.fault ∷ hurt_lines inside now r.hurt ++ x)
    (change ∙ ap (flat_map (λ m. state_line now n (counters_after r m) m)) same)
    ∙ ap (λ o. (finish_with inside now o).1) (sym runs)
    ∙ ap (λ (v : Bus). (finish_with v now v.running).1) view

finished-idle : (b : Bus) (now : ℕ) (o : Option Running) → b.idle ≤ 2 ^ 63 + 2 ^ 42 → now ≤ 2 ^ 63 → bits b 3 ≤ 3 * 10 ^ 12
    → (finish_with b now o).0.idle ≤ 2 ^ 63 + 2 ^ 42
finished-idle b now None h m t = h
finished-idle b now (Some r) h m t = omega (arith, m, t)

pub finish-kept : (b : Bus) (now t : ℕ) → IsKept b → now ≤ 2 ^ 63 → t ≡ bits b 3 → t ≤ 3 * 10 ^ 12 → IsKept (finish b now).0
unfolding finish
finish-kept b now t h m e high = record {
  sound = finish-sound b now h.sound;
  idle = finished-idle b now b.running h.idle m (subst (λ x. x ≤ 3 * 10 ^ 12) e high);
}

pub recover-kept : (b : Bus) (now node : ℕ) → IsKept b → IsKept (recover b now node).0
unfolding recover
recover-kept b now node h = record { sound = recover-sound b now node h.sound; idle = h.idle }

pub all-after : (f : Member → Member) (old seen new : List Member) (n : ℕ) → n ≡ length old → seen ≡ old → new ≡ map f seen
    → take n (new ++ drop (length new) old) ≡ map f old
all-after f old seen new n size same e =
    let all : new ≡ map f old = e ∙ ap (map f) same in
    let long : length new ≡ n = ap length all ∙ length-map old f ∙ sym size in
    take_at new (drop (length new) old) n long ∙ all

pub recover-state : (b inside : Bus) (node : ℕ) (ms : List Member) → inside ≡ b
    → ms ≡ map (λ m. if m.node == node then member_after_return m else m) inside.members → IsKept b → IsKept (record inside { members = ms })
unfolding recover
recover-state b inside node ms view members h =
    let kept : IsKept (with_member inside node member_after_return) = recover-kept inside 0 node (subst IsKept (sym view) h) in
    subst (λ xs. IsKept (record inside { members = xs })) (sym members) kept

pub one_running : (o : Option Running) (r s : Running) → o ≡ Some r → Some s ≡ o → r ≡ s
one_running o r s e f = let k : Some r ≡ Some s = sym e ∙ sym f in cc
