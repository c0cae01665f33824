-- The end of a frame: who receives it, what each member becomes, and what it tells.
use Rattle.std.proofs.Common.{◌≡◌, ℕ, zero, suc, ◌<◌, ◌≤◌, ◌+◌, ◌-◌, ◌==◌, Bool, true, false, cond, if◌then◌else◌, List, [], ◌∷◌, ◌++◌, length, map, filter, flat_map, take, drop, set, get_or, Option, Some, None, arith, refl, sym, ap, ◌∙◌, subst}
use Rattle.std.specs.Prelude.{◌&&◌}
use Rattle.std.specs.Option.{option_or}
use Rattle.std.proofs.lemmas.Bool.{eqb-true}
use Rattle.bus_specs.specs.Bus.{Member, Mail, Running, Hurt, among}
use Rattle.bus_specs.specs.Finish.{Sending, Listening, Apart, Hurting, part, hurt_part, mail, mail_after, member_after_finish}
use Rattle.bus_medium.specs.Finishing.{After, after, with_after, with_afters, receiver}

not-hurt : (o : Option Hurt) (n : ℕ) → hurt_part o n ≡ Listening → ⊥
not-hurt None n e = cc
not-hurt (Some h) n e = go (h.node == n) e
  where
    go : (t : Bool) → (if t then Hurting h.kind else Apart) ≡ Listening → ⊥
    go true e = cc
    go false e = cc

pub listening-among : (r : Running) (n : ℕ) → part r n ≡ Listening → among r.listeners n ≡ true
listening-among r n e = go (r.sender == n) (among r.listeners n) refl e
  where
    go : (t u : Bool) → among r.listeners n ≡ u → (if t then Sending else if u then Listening else hurt_part r.hurt n) ≡ Listening
        → among r.listeners n ≡ true
    go true u q e = absurd cc
    go false true q e = q
    go false false q e = absurd (not-hurt r.hurt n e)

pub other-among : (r : Running) (n : ℕ) → among r.listeners r.sender ≡ false → (part r n ≡ Listening → ⊥) → among r.listeners n ≡ false
other-among r n apart e = go (r.sender == n) (among r.listeners n) refl refl e
  where
    go : (t u : Bool) → (r.sender == n) ≡ t → among r.listeners n ≡ u
        → ((if t then Sending else if u then Listening else hurt_part r.hurt n) ≡ Listening → ⊥) → among r.listeners n ≡ false
    go true u p q e = subst (λ k. among r.listeners k ≡ false) (eqb-true r.sender n p) apart
    go false true p q e = absurd (e refl)
    go false false p q e = q

-- one by one from the end
get-front : (ms later : List Member) (n : ℕ) (m : Member) → n < length ms → get_or (take (suc n) ms ++ later) n m ≡ get_or ms n m
get-front [] later n m l = absurd (omega (arith, l))
get-front (x ∷ ms) later zero m l = refl
get-front (x ∷ ms) later (suc n) m l = get-front ms later n m (omega (arith, l))

get-taken : {X : Type 0} (xs : List X) (n : ℕ) (x : X) → n < length xs → get_or (take (suc n) xs) n x ≡ get_or xs n x
get-taken [] n x l = absurd (omega (arith, l))
get-taken (y ∷ xs) zero x l = refl
get-taken (y ∷ xs) (suc n) x l = get-taken xs n x (omega (arith, l))

change-last : (ms : List Member) (as' : List After) (n : ℕ) (a : After) (m : Member) → n < length ms → length as' ≡ length ms
    → get_or as' n a ≡ a → get_or ms n m ≡ m
    → set (take (suc n) ms ++ with_afters (drop (suc n) as') (drop (suc n) ms)) n (with_after a m) ≡ take n ms ++ with_afters (drop n as') (drop n ms)
change-last [] as' n a m l s e f = absurd (omega (arith, l))
change-last (x ∷ ms) [] n a m l s e f = absurd (omega (arith, s))
change-last (x ∷ ms) (b ∷ as') zero a m l s e f = rw (e, f) refl
change-last (x ∷ ms) (b ∷ as') (suc n) a m l s e f =
    ap (λ ys. x ∷ ys) (change-last ms as' n a m (omega (arith, l)) (omega (arith, s)) e f)

take-less : {X : Type 0} (xs : List X) (n : ℕ) → take n (take (suc n) xs) ≡ take n xs
take-less [] zero = refl
take-less [] (suc n) = refl
take-less (x ∷ xs) zero = refl
take-less (x ∷ xs) (suc n) = ap (λ ys. x ∷ ys) (take-less xs n)

pub left-step : (as' now next : List After) (n len : ℕ) → len ≡ n + 1 → now ≡ take len as' → next ≡ take (len - 1) now → next ≡ take n as'
left-step as' now next n len e left rest =
    let k : len - 1 ≡ n = omega (arith, e) in
    let j : len ≡ suc n = omega (arith, e) in
    rest ∙ ap (λ i. take i now) k ∙ ap (λ xs. take n xs) (left ∙ ap (λ i. take i as') j) ∙ take-less as' n

pub apply-step : (ms now-ms : List Member) (as' now-as : List After) (n len place : ℕ) (a : After) (m m' : Member) → len ≡ n + 1 → place ≡ n
    → len ≤ length ms → length as' ≡ length ms → now-as ≡ take len as' → a ≡ get_or now-as (len - 1) a
    → now-ms ≡ take len ms ++ with_afters (drop len as') (drop len ms) → m ≡ get_or now-ms place m → m' ≡ with_after a (get_or now-ms place m)
    → set now-ms place m' ≡ take n ms ++ with_afters (drop n as') (drop n ms)
apply-step ms now-ms as' now-as n len place a m m' e p within s left item done at is =
    let j : len ≡ suc n = omega (arith, e) in
    let l : n < length ms = omega (arith, e, within) in
    let i : len - 1 ≡ n = omega (arith, e) in
    let items : now-ms ≡ take (suc n) ms ++ with_afters (drop (suc n) as') (drop (suc n) ms) =
    subst (λ j. now-ms ≡ take j ms ++ with_afters (drop j as') (drop j ms)) j done in
    let rest : now-as ≡ take (suc n) as' = subst (λ j. now-as ≡ take j as') j left in
    let here : get_or as' n a ≡ a = sym (get-taken as' n a (omega (arith, l, s))) ∙ ap (λ xs. get_or xs n a) (sym rest)
    ∙ ap (λ k. get_or now-as k a) (sym i) ∙ sym item in
    let there : get_or ms n m ≡ m = sym (get-front ms (with_afters (drop (suc n) as') (drop (suc n) ms)) n m l)
    ∙ ap (λ xs. get_or xs n m) (sym items) ∙ ap (λ k. get_or now-ms k m) (sym p) ∙ sym at in
    ap (λ k. set now-ms k m') p ∙ ap (λ x. set now-ms n x) (is ∙ ap (with_after a) (sym at)) ∙ ap (λ xs. set xs n (with_after a m)) items
    ∙ change-last ms as' n a m l s here there

-- what is planned is what a finish makes of a member
as-planned : (r : Running) (m : Member) → with_after (after r m) m ≡ member_after_finish r m
as-planned r m = ap (λ x. record (member_after_finish r m) { mail = x }) (told m.live (mail r.frame r.fault (part r m.node) m))
  where
    told : (live : Bool) (new : Option Mail) → option_or (if live then new else None) m.mail ≡ mail_after live m.mail new
    told true None = refl
    told false None = refl
    told true (Some x) = refl
    told false (Some x) = refl

pub all-planned : (r : Running) (ms : List Member) → with_afters (map (after r) ms) ms ≡ map (member_after_finish r) ms
all-planned r [] = refl
all-planned r (m ∷ ms) = rw (as-planned r m, all-planned r ms) refl

pub receivers-are : (r : Running) (ms : List Member) → flat_map (receiver r) ms
    ≡ map (λ m. m.node) (filter (λ m. among r.listeners m.node && m.live && m.awake) ms)
receivers-are r [] = refl
receivers-are r (m ∷ ms) = go (among r.listeners m.node && m.live && m.awake) (receivers-are r ms)
  where
    go : (t : Bool) → flat_map (receiver r) ms ≡ map (λ m. m.node) (filter (λ m. among r.listeners m.node && m.live && m.awake) ms)
        → (if t then m.node ∷ [] else []) ++ flat_map (receiver r) ms
        ≡ map (λ m. m.node) (cond t (m ∷ filter (λ m. among r.listeners m.node && m.live && m.awake) ms) (filter (λ m. among r.listeners m.node && m.live && m.awake) ms))
    go true e = ap (λ ns. m.node ∷ ns) e
    go false e = e
