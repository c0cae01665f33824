-- The first start, found without a look at each member: all starts are of one kind, so the one at the least moment is the foremost.
use Rattle.std.proofs.Common.{◌≡◌, ℕ, ◌≤◌, ◌+◌, ◌*◌, ◌^◌, ◌==◌, ◌⊎◌, Bool, true, false, not, if◌then◌else◌, max, List, [], ◌∷◌, ◌++◌, fold, filter, Option, Some, None, arith, refl, sym, ap, ◌∙◌, subst, inl, inr, eq-eqb}
use Rattle.std.specs.Prelude.{◌&&◌, nat_lt, map, flat_map, filter_map, option_map, option_to_list}
use Rattle.std.specs.List.{list_any}
use Rattle.std.proofs.Math.Nat.{mul-le-mul}
use Rattle.std.proofs.lemmas.Bool.{both_ways, false_from_ne_true, and_parts, and_from, not-true, not_from_false, eqb-true, or_left, ltb-false, true_from_ne_false}
use Rattle.std.proofs.lemmas.List.Sums.{fold-append}
use Rattle.run_specs.specs.Order.{better_of}
use Rattle.bus_specs.specs.Bus.{Bus, Member, Request, Running, bits, passive, is, takes_part, member_is, has_request, wants, suspended, ready_moment}
use Rattle.bus_specs.specs.Due.{Due, Finish, Notices, Start, at, notice_moments, precedes, returns, notices, starts, next_due}
use Rattle.bus_sound.proofs.Among.{Among, among-filter, filter-among}
use Rattle.bus_sound.proofs.Lists.{among-map, map-among, any_from, any_to}
use Rattle.bus_sound.proofs.Members.{is_from, is_to}
use Rattle.bus_sound.proofs.Orders.{IsOrder}
use Rattle.bus_sound.proofs.Dues.{precedes-order}
use Rattle.bus_medium.specs.FirstDues.{return_of, suspended_by, starts_at_once, starts_later, last_waits, first_ready}

pub some_ticks : (n ticks : ℕ) → n ≤ 128 → ticks ≤ 11 * 10 ^ 12 → n * ticks ≤ 2 ^ 51
some_ticks n ticks few span = let most : n * ticks ≤ 128 * (11 * 10 ^ 12) = mul-le-mul few span in omega (arith, most)

module _ {A : Type 0} (better : A → A → Bool) (o : IsOrder better) where
  -- at or ahead of it
  abbrev Leads : A → A → Type 0
  Leads s y = (better s y ≡ true) ⊎ (s ≡ y)

  not-back : (s y : A) → Leads s y → better y s ≡ false
  not-back s y (inl t) = false_from_ne_true (better y s) (λ e. both_ways (better s s) (o.itself s) (o.through s y s t e))
  not-back s y (inr e) = subst (λ z. better z s ≡ false) e (o.itself s)

  over-lead : (s y x : A) → Leads s y → better y x ≡ true → better s x ≡ true
  over-lead s y x (inl t) e = o.through s y x t e
  over-lead s y x (inr q) e = subst (λ z. better z x ≡ true) (sym q) e

  wins : (x s : A) (b : Bool) → better s x ≡ b → b ≡ true → better_of better (Some x) s ≡ Some s
  wins x s b e t = rw (e ∙ t) refl

  -- one that it leads, taken in before it, changes nothing
  before : (best : Option A) (s y : A) → Leads s y → better_of better (better_of better best y) s ≡ better_of better best s
  before None s y l = meets l
    where
      meets : Leads s y → better_of better (Some y) s ≡ Some s
      meets (inl t) = rw t refl
      meets (inr e) = subst (λ z. better_of better (Some z) s ≡ Some s) e (rw (o.itself s) refl)
  before (Some x) s y l = go (better y x) refl
    where
      meets : Leads s y → better_of better (Some y) s ≡ Some s
      meets (inl t) = rw t refl
      meets (inr e) = subst (λ z. better_of better (Some z) s ≡ Some s) e (rw (o.itself s) refl)

      go : (b : Bool) → better y x ≡ b → better_of better (if b then Some y else Some x) s ≡ better_of better (Some x) s
      go true e = meets l ∙ sym (wins x s true (over-lead s y x l e) refl)
      go false e = refl

  -- nor does one taken in behind it
  behind : (best : Option A) (s y : A) → Leads s y → better_of better (better_of better best s) y ≡ better_of better best s
  behind None s y l = rw (not-back s y l) refl
  behind (Some x) s y l = go (better s x) refl
    where
      go : (b : Bool) → better s x ≡ b → better_of better (if b then Some s else Some x) y ≡ (if b then Some s else Some x)
      go true e = rw (not-back s y l) refl
      go false e = let n : better y x ≡ false = false_from_ne_true (better y x) (λ t. both_ways (better s x) e (over-lead s y x l t)) in rw n refl

  all-behind : (best : Option A) (s : A) (ys : List A) → ((y : A) → Among ys y → Leads s y)
      → fold (better_of better) (better_of better best s) ys ≡ better_of better best s
  all-behind best s [] l = refl
  all-behind best s (y ∷ ys) l = ap (λ x. fold (better_of better) x ys) (behind best s y (l y (inl refl))) ∙ all-behind best s ys (λ z a. l z (inr a))

  pub fold-lead : (best : Option A) (s : A) (ys : List A) → Among ys s → ((y : A) → Among ys y → Leads s y)
      → fold (better_of better) best ys ≡ better_of better best s
  fold-lead best s [] a l = absurd a
  fold-lead best s (y ∷ ys) (inl e) l =
      ap (λ z. fold (better_of better) (better_of better best z) ys) e ∙ all-behind best s ys (λ z a. l z (inr a))
  fold-lead best s (y ∷ ys) (inr a) l = fold-lead (better_of better best y) s ys a (λ z a. l z (inr a)) ∙ before best s y (l y (inl refl))

abbrev first : Option Due → List Due → Option Due
first best ds = fold (better_of precedes) best ds

-- a start at no later moment
leads : (t u : ℕ) → t ≤ u → (precedes (at Start t) (at Start u) ≡ true) ⊎ (at Start t ≡ at Start u)
leads t u l = go (nat_lt t u) refl
  where
    go : (b : Bool) → nat_lt t u ≡ b → (precedes (at Start t) (at Start u) ≡ true) ⊎ (at Start t ≡ at Start u)
    go true e = inl (or_left (nat_lt t u) ((t == u) && nat_lt 3 3) e)
    go false e = let same : t ≡ u = omega (arith, l, ltb-false t u e) in inr (ap (at Start) same)

none-filter : {X : Type 0} (p : X → Bool) (xs : List X) → ((x : X) → Among xs x → p x ≡ false) → filter p xs ≡ []
none-filter p [] h = refl
none-filter p (x ∷ xs) h = rw (h x (inl refl), none-filter p xs (λ y a. h y (inr a))) refl

module _ (b : Bus) (now : ℕ) where
  abbrev starts_prompt : Bool
  starts_prompt = list_any (λ q. member_is (starts_at_once b.last_sender) b.members q.node) b.requests

  abbrev start_of : Member → Due
  start_of m = at Start (max now (ready_moment b m))

  prompt-from : (m : Member) → Among b.members m → wants b m ≡ true → suspended b m ≡ false → starts_prompt ≡ true
  prompt-from m a w e =
      let both = and_parts (takes_part m) (has_request b.requests m.node) w in
      let r = any_to (λ (q : Request). q.node == m.node) b.requests both.1 in
      any_from (λ (q : Request). member_is (starts_at_once b.last_sender) b.members q.node) b.requests r.0 r.1
      (is_from (starts_at_once b.last_sender) b.members m (r.0).node a (sym (eqb-true (r.0).node m.node r.2))
      (and_from (takes_part m) (not (suspended b m)) both.0 (not_from_false (suspended b m) e)))

  later-from : (m : Member) → Among b.members m → wants b m ≡ true → suspended b m ≡ true → last_waits b.last_sender b.members b.requests ≡ true
  later-from m a w s = go b.last_sender refl (and_parts (passive m) (is m.node b.last_sender) s)
    where
      both : (takes_part m ≡ true) × (has_request b.requests m.node ≡ true)
      both = and_parts (takes_part m) (has_request b.requests m.node) w

      go : (o : Option ℕ) → b.last_sender ≡ o → (passive m ≡ true) × (is m.node o ≡ true) → last_waits o b.members b.requests ≡ true
      go None e h = absurd (both_ways false refl h.1)
      go (Some n) e h = let same : n ≡ m.node = eqb-true n m.node h.1 in
          and_from (member_is (starts_later (Some n)) b.members n) (has_request b.requests n)
          (is_from (starts_later (Some n)) b.members m n a (sym same)
          (and_from (takes_part m) (suspended_by (Some n) m) both.0 (and_from (passive m) (n == m.node) h.0 h.1)))
          (subst (λ k. has_request b.requests k ≡ true) (sym same) both.1)

  prompt-ready : (m : Member) → suspended b m ≡ false → ready_moment b m ≡ b.idle
  prompt-ready m e = rw e (omega arith)

  later-ready : (m : Member) → suspended b m ≡ true → ready_moment b m ≡ b.idle + bits b 8
  later-ready m e = rw e refl

  start-among : (m : Member) → Among b.members m → wants b m ≡ true → (t : ℕ) → ready_moment b m ≡ t → Among (starts b now) (at Start (max now t))
  start-among m a w t e = subst (λ k. Among (starts b now) (at Start (max now k))) e
      (among-map start_of (filter (wants b) b.members) m (among-filter (wants b) b.members m a w))

  record Starter (y : Due) : Type 0 where
    member : Member
    among : Among b.members member
    wants-it : wants b member ≡ true
    is-it : start_of member ≡ y

  starter : (y : Due) → Among (starts b now) y → Starter y
  starter y a =
      let r = map-among start_of (filter (wants b) b.members) y a in
      let f = filter-among (wants b) b.members r.0 r.1 in
      record { member = r.0; among = f.0; wants-it = f.1; is-it = r.2 }

  prompt-start : (best : Option Due) → starts_prompt ≡ true → first best (starts b now) ≡ better_of precedes best (at Start (max now b.idle))
  prompt-start best h =
      let r = any_to (λ (q : Request). member_is (starts_at_once b.last_sender) b.members q.node) b.requests h in
      let i = is_to (starts_at_once b.last_sender) b.members (r.0).node r.2 in
      let both = and_parts (takes_part i.member) (not (suspended b i.member)) i.holds in
      let w : wants b i.member ≡ true = and_from (takes_part i.member) (has_request b.requests (i.member).node) both.0
      (any_from (λ (q : Request). q.node == (i.member).node) b.requests r.0 r.1 (eq-eqb (r.0).node (i.member).node (sym i.node))) in
      fold-lead precedes precedes-order best (at Start (max now b.idle)) (starts b now)
      (start-among i.member i.among w b.idle (prompt-ready i.member (not-true (suspended b i.member) both.1)))
      (λ y a. let s = starter y a in
      let no-sooner : b.idle ≤ ready_moment b s.member = omega arith in
      subst (λ z. (precedes (at Start (max now b.idle)) z ≡ true) ⊎ (at Start (max now b.idle) ≡ z)) s.is-it
      (leads (max now b.idle) (max now (ready_moment b s.member)) (omega (arith, no-sooner))))

  later-start : (best : Option Due) → starts_prompt ≡ false → last_waits b.last_sender b.members b.requests ≡ true
      → first best (starts b now) ≡ better_of precedes best (at Start (max now (b.idle + bits b 8)))
  later-start best n h = go b.last_sender refl h
    where
      all : (y : Due) → Among (starts b now) y → (precedes (at Start (max now (b.idle + bits b 8))) y ≡ true) ⊎ (at Start (max now (b.idle + bits b 8)) ≡ y)
      all y a = let s = starter y a in
          let held : suspended b s.member ≡ true = true_from_ne_false (suspended b s.member) (λ e. both_ways starts_prompt n (prompt-from s.member s.among s.wants-it e)) in
          inr (ap (λ t. at Start (max now t)) (sym (later-ready s.member held)) ∙ s.is-it)

      go : (o : Option ℕ) → b.last_sender ≡ o → last_waits o b.members b.requests ≡ true
          → first best (starts b now) ≡ better_of precedes best (at Start (max now (b.idle + bits b 8)))
      go None e t = absurd (both_ways false refl t)
      go (Some k) e t =
          let parts = and_parts (member_is (starts_later (Some k)) b.members k) (has_request b.requests k) t in
          let i = is_to (starts_later (Some k)) b.members k parts.0 in
          let both = and_parts (takes_part i.member) (suspended_by (Some k) i.member) i.holds in
          let w : wants b i.member ≡ true = and_from (takes_part i.member) (has_request b.requests (i.member).node) both.0
          (subst (λ n. has_request b.requests n ≡ true) (sym i.node) parts.1) in
          let held : suspended b i.member ≡ true = subst (λ x. suspended_by x i.member ≡ true) (sym e) both.1 in
          fold-lead precedes precedes-order best (at Start (max now (b.idle + bits b 8))) (starts b now)
          (start-among i.member i.among w (b.idle + bits b 8) (later-ready i.member held)) all

  no-start : (best : Option Due) → starts_prompt ≡ false → last_waits b.last_sender b.members b.requests ≡ false
      → first best (starts b now) ≡ best
  no-start best n l = let none : filter (wants b) b.members ≡ [] = none-filter (wants b) b.members
      (λ m a. false_from_ne_true (wants b m) (λ w. both_ways (suspended b m)
      (false_from_ne_true (suspended b m) (λ s. both_ways (last_waits b.last_sender b.members b.requests) l (later-from m a w s)))
      (true_from_ne_false (suspended b m) (λ e. both_ways starts_prompt n (prompt-from m a w e)))))
      in rw none refl

  -- the foremost start is at the first moment at which a node may start
  starts-first : (best : Option Due) → first best (starts b now)
      ≡ first best (option_to_list (option_map (λ ready. at Start (max now ready)) (first_ready b)))
  starts-first best = go starts_prompt (last_waits b.last_sender b.members b.requests) refl refl
    where
      go : (p l : Bool) → starts_prompt ≡ p → last_waits b.last_sender b.members b.requests ≡ l
          → first best (starts b now) ≡ first best (option_to_list (option_map (λ ready. at Start (max now ready))
          (if p then Some b.idle else if l then Some (b.idle + bits b 8) else None)))
      go true l e f = prompt-start best e
      go false true e f = later-start best e f
      go false false e f = no-start best e f

  -- what is due while a frame runs, from its parts
  pub due-running : (r : Running) (ms : List Member) (end : ℕ) → b.running ≡ Some r → end ≡ r.end → ms ≡ b.members
      → next_due b now ≡ first (Some (at Finish end)) (map (at Notices) (flat_map notice_moments ms))
  unfolding next_due
  due-running r ms end e t m = rw (e, t, m) refl

  -- and while none runs
  pub due-free : (back noticed start : Option Due) → b.running ≡ None
      → back ≡ first None (filter_map (return_of b.idle b.setup.nominal) b.members)
      → noticed ≡ first back (map (at Notices) (flat_map notice_moments b.members))
      → start ≡ option_map (λ ready. at Start (max now ready)) (first_ready b)
      → next_due b now ≡ first noticed (option_to_list start)
  unfolding next_due
  due-free back noticed start e r n t = rw e (fold-append (better_of precedes) None (returns b ++ notices b) (starts b now)
      ∙ ap (λ x. first x (starts b now)) (fold-append (better_of precedes) None (returns b) (notices b)
      ∙ ap (λ x. first x (notices b)) (sym r) ∙ sym n)
      ∙ starts-first noticed ∙ ap (λ x. first noticed (option_to_list x)) (sym t))
