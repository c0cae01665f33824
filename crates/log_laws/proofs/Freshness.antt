-- Behind the lines of a moment no notice is due at it.
use Rattle.std.proofs.Common.{◌≡◌, ℕ, ◌+◌, ◌<◌, ◌≤◌, ◌==◌, ◌⊎◌, Bool, true, false, if◌then◌else◌, List, [], ◌∷◌, map, filter, fold, Option, Some, None, is_some, arith, refl, sym, subst, inl, inr, eq-eqb}
use Rattle.std.specs.Prelude.{◌||◌, nat_le}
use Rattle.std.proofs.lemmas.Bool.{both_ways, or_parts, or_from, leb-true, false_from_ne_true}
use Rattle.bus_specs.specs.Bus.{Bus, Member, LostNotice, FormatNotice, bits}
use Rattle.bus_specs.specs.Submit.{Submission, Transmit, Keep, Discard, Wakeup, Sleep, Rate, FdRate, Declare, FormatError, Unfit, Fate, Accepted, Full, Dropped, fate, with_request, submit, member_after_wakeup, wake_notice, format_notice}
use Rattle.bus_specs.specs.Inbox.{take_inbox, member_after_inbox, due, later_part, due_lost, due_format, due_wake, has_notice}
use Rattle.frame_specs.specs.Frame.{Frame}
use Rattle.log_specs.specs.Line.{Line}
use Rattle.play_specs.specs.Scenario.{along, takers}
use Rattle.bus_sound.proofs.Among.{Among, among-filter}
use Rattle.bus_sound.proofs.Lists.{among-map, map-among}
use Rattle.bus_sound.proofs.Quiet.{one}

-- no notice is due at this moment
abbrev pub NoNotice : ℕ → Bus → Type 0
NoNotice now b = (m : Member) → Among b.members m → has_notice now m ≡ false

-- none is due of a member of another node
abbrev pub NoneBut : ℕ → List ℕ → Bus → Type 0
NoneBut now nodes b = (m : Member) → Among b.members m → (has_notice now m ≡ false) ⊎ Among nodes m.node

module _ (now : ℕ) where
  gone : {A : Type 0} (when : A → ℕ) (o : Option A) → is_some (due when now (later_part when now o)) ≡ false
  gone when None = refl
  gone {A} when (Some n) = go (nat_le (when n) now) refl
    where
      go : (t : Bool) → nat_le (when n) now ≡ t → is_some (due when now (if t then None else Some n)) ≡ false
      go true e = refl
      go false e = rw e refl

  inbox-none : (m : Member) → has_notice now (member_after_inbox now m) ≡ false
  inbox-none m = or_from (is_some (due_lost now (member_after_inbox now m)) || is_some (due_format now (member_after_inbox now m))) (is_some (due_wake now (member_after_inbox now m)))
      (or_from (is_some (due_lost now (member_after_inbox now m))) (is_some (due_format now (member_after_inbox now m)))
      (gone (λ (n : LostNotice). n.due) m.lost) (gone (λ (n : FormatNotice). n.due) m.format)) (gone (λ (n : ℕ). n) m.wake)

  take-fewer : (b : Bus) (n : ℕ) (nodes : List ℕ) → NoneBut now (n ∷ nodes) b → NoneBut now nodes (take_inbox b now n).0
  unfolding take_inbox
  take-fewer b n nodes h m a =
      let r = map-among (one n (member_after_inbox now)) b.members m a in
      subst (λ x. (has_notice now x ≡ false) ⊎ Among nodes x.node) r.2 (go r.0 ((r.0).node == n) refl (h r.0 r.1))
    where
      go : (x : Member) (t : Bool) → (x.node == n) ≡ t → (has_notice now x ≡ false) ⊎ Among (n ∷ nodes) x.node
          → (has_notice now (if t then member_after_inbox now x else x) ≡ false) ⊎ Among nodes (if t then member_after_inbox now x else x).node
      go x true e k = inl (inbox-none x)
      go x false e (inl k) = inl k
      go x false e (inr (inl s)) = absurd (both_ways (x.node == n) e (eq-eqb x.node n (sym s)))
      go x false e (inr (inr k)) = inr k

  pub takes-fewer : (nodes : List ℕ) (q : Bus × List Line) → NoneBut now nodes q.0 → NoneBut now [] (fold (along (λ b node. take_inbox b now node)) q nodes).0
  takes-fewer [] q h = h
  takes-fewer (n ∷ nodes) q h = takes-fewer nodes (along (λ b node. take_inbox b now node) q n) (take-fewer q.0 n nodes h)

  pub all-take : (b : Bus) → NoneBut now (takers b now) b
  all-take b m a = go (has_notice now m) refl
    where
      go : (t : Bool) → has_notice now m ≡ t → (has_notice now m ≡ false) ⊎ Among (takers b now) m.node
      go true e = inr (among-map (λ (x : Member). x.node) (filter (has_notice now) b.members) m (among-filter (has_notice now) b.members m a e))
      go false e = inl e

  -- a change of members that brings no notice at this moment
  kept-none : (ms : List Member) (f : Member → Member) → ((m : Member) → has_notice now m ≡ false → has_notice now (f m) ≡ false)
      → ((m : Member) → Among ms m → has_notice now m ≡ false) → (m : Member) → Among (map f ms) m → has_notice now m ≡ false
  kept-none ms f k h m a = let r = map-among f ms m a in subst (λ x. has_notice now x ≡ false) r.2 (k r.0 (h r.0 r.1))

  one-none : (node : ℕ) (g : Member → Member) → ((m : Member) → has_notice now m ≡ false → has_notice now (g m) ≡ false) → (m : Member) → has_notice now m ≡ false → has_notice now (one node g m) ≡ false
  one-none node g k m h = go (m.node == node)
    where
      go : (t : Bool) → has_notice now (if t then g m else m) ≡ false
      go true = k m h
      go false = h

  parts : (m : Member) → has_notice now m ≡ false → (is_some (due_lost now m) ≡ false) × (is_some (due_format now m) ≡ false) × (is_some (due_wake now m) ≡ false)
  parts m h =
      let a = or_parts (is_some (due_lost now m) || is_some (due_format now m)) (is_some (due_wake now m)) h in
      let c = or_parts (is_some (due_lost now m)) (is_some (due_format now m)) a.0 in (c.0, c.1, a.1)

  not-due : (n : ℕ) → now < n → nat_le n now ≡ false
  not-due n l = false_from_ne_true (nat_le n now) (λ t. let k = leb-true n now t in omega (arith, k, l))

  wake-none : (n : ℕ) (o : Option ℕ) → now < n → is_some (due (λ (x : ℕ). x) now o) ≡ false → is_some (due (λ (x : ℕ). x) now (wake_notice n o)) ≡ false
  wake-none n None l h = rw (not-due n l) refl
  wake-none n (Some d) l h = h

  format-none : (n : ℕ) (bytes : List ℕ) (o : Option FormatNotice) → now < n → is_some (due (λ (x : FormatNotice). x.due) now o) ≡ false
      → is_some (due (λ (x : FormatNotice). x.due) now (format_notice n bytes o)) ≡ false
  format-none n bytes None l h = rw (not-due n l) refl
  format-none n bytes (Some d) l h = h

  wakeup-none : (node n : ℕ) → now < n → (m : Member) → has_notice now m ≡ false → has_notice now (member_after_wakeup node n m) ≡ false
  wakeup-none node n l m h = go (m.node == node) m.live
    where
      go : (t u : Bool) → has_notice now (if t then record m { awake = true } else if u then record m { wake = wake_notice n m.wake } else m) ≡ false
      go true u = h
      go false true = let p = parts m h in
          or_from (is_some (due_lost now m) || is_some (due_format now m)) (is_some (due (λ (x : ℕ). x) now (wake_notice n m.wake)))
          (or_from (is_some (due_lost now m)) (is_some (due_format now m)) p.0 p.1) (wake-none n m.wake l p.2)
      go false false = h

  unfit-none : (n : ℕ) (bytes : List ℕ) → now < n → (m : Member) → has_notice now m ≡ false → has_notice now (record m { format = format_notice n bytes m.format }) ≡ false
  unfit-none n bytes l m h = let p = parts m h in
      or_from (is_some (due_lost now m) || is_some (due (λ (x : FormatNotice). x.due) now (format_notice n bytes m.format))) (is_some (due_wake now m))
      (or_from (is_some (due_lost now m)) (is_some (due (λ (x : FormatNotice). x.due) now (format_notice n bytes m.format))) p.0 (format-none n bytes m.format l p.1)) p.2

  request-none : (b : Bus) (node : ℕ) (f : Frame) (x : Fate) → NoNotice now b → NoNotice now (with_request b node f x)
  request-none b node f Accepted h = h
  request-none b node f Full h = h
  request-none b node f Dropped h = h

  pub submit-none : (b : Bus) (node : ℕ) (what : Submission) → 1 ≤ b.setup.nominal → NoNotice now b → NoNotice now (submit b now node what).0
  unfolding submit
  submit-none b node (Transmit f) l h = request-none b node f (fate b node) h
  submit-none b node Keep l h = kept-none b.members (one node (λ m. record m { discards = false })) (one-none node (λ m. record m { discards = false }) (λ m k. k)) h
  submit-none b node Discard l h = kept-none b.members (one node (λ m. record m { discards = true })) (one-none node (λ m. record m { discards = true }) (λ m k. k)) h
  submit-none b node Wakeup l h = kept-none b.members (member_after_wakeup node (now + bits b 1)) (wakeup-none node (now + bits b 1) (omega (arith, l))) h
  submit-none b node Sleep l h = kept-none b.members (one node (λ m. record m { awake = false })) (one-none node (λ m. record m { awake = false }) (λ m k. k)) h
  submit-none b node (Rate v) l h = h
  submit-none b node (FdRate v) l h = h
  submit-none b node (Declare v) l h = h
  submit-none b node (FormatError bytes) l h = h
  submit-none b node (Unfit bytes) l h = kept-none b.members (one node (λ m. record m { format = format_notice (now + bits b 1) bytes m.format }))
      (one-none node (λ m. record m { format = format_notice (now + bits b 1) bytes m.format }) (unfit-none (now + bits b 1) bytes (omega (arith, l)))) h
