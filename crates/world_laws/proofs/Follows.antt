-- Each event comes behind the one before it: by moment, kind, bus and node.
use Rattle.std.proofs.Common.{◌≡◌, ◌≤◌, ◌<◌, ◌⊎◌, ℕ, zero, suc, ◌+◌, ◌*◌, ◌-◌, ◌==◌, ◌||◌, max, Bool, true, false, if◌then◌else◌, List, [], ◌∷◌, ◌++◌, filter_map, Option, Some, None, IfSome, is_some, arith, sym, refl, ap, ◌∙◌, subst, inl, inr}
use Rattle.std.specs.Prelude.{nat_le, option_map, option_to_list}
use Rattle.std.specs.List.{list_any}
use Rattle.std.proofs.lemmas.Bool.{both_ways, cases_lt, eqb-true, eqb-false, leb-false, or_parts}
use Rattle.session_specs.specs.Outcome.{SessionOut, DueChange, Keep, Clear, At, End}
use Rattle.session_specs.specs.Outcome as session
use Rattle.bus_specs.specs.Bus.{Bus, Setup, Member, Running, Request, LostNotice, FormatNotice, bits, wants, ready_moment, winner}
use Rattle.bus_specs.specs.Start.{start, start_with, bus_after_start, member_after_start, discarded, lost_by, lost_id}
use Rattle.bus_specs.specs.Finish.{finish, finish_with, recover, member_after_return, return_moment}
use Rattle.bus_specs.specs.Inbox.{due_lost, due_format, due_wake, has_notice, has_inbox}
use Rattle.bus_specs.specs.Inbox as inbox
use Rattle.bus_specs.specs.Due.{Due, dues, notice_moments}
use Rattle.bus_specs.specs.Due as due
use Rattle.bus_sound.proofs.Among.{Among, among-append_left, filter_map-among}
use Rattle.bus_sound.proofs.Lists.{map-among, append-among, among-append_right, none_at}
use Rattle.bus_sound.proofs.Consequences.{start-wins}
use Rattle.world_specs.specs.Units.{Units}
use Rattle.world_specs.specs.World.{World, Node, Standing, New, Live, Down, Over}
use Rattle.world_specs.specs.Next.{What, Finish, Return, Sessions, Start, Event, at, event_of, rank, comes_before, precedes, of_standing, enabled, next_event}
use Rattle.world_specs.specs.Sessions.{turns, ticks, is_called, takes_part, session_from, clock_after, clocks_after, clocks_of, standing_after, node_behind, node_after}
use Rattle.world_specs.specs.Step.{outcome_of, world_behind}
use Rattle.world_specs.specs.Fits.{IsSetBehind, UnitsFit, Fits}
use Rattle.world_laws.specs.Words.{IsSessions}
use Rattle.world_laws.proofs.Order.{next-among, next-unbeaten, no-earlier, strictly-later, strictly-before, comes-first, later, behind}
use Rattle.world_laws.proofs.Sources.{Source, OfBus, OfMail, OfNode, source, due-enabled, mail-enabled, node-enabled}
use Rattle.world_laws.proofs.OneBus.{turns_on, bus_behind, buses-behind}
use Rattle.world_laws.proofs.Timed.{to-enabled, none-late, forward, sets-behind}
use Rattle.world_laws.proofs.Dues.{DueSource, Ends, Noticed, Returns, Starts, due-source, end-due, notice-due, return-due, start-due, node-what, own-start}
use Rattle.world_laws.proofs.Calls.{Call, WasMember, was-member, holds}
use Rattle.world_laws.proofs.Fitting.{course-later, sessions_live, sessions-call, bits-of, calm-bus, start-mail, fits-from}

-- numbers of ranks
nth : ℕ → List ℕ → ℕ
nth k [] = 0
nth zero (x ∷ xs) = x
nth (suc k) (x ∷ xs) = nth k xs

-- ---- what is no longer due is later

-- what a node that holds nothing is told is due later
module _ (t : ℕ) where
  not-due : {A : Type 0} (when : A → ℕ) (o : Option A) → is_some (inbox.due when t o) ≡ false → (u : ℕ) → Among (option_to_list (option_map when o)) u → t < u
  not-due when None e u a = absurd a
  not-due when (Some n) e u (inl s) = go (nat_le (when n) t) refl e
    where
      go : (q : Bool) → nat_le (when n) t ≡ q → is_some (if q then Some n else None) ≡ false → t < u
      go true k f = absurd cc
      go false k f = let l = leb-false (when n) t k in omega (arith, l, s)
  not-due when (Some n) e u (inr a) = absurd a

  plain-due : (o : Option ℕ) → is_some (inbox.due (λ n. n) t o) ≡ false → (u : ℕ) → Among (option_to_list o) u → t < u
  plain-due None e u a = absurd a
  plain-due (Some n) e u (inl s) = go (nat_le n t) refl e
    where
      go : (q : Bool) → nat_le n t ≡ q → is_some (if q then Some n else None) ≡ false → t < u
      go true k f = absurd cc
      go false k f = let l = leb-false n t k in omega (arith, l, s)
  plain-due (Some n) e u (inr a) = absurd a

  calm-later : (m : Member) → holds t m ≡ false → (u : ℕ) → Among (notice_moments m) u → t < u
  calm-later m h u a =
      let notices = (or_parts (is_some m.mail) (has_notice t m) h).1 in
      let most = or_parts (is_some (due_lost t m) || is_some (due_format t m)) (is_some (due_wake t m)) notices in
      let firsts = or_parts (is_some (due_lost t m)) (is_some (due_format t m)) most.0 in
      go firsts.0 firsts.1 most.1 (append-among (lost ++ format) (option_to_list m.wake) u a)
    where
      lost : List ℕ
      lost = option_to_list (option_map (λ (n : LostNotice). n.due) m.lost)

      format : List ℕ
      format = option_to_list (option_map (λ (n : FormatNotice). n.due) m.format)

      go : is_some (due_lost t m) ≡ false → is_some (due_format t m) ≡ false → is_some (due_wake t m) ≡ false → Among (lost ++ format) u ⊎ Among (option_to_list m.wake) u → t < u
      go l f w (inr b) = plain-due m.wake w u b
      go l f w (inl b) = first (append-among lost format u b)
        where
          first : Among lost u ⊎ Among format u → t < u
          first (inl c) = not-due (λ (n : LostNotice). n.due) m.lost l u c
          first (inr c) = not-due (λ (n : FormatNotice). n.due) m.format f u c

  -- clocks
  not-ticked : (c : Option ℕ) → ticks t c ≡ false → IfSome c (λ due. t < due)
  not-ticked None e = tt
  not-ticked (Some d) e = leb-false d t e

  clock-ahead : (d : DueChange) (c : Option ℕ) → IsSetBehind t d → IfSome (clock_after t d c) (λ due. t < due)
  clock-ahead Keep c s = go (ticks t c) refl
    where
      go : (q : Bool) → ticks t c ≡ q → IfSome (if q then None else c) (λ due. t < due)
      go true e = tt
      go false e = not-ticked c e
  clock-ahead Clear c s = tt
  clock-ahead (At due) c s = s

  clocks-ahead : (ds : List DueChange) (cs : List (Option ℕ)) → ((d : DueChange) → Among ds d → IsSetBehind t d) → (c : Option ℕ) → Among (clocks_after t ds cs) c → IfSome c (λ due. t < due)
  clocks-ahead [] cs s c a = absurd a
  clocks-ahead (d ∷ ds) [] s c (inl e) = subst (λ x. IfSome x (λ due. t < due)) e (clock-ahead d None (s d (inl refl)))
  clocks-ahead (d ∷ ds) [] s c (inr a) = clocks-ahead ds [] (λ x b. s x (inr b)) c a
  clocks-ahead (d ∷ ds) (x ∷ cs) s c (inl e) = subst (λ x. IfSome x (λ due. t < due)) e (clock-ahead d x (s d (inl refl)))
  clocks-ahead (d ∷ ds) (x ∷ cs) s c (inr a) = clocks-ahead ds cs (λ y b. s y (inr b)) c a

  clock-event : {S : Type 0} (s : S) (last : ℕ) (cs : List (Option ℕ)) → ((c : Option ℕ) → Among cs c → IfSome c (λ due. t < due)) → (e : Event) → Among (of_standing t (Live s last cs)) e → t < e.moment
  clock-event s last cs h e a =
      let r = map-among (at Sessions) (filter_map (λ c. c) cs) e a in
      let f = filter_map-among (λ c. c) cs r.0 r.1 in
      let l : t < r.0 = subst (λ x. IfSome x (λ due. t < due)) f.2 (h f.0 f.1) in
      omega (arith, l, ap (λ (x : Event). x.moment) r.2)

  -- behind its session a node calls for none at this moment
  node-later : {S : Type 0} (u : Units S) → UnitsFit u → (bs : List Bus) (n : Node S) → (e : Event) → Among (of_standing t (node_after u bs t n).standing) e → t < e.moment
  node-later {S} u fit bs n e a = part (takes_part bs t n) refl a
    where
      by-end : (out : SessionOut) (state : S) (c : End) → ((d : DueChange) → Among out.dues d → IsSetBehind t d) → Among (of_standing t (standing_after t out state n.standing c)) e → t < e.moment
      by-end out state session.Live s a = clock-event state t (clocks_after t out.dues (clocks_of n.standing)) (clocks-ahead out.dues (clocks_of n.standing) s) e a
      by-end out state session.Over s a = absurd a
      by-end out state (session.Down cause) s a = absurd a

      ran : (s : Standing S) → is_called bs t n.number s ≡ true → (o : Option (SessionOut × S)) → session_from u bs t n s ≡ o → Among (of_standing t (node_behind t n o).standing) e → t < e.moment
      ran s c (Some r) q a = by-end r.0 r.1 (r.0).end (sets-behind t u fit bs n s r q) a
      ran (New s) c None q a = absurd cc
      ran (Live s last clocks) c None q a = absurd cc
      ran Down c None q a = absurd cc
      ran Over c None q a = absurd cc

      rests : (s : Standing S) → is_called bs t n.number s ≡ false → Among (of_standing t s) e → t < e.moment
      rests (New s) c a = absurd cc
      rests (Live s last clocks) c a =
          let quiet = (or_parts (list_any (ticks t) clocks) (list_any (λ b. has_inbox b t n.number) bs) c).0 in
          clock-event s last clocks (λ x i. not-ticked x (none_at (ticks t) clocks x quiet i)) e a
      rests Down c a = absurd a
      rests Over c a = absurd a

      part : (q : Bool) → takes_part bs t n ≡ q → Among (of_standing t (node_behind t n (if q then session_from u bs t n n.standing else None)).standing) e → t < e.moment
      part true p a = ran n.standing p (session_from u bs t n n.standing) refl a
      part false p a = rests n.standing p a

-- ---- one bus

finish-idle : (b : Bus) (t : ℕ) → (finish b t).0.running ≡ None
unfolding finish
finish-idle b t = go b.running refl
  where
    go : (o : Option Running) → b.running ≡ o → (finish_with b t o).0.running ≡ None
    go None e = e
    go (Some r) e = refl

module _ {S : Type 0} (u : Units S) (fit : UnitsFit u) (stop t : ℕ) (w : World S) (h : Fits w) where
  -- what was enabled before the event and is of another kind comes behind it
  stood : (k : What) → next_event stop w ≡ Some (at k t) → (f : Event) → Among (enabled w) f → (rank f.what ≡ rank k → ⊥) → precedes (at k t) f ≡ true
  stood k n f a d = comes-first (at k t) f d (next-unbeaten stop w (at k t) f n a)

  ended : (k : What) → next_event stop w ≡ Some (at k t) → (b : Bus) → Among w.buses b → (r : Running) → b.running ≡ Some r → (rank (Finish b.setup.number) ≡ rank k → ⊥)
      → precedes (at k t) (at (Finish b.setup.number) r.end) ≡ true
  ended k n b a r e d = stood k n (at (Finish b.setup.number) r.end) (due-enabled w b (due.at due.Finish r.end) a (end-due b w.now r e)) d

  returned : (k : What) → next_event stop w ≡ Some (at k t) → (b : Bus) → Among w.buses b → b.running ≡ None → (m : Member) → Among b.members m → (s : ℕ) → m.occurrences ≡ Some s
      → (rank (Return b.setup.number m.node) ≡ rank k → ⊥) → precedes (at k t) (at (Return b.setup.number m.node) (return_moment b s)) ≡ true
  returned k n b a free m i s e d = stood k n (at (Return b.setup.number m.node) (return_moment b s)) (due-enabled w b (due.at (due.Return m.node) (return_moment b s)) a (return-due b w.now free m i s e)) d

  noted : (k : What) → next_event stop w ≡ Some (at k t) → (b : Bus) → Among w.buses b → (m : Member) → Among b.members m → (v : ℕ) → Among (notice_moments m) v → (rank Sessions ≡ rank k → ⊥)
      → precedes (at k t) (at Sessions v) ≡ true
  noted k n b a m i v j d = stood k n (at Sessions v) (due-enabled w b (due.at due.Notices v) a (notice-due b w.now m i v j)) d

  -- two ranks that differ at a place
  differ : (p x y : ℕ) (xs ys : List ℕ) → nth p xs ≡ x → nth p ys ≡ y → (x ≡ y → ⊥) → xs ≡ ys → ⊥
  differ p x y xs ys e f d q = d (sym e ∙ ap (nth p) q ∙ f)

  Follows : What → Bus → Due → Type 0
  Follows k b d = precedes (at k t) (event_of b.setup.number d) ≡ true

  follow : (k : What) (b : Bus) (c d : Due) → c ≡ d → precedes (at k t) (event_of b.setup.number c) ≡ true → precedes (at k t) (event_of b.setup.number d) ≡ true
  follow k b c d e x = subst (λ y. precedes (at k t) (event_of b.setup.number y) ≡ true) e x

  -- Finish
  finish-follows : (bus : ℕ) → next_event stop w ≡ Some (at (Finish bus) t) → (b : Bus) → Among w.buses b → (q : Bool) → (b.setup.number == bus) ≡ q
      → (d : Due) → t ≤ d.moment → DueSource (if q then (finish b t).0 else b) t d → precedes (at (Finish bus) t) (event_of (if q then (finish b t).0 else b).setup.number d) ≡ true
  unfolding nth
  finish-follows bus n b a true p d l (Ends r e s) = absurd (none (sym (finish-idle b t) ∙ e))
    where
      none : None ≡ Some r → ⊥
      none z = cc
  finish-follows bus n b a false p d l (Ends r e s) = follow (Finish bus) b (due.at due.Finish r.end) d s
      (ended (Finish bus) n b a r e (differ 1 b.setup.number bus (0 ∷ b.setup.number ∷ []) (0 ∷ bus ∷ []) refl refl (eqb-false b.setup.number bus p)))
  finish-follows bus n b a q p d l (Noticed m i v j s) = let c : Bus = if q then (finish b t).0 else b in
      behind (at (Finish bus) t) (event_of c.setup.number d) l (subst (λ y. comes_before (rank (Finish bus)) (rank (event_of c.setup.number y).what) ≡ true) s refl)
  finish-follows bus n b a q p d l (Returns free m i v e s) = let c : Bus = if q then (finish b t).0 else b in
      behind (at (Finish bus) t) (event_of c.setup.number d) l (subst (λ y. comes_before (rank (Finish bus)) (rank (event_of c.setup.number y).what) ≡ true) s refl)
  finish-follows bus n b a q p d l (Starts free m i e s) = let c : Bus = if q then (finish b t).0 else b in
      behind (at (Finish bus) t) (event_of c.setup.number d) l (subst (λ y. comes_before (rank (Finish bus)) (rank (event_of c.setup.number y).what) ≡ true) s refl)

  -- Return
  return-follows : (bus node : ℕ) → next_event stop w ≡ Some (at (Return bus node) t) → (b : Bus) → Among w.buses b → (q : Bool) → (b.setup.number == bus) ≡ q
      → (d : Due) → t ≤ d.moment → DueSource (if q then (recover b t node).0 else b) t d → precedes (at (Return bus node) t) (event_of (if q then (recover b t node).0 else b).setup.number d) ≡ true
  unfolding nth recover
  return-follows bus node n b a true p d l (Ends r e s) = follow (Return bus node) b (due.at due.Finish r.end) d s
      (ended (Return bus node) n b a r e (differ 0 0 1 (0 ∷ b.setup.number ∷ []) (1 ∷ bus ∷ node ∷ []) refl refl (λ z. omega (arith, z))))
  return-follows bus node n b a false p d l (Ends r e s) = follow (Return bus node) b (due.at due.Finish r.end) d s
      (ended (Return bus node) n b a r e (differ 0 0 1 (0 ∷ b.setup.number ∷ []) (1 ∷ bus ∷ node ∷ []) refl refl (λ z. omega (arith, z))))
  return-follows bus node n b a true p d l (Returns free m i v e s) =
      let x = map-among (λ m. if m.node == node then member_after_return m else m) b.members m i in
      go x.0 x.1 (x.0.node == node) refl x.2
    where
      go : (x : Member) → Among b.members x → (z : Bool) → (x.node == node) ≡ z → (if x.node == node then member_after_return x else x) ≡ m
          → precedes (at (Return bus node) t) (event_of b.setup.number d) ≡ true
      go x j true z y = absurd (none (sym (ap (λ (c : Member). c.occurrences) (subst (λ g. (if g then member_after_return x else x) ≡ m) z y)) ∙ refl) e)
        where
          none : m.occurrences ≡ None → m.occurrences ≡ Some v → ⊥
          none f g = absurd (clash (sym f ∙ g))
            where
              clash : None ≡ Some v → ⊥
              clash c = cc
      go x j false z y =
          let same : x ≡ m = subst (λ g. (if g then member_after_return x else x) ≡ m) z y in
          let seen : x.occurrences ≡ Some v = ap (λ (c : Member). c.occurrences) same ∙ e in
          follow (Return bus node) b (due.at (due.Return x.node) (return_moment b v)) d (ap (λ (c : Member). due.at (due.Return c.node) (return_moment b v)) same ∙ s)
          (returned (Return bus node) n b a free x j v seen (differ 2 x.node node (1 ∷ b.setup.number ∷ x.node ∷ []) (1 ∷ bus ∷ node ∷ []) refl refl (eqb-false x.node node z)))
  return-follows bus node n b a false p d l (Returns free m i v e s) = follow (Return bus node) b (due.at (due.Return m.node) (return_moment b v)) d s
      (returned (Return bus node) n b a free m i v e (differ 1 b.setup.number bus (1 ∷ b.setup.number ∷ m.node ∷ []) (1 ∷ bus ∷ node ∷ []) refl refl (eqb-false b.setup.number bus p)))
  return-follows bus node n b a q p d l (Noticed m i v j s) = let c : Bus = if q then (recover b t node).0 else b in
      behind (at (Return bus node) t) (event_of c.setup.number d) l (subst (λ y. comes_before (rank (Return bus node)) (rank (event_of c.setup.number y).what) ≡ true) s refl)
  return-follows bus node n b a q p d l (Starts free m i e s) = let c : Bus = if q then (recover b t node).0 else b in
      behind (at (Return bus node) t) (event_of c.setup.number d) l (subst (λ y. comes_before (rank (Return bus node)) (rank (event_of c.setup.number y).what) ≡ true) s refl)

  -- Sessions
  sessions-follow : next_event stop w ≡ Some (at Sessions t) → (b : Bus) → Among w.buses b → (d : Due) → t ≤ d.moment
      → DueSource (turns_on t (turns u w.buses t w.nodes) b) t d → precedes (at Sessions t) (event_of (turns_on t (turns u w.buses t w.nodes) b).setup.number d) ≡ true
  unfolding nth
  sessions-follow n b a d l x = go x
    where
      after : Bus
      after = turns_on t (turns u w.buses t w.nodes) b

      c : Call t (sessions_live u w t) b after
      c = sessions-call u w t b (bits-of u w h b a)

      here : (k : ℕ) (y : Due) → y ≡ d → precedes (at Sessions t) (event_of b.setup.number y) ≡ true → precedes (at Sessions t) (event_of after.setup.number d) ≡ true
      here k y e q = subst (λ z. precedes (at Sessions t) (event_of z.number d) ≡ true) (sym c.setup) (follow Sessions b y d e q)

      same-moment : (v : ℕ) → return_moment after v ≡ return_moment b v
      same-moment v = ap (λ i. i + (128 - v) * bits after 11) c.idle ∙ ap (λ (z : Setup). b.idle + (128 - v) * (11 * z.nominal)) c.setup

      go : DueSource after t d → precedes (at Sessions t) (event_of after.setup.number d) ≡ true
      go (Ends r e s) = here 0 (due.at due.Finish r.end) s (ended Sessions n b a r (sym c.running ∙ e) (differ 0 0 2 (0 ∷ b.setup.number ∷ []) (2 ∷ []) refl refl (λ z. omega (arith, z))))
      go (Noticed m i v j s) = let f = calm-later t m (calm-bus u w h t b a m i) v j in
          later (at Sessions t) (event_of after.setup.number d) (omega (arith, f, ap (λ (y : Due). y.moment) s))
      go (Returns free m i v e s) =
          here 1 (due.at (due.Return (was.before).node) (return_moment b v)) d' (returned Sessions n b a (sym c.running ∙ free) was.before was.among v (sym was.seen ∙ e)
          (differ 0 1 2 (1 ∷ b.setup.number ∷ (was.before).node ∷ []) (2 ∷ []) refl refl (λ z. omega (arith, z))))
        where
          was : WasMember t (sessions_live u w t) b m
          was = was-member t (sessions_live u w t) b after c m i

          d' : due.at (due.Return (was.before).node) (return_moment b v) ≡ d
          d' = ap (λ k. due.at (due.Return k) (return_moment b v)) (sym was.node) ∙ ap (λ k. due.at (due.Return m.node) k) (sym (same-moment v)) ∙ s
      go (Starts free m i e s) = behind (at Sessions t) (event_of after.setup.number d) l (subst (λ y. comes_before (rank Sessions) (rank (event_of after.setup.number y).what) ≡ true) s refl)

  -- Start: a bus of another number
  moved-start : (bus : ℕ) → next_event stop w ≡ Some (at (Start bus) t) → w.now ≤ t → (b : Bus) → Among w.buses b → (b.setup.number ≡ bus → ⊥) → b.running ≡ None
      → (m : Member) → Among b.members m → wants b m ≡ true → precedes (at (Start bus) t) (at (Start b.setup.number) (max t (ready_moment b m))) ≡ true
  unfolding nth
  moved-start bus n l b a ne free m i e = go (cases_lt t (ready_moment b m))
    where
      old : Event
      old = at (Start b.setup.number) (max w.now (ready_moment b m))

      enabled-old : Among (enabled w) old
      enabled-old = due-enabled w b (due.at due.Start (max w.now (ready_moment b m))) a (start-due b w.now free m i e)

      go : (t < ready_moment b m) ⊎ (ready_moment b m ≤ t) → precedes (at (Start bus) t) (at (Start b.setup.number) (max t (ready_moment b m))) ≡ true
      go (inl x) = later (at (Start bus) t) (at (Start b.setup.number) (max t (ready_moment b m))) (omega arith)
      go (inr x) =
          let f : t ≤ max w.now (ready_moment b m) = no-earlier (at (Start bus) t) old (next-unbeaten stop w (at (Start bus) t) old n enabled-old) in
          let s : max w.now (ready_moment b m) ≡ max t (ready_moment b m) = omega (arith, f, x, l) in
          subst (λ v. precedes (at (Start bus) t) (at (Start b.setup.number) v) ≡ true) s
          (stood (Start bus) n old enabled-old (differ 1 b.setup.number bus (3 ∷ b.setup.number ∷ []) (3 ∷ bus ∷ []) refl refl ne))

  other-follows : (bus : ℕ) → next_event stop w ≡ Some (at (Start bus) t) → w.now ≤ t → (b : Bus) → Among w.buses b → (b.setup.number ≡ bus → ⊥)
      → (d : Due) → DueSource b t d → precedes (at (Start bus) t) (event_of b.setup.number d) ≡ true
  unfolding nth
  other-follows bus n l b a ne d (Ends r e s) = follow (Start bus) b (due.at due.Finish r.end) d s
      (ended (Start bus) n b a r e (differ 0 0 3 (0 ∷ b.setup.number ∷ []) (3 ∷ bus ∷ []) refl refl (λ z. omega (arith, z))))
  other-follows bus n l b a ne d (Noticed m i v j s) = follow (Start bus) b (due.at due.Notices v) d s
      (noted (Start bus) n b a m i v j (differ 0 2 3 (2 ∷ []) (3 ∷ bus ∷ []) refl refl (λ z. omega (arith, z))))
  other-follows bus n l b a ne d (Returns free m i v e s) = follow (Start bus) b (due.at (due.Return m.node) (return_moment b v)) d s
      (returned (Start bus) n b a free m i v e (differ 0 1 3 (1 ∷ b.setup.number ∷ m.node ∷ []) (3 ∷ bus ∷ []) refl refl (λ z. omega (arith, z))))
  other-follows bus n l b a ne d (Starts free m i e s) = follow (Start bus) b (due.at due.Start (max t (ready_moment b m))) d s (moved-start bus n l b a ne free m i e)

  -- the bus that starts: its frame runs, and a new notice is due later
  lost-later : (d : ℕ) → t < d → (o : Option LostNotice) (id : Option ℕ) → (v : ℕ) → Among (option_to_list (option_map (λ (x : LostNotice). x.due) (lost_by d o id))) v
      → (t < v) ⊎ Among (option_to_list (option_map (λ (x : LostNotice). x.due) o)) v
  lost-later d l o None v a = inr a
  lost-later d l o (Some id) v (inl e) = inl (omega (arith, l, e))
  lost-later d l o (Some id) v (inr a) = absurd a

  noticed-later : (b : Bus) → 1 ≤ b.setup.nominal → (rs : List Request) (x : Member) (v : ℕ) → Among (notice_moments (member_after_start b t rs x)) v → (t < v) ⊎ Among (notice_moments x) v
  noticed-later b p rs x v a = go (append-among (lost ++ format) wake v a)
    where
      lost : List ℕ
      lost = option_to_list (option_map (λ (n : LostNotice). n.due) (member_after_start b t rs x).lost)

      old : List ℕ
      old = option_to_list (option_map (λ (n : LostNotice). n.due) x.lost)

      format : List ℕ
      format = option_to_list (option_map (λ (n : FormatNotice). n.due) x.format)

      wake : List ℕ
      wake = option_to_list x.wake

      by-lost : (t < v) ⊎ Among old v → (t < v) ⊎ Among (notice_moments x) v
      by-lost (inl l) = inl l
      by-lost (inr c) = inr (among-append_left (old ++ format) wake v (among-append_left old format v c))

      first : Among lost v ⊎ Among format v → (t < v) ⊎ Among (notice_moments x) v
      first (inl c) = by-lost (lost-later (t + bits b 1) (omega (arith, p)) x.lost (lost_id rs x.node) v c)
      first (inr c) = inr (among-append_left (old ++ format) wake v (among-append_right old format v c))

      go : Among (lost ++ format) v ⊎ Among wake v → (t < v) ⊎ Among (notice_moments x) v
      go (inl c) = first (append-among lost format v c)
      go (inr c) = inr (among-append_right (old ++ format) wake v c)

  started-follows : (bus : ℕ) → next_event stop w ≡ Some (at (Start bus) t) → (b : Bus) → Among w.buses b → (q : Request)
      → (d : Due) → DueSource (bus_after_start b t q) t d → precedes (at (Start bus) t) (event_of b.setup.number d) ≡ true
  unfolding nth
  started-follows bus n b a q d (Ends r e s) =
      let end : r.end ≡ _ = ap (λ (x : Running). x.end) (sym (some e)) in
      let l = course-later t b q (bits-of u w h b a) in
      later (at (Start bus) t) (event_of b.setup.number d) (omega (arith, l, end, ap (λ (y : Due). y.moment) s))
    where
      some : {x : Running} → Some x ≡ Some r → x ≡ r
      some z = cc
  started-follows bus n b a q d (Noticed m i v j s) =
      let x = map-among (member_after_start b t (discarded b t q.node)) b.members m i in
      go x.0 x.1 (noticed-later b (bits-of u w h b a) (discarded b t q.node) x.0 v (subst (λ (y : Member). Among (notice_moments y) v) (sym x.2) j))
    where
      go : (x : Member) → Among b.members x → (t < v) ⊎ Among (notice_moments x) v → precedes (at (Start bus) t) (event_of b.setup.number d) ≡ true
      go x c (inl l) = later (at (Start bus) t) (event_of b.setup.number d) (omega (arith, l, ap (λ (y : Due). y.moment) s))
      go x c (inr k) = follow (Start bus) b (due.at due.Notices v) d s
          (noted (Start bus) n b a x c v k (differ 0 2 3 (2 ∷ []) (3 ∷ bus ∷ []) refl refl (λ z. omega (arith, z))))
  started-follows bus n b a q d (Returns free m i v e s) = absurd cc
  started-follows bus n b a q d (Starts free m i e s) = absurd cc

  start-follows : (bus : ℕ) → next_event stop w ≡ Some (at (Start bus) t) → w.now ≤ t → (b : Bus) → Among w.buses b → (q : Bool) → (b.setup.number == bus) ≡ q
      → (d : Due) → DueSource (if q then (start b t).0 else b) t d → precedes (at (Start bus) t) (event_of (if q then (start b t).0 else b).setup.number d) ≡ true
  unfolding start
  start-follows bus n l b a false p d x = other-follows bus n l b a (eqb-false b.setup.number bus p) d x
  start-follows bus n l b a true p d x = go (winner b t) (start-wins b w.now t (own-start stop w bus t n h.bus_numbers b a (eqb-true b.setup.number bus p))) x
    where
      go : (o : Option Request) → is_some o ≡ true → DueSource (start_with b t o).0 t d → precedes (at (Start bus) t) (event_of (start_with b t o).0.setup.number d) ≡ true
      go None e x = absurd (both_ways false refl e)
      go (Some q) e x = started-follows bus n b a q d x

  -- ---- all that is enabled behind an event

  bus-follows : (k : What) → next_event stop w ≡ Some (at k t) → w.now ≤ t → (b : Bus) → Among w.buses b → (d : Due) → t ≤ d.moment
      → DueSource (bus_behind u w t k b) t d → precedes (at k t) (event_of (bus_behind u w t k b).setup.number d) ≡ true
  bus-follows (Finish bus) n l b a d m x = finish-follows bus n b a (b.setup.number == bus) refl d m x
  bus-follows (Return bus node) n l b a d m x = return-follows bus node n b a (b.setup.number == bus) refl d m x
  bus-follows Sessions n l b a d m x = sessions-follow n b a d m x
  bus-follows (Start bus) n l b a d m x = start-follows bus n l b a (b.setup.number == bus) refl d x

  -- nothing calls for sessions at the moment of a start
  no-sessions-now : (bus : ℕ) → next_event stop w ≡ Some (at (Start bus) t) → w.now ≤ t → Among (enabled w) (at Sessions w.now) → ⊥
  no-sessions-now bus n l a =
      let f = strictly-later (at (Start bus) t) (at Sessions w.now) (next-unbeaten stop w (at (Start bus) t) (at Sessions w.now) n a) refl in omega (arith, f, l)

  node-follows : (k : What) → next_event stop w ≡ Some (at k t) → w.now ≤ t → (n' : Node S) → Among (outcome_of u w t k).nodes n' → (f : Event) → t ≤ f.moment
      → Among (of_standing t n'.standing) f → precedes (at k t) f ≡ true
  unfolding nth
  node-follows (Finish bus) n l m a f g c = behind (at (Finish bus) t) f g (subst (λ y. comes_before (rank (Finish bus)) (rank y) ≡ true) (sym (node-what t m.standing f c)) refl)
  node-follows (Return bus node) n l m a f g c = behind (at (Return bus node) t) f g (subst (λ y. comes_before (rank (Return bus node)) (rank y) ≡ true) (sym (node-what t m.standing f c)) refl)
  node-follows Sessions n l m a f g c =
      let r = map-among (node_after u w.buses t) w.nodes m a in
      later (at Sessions t) f (node-later t u fit w.buses r.0 f (subst (λ (x : Node S). Among (of_standing t x.standing) f) (sym r.2) c))
  node-follows (Start bus) n l m a f g c = go m.standing refl c
    where
      go : (s : Standing S) → m.standing ≡ s → Among (of_standing t s) f → precedes (at (Start bus) t) f ≡ true
      go (New s) e i = absurd (no-sessions-now bus n l (node-enabled w m (at Sessions w.now) a (subst (λ s. Among (of_standing w.now s) (at Sessions w.now)) (sym e) (inl refl))))
      go (Live s last clocks) e i = stood (Start bus) n f (node-enabled w m f a (subst (λ s. Among (of_standing w.now s) f) (sym e) i))
          (λ q. differ 0 2 3 (2 ∷ []) (3 ∷ bus ∷ []) refl refl (λ z. omega (arith, z)) (sym (ap rank (node-what t (Live s last clocks) f i)) ∙ q))
      go Down e i = absurd i
      go Over e i = absurd i

  mail-follows : (k : What) → next_event stop w ≡ Some (at k t) → w.now ≤ t → (b : Bus) → Among w.buses b → (m : Member) → Among (bus_behind u w t k b).members m → is_some m.mail ≡ true
      → precedes (at k t) (at Sessions t) ≡ true
  mail-follows (Finish bus) n l b a m c e = behind (at (Finish bus) t) (at Sessions t) (omega arith) refl
  mail-follows (Return bus node) n l b a m c e = behind (at (Return bus node) t) (at Sessions t) (omega arith) refl
  mail-follows Sessions n l b a m c e = absurd (both_ways (is_some m.mail) (or_parts (is_some m.mail) (has_notice t m) (calm-bus u w h t b a m c)).0 e)
  mail-follows (Start bus) n l b a m c e = absurd (go (b.setup.number == bus) c)
    where
      old : (x : Member) → Among b.members x → is_some x.mail ≡ true → ⊥
      old x i j = no-sessions-now bus n l (mail-enabled w b x a i j)

      go : (q : Bool) → Among (if q then (start b t).0 else b).members m → ⊥
      go true i = let r = start-mail u w h t b m i in old r.0 r.1 (subst (λ o. is_some o ≡ true) (sym r.2) e)
      go false i = old m i e

pub follows : {S : Type 0} (u : Units S) (stop : ℕ) (w : World S) (e f : Event) → UnitsFit u → Fits w → next_event stop w ≡ Some e → next_event stop (world_behind u w e) ≡ Some f → precedes e f ≡ true
follows {S} u stop w e f fit h n n' = go (source v f (next-among stop v f n'))
  where
    v : World S
    v = world_behind u w e

    l : w.now ≤ e.moment
    l = forward stop w e (to-enabled w (fits-from w h)) n

    from : e.moment ≤ f.moment
    from = forward stop v f (none-late u stop w e fit n) n'

    was : (b : Bus) → Among v.buses b → (c : Bus) × Among w.buses c × (bus_behind u w e.moment e.what c ≡ b)
    was b a = map-among (bus_behind u w e.moment e.what) w.buses b (subst (λ bs. Among bs b) (buses-behind u w e.moment e.what) a)

    go : Source v f → precedes e f ≡ true
    go (OfBus b a d c q) =
        let r = was b a in
        let m : e.moment ≤ d.moment = omega (arith, from, ap (λ (x : Event). x.moment) q) in
        subst (λ x. precedes e x ≡ true) q
        (subst (λ (b : Bus). precedes e (event_of b.setup.number d) ≡ true) r.2
        (bus-follows u fit stop e.moment w h e.what n l r.0 r.1 d m (due-source (bus_behind u w e.moment e.what r.0) e.moment d (subst (λ (b : Bus). Among (dues b e.moment b.running) d) (sym r.2) c))))
    go (OfMail b a m c i q) =
        let r = was b a in
        subst (λ x. precedes e x ≡ true) q (mail-follows u fit stop e.moment w h e.what n l r.0 r.1 m (subst (λ (b : Bus). Among b.members m) (sym r.2) c) i)
    go (OfNode m a c) = node-follows u fit stop e.moment w h e.what n l m a f from c

-- two of the same kind are at different moments, where the kind is Sessions
pub sessions-once : {S : Type 0} (u : Units S) (stop t : ℕ) (w : World S) (f : Event) → UnitsFit u → Fits w → next_event stop w ≡ Some (at Sessions t)
    → next_event stop (world_behind u w (at Sessions t)) ≡ Some f → IsSessions f.what → t < f.moment
sessions-once u stop t w f fit h n n' s = by f.what refl s (follows u stop w (at Sessions t) f fit h n n')
  where
    kind : (k : What) → f.what ≡ k → IsSessions k → rank f.what ≡ rank Sessions
    kind (Finish bus) e i = absurd i
    kind (Return bus node) e i = absurd i
    kind Sessions e i = ap rank e
    kind (Start bus) e i = absurd i

    by : (k : What) → f.what ≡ k → IsSessions k → precedes (at Sessions t) f ≡ true → t < f.moment
    by k e i p = strictly-before (at Sessions t) f p (kind k e i)
