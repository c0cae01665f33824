-- Behind the sessions of a moment a member is live exactly where it is a live node.
use Rattle.std.proofs.Common.{◌≡◌, ◌≤◌, ℕ, ◌==◌, ◌||◌, Bool, true, false, if◌then◌else◌, List, [], ◌∷◌, map, Option, Some, None, option_map, sym, refl, ap, ◌∙◌, subst, inl, inr, eq-eqb}
use Rattle.std.specs.List.{cons_option}
use Rattle.std.proofs.lemmas.Bool.{eqb-true, eqb-false, ne_eqb, or_parts}
use Rattle.session_specs.specs.Outcome.{SessionOut, End}
use Rattle.session_specs.specs.Outcome as session
use Rattle.bus_specs.specs.Bus.{Bus, among}
use Rattle.bus_sound.proofs.Among.{Among}
use Rattle.bus_sound.proofs.Lists.{All-each, each-All}
use Rattle.world_specs.specs.Units.{Units}
use Rattle.world_specs.specs.World.{AreDistinct, Node, Standing, New, Live, Down, Over}
use Rattle.world_specs.specs.Sessions.{Turn, turn_of, turns, is_new, takes_part, session_from, session_of, node_behind, node_after, standing_after}
use Rattle.world_specs.specs.Fits.{is_live, is_live_node, IsJoined}
use Rattle.world_laws.proofs.Lists.{not-among}
use Rattle.world_laws.proofs.Changed.{turn-among, number-stays}
use Rattle.world_laws.proofs.OneBus.{turns_on}
use Rattle.world_laws.proofs.Calls.{entry_live, end_live, entries_live, ends_live, was-member, turns-call}

module _ {S : Type 0} (k : ℕ) where
  -- no turn of this number
  abbrev Absent : List (Turn S) → Type 0
  Absent xs = (x : Turn S) → Among xs x → k ≡ x.node.number → ⊥

  entry-apart : (x : Turn S) (l : Bool) → (k == x.node.number) ≡ false → entry_live x k l ≡ l
  entry-apart x l e = go (is_new x.node.standing)
    where
      go : (q : Bool) → (if q then (if k == x.node.number then true else l) else l) ≡ l
      go true = rw e refl
      go false = refl

  end-apart : (x : Turn S) (l : Bool) (e : End) → (k == x.node.number) ≡ false → end_live e x.node.number k l ≡ l
  end-apart x l session.Live e = refl
  end-apart x l session.Over e = rw e refl
  end-apart x l (session.Down cause) e = rw e refl

  entries-absent : (xs : List (Turn S)) (l : Bool) → Absent xs → entries_live xs k l ≡ l
  entries-absent [] l h = refl
  entries-absent (x ∷ xs) l h =
      ap (λ q. entries_live xs k q) (entry-apart x l (ne_eqb k x.node.number (h x (inl refl)))) ∙ entries-absent xs l (λ y a. h y (inr a))

  ends-absent : (xs : List (Turn S)) (l : Bool) → Absent xs → ends_live xs k l ≡ l
  ends-absent [] l h = refl
  ends-absent (x ∷ xs) l h =
      ap (λ q. ends_live xs k q) (end-apart x l x.out.end (ne_eqb k x.node.number (h x (inl refl)))) ∙ ends-absent xs l (λ y a. h y (inr a))

  abbrev all_live : List (Turn S) → Bool → Bool
  all_live xs l = ends_live xs k (entries_live xs k l)

  absent : (xs : List (Turn S)) (l : Bool) → Absent xs → all_live xs l ≡ l
  absent xs l h = ends-absent xs (entries_live xs k l) h ∙ entries-absent xs l h

  -- the first is of another number
  first-apart : (x : Turn S) (xs : List (Turn S)) (l : Bool) → (k == x.node.number) ≡ false → all_live (x ∷ xs) l ≡ all_live xs l
  first-apart x xs l e =
      ap (λ q. ends_live xs k q) (end-apart x (entries_live xs k (entry_live x k l)) x.out.end e)
      ∙ ap (λ q. ends_live xs k (entries_live xs k q)) (entry-apart x l e)

  -- the first is of this number, and no other
  first-own : (x : Turn S) (xs : List (Turn S)) (l : Bool) → Absent xs → all_live (x ∷ xs) l ≡ end_live x.out.end x.node.number k (entry_live x k l)
  first-own x xs l h =
      ends-absent xs (end_live x.out.end x.node.number k (entries_live xs k (entry_live x k l))) h
      ∙ ap (λ q. end_live x.out.end x.node.number k q) (entries-absent xs (entry_live x k l) h)

-- no live node of a number that isn't there
not-there : {S : Type 0} (ns : List (Node S)) (k : ℕ) → among (map (λ n. n.number) ns) k ≡ false → is_live_node ns k ≡ false
not-there [] k e = refl
not-there (n ∷ ns) k e = let p = or_parts (n.number == k) (among (map (λ n. n.number) ns) k) e in rw (p.0, not-there ns k p.1) refl

module _ {S : Type 0} (u : Units S) (bs : List Bus) (t : ℕ) where
  -- the numbers of turns are those of nodes
  number-among : (ns : List (Node S)) (n : Node S) → Among ns n → Among (map (λ n. n.number) ns) n.number
  number-among [] n a = absurd a
  number-among (m ∷ ns) n (inl e) = inl (ap (λ (x : Node S). x.number) e)
  number-among (m ∷ ns) n (inr a) = inr (number-among ns n a)

  pub turn-numbers : (ns : List (Node S)) (k : ℕ) → among (map (λ n. n.number) ns) k ≡ false → Absent {S = S} k (turns u bs t ns)
  turn-numbers ns k e x a q =
      let r = turn-among u bs t ns x a in
      not-among (map (λ n. n.number) ns) k e (subst (Among (map (λ n. n.number) ns)) (sym (q ∙ ap (λ (m : Node S). m.number) (r.2).node)) (number-among ns r.0 r.1))

  numbers-stay : (ns : List (Node S)) → map (λ n. n.number) (map (node_after u bs t) ns) ≡ map (λ n. n.number) ns
  numbers-stay [] = refl
  numbers-stay (n ∷ ns) = rw (number-stays u bs t n, numbers-stay ns) refl

  pub node-numbers : (ns : List (Node S)) → AreDistinct (map (λ n. n.number) ns) → AreDistinct (map (λ n. n.number) (map (node_after u bs t) ns))
  node-numbers ns d = subst AreDistinct (sym (numbers-stay ns)) d

  -- what a turn of the node n makes of its live flag
  own : (n : Node S) (k : ℕ) → n.number ≡ k → (o : Option (SessionOut × S)) → session_of u bs t n ≡ o
      → (xs : List (Turn S)) → Absent {S = S} k xs
      → all_live k (cons_option (option_map (λ r. record { node = n; out = r.0 }) o) xs) (is_live n.standing) ≡ is_live (node_behind t n o).standing
  own n k e None f xs h = absent k xs (is_live n.standing) h
  own n k e (Some r) f xs h =
      first-own k (record { node = n; out = r.0 }) xs (is_live n.standing) h
      ∙ by-standing n.standing refl
    where
      same : (k == n.number) ≡ true
      same = eq-eqb k n.number (sym e)

      by-end : (s : Standing S) (c : End) → end_live c n.number k true ≡ is_live (standing_after t r.0 r.1 s c)
      by-end s session.Live = refl
      by-end s session.Over = rw same refl
      by-end s (session.Down cause) = rw same refl

      out : (s : Standing S) → n.standing ≡ s → (session_from u bs t n s ≡ None) → ⊥
      out s q z = part (takes_part bs t n) f
        where
          part : (b : Bool) → (if b then session_from u bs t n n.standing else None) ≡ Some r → ⊥
          part true g = let g' : session_from u bs t n s ≡ Some r = subst (λ v. session_from u bs t n v ≡ Some r) q g in absurd (clash (sym z ∙ g'))
            where
              clash : None ≡ Some r → ⊥
              clash w = cc
          part false g = cc

      by-standing : (s : Standing S) → n.standing ≡ s
          → end_live (r.0).end n.number k (if is_new n.standing then (if k == n.number then true else is_live n.standing) else is_live n.standing)
          ≡ is_live (standing_after t r.0 r.1 n.standing (r.0).end)
      by-standing (New s) q = rw (q, same) (by-end (New s) (r.0).end)
      by-standing (Live s last clocks) q = rw q (by-end (Live s last clocks) (r.0).end)
      by-standing Down q = absurd (out Down q refl)
      by-standing Over q = absurd (out Over q refl)

  pub lives-as : (ns : List (Node S)) → AreDistinct (map (λ n. n.number) ns) → (k : ℕ)
      → all_live k (turns u bs t ns) (is_live_node ns k) ≡ is_live_node (map (node_after u bs t) ns) k
  lives-as [] d k = refl
  lives-as (n ∷ ns) d k = go (n.number == k) refl (lives-as ns d.1 k)
    where
      tail : n.number ≡ k → among (map (λ n. n.number) ns) k ≡ false
      tail e = subst (λ j. among (map (λ n. n.number) ns) j ≡ false) e d.0

      tail-behind : n.number ≡ k → is_live_node (map (node_after u bs t) ns) k ≡ false
      tail-behind e = not-there (map (node_after u bs t) ns) k (subst (λ ms. among ms k ≡ false) (sym (numbers-stay ns)) (tail e))

      and-true : (l : Bool) → (l || false) ≡ l
      and-true true = refl
      and-true false = refl

      apart : (o : Option (Turn S)) → turn_of u bs t n ≡ o → (n.number == k) ≡ false → all_live k (cons_option o (turns u bs t ns)) (is_live_node ns k) ≡ all_live k (turns u bs t ns) (is_live_node ns k)
      apart None q e = refl
      apart (Some x) q e = first-apart k x (turns u bs t ns) (is_live_node ns k)
          (ne_eqb k x.node.number (λ s. eqb-false n.number k e (sym (s ∙ number-of (session_of u bs t n) q))))
        where
          number-of : (o : Option (SessionOut × S)) → option_map (λ r. record { node = n; out = r.0 }) o ≡ Some x → x.node.number ≡ n.number
          number-of None z = absurd cc
          number-of (Some r) z = let w : record { node = n; out = r.0 } ≡ x = cc in sym (ap (λ (y : Turn S). y.node.number) w)

      go : (q : Bool) → (n.number == k) ≡ q → all_live k (turns u bs t ns) (is_live_node ns k) ≡ is_live_node (map (node_after u bs t) ns) k
          → all_live k (turns u bs t (n ∷ ns)) (is_live_node (n ∷ ns) k) ≡ is_live_node (map (node_after u bs t) (n ∷ ns)) k
      go false e on = rw (number-stays u bs t n, e) (apart (turn_of u bs t n) refl e ∙ on)
      go true e on =
          let s : n.number ≡ k = eqb-true n.number k e in
          rw (number-stays u bs t n, e, not-there ns k (tail s), tail-behind s, and-true (is_live n.standing), and-true (is_live (node_after u bs t n).standing))
          (own n k s (session_of u bs t n) refl (turns u bs t ns) (turn-numbers ns k (tail s)))

  pub turns-joined : (ns : List (Node S)) → AreDistinct (map (λ n. n.number) ns) → (b : Bus) → 1 ≤ b.setup.nominal → IsJoined ns b
      → IsJoined (map (node_after u bs t) ns) (turns_on t (turns u bs t ns) b)
  turns-joined ns d b p h =
      let xs : List (Turn S) = turns u bs t ns in
      All-each (λ m. m.live ≡ is_live_node (map (node_after u bs t) ns) m.node) (turns_on t xs b).members
      (λ m a. let r = was-member t (λ n live. ends_live xs n (entries_live xs n live)) b (turns_on t xs b) (turns-call t xs b p) m a in
      r.lives ∙ ap (λ l. ends_live xs (r.before).node (entries_live xs (r.before).node l)) (each-All (λ m. m.live ≡ is_live_node ns m.node) b.members r.before h r.among)
      ∙ lives-as ns d (r.before).node ∙ ap (λ j. is_live_node (map (node_after u bs t) ns) j) (sym r.node))
