-- As time goes on, up to what a bus does next, nothing that it has to do is past.
use Rattle.std.proofs.Common.{◌≡◌, ℕ, ◌<◌, ◌≤◌, ◌⊎◌, false, List, ◌++◌, flat_map, IfSome, Option, Some, None, is_some, arith, sym, refl, ap, ◌∙◌, subst, inl, inr}
use Rattle.std.specs.Prelude.{option_map, option_to_list}
use Rattle.std.proofs.lemmas.Bool.{both_ways}
use Rattle.bus_specs.specs.Bus.{Bus, Member, Running, LostNotice, FormatNotice}
use Rattle.bus_specs.specs.Finish.{return_moment}
use Rattle.bus_specs.specs.Due.{Due, Finish, Notices, Return, rank, at, notices, returns, starts, dues, next_due, notice_moments, precedes}
use Rattle.bus_specs.specs.InTime.{InTime, NoticesFrom}
use Rattle.bus_sound.proofs.Among.{Among, among-append_left, among-filter_map}
use Rattle.bus_sound.proofs.Lists.{All-each, among-map, among-append_right, among-flat_map}
use Rattle.bus_sound.proofs.Orders.{foremost-some, foremost-unbeaten}
use Rattle.bus_sound.proofs.Dues.{precedes-order, not-before}

-- nothing that is due comes before this moment
NoSooner : Bus → ℕ → ℕ → Type 0
NoSooner b now t = (y : Due) → Among (dues b now b.running) y → t ≤ y.moment

no-sooner : (b : Bus) (now t : ℕ) (o : Option Due) → next_due b now ≡ o → IfSome o (λ d. t ≤ d.moment) → NoSooner b now t
unfolding NoSooner next_due
no-sooner b now t None e h y a = absurd (both_ways false refl (sym (ap is_some e) ∙ foremost-some precedes (dues b now b.running) y a))
no-sooner b now t (Some d) e h y a = go (not-before y d (foremost-unbeaten precedes precedes-order (dues b now b.running) d y e a))
  where
    go : (d.moment < y.moment) ⊎ ((d.moment ≡ y.moment) × (rank d.what ≤ rank y.what)) → t ≤ y.moment
    go (inl l) = omega (arith, h, l)
    go (inr l) = omega (arith, h, l.0)

module _ (b : Bus) (now t : ℕ) (h : NoSooner b now t) where
  noticed : (o : Option Running) → b.running ≡ o → (u : ℕ) → (m : Member) → Among b.members m → Among (notice_moments m) u → t ≤ u
  unfolding NoSooner
  noticed None e u m a k = h (at Notices u) (subst (λ o. Among (dues b now o) (at Notices u)) (sym e)
      (among-append_left (returns b ++ notices b) (starts b now) (at Notices u) (among-append_right (returns b) (notices b) (at Notices u)
      (among-map (at Notices) (flat_map notice_moments b.members) u (among-flat_map notice_moments b.members m u a k)))))
  noticed (Some r) e u m a k = h (at Notices u) (subst (λ o. Among (dues b now o) (at Notices u)) (sym e)
      (inr (among-map (at Notices) (flat_map notice_moments b.members) u (among-flat_map notice_moments b.members m u a k))))

  ends : (o : Option Running) → b.running ≡ o → IfSome o (λ r. t ≤ r.end)
  unfolding NoSooner
  ends None e = tt
  ends (Some r) e = h (at Finish r.end) (subst (λ o. Among (dues b now o) (at Finish r.end)) (sym e) (inl refl))

  backs : b.running ≡ None → (m : Member) → Among b.members m → (o : Option ℕ) → m.occurrences ≡ o → IfSome o (λ n. t ≤ return_moment b n)
  unfolding NoSooner
  backs free m a None e = tt
  backs free m a (Some n) e = h (at (Return m.node) (return_moment b n)) (subst (λ o. Among (dues b now o) (at (Return m.node) (return_moment b n))) (sym free)
      (among-append_left (returns b ++ notices b) (starts b now) (at (Return m.node) (return_moment b n))
      (among-append_left (returns b) (notices b) (at (Return m.node) (return_moment b n))
      (among-filter_map (λ (x : Member). option_map (λ seen. at (Return x.node) (return_moment b seen)) x.occurrences) b.members m
      (at (Return m.node) (return_moment b n)) a (ap (option_map (λ seen. at (Return m.node) (return_moment b seen))) e)))))

  listed : (m : Member) → ((u : ℕ) → Among (notice_moments m) u → t ≤ u) → NoticesFrom t m
  listed m k = record {
    lost = one (λ (n : LostNotice). n.due) m.lost (λ u a. k u (among-append_left (lost ++ format) (option_to_list m.wake) u (among-append_left lost format u a)));
    format = one (λ (n : FormatNotice). n.due) m.format (λ u a. k u (among-append_left (lost ++ format) (option_to_list m.wake) u (among-append_right lost format u a)));
    wake = bare m.wake (λ u a. k u (among-append_right (lost ++ format) (option_to_list m.wake) u a));
  }
    where
      lost : List ℕ
      lost = option_to_list (option_map (λ (n : LostNotice). n.due) m.lost)

      format : List ℕ
      format = option_to_list (option_map (λ (n : FormatNotice). n.due) m.format)

      one : {A : Type 0} (when : A → ℕ) (o : Option A) → ((u : ℕ) → Among (option_to_list (option_map when o)) u → t ≤ u) → IfSome o (λ x. t ≤ when x)
      one when None k = tt
      one when (Some x) k = k (when x) (inl refl)

      bare : (o : Option ℕ) → ((u : ℕ) → Among (option_to_list o) u → t ≤ u) → IfSome o (λ x. t ≤ x)
      bare None k = tt
      bare (Some x) k = k x (inl refl)

  later-in-time : InTime t b
  later-in-time = record {
    end = ends b.running refl;
    notices = All-each (NoticesFrom t) b.members (λ m a. listed m (λ u k. noticed b.running refl u m a k));
    returns = λ free. All-each (λ m. IfSome m.occurrences (λ n. t ≤ return_moment b n)) b.members (λ m a. backs free m a m.occurrences refl);
  }

-- up to what is due next
pub later : (b : Bus) (now t : ℕ) → IfSome (next_due b now) (λ d. t ≤ d.moment) → InTime t b
later b now t h = later-in-time b now t (no-sooner b now t (next_due b now) refl h)
