-- The requests behind a taking, and behind the clearing of a node.
use Rattle.std.proofs.Common.{◌≡◌, ◌≢◌, ◌⊎◌, ◌<◌, ℕ, Bool, true, false, ◌&&◌, not, cond, eqb, eqb-true, eq-eqb, List, [], ◌∷◌, length, map}
use Rattle.std.proofs.Common.{set}
use Rattle.std.proofs.Common.{Some, None, sym, refl, ap, ◌∙◌, subst, inl, inr}
use Rattle.std.specs.List.{filter}
use Rattle.std.proofs.lemmas.Bool.{false_from_ne_true, both_ways}
use Rattle.bus_specs.specs.Bus.{Request}
use Rattle.index_list.specs.Many.{without, list_at}
use Rattle.pending_frames.specs.Pending.{is_request, frame_of}
use Rattle.pending_frames.specs.Kept.{Placed, Among, requests_of, IsKept}
use Rattle.pending_frames.proofs.Members.{in_filter, filter_has, filter_all}
use Rattle.pending_frames.proofs.Numbers.{IsRising, filter_rising}
use Rattle.pending_frames.proofs.Lists.{requests_rise, in_requests, requests_have, requests_are}
use Rattle.pending_frames.proofs.Steps.{names_one, without_keeps, without_place}
use Rattle.pending_frames.proofs.Kept.{at_without, fewer_without, kept_without, kept_cleared, cleared_there, in_cleared}

not_true : (b : Bool) → not b ≡ true → b ≡ false
not_true true e = absurd cc
not_true false e = refl

not_false : (b : Bool) → (b ≡ true → ⊥) → not b ≡ true
not_false true h = absurd (h refl)
not_false false h = refl

module _ (node number : ℕ) where
  request_says : (r : Request) → is_request node number r ≡ true → (r.node ≡ node) × (r.number ≡ number)
  request_says r e = go (eqb r.node node) refl (eqb r.number number) refl e
    where
      go : (s : Bool) → eqb r.node node ≡ s → (t : Bool) → eqb r.number number ≡ t → (s && t) ≡ true → (r.node ≡ node) × (r.number ≡ number)
      go true p true q e = (eqb-true r.node node p, eqb-true r.number number q)
      go true p false q e = absurd cc
      go false p t q e = absurd cc

  is_that : (r : Request) → r.node ≡ node → r.number ≡ number → is_request node number r ≡ true
  is_that r e f = rw (eq-eqb r.node node e, eq-eqb r.number number f) refl

  frame_found : (rs : List Request) (r : Request) → Among rs r → is_request node number r ≡ true
      → ((q : Request) → Among rs q → is_request node number q ≡ true → q ≡ r) → frame_of rs node number ≡ Some r.frame
  frame_found [] r a e one = absurd a
  frame_found (q ∷ rs) r a e one = go (is_request node number q) refl a (λ b. frame_found rs r b e (λ p c. one p (inr c)))
    where
      go : (s : Bool) → is_request node number q ≡ s → (r ≡ q) ⊎ Among rs r → (Among rs r → frame_of rs node number ≡ Some r.frame)
          → cond s (Some q.frame) (frame_of rs node number) ≡ Some r.frame
      go true t b on = ap (λ (p : Request). Some p.frame) (one q (inl refl) t)
      go false t (inl k) on = absurd (both_ways (is_request node number q) t (ap (is_request node number) (sym k) ∙ e))
      go false t (inr b) on = on b

  frame_none : (rs : List Request) → ((q : Request) → Among rs q → is_request node number q ≡ false) → frame_of rs node number ≡ None
  frame_none [] none = refl
  frame_none (q ∷ rs) none = rw (none q (inl refl)) (frame_none rs (λ p a. none p (inr a)))

-- no request has the number
module _ (lists : List (List Placed)) (kept : IsKept lists) (node number : ℕ)
    (none : (a : Placed) → Among (list_at lists node) a → a.1.number ≢ number) where
  not_there : (q : Request) → Among (requests_of lists) q → is_request node number q ≡ false
  not_there q h = false_from_ne_true (is_request node number q) (λ e.
      let says = request_says node number q e in
      let s = in_requests lists kept q h in
      none s.0 (subst (λ i. Among (list_at lists i) s.0) says.0 s.1) (ap (λ (r : Request). r.number) (sym s.2) ∙ says.1))

  pub frame_missing : frame_of (requests_of lists) node number ≡ None
  frame_missing = frame_none node number (requests_of lists) not_there

  pub nothing_leaves : filter (λ q. not (is_request node number q)) (requests_of lists) ≡ requests_of lists
  nothing_leaves = filter_all (λ q. not (is_request node number q)) (requests_of lists)
      (λ q h. not_false (is_request node number q) (λ e. both_ways (is_request node number q) (not_there q h) e))

-- one request has it, at this place
module _ (lists : List (List Placed)) (kept : IsKept lists) (node number place : ℕ) (r : Request)
    (h : Among (list_at lists node) (place, r)) (numbered : r.number ≡ number) where
  that : is_request node number r ≡ true
  that = is_that node number r (kept.home node (place, r) h) numbered

  -- an entry with the number is that one
  only : (i : ℕ) (a : Placed) → Among (list_at lists i) a → is_request node number a.1 ≡ true → a ≡ (place, r)
  only i a k e = kept.numbers i node a (place, r) k h ((request_says node number a.1 e).1 ∙ sym numbered)

  pub frame_there : frame_of (requests_of lists) node number ≡ Some r.frame
  frame_there = frame_found node number (requests_of lists) r (requests_have lists kept node (place, r) h) that (λ q k e.
      let s = in_requests lists kept q k in
      s.2 ∙ ap (λ (a : Placed). a.1) (only q.node s.0 s.1 (ap (is_request node number) (sym s.2) ∙ e)))

  pub requests_taken : requests_of (map (without place) lists) ≡ filter (λ q. not (is_request node number q)) (requests_of lists)
  requests_taken = requests_are (map (without place) lists) (kept_without lists place kept) left rise there back
    where
      left : List Request
      left = filter (λ q. not (is_request node number q)) (requests_of lists)

      rise : IsRising left
      rise = filter_rising (λ q. not (is_request node number q)) (requests_of lists) (requests_rise lists)

      there : (i : ℕ) (a : Placed) → Among (list_at (map (without place) lists) i) a → Among left a.1
      there i a k =
          let old = fewer_without lists place i a k in
          let apart = without_place place (list_at lists i) (kept.order i) (names_one lists kept i) a
          (subst (λ (l : List Placed). Among l a) (at_without lists place i) k) in
          filter_has (λ q. not (is_request node number q)) (requests_of lists) a.1 (requests_have lists kept i a old)
          (not_false (is_request node number a.1) (λ e. apart (ap (λ (b : Placed). b.0) (only i a old e))))

      back : (q : Request) → Among left q → (i : ℕ) × (a : Placed) × Among (list_at (map (without place) lists) i) a × (q ≡ a.1)
      back q k =
          let f = in_filter (λ q. not (is_request node number q)) (requests_of lists) q k in
          let s = in_requests lists kept q f.0 in
          let apart : s.0.0 ≢ place = λ e.
          let same = kept.places q.node node s.0 (place, r) s.1 h e in
          both_ways (is_request node number q) (not_true (is_request node number q) f.1)
          (ap (is_request node number) (s.2 ∙ ap (λ (b : Placed). b.1) same) ∙ that) in (
            q.node,
            s.0,
            subst (λ (l : List Placed). Among l s.0) (sym (at_without lists place q.node))
                (without_keeps place (list_at lists q.node) s.0 s.1 apart),
            s.2,
          )

pub requests_cleared : (lists : List (List Placed)) (kept : IsKept lists) (node : ℕ) → node < length lists
    → requests_of (set lists node []) ≡ filter (λ q. not (eqb q.node node)) (requests_of lists)
requests_cleared lists kept node within =
    requests_are (set lists node []) (kept_cleared lists node within kept) left rise there back
  where
    left : List Request
    left = filter (λ q. not (eqb q.node node)) (requests_of lists)

    rise : IsRising left
    rise = filter_rising (λ q. not (eqb q.node node)) (requests_of lists) (requests_rise lists)

    there : (i : ℕ) (a : Placed) → Among (list_at (set lists node []) i) a → Among left a.1
    there i a k =
        let c = in_cleared lists node within i a k in
        filter_has (λ q. not (eqb q.node node)) (requests_of lists) a.1 (requests_have lists kept i a c.1)
        (not_false (eqb a.1.node node) (λ e. c.0 (sym (kept.home i a c.1) ∙ eqb-true a.1.node node e)))

    back : (q : Request) → Among left q → (i : ℕ) × (a : Placed) × Among (list_at (set lists node []) i) a × (q ≡ a.1)
    back q k =
        let f = in_filter (λ q. not (eqb q.node node)) (requests_of lists) q k in
        let s = in_requests lists kept q f.0 in
        let apart : q.node ≢ node = λ e. both_ways (eqb q.node node) (not_true (eqb q.node node) f.1) (eq-eqb q.node node e) in
        (q.node, s.0, subst (λ (l : List Placed). Among l s.0) (sym (cleared_there lists node within q.node apart)) s.1, s.2)
