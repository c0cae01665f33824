-- The requests of lists as contracts see them.
use Rattle.std.proofs.Common.{◌≡◌, ℕ, List, sym, ap, ◌∙◌, subst}
use Rattle.bus_specs.specs.Bus.{Request}
use Rattle.index_list.specs.Many.{list_at}
use Rattle.pending_frames.specs.Kept.{Placed, Among, joined, requests_of, IsKept}
use Rattle.pending_frames.proofs.Members.{in_joined, joined_has}
use Rattle.pending_frames.proofs.Numbers.{IsRising, same_rising, rising_by_number, in_by_number, by_number_has}

pub requests_rise : (lists : List (List Placed)) → IsRising (requests_of lists)
unfolding requests_of
requests_rise lists = rising_by_number (joined lists)

module _ (lists : List (List Placed)) (kept : IsKept lists) where
  -- a request stands in the list of its node
  pub in_requests : (r : Request) → Among (requests_of lists) r → (a : Placed) × Among (list_at lists r.node) a × (r ≡ a.1)
  unfolding requests_of
  in_requests r h =
      let s = in_by_number (joined lists) r h in
      let t = in_joined lists s.0 s.1 in
      let n : t.0 ≡ r.node = sym (kept.home t.0 s.0 t.1) ∙ ap (λ (q : Request). q.node) (sym s.2) in
      (s.0, subst (λ i. Among (list_at lists i) s.0) n t.1, s.2)

  -- what stands in a list is a request
  pub requests_have : (i : ℕ) (a : Placed) → Among (list_at lists i) a → Among (requests_of lists) a.1
  unfolding requests_of
  requests_have i a h = by_number_has (joined lists) one a (joined_has lists i a h)
    where
      one : (a b : Placed) → Among (joined lists) a → Among (joined lists) b → a.1.number ≡ b.1.number → a ≡ b
      one a b h k e = let s = in_joined lists a h in let t = in_joined lists b k in kept.numbers s.0 t.0 a b s.1 t.1 e

  -- rising requests with those of the lists, and no others, are all requests
  pub requests_are : (rs : List Request) → IsRising rs
      → ((i : ℕ) (a : Placed) → Among (list_at lists i) a → Among rs a.1)
      → ((r : Request) → Among rs r → (i : ℕ) × (a : Placed) × Among (list_at lists i) a × (r ≡ a.1))
      → requests_of lists ≡ rs
  requests_are rs rise there back = same_rising (requests_of lists) rs (requests_rise lists) rise over under
    where
      over : (r : Request) → Among (requests_of lists) r → Among rs r
      over r h = let s = in_requests r h in subst (Among rs) (sym s.2) (there r.node s.0 s.1)

      under : (r : Request) → Among rs r → Among (requests_of lists) r
      under r h = let s = back r h in subst (Among (requests_of lists)) (sym s.3) (requests_have s.0 s.1 s.2)
