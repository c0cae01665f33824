-- A node that may ask of a bus may ask again behind what it submits.
use Rattle.std.proofs.Common.{append_assoc, ◌≡◌, ◌<◌, ◌≤◌, ◌+◌, ◌^◌, ◌==◌, ℕ, cond, List, [], ◌∷◌, ◌++◌, All, arith, refl, ap, ◌∙◌, eq-eqb}
use Rattle.std.proofs.lemmas.List.Elements.{All-head, All-tail}
use Rattle.std.proofs.lemmas.List.Sums.{sum_by-append, sum_by-cons}
use Rattle.log_specs.specs.Line.{Line}
use Rattle.operation_specs.specs.Reading.{Item, IsWhole}
use Rattle.bus_specs.specs.Bus.{Bus, Request, waiting}
use Rattle.bus_specs.specs.Submit.{Submission, Transmit, Keep, Discard, Wakeup, Sleep, Rate, FdRate, Declare, FormatError, Unfit, Fate, Accepted, Full, Dropped, fate, with_request, submission_of, submit}
use Rattle.bus_sound.proofs.Steady.{submit-steady, steady-live}
use Rattle.bus_sound.proofs.Submitted.{submit-sound, submission_of-fits}
use Rattle.world_specs.specs.Sessions.{submission_step}
use Rattle.world_core.specs.Asks.{submitted, MayAsk}

waiting-push : (rs : List Request) (q : Request) (n : ℕ) → waiting (rs ++ q ∷ []) n ≡ waiting rs n + cond (q.node == n) 1 0
waiting-push rs q n =
    let a = sum_by-append (λ (r : Request). cond (r.node == n) 1 0) rs (q ∷ []) in
    let c = sum_by-cons (λ (r : Request). cond (r.node == n) 1 0) q [] in
    omega (arith, a, c)

own-one : (n : ℕ) → ◌≡◌ {A = ℕ} (cond (n == n) 1 0) 1
own-one n = rw (eq-eqb n n refl) refl

-- each number that is given out is of a request of the node
pub submit-gives : (t node : ℕ) (b : Bus) (what : Submission) → (submit b t node what).0.next + waiting b.requests node ≤ b.next + waiting (submit b t node what).0.requests node
unfolding submit
submit-gives t node b (Transmit f) = go (fate b node)
  where
    request : Request
    request = record { node = node; number = b.next; frame = f }

    go : (x : Fate) → (with_request b node f x).next + waiting b.requests node ≤ b.next + waiting (with_request b node f x).requests node
    go Full = omega arith
    go Dropped = omega arith
    go Accepted = let w = waiting-push b.requests request node in let one = own-one node in omega (arith, w, one)
submit-gives t node b Keep = omega arith
submit-gives t node b Discard = omega arith
submit-gives t node b Wakeup = omega arith
submit-gives t node b Sleep = omega arith
submit-gives t node b (Rate v) = omega arith
submit-gives t node b (FdRate v) = omega arith
submit-gives t node b (Declare l) = omega arith
submit-gives t node b (FormatError bytes) = omega arith
submit-gives t node b (Unfit bytes) = omega arith

pub has-number : (node : ℕ) (b : Bus) → MayAsk node b → b.next < 2 ^ 63
has-number node b h = let r = h.room in let w = (h.sound).at_most node in omega (arith, r, w)

module _ (now node : ℕ) where
  pub asks-step : (p : Bus × List Line) (item : Item) → IsWhole item → MayAsk node p.0 → MayAsk node (submission_step now node p item).0
  asks-step p item w h =
      let what = submission_of p.0.setup item in
      let g = submit-gives now node p.0 what in
      let r = h.room in
      record {
        live = steady-live p.0 (submit p.0 now node what).0 node (submit-steady p.0 now node what) h.live;
        sound = submit-sound p.0 now node what h.sound (submission_of-fits p.0.setup item w) h.live;
        room = omega (arith, g, r);
      }

  pub asks-all : (items : List Item) (p : Bus × List Line) → All IsWhole items → MayAsk node p.0 → MayAsk node (submitted now node p items).0
  asks-all [] p w h = h
  asks-all (i ∷ items) p w h = asks-all items (submission_step now node p i) (All-tail IsWhole i items w) (asks-step p i (All-head IsWhole i items w) h)

  -- the lines come behind those that are there
  pub lines-behind : (items : List Item) (b : Bus) (before ls : List Line) → submitted now node (b, before ++ ls) items
      ≡ ((submitted now node (b, ls) items).0, before ++ (submitted now node (b, ls) items).1)
  lines-behind [] b before ls = refl
  lines-behind (i ∷ items) b before ls =
      let r = submit b now node (submission_of b.setup i) in
      ap (λ k. submitted now node (r.0, k) items) (append_assoc before ls (r.1 ∷ [])) ∙ lines-behind items r.0 before (ls ++ r.1 ∷ [])
