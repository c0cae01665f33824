-- The winner is the foremost offer, an offer the foremost request of its node, and what is due next the foremost due.
use Rattle.std.proofs.Common.{◌≡◌, ℕ, ◌==◌, Bool, false, List, filter, Some}
use Rattle.std.proofs.lemmas.Bool.{false_from_ne_true, true_from_ne_false, both_ways}
use Rattle.frame_specs.specs.Dominance.{beats}
use Rattle.bus_specs.specs.Bus.{Bus, Request, offer, offers, winner}
use Rattle.bus_specs.specs.Due.{Due, precedes, dues, next_due}
use Rattle.run_specs.specs.Order.{IsForemost}
use Rattle.bus_sound.proofs.Orders.{IsOrder, foremost-is}
use Rattle.bus_sound.proofs.Dominant.{beats_one_way, beats_over}
use Rattle.bus_sound.proofs.Dues.{precedes-order}

abbrev pub better : Request → Request → Bool
better q r = beats q.frame r.frame

pub beats-order : IsOrder better
beats-order = record {
  itself = λ q. itself q;
  through = λ x y z e f. true_from_ne_false (better x z) (λ n. both_ways (better x y)
      (beats_over x.frame z.frame y.frame n (beats_one_way y.frame z.frame f)) e);
  over = λ x y z e f. true_from_ne_false (better x y) (λ n. both_ways (better x z) (beats_over x.frame y.frame z.frame n f) e);
}
  where
    itself : (q : Request) → better q q ≡ false
    itself q = false_from_ne_true (better q q) (λ e. both_ways (better q q) (beats_one_way q.frame q.frame e) e)

pub winner-is : (b : Bus) (now : ℕ) (w : Request) → winner b now ≡ Some w → IsForemost better (offers b now) w
unfolding winner
winner-is b now w e = foremost-is better beats-order (offers b now) w e

pub offer-is : (rs : List Request) (node : ℕ) (q : Request) → offer rs node ≡ Some q → IsForemost better (filter (λ r. r.node == node) rs) q
offer-is rs node q e = foremost-is better beats-order (filter (λ r. r.node == node) rs) q e

pub next-due-is : (b : Bus) (now : ℕ) (d : Due) → next_due b now ≡ Some d → IsForemost precedes (dues b now b.running) d
unfolding next_due
next-due-is b now d e = foremost-is precedes precedes-order (dues b now b.running) d e
