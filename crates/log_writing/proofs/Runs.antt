-- What is left of the log of a run behind one event, and where no event comes: of anything that goes on from event to event.
use Rattle.std.proofs.Common.{◌≡◌, ◌<◌, ◌-◌, ℕ, zero, suc, List, [], ◌++◌, Option, Some, None, refl, sym, ap, append_assoc, ◌∙◌, arith}
use Rattle.run_specs.specs.Run.{Machine, behind, head, log, then_from}

module _ {S L : Type 0} (m : Machine S L) where
  behind-event : (left : ℕ) (s : S) (p : S × List L) → m.step s ≡ Some p → behind m (suc left) s ≡ behind m left p.0
  unfolding behind
  behind-event left s p e = ap (then_from s (λ p. behind m left p.0)) e

  pub behind-none : (left : ℕ) (s : S) → m.step s ≡ None → behind m left s ≡ s
  unfolding behind
  behind-none zero s e = refl
  behind-none (suc left) s e = ap (then_from s (λ p. behind m left p.0)) e

  pub behind-zero : (s : S) → behind m 0 s ≡ s
  unfolding behind
  behind-zero s = refl

  head-event : (left : ℕ) (s : S) (p : S × List L) → m.step s ≡ Some p → head m (suc left) s ≡ p.1 ++ head m left p.0
  unfolding head
  head-event left s p e = ap (then_from [] (λ p. p.1 ++ head m left p.0)) e

  head-none : (left : ℕ) (s : S) → m.step s ≡ None → head m left s ≡ []
  unfolding head
  head-none zero s e = refl
  head-none (suc left) s e = ap (then_from [] (λ p. p.1 ++ head m left p.0)) e

  head-zero : (s : S) → head m 0 s ≡ []
  unfolding head
  head-zero s = refl

  log-event : (left : ℕ) (s : S) (p : S × List L) → m.step s ≡ Some p → log m (suc left) s ≡ p.1 ++ log m left p.0
  log-event left s p e =
      rw (head-event left s p e, behind-event left s p e) (append_assoc p.1 (head m left p.0) (m.closing (behind m left p.0)))

  -- where no event comes, only the closing lines are left
  pub log-none : (left : ℕ) (s : S) → m.step s ≡ None → log m left s ≡ m.closing s
  log-none left s e = rw (head-none left s e, behind-none left s e) refl

  -- and where the budget is used
  pub log-zero : (s : S) → log m 0 s ≡ m.closing s
  log-zero s = rw (head-zero s, behind-zero s) refl

  more-lines : (left : ℕ) (s : S) (p : S × List L) (so_far all : List L) → m.step s ≡ Some p
      → so_far ++ log m (suc left) s ≡ all → (so_far ++ p.1) ++ log m left p.0 ≡ all
  more-lines left s p so_far all e whole =
      append_assoc so_far p.1 (log m left p.0) ∙ ap (λ x. so_far ++ x) (sym (log-event left s p e)) ∙ whole

  -- the lines so far and those of an event, and what is left behind it
  pub lines-behind : (left : ℕ) (s : S) (p : S × List L) (so_far all : List L) → 0 < left → m.step s ≡ Some p
      → so_far ++ log m left s ≡ all → (so_far ++ p.1) ++ log m (left - 1) p.0 ≡ all
  lines-behind zero s p so_far all more e whole = absurd (omega arith)
  lines-behind (suc k) s p so_far all more e whole =
      let k_is : suc k - 1 ≡ k = omega arith in rw k_is (more-lines k s p so_far all e whole)

  -- a run ends where it ends behind its next event
  pub ends-behind : (left : ℕ) (s : S) (p : S × List L) (last : S) → 0 < left → m.step s ≡ Some p
      → behind m left s ≡ last → behind m (left - 1) p.0 ≡ last
  ends-behind zero s p last more e whole = absurd (omega arith)
  ends-behind (suc k) s p last more e whole =
      let k_is : suc k - 1 ≡ k = omega arith in rw k_is (sym (behind-event k s p e) ∙ whole)
