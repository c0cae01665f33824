use Rattle.std.proofs.Common.{◌≡◌, ◌≤◌, refl, arith, ℕ}
use Rattle.page_pool.proofs.Kept.{released_some, released_last}
use Rattle.page_pool.proofs.owners.release.Goals as goal

pub returns-then-count-eq0-clause-kept : goal.returns-then-count-eq0-clause-kept
returns-then-count-eq0-clause-kept c =
    released_last _ _ _ _ _ _ _ _ c.requires.kept c.requires.owned c.if-count-eq0.true c.push_back.ensures.lists
    c.push_back.ensures.spare refl

pub returns-else-count-eq0-clause-kept : goal.returns-else-count-eq0-clause-kept
returns-else-count-eq0-clause-kept c =
    released_some _ _ _ _ _ c.requires.kept c.requires.owned (one_up _ c.if-count-eq0.false)
  where
    one_up : (n : ℕ) → (n ≡ 0 → ⊥) → 1 ≤ n
    one_up n h = omega (arith, h)
