-- The words of a line that has four or more.
use Rattle.std.proofs.Common.{◌≡◌, ◌≤◌, ◌-◌, ℕ, List, [], ◌∷◌, length, get_or, take, drop, map, ap, ◌∙◌, arith}
use Rattle.std.proofs.Math.Seq.{take-length}
use Rattle.bus_log.specs.Reading.{line_in, node_line_in}

pub four_or_more : {A : Type 0} (f : A → List ℕ) (ws : List A) (p q r s : A) → 4 ≤ length ws
    → node_line_in (f (get_or ws 0 p)) (f (get_or ws 1 q)) (f (get_or ws 2 r)) (f (get_or ws 3 s))
    (map f (take (length ws - 4) (drop 4 ws))) ≡ line_in (map f ws)
four_or_more f [] p q r s long = absurd (omega arith)
four_or_more f (a ∷ []) p q r s long = absurd (omega arith)
four_or_more f (a ∷ b ∷ []) p q r s long = absurd (omega arith)
four_or_more f (a ∷ b ∷ c ∷ []) p q r s long = absurd (omega arith)
four_or_more f (a ∷ b ∷ c ∷ d ∷ ws) p q r s long =
    let left : length (a ∷ b ∷ c ∷ d ∷ ws) - 4 ≡ length ws = omega arith in
    ap (λ n. node_line_in (f a) (f b) (f c) (f d) (map f (take n ws))) left
    ∙ ap (λ xs. node_line_in (f a) (f b) (f c) (f d) (map f xs)) (take-length ws)
