-- Pieces that are written to a sink one behind the other, each by one write.
-- Clauses cite this at a bound `O: Sink`.
use Rattle.std.specs.Prelude.{◌≡◌, ◌+◌, ℕ, List, [], ◌∷◌, ◌++◌, length, flat_map, refl}
use Rattle.bench_outside.specs.Sink.{Appended, IsPrefix, Counted}
use Rattle.bench_outside.specs.declared.sink.Sink.{Ghosts}

-- the bytes of all pieces, one behind the other
abbrev pub joined : List (List ℕ) → List ℕ
joined pieces = flat_map (λ piece. piece) pieces

two_joined : joined ((1 ∷ 2 ∷ []) ∷ [] ∷ (3 ∷ []) ∷ []) ≡ 1 ∷ 2 ∷ 3 ∷ []
two_joined = refl

module _ {S : Type 0} (sink : Ghosts S) where
  -- All of these pieces were written, and nothing else: as many writes were made as there are pieces.
  -- As far as the sink tells what was written and counts its writes.
  pub record WritesAll (old new : S) (pieces : List (List ℕ)) : Type 0 where
    pub bytes : Appended (sink.written old) (sink.written new) (joined pieces)
    pub made : Counted (sink.writes old) (sink.writes new) (length pieces)

  -- Some pieces were written, each by one write, and of the next a first part by one write more.
  -- Nothing was written behind it.
  pub record BreaksOff (old new : S) (pieces : List (List ℕ)) : Type 0 where
    pub whole : List (List ℕ)
    pub next : List ℕ
    pub rest : List (List ℕ)
    pub order : pieces ≡ whole ++ next ∷ rest
    pub part : List ℕ
    pub begins : IsPrefix part next
    pub bytes : Appended (sink.written old) (sink.written new) (joined whole ++ part)
    pub made : Counted (sink.writes old) (sink.writes new) (length whole + 1)

  -- Some pieces were written, each by one write, and nothing else.
  pub record StopsBefore (old new : S) (pieces : List (List ℕ)) : Type 0 where
    pub whole : List (List ℕ)
    pub rest : List (List ℕ)
    pub order : pieces ≡ whole ++ rest
    pub written : WritesAll old new whole
