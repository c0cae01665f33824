-- Every file is judged: it is too long, or read as what it is.
use Rattle.std.proofs.Common.{◌≡◌, ◌≤◌, ℕ, Bool, true, false, List, length, refl, arith}
use Rattle.std.specs.Prelude.{Result, Err, nat_lt}
use Rattle.play_specs.specs.Play.{Play}
use Rattle.play_file.specs.Walk.{walk}
use Rattle.play_file.proofs.Files.{walk_exact}
use Rattle.bench_outside.specs.declared.refusal.Refusal.{Refusal}
use Rattle.bench_outside.specs.declared.refusal.Why.TheVariants.{Size}
use Rattle.bench_outside.specs.Shelf.{Contents}
use Rattle.bench_top.specs.Refusals.{main_refusal}
use Rattle.bench_top.specs.Playing.{Judgement, TooLong, Read, placed, deed_of, IsPlayDeed}

pub judged_of : (limit : ℕ) (bytes : List ℕ) → (j : Result Play Refusal) × Judgement limit bytes j
judged_of limit bytes = go (nat_lt limit (length bytes)) refl
  where
    go : (b : Bool) → nat_lt limit (length bytes) ≡ b → (j : Result Play Refusal) × Judgement limit bytes j
    go true e = (Err (main_refusal Size limit), TooLong (grind arith))
    go false e = (placed (walk bytes), Read (grind arith) (walk bytes) (walk_exact bytes))

-- the deed of a file that is judged so
pub done_as : (limit budget : ℕ) (file : List ℕ) (held : Contents) (j : Result Play Refusal) → Judgement limit (held file) j
    → IsPlayDeed limit budget file held (deed_of budget file j)
done_as limit budget file held j by = record { judged = j; by = by; done = refl }

-- bytes that were read, and what they are read as
pub read_as : (limit : ℕ) (held bytes : List ℕ) → bytes ≡ held → length bytes ≤ limit → Judgement limit held (placed (walk bytes))
read_as limit held bytes same within = rw (← same) (Read within (walk bytes) (walk_exact bytes))
