-- The calls of one kind that a thing in memory counts, and those that are to fail.
-- No clause of `Shelf` or of `Sink` cites this.
use Rattle.std.specs.Prelude.{◌≡◌, ◌==◌, ℕ, Bool, true, false, List, [], ◌∷◌, ◌++◌, refl}
use Rattle.std.specs.List.{list_any}
use Rattle.bench_outside.specs.Causes.{next_count}
use Rattle.bench_outside.specs.Shelf.{Faults}

abbrev pub no_faults : Faults
no_faults = record { count = 0; last = [] }

-- these faults and one more, of a call that was given this name
abbrev pub with_fault : Faults → List ℕ → Faults
with_fault faults name = record { count = next_count faults.count; last = name }

-- how many calls were made, the numbers of those that are to fail, from 1, and those that failed
pub record Calls : Type 0 where
  pub made : ℕ
  pub failing : List ℕ
  pub faults : Faults

abbrev pub no_calls : Calls
no_calls = record { made = 0; failing = []; faults = no_faults }

-- these calls, and the call of this number is to fail too
abbrev pub with_failing : Calls → ℕ → Calls
with_failing calls n = record calls { failing = calls.failing ++ n ∷ [] }

-- the next call is to fail
abbrev pub next_fails : Calls → Bool
next_fails calls = list_any (λ n. n == next_count calls.made) calls.failing

-- these calls and one more, which didn't fail
abbrev pub with_call : Calls → Calls
with_call calls = record calls { made = next_count calls.made }

-- these calls and one more, which failed at this name
abbrev pub with_failed_call : Calls → List ℕ → Calls
with_failed_call calls name =
    record calls { made = next_count calls.made; faults = with_fault calls.faults name }

-- the third call and the second are to fail
abbrev two_failing : Calls
two_failing = with_failing (with_failing no_calls 3) 2

first_passes : next_fails two_failing ≡ false
first_passes = refl

second_fails : next_fails (with_call two_failing) ≡ true
second_fails = refl
