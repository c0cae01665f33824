-- When a fault may be answered: only where a count of faults rose.
use Rattle.std.specs.Prelude.{◌≡◌, ◌≤◌, ◌+◌, ◌-◌, ◌^◌, ℕ, min, max, refl, Result, OnOk, OnErr}

-- the count after one more: it stands still at the last value of a u64
abbrev pub next_count : ℕ → ℕ
next_count count = min (count + 1) (2 ^ 64 - 1)

next_count-of_0 : next_count 0 ≡ 1
next_count-of_0 = refl

next_count-at_end : next_count (2 ^ 64 - 1) ≡ 2 ^ 64 - 1
next_count-at_end = refl

-- the count after so many more: it stands still at that value too, and never falls
abbrev pub count_after : ℕ → ℕ → ℕ
count_after count more = max count (min (count + more) (2 ^ 64 - 1))

count_after-of_3 : count_after 3 2 ≡ 5
count_after-of_3 = refl

count_after-at_end : count_after (2 ^ 64 - 2) 3 ≡ 2 ^ 64 - 1
count_after-at_end = refl

-- the count rose, or stands at the last value of a u64
abbrev pub Rose : ℕ → ℕ → Type 0
Rose before now = next_count before ≤ now

-- The count never falls. An error comes only where it rose, and with Ok it stays.
pub record HasCause {T E : Type 0} (before now : ℕ) (result : Result T E) : Type 0 where
  pub later : before ≤ now
  pub failed : OnErr result (Rose before now)
  pub kept : OnOk result (now ≡ before)
