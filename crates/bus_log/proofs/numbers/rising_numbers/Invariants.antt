use Rattle.std.proofs.Common.{◌≡◌, ◌≤◌, ◌++◌, ◌^◌, drop}
use Rattle.std.specs.Prelude.{map, option_map}
use Rattle.bus_log.specs.Reading.{rising_from}
use Rattle.bus_log.proofs.numbers.rising_numbers.Given as goal

-- The numbers so far and those of the other texts are the whole.
abbrev pub invariant-loop-text : goal.invariant-loop-text
invariant-loop-text l = record {
  whole : option_map (λ ns. l.numbers.items ++ ns) (rising_from l.low (map (λ w. w.now) (drop l.text-index l.texts))) ≡ rising_from 0
      (map (λ w. w.now) l.texts);
  small : l.low ≤ 2 ^ 32;
}
