use Rattle.std.proofs.Common.{◌≡◌, ◌++◌, length, map}
use Rattle.std.specs.Prelude.{option_map, string_bytes}
use Rattle.call_specs.specs.CallWords.{arguments_of_words}
use Rattle.bench_top.proofs.words.arguments_of.Given as goal

-- The words so far are these numbers.
abbrev pub invariant-loop-left : goal.invariant-loop-left
invariant-loop-left l =
    option_map (λ ns. l.numbers.items ++ ns) (arguments_of_words (map string_bytes l.left)) ≡ arguments_of_words (map string_bytes l.words)

abbrev pub decreases-loop-left : goal.decreases-loop-left
decreases-loop-left l = length l.left
