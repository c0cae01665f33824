use Rattle.std.proofs.Common.{◌≡◌, length, map}
use Rattle.std.specs.Prelude.{is_some, string_bytes}
use Rattle.call_specs.specs.CallWords.{arguments_of_words}
use Rattle.bench_top.proofs.words.are_arguments.Given as goal

abbrev pub invariant-loop-left : goal.invariant-loop-left
invariant-loop-left l = is_some (arguments_of_words (map string_bytes l.left)) ≡ is_some (arguments_of_words (map string_bytes l.words))

abbrev pub decreases-loop-left : goal.decreases-loop-left
decreases-loop-left l = length l.left
