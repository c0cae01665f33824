use Rattle.std.proofs.Common.{◌≡◌, ◌∷◌, [], map, take}
use Rattle.std.specs.Prelude.{flat_map}
use Rattle.bench_outside.specs.Pieces.{WritesAll}
use Rattle.bench_top.proofs.reporting.write_line.Given as goal

-- The words so far are written.
abbrev pub invariant-loop-word : goal.invariant-loop-word
invariant-loop-word g l = record {
  line : WritesAll g.R.Sink l.fn.report l.report
      (flat_map (λ word. word ∷ (32 ∷ []) ∷ []) (map (λ w. w.now) (take l.word-index l.words)));
  kept : g.R.Sink.faults l.report ≡ g.R.Sink.faults l.fn.report;
}
