use Rattle.std.proofs.Common.{◌≡◌, take, drop, ◌+◌, [], ◌∷◌, rules}
use Rattle.log_specs.specs.Line.{line_text}
use Rattle.log_lines.specs.Lines.{line_of}
use Rattle.bench_outside.specs.Pieces.{BreaksOff}
use Rattle.log_writing.proofs.Writes.{take-line, split-lines, wrote-behind, broke-behind, stopped-at}
use Rattle.std.proofs.lemmas.List.{take-append-drop}
use Rattle.log_writing.proofs.writing.write_lines.Goals as goal

pub returns-in_err-write_line : goal.returns-in_err-write_line
returns-in_err-write_line g c =
    let lines = c.args.lines.now in
    let i = c.loop-line.line-index in
    let line = c.line-item.result in
    record {
      written = record {
        log = search rules;
        part = λ unwritten.
            let broke : BreaksOff g.O.Sink c.loop-line.out c.write_line.new.out (line_text (line_of line) ∷ []) = search (rules, unwritten) in
            broke-behind g.O.Sink (λ l. line_text (line_of l)) _ c.loop-line.out _ (take i lines) (line ∷ []) (drop (i + 1) lines) lines
            (split-lines lines i line c.loop-line-test.true c.line-item.is) c.loop-line.invariant.log broke;
        stopped = λ memory.
            let same : c.write_line.new.out ≡ c.loop-line.out = search (rules, memory) in
            rw same (stopped-at g.O.Sink (λ l. line_text (line_of l)) c.args.out.now c.loop-line.out (take i lines) (drop i lines) lines
            (take-append-drop i lines) c.loop-line.invariant.log);
        unwritten = search rules;
        memory = search rules;
        kept = search rules;
        later = search rules;
      };
    }

pub loop-line-preserved : goal.loop-line-preserved
loop-line-preserved g c =
    let lines = c.args.lines.now in
    let i = c.loop-line.line-index in
    let line = c.line-item.result in
    record {
      log = wrote-behind g.O.Sink (λ l. line_text (line_of l)) _ c.loop-line.out _ (take i lines) (line ∷ []) (take (i + 1) lines)
          (take-line lines i line c.loop-line-test.true c.line-item.is) c.loop-line.invariant.log (search rules);
      kept = search rules;
    }
