use Rattle.std.proofs.Common.{rules, ◌≡◌, ◌<◌, sym, ap, ◌∙◌, refl, arith, inl, inr, subst, length}
use Rattle.std.specs.Prelude.{Err}
use Rattle.module_specs.specs.declared.fault.Fault.TheVariants as fault
use Rattle.module_specs.specs.ModuleSpelling.{most_bytes}
use Rattle.module_specs.specs.ModuleReading.{module_read}
use Rattle.bench_outside.specs.Pieces.{WritesAll, StopsBefore}
use Rattle.bench_outside.specs.PieceSteps.{stops_untouched, writes_nothing}
use Rattle.bench_outside.specs.declared.refusal.Why.TheVariants.{Size}
use Rattle.bench_outside.specs.declared.refusal.FileId.TheVariants.{Main}
use Rattle.bench_top.specs.declared.status.Status.TheVariants.{Refused, Unwritten, Memory, Unread}
use Rattle.bench_top.specs.Words.{Wasm}
use Rattle.bench_top.specs.Refusals.{main_refusal}
use Rattle.bench_top.specs.Telling.{wasm_deed, read_status, read_lines}
use Rattle.bench_top.proofs.Executed.{named_main}
use Rattle.bench_top.proofs.Modules.{over_limit}
use Rattle.bench_top.proofs.telling.tell_module.Goals as goal

pub returns-in-Ok : goal.returns-in-Ok
returns-in-Ok g c = record {
  carries = record {
    carried = λ held h.
        let bytes = c.deref.result.now in
        let file = c.args.file.now in
        let same : bytes ≡ held file = c.deref.ensures.value ∙ c.in-Ok.ensures.bytes held h in (
          wasm_deed file bytes,
          ap (wasm_deed file) same,
          record {
            answer = c.tell_bytes.ensures.answer;
            whole = c.tell_bytes.ensures.whole;
            broken = c.tell_bytes.ensures.broken;
            stopped = λ e. subst (λ o. StopsBefore g.O.Sink c.args.out.now o (read_lines (module_read bytes)))
                (sym (c.tell_bytes.ensures.stopped e)) (stops_untouched g.O.Sink c.args.out.now (read_lines (module_read bytes)));
            named = λ id e. absurd (c.tell_bytes.ensures.read id e);
          },
        );
    spared = search rules;
    named = λ file name e in_words. absurd (c.tell_bytes.ensures.read file e);
    caused = search rules;
    form = search rules;
  };
}

pub returns-in-Err-Unread : goal.returns-in-Err-Unread
returns-in-Err-Unread g c = record {
  carries = record {
    carried = λ held h. (
      wasm_deed c.args.file.now (held c.args.file.now),
      refl,
      record {
        answer = inl tt;
        whole = inl tt;
        broken = λ e. absurd cc;
        stopped = λ e. absurd cc;
        named = λ file e.
            let same : Main ≡ file = cc in
            let blamed = c.fetch.ensures.named (c.in-Err-Unread.is ∙ ap (λ x. Err x) c.in-Err-Unread.field-0-is) in
            (0, omega arith, ap (λ x. (x, c.args.file.now)) same ∙ ap (λ n. (file, n)) (sym blamed));
      },
    );
    spared = search rules;
    named = named_main (Wasm c.args.file.now) c.args.file.now _ refl
        (c.fetch.ensures.named (c.in-Err-Unread.is ∙ ap (λ x. Err x) c.in-Err-Unread.field-0-is));
    caused = search rules;
    form = search rules;
  };
}

pub returns-in-Err-Size : goal.returns-in-Err-Size
returns-in-Err-Size g c = record {
  carries = record {
    carried = λ held h.
        let bytes = held c.args.file.now in
        let over : most_bytes < length bytes = c.fetch.ensures.size (c.in-Err-Size.is ∙ ap (λ x. Err x) c.in-Err-Size.field-0-is) held h in
        let fault : Err (fault.Size most_bytes) ≡ module_read bytes = sym (over_limit bytes over) in (
          wasm_deed c.args.file.now bytes,
          refl,
          record {
            answer = inr (c.refused.ensures ∙ ap read_status fault);
            whole = inr (subst (λ read. WritesAll g.O.Sink c.args.out.now c.args.out.now (read_lines read)) fault
                (writes_nothing g.O.Sink c.args.out.now));
            broken = λ e. let wrong : Refused (main_refusal Size most_bytes) ≡ Unwritten = sym c.refused.ensures ∙ e in absurd cc;
            stopped = λ e. let wrong : Refused (main_refusal Size most_bytes) ≡ Memory = sym c.refused.ensures ∙ e in absurd cc;
            named = λ file e. let wrong : Refused (main_refusal Size most_bytes) ≡ Unread file = sym c.refused.ensures ∙ e in absurd cc;
          },
        );
    spared = search rules;
    named = λ file name e in_words. let wrong : Refused (main_refusal Size most_bytes) ≡ Unread file = sym c.refused.ensures
        ∙ e in absurd cc;
    caused = search rules;
    form = search rules;
  };
}

pub returns-in-Err-Memory : goal.returns-in-Err-Memory
returns-in-Err-Memory g c = record {
  carries = record {
    carried = λ held h.
        let bytes = held c.args.file.now in (
          wasm_deed c.args.file.now bytes,
          refl,
          record {
            answer = inl tt;
            whole = inl tt;
            broken = λ e. absurd cc;
            stopped = λ e. stops_untouched g.O.Sink c.args.out.now (read_lines (module_read bytes));
            named = λ id e. absurd cc;
          },
        );
    spared = search rules;
    named = λ file name e in_words. absurd cc;
    caused = search rules;
    form = search rules;
  };
}
