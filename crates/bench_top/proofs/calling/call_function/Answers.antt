use Rattle.std.proofs.Common.{rules, ◌≡◌, ◌<◌, sym, ap, ◌∙◌, refl, arith, inl, inr, subst, length}
use Rattle.std.specs.Prelude.{Err}
use Rattle.module_specs.specs.declared.fault.Fault.TheVariants as fault
use Rattle.module_specs.specs.ModuleSpelling.{most_bytes}
use Rattle.module_specs.specs.ModuleReading.{module_read}
use Rattle.bench_outside.specs.Pieces.{WritesAll, StopsBefore}
use Rattle.bench_outside.specs.PieceSteps.{stops_untouched, writes_nothing}
use Rattle.bench_outside.specs.declared.refusal.Why.TheVariants.{Size}
use Rattle.bench_outside.specs.declared.refusal.FileId.TheVariants.{Main}
use Rattle.bench_top.specs.declared.status.Status.TheVariants.{Refused, Unwritten, Memory, Unread}
use Rattle.bench_top.specs.Refusals.{main_refusal}
use Rattle.bench_top.specs.Words.{Call, meant_call}
use Rattle.bench_top.specs.Calling.{call_deed, call_status, call_lines}
use Rattle.bench_top.proofs.Executed.{named_main}
use Rattle.bench_top.proofs.Modules.{over_limit}
use Rattle.bench_top.proofs.calling.call_function.Goals as goal

pub returns-in-Ok : goal.returns-in-Ok
returns-in-Ok g c = record {
  carries = record {
    carried = λ held h.
        let bytes = c.deref.result.now in
        let words = meant_call c.args.words.now in
        let same : bytes ≡ held words.file = c.deref.ensures.value ∙ c.in-Ok.ensures.bytes held h in (
          call_deed words bytes,
          ap (call_deed words) same,
          record {
            answer = c.call_in.ensures.answer;
            whole = c.call_in.ensures.whole;
            broken = c.call_in.ensures.broken;
            stopped = λ e. subst (λ o. StopsBefore g.O.Sink c.args.out.now o (call_lines words (module_read bytes)))
                (sym (c.call_in.ensures.stopped e)) (stops_untouched g.O.Sink c.args.out.now (call_lines words (module_read bytes)));
            named = λ id e. absurd (c.call_in.ensures.read id e);
          },
        );
    spared = search rules;
    named = λ file name e in_words. absurd (c.call_in.ensures.read file e);
    caused = search rules;
    form = search rules;
  };
}

pub returns-in-Err-Unread : goal.returns-in-Err-Unread
returns-in-Err-Unread g c = record {
  carries = record {
    carried = λ held h. (
      call_deed (meant_call c.args.words.now) (held c.args.words.now.file.now),
      refl,
      record {
        answer = inl tt;
        whole = inl tt;
        broken = λ e. absurd cc;
        stopped = λ e. absurd cc;
        named = λ file e.
            let same : Main ≡ file = cc in
            let blamed = c.fetch.ensures.named (c.in-Err-Unread.is ∙ ap (λ x. Err x) c.in-Err-Unread.field-0-is) in
            (0, omega arith, ap (λ x. (x, c.args.words.now.file.now)) same ∙ ap (λ n. (file, n)) (sym blamed));
      },
    );
    spared = search rules;
    named = named_main (Call (meant_call c.args.words.now)) c.args.words.now.file.now _ refl
        (c.fetch.ensures.named (c.in-Err-Unread.is ∙ ap (λ x. Err x) c.in-Err-Unread.field-0-is));
    caused = search rules;
    form = search rules;
  };
}

pub returns-in-Err-Size : goal.returns-in-Err-Size
returns-in-Err-Size g c = record {
  carries = record {
    carried = λ held h.
        let bytes = held c.args.words.now.file.now in
        let over : most_bytes < length bytes = c.fetch.ensures.size (c.in-Err-Size.is ∙ ap (λ x. Err x) c.in-Err-Size.field-0-is) held h in
        let fault : Err (fault.Size most_bytes) ≡ module_read bytes = sym (over_limit bytes over) in (
          call_deed (meant_call c.args.words.now) bytes,
          refl,
          record {
            answer = inr (c.refused.ensures ∙ ap (call_status (meant_call c.args.words.now)) fault);
            whole = inr (subst (λ read. WritesAll g.O.Sink c.args.out.now c.args.out.now (call_lines (meant_call c.args.words.now) read))
                fault (writes_nothing g.O.Sink c.args.out.now));
            broken = λ e. let wrong : Refused (main_refusal Size most_bytes) ≡ Unwritten = sym c.refused.ensures ∙ e in absurd cc;
            stopped = λ e. let wrong : Refused (main_refusal Size most_bytes) ≡ Memory = sym c.refused.ensures ∙ e in absurd cc;
            named = λ file e. let wrong : Refused (main_refusal Size most_bytes) ≡ Unread file = sym c.refused.ensures ∙ e in absurd cc;
          },
        );
    spared = search rules;
    named = λ file name e in_words. let wrong : Refused (main_refusal Size most_bytes) ≡ Unread file = sym c.refused.ensures
        ∙ e in absurd cc;
    caused = search rules;
    form = search rules;
  };
}

pub returns-in-Err-Memory : goal.returns-in-Err-Memory
returns-in-Err-Memory g c = record {
  carries = record {
    carried = λ held h.
        let bytes = held c.args.words.now.file.now in (
          call_deed (meant_call c.args.words.now) bytes,
          refl,
          record {
            answer = inl tt;
            whole = inl tt;
            broken = λ e. absurd cc;
            stopped = λ e. stops_untouched g.O.Sink c.args.out.now (call_lines (meant_call c.args.words.now) (module_read bytes));
            named = λ id e. absurd cc;
          },
        );
    spared = search rules;
    named = λ file name e in_words. absurd cc;
    caused = search rules;
    form = search rules;
  };
}
