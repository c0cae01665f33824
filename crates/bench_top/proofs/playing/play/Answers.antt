use Rattle.std.proofs.Common.{rules, ◌≡◌, ◌≤◌, sym, ap, ◌∙◌, arith, inl, inr, subst, refl, ℕ, List, length}
use Rattle.std.specs.Prelude.{Err}
use Rattle.play_file.specs.Walk.{walk}
use Rattle.play_file.proofs.Files.{walk_exact}
use Rattle.bench_outside.specs.PieceSteps.{stops_untouched, writes_nothing}
use Rattle.bench_outside.specs.declared.refusal.Why.TheVariants.{Size}
use Rattle.bench_outside.specs.declared.refusal.FileId.TheVariants.{Main}
use Rattle.bench_top.specs.declared.status.Status.TheVariants.{Refused, Unwritten, Memory, Unread}
use Rattle.bench_top.specs.Words.{Play}
use Rattle.bench_top.specs.Refusals.{main_refusal}
use Rattle.bench_top.specs.Playing.{TooLong, placed, deed_of, lines_of, file_limit, event_budget}
use Rattle.bench_top.proofs.Executed.{named_main}
use Rattle.bench_top.proofs.Judging.{judged_of, done_as, read_as}
use Rattle.bench_top.proofs.playing.play.Goals as goal

pub returns-in-Ok : goal.returns-in-Ok
returns-in-Ok g c = record {
  carries = record {
    carried = λ held h.
        let bytes = c.deref.result.now in
        let same : bytes ≡ held c.args.file.now = c.deref.ensures.value ∙ c.in-Ok.ensures.bytes held h in
        let read : length c.in-Ok.bytes.items ≤ file_limit = c.in-Ok.ensures.within in
        let within : length bytes ≤ file_limit = subst (λ (l : List ℕ). length l ≤ file_limit) (sym c.deref.ensures.value) read in (
          deed_of event_budget c.args.file.now (placed (walk bytes)),
          done_as file_limit event_budget c.args.file.now held (placed (walk bytes))
              (read_as file_limit (held c.args.file.now) bytes same within),
          record {
            answer = c.play_bytes.ensures.answer (walk bytes) (walk_exact bytes);
            whole = c.play_bytes.ensures.whole (walk bytes) (walk_exact bytes);
            broken = c.play_bytes.ensures.broken (walk bytes) (walk_exact bytes);
            stopped = c.play_bytes.ensures.stopped (walk bytes) (walk_exact bytes);
            named = λ id e. absurd (c.play_bytes.ensures.read id e);
          },
        );
    spared = search rules;
    named = λ file name e in_words. absurd (c.play_bytes.ensures.read file e);
    caused = search rules;
    form = search rules;
  };
}

pub returns-in-Err-Unread : goal.returns-in-Err-Unread
returns-in-Err-Unread g c = record {
  carries = record {
    carried = λ held h.
        let j = judged_of file_limit (held c.args.file.now) in (
          deed_of event_budget c.args.file.now j.0,
          done_as file_limit event_budget c.args.file.now held j.0 j.1,
          record {
            answer = inl tt;
            whole = inl tt;
            broken = λ e. absurd cc;
            stopped = λ e. absurd cc;
            named = λ file e.
                let same : Main ≡ file = cc in
                let blamed = c.fetch.ensures.named (c.in-Err-Unread.is ∙ ap (λ x. Err x) c.in-Err-Unread.field-0-is) in
                (0, omega arith, ap (λ x. (x, c.args.file.now)) same ∙ ap (λ n. (file, n)) (sym blamed));
          },
        );
    spared = search rules;
    named = named_main (Play c.args.file.now) c.args.file.now _ refl
        (c.fetch.ensures.named (c.in-Err-Unread.is ∙ ap (λ x. Err x) c.in-Err-Unread.field-0-is));
    caused = search rules;
    form = search rules;
  };
}

pub returns-in-Err-Size : goal.returns-in-Err-Size
returns-in-Err-Size g c = record {
  carries = record {
    carried = λ held h. (
      deed_of event_budget c.args.file.now (Err (main_refusal Size file_limit)),
      done_as file_limit event_budget c.args.file.now held (Err (main_refusal Size file_limit))
          (TooLong (c.fetch.ensures.size (c.in-Err-Size.is ∙ ap (λ x. Err x) c.in-Err-Size.field-0-is) held h)),
      record {
        answer = inr c.refused.ensures;
        whole = inr (writes_nothing g.O.Sink c.args.out.now);
        broken = λ e. let wrong : Refused (main_refusal Size file_limit) ≡ Unwritten = sym c.refused.ensures ∙ e in absurd cc;
        stopped = λ e. let wrong : Refused (main_refusal Size file_limit) ≡ Memory = sym c.refused.ensures ∙ e in absurd cc;
        named = λ file e. let wrong : Refused (main_refusal Size file_limit) ≡ Unread file = sym c.refused.ensures ∙ e in absurd cc;
      },
    );
    spared = search rules;
    named = λ file name e in_words. let wrong : Refused (main_refusal Size file_limit) ≡ Unread file = sym c.refused.ensures
        ∙ e in absurd cc;
    caused = search rules;
    form = search rules;
  };
}

pub returns-in-Err-Memory : goal.returns-in-Err-Memory
returns-in-Err-Memory g c = record {
  carries = record {
    carried = λ held h.
        let j = judged_of file_limit (held c.args.file.now) in (
          deed_of event_budget c.args.file.now j.0,
          done_as file_limit event_budget c.args.file.now held j.0 j.1,
          record {
            answer = inl tt;
            whole = inl tt;
            broken = λ e. absurd cc;
            stopped = λ e. stops_untouched g.O.Sink c.args.out.now (lines_of event_budget j.0);
            named = λ id e. absurd cc;
          },
        );
    spared = search rules;
    named = λ file name e in_words. absurd cc;
    caused = search rules;
    form = search rules;
  };
}
