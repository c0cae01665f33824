use Rattle.std.proofs.Common.{rules, ◌≡◌, sym, ap, ◌∙◌, refl, inl, inr, subst}
use Rattle.std.specs.Prelude.{Err, Contains}
use Rattle.bench_outside.specs.Pieces.{WritesAll, BreaksOff, StopsBefore}
use Rattle.bench_outside.specs.PieceSteps.{stops_untouched, writes_nothing}
use Rattle.network_folder.specs.Outcomes.{outcome_of}
use Rattle.bench_top.specs.declared.status.Status.TheVariants.{Refused}
use Rattle.bench_top.specs.Running.{asked_of, network_lines, network_status, run_deed}
use Rattle.bench_top.proofs.Asked.{is-asked}
use Rattle.bench_top.proofs.Executed.{named_net}
use Rattle.bench_top.proofs.Ran.{answers-as, writes-as, unread_is}
use Rattle.bench_top.proofs.running.run_folder.Goals as goal

pub returns-in-Ok : goal.returns-in-Ok
returns-in-Ok g c = record {
  carries = record {
    carried = λ held h.
        let net = c.args.net.now in
        let found = c.in-Ok.ensures.found held h in
        let status = ap (λ r. network_status (outcome_of r)) found in
        let lines = ap (λ r. network_lines (outcome_of r)) found in (
          run_deed net held,
          refl,
          record {
            answer = answers-as c.run_read.result _ _ (sym status) c.run_read.ensures.answer;
            whole = writes-as g.O.Sink c.args.out.now c.run_read.new.out c.run_read.result _ _ (sym lines) c.run_read.ensures.whole;
            broken = λ e. subst (BreaksOff g.O.Sink c.args.out.now c.run_read.new.out) (sym lines) (c.run_read.ensures.broken e);
            stopped = λ e. subst (StopsBefore g.O.Sink c.args.out.now c.run_read.new.out) (sym lines) (c.run_read.ensures.stopped e);
            named = λ id e. absurd (c.run_read.ensures.read id e);
          },
        );
    spared = search rules;
    named = λ file name e in_words. absurd (c.run_read.ensures.read file e);
    caused = search rules;
    form = search rules;
  };
}

pub returns-in-Err-Refused : goal.returns-in-Err-Refused
returns-in-Err-Refused g c = record {
  carries = record {
    carried = λ held h.
        let net = c.args.net.now in
        let refused = c.read_network.ensures.refused _ held (c.in-Err-Refused.is ∙ ap (λ x. Err x) c.in-Err-Refused.field-0-is) h in
        let status = ap network_status refused in
        let lines = ap network_lines refused in (
          run_deed net held,
          refl,
          record {
            answer = inr (sym (status ∙ ap (λ x. Refused x) (search rules)));
            whole = inr (subst (WritesAll g.O.Sink c.args.out.now c.args.out.now) (sym lines) (writes_nothing g.O.Sink c.args.out.now));
            broken = λ e. absurd cc;
            stopped = λ e. absurd cc;
            named = λ id e. absurd cc;
          },
        );
    spared = search rules;
    named = λ file name e in_words. absurd cc;
    caused = search rules;
    form = search rules;
  };
}

pub returns-in-Err-Unread : goal.returns-in-Err-Unread
returns-in-Err-Unread g c = record {
  carries = record {
    carried = λ held h.
        let net = c.args.net.now in
        let file = c.read_network.ensures.unread _ held (c.in-Err-Unread.is ∙ ap (λ x. Err x) c.in-Err-Unread.field-0-is) h in (
          run_deed net held,
          refl,
          record {
            answer = inl tt;
            whole = inl tt;
            broken = λ e. absurd cc;
            stopped = λ e. absurd cc;
            named = λ id e.
                let same : c.in-Err-Unread.file ≡ id = (search rules) ∙ unread_is _ id e in
                subst (λ x. Contains (asked_of held net) (x, (g.H.Shelf.read_faults c.read_network.new.shelf).last)) (sym file.1 ∙ same)
                (is-asked held net file.0 _ file.2 file.3);
          },
        );
    spared = search rules;
    named = named_net c.args.net.now (g.H.Shelf.read_faults c.read_network.new.shelf).last _ (search rules);
    caused = search rules;
    form = search rules;
  };
}

pub returns-in-Err-Memory : goal.returns-in-Err-Memory
returns-in-Err-Memory g c = record {
  carries = record {
    carried = λ held h.
        let deed = run_deed c.args.net.now held in (
          deed,
          refl,
          record {
            answer = inl tt;
            whole = inl tt;
            broken = λ e. absurd cc;
            stopped = λ e. stops_untouched g.O.Sink c.args.out.now deed.lines;
            named = λ id e. absurd cc;
          },
        );
    spared = search rules;
    named = λ file name e in_words. absurd cc;
    caused = search rules;
    form = search rules;
  };
}
