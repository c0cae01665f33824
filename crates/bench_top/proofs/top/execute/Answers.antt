use Rattle.std.proofs.Common.{◌≡◌, rules, inl, inr, refl, map}
use Rattle.std.specs.Prelude.{Some, string_bytes}
use Rattle.bench_outside.specs.PieceSteps.{stops_untouched}
use Rattle.bench_top.specs.declared.status.Status.TheVariants.{Memory}
use Rattle.bench_top.specs.Words.{Call, command_of, meant}
use Rattle.bench_top.specs.Calling.{call_deed}
use Rattle.bench_top.proofs.Executed.{executed}
use Rattle.bench_top.proofs.top.execute.Goals as goal

pub returns-in-Ok-Some : goal.returns-in-Ok-Some
returns-in-Ok-Some g c =
    let is : command_of (map string_bytes c.args.words.now) ≡ Some (meant c.in-Ok-Some.command) = search rules in
    record {
      executes = executed g.H.Shelf g.O.Sink c.args.shelf.now c.carry_out.new.shelf c.args.out.now c.carry_out.new.out
          (map string_bytes c.args.words.now) (meant c.in-Ok-Some.command) c.carry_out.result is c.carry_out.ensures.carries;
    }

pub returns-in-Err : goal.returns-in-Err
returns-in-Err g c =
    let words = c.in-Err.ensures.memory.0 in
    record {
      executes = executed g.H.Shelf g.O.Sink c.args.shelf.now c.args.shelf.now c.args.out.now c.args.out.now
          (map string_bytes c.args.words.now) (Call words) Memory c.in-Err.ensures.memory.1
          (record {
            carried = λ held h.
                let deed = call_deed words (held words.file) in (
                  deed,
                  refl,
                  record {
                    answer = inl tt;
                    whole = inl tt;
                    broken = λ e. absurd cc;
                    stopped = λ e. stops_untouched g.O.Sink c.args.out.now deed.lines;
                    named = λ id e. absurd cc;
                  },
                );
            spared = λ held deed r h does e. refl;
            named = λ file name e in_words. absurd cc;
            caused = record {
              unread = λ file e. absurd cc;
              unblamed = inr refl;
              unwritten = λ e. absurd cc;
              kept = inr refl;
              untouched = λ nothing. refl;
              holds = refl;
              others = refl;
            };
            form = λ e. absurd cc;
          });
    }
