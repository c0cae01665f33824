use Rattle.std.proofs.Common.{◌≡◌, ◌⊎◌, sym, subst}
use Rattle.bench_outside.specs.Pieces.{WritesAll}
use Rattle.play_file.specs.Answers.{Names}
use Rattle.bench_top.specs.Deed.{IsFault}
use Rattle.bench_top.specs.Playing.{placed, status_of, lines_of}
use Rattle.bench_top.proofs.Refusing.{not_refused}
use Rattle.bench_top.proofs.Unplayed.{named, answer, whole}
use Rattle.bench_top.proofs.playing.play_bytes.Goals as goal

pub returns-in-Ok-Done-clause-spared : goal.returns-in-Ok-Done-clause-spared
returns-in-Ok-Done-clause-spared g c line first = absurd (not_refused c.args.bytes.now c.read_play.result c.in-Ok.play line
    c.read_play.ensures.refused c.in-Ok.is first)

pub returns-in-Ok-Spent-clause-spared : goal.returns-in-Ok-Spent-clause-spared
returns-in-Ok-Spent-clause-spared g c line first = absurd (not_refused c.args.bytes.now c.read_play.result c.in-Ok.play line
    c.read_play.ensures.refused c.in-Ok.is first)

pub returns-in-Err-Unwritten-clause-spared : goal.returns-in-Err-Unwritten-clause-spared
returns-in-Err-Unwritten-clause-spared g c line first = absurd (not_refused c.args.bytes.now c.read_play.result c.in-Ok.play line
    c.read_play.ensures.refused c.in-Ok.is first)

pub returns-in-Err-Memory-clause-spared : goal.returns-in-Err-Memory-clause-spared
returns-in-Err-Memory-clause-spared g c line first = absurd (not_refused c.args.bytes.now c.read_play.result c.in-Ok.play line
    c.read_play.ensures.refused c.in-Ok.is first)

pub returns-in-Err-clause-answer : goal.returns-in-Err-clause-answer
returns-in-Err-clause-answer g c a read =
    let e : Names c.in-Err.error a = named c.args.bytes.now c.read_play.result c.in-Err.error c.read_play.ensures.only
    c.read_play.ensures.refused c.in-Err.is a read in
    subst (λ s. IsFault s ⊎ (s ≡ status_of c.args.budget (placed a))) (sym c.unplayed.ensures.status)
    (answer c.args.budget c.in-Err.error a e)

pub returns-in-Err-clause-whole : goal.returns-in-Err-clause-whole
returns-in-Err-clause-whole g c a read =
    let e : Names c.in-Err.error a = named c.args.bytes.now c.read_play.result c.in-Err.error c.read_play.ensures.only
    c.read_play.ensures.refused c.in-Err.is a read in
    subst (λ s. IsFault s ⊎ WritesAll g.O.Sink c.args.out.now c.args.out.now (lines_of c.args.budget (placed a)))
    (sym c.unplayed.ensures.status) (whole g.O.Sink c.args.out.now c.args.budget c.in-Err.error a e)
