use Rattle.std.proofs.Common.{Ok, Err}
use Rattle.play_file.proofs.Walked.{Follows, found_of, line_of, answers_of, few_of}
use Rattle.play_file.proofs.reading.read_play.Goals as goal

follows : (c : goal.After-read) → Follows c.read.result c.args.bytes.now
follows c = record { found = c.read.ensures.found; fault = c.read.ensures.fault }

pub returns-clause-found : goal.returns-clause-found
returns-clause-found c = found_of c.read.result c.args.bytes.now (follows c)

pub returns-clause-only : goal.returns-clause-only
returns-clause-only c = λ p is written. answers_of c.read.result c.args.bytes.now (Ok p) (follows c) (is, written)

pub returns-clause-line : goal.returns-clause-line
returns-clause-line c = λ n refused. line_of c.read.result c.args.bytes.now n (follows c) refused

pub returns-clause-refused : goal.returns-clause-refused
returns-clause-refused c = λ n bad. answers_of c.read.result c.args.bytes.now (Err n) (follows c) bad

pub returns-clause-few : goal.returns-clause-few
returns-clause-few c = few_of c.read.result c.args.bytes.now (follows c)
