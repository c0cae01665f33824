use Rattle.plain_text.specs.Parts.{parts, words_of}
use Rattle.plain_text.proofs.Separators.{some_part}
use Rattle.play_file.proofs.Cuts.{too_many}
use Rattle.play_file.proofs.text.words_in.Goals as goal

pub returns-in-Some-cut-5 : goal.returns-in-Some-cut-5
returns-in-Some-cut-5 c =
    let rest = c.in-Some-cut-5.field-0.1.now in
    too_many (words_of c.args.line.now) (parts 32 rest) c.in-Some.first.now c.in-Some-cut.second.now c.in-Some-cut-2.third.now c.in-Some-cut-3.fourth.now c.in-Some-cut-4.fifth.now c.in-Some-cut-5.field-0.0.now (cc (c.in-Some.ensures.parts_are, c.in-Some-cut.ensures.parts_are, c.in-Some-cut-2.ensures.parts_are, c.in-Some-cut-3.ensures.parts_are, c.in-Some-cut-4.ensures.parts_are, c.in-Some-cut-5.ensures.parts_are)) (some_part 32 rest)
