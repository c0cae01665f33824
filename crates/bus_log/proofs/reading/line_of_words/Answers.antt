use Rattle.std.proofs.Common.{◌≡◌, List, ℕ, [], subst, IfOk, option_map, Bor, Option}
use Rattle.log_specs.specs.Line.{Line}
use Rattle.log_lines.specs.Lines.{line_of}
use Rattle.bus_log.proofs.FourWords.{four_or_more}
use Rattle.bus_log.proofs.reading.line_of_words.Goals as goal

pub returns-in-len4-up : goal.returns-in-len4-up
returns-in-len4-up c =
    let none : Bor (List ℕ) = record { ref_ptr = (0, 0); now = [] } in
    let parts = four_or_more {A = Bor (List ℕ)} (λ w. w.now) c.args.words.now none none none none c.in-len4-up.len_at_least in
    let P : Option Line → Type 0 = λ line. IfOk c.node_line.result (λ o. option_map line_of o ≡ line) in
    subst P parts c.node_line.ensures
