-- A line whose parts fit does, and is read back from its text where it is a line of a log.
use Rattle.std.proofs.Common.{◌≡◌, ◌<◌, ℕ, suc, ◌^◌, ◌&&◌, true, List, [], ◌∷◌, Option, Some, get_or, refl, subst}
use Rattle.std.specs.Prelude.{◌↔◌, nat_lt, IfSome}
use Rattle.std.proofs.lemmas.Bool.{and_from}
use Rattle.log_specs.specs.Line.{Line, On, Down, Over, End, line_text}
use Rattle.log_lines.specs.IsLine.{all_below, told_fits, IsLine, Fits}
use Rattle.log_lines.specs.Parts.{moment_of, bus_of, node_of}
use Rattle.bus_log.specs.Spelling.{Spells, IsReadAs}
use Rattle.bus_log.specs.Content.{content_fits}
use Rattle.bus_log.proofs.Fields.{below_limit}
use Rattle.bus_log.proofs.Exact.{one_answer}

pub all_below-each : (limit : ℕ) (ns : List ℕ) → ((i : ℕ) → get_or ns i 0 < limit) → all_below limit ns ≡ true
all_below-each limit [] small = refl
all_below-each limit (n ∷ ns) small =
    let first : n < limit = small 0 in
    and_from (nat_lt n limit) (all_below limit ns) (below_limit n limit first) (all_below-each limit ns (λ i. small (suc i)))

abbrev pub IfBelow : ℕ → Option ℕ → Type 0
IfBelow limit o = IfSome o (λ n. nat_lt n limit ≡ true)

pub fits_from_parts : (line : Line) → IfBelow (2 ^ 64) (moment_of line) → IfBelow (2 ^ 32) (bus_of line)
    → IfBelow (2 ^ 32) (node_of line) → content_fits line ≡ true → Fits line
fits_from_parts (On t b n told) moment bus node content =
    let two = and_from (nat_lt t (2 ^ 64)) (nat_lt b (2 ^ 32)) moment bus in
    let three = and_from (nat_lt t (2 ^ 64) && nat_lt b (2 ^ 32)) (nat_lt n (2 ^ 32)) two node in
    and_from (nat_lt t (2 ^ 64) && nat_lt b (2 ^ 32) && nat_lt n (2 ^ 32)) (told_fits told) three content
fits_from_parts (Down t n cause) moment bus node content = and_from (nat_lt t (2 ^ 64)) (nat_lt n (2 ^ 32)) moment node
fits_from_parts (Over t n) moment bus node content = and_from (nat_lt t (2 ^ 64)) (nat_lt n (2 ^ 32)) moment node
fits_from_parts (End status events) moment bus node content = content

pub read_back : (line : Line) → Fits line → (answer : Option Line) → IsReadAs (line_text line) answer
    → (answer ≡ Some line) ↔ IsLine line
read_back line fits answer read = (is_line, is_read)
  where
    is_line : answer ≡ Some line → IsLine line
    is_line same =
        let spells : Spells (line_text line) line = subst (IsReadAs (line_text line)) same read in
        spells.is_line

    is_read : IsLine line → answer ≡ Some line
    is_read is = one_answer (line_text line) answer (Some line) read record { is_line = is; fits = fits; spelled = refl }
