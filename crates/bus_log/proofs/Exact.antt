-- The walk reads each text as the line that it spells.
use Rattle.std.proofs.Common.{◌≡◌, ℕ, List, Option, Some, None, Result, Ok, Err, refl, sym, ap, ◌∙◌}
use Rattle.std.specs.Prelude.{IfOk, IfSome, option_map}
use Rattle.std.proofs.lemmas.Option.{same_Some}
use Rattle.log_specs.specs.Line.{Line}
use Rattle.bus_log.specs.Spelling.{Spells, IsReadAs}
use Rattle.bus_log.specs.Reading.{line_of_text}
use Rattle.bus_log.proofs.Written.{line_of_text-line_text}
use Rattle.bus_log.proofs.Spelled.{spells_from_line_of_text}

pub line_of_text_from_spells : (text : List ℕ) (line : Line) → Spells text line → line_of_text text ≡ Some line
line_of_text_from_spells text line spells = ap line_of_text (sym spells.spelled) ∙ line_of_text-line_text line spells.is_line spells.fits

pub read_as : (text : List ℕ) (o : Option Line) → line_of_text text ≡ o → IsReadAs text o
read_as text (Some line) found = spells_from_line_of_text text line found
read_as text None found = λ line spells. let never : Some line ≡ None = sym (line_of_text_from_spells text line spells) ∙ found in cc never

pub walk_is : (text : List ℕ) (o : Option Line) → IsReadAs text o → line_of_text text ≡ o
walk_is text (Some line) spells = line_of_text_from_spells text line spells
walk_is text None none = by (line_of_text text) refl
  where
    by : (o : Option Line) → line_of_text text ≡ o → o ≡ None
    by (Some line) found = absurd (none line (spells_from_line_of_text text line found))
    by None found = refl

pub one_answer : (text : List ℕ) (one other : Option Line) → IsReadAs text one → IsReadAs text other → one ≡ other
one_answer text one other first second = sym (walk_is text one first) ∙ walk_is text other second

pub one_line : (text : List ℕ) (one other : Line) → Spells text one → Spells text other → one ≡ other
one_line text one other first second = same_Some one other (one_answer text (Some one) (Some other) first second)

-- what the reader answers spells the text
pub found_of : {A E : Type 0} (line_of : A → Line) (text : List ℕ) (result : Result (Option A) E)
    → IfOk result (λ o. option_map line_of o ≡ line_of_text text)
    → IfOk result (λ o. IfSome o (λ line. Spells text (line_of line)))
found_of line_of text (Ok (Some line)) follows = spells_from_line_of_text text (line_of line) (sym follows)
found_of line_of text (Ok None) follows = tt
found_of line_of text (Err e) follows = tt

pub only_of : {A E : Type 0} (line_of : A → Line) (text : List ℕ) (line : Line) (result : Result (Option A) E)
    → IfOk result (λ o. option_map line_of o ≡ line_of_text text)
    → Spells text line → IfOk result (λ o. option_map line_of o ≡ Some line)
only_of line_of text line (Ok o) follows spells = follows ∙ line_of_text_from_spells text line spells
only_of line_of text line (Err e) follows spells = tt
