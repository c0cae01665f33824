-- What the reader's answers say of a file.
use Rattle.std.specs.Prelude.{◌≡◌, ℕ, Result, Ok, Err, ⊤}
use Rattle.play_specs.specs.Play.{Play}
use Rattle.play_file.specs.declared.error.PlayError.{PlayError}
use Rattle.play_file.specs.declared.error.PlayError.TheVariants.{Line, Memory}

-- an error names the first bad line; want of memory says nothing
abbrev pub Names : PlayError → Result Play ℕ → Type 0
Names (Line number) answer = answer ≡ Err number
Names Memory answer = ⊤

-- this is the answer, unless memory ran out
abbrev pub Answers : Result Play PlayError → Result Play ℕ → Type 0
Answers (Ok p) answer = answer ≡ Ok p
Answers (Err e) answer = Names e answer
