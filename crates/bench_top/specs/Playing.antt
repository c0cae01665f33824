-- play FILE: the log of the play of a file.
use Rattle.std.specs.Prelude.{◌≡◌, ◌≤◌, ◌<◌, ℕ, zero, suc, List, [], ◌∷◌, map, Result, Ok, Err, length}
use Rattle.log_specs.specs.Line.{line_text}
use Rattle.play_specs.specs.Play.{Play, play_lines, play_status}
use Rattle.play_specs.specs.PlayReading.{IsReadAs}
use Rattle.play_file.specs.declared.error.PlayError.{PlayError}
use Rattle.play_file.specs.declared.error.PlayError.TheVariants as play_error
use Rattle.bench_outside.specs.Shelf.{Contents}
use Rattle.bench_outside.specs.declared.refusal.FileId.TheVariants.{Main}
use Rattle.bench_outside.specs.declared.refusal.Why.TheVariants.{Line, Size}
use Rattle.bench_outside.specs.declared.refusal.Refusal.{Refusal}
use Rattle.bench_top.specs.declared.status.Status.{Status}
use Rattle.bench_top.specs.declared.status.Status.TheVariants.{Done, Refused, Memory, Spent}
use Rattle.bench_top.specs.Refusals.{main_refusal}
use Rattle.bench_top.specs.Deed.{Deed}

-- the greatest length of a file, in bytes
abbrev pub file_limit : ℕ
file_limit = 16777216

-- the events that a play may have
abbrev pub event_budget : ℕ
event_budget = 1000000

-- a play, or the first bad line of its file
abbrev pub placed : Result Play ℕ → Result Play Refusal
placed (Ok play) = Ok play
placed (Err line) = Err (main_refusal Line line)

-- These bytes are judged so: as a file over the limit, before every other rule, or as what they are read as.
pub data Judgement (limit : ℕ) (bytes : List ℕ) : Result Play Refusal → Type 0 where
  TooLong : limit < length bytes → Judgement limit bytes (Err (main_refusal Size limit))
  Read : length bytes ≤ limit → (answer : Result Play ℕ) → IsReadAs bytes answer → Judgement limit bytes (placed answer)

-- the status of a play that ends with this number in its last line
abbrev pub ended : ℕ → Status
ended zero = Done
ended (suc n) = Spent

-- the status where a file isn't read as a play
abbrev pub unplayed_status : PlayError → Status
unplayed_status (play_error.Line number) = Refused (main_refusal Line number)
unplayed_status play_error.Memory = Memory

abbrev pub status_of : ℕ → Result Play Refusal → Status
status_of budget (Ok play) = ended (play_status budget play)
status_of budget (Err refusal) = Refused refusal

abbrev pub lines_of : ℕ → Result Play Refusal → List (List ℕ)
lines_of budget (Ok play) = map line_text (play_lines budget play)
lines_of budget (Err refusal) = []

abbrev pub deed_of : ℕ → List ℕ → Result Play Refusal → Deed
deed_of budget file judgement = record {
  asked = (Main, file) ∷ [];
  status = status_of budget judgement;
  lines = lines_of budget judgement;
}

-- what is to be done where files hold this, with this limit and this budget
pub record IsPlayDeed (limit budget : ℕ) (file : List ℕ) (held : Contents) (deed : Deed) : Type 0 where
  pub judged : Result Play Refusal
  pub by : Judgement limit (held file) judged
  pub done : deed ≡ deed_of budget file judged
