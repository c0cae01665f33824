-- Why a file isn't read as a play: its first bad line. So it is answered.
use Rattle.std.proofs.Common.{◌≡◌, ◌⊎◌, ℕ, List, sym, ap, subst, inl, inr}
use Rattle.std.specs.Prelude.{Result, Ok, Err}
use Rattle.play_specs.specs.Play.{Play, IsPlay}
use Rattle.play_specs.specs.PlayText.{play_text}
use Rattle.play_specs.specs.PlayReading.{IsReadAs, IsFirstBadLine}
use Rattle.play_file.specs.Answers.{Answers, Names}
use Rattle.play_file.specs.declared.error.PlayError.{PlayError}
use Rattle.play_file.specs.declared.error.PlayError.TheVariants.{Line, Memory}
use Rattle.bench_outside.specs.declared.sink.Sink.{Ghosts}
use Rattle.bench_outside.specs.Pieces.{WritesAll}
use Rattle.bench_outside.specs.PieceSteps.{writes_nothing}
use Rattle.bench_top.specs.Deed.{IsFault}
use Rattle.bench_top.specs.Playing.{placed, unplayed_status, status_of, lines_of}

-- an error names what the file is read as
pub named : (bytes : List ℕ) (result : Result Play PlayError) (error : PlayError)
    → ((p : Play) → IsPlay p → bytes ≡ play_text p → Answers result (Ok p)) → ((n : ℕ) → IsFirstBadLine bytes n → Answers result (Err n))
    → result ≡ Err error → (a : Result Play ℕ) → IsReadAs bytes a → Names error a
named bytes result error only refused is (Ok p) read = subst (λ r. Answers r (Ok p)) is (only p read.0 read.1)
named bytes result error only refused is (Err n) first = subst (λ r. Answers r (Err n)) is (refused n first)

pub answer : (budget : ℕ) (error : PlayError) (a : Result Play ℕ) → Names error a
    → IsFault (unplayed_status error) ⊎ (unplayed_status error ≡ status_of budget (placed a))
answer budget (Line number) a is = inr (ap (λ x. status_of budget (placed x)) (sym is))
answer budget Memory a is = inl tt

pub whole : {S : Type 0} (sink : Ghosts S) (s : S) (budget : ℕ) (error : PlayError) (a : Result Play ℕ) → Names error a
    → IsFault (unplayed_status error) ⊎ WritesAll sink s s (lines_of budget (placed a))
whole sink s budget (Line number) a is = inr (subst (λ (x : Result Play ℕ). WritesAll sink s s (lines_of budget (placed x))) (sym is)
    (writes_nothing sink s))
whole sink s budget Memory a is = inl tt
