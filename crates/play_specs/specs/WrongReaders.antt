-- Readers that aren't exact.
use Rattle.std.specs.Prelude.{◌≡◌, ℕ, ◌+◌, List, [], ◌∷◌, ◌++◌, length, map, None, Result, Ok, Err, refl}
use Rattle.std.specs.Fmt.{digits}
use Rattle.std.proofs.Common.{arith, sym, ◌∙◌}
use Rattle.frame_specs.specs.Frame.{Frame}
use Rattle.play_specs.specs.Play.{Play, IsPlay, PlayAction, Verb, Send, Wake, Sleep, Keep, Discard}
use Rattle.play_specs.specs.PlayText.{text_lines, ended, play_text, spaced, header_words}
use Rattle.play_specs.specs.PlayReading.{IsFirstBadLine, IsExact, Begins}

abbrev pub refuse_all : List ℕ → Result Play ℕ
refuse_all bytes = Err 1

-- this frame in place of each frame
abbrev pub with_frame : Frame → Verb → Verb
with_frame f (Send g) = Send f
with_frame f Wake = Wake
with_frame f Sleep = Sleep
with_frame f Keep = Keep
with_frame f Discard = Discard

abbrev pub action_with_frame : Frame → PlayAction → PlayAction
action_with_frame f a = record a { verb = with_frame f a.verb }

abbrev pub all_with_frame : Frame → Result Play ℕ → Result Play ℕ
all_with_frame f (Ok p) = Ok (record p { actions = map (action_with_frame f) p.actions })
all_with_frame f (Err n) = Err n

-- a bus of one node, on which nothing happens
abbrev pub idle : Play
idle = record { resolution = 1; rate = 1; fd_rate = None; nodes = 1; stop = 0; errors = []; actions = [] }

pub idle-IsPlay : IsPlay idle
idle-IsPlay = record {
  resolution = (omega arith, omega arith);
  rate = record { in_range = (omega arith, omega arith); divides = refl };
  fd_rate = tt;
  nodes = (omega arith, omega arith);
  stop = omega arith;
  few_errors = omega arith;
  errors = λ k d inside. absurd (omega arith);
  actions = λ k d inside. absurd (omega arith);
  rises = tt;
}

-- the header of an idle bus is no bad line
header_is_good : (before : List (List ℕ)) (behind : List ℕ) → 1 ≡ length before + 1 → play_text idle ≡ ended before ++ behind
    → ¬ ((line rest : List ℕ) → behind ≡ line ++ 10 ∷ rest → ¬ Begins (before ++ line ∷ []))
unfolding text_lines digits
header_is_good [] behind first whole bad = bad (spaced (header_words idle)) [] (sym whole ∙ refl) (idle, idle-IsPlay, [], refl)
header_is_good (line ∷ lines) behind first whole bad = omega arith

pub refuse_all-isn't_exact : ¬ IsExact refuse_all
refuse_all-isn't_exact exact =
    let refused : IsFirstBadLine (play_text idle) 1 = exact (play_text idle) in
    header_is_good refused.before refused.behind refused.number refused.whole refused.bad
