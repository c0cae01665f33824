-- Worked files, computed: the first bad line of each, and a file that is read.
use Rattle.std.specs.Prelude.{ℕ, false, List, [], ◌∷◌, ◌++◌, Some, None, Ok, codes, refl}
use Rattle.frame_specs.specs.Frame.{Data}
use Rattle.frame_specs.specs.FrameReading.{frame_of}
use Rattle.plain_text.specs.Decimal.{number_of, number_in}
use Rattle.play_specs.specs.Play.{Send, Wake}
use Rattle.play_specs.specs.PlayReading.{IsFirstBadLine, IsReadAs}
use Rattle.play_file.specs.Walk.{walk, header_in, entry_in, action_in}
use Rattle.play_file.proofs.Walked.{is_play, is_bad_line}

abbrev line : List ℕ → List ℕ
line text = text ++ 10 ∷ []

abbrev header : List ℕ
header = line (codes "play 1000000000 500000 2000000 2 1000000")

empty_file : IsFirstBadLine [] 1
unfolding walk
empty_file = is_bad_line [] 1 refl

header_alone : IsReadAs header (Ok (record { resolution = 1000000000; rate = 500000; fd_rate = Some 2000000; nodes = 2; stop = 1000000; errors = []; actions = [] }))
unfolding walk number_of number_in header_in
header_alone = is_play header _ refl

one_of_each : IsReadAs (header ++ line (codes "error 1 32 1 sender 10") ++ line (codes "0 0 send 000#") ++ line (codes "3 1 wake")) (Ok (record {
  resolution = 1000000000;
  rate = 500000;
  fd_rate = Some 2000000;
  nodes = 2;
  stop = 1000000;
  errors = record { first = 1; count = 32; kind = 1; by = None; bit = 10 } ∷ [];
  actions = record { moment = 0; node = 0; verb = Send (record { id = 0; ext = false; kind = Data; bytes = [] }) } ∷ record { moment = 3; node = 1; verb = Wake } ∷ [];
}))
unfolding walk number_of number_in header_in entry_in action_in frame_of
one_of_each = is_play (header ++ line (codes "error 1 32 1 sender 10") ++ line (codes "0 0 send 000#") ++ line (codes "3 1 wake")) _ refl

two_bad_lines : IsFirstBadLine (header ++ line (codes "0 0 doze") ++ line (codes "nonsense")) 2
unfolding walk number_of number_in header_in action_in
two_bad_lines = is_bad_line (header ++ line (codes "0 0 doze") ++ line (codes "nonsense")) 2 refl

unended_line : IsFirstBadLine (header ++ line (codes "0 0 wake") ++ codes "1 0 wake") 3
unfolding walk number_of number_in header_in action_in
unended_line = is_bad_line (header ++ line (codes "0 0 wake") ++ codes "1 0 wake") 3 refl

leading_zero : IsFirstBadLine (header ++ line (codes "0 00 sleep")) 2
unfolding walk number_of number_in header_in action_in
leading_zero = is_bad_line (header ++ line (codes "0 00 sleep")) 2 refl

upper_case_digit : IsFirstBadLine (header ++ line (codes "0 0 send 7FF#")) 2
unfolding walk number_of number_in header_in action_in frame_of
upper_case_digit = is_bad_line (header ++ line (codes "0 0 send 7FF#")) 2 refl

moment_that_falls : IsFirstBadLine (header ++ line (codes "5 0 keep") ++ line (codes "4 0 discard")) 3
unfolding walk number_of number_in header_in action_in
moment_that_falls = is_bad_line (header ++ line (codes "5 0 keep") ++ line (codes "4 0 discard")) 3 refl

error_line_behind_an_action : IsFirstBadLine (header ++ line (codes "0 0 wake") ++ line (codes "error 1 32 1 sender 10")) 3
unfolding walk number_of number_in header_in action_in
error_line_behind_an_action = is_bad_line (header ++ line (codes "0 0 wake") ++ line (codes "error 1 32 1 sender 10")) 3 refl

rate_with_no_bit_time : IsFirstBadLine (line (codes "play 1000000000 300000 0 2 0")) 1
unfolding walk number_of number_in header_in
rate_with_no_bit_time = is_bad_line (line (codes "play 1000000000 300000 0 2 0")) 1 refl

fd_with_no_rate : IsFirstBadLine (line (codes "play 1000000000 500000 0 2 0") ++ line (codes "0 0 send 000##0")) 2
unfolding walk number_of number_in header_in action_in frame_of
fd_with_no_rate = is_bad_line (line (codes "play 1000000000 500000 0 2 0") ++ line (codes "0 0 send 000##0")) 2 refl
