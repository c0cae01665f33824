-- Worked lines, computed: their texts.
use Rattle.std.specs.Prelude.{◌≡◌, ℕ, true, false, List, [], ◌∷◌, ◌++◌, codes, refl}
use Rattle.std.specs.Fmt.{digits}
use Rattle.frame_specs.specs.Frame.{Frame, Data, Remote, Fd}
use Rattle.operation_specs.specs.Operation.{Active, Passive, Off}
use Rattle.log_specs.specs.Line.{line_text, log_text, On, Down, Over, End, Req, Full, Drop, Start, LostKept, LostGone, Keep, Discard, Wake, Sleep, ToldWake, Back, Rate, FdRate, Status, State, FormatError, Bad, ToldFormat, ToldLost, Done, Fail, Hurt, BadInterval}

abbrev line : List ℕ → List ℕ
line text = text ++ 10 ∷ []

abbrev empty : Frame
empty = record { id = 0x123; ext = false; kind = Data; bytes = [] }

-- ---- what is told of a request

accepted : line_text (On 0 0 1 (Req (record { id = 0x123; ext = false; kind = Data; bytes = 10 ∷ 11 ∷ [] }))) ≡ line (codes "0 0 req 1 123#0a0b")
unfolding line_text digits
accepted = refl

refused_as_the_256_are_there : line_text (On 1 0 1 (Full (record { id = 0x1fffffff; ext = true; kind = Remote; bytes = [] }))) ≡ line (codes "1 0 full 1 1fffffff#R")
unfolding line_text digits
refused_as_the_256_are_there = refl

refused_as_the_node_is_off : line_text (On 2 3 4 (Drop (record { id = 0x123; ext = false; kind = Fd true false; bytes = 17 ∷ [] }))) ≡ line (codes "2 3 drop 4 123##111")
unfolding line_text digits
refused_as_the_node_is_off = refl

sending_starts : line_text (On 10 0 1 (Start empty)) ≡ line (codes "10 0 start 1 123#")
unfolding line_text digits
sending_starts = refl

lost_and_kept : line_text (On 10 0 1 (LostKept empty)) ≡ line (codes "10 0 lost 1 123# keep")
unfolding line_text digits
lost_and_kept = refl

lost_and_gone : line_text (On 10 0 1 (LostGone empty)) ≡ line (codes "10 0 lost 1 123# gone")
unfolding line_text digits
lost_and_gone = refl

delivered_to_none : line_text (On 11 0 1 (Done empty [])) ≡ line (codes "11 0 done 1 123# to -")
unfolding line_text digits
delivered_to_none = refl

delivered_to_three : line_text (On 11 0 1 (Done empty (0 ∷ 2 ∷ 31 ∷ []))) ≡ line (codes "11 0 done 1 123# to 0,2,31")
unfolding line_text digits
delivered_to_three = refl

failed : line_text (On 12 0 1 (Fail empty 5 0)) ≡ line (codes "12 0 fail 1 123# 5 0")
unfolding line_text digits
failed = refl

-- ---- what is told of a node

bare_words : log_text (On 3 0 1 Keep ∷ On 3 0 1 Discard ∷ On 4 0 1 Wake ∷ On 4 0 1 Sleep ∷ On 9 0 1 Back ∷ [])
    ≡ line (codes "3 0 keep 1") ++ line (codes "3 0 discard 1") ++ line (codes "4 0 wake 1") ++ line (codes "4 0 sleep 1") ++ line (codes "9 0 back 1")
unfolding line_text digits
bare_words = refl

rates : log_text (On 5 0 1 (Rate 500000) ∷ On 5 0 1 (FdRate 2000000) ∷ []) ≡ line (codes "5 0 rate 1 500000") ++ line (codes "5 0 fdrate 1 2000000")
unfolding line_text digits
rates = refl

levels : log_text (On 6 0 1 (Status Active) ∷ On 6 0 1 (Status Passive) ∷ On 6 0 1 (State Off) ∷ [])
    ≡ line (codes "6 0 status 1 active") ++ line (codes "6 0 status 1 passive") ++ line (codes "6 0 state 1 off")
unfolding line_text digits
levels = refl

errors : log_text (On 7 0 1 (FormatError []) ∷ On 7 0 1 (FormatError (0 ∷ 255 ∷ [])) ∷ On 7 0 1 (Bad (10 ∷ [])) ∷ On 12 0 1 (Hurt 4) ∷ [])
    ≡ line (codes "7 0 ferr 1 -") ++ line (codes "7 0 ferr 1 00ff") ++ line (codes "7 0 bad 1 0a") ++ line (codes "12 0 hurt 1 4")
unfolding line_text digits
errors = refl

notices : log_text (On 8 0 1 (ToldLost 0x123) ∷ On 8 0 1 (ToldFormat (255 ∷ [])) ∷ On 8 0 1 ToldWake ∷ [])
    ≡ line (codes "8 0 told 1 lost 00000123") ++ line (codes "8 0 told 1 format ff") ++ line (codes "8 0 told 1 wake")
unfolding line_text digits
notices = refl

-- ---- lines of no bus

no_bus : log_text (Down 13 1 BadInterval ∷ Over 18446744073709551615 1 ∷ End 8 1000000 ∷ [])
    ≡ line (codes "13 - down 1 BadInterval") ++ line (codes "18446744073709551615 - over 1") ++ line (codes "end 8 1000000")
unfolding line_text digits
no_bus = refl
