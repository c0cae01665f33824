-- Which lines a log can have: the bytes of one are at most 64, its kinds of error are those of the standard, its receivers rise.
use Rattle.std.specs.Prelude.{◌≡◌, ℕ, ◌+◌, ◌^◌, ◌==◌, ◌&&◌, ◌||◌, Bool, true, List, [], ◌∷◌, length, nat_lt, nat_le}
use Rattle.frame_specs.specs.Frame.{Frame, is_well_formed}
use Rattle.log_specs.specs.Line.{Line, On, Down, Over, End, Told, Req, Full, Drop, Rate, FdRate, FormatError, Bad, ToldLost, ToldFormat, Start, LostKept, LostGone, Done, Fail, Hurt}

-- the numbers rise without repeats, from this one on
abbrev pub rise_from : ℕ → List ℕ → Bool
rise_from low [] = true
rise_from low (n ∷ ns) = nat_le low n && rise_from (n + 1) ns

abbrev pub is_within : ℕ → ℕ → ℕ → Bool
is_within low high n = nat_le low n && nat_le n high

abbrev pub is_told : Told → Bool
is_told (FormatError h) = is_within 0 64 (length h)
is_told (Bad h) = is_within 1 64 (length h)
is_told (ToldFormat h) = is_within 1 64 (length h)
is_told (Done f ns) = rise_from 0 ns
is_told (Fail f kind by) = is_within 1 5 kind
is_told (Hurt kind) = is_within 1 4 kind
is_told _ = true

abbrev pub is_line : Line → Bool
is_line (On t b n told) = is_told told
is_line (Down t n cause) = true
is_line (Over t n) = true
is_line (End status events) = status == 0 || status == 8

-- a line of a log
abbrev pub IsLine : Line → Type 0
IsLine line = is_line line ≡ true

-- ---- the lines whose numbers have the sizes of the code

abbrev pub all_below : ℕ → List ℕ → Bool
all_below limit [] = true
all_below limit (n ∷ ns) = nat_lt n limit && all_below limit ns

abbrev pub frame_fits : Frame → Bool
frame_fits f = is_well_formed f && all_below 256 f.bytes

abbrev pub told_fits : Told → Bool
told_fits (Req f) = frame_fits f
told_fits (Full f) = frame_fits f
told_fits (Drop f) = frame_fits f
told_fits (Start f) = frame_fits f
told_fits (LostKept f) = frame_fits f
told_fits (LostGone f) = frame_fits f
told_fits (Rate value) = nat_lt value (2 ^ 32)
told_fits (FdRate value) = nat_lt value (2 ^ 32)
told_fits (FormatError h) = all_below 256 h
told_fits (Bad h) = all_below 256 h
told_fits (ToldFormat h) = all_below 256 h
told_fits (ToldLost id) = nat_lt id (2 ^ 32)
told_fits (Done f ns) = frame_fits f && all_below (2 ^ 32) ns
told_fits (Fail f kind by) = frame_fits f && nat_lt by (2 ^ 32)
told_fits _ = true

abbrev pub line_fits : Line → Bool
line_fits (On t b n told) = nat_lt t (2 ^ 64) && nat_lt b (2 ^ 32) && nat_lt n (2 ^ 32) && told_fits told
line_fits (Down t n cause) = nat_lt t (2 ^ 64) && nat_lt n (2 ^ 32)
line_fits (Over t n) = nat_lt t (2 ^ 64) && nat_lt n (2 ^ 32)
line_fits (End status events) = nat_lt events (2 ^ 64)

-- a line that the code can hold
abbrev pub Fits : Line → Type 0
Fits line = line_fits line ≡ true
