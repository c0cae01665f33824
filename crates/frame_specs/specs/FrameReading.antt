-- The frame that a text spells, as 123#0a0b or 1fffffff#R: frame_text read back.
use Rattle.std.specs.Prelude.{◌≡◌, ◌<◌, ℕ, ◌+◌, ◌-◌, ◌*◌, ◌%◌, ◌==◌, ◌&&◌, All, Bool, true, false, List, [], ◌∷◌, length, codes, Option, Some, None, option_and_then, option_map, if◌then◌else◌, nat_lt, nat_le, refl}
use Rattle.frame_specs.specs.Frame.{Frame, Kind, Data, Remote, Fd, is_well_formed}
use Rattle.frame_specs.specs.FrameText.{frame_text}

-- the text of a well-formed frame whose data are bytes
pub record Spells (text : List ℕ) (f : Frame) : Type 0 where
  pub well_formed : is_well_formed f ≡ true
  pub bytes : All (λ b. b < 256) f.bytes
  pub spelled : frame_text f ≡ text

infixl 10 ◌>>=◌
abbrev ◌>>=◌ : {A B : Type 0} → Option A → (A → Option B) → Option B
o >>= f = option_and_then f o

-- the value of a hexadecimal digit in lower case
abbrev pub digit_of : ℕ → Option ℕ
digit_of c =
    if nat_le 48 c && nat_lt c 58
    then Some (c - 48)
    else (if nat_le 97 c && nat_lt c 103 then Some (c - 87) else None)

-- the number whose first digits are worth n and whose other digits are these
abbrev pub number_from : ℕ → List ℕ → Option ℕ
number_from n [] = Some n
number_from n (c ∷ cs) = option_and_then (λ d. number_from (16 * n + d) cs) (digit_of c)

-- the bytes that pairs of digits spell
abbrev pub bytes_of : List ℕ → Option (List ℕ)
bytes_of [] = Some []
bytes_of (c ∷ []) = None
bytes_of (c ∷ d ∷ cs) = do
  high ← digit_of c
  low ← digit_of d
  bytes ← bytes_of cs
  Some ((16 * high + low) ∷ bytes)

-- what stands before the first separator, and what behind it
abbrev pub cut : ℕ → List ℕ → Option (List ℕ × List ℕ)
cut separator [] = None
cut separator (c ∷ cs) =
    if c == separator then Some ([], cs) else option_map (λ p. (c ∷ p.0, p.1)) (cut separator cs)

-- three digits of an identifier are base format, and eight are extended format
abbrev pub format_of : ℕ → Option Bool
format_of digits = if digits == 3 then Some false else (if digits == 8 then Some true else None)

-- the digit of an FD frame: 1 for BRS plus 2 for ESI
abbrev pub fd_kind_of : ℕ → Option Kind
fd_kind_of c = do
  flags ← digit_of c
  if nat_lt flags 4 then Some (Fd (flags % 2 == 1) (nat_le 2 flags)) else None

abbrev pub with_kind : Kind → List ℕ → Option (Kind × List ℕ)
with_kind kind text = option_map (λ bytes. (kind, bytes)) (bytes_of text)

-- nothing stands behind the R of a remote frame
abbrev pub remote_of : List ℕ → Option (Kind × List ℕ)
remote_of [] = Some (Remote, [])
remote_of (c ∷ cs) = None

abbrev pub fd_of : List ℕ → Option (Kind × List ℕ)
fd_of [] = None
fd_of (c ∷ cs) = option_and_then (λ kind. with_kind kind cs) (fd_kind_of c)

-- the kind and the data that stand behind the identifier: R is 82, and # is 35
abbrev pub content_of : List ℕ → Option (Kind × List ℕ)
content_of [] = Some (Data, [])
content_of (c ∷ cs) =
    if c == 82 then remote_of cs else (if c == 35 then fd_of cs else with_kind Data (c ∷ cs))

abbrev pub if_well_formed : Frame → Option Frame
if_well_formed f = if is_well_formed f then Some f else None

-- The frame that this text spells; None where it spells none.
unfoldable pub frame_of : List ℕ → Option Frame
frame_of text = do
  parts ← cut 35 text
  ext ← format_of (length parts.0)
  id ← number_from 0 parts.0
  content ← content_of parts.1
  if_well_formed (record { id = id; ext = ext; kind = content.0; bytes = content.1 })

a_base_frame_of_two_bytes : frame_of (codes "123#0a0b") ≡ Some (record { id = 0x123; ext = false; kind = Data; bytes = 10 ∷ 11 ∷ [] })
unfolding frame_of
a_base_frame_of_two_bytes = refl

an_extended_remote_frame : frame_of (codes "1fffffff#R") ≡ Some (record { id = 0x1fffffff; ext = true; kind = Remote; bytes = [] })
unfolding frame_of
an_extended_remote_frame = refl

an_FD_frame_with_BRS : frame_of (codes "123##1112233") ≡ Some (record { id = 0x123; ext = false; kind = Fd true false; bytes = 0x11 ∷ 0x22 ∷ 0x33 ∷ [] })
unfolding frame_of
an_FD_frame_with_BRS = refl

an_FD_frame_with_ESI : frame_of (codes "000##2") ≡ Some (record { id = 0; ext = false; kind = Fd false true; bytes = [] })
unfolding frame_of
an_FD_frame_with_ESI = refl

digits_are_lower_case : frame_of (codes "1ff#0A") ≡ None
unfolding frame_of
digits_are_lower_case = refl

an_identifier_of_twelve_bits : frame_of (codes "800#") ≡ None
unfolding frame_of
an_identifier_of_twelve_bits = refl

a_digit_too_few : frame_of (codes "123#0") ≡ None
unfolding frame_of
a_digit_too_few = refl
