-- Worked values: which lines are lines of a log.
use Rattle.std.specs.Prelude.{◌≡◌, false, true, [], ◌∷◌, replicate, refl}
use Rattle.frame_specs.specs.Frame.{Frame, Data}
use Rattle.log_specs.specs.Line.{On, End, Done, Fail, Hurt, Bad, FormatError, Keep, Req}
use Rattle.log_lines.specs.IsLine.{is_line, line_fits}

abbrev empty : Frame
empty = record { id = 0x123; ext = false; kind = Data; bytes = [] }

a_kind_of_error_of_a_sender : is_line (On 0 0 0 (Fail empty 5 0)) ≡ true
a_kind_of_error_of_a_sender = refl

no_sixth_kind_of_error : is_line (On 0 0 0 (Fail empty 6 0)) ≡ false
no_sixth_kind_of_error = refl

no_fifth_kind_of_error_of_a_listener : is_line (On 0 0 0 (Hurt 5)) ≡ false
no_fifth_kind_of_error_of_a_listener = refl

receivers_rise : is_line (On 0 0 0 (Done empty (0 ∷ 2 ∷ 31 ∷ []))) ≡ true
receivers_rise = refl

no_receiver_twice : is_line (On 0 0 0 (Done empty (1 ∷ 1 ∷ []))) ≡ false
no_receiver_twice = refl

no_bytes_of_a_bad_operation : is_line (On 0 0 0 (Bad [])) ≡ false
no_bytes_of_a_bad_operation = refl

no_65_bytes : is_line (On 0 0 0 (FormatError (replicate 65 0))) ≡ false
no_65_bytes = refl

statuses : (is_line (End 0 9) ≡ true) × (is_line (End 8 9) ≡ true) × (is_line (End 7 9) ≡ false)
statuses = (refl, refl, refl)

moments_of_64_bits : (line_fits (On 0xffff_ffff_ffff_ffff 0 0 Keep) ≡ true) × (line_fits (On 0x1_0000_0000_0000_0000 0 0 Keep) ≡ false)
moments_of_64_bits = (refl, refl)

nodes_of_32_bits : (line_fits (On 0 0 0xffff_ffff Keep) ≡ true) × (line_fits (On 0 0 0x1_0000_0000 Keep) ≡ false)
nodes_of_32_bits = (refl, refl)

identifiers_of_their_format : line_fits (On 0 0 0 (Req (record { id = 0x800; ext = false; kind = Data; bytes = [] }))) ≡ false
identifiers_of_their_format = refl
