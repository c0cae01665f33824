-- Worked values: texts that are those of lines, and of none.
use Rattle.std.specs.Prelude.{◌≡◌, ℕ, List, [], ◌∷◌, ◌++◌, codes, None, Some, refl}
use Rattle.frame_specs.specs.FrameReading.{frame_of}
use Rattle.log_specs.specs.Line.{On, Keep}
use Rattle.bus_log.specs.Reading.{line_of_text, numbers_in, bytes_in, id_in}
use Rattle.plain_text.specs.Decimal.{number_in, number_of}

abbrev line : List ℕ → List ℕ
line text = text ++ 10 ∷ []

one_line : line_of_text (line (codes "3 0 keep 1")) ≡ Some (On 3 0 1 Keep)
unfolding line_of_text number_in number_of
one_line = refl

no_line_feed : line_of_text (codes "3 0 keep 1") ≡ None
unfolding line_of_text number_in number_of
no_line_feed = refl

bytes_behind_the_line_feed : line_of_text (line (codes "3 0 keep 1") ++ codes "x") ≡ None
unfolding line_of_text number_in number_of
bytes_behind_the_line_feed = refl

a_leading_zero : line_of_text (line (codes "03 0 keep 1")) ≡ None
unfolding line_of_text number_in number_of
a_leading_zero = refl

two_spaces : line_of_text (line (codes "3  0 keep 1")) ≡ None
unfolding line_of_text number_in number_of
two_spaces = refl

a_word_behind_the_line : line_of_text (line (codes "3 0 keep 1 0")) ≡ None
unfolding line_of_text number_in number_of
a_word_behind_the_line = refl

receivers_that_fall : line_of_text (line (codes "11 0 done 1 123# to 2,1")) ≡ None
unfolding line_of_text number_in number_of numbers_in frame_of
receivers_that_fall = refl

upper_case_bytes : line_of_text (line (codes "7 0 bad 1 0A")) ≡ None
unfolding line_of_text number_in number_of bytes_in
upper_case_bytes = refl

an_identifier_of_three_digits : line_of_text (line (codes "8 0 told 1 lost 123")) ≡ None
unfolding line_of_text number_in number_of id_in
an_identifier_of_three_digits = refl

a_moment_of_65_bits : line_of_text (line (codes "18446744073709551616 0 keep 1")) ≡ None
unfolding line_of_text number_in number_of
a_moment_of_65_bits = refl
