-- The lines of a file.
use Rattle.std.specs.Prelude.{◌≡◌, ℕ, zero, suc, ◌==◌, List, [], ◌∷◌, ◌++◌, filter, length, codes, if◌then◌else◌, refl}

-- how many line feeds a text has
abbrev pub line_feeds : List ℕ → ℕ
line_feeds text = length (filter (λ b. b == 10) text)

-- the first lines of a text, each with its line feed: the bytes up to that many line feeds, or all where it has fewer
abbrev pub first_lines : ℕ → List ℕ → List ℕ
first_lines zero text = []
first_lines (suc k) [] = []
first_lines (suc k) (b ∷ bs) = b ∷ (if b == 10 then first_lines k bs else first_lines (suc k) bs)

abbrev line : List ℕ → List ℕ
line text = text ++ 10 ∷ []

first_of_two : first_lines 1 (line (codes "ab") ++ line (codes "c")) ≡ line (codes "ab")
first_of_two = refl

empty_line_counts : first_lines 2 (line [] ++ line (codes "c") ++ codes "d") ≡ line [] ++ line (codes "c")
empty_line_counts = refl

line_without_its_end : first_lines 2 (line (codes "ab") ++ codes "c") ≡ line (codes "ab") ++ codes "c"
line_without_its_end = refl

two_line_feeds : line_feeds (line [] ++ line (codes "c") ++ codes "d") ≡ 2
two_line_feeds = refl
