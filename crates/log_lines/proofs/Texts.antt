-- The text of a line, part by part.
use Rattle.std.proofs.Common.{◌≡◌, ℕ, ◌/◌, ◌%◌, ◌^◌, List, [], ◌∷◌, ◌++◌, Some, None, decimal, flat_map, refl, sym, ap, ◌∙◌, arith, append_assoc}
use Rattle.std.specs.Prelude.{codes}
use Rattle.std.proofs.lemmas.List.{append-nil}
use Rattle.std.proofs.lemmas.Option.{same_Some}
use Rattle.frame_specs.specs.FrameText.{hex, hex_bytes}
use Rattle.log_specs.specs.Line.{Line, On, Down, Over, End, said, joined, numbers_text, line_text}
use Rattle.log_lines.specs.Commas.{behind_comma}
use Rattle.log_lines.specs.Parts.{moment_of, bus_of, node_of, verb_of, rest_of, head_of, number_or_dash, spaced}

pub joined-spaced : (w : List ℕ) (ws : List (List ℕ)) → joined 32 (w ∷ ws) ≡ w ++ spaced ws
joined-spaced w [] = sym (append-nil w)
joined-spaced w (x ∷ ws) = ap (λ t. w ++ 32 ∷ t) (joined-spaced x ws)

spaced-append : (xs ys : List (List ℕ)) → spaced (xs ++ ys) ≡ spaced xs ++ spaced ys
spaced-append [] ys = refl
spaced-append (w ∷ ws) ys =
    ap (λ t. (32 ∷ w) ++ t) (spaced-append ws ys) ∙ sym (append_assoc (32 ∷ w) (spaced ws) (spaced ys))

three_spaced : (a b c d : List ℕ) (ws : List (List ℕ)) (end : List ℕ)
    → (a ++ spaced (b ∷ c ∷ d ∷ ws)) ++ end ≡ ((a ++ spaced (b ∷ c ∷ d ∷ [])) ++ spaced ws) ++ end
three_spaced a b c d ws end = ap (λ t. t ++ end) (
    ap (λ t. a ++ t) (spaced-append (b ∷ c ∷ d ∷ []) ws)
    ∙ sym (append_assoc a (spaced (b ∷ c ∷ d ∷ [])) (spaced ws)))

pub line_text_parts : (line : Line) → line_text line ≡ (head_of line ++ spaced (rest_of line)) ++ 10 ∷ []
unfolding line_text
line_text_parts (On t b n told) =
    let s = said told in
    ap (λ text. text ++ 10 ∷ []) (joined-spaced (decimal t) (decimal b ∷ s.0 ∷ decimal n ∷ s.1))
    ∙ three_spaced (decimal t) (decimal b) s.0 (decimal n) s.1 (10 ∷ [])
line_text_parts (Down t n cause) =
    ap (λ text. text ++ 10 ∷ []) (joined-spaced (decimal t) (codes "-" ∷ codes "down" ∷ decimal n ∷ rest_of (Down t n cause)))
    ∙ three_spaced (decimal t) (codes "-") (codes "down") (decimal n) (rest_of (Down t n cause)) (10 ∷ [])
line_text_parts (Over t n) =
    ap (λ text. text ++ 10 ∷ []) (joined-spaced (decimal t) (codes "-" ∷ codes "over" ∷ decimal n ∷ []))
    ∙ three_spaced (decimal t) (codes "-") (codes "over") (decimal n) [] (10 ∷ [])
line_text_parts (End status events) =
    ap (λ text. text ++ 10 ∷ []) (joined-spaced (codes "end") (decimal status ∷ decimal events ∷ []))

pub head_of_node : (line : Line) (t n : ℕ) → moment_of line ≡ Some t → node_of line ≡ Some n
    → head_of line ≡ decimal t ++ spaced (number_or_dash (bus_of line) ∷ verb_of line ∷ decimal n ∷ [])
head_of_node (On a b c told) t n moment node =
    let m : a ≡ t = same_Some a t moment in let k : c ≡ n = same_Some c n node in rw (m, k) refl
head_of_node (Down a c cause) t n moment node =
    let m : a ≡ t = same_Some a t moment in let k : c ≡ n = same_Some c n node in rw (m, k) refl
head_of_node (Over a c) t n moment node =
    let m : a ≡ t = same_Some a t moment in let k : c ≡ n = same_Some c n node in rw (m, k) refl
head_of_node (End status events) t n moment node = cc moment

pub head_of_end : (line : Line) → moment_of line ≡ None → head_of line ≡ verb_of line
head_of_end (On a b c told) none = cc none
head_of_end (Down a c cause) none = cc none
head_of_end (Over a c) none = cc none
head_of_end (End status events) none = refl

pub head_of_none : (line : Line) → node_of line ≡ None → head_of line ≡ verb_of line
head_of_none (On a b c told) none = cc none
head_of_none (Down a c cause) none = cc none
head_of_none (Over a c) none = cc none
head_of_none (End status events) none = refl

pub numbers_text-first : (n : ℕ) (ns : List ℕ) → numbers_text (n ∷ ns) ≡ decimal n ++ flat_map behind_comma ns
numbers_text-first n [] = sym (append-nil (decimal n))
numbers_text-first n (m ∷ ns) = ap (λ t. decimal n ++ 44 ∷ t) (numbers_text-first m ns)

-- an identifier as its four bytes
pub hex_of_bytes : (id : ℕ) → hex 8 id ≡ hex_bytes (id / 2 ^ 24 ∷ id / 2 ^ 16 % 256 ∷ id / 2 ^ 8 % 256 ∷ id % 256 ∷ [])
hex_of_bytes id =
    let a : id / 16 ^ 7 % 16 ≡ id / 2 ^ 24 / 16 ^ 1 % 16 = omega arith in
    let b : id / 16 ^ 6 % 16 ≡ id / 2 ^ 24 / 16 ^ 0 % 16 = omega arith in
    let c : id / 16 ^ 5 % 16 ≡ id / 2 ^ 16 % 256 / 16 ^ 1 % 16 = omega arith in
    let d : id / 16 ^ 4 % 16 ≡ id / 2 ^ 16 % 256 / 16 ^ 0 % 16 = omega arith in
    let e : id / 16 ^ 3 % 16 ≡ id / 2 ^ 8 % 256 / 16 ^ 1 % 16 = omega arith in
    let f : id / 16 ^ 2 % 16 ≡ id / 2 ^ 8 % 256 / 16 ^ 0 % 16 = omega arith in
    let g : id / 16 ^ 1 % 16 ≡ id % 256 / 16 ^ 1 % 16 = omega arith in
    let h : id / 16 ^ 0 % 16 ≡ id % 256 / 16 ^ 0 % 16 = omega arith in
    rw (a, b, c, d, e, f, g, h) refl
