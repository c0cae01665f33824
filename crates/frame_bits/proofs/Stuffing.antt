-- Bits with their stuff bits, by what was written, the newest first.
use Rattle.std.proofs.Common.{◌≡◌, ℕ, List, Bool, Option, Some, None, [], ◌∷◌, ◌++◌, length, fold, reverse, refl, ap, sym, ◌∙◌}
use Rattle.std.specs.Prelude.{option_to_list}
use Rattle.std.proofs.lemmas.List.{length-reverse, reverse-append}
use Rattle.std.proofs.lemmas.List.Sums.{fold_push}
use Rattle.frame_specs.specs.Wire.{put, settle, stuff, stuff_open, crc}

pub length-stuff_open : (bits : List Bool) → length (stuff_open bits) ≡ length (fold put [] bits)
unfolding stuff_open
length-stuff_open bits = length-reverse (fold put [] bits)

pub length-stuff : (bits : List Bool) → length (stuff bits) ≡ length (settle (fold put [] bits))
unfolding stuff
length-stuff bits = length-reverse (settle (fold put [] bits))

-- what was counted, where a part behind the bits is made of their CRC
pub length-stuff_crc : (part : ℕ → List Bool) (bits : List Bool) (count rest : ℕ) → rest ≡ crc bits
    → count ≡ length (settle (fold put [] (bits ++ part rest))) → count ≡ length (stuff (bits ++ part (crc bits)))
length-stuff_crc part bits count rest e counted =
    counted ∙ sym (length-stuff (bits ++ part rest)) ∙ ap (λ k. length (stuff (bits ++ part k))) e

option-reverse : (due : Option Bool) → reverse (option_to_list due) ≡ option_to_list due
option-reverse None = refl
option-reverse (Some b) = refl

-- the stuff bit that is due, behind the last bit
pub stuff-due : (bits : List Bool) (due : Option Bool) → settle (fold put [] bits) ≡ option_to_list due ++ fold put [] bits
    → stuff bits ≡ stuff_open bits ++ option_to_list due
unfolding stuff stuff_open
stuff-due bits due e =
    ap reverse e ∙ reverse-append (option_to_list due) (fold put [] bits) ∙ ap (λ end. reverse (fold put [] bits) ++ end) (option-reverse due)

-- one more bit, behind the stuff bit that is due
pub stuff_open-push : (bits : List Bool) (b : Bool) → stuff_open (bits ++ b ∷ []) ≡ stuff bits ++ b ∷ []
unfolding stuff stuff_open
stuff_open-push bits b = ap reverse (fold_push put [] bits b) ∙ reverse-append (b ∷ []) (settle (fold put [] bits))

-- a list with one more bit behind it
pub listed-bit : (before between after bits : List Bool) (due : Option Bool) (b : Bool) → before ≡ stuff_open bits
    → settle (fold put [] bits) ≡ option_to_list due ++ fold put [] bits → between ≡ before ++ option_to_list due → after ≡ between ++ b ∷ []
    → after ≡ stuff_open (bits ++ b ∷ [])
listed-bit before between after bits due b e0 e1 e2 e3 =
    e3 ∙ ap (λ xs. xs ++ b ∷ []) (e2 ∙ ap (λ xs. xs ++ option_to_list due) e0 ∙ sym (stuff-due bits due e1)) ∙ sym (stuff_open-push bits b)

-- a list that ends with what is due, where a part behind the bits is made of their CRC
pub listed-crc : (part : ℕ → List Bool) (before after bits : List Bool) (rest : ℕ) (due : Option Bool) → rest ≡ crc bits
    → before ≡ stuff_open (bits ++ part rest) → settle (fold put [] (bits ++ part rest)) ≡ option_to_list due ++ fold put [] (bits ++ part rest)
    → after ≡ before ++ option_to_list due → after ≡ stuff (bits ++ part (crc bits))
listed-crc part before after bits rest due e0 e1 e2 e3 =
    e3 ∙ ap (λ xs. xs ++ option_to_list due) e1 ∙ sym (stuff-due (bits ++ part rest) due e2) ∙ ap (λ k. stuff (bits ++ part k)) e0
