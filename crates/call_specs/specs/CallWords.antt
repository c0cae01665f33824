-- The words behind `call`: FILE NAME FUEL ARGS.
use Rattle.std.specs.Prelude.{◌≡◌, ℕ, ◌-◌, ◌^◌, List, [], ◌∷◌, Option, Some, None, option_map, option_and_then, codes, refl}
use Rattle.plain_text.specs.Decimal.{number_in, number_of}

pub record CallWords : Type 0 where
  pub file : List ℕ
  -- the name of an exported function
  pub name : List ℕ
  pub fuel : ℕ
  -- any number of them
  pub arguments : List ℕ

-- the most fuel that may be asked for
abbrev pub most_fuel : ℕ
most_fuel = 1000000000

-- each word is a number of 64 bits
abbrev pub arguments_of_words : List (List ℕ) → Option (List ℕ)
arguments_of_words [] = Some []
arguments_of_words (word ∷ words) =
    option_and_then (λ n. option_map (λ ns. n ∷ ns) (arguments_of_words words)) (number_in 0 (2 ^ 64 - 1) word)

-- what the words are; None where they have another form
abbrev pub call_words : List (List ℕ) → Option CallWords
call_words (file ∷ name ∷ fuel ∷ words) =
    option_and_then (λ fuel.
    option_map (λ arguments. record { file = file; name = name; fuel = fuel; arguments = arguments })
    (arguments_of_words words)) (number_in 0 most_fuel fuel)
call_words words = None

two_arguments :
    call_words (codes "m" ∷ codes "f" ∷ codes "1000000000" ∷ codes "0" ∷ codes "18446744073709551615" ∷ [])
    ≡ Some (record { file = codes "m"; name = codes "f"; fuel = 1000000000; arguments = 0 ∷ 18446744073709551615 ∷ [] })
unfolding number_in number_of
two_arguments = refl

too_much_fuel : call_words (codes "m" ∷ codes "f" ∷ codes "1000000001" ∷ []) ≡ None
unfolding number_in number_of
too_much_fuel = refl

argument_over_64_bits : call_words (codes "m" ∷ codes "f" ∷ codes "9" ∷ codes "18446744073709551616" ∷ []) ≡ None
unfolding number_in number_of
argument_over_64_bits = refl

argument_with_a_sign : call_words (codes "m" ∷ codes "f" ∷ codes "9" ∷ codes "-1" ∷ []) ≡ None
unfolding number_in number_of
argument_with_a_sign = refl

no_fuel : call_words (codes "m" ∷ codes "f" ∷ []) ≡ None
no_fuel = refl
