-- Words behind `call` that are its form.
use Rattle.std.specs.Prelude.{◌≡◌, ◌≤◌, ◌-◌, ℕ, List, [], ◌∷◌, true, Option, Some, None, Result, Ok, Err, option_map, option_and_then, is_some, length, map, refl, IfErr}
use Rattle.std.proofs.Common.{arith, ap, ◌∙◌, subst, get_or, take, drop, take_all}
use Rattle.plain_text.specs.Decimal.{number_in}
use Rattle.call_specs.specs.CallWords.{CallWords, arguments_of_words, most_fuel}
use Rattle.bench_top.specs.Words.{Call, of_call}

is_there : {A : Type 0} (o : Option A) → is_some o ≡ true → (x : A) × (o ≡ Some x)
is_there None h = cc h
is_there (Some x) h = (x, refl)

behind_three : (file name fuel : List ℕ) (words : List (List ℕ)) (n : ℕ) → number_in 0 most_fuel fuel ≡ Some n
    → is_some (arguments_of_words words) ≡ true
    → (w : CallWords) × (of_call (file ∷ name ∷ fuel ∷ words) ≡ Some (Call w))
behind_three file name fuel words n is there =
    let arguments = is_there (arguments_of_words words) there in (
      record { file = file; name = name; fuel = n; arguments = arguments.0 },
      ap (λ o. option_map Call (option_and_then (λ fuel. option_map (λ arguments. record
          { file = file; name = name; fuel = fuel; arguments = arguments }) (arguments_of_words words)) o)) is
          ∙ ap (λ o. option_map Call (option_map (λ arguments. record { file = file; name = name; fuel = n; arguments = arguments }) o))
          arguments.1,
    )

-- three words and more, of which the third is fuel and those behind are arguments
pub is_form : {W : Type 0} (text : W → List ℕ) (words : List W) (d : W) (n : ℕ) → 3 ≤ length words
    → number_in 0 most_fuel (text (get_or words 2 d)) ≡ Some n
    → is_some (arguments_of_words (map text (take (length words - 3) (drop 3 words)))) ≡ true
    → (w : CallWords) × (of_call (map text words) ≡ Some (Call w))
is_form text [] d n h is there = absurd (omega (arith, h))
is_form text (a ∷ []) d n h is there = absurd (omega (arith, h))
is_form text (a ∷ b ∷ []) d n h is there = absurd (omega (arith, h))
is_form {W} text (a ∷ b ∷ c ∷ rest) d n h is there =
    let all : take (length (a ∷ b ∷ c ∷ rest) - 3) rest ≡ rest = take_all (length (a ∷ b ∷ c ∷ rest) - 3) rest (omega arith) in
    behind_three (text a) (text b) (text c) (map text rest) n is
    (subst (λ (ws : List W). is_some (arguments_of_words (map text ws)) ≡ true) all there)

pub at_err : {A E : Type 0} {P : E → Type 0} (r : Result A E) → ((e : E) → P e) → IfErr r P
at_err (Ok x) h = tt
at_err (Err e) h = h e
