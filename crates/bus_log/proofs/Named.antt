-- Looking a word up among names.
use Rattle.std.proofs.Common.{◌≡◌, ℕ, Bool, true, false, cond, List, [], ◌∷◌, Option, Some, map, refl}
use Rattle.std.specs.Prelude.{option_map, bytes_eq}
use Rattle.bus_log.specs.Verbs.{named}

first_of : {A B : Type 0} (f : A → B) (a : A) (o : Option A) (p : Option B) (b : Bool) → option_map f o ≡ p
    → option_map f (cond b (Some a) o) ≡ cond b (Some (f a)) p
first_of f a o p true rest = refl
first_of f a o p false rest = rest

pub named-map : {A B : Type 0} (f : A → B) (text : B → List ℕ) (all : List A) (word : List ℕ)
    → option_map f (named (λ a. text (f a)) all word) ≡ named text (map f all) word
named-map f text [] word = refl
named-map f text (a ∷ as') word =
    first_of f a (named (λ x. text (f x)) as' word) (named text (map f as') word) (bytes_eq word (text (f a))) (named-map f text as' word)
