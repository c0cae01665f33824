-- The parts of a text, one cut after the other.
use Rattle.std.proofs.Common.{◌≡◌, ℕ, ◌==◌, Bool, true, false, List, [], ◌∷◌, Option, Some, None, refl, sym, ap, subst, arith}
use Rattle.std.specs.Prelude.{option_map, MatchOption, if◌then◌else◌}
use Rattle.frame_specs.specs.FrameReading.{cut}
use Rattle.plain_text.specs.Parts.{parts, with_front}
use Rattle.plain_text.specs.Parts.{IsCut}

-- what a cut says of the parts
abbrev pub SaysParts : ℕ → List ℕ → Option (List ℕ × List ℕ) → Type 0
SaysParts separator text o = MatchOption o (parts separator text ≡ text ∷ []) (λ p. IsCut separator text p.0 p.1)

behind_byte : (separator b : ℕ) (bs : List ℕ) (o : Option (List ℕ × List ℕ)) → (b == separator) ≡ false → SaysParts separator bs o
    → SaysParts separator (b ∷ bs) (option_map (λ p. (b ∷ p.0, p.1)) o)
behind_byte separator b bs (Some p) other so_far = record { parts_are = rw other (ap (with_front b) so_far.parts_are); shorter = omega (arith, so_far.shorter) }
behind_byte separator b bs None other so_far = rw other (ap (with_front b) so_far)

pub cut_says_parts : (separator : ℕ) (text : List ℕ) → SaysParts separator text (cut separator text)
cut_says_parts separator [] = refl
cut_says_parts separator (b ∷ bs) =
    let so_far = cut_says_parts separator bs in
    let P : Bool → Type 0 = λ v. (b == separator) ≡ v → SaysParts separator (b ∷ bs) (if v then Some ([], bs) else option_map (λ p. (b ∷ p.0, p.1)) (cut separator bs)) in
    let cases : P (b == separator) = elim (b == separator) as P [
      | true ↦ λ same. record { parts_are = rw same refl; shorter = omega arith }
      | false ↦ λ other. behind_byte separator b bs (cut separator bs) other so_far
    ] in
    cases refl

pub parts_said : {A B : Type 0} (separator : ℕ) (text : List ℕ) (front : A → List ℕ) (rest : B → List ℕ) (o : Option (A × B))
    → option_map (λ p. (front p.0, rest p.1)) o ≡ cut separator text
    → MatchOption o (parts separator text ≡ text ∷ []) (λ p. IsCut separator text (front p.0) (rest p.1))
parts_said separator text front rest (Some p) found =
    let P : Option (List ℕ × List ℕ) → Type 0 = SaysParts separator text in subst P (sym found) (cut_says_parts separator text)
parts_said separator text front rest None found =
    let P : Option (List ℕ × List ℕ) → Type 0 = SaysParts separator text in subst P (sym found) (cut_says_parts separator text)
