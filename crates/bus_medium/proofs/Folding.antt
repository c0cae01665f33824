-- One more element, in a loop that folds over what each element gives, where it gives something.
use Rattle.std.proofs.Common.{◌≡◌, ℕ, ◌<◌, ◌+◌, List, [], ◌∷◌, length, take, get_or, fold, filter_map, Option, Some, None, refl, sym, ap, ◌∙◌}
use Rattle.std.specs.Prelude.{option_to_list}
use Rattle.std.specs.List.{cons_option}
use Rattle.std.proofs.lemmas.List.{take_more}
use Rattle.std.proofs.lemmas.List.Elements.{filter_map-append}
use Rattle.std.proofs.lemmas.List.Sums.{fold-append}

one : {Y : Type 0} (o : Option Y) → cons_option o [] ≡ option_to_list o
one None = refl
one (Some y) = refl

pub fold_filter_map_more : {X Y Z : Type 0} (f : Z → Y → Z) (start : Z) (h : X → Option Y) (xs : List X) (i : ℕ) (x : X) → i < length xs
    → x ≡ get_or xs i x → fold f start (filter_map h (take (i + 1) xs)) ≡ fold f (fold f start (filter_map h (take i xs))) (option_to_list (h x))
fold_filter_map_more f start h xs i x within is =
    ap (λ l. fold f start (filter_map h l)) (take_more xs i x within)
    ∙ ap (fold f start) (filter_map-append h (take i xs) (get_or xs i x ∷ []))
    ∙ fold-append f start (filter_map h (take i xs)) (filter_map h (get_or xs i x ∷ []))
    ∙ ap (fold f (fold f start (filter_map h (take i xs)))) (one (h (get_or xs i x)) ∙ ap (λ y. option_to_list (h y)) (sym is))
