-- Words that are written with a space behind each.
use Rattle.std.proofs.Common.{◌≡◌, ◌<◌, ◌+◌, ℕ, List, [], ◌∷◌, ◌++◌, map, take, drop, length, get_or, sym, ap, append_assoc, ◌∙◌}
use Rattle.std.specs.Prelude.{flat_map, Result, Ok, Err, OnErr}
use Rattle.std.proofs.lemmas.List.{map-append, at_drop_more, take-append-drop}
use Rattle.std.proofs.lemmas.Grind.{flat_map-append}

module _ {L : Type 0} (text : L → List ℕ) where
  abbrev pub spaced : List L → List (List ℕ)
  spaced words = flat_map (λ word. word ∷ (32 ∷ []) ∷ []) (map text words)

  spaced-append : (xs ys : List L) → spaced (xs ++ ys) ≡ spaced xs ++ spaced ys
  spaced-append xs ys =
      ap (flat_map (λ word. word ∷ (32 ∷ []) ∷ [])) (map-append text xs ys)
      ∙ flat_map-append (λ word. word ∷ (32 ∷ []) ∷ []) (map text xs) (map text ys)

  -- the words so far, this one, those behind it, and the end of the line
  pub split-spaced : (words : List L) (i : ℕ) (d : L) (end : List (List ℕ)) → i < length words
      → spaced (take i words) ++ ((text (get_or words i d) ∷ (32 ∷ []) ∷ []) ++ (spaced (drop (i + 1) words) ++ end))
      ≡ spaced words ++ end
  split-spaced words i d end below =
      ap (λ t. spaced (take i words) ++ (t ++ end)) (sym (at_drop_more spaced words i d below))
      ∙ sym (append_assoc (spaced (take i words)) (spaced (drop i words)) end)
      ∙ ap (λ t. t ++ end) (sym (spaced-append (take i words) (drop i words)) ∙ ap spaced (take-append-drop i words))

pub on_err : {T E : Type 0} {P Q : Type 0} (r : Result T E) → (P → Q) → OnErr r P → OnErr r Q
on_err (Ok x) f h = tt
on_err (Err e) f h = f h

pub at_err : {T E : Type 0} {P : Type 0} (r : Result T E) → P → OnErr r P
at_err (Ok x) h = tt
at_err (Err e) h = h
