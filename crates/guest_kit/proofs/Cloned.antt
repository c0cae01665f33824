-- Bytes that are clones are the same bytes.
use Rattle.std.proofs.Common.{◌≡◌, ℕ, List, [], ◌∷◌, map, refl, ap, ◌∙◌}
use Rattle.std.specs.List.{AllZip}
use Rattle.std.proofs.lemmas.Slice.Zip.{AllZip-map}

same : (xs : List ℕ) → map (λ (x : ℕ). x) xs ≡ xs
same [] = refl
same (x ∷ xs) = ap (λ (l : List ℕ). x ∷ l) (same xs)

pub clones : (xs ys : List ℕ) → AllZip (λ x y. y ≡ x) xs ys → ys ≡ xs
clones xs ys all = AllZip-map (λ (x : ℕ). x) xs ys all ∙ same xs
