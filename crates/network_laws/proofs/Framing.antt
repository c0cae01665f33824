-- The bytes under a digest tell each file.
use Rattle.std.proofs.Common.{◌≡◌, ℕ, ◌^◌, ◌<◌, List, [], ◌∷◌, ◌++◌, length, refl, sym, ap, ◌∙◌, append_assoc, arith}
use Rattle.std.specs.Prelude.{flat_map}
use Rattle.std.specs.Int.{to_le_bytes, from_le_bytes, w64}
use Rattle.std.proofs.lemmas.Nat.{from_le_bytes-to_le_bytes_8}
use Rattle.network_specs.specs.Networks.{NodeParts, framed, framed_files}
use Rattle.network_laws.specs.Folders.{IsShort, AreShort, AreSameBytes}

-- equal lists part at equal places
parted : (xs ys a b : List ℕ) → length xs ≡ length ys → xs ++ a ≡ ys ++ b → (xs ≡ ys) × (a ≡ b)
parted [] [] a b same h = (refl, h)
parted [] (y ∷ ys) a b same h = absurd (omega (arith, same))
parted (x ∷ xs) [] a b same h = absurd (omega (arith, same))
parted (x ∷ xs) (y ∷ ys) a b same h =
    let k = parted xs ys a b (omega (arith, same)) (cc h) in
    (cc (h, k.0), k.1)

eight : (n : ℕ) → length (to_le_bytes w64 n) ≡ 8
eight n = refl

same_number : (n m : ℕ) → n < 2 ^ 64 → m < 2 ^ 64 → to_le_bytes w64 n ≡ to_le_bytes w64 m → n ≡ m
same_number n m short shorter h = sym (from_le_bytes-to_le_bytes_8 n short) ∙ (ap (from_le_bytes w64) h ∙ from_le_bytes-to_le_bytes_8 m shorter)

-- a file behind its length, in front of others
unframed : (xs ys a b : List ℕ) → IsShort xs → IsShort ys → framed xs ++ a ≡ framed ys ++ b → (xs ≡ ys) × (a ≡ b)
unframed xs ys a b short shorter h =
    let spread : to_le_bytes w64 (length xs) ++ (xs ++ a) ≡ to_le_bytes w64 (length ys) ++ (ys ++ b) =
    sym (append_assoc (to_le_bytes w64 (length xs)) xs a) ∙ (h ∙ append_assoc (to_le_bytes w64 (length ys)) ys b) in
    let k = parted (to_le_bytes w64 (length xs)) (to_le_bytes w64 (length ys)) (xs ++ a) (ys ++ b) (eight (length xs) ∙ sym (eight (length ys))) spread in
    parted xs ys a b (same_number (length xs) (length ys) short shorter k.0) k.1

module _ {Code : Type 0} where
  abbrev both : NodeParts Code → List ℕ
  both n = framed n.description_bytes ++ framed n.code_bytes

  nodes_told : (ns ms : List (NodeParts Code)) → length ns ≡ length ms → AreShort ns → AreShort ms → flat_map both ns ≡ flat_map both ms → AreSameBytes ns ms
  nodes_told [] [] many short shorter h = tt
  nodes_told [] (m ∷ ms) many short shorter h = absurd (omega (arith, many))
  nodes_told (n ∷ ns) [] many short shorter h = absurd (omega (arith, many))
  nodes_told (n ∷ ns) (m ∷ ms) many short shorter h =
      let spread : framed n.description_bytes ++ (framed n.code_bytes ++ flat_map both ns) ≡ framed m.description_bytes ++ (framed m.code_bytes ++ flat_map both ms) =
      sym (append_assoc (framed n.description_bytes) (framed n.code_bytes) (flat_map both ns)) ∙ (h ∙ append_assoc (framed m.description_bytes) (framed m.code_bytes) (flat_map both ms)) in
      let first = unframed n.description_bytes m.description_bytes (framed n.code_bytes ++ flat_map both ns) (framed m.code_bytes ++ flat_map both ms) short.0.0 shorter.0.0 spread in
      let second = unframed n.code_bytes m.code_bytes (flat_map both ns) (flat_map both ms) short.0.1 shorter.0.1 first.1 in
      ((first.0, second.0), nodes_told ns ms (omega (arith, many)) short.1 shorter.1 second.1)

  pub told : (text other : List ℕ) (ns ms : List (NodeParts Code)) → length ns ≡ length ms → IsShort text → IsShort other → AreShort ns → AreShort ms
      → framed_files text ns ≡ framed_files other ms → (text ≡ other) × AreSameBytes ns ms
  told text other ns ms many short shorter shorts shorters h =
      let k = unframed text other (flat_map both ns) (flat_map both ms) short shorter h in
      (k.0, nodes_told ns ms many shorts shorters k.1)
