-- Texts in a region that ends before the bytes do.
use Rattle.std.proofs.Common.{◌≡◌, ℕ, suc, ◌+◌, ◌-◌, ◌≤◌, List, [], ◌∷◌, ◌++◌, length, take, drop, sym, ap, ◌∙◌, arith, append_assoc, inl, inr}
use Rattle.std.proofs.lemmas.Bool.{cases_lt}
use Rattle.std.proofs.lemmas.List.{drop-take, drop-drop, take-append-drop, length-take, get_or-take, get_or_past}
use Rattle.leb_bytes.proofs.Spelled.{IsBytes}
use Rattle.module_specs.specs.Spelling.{Here}

pub take_fits : (n : ℕ) (bytes : List ℕ) → IsBytes bytes → IsBytes (take n bytes)
take_fits n bytes h i =
    elim (cases_lt i n) [
      | inl lt ↦ rw (get_or-take n bytes i 0 lt) (h i)
      | inr le ↦ rw (get_or_past (take n bytes) i 0 (omega (arith, length-take n bytes))) (omega arith)
    ]

pub take_behind : (text l : List ℕ) (m : ℕ) → take (length text + m) (text ++ l) ≡ text ++ take m l
take_behind [] l m = ap (λ n. take n l) (let e : 0 + m ≡ m = omega arith in e)
take_behind (x ∷ text) l m = let e : length (x ∷ text) + m ≡ suc (length text + m) = omega arith in ap (λ n. take n (x ∷ (text ++ l))) e ∙ ap (λ l. x ∷ l) (take_behind text l m)

module _ (b : List ℕ) (stop : ℕ) (le : stop ≤ length b) where
  pub region_size : length (take stop b) ≡ stop
  region_size = omega (arith, length-take stop b)

  region_rest : (at : ℕ) → at ≤ stop → drop at (take stop b) ≡ take (stop - at) (drop at b)
  region_rest at small = let e : stop ≡ at + (stop - at) = omega arith in ap (λ n. drop at (take n b)) e ∙ drop-take at (stop - at) b

  -- a text that ends in the region lies in it
  pub narrow : (at next : ℕ) (text : List ℕ) → next ≤ stop → Here b at text next → Here (take stop b) at text next
  narrow at next text small h =
      let n : stop - at ≡ length text + (stop - next) = omega (arith, h.size) in
      record {
        whole = region_rest at (omega (arith, h.size)) ∙ ap (λ k. take k (drop at b)) n ∙ ap (take (length text + (stop - next))) h.whole
            ∙ take_behind text (drop next b) (stop - next) ∙ ap (λ l. text ++ l) (sym (region_rest next small));
        size = h.size;
        within = omega (arith, region_size);
      }

  -- and a text of the region lies in the bytes
  pub widen : (at next : ℕ) (text : List ℕ) → Here (take stop b) at text next → Here b at text next
  widen at next text h =
      let small : next ≤ stop = omega (arith, h.within, region_size) in
      let whole_at = split at (omega (arith, h.size)) in
      record {
        whole = whole_at ∙ ap (λ l. l ++ drop (stop - at) (drop at b)) (sym (region_rest at (omega (arith, h.size))) ∙ h.whole)
            ∙ append_assoc text (drop next (take stop b)) (drop (stop - at) (drop at b))
            ∙ ap (λ l. text ++ l) (ap (λ l. l ++ drop (stop - at) (drop at b)) (region_rest next small) ∙ ap (λ l. take (stop - next) (drop next b) ++ l) (same_end at next (omega (arith, h.size)) small) ∙ sym (split next small));
        size = h.size;
        within = omega arith;
      }
    where
      split : (p : ℕ) → p ≤ stop → drop p b ≡ take (stop - p) (drop p b) ++ drop (stop - p) (drop p b)
      split p small = sym (take-append-drop (stop - p) (drop p b))

      same_end : (p q : ℕ) → p ≤ stop → q ≤ stop → drop (stop - p) (drop p b) ≡ drop (stop - q) (drop q b)
      same_end p q hp hq = to_stop p hp ∙ sym (to_stop q hq)
        where
          to_stop : (p : ℕ) → p ≤ stop → drop (stop - p) (drop p b) ≡ drop stop b
          to_stop p h = drop-drop (stop - p) p b ∙ ap (λ n. drop n b) (let e : p + (stop - p) ≡ stop = omega arith in e)
