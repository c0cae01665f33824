-- Clock entries, one after the other.
use Rattle.std.proofs.Common.{◌≡◌, ◌<◌, ◌+◌, ℕ, suc, Bool, true, false, if◌then◌else◌, List, [], ◌∷◌, ◌++◌, map, take, drop, set, length, get_or, Option, None, arith, refl, sym, ap, ◌∙◌, append_assoc}
use Rattle.std.proofs.lemmas.List.{drop_more, length-take, take_more, take_more_set, drop-set-lt, map-append}
use Rattle.session_specs.specs.Outcome.{DueChange}
use Rattle.world_specs.specs.Sessions.{ticks, ticking_from, clock_after}
use Rattle.clock_queue.specs.Dues.{due_of}
use Rattle.world_core.specs.Clocks.{changed, settled}

module _ (now : ℕ) where
  -- one entry more
  pub settled-one : (e : ℕ) (d : DueChange) (ds : List DueChange) (cs : List (Option ℕ)) → e < length cs
      → settled now (e + 1) ds (set cs e (clock_after now d (due_of cs e))) ≡ settled now e (d ∷ ds) cs
  settled-one e d ds cs inside =
      let v : Option ℕ = clock_after now d (due_of cs e) in
      ap (λ l. take (e + 1) (set cs e v) ++ changed now ds l) (drop-set-lt (e + 1) cs e v (omega arith))
      ∙ ap (λ l. l ++ changed now ds (drop (e + 1) cs)) (take_more_set cs e v inside)
      ∙ append_assoc (take e cs) (v ∷ []) (changed now ds (drop (e + 1) cs))
      ∙ ap (λ l. take e cs ++ changed now (d ∷ ds) l) (sym (drop_more cs e None inside))

  -- a clock that ticks behind those so far
  ticking-more : (p : ℕ) (xs : List (Option ℕ)) (c : Option ℕ) → ticking_from p now (xs ++ c ∷ []) ≡ ticking_from p now xs ++ (if ticks now c then (p + length xs) ∷ [] else [])
  ticking-more p [] c = let k : p + 0 ≡ p = omega arith in go (ticks now c) k
    where
      go : (q : Bool) → p + 0 ≡ p → (if q then p ∷ [] else []) ≡ [] ++ (if q then (p + 0) ∷ [] else [])
      go true k = ap (λ n. n ∷ []) (sym k)
      go false k = refl
  ticking-more p (x ∷ xs) c =
      let k : (p + 1) + length xs ≡ p + suc (length xs) = omega arith in
      go (ticks now x) (ticking-more (p + 1) xs c ∙ ap (λ n. ticking_from (p + 1) now xs ++ (if ticks now c then n ∷ [] else [])) k)
    where
      go : (q : Bool) → ticking_from (p + 1) now (xs ++ c ∷ []) ≡ ticking_from (p + 1) now xs ++ (if ticks now c then (p + suc (length xs)) ∷ [] else [])
          → (if q then p ∷ ticking_from (p + 1) now (xs ++ c ∷ []) else ticking_from (p + 1) now (xs ++ c ∷ []))
          ≡ (if q then p ∷ ticking_from (p + 1) now xs else ticking_from (p + 1) now xs) ++ (if ticks now c then (p + suc (length xs)) ∷ [] else [])
      go true h = ap (λ l. p ∷ l) h
      go false h = h

  pub ticked-more : (f : ℕ → ℕ) (cs : List (Option ℕ)) (n : ℕ) → n < length cs
      → map f (ticking_from 0 now (take (n + 1) cs)) ≡ map f (ticking_from 0 now (take n cs)) ++ (if ticks now (get_or cs n None) then f n ∷ [] else [])
  ticked-more f cs n inside =
      let k : 0 + length (take n cs) ≡ n = simp length-take (omega arith) in
      ap (λ l. map f (ticking_from 0 now l)) (take_more cs n None inside)
      ∙ ap (map f) (ticking-more 0 (take n cs) (get_or cs n None))
      ∙ map-append f (ticking_from 0 now (take n cs)) (if ticks now (get_or cs n None) then (0 + length (take n cs)) ∷ [] else [])
      ∙ ap (λ l. map f (ticking_from 0 now (take n cs)) ++ l) (go (ticks now (get_or cs n None)) k)
    where
      go : (q : Bool) → 0 + length (take n cs) ≡ n → map f (if q then (0 + length (take n cs)) ∷ [] else []) ≡ (if q then f n ∷ [] else [])
      go true k = ap (λ m. f m ∷ []) k
      go false k = refl
