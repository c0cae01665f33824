-- Readers that tell what a grammar spells, and what is put together from them.
use Rattle.std.proofs.Common.{◌≡◌, ℕ, zero, suc, ◌+◌, ◌≤◌, List, [], ◌∷◌, ◌++◌, length, take, Ok, Err, refl, sym, ap, subst, ◌∙◌, arith}
use Rattle.std.specs.Prelude.{nat_lt}
use Rattle.std.proofs.lemmas.Bool.{ltb-false, le-ltb}
use Rattle.leb_bytes.proofs.Spelled.{IsBytes}
use Rattle.leb_bytes.specs.Spelling.{SpellsUnsigned, SpellsSigned}
use Rattle.module_specs.specs.declared.fault.Fault.{Fault}
use Rattle.module_specs.specs.Spelling.{Here, SpellsByte, SpellsU32, SpellsEach, SpellsVector, SpellsSized}
use Rattle.module_specs.specs.Reading.{Read, ◌>>=◌, refuse_if, mapped, byte_at, u32_at, s32_at, s64_at, each_at, vector_at, sized_at}
use Rattle.module_specs.proofs.Places as places
use Rattle.module_specs.proofs.Places.{bind_ok, done, ok_is, not_refused, goes_past}
use Rattle.module_specs.proofs.Regions.{take_fits, region_size, narrow, widen}

-- what the grammar spells is read, and what is read is spelled
pub record Tells {A : Type 0} (S : A → List ℕ → Type 0) (read : List ℕ → ℕ → Read A) : Type 0 where
  pub again : (b : List ℕ) (at next : ℕ) (x : A) (text : List ℕ) → S x text → Here b at text next → read b at ≡ Ok (x, next)
  pub here : (b : List ℕ) → IsBytes b → (at next : ℕ) (x : A) → at ≤ length b → read b at ≡ Ok (x, next)
      → (text : List ℕ) × Here b at text next × S x text

-- the same for what takes a region up to its end
pub record Fills {A : Type 0} (S : A → List ℕ → Type 0) (read : List ℕ → ℕ → Read A) : Type 0 where
  pub again : (b : List ℕ) (at : ℕ) (x : A) (text : List ℕ) → S x text → Here b at text (length b) → read b at ≡ Ok (x, length b)
  pub here : (b : List ℕ) → IsBytes b → (at next : ℕ) (x : A) → at ≤ length b → read b at ≡ Ok (x, next)
      → (text : List ℕ) × Here b at text next × S x text

pub fills_of : {A : Type 0} (S : A → List ℕ → Type 0) (read : List ℕ → ℕ → Read A) → Tells S read → Fills S read
fills_of S read t = record { again = λ b at x text s h. t.again b at (length b) x text s h; here = t.here }

pub byte_tells : Tells SpellsByte byte_at
byte_tells = record { again = again; here = here }
  where
    again : (b : List ℕ) (at next : ℕ) (x : ℕ) (text : List ℕ) → SpellsByte x text → Here b at text next → byte_at b at ≡ Ok (x, next)
    again b at next x text s h =
        let k = places.same_text b at next text (x ∷ []) s h in
        let n : at + 1 ≡ next = omega (arith, k.size) in
        places.byte_again b at next x [] k ∙ ap (λ n. Ok (x, n)) n

    here : (b : List ℕ) → IsBytes b → (at next : ℕ) (x : ℕ) → at ≤ length b → byte_at b at ≡ Ok (x, next) → (text : List ℕ) × Here b at text next × SpellsByte x text
    here b fits at next x le e = (x ∷ [], places.byte_here b at next x e, refl)

pub u32_tells : Tells SpellsU32 u32_at
u32_tells = record {
  again = λ b at next n text s h. places.u32_again b at next n text s h;
  here = λ b fits at next n le e. places.u32_here b fits at next n le e;
}

pub s32_tells : Tells (λ z text. SpellsSigned 32 text z) s32_at
s32_tells = record {
  again = λ b at next z text s h. places.s32_again b at next z text s h;
  here = λ b fits at next z le e. places.s32_here b fits at next z le e;
}

pub s64_tells : Tells (λ z text. SpellsSigned 64 text z) s64_at
s64_tells = record {
  again = λ b at next z text s h. places.s64_again b at next z text s h;
  here = λ b fits at next z le e. places.s64_here b fits at next z le e;
}

abbrev pub cons_read : {A : Type 0} → A → List A × ℕ → Read (List A)
cons_read x xs = Ok (x ∷ xs.0, xs.1)

-- a region's content that is read to its end
abbrev pub full_at : {A : Type 0} → Fault → ℕ → A × ℕ → Read A
full_at early stop x = refuse_if (nat_lt x.1 stop) early >>= λ full. Ok x

module _ {A : Type 0} (S : A → List ℕ → Type 0) (item : List ℕ → ℕ → Read A) (tells : Tells S item) where
  each_again : (b : List ℕ) (xs : List A) (at next : ℕ) (text : List ℕ) → SpellsEach S xs text → Here b at text next → each_at item b (length xs) at ≡ Ok (xs, next)
  unfolding each_at
  each_again b [] at next text s h =
      let n : at ≡ next = sym (omega (arith, h.size, ap length s)) in
      ap (λ (n : ℕ). Ok ([], n)) n
  each_again b (x ∷ xs) at next text s h =
      let k = places.same_text b at next text (s.0 ++ s.1) s.2 h in
      let mid = at + length s.0 in
      ap (λ r. r >>= λ x. each_at item b (length xs) x.1 >>= cons_read x.0) (tells.again b at mid x s.0 s.3 (places.here_first b at next s.0 s.1 k))
      ∙ ap (λ r. r >>= cons_read x) (each_again b xs mid next s.1 s.4 (places.here_second b at next s.0 s.1 k))

  each_here : (b : List ℕ) → IsBytes b → (n at next : ℕ) (xs : List A) → at ≤ length b → each_at item b n at ≡ Ok (xs, next)
      → (text : List ℕ) × Here b at text next × (length xs ≡ n) × SpellsEach S xs text
  unfolding each_at
  each_here b fits zero at next xs le e =
      let made : List A × ℕ = ([], at) in
      subst (λ (p : List A × ℕ). (text : List ℕ) × Here b at text p.1 × (length p.0 ≡ 0) × SpellsEach S p.0 text) (ok_is made (xs, next) e)
      ([], places.nothing_here b at le, refl, refl)
  each_here b fits (suc n) at next xs le e =
      let first = bind_ok (item b at) (λ x. each_at item b n x.1 >>= cons_read x.0) (xs, next) e in
      let others = bind_ok (each_at item b n first.0.1) (cons_read first.0.0) (xs, next) first.2 in
      let h1 = tells.here b fits at first.0.1 first.0.0 le first.1 in
      let h2 = each_here b fits n first.0.1 others.0.1 others.0.0 h1.1.within others.1 in
      let made : List A × ℕ = (first.0.0 ∷ others.0.0, others.0.1) in
      subst (λ (p : List A × ℕ). (text : List ℕ) × Here b at text p.1 × (length p.0 ≡ suc n) × SpellsEach S p.0 text) (ok_is made (xs, next) others.2)
      (h1.0 ++ h2.0, places.here_join b at first.0.1 others.0.1 h1.0 h2.0 h1.1 h2.1, ap suc h2.2, (h1.0, h2.0, refl, h1.2, h2.3))

  pub vector_tells : Tells (SpellsVector S) (vector_at item)
  unfolding vector_at
  vector_tells = record { again = again; here = here }
    where
      again : (b : List ℕ) (at next : ℕ) (xs : List A) (text : List ℕ) → SpellsVector S xs text → Here b at text next → vector_at item b at ≡ Ok (xs, next)
      again b at next xs text s h =
          let k = places.same_text b at next text (s.0 ++ s.1) s.2 h in
          let mid = at + length s.0 in
          ap (λ r. r >>= λ count. each_at item b count.0 count.1) (u32_tells.again b at mid (length xs) s.0 s.3 (places.here_first b at next s.0 s.1 k))
          ∙ each_again b xs mid next s.1 s.4 (places.here_second b at next s.0 s.1 k)

      here : (b : List ℕ) → IsBytes b → (at next : ℕ) (xs : List A) → at ≤ length b → vector_at item b at ≡ Ok (xs, next) → (text : List ℕ) × Here b at text next × SpellsVector S xs text
      here b fits at next xs le e =
          let count = bind_ok (u32_at b at) (λ count. each_at item b count.0 count.1) (xs, next) e in
          let h1 = u32_tells.here b fits at count.0.1 count.0.0 le count.1 in
          let h2 = each_here b fits count.0.0 count.0.1 next xs h1.1.within count.2 in
          (h1.0 ++ h2.0, places.here_join b at count.0.1 next h1.0 h2.0 h1.1 h2.1, (h1.0, h2.0, refl, subst (SpellsUnsigned 32 h1.0) (sym h2.2) h1.2, h2.3))

-- a size and exactly so much content
module _ {A : Type 0} (S : A → List ℕ → Type 0) (item : List ℕ → ℕ → Read A) (tells : Fills S item) where
  pub sized_tells : (past : ℕ → Fault) (early : Fault) → Tells (SpellsSized S) (sized_at past early item)
  unfolding sized_at
  sized_tells past early = record { again = again; here = here }
    where
      again : (b : List ℕ) (at next : ℕ) (x : A) (text : List ℕ) → SpellsSized S x text → Here b at text next → sized_at past early item b at ≡ Ok (x, next)
      again b at next x text s h =
          let k = places.same_text b at next text (s.0 ++ s.1) s.2 h in
          let p = at + length s.0 in
          let n = length s.1 in
          let inside = places.here_second b at next s.0 s.1 k in
          let stop : next ≡ p + n = inside.size in
          let le : p + n ≤ length b = omega (arith, h.within) in
          let made : A × ℕ = (x, next) in
          let r = take (p + n) b in
          let size = region_size b (p + n) le in
          let lies : Here r p s.1 (length r) = subst (Here r p s.1) (stop ∙ sym size) (narrow b (p + n) le p next s.1 (omega arith) inside) in
          let filled : item r p ≡ done made = tells.again r p x s.1 s.4 lies ∙ ap (λ n. Ok (x, n)) (size ∙ sym stop) in
          ap (λ r. r >>= λ size. refuse_if (nat_lt (length b) (size.1 + size.0)) (past (size.1 + size.0)) >>= λ fine. item (take (size.1 + size.0) b) size.1 >>= full_at early (size.1 + size.0)) (u32_tells.again b at p n s.0 s.3 (places.here_first b at next s.0 s.1 k))
          ∙ goes_past (nat_lt (length b) (p + n)) (past (p + n)) (λ fine. item (take (p + n) b) p >>= full_at early (p + n)) (le-ltb (length b) (p + n) le)
          ∙ ap (λ r. r >>= full_at early (p + n)) filled
          ∙ goes_past (nat_lt next (p + n)) early (λ full. Ok made) (le-ltb next (p + n) (omega arith))

      here : (b : List ℕ) → IsBytes b → (at next : ℕ) (x : A) → at ≤ length b → sized_at past early item b at ≡ Ok (x, next) → (text : List ℕ) × Here b at text next × SpellsSized S x text
      here b fits at next x le e =
          let made : A × ℕ = (x, next) in
          let size = bind_ok (u32_at b at) (λ size. refuse_if (nat_lt (length b) (size.1 + size.0)) (past (size.1 + size.0)) >>= λ fine. item (take (size.1 + size.0) b) size.1 >>= full_at early (size.1 + size.0)) made e in
          let n = size.0.0 in
          let p = size.0.1 in
          let fine = not_refused (nat_lt (length b) (p + n)) (past (p + n)) (λ fine. item (take (p + n) b) p >>= full_at early (p + n)) made size.2 in
          let stop : p + n ≤ length b = ltb-false (length b) (p + n) fine.0 in
          let got = bind_ok (item (take (p + n) b) p) (full_at early (p + n)) made fine.1 in
          let all = not_refused (nat_lt got.0.1 (p + n)) early (λ full. Ok got.0) made got.2 in
          let h1 = u32_tells.here b fits at p n le size.1 in
          let is_size = region_size b (p + n) stop in
          let g = tells.here (take (p + n) b) (take_fits (p + n) b fits) p got.0.1 got.0.0 (omega arith) got.1 in
          let h2 = widen b (p + n) stop p got.0.1 g.0 g.1 in
          let past : p + n ≤ got.0.1 = ltb-false got.0.1 (p + n) all.0 in
          let whole : n ≡ length g.0 = omega (arith, h2.size, g.1.within) in
          subst (λ (q : A × ℕ). (text : List ℕ) × Here b at text q.1 × SpellsSized S q.0 text) (ok_is got.0 made all.1)
          (h1.0 ++ g.0, places.here_join b at p got.0.1 h1.0 g.0 h1.1 h2, (h1.0, g.0, refl, subst (SpellsUnsigned 32 h1.0) whole h1.2, g.2))

-- a reader whose item is seen by a function
pub mapped_ok : {A B : Type 0} (f : A → B) (r : Read A) (y : B) (next : ℕ) → mapped f r ≡ Ok (y, next) → (x : A) × (r ≡ Ok (x, next)) × (y ≡ f x)
mapped_ok {A} {B} f (Ok p) y next e =
    let made : B × ℕ = (f p.0, p.1) in
    let same = ok_is made (y, next) e in
    let place : p.1 ≡ next = ap (λ (q : B × ℕ). q.1) same in
    (p.0, ap (λ (n : ℕ). Ok (p.0, n)) place, sym (ap (λ (q : B × ℕ). q.0) same))
mapped_ok f (Err d) y next e = absurd cc
