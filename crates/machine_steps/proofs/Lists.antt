-- Stacks read from below.
use Rattle.std.proofs.Common.{◌≡◌, ℕ, zero, suc, ◌+◌, ◌-◌, List, [], ◌∷◌, ◌++◌, length, Some, refl, sym, ap, ◌∙◌, arith, append_assoc, length-append}
use Rattle.std.specs.Prelude.{slice_get, slice_set, reverse, replicate, map}
use Rattle.std.proofs.lemmas.List.{drop_at, reverse-append, reverse-reverse, length-reverse, map-append, replicate_more}
use Rattle.wasm_types.specs.declared.instr.ValType.{ValType}
use Rattle.code_specs.specs.Values.{Value, zero_of, bits_of, all_bits}
use Rattle.machine_steps.specs.Steps.{cut}

get_past : {A : Type 0} (xs ys : List A) (n i : ℕ) → n ≡ length xs + i → slice_get (xs ++ ys) n ≡ slice_get ys i
get_past [] ys n i e = ap (slice_get ys) (let e' : n ≡ i = omega arith in e')
get_past (x ∷ xs) ys zero i e = absurd (omega arith)
get_past (x ∷ xs) ys (suc n) i e = get_past xs ys n i (omega arith)

pub get_front : {A : Type 0} (xs ys : List A) (i : ℕ) (x : A) → slice_get xs i ≡ Some x → slice_get (xs ++ ys) i ≡ Some x
get_front [] ys i x e = cc
get_front (y ∷ xs) ys zero x e = e
get_front (y ∷ xs) ys (suc i) x e = get_front xs ys i x e

set_front : {A : Type 0} (xs ys : List A) (i : ℕ) (x y : A) → slice_get xs i ≡ Some y → slice_set (xs ++ ys) i x ≡ slice_set xs i x ++ ys
set_front [] ys i x y e = cc
set_front (z ∷ xs) ys zero x y e = refl
set_front (z ∷ xs) ys (suc i) x y e = ap (λ l. z ∷ l) (set_front xs ys i x y e)

set_past : {A : Type 0} (xs ys : List A) (n i : ℕ) (x : A) → n ≡ length xs + i → slice_set (xs ++ ys) n x ≡ xs ++ slice_set ys i x
set_past [] ys n i x e = ap (λ k. slice_set ys k x) (let e' : n ≡ i = omega arith in e')
set_past (z ∷ xs) ys zero i x e = absurd (omega arith)
set_past (z ∷ xs) ys (suc n) i x e = ap (λ l. z ∷ l) (set_past xs ys n i x (omega arith))

pub cut_at : (xs ys : List ℕ) (h : ℕ) → h ≡ length ys → cut h (xs ++ ys) ≡ ys
cut_at xs ys h e =
    let n : length xs ≡ length (xs ++ ys) - h = omega (arith, length-append xs ys) in
    drop_at xs ys (length (xs ++ ys) - h) n

pub map_reverse : {A B : Type 0} (f : A → B) (xs : List A) → map f (reverse xs) ≡ reverse (map f xs)
map_reverse f [] = refl
map_reverse f (x ∷ xs) =
    ap (map f) (reverse-append (x ∷ []) xs)
    ∙ map-append f (reverse xs) (x ∷ [])
    ∙ ap (λ l. l ++ f x ∷ []) (map_reverse f xs)
    ∙ sym (reverse-append (f x ∷ []) (map f xs))

pub map_set : {A B : Type 0} (f : A → B) (xs : List A) (i : ℕ) (x : A) → map f (slice_set xs i x) ≡ slice_set (map f xs) i (f x)
map_set f [] i x = refl
map_set f (y ∷ xs) zero x = refl
map_set f (y ∷ xs) (suc i) x = ap (λ l. f y ∷ l) (map_set f xs i x)

pub map_get : {A B : Type 0} (f : A → B) (xs : List A) (i : ℕ) (x : A) → slice_get xs i ≡ Some x → slice_get (map f xs) i ≡ Some (f x)
map_get f [] i x e = cc
map_get f (y ∷ xs) zero x e = let e' : y ≡ x = cc in ap (λ z. Some (f z)) e'
map_get f (y ∷ xs) (suc i) x e = map_get f xs i x e

-- ---- a frame: its locals over what is below, and its operands over them

rev_stack : (ops u l below : List ℕ) → reverse (ops ++ (u ++ (reverse l ++ below))) ≡ reverse below ++ (l ++ (reverse u ++ reverse ops))
rev_stack ops u l below = simp (reverse-append, reverse-reverse, append_assoc)

pub local_at : (ops u l below : List ℕ) (base i x : ℕ) → base ≡ length below → slice_get l i ≡ Some x
    → slice_get (reverse (ops ++ (u ++ (reverse l ++ below)))) (base + i) ≡ Some x
local_at ops u l below base i x e h =
    let at : base + i ≡ length (reverse below) + i = omega (arith, length-reverse below) in
    ap (λ s. slice_get s (base + i)) (rev_stack ops u l below)
    ∙ get_past (reverse below) (l ++ (reverse u ++ reverse ops)) (base + i) i at
    ∙ get_front l (reverse u ++ reverse ops) i x h

pub local_set : (ops u l below : List ℕ) (base i x y : ℕ) → base ≡ length below → slice_get l i ≡ Some y
    → reverse (slice_set (reverse (ops ++ (u ++ (reverse l ++ below)))) (base + i) x) ≡ ops ++ (u ++ (reverse (slice_set l i x) ++ below))
local_set ops u l below base i x y e h =
    let at : base + i ≡ length (reverse below) + i = omega (arith, length-reverse below) in
    let wrote =
    ap (λ s. slice_set s (base + i) x) (rev_stack ops u l below)
    ∙ set_past (reverse below) (l ++ (reverse u ++ reverse ops)) (base + i) i x at
    ∙ ap (λ s. reverse below ++ s) (set_front l (reverse u ++ reverse ops) i x y h)
    ∙ sym (rev_stack ops u (slice_set l i x) below) in
    ap reverse wrote ∙ reverse-reverse (ops ++ (u ++ (reverse (slice_set l i x) ++ below)))

bits_zeros : (ts : List ValType) → all_bits (map zero_of ts) ≡ replicate (length ts) 0
bits_zeros [] = refl
bits_zeros (t ∷ ts) = ap (λ (l : List ℕ). 0 ∷ l) (bits_zeros ts)

reverse_zeros : (n : ℕ) → reverse {A = ℕ} (replicate n 0) ≡ replicate n 0
reverse_zeros zero = refl
reverse_zeros (suc n) =
    reverse-append {A = ℕ} (0 ∷ []) (replicate n 0)
    ∙ ap (λ (xs : List ℕ). xs ++ 0 ∷ []) (reverse_zeros n)
    ∙ replicate_more {X = ℕ} n 0
    ∙ ap (λ k. replicate {A = ℕ} k 0) (let e : n + 1 ≡ suc n = omega arith in e)

-- the bits of a function's locals, the last one first
pub new_locals : (arguments : List Value) (others : List ValType)
    → reverse (all_bits (reverse arguments ++ map zero_of others)) ≡ replicate (length others) 0 ++ all_bits arguments
new_locals arguments others =
    ap reverse (map-append bits_of (reverse arguments) (map zero_of others))
    ∙ reverse-append (all_bits (reverse arguments)) (all_bits (map zero_of others))
    ∙ ap (λ xs. xs ++ reverse (all_bits (reverse arguments))) (ap reverse (bits_zeros others) ∙ reverse_zeros (length others))
    ∙ ap (λ xs. replicate (length others) 0 ++ xs) (ap reverse (map_reverse bits_of arguments) ∙ reverse-reverse (all_bits arguments))
