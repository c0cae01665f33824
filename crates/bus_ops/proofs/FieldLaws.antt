-- Fields: what is taken from bytes is spelled by them, and what is spelled is taken again.
use Rattle.std.proofs.Common.{◌≡◌, ℕ, zero, suc, ◌+◌, ◌^◌, ◌<◌, ◌≤◌, Bool, true, false, cond, eqb, List, [], ◌∷◌, ◌++◌, length, get_or, take, drop, Option, Some, None, refl, sym, ap, subst, inl, inr, ◌∙◌, arith}
use Rattle.std.specs.Prelude.{option_map}
use Rattle.std.specs.Int.{w16, w32, from_le_bytes, to_le_bytes}
use Rattle.std.proofs.lemmas.Bool.{cases_lt, eqb-true, eq-eqb}
use Rattle.std.proofs.lemmas.List.{nil_from_length, append-nil, get_or-take, get_or-drop, get_or_past, length-take}
use Rattle.std.proofs.lemmas.Nat.{le_bytes_2, le_bytes_4, from_le_bytes-to_le_bytes_2, from_le_bytes-to_le_bytes_4}
use Rattle.operation_specs.specs.Spelling.{flag, counted}
use Rattle.bus_ops.specs.Fields.{◌>>=◌, number_at, lone_number, counted_at, flag_at, part_at}

abbrev pub IsBytes : List ℕ → Type 0
IsBytes bytes = (i : ℕ) → get_or bytes i 0 < 256

pub IsBytes-take : (n : ℕ) (bytes : List ℕ) → IsBytes bytes → IsBytes (take n bytes)
IsBytes-take n bytes h i =
    elim (cases_lt i n) [
      | inl lt ↦ rw (get_or-take n bytes i 0 lt) (h i)
      | inr le ↦ rw (get_or_past (take n bytes) i 0 (omega (arith, length-take n bytes))) (omega arith)
    ]

pub IsBytes-drop : (n : ℕ) (bytes : List ℕ) → IsBytes bytes → IsBytes (drop n bytes)
IsBytes-drop n bytes h i = rw get_or-drop (h (n + i))

-- ---- options

abbrev pub some : {A : Type 0} → A → Option A
some x = Some x

pub some_is : {A : Type 0} (x y : A) → some x ≡ some y → x ≡ y
some_is x y e = cc

pub bind_some : {A B : Type 0} (o : Option A) (f : A → Option B) (y : B) → (o >>= f) ≡ Some y → (x : A) × (o ≡ Some x) × (f x ≡ Some y)
bind_some (Some x) f y e = (x, refl, e)
bind_some None f y e = absurd cc

pub bind_at : {A B : Type 0} (o : Option A) (x : A) (f : A → Option B) → o ≡ Some x → (o >>= f) ≡ f x
bind_at o x f e = ap (λ v. v >>= f) e

pub map_some : {A B : Type 0} (f : A → B) (o : Option A) (y : B) → option_map f o ≡ Some y → (x : A) × (o ≡ Some x) × (f x ≡ y)
map_some f (Some x) y e = (x, refl, some_is (f x) y e)
map_some f None y e = absurd cc

pub guard_some : {A : Type 0} (b : Bool) (x y : A) → cond b (Some x) None ≡ Some y → (b ≡ true) × (x ≡ y)
guard_some true x y e = (refl, some_is x y e)
guard_some false x y e = absurd cc

-- one of two
pub pick : {A : Type 0} (b : Bool) (x y : Option A) (z : A) (P : Type 0) → cond b x y ≡ Some z → (b ≡ true → x ≡ Some z → P) → (b ≡ false → y ≡ Some z → P) → P
pick true x y z P e f g = f refl e
pick false x y z P e f g = g refl e

-- ---- numbers

four : (a b c d : ℕ) (rest : List ℕ) → IsBytes (a ∷ b ∷ c ∷ d ∷ rest) → IsBytes (a ∷ b ∷ c ∷ d ∷ [])
four a b c d rest fits zero = fits 0
four a b c d rest fits (suc zero) = fits 1
four a b c d rest fits (suc (suc zero)) = fits 2
four a b c d rest fits (suc (suc (suc zero))) = fits 3
four a b c d rest fits (suc (suc (suc (suc i)))) = omega arith

two : (a b : ℕ) (rest : List ℕ) → IsBytes (a ∷ b ∷ rest) → IsBytes (a ∷ b ∷ [])
two a b rest fits zero = fits 0
two a b rest fits (suc zero) = fits 1
two a b rest fits (suc (suc i)) = omega arith

-- a number at the front of these bytes
pub record Begins (bytes : List ℕ) (n : ℕ) (rest : List ℕ) : Type 0 where
  pub parts : to_le_bytes w32 n ++ rest ≡ bytes
  pub below : n < 2 ^ 32
  pub fits : IsBytes rest

number_begins : (a b c d : ℕ) (rest : List ℕ) → IsBytes (a ∷ b ∷ c ∷ d ∷ rest) → Begins (a ∷ b ∷ c ∷ d ∷ rest) (from_le_bytes w32 (a ∷ b ∷ c ∷ d ∷ [])) rest
number_begins a b c d rest fits =
    let front = a ∷ b ∷ c ∷ d ∷ [] in
    record {
      parts = ap (λ (t : List ℕ). t ++ rest) (le_bytes_4 front (from_le_bytes w32 front) refl (four a b c d rest fits) refl);
      below = omega (arith, fits 0, fits 1, fits 2, fits 3);
      fits = λ i. fits (suc (suc (suc (suc i))));
    }

pub number_takes : (bytes : List ℕ) (n : ℕ) (rest : List ℕ) → IsBytes bytes → number_at bytes ≡ Some (n, rest) → Begins bytes n rest
number_takes [] n rest fits e = absurd cc
number_takes (a ∷ []) n rest fits e = absurd cc
number_takes (a ∷ b ∷ []) n rest fits e = absurd cc
number_takes (a ∷ b ∷ c ∷ []) n rest fits e = absurd cc
number_takes (a ∷ b ∷ c ∷ d ∷ behind) n rest fits e =
    subst (λ (x : ℕ × List ℕ). Begins (a ∷ b ∷ c ∷ d ∷ behind) x.0 x.1) (some_is (from_le_bytes w32 (a ∷ b ∷ c ∷ d ∷ []), behind) (n, rest) e) (number_begins a b c d behind fits)

pub number_again : (n : ℕ) (rest : List ℕ) → n < 2 ^ 32 → number_at (to_le_bytes w32 n ++ rest) ≡ Some (n, rest)
number_again n rest lt = ap (λ (k : ℕ). Some (k, rest)) (from_le_bytes-to_le_bytes_4 n lt)

pub lone_takes : (bytes : List ℕ) (n : ℕ) → IsBytes bytes → lone_number bytes ≡ Some n → (to_le_bytes w32 n ≡ bytes) × (n < 2 ^ 32)
unfolding lone_number
lone_takes bytes n fits e =
    let b = bind_some (number_at bytes) (λ m. cond (eqb (length m.1) 0) (Some m.0) None) n e in
    let t = number_takes bytes b.0.0 b.0.1 fits b.1 in
    let g = guard_some (eqb (length b.0.1) 0) b.0.0 n b.2 in
    let none : b.0.1 ≡ [] = nil_from_length b.0.1 (eqb-true _ _ g.0) in
    rw (← g.1) (sym (append-nil (to_le_bytes w32 b.0.0)) ∙ ap (λ (r : List ℕ). to_le_bytes w32 b.0.0 ++ r) (sym none) ∙ t.parts, t.below)

pub lone_again : (n : ℕ) → n < 2 ^ 32 → lone_number (to_le_bytes w32 n) ≡ Some n
unfolding lone_number
lone_again n lt = ap (λ (k : ℕ). Some k) (from_le_bytes-to_le_bytes_4 n lt)

-- ---- counted bytes

pub counted_takes : (bytes held : List ℕ) → IsBytes bytes → counted_at bytes ≡ Some held → (counted held ≡ bytes) × (length held ≤ 65535)
counted_takes [] held fits e = absurd cc
counted_takes (a ∷ []) held fits e = absurd cc
counted_takes (a ∷ b ∷ rest) held fits e =
    let front = a ∷ b ∷ [] in
    let g = guard_some (eqb (length rest) (from_le_bytes w16 front)) rest held e in
    let n : length rest ≡ from_le_bytes w16 front = eqb-true _ _ g.0 in
    let s = le_bytes_2 front (length rest) refl (two a b rest fits) n in
    subst (λ (h : List ℕ). (counted h ≡ a ∷ b ∷ rest) × (length h ≤ 65535)) g.1 (ap (λ (t : List ℕ). t ++ rest) s, omega (arith, fits 0, fits 1))

pub counted_again : (bytes : List ℕ) → length bytes ≤ 65535 → counted_at (counted bytes) ≡ Some bytes
counted_again bytes le =
    let e = from_le_bytes-to_le_bytes_2 (length bytes) (omega arith) in
    let t : eqb (length bytes) (from_le_bytes w16 (to_le_bytes w16 (length bytes))) ≡ true = eq-eqb _ _ (sym e) in
    rw t refl

-- ---- flags

pub flag_takes : (byte : ℕ) (x : Bool) → flag_at byte ≡ Some x → flag x ≡ byte
flag_takes byte x e =
    pick (eqb byte 0) (Some false) (cond (eqb byte 1) (Some true) None) x (flag x ≡ byte) e
    (λ t h. ap flag (sym (some_is false x h)) ∙ sym (eqb-true byte 0 t))
    (λ t h. let g = guard_some (eqb byte 1) true x h in ap flag (sym g.1) ∙ sym (eqb-true byte 1 g.0))

pub flag_again : (x : Bool) → flag_at (flag x) ≡ Some x
flag_again true = refl
flag_again false = refl

pub part_takes : (byte : ℕ) (x : Bool) → part_at byte ≡ Some x → cond x 1 2 ≡ byte
part_takes byte x e =
    let part : Bool → ℕ = λ v. cond v 1 2 in
    pick (eqb byte 1) (Some true) (cond (eqb byte 2) (Some false) None) x (part x ≡ byte) e
    (λ t h. ap part (sym (some_is true x h)) ∙ sym (eqb-true byte 1 t))
    (λ t h. let g = guard_some (eqb byte 2) false x h in ap part (sym g.1) ∙ sym (eqb-true byte 2 g.0))

pub part_again : (x : Bool) → part_at (cond x 1 2) ≡ Some x
part_again true = refl
part_again false = refl
