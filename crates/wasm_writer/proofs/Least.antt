-- Texts that are a spelling wherever there is one, and as short as any: how they are put together.
use Rattle.std.proofs.Common.{◌≡◌, ℕ, zero, suc, ◌+◌, ◌<◌, ◌≤◌, ◌^◌, ℤ, Bool, true, false, cond, List, [], ◌∷◌, ◌++◌, length, refl, ap, subst, ◌∙◌, arith, length-append, zero-le, nat_lt}
use Rattle.std.proofs.lemmas.Bool.{ltb-true, ltb-false}
use Rattle.leb_bytes.specs.Spelling.{LastUnsigned, LastSigned, join_unsigned, join_signed, FitsBits, SpellsSigned}
use Rattle.leb_bytes.specs.Writing.{shortest, is_narrow_unsigned, low_unsigned, high_unsigned, is_narrow_signed, low_signed, high_signed, unsigned_text, signed_text}
use Rattle.leb_bytes.proofs.Shortest.{none_shorter}
use Rattle.leb_bytes.proofs.Sizes.{unsigned_fits, signed_fits}
use Rattle.leb_bytes.proofs.Splitting.{HasBits, unsigned_splits, signed_splits, unsigned_one, unsigned_spelled, signed_spelled}
use Rattle.wasm_types.specs.declared.instr.ValType.{ValType}
use Rattle.module_specs.specs.Spelling.{Then, SpellsByte, SpellsU32, SpellsEach, SpellsVector, SpellsSized, SpellsType, type_byte}
use Rattle.module_specs.specs.ModuleSpelling.{Behind}
use Rattle.wasm_writer.specs.Texts.{each_text, vector_text, sized_text, type_text}

-- where anything is a spelling, this is one, and nothing is shorter
pub record Least (P : List ℕ → Type 0) (text : List ℕ) : Type 0 where
  pub spelled : (other : List ℕ) → P other → P text
  pub unbeaten : (other : List ℕ) → P other → length text ≤ length other

pub then_least : (P Q : List ℕ → Type 0) (one two : List ℕ) → Least P one → Least Q two → Least (Then P Q) (one ++ two)
then_least P Q one two p q = record {
  spelled = λ other t. (one, two, refl, p.spelled t.0 t.3, q.spelled t.1 t.4);
  unbeaten = λ other t.
      let first : length one ≤ length t.0 = p.unbeaten t.0 t.3 in
      let second : length two ≤ length t.1 = q.unbeaten t.1 t.4 in
      let whole : length other ≡ length t.0 + length t.1 = ap length t.2 ∙ length-append t.0 t.1 in
      omega (arith, length-append one two);
}

pub behind_least : (byte : ℕ) (P : List ℕ → Type 0) (rest : List ℕ) → Least P rest → Least (Behind byte P) (byte ∷ rest)
behind_least byte P rest p = record {
  spelled = λ other t. (rest, refl, p.spelled t.0 t.2);
  unbeaten = λ other t.
      let behind : length rest ≤ length t.0 = p.unbeaten t.0 t.2 in
      let whole : length other ≡ length (byte ∷ t.0) = ap length t.1 in
      omega arith;
}

-- under a condition
pub where_least : (A : Type 0) (P : List ℕ → Type 0) (text : List ℕ) → Least P text → Least (λ t. A × P t) text
where_least A P text p = record {
  spelled = λ other t. (t.0, p.spelled other t.1);
  unbeaten = λ other t. p.unbeaten other t.1;
}

pub byte_least : (byte : ℕ) → Least (SpellsByte byte) (byte ∷ [])
byte_least byte = record {
  spelled = λ other e. refl;
  unbeaten = λ other e. let whole : length other ≡ length (byte ∷ []) = ap length e in omega arith;
}

pub type_least : (t : ValType) → Least (SpellsType t) (type_text t)
type_least t = byte_least (type_byte t)

pub u32_least : (n : ℕ) → Least (SpellsU32 n) (unsigned_text n)
u32_least n = record {
  spelled = λ other s. unsigned_spelled 32 n (omega arith) (omega arith) (unsigned_fits 32 n other s);
  unbeaten = λ other s. none_shorter LastUnsigned join_unsigned is_narrow_unsigned low_unsigned high_unsigned HasBits unsigned_splits 10 32 other n s;
}

pub zero_least : Least (SpellsU32 0) (0 ∷ [])
zero_least = subst (Least (SpellsU32 0)) (unsigned_one 0 (omega arith)) (u32_least 0)

pub signed_least : (w : ℕ) (z : ℤ) → 0 < w → w ≤ 64 → Least (λ t. SpellsSigned w t z) (signed_text z)
signed_least w z some most = record {
  spelled = λ other s. signed_spelled w z some most (signed_fits w z other s);
  unbeaten = λ other s. none_shorter LastSigned join_signed is_narrow_signed low_signed high_signed FitsBits signed_splits 10 w other z s;
}

pub nothing_least : Least (λ t. t ≡ []) []
nothing_least = record { spelled = λ other e. refl; unbeaten = λ other e. zero-le }

module _ {A : Type 0} (S : A → List ℕ → Type 0) (text : A → List ℕ) (item : (x : A) → Least (S x) (text x)) where
  pub each_least : (xs : List A) → Least (SpellsEach S xs) (each_text text xs)
  each_least [] = nothing_least
  each_least (x ∷ xs) = then_least (S x) (SpellsEach S xs) (text x) (each_text text xs) (item x) (each_least xs)

  pub vector_least : (xs : List A) → Least (SpellsVector S xs) (vector_text text xs)
  vector_least xs = then_least (SpellsU32 (length xs)) (SpellsEach S xs) (unsigned_text (length xs)) (each_text text xs) (u32_least (length xs)) (each_least xs)

-- ---- sizes

abbrev number : ℕ → ℕ → List ℕ
number = shortest is_narrow_unsigned low_unsigned high_unsigned

-- one step, by what the test says
abbrev step : Bool → ℕ → ℕ → List ℕ
step t most n = cond t (low_unsigned n ∷ []) ((128 + low_unsigned n) ∷ number most (high_unsigned n))

longer_step : (t u : Bool) (most a b : ℕ) → nat_lt a 128 ≡ t → nat_lt b 128 ≡ u → a ≤ b
    → (high_unsigned a ≤ high_unsigned b → length (number most (high_unsigned a)) ≤ length (number most (high_unsigned b)))
    → length (step t most a) ≤ length (step u most b)
longer_step true true most a b e f le ih = omega arith
longer_step true false most a b e f le ih = omega arith
longer_step false true most a b e f le ih = let large = ltb-false a 128 e in let small = ltb-true b 128 f in absurd (omega arith)
longer_step false false most a b e f le ih = let h = ih (omega arith) in omega arith

longer : (most a b : ℕ) → a ≤ b → length (number most a) ≤ length (number most b)
unfolding shortest
longer zero a b le = zero-le
longer (suc most) a b le = longer_step (nat_lt a 128) (nat_lt b 128) most a b refl refl le (longer most (high_unsigned a) (high_unsigned b))

-- a larger number takes no fewer bytes
pub number_longer : (a b : ℕ) → a ≤ b → length (unsigned_text a) ≤ length (unsigned_text b)
number_longer a b le = longer 10 a b le

pub sized_least : {A : Type 0} (S : A → List ℕ → Type 0) (x : A) (content : List ℕ) → Least (S x) content → Least (SpellsSized S x) (sized_text content)
sized_least S x content p = record {
  spelled = λ other t.
      let fewer : length content ≤ length t.1 = p.unbeaten t.1 t.4 in
      let fits : length t.1 < 2 ^ 32 = unsigned_fits 32 (length t.1) t.0 t.3 in
      (unsigned_text (length content), content, refl, unsigned_spelled 32 (length content) (omega arith) (omega arith) (omega arith), p.spelled t.1 t.4);
  unbeaten = λ other t.
      let fewer : length content ≤ length t.1 = p.unbeaten t.1 t.4 in
      let size : length (unsigned_text (length t.1)) ≤ length t.0 = (u32_least (length t.1)).unbeaten t.0 t.3 in
      let smaller : length (unsigned_text (length content)) ≤ length (unsigned_text (length t.1)) = number_longer (length content) (length t.1) fewer in
      let whole : length other ≡ length t.0 + length t.1 = ap length t.2 ∙ length-append t.0 t.1 in
      omega (arith, length-append (unsigned_text (length content)) content);
}

-- ---- vectors of bytes

each_byte : (bytes : List ℕ) → each_text (λ b. b ∷ []) bytes ≡ bytes
each_byte [] = refl
each_byte (b ∷ bytes) = ap (λ l. b ∷ l) (each_byte bytes)

pub bytes_least : (bytes : List ℕ) → Least (SpellsVector SpellsByte bytes) (sized_text bytes)
bytes_least bytes =
    subst (λ l. Least (SpellsVector SpellsByte bytes) (unsigned_text (length bytes) ++ l)) (each_byte bytes) (vector_least SpellsByte (λ b. b ∷ []) byte_least bytes)
