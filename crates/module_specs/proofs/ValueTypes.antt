-- Value types and block types: what is spelled is read, and what is read is spelled.
use Rattle.std.proofs.Common.{◌≡◌, ℕ, ◌+◌, ◌≤◌, Bool, true, false, cond, List, [], ◌∷◌, length, Option, Some, None, Ok, Err, refl, sym, ap, subst, ◌∙◌, arith, inl, inr, eqb}
use Rattle.std.specs.Prelude.{◌⊎◌}
use Rattle.std.proofs.lemmas.Bool.{eqb-true}
use Rattle.leb_bytes.proofs.Spelled.{IsBytes}
use Rattle.wasm_types.specs.declared.instr.ValType.{ValType}
use Rattle.wasm_types.specs.declared.instr.ValType.TheVariants.{I32, I64}
use Rattle.module_specs.specs.declared.fault.Fault.{Fault}
use Rattle.module_specs.specs.declared.fault.Fault.TheVariants.{Float, Form}
use Rattle.module_specs.specs.Spelling.{Here, type_byte, block_byte, SpellsType}
use Rattle.module_specs.specs.Reading.{Read, ◌>>=◌, mapped, byte_at, type_of, type_at, block_type_of, block_type_at}
use Rattle.module_specs.proofs.Places.{bind_ok, ok_is, same_text, byte_again, byte_here}
use Rattle.module_specs.proofs.Readers.{Tells, mapped_ok}

-- one line of a table
pub chosen : {A : Type 0} (t : Bool) (x y z : A) → cond t x y ≡ z → ((t ≡ true) × (x ≡ z)) ⊎ (y ≡ z)
chosen true x y z e = inl (refl, e)
chosen false x y z e = inr e

module _ (b : List ℕ) where
  block_type_is : (at next : ℕ) (r : Option ValType) → block_type_of at next (block_byte r) ≡ Ok (r, next)
  block_type_is at next None = refl
  block_type_is at next (Some I32) = refl
  block_type_is at next (Some I64) = refl

  pub block_again : (at next : ℕ) (r : Option ValType) (text : List ℕ) → Here b at (block_byte r ∷ text) next → block_type_at b at ≡ Ok (r, at + 1)
  unfolding block_type_at
  block_again at next r text h = ap (λ x. x >>= λ byte. block_type_of at byte.1 byte.0) (byte_again b at next (block_byte r) text h) ∙ block_type_is at (at + 1) r

  type_is : (at next : ℕ) (t : ValType) → type_of at next (type_byte t) ≡ Ok (t, next)
  type_is at next I32 = refl
  type_is at next I64 = refl

  pub type_again : (at next : ℕ) (t : ValType) (text : List ℕ) → Here b at (type_byte t ∷ text) next → type_at b at ≡ Ok (t, at + 1)
  unfolding type_at
  type_again at next t text h = ap (λ x. x >>= λ byte. type_of at byte.1 byte.0) (byte_again b at next (type_byte t) text h) ∙ type_is at (at + 1) t

abbrev faulty : {A : Type 0} → Fault → Read A
faulty e = Err e

abbrev typed : ValType × ℕ → Read ValType
typed p = Ok p

type_line : (byte n : ℕ) (t u : ValType) (next k : ℕ) (other : Read ValType) → n ≡ type_byte u → cond (eqb byte n) (typed (u, next)) other ≡ Ok (t, k)
    → ((byte ≡ type_byte t) × (next ≡ k)) ⊎ (other ≡ Ok (t, k))
type_line byte n t u next k other is e =
    elim (chosen (eqb byte n) (typed (u, next)) other (Ok (t, k)) e) [
      | inl x ↦
          let same = ok_is (u, next) (t, k) x.1 in
          inl (eqb-true byte n x.0 ∙ is ∙ ap (λ (p : ValType × ℕ). type_byte p.0) same, ap (λ (p : ValType × ℕ). p.1) same)
      | inr x ↦ inr x
    ]

no_type : (byte at k : ℕ) (t : ValType) → cond (eqb byte 0x7D) (faulty (Float at)) (cond (eqb byte 0x7C) (Err (Float at)) (Err (Form at))) ≡ typed (t, k) → ⊥
no_type byte at k t e = by_tests (eqb byte 0x7D) (eqb byte 0x7C) e
  where
    by_tests : (x y : Bool) → cond x (faulty (Float at)) (cond y (Err (Float at)) (Err (Form at))) ≡ typed (t, k) → ⊥
    by_tests true y e = cc
    by_tests false true e = cc
    by_tests false false e = cc

type_found : (at next byte k : ℕ) (t : ValType) → type_of at next byte ≡ Ok (t, k) → (byte ≡ type_byte t) × (next ≡ k)
type_found at next byte k t e =
    elim (type_line byte 0x7F t I32 next k _ refl e) [
      | inl x ↦ x
      | inr y ↦ elim (type_line byte 0x7E t I64 next k _ refl y) [
        | inl x ↦ x
        | inr z ↦ absurd (no_type byte at k t z)
      ]
    ]

block_type_found : (at next byte k : ℕ) (r : Option ValType) → block_type_of at next byte ≡ Ok (r, k) → (byte ≡ block_byte r) × (next ≡ k)
block_type_found at next byte k r e =
    let none : Option ValType × ℕ = (None, next) in
    elim (chosen (eqb byte 0x40) (Ok none) (mapped (λ t. Some t) (type_of at next byte)) (Ok (r, k)) e) [
      | inl x ↦
          let same = ok_is none (r, k) x.1 in
          (eqb-true byte 0x40 x.0 ∙ ap (λ (p : Option ValType × ℕ). block_byte p.0) same, ap (λ (p : Option ValType × ℕ). p.1) same)
      | inr x ↦
          let s = mapped_ok (λ t. Some t) (type_of at next byte) r k x in
          let f = type_found at next byte k s.0 s.1 in
          (f.0 ∙ ap block_byte (sym s.2), f.1)
    ]

module _ (b : List ℕ) where
  pub block_here : (at next : ℕ) (r : Option ValType) → block_type_at b at ≡ Ok (r, next) → Here b at (block_byte r ∷ []) next
  unfolding block_type_at
  block_here at next r e =
      let x = bind_ok (byte_at b at) (λ byte. block_type_of at byte.1 byte.0) (r, next) e in
      let f = block_type_found at x.0.1 x.0.0 next r x.2 in
      subst (λ n. Here b at (block_byte r ∷ []) n) f.1 (subst (λ (n : ℕ). Here b at (n ∷ []) x.0.1) f.0 (byte_here b at x.0.1 x.0.0 x.1))

  pub type_here : (at next : ℕ) (t : ValType) → type_at b at ≡ Ok (t, next) → Here b at (type_byte t ∷ []) next
  unfolding type_at
  type_here at next t e =
      let x = bind_ok (byte_at b at) (λ byte. type_of at byte.1 byte.0) (t, next) e in
      let f = type_found at x.0.1 x.0.0 next t x.2 in
      subst (λ n. Here b at (type_byte t ∷ []) n) f.1 (subst (λ (n : ℕ). Here b at (n ∷ []) x.0.1) f.0 (byte_here b at x.0.1 x.0.0 x.1))

pub type_tells : Tells SpellsType type_at
type_tells = record { again = again; here = here }
  where
    again : (b : List ℕ) (at next : ℕ) (t : ValType) (text : List ℕ) → SpellsType t text → Here b at text next → type_at b at ≡ Ok (t, next)
    again b at next t text s h =
        let k = same_text b at next text (type_byte t ∷ []) s h in
        let n : at + 1 ≡ next = omega (arith, k.size) in
        type_again b at next t [] k ∙ ap (λ n. Ok (t, n)) n

    here : (b : List ℕ) → IsBytes b → (at next : ℕ) (t : ValType) → at ≤ length b → type_at b at ≡ Ok (t, next) → (text : List ℕ) × Here b at text next × SpellsType t text
    here b fits at next t le e = (type_byte t ∷ [], type_here b at next t e, refl)
