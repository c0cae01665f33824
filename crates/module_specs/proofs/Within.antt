-- Readers go on in their region, and their faults lie there: for each notion of the faults that a region may have.
use Rattle.std.proofs.Common.{◌≡◌, ℕ, zero, suc, ◌+◌, ◌-◌, ◌≤◌, ◌<◌, Bool, true, false, not, eqb, cond, List, [], ◌∷◌, length, get_or, take, drop, Some, None, Result, Ok, Err, refl, arith}
use Rattle.std.specs.Prelude.{nat_lt, nat_le}
use Rattle.std.proofs.lemmas.Bool.{ltb-true, ltb-false}
use Rattle.std.proofs.lemmas.List.{length-drop}
use Rattle.leb_bytes.specs.declared.error.LebError.{LebError}
use Rattle.leb_bytes.specs.declared.error.LebError.TheVariants as leb
use Rattle.leb_bytes.specs.Spelling.{join_unsigned, join_signed}
use Rattle.leb_bytes.specs.Reading.{then_rest, under, number_at, unsigned_at, signed_at, last_unsigned, last_signed}
use Rattle.wasm_types.specs.declared.instr.ValType.TheVariants.{I32, I64}
use Rattle.module_specs.specs.declared.fault.Fault.{Fault}
use Rattle.module_specs.specs.declared.fault.Fault.TheVariants.{Short, Number, Float, Form, Opcode}
use Rattle.module_specs.specs.Reading.{Read, ◌>>=◌, refuse_if, mapped, byte_at, placed, u32_at, s32_at, s64_at, zero_at, each_at, vector_at, sized_at, type_of, type_at, block_type_of, block_type_at}
use Rattle.module_specs.proofs.Regions.{region_size}
use Rattle.module_specs.proofs.Readers.{cons_read, full_at}

-- The faults that a region with this end may have are those of any longer one, and have what single items give.
pub record Allows (P : ℕ → Fault → Type 0) : Type 0 where
  pub grows : (m n : ℕ) (e : Fault) → m ≤ n → P m e → P n e
  pub short : (n : ℕ) → P n (Short n)
  pub number : (n at : ℕ) → at ≤ n → P n (Number at)
  pub float : (n at : ℕ) → at ≤ n → P n (Float at)
  pub form : (n at : ℕ) → at ≤ n → P n (Form at)
  pub opcode : (n at byte : ℕ) → at ≤ n → P n (Opcode at byte)

-- a number takes bytes from the front of what is there
abbrev Shrinks : {A : Type 0} → List ℕ → Result (A × List ℕ) LebError → Type 0
Shrinks l (Ok p) = length p.1 ≤ length l
Shrinks l (Err e) = Unit {0}

number_shrinks : {A : Type 0} (last : ℕ → ℕ → Result A LebError) (join : ℕ → A → A) (width : ℕ) (l : List ℕ) → Shrinks l (number_at last join width l)
number_shrinks last join width [] = tt
number_shrinks {A} last join width (b ∷ bs) =
    by_tests (nat_lt b 128) (nat_le width 7) (last width b) (number_at last join (width - 7) bs) (number_shrinks last join (width - 7) bs)
  where
    by_tests : (t u : Bool) (r : Result A LebError) (high : Result (A × List ℕ) LebError) → Shrinks bs high
        → Shrinks (b ∷ bs) (cond t (then_rest bs r) (cond u (Err leb.Long) (under (join (b - 128)) high)))
    by_tests true u (Ok n) high s = omega arith
    by_tests true u (Err e) high s = tt
    by_tests false true r high s = tt
    by_tests false false r (Ok p) s = omega arith
    by_tests false false r (Err e) s = tt

module _ (P : ℕ → Fault → Type 0) where
  -- from a place on, what was read ends in the region, or the fault is one that it may have
  abbrev pub Fine : {A : Type 0} → List ℕ → ℕ → Read A → Type 0
  Fine b at (Ok x) = (at ≤ x.1) × (x.1 ≤ length b)
  Fine b at (Err e) = P (length b) e

  abbrev pub Stays : {A : Type 0} → (List ℕ → ℕ → Read A) → Type 0
  Stays read = (b : List ℕ) (at : ℕ) → at ≤ length b → Fine b at (read b at)

  module _ (b : List ℕ) (at : ℕ) where
    pub earlier : {A : Type 0} (r : Read A) (mid : ℕ) → at ≤ mid → Fine b mid r → Fine b at r
    earlier (Ok x) mid le f = (omega (arith, f.0), f.1)
    earlier (Err e) mid le f = f

    pub then : {A B : Type 0} (r : Read A) (f : A × ℕ → Read B) → Fine b at r → ((x : A × ℕ) → at ≤ x.1 → x.1 ≤ length b → Fine b at (f x)) → Fine b at (r >>= f)
    then (Ok x) f h k = k x h.0 h.1
    then (Err e) f h k = h

    pub unless : {A : Type 0} (t : Bool) (e : Fault) (f : Unit {0} → Read A) → P (length b) e → (t ≡ false → Fine b at (f tt)) → Fine b at (refuse_if t e >>= f)
    unless true e f h k = h
    unless false e f h k = k refl

    pub seen : {A B : Type 0} (f : A → B) (r : Read A) → Fine b at r → Fine b at (mapped f r)
    seen f (Ok x) h = h
    seen f (Err e) h = h

  module _ (allows : Allows P) where
    pub byte_stays : Stays byte_at
    unfolding byte_at
    byte_stays b at le = by_test (nat_lt at (length b)) (λ e. ltb-true at (length b) e)
      where
        by_test : (t : Bool) → (t ≡ true → at < length b) → Fine b at (let p : ℕ × ℕ = (get_or b at 0, at + 1) in let r : Read ℕ = cond t (Ok p) (Err (Short (length b))) in r)
        by_test true lt = let h : at < length b = lt refl in (omega arith, omega arith)
        by_test false lt = allows.short (length b)

    placed_fine : {A : Type 0} (b : List ℕ) (at : ℕ) (r : Result (A × List ℕ) LebError) → at ≤ length b → Shrinks (drop at b) r → Fine b at (placed b at r)
    placed_fine b at (Ok p) le s = (omega (arith, s, length-drop at b), omega arith)
    placed_fine b at (Err leb.Short) le s = allows.short (length b)
    placed_fine b at (Err leb.Long) le s = allows.number (length b) at le
    placed_fine b at (Err leb.Bits) le s = allows.number (length b) at le

    pub u32_stays : Stays u32_at
    unfolding u32_at
    u32_stays b at le = placed_fine b at (unsigned_at 32 (drop at b)) le (number_shrinks last_unsigned join_unsigned 32 (drop at b))

    pub s32_stays : Stays s32_at
    unfolding s32_at
    s32_stays b at le = placed_fine b at (signed_at 32 (drop at b)) le (number_shrinks last_signed join_signed 32 (drop at b))

    pub s64_stays : Stays s64_at
    unfolding s64_at
    s64_stays b at le = placed_fine b at (signed_at 64 (drop at b)) le (number_shrinks last_signed join_signed 64 (drop at b))

    -- what follows a byte 00
    pub zero_then : {A : Type 0} (b : List ℕ) (at : ℕ) (f : ℕ → Read A) → at ≤ length b
        → ((next : ℕ) → at ≤ next → next ≤ length b → Fine b at (f next)) → Fine b at (zero_at b at >>= f)
    unfolding zero_at
    zero_then {A} b at f le k = by_byte (byte_at b at) (byte_stays b at le)
      where
        by_byte : (r : Read ℕ) → Fine b at r → Fine b at (r >>= (λ byte. refuse_if (not (eqb byte.0 0)) (Opcode at byte.0) >>= λ fine. Ok byte.1) >>= f)
        by_byte (Err e) h = h
        by_byte (Ok x) h = by_test (not (eqb x.0 0))
          where
            by_test : (t : Bool) → Fine b at (refuse_if t (Opcode at x.0) >>= (λ fine. Ok x.1) >>= f)
            by_test true = allows.opcode (length b) at x.0 le
            by_test false = k x.1 h.0 h.1

    type_of_fine : (b : List ℕ) (at next byte : ℕ) → at ≤ next → next ≤ length b → Fine b at (type_of at next byte)
    type_of_fine b at next byte le within = by_tests (eqb byte 0x7F) (eqb byte 0x7E) (eqb byte 0x7D) (eqb byte 0x7C)
      where
        by_tests : (p q r t : Bool) → Fine b at (cond p (Ok (I32, next)) (cond q (Ok (I64, next)) (cond r (Err (Float at)) (cond t (Err (Float at)) (Err (Form at))))))
        by_tests true q r t = (le, within)
        by_tests false true r t = (le, within)
        by_tests false false true t = allows.float (length b) at (omega arith)
        by_tests false false false true = allows.float (length b) at (omega arith)
        by_tests false false false false = allows.form (length b) at (omega arith)

    pub type_stays : Stays type_at
    unfolding type_at
    type_stays b at le = then b at (byte_at b at) (λ byte. type_of at byte.1 byte.0) (byte_stays b at le) (λ x more within. type_of_fine b at x.1 x.0 more within)

    block_type_of_fine : (b : List ℕ) (at next byte : ℕ) → at ≤ next → next ≤ length b → Fine b at (block_type_of at next byte)
    block_type_of_fine b at next byte le within = by_test (eqb byte 0x40)
      where
        by_test : (t : Bool) → Fine b at (cond t (Ok (None, next)) (mapped (λ t. Some t) (type_of at next byte)))
        by_test true = (le, within)
        by_test false = seen b at (λ t. Some t) (type_of at next byte) (type_of_fine b at next byte le within)

    pub block_type_stays : Stays block_type_at
    unfolding block_type_at
    block_type_stays b at le = then b at (byte_at b at) (λ byte. block_type_of at byte.1 byte.0) (byte_stays b at le) (λ x more within. block_type_of_fine b at x.1 x.0 more within)

    module _ {A : Type 0} (item : List ℕ → ℕ → Read A) (stays : Stays item) where
      each_stays : (n : ℕ) (b : List ℕ) (at : ℕ) → at ≤ length b → Fine b at (each_at item b n at)
      unfolding each_at
      each_stays zero b at le = (omega arith, le)
      each_stays (suc n) b at le =
          then b at (item b at) (λ x. each_at item b n x.1 >>= cons_read x.0) (stays b at le)
          (λ x more within. then b at (each_at item b n x.1) (cons_read x.0) (earlier b at (each_at item b n x.1) x.1 more (each_stays n b x.1 within)) (λ xs from to. (from, to)))

      pub vector_stays : Stays (vector_at item)
      unfolding vector_at
      vector_stays b at le =
          then b at (u32_at b at) (λ count. each_at item b count.0 count.1) (u32_stays b at le)
          (λ x more within. earlier b at (each_at item b x.0 x.1) x.1 more (each_stays x.0 b x.1 within))

    -- content in a region of its own, from its size on
    pub sized_fine : {A : Type 0} (past : ℕ → Fault) (early : Fault) (content : List ℕ → ℕ → Read A) (b : List ℕ) (at : ℕ) → at ≤ length b
        → ((stop : ℕ) → length b < stop → P (length b) (past stop)) → P (length b) early
        → ((r : List ℕ) (p : ℕ) → at ≤ p → p ≤ length r → length r ≤ length b → Fine r p (content r p))
        → Fine b at (sized_at past early content b at)
    unfolding sized_at
    sized_fine {A} past early content b at le over under inner =
        then b at (u32_at b at) (λ size. refuse_if (nat_lt (length b) (size.1 + size.0)) (past (size.1 + size.0)) >>= λ fine. content (take (size.1 + size.0) b) size.1 >>= full_at early (size.1 + size.0)) (u32_stays b at le)
        (λ size more within. by_test size more within (nat_lt (length b) (size.1 + size.0)) (λ e. ltb-true _ _ e) (λ e. ltb-false _ _ e))
      where
        by_test : (size : ℕ × ℕ) → at ≤ size.1 → size.1 ≤ length b → (t : Bool) → (t ≡ true → length b < size.1 + size.0) → (t ≡ false → size.1 + size.0 ≤ length b)
            → Fine b at (refuse_if t (past (size.1 + size.0)) >>= λ fine. content (take (size.1 + size.0) b) size.1 >>= full_at early (size.1 + size.0))
        by_test size more within true lt ge = over (size.1 + size.0) (lt refl)
        by_test size more within false lt ge =
            let stop = size.1 + size.0 in
            let small : stop ≤ length b = ge refl in
            let is = region_size b stop small in
            from_region (content (take stop b) size.1) stop more small is (inner (take stop b) size.1 more (omega (arith, is)) (omega (arith, is)))
          where
            from_region : (r : Read A) (stop : ℕ) → at ≤ size.1 → stop ≤ length b → length (take stop b) ≡ stop → Fine (take stop b) size.1 r → Fine b at (r >>= full_at early stop)
            from_region (Err e) stop more small is f = allows.grows (length (take stop b)) (length b) e (omega (arith, is)) f
            from_region (Ok x) stop more small is f = by_end (nat_lt x.1 stop)
              where
                by_end : (t : Bool) → Fine b at (refuse_if t early >>= λ full. (let r : Read A = Ok x in r))
                by_end true = under
                by_end false = (omega (arith, f.0), omega (arith, f.1, is))
