-- The memory never becomes smaller.
use Rattle.std.proofs.Common.{◌≡◌, ℕ, zero, suc, ◌+◌, ◌*◌, ◌≤◌, List, [], ◌∷◌, ◌++◌, length, Option, Some, None, sym, subst, Bool, true, false, arith}
use Rattle.std.specs.Prelude.{Ok, cond, take, drop, negsuc, replicate, nat_le}
use Rattle.std.proofs.lemmas.List.{length-append, length-drop}
use Rattle.wasm_types.specs.declared.instr.Instr.{Instr}
use Rattle.wasm_types.specs.declared.instr.Instr.TheVariants as instr
use Rattle.wasm_types.specs.Modules.{NestedModule}
use Rattle.code_specs.specs.Stores.{Store, page_size, pages, greatest_pages, bytes_of, bytes_at, replaced_at}
use Rattle.code_specs.specs.Integers.{unsigned}
use Rattle.code_specs.specs.Numerics.{binary}
use Rattle.code_specs.specs.Signatures.{access_bytes}
use Rattle.code_specs.specs.Effects.{store_meaning, meaning_of}
use Rattle.code_specs.specs.Execution.{answer_of}
use Rattle.code_laws.specs.Kept.{HasBytes, LeavesBytes}
use Rattle.code_laws.proofs.Kept.{KeepsMeaning, kept}
use Rattle.code_laws.proofs.Ranges.{numeric_keeps, load_keeps}

no_fewer : (bytes : List ℕ) (address : ℕ) (new : List ℕ) → length bytes ≤ length (replaced_at bytes address new)
no_fewer bytes zero new =
    omega (arith, length-append new (drop (0 + length new) bytes), length-drop (0 + length new) bytes)
no_fewer [] (suc address) new = omega arith
no_fewer (b ∷ bytes) (suc address) new =
    let shift : suc address + length new ≡ suc (address + length new) = omega arith in
    subst (λ (n : ℕ). length (b ∷ bytes) ≤ length (replaced_at_from b bytes address new n)) (sym shift)
    (omega (arith, no_fewer bytes address new))
  where
    replaced_at_from : ℕ → List ℕ → ℕ → List ℕ → ℕ → List ℕ
    replaced_at_from b bytes address new n = b ∷ (take address bytes ++ (new ++ drop n (b ∷ bytes)))

store_bytes : (count address : ℕ) (new : List ℕ) (s : Store) (o : Option (List ℕ)) → HasBytes count s
    → KeepsMeaning (HasBytes count) (store_meaning address new s o)
store_bytes count address new s None h = tt
store_bytes count address new s (Some old) h = omega (arith, h, no_fewer s.bytes address new)

grow_bytes : (count more : ℕ) (s : Store) (b : Bool) → HasBytes count s
    → KeepsMeaning (HasBytes count) (cond b (Ok (record {
      number = pages s;
      store = record s
          { bytes = s.bytes ++ replicate (more * page_size) 0 };
    })) (Ok (record { number = unsigned 32 (negsuc 0); store = s })))
grow_bytes count more s true h = omega (arith, h, length-append s.bytes (replicate (more * page_size) 0))
grow_bytes count more s false h = h

-- each plain instruction leaves so many bytes, whatever its operands are
pub bytes_kept : (m : NestedModule) (count : ℕ) (i : Instr) (numbers : List ℕ) (s : Store) → HasBytes count s
    → KeepsMeaning (HasBytes count) (meaning_of m i numbers s)
unfolding meaning_of
bytes_kept m count (instr.Numeric op) (j ∷ i ∷ []) s h = numeric_keeps (HasBytes count) (binary op i j) s h
bytes_kept m count (instr.Globals op index) [] s h = h
bytes_kept m count (instr.Globals op index) (n ∷ []) s h = h
bytes_kept m count (instr.Access op align offset) (base ∷ []) s h = load_keeps (HasBytes count) op s
    (bytes_at s.bytes (base + offset) (access_bytes op)) h
bytes_kept m count (instr.Access op align offset) (n ∷ base ∷ []) s h = store_bytes count (base + offset) (bytes_of (access_bytes op) n) s
    (bytes_at s.bytes (base + offset) (access_bytes op)) h
bytes_kept m count instr.MemorySize [] s h = h
bytes_kept m count instr.MemorySize (n ∷ ns) s h = h
bytes_kept m count instr.MemoryGrow (more ∷ []) s h = grow_bytes count more s (nat_le (pages s + more) (greatest_pages m)) h
bytes_kept m count i numbers s h = h

pub never_shrinks : (m : NestedModule) (index : ℕ) (arguments : List ℕ) (s : Store) (fuel : ℕ)
    → LeavesBytes (length s.bytes) (answer_of m index arguments s fuel)
never_shrinks m index arguments s fuel =
    kept (HasBytes (length s.bytes)) m (record { by = λ i g numbers t is fits has. bytes_kept m (length s.bytes) i numbers t has }) index
    arguments s fuel (omega arith)
