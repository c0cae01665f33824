-- Globals stay in the range of their types, and the memory never becomes smaller.
use Rattle.std.proofs.Common.{◌≡◌, ℕ, zero, suc, ◌+◌, ◌*◌, ◌<◌, List, [], ◌∷◌, ◌++◌, Option, Some, None, refl, sym, subst, Bool, true, false}
use Rattle.std.specs.Prelude.{Result, Ok, Err, cond, map, negsuc, replicate, nat_le, slice_get, slice_set, option_and_then, ◌==◌, ◌^◌, ◌&&◌}
use Rattle.wasm_types.specs.declared.instr.Instr.{Instr}
use Rattle.wasm_types.specs.declared.instr.Instr.TheVariants as instr
use Rattle.wasm_types.specs.declared.module.GlobalVar.{GlobalVar}
use Rattle.wasm_types.specs.Spellable.{width}
use Rattle.wasm_types.specs.Modules.{NestedModule}
use Rattle.code_specs.specs.declared.trap.NumTrap.{NumTrap}
use Rattle.code_specs.specs.Stores.{Store, page_size, pages, greatest_pages, bytes_of, bytes_at}
use Rattle.code_specs.specs.Integers.{unsigned}
use Rattle.code_specs.specs.Numerics.{binary}
use Rattle.code_specs.specs.Signatures.{Signature, global_signature, signature_of, access_bytes}
use Rattle.code_specs.specs.Effects.{numeric_meaning, load_meaning, store_meaning, meaning_of}
use Rattle.code_specs.specs.Execution.{answer_of}
use Rattle.code_laws.specs.Answers.{Fit}
use Rattle.code_laws.specs.Kept.{GlobalsFit, LeavesGlobals}
use Rattle.code_laws.proofs.Tests.{some_is}
use Rattle.code_laws.proofs.Kept.{KeepsMeaning, kept}

set_fits : (gs : List GlobalVar) (ns : List ℕ) (i n : ℕ) (g : GlobalVar) → Fit (map (λ (g : GlobalVar). g.ty) gs) ns → slice_get gs i ≡ Some g → n < 2 ^ width g.ty → Fit (map (λ (g : GlobalVar). g.ty) gs) (slice_set ns i n)
set_fits [] [] i n g h is lt = cc
set_fits [] (m ∷ ns) i n g h is lt = absurd h
set_fits (x ∷ gs) [] i n g h is lt = absurd h
set_fits (x ∷ gs) (m ∷ ns) zero n g h is lt = (subst (λ (x : GlobalVar). n < 2 ^ width x.ty) (sym (some_is x g is)) lt, h.1)
set_fits (x ∷ gs) (m ∷ ns) (suc i) n g h is lt = (h.0, set_fits gs ns i n g h.1 is lt)

-- global.set takes a number of the global's type
record Sets (m : NestedModule) (index n : ℕ) : Type 0 where
  global : GlobalVar
  is : slice_get m.globals index ≡ Some global
  fits : n < 2 ^ width global.ty

abbrev get_of : GlobalVar → Option Signature
get_of g = Some (record { takes = []; gives = g.ty ∷ [] })

abbrev set_of : GlobalVar → Option Signature
set_of g = Some (record { takes = g.ty ∷ []; gives = [] })

sets : (m : NestedModule) (op index n : ℕ) (g : Signature) → option_and_then (global_signature op) (slice_get m.globals index) ≡ Some g → Fit g.takes (n ∷ []) → Sets m index n
sets m op index n g is fits = by_global (slice_get m.globals index) refl is
  where
    by_tests : (x : GlobalVar) (one two : Bool) → slice_get m.globals index ≡ Some x → cond one (get_of x) (cond two (set_of x) None) ≡ Some g → Sets m index n
    by_tests x true two at e = absurd (subst (λ (g : Signature). Fit g.takes (n ∷ [])) (sym (some_is (record { takes = []; gives = x.ty ∷ [] }) g e)) fits)
    by_tests x false true at e = record { global = x; is = at; fits = (subst (λ (g : Signature). Fit g.takes (n ∷ [])) (sym (some_is (record { takes = x.ty ∷ []; gives = [] }) g e)) fits).0 }
    by_tests x false false at e = cc

    by_global : (o : Option GlobalVar) → slice_get m.globals index ≡ o → option_and_then (global_signature op) o ≡ Some g → Sets m index n
    by_global None at e = cc
    by_global (Some x) at e = by_tests x (op == 0x23) (op == 0x24 && x.mutable) at e

pub numeric_keeps : (P : Store → Type 0) (x : Result ℕ NumTrap) (s : Store) → P s → KeepsMeaning P (numeric_meaning x s)
numeric_keeps P (Ok n) s h = h
numeric_keeps P (Err e) s h = tt

pub load_keeps : (P : Store → Type 0) (op : ℕ) (s : Store) (o : Option (List ℕ)) → P s → KeepsMeaning P (load_meaning op s o)
load_keeps P op s None h = tt
load_keeps P op s (Some bytes) h = h

store_globals : (m : NestedModule) (address : ℕ) (new : List ℕ) (s : Store) (o : Option (List ℕ)) → GlobalsFit m s → KeepsMeaning (GlobalsFit m) (store_meaning address new s o)
store_globals m address new s None h = tt
store_globals m address new s (Some old) h = h

grow_globals : (m : NestedModule) (more : ℕ) (s : Store) (b : Bool) → GlobalsFit m s
    → KeepsMeaning (GlobalsFit m) (cond b (Ok (record { number = pages s; store = record s { bytes = s.bytes ++ replicate (more * page_size) 0 } })) (Ok (record { number = unsigned 32 (negsuc 0); store = s })))
grow_globals m more s true h = h
grow_globals m more s false h = h

globals_kept : (m : NestedModule) (i : Instr) (g : Signature) (numbers : List ℕ) (s : Store) → signature_of m i ≡ Some g → Fit g.takes numbers → GlobalsFit m s → KeepsMeaning (GlobalsFit m) (meaning_of m i numbers s)
unfolding meaning_of signature_of
globals_kept m (instr.Numeric op) (g) (j ∷ i ∷ []) s is fits h = numeric_keeps (GlobalsFit m) (binary op i j) s h
globals_kept m (instr.Globals op index) g (n ∷ []) s is fits h =
    let x = sets m op index n g is fits in set_fits m.globals s.globals index n x.global h x.is x.fits
globals_kept m (instr.Access op align offset) g (base ∷ []) s is fits h = load_keeps (GlobalsFit m) op s (bytes_at s.bytes (base + offset) (access_bytes op)) h
globals_kept m (instr.Access op align offset) g (n ∷ base ∷ []) s is fits h = store_globals m (base + offset) (bytes_of (access_bytes op) n) s (bytes_at s.bytes (base + offset) (access_bytes op)) h
globals_kept m instr.MemoryGrow g (more ∷ []) s is fits h = grow_globals m more s (nat_le (pages s + more) (greatest_pages m)) h
globals_kept m instr.MemorySize g [] s is fits h = h
globals_kept m instr.MemorySize g (n ∷ ns) s is fits h = h
globals_kept m i g numbers s is fits h = h

pub globals_stay : (m : NestedModule) (index : ℕ) (arguments : List ℕ) (s : Store) (fuel : ℕ) → GlobalsFit m s → LeavesGlobals m (answer_of m index arguments s fuel)
globals_stay m index arguments s fuel h = kept (GlobalsFit m) m (record { by = globals_kept m }) index arguments s fuel h
