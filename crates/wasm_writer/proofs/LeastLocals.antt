-- Locals: the longest runs of one type are a spelling of them, and as short as any.
use Rattle.std.proofs.Common.{◌≡◌, ℕ, zero, suc, ◌+◌, ◌<◌, ◌≤◌, ◌^◌, Bool, true, false, cond, List, [], ◌∷◌, ◌++◌, length, replicate, refl, sym, ap, subst, ◌∙◌, arith, length-append, zero-le, drop}
use Rattle.std.proofs.lemmas.List.{length-replicate}
use Rattle.leb_bytes.specs.Spelling.{LastUnsigned, join_unsigned}
use Rattle.leb_bytes.specs.Writing.{unsigned_text}
use Rattle.leb_bytes.proofs.Sizes.{no_longer}
use Rattle.leb_bytes.proofs.Splitting.{unsigned_spelled}
use Rattle.wasm_types.specs.declared.instr.ValType.{ValType}
use Rattle.wasm_types.specs.declared.instr.ValType.TheVariants.{I32, I64}
use Rattle.module_specs.specs.Spelling.{SpellsU32, SpellsEach, SpellsType}
use Rattle.module_specs.specs.CodeSpelling.{SpellsRun, SpellsLocals, locals_of, most_locals}
use Rattle.wasm_writer.specs.Texts.{each_text, type_text}
use Rattle.wasm_writer.specs.CodeTexts.{same_type, joined, runs_of, run_text, locals_text}
use Rattle.wasm_writer.specs.FlatTexts.{alike}
use Rattle.wasm_writer.specs.Sizes.{unsigned_some}
use Rattle.wasm_writer.proofs.Least.{Least, then_least, u32_least, type_least, number_longer}

-- ---- runs and the locals that they stand for

same_is : (t u : ValType) → same_type t u ≡ true → t ≡ u
same_is I32 I32 e = refl
same_is I64 I64 e = refl
same_is I32 I64 e = absurd cc
same_is I64 I32 e = absurd cc

pub same_self : (t : ValType) → same_type t t ≡ true
same_self I32 = refl
same_self I64 = refl

abbrev pub Run : Type 0
Run = ℕ × ValType

joined_back : (t : ValType) (runs : List Run) → locals_of (joined t runs) ≡ t ∷ locals_of runs
joined_back t [] = refl
joined_back t (run ∷ runs) = by_test (same_type t run.1) refl
  where
    by_test : (b : Bool) → same_type t run.1 ≡ b
        → locals_of (cond b ((run.0 + 1, run.1) ∷ runs) ((1, t) ∷ run ∷ runs)) ≡ t ∷ locals_of (run ∷ runs)
    by_test true e =
        let next : run.0 + 1 ≡ suc run.0 = omega arith in
        ap (λ n. replicate n run.1 ++ locals_of runs) next
        ∙ ap (λ u. u ∷ locals_of (run ∷ runs)) (sym (same_is t run.1 e))
    by_test false e = refl

pub locals_back : (ts : List ValType) → locals_of (runs_of ts) ≡ ts
locals_back [] = refl
locals_back (t ∷ ts) = joined_back t (runs_of ts) ∙ ap (λ l. t ∷ l) (locals_back ts)

joined_number : (t : ValType) (runs : List Run) → length (joined t runs) ≤ suc (length runs)
joined_number t [] = omega arith
joined_number t (run ∷ runs) = by_test (same_type t run.1)
  where
    by_test : (b : Bool) → length (cond b ((run.0 + 1, run.1) ∷ runs) ((1, t) ∷ run ∷ runs)) ≤ suc (length (run ∷ runs))
    by_test true = omega arith
    by_test false = omega arith

pub runs_number : (ts : List ValType) → length (runs_of ts) ≤ length ts
runs_number [] = zero-le
runs_number (t ∷ ts) = let more = joined_number t (runs_of ts) in let h = runs_number ts in omega arith

length-locals_of : (run : Run) (runs : List Run) → length (locals_of (run ∷ runs)) ≡ run.0 + length (locals_of runs)
length-locals_of run runs = omega (arith, length-append (replicate run.0 run.1) (locals_of runs), length-replicate run.0 run.1)

-- ---- a spelling

each_run_spelled : (runs : List Run) → length (locals_of runs) < 2 ^ 32 → SpellsEach SpellsRun runs (each_text run_text runs)
each_run_spelled [] small = refl
each_run_spelled (run ∷ runs) small =
    let n = length-locals_of run runs in (
      run_text run,
      each_text run_text runs,
      refl,
      (unsigned_text run.0, type_text run.1, refl, unsigned_spelled 32 run.0 (omega arith) (omega arith) (omega arith), refl),
      each_run_spelled runs (omega arith),
    )

locals_spelled : (ts : List ValType) → length ts ≤ most_locals → SpellsLocals ts (locals_text ts)
locals_spelled ts few =
    let back = locals_back ts in
    let number = runs_number ts in
    let total : length (locals_of (runs_of ts)) ≡ length ts = ap length back in (
      runs_of ts,
      sym back,
      few,
      (unsigned_text (length (runs_of ts)), each_text run_text (runs_of ts), refl, unsigned_spelled 32 (length (runs_of ts)) (omega arith) (omega arith) (omega arith), each_run_spelled (runs_of ts) (omega arith)),
    )

-- ---- as short as any

two_bytes : (n : ℕ) → n ≤ most_locals → length (unsigned_text n) ≤ 2
two_bytes n few = no_longer LastUnsigned join_unsigned 14 n (unsigned_text n) (omega arith) (unsigned_spelled 14 n (omega arith) (omega arith) (omega arith))

-- so many locals of one type before some runs
abbrev onto : ℕ → ValType → List Run → List Run
onto k t [] = (k, t) ∷ []
onto k t (run ∷ runs) = cond (same_type t run.1) ((run.0 + k, run.1) ∷ runs) ((k, t) ∷ run ∷ runs)

joined_onto : (k : ℕ) (t : ValType) (runs : List Run) → joined t (onto k t runs) ≡ onto (suc k) t runs
joined_onto k t [] =
    let next : k + 1 ≡ suc k = omega arith in
    ap (λ b. cond b ((k + 1, t) ∷ []) ((1, t) ∷ (k, t) ∷ [])) (same_self t) ∙ ap (λ n. (n, t) ∷ []) next
joined_onto k t (run ∷ runs) = by_test (same_type t run.1) refl
  where
    by_test : (b : Bool) → same_type t run.1 ≡ b
        → joined t (cond b ((run.0 + k, run.1) ∷ runs) ((k, t) ∷ run ∷ runs)) ≡ cond b ((run.0 + suc k, run.1) ∷ runs) ((suc k, t) ∷ run ∷ runs)
    by_test true e =
        let next : run.0 + k + 1 ≡ run.0 + suc k = omega arith in
        ap (λ b. cond b ((run.0 + k + 1, run.1) ∷ runs) ((1, t) ∷ (run.0 + k, run.1) ∷ runs)) e ∙ ap (λ n. (n, run.1) ∷ runs) next
    by_test false e =
        let next : k + 1 ≡ suc k = omega arith in
        ap (λ b. cond b ((k + 1, t) ∷ run ∷ runs) ((1, t) ∷ (k, t) ∷ run ∷ runs)) (same_self t) ∙ ap (λ n. (n, t) ∷ run ∷ runs) next

joined_one : (t : ValType) (runs : List Run) → joined t runs ≡ onto 1 t runs
joined_one t [] = refl
joined_one t (run ∷ runs) = refl

runs_of-replicate : (k : ℕ) (t : ValType) (ts : List ValType) → runs_of (replicate (suc k) t ++ ts) ≡ onto (suc k) t (runs_of ts)
runs_of-replicate zero t ts = joined_one t (runs_of ts)
runs_of-replicate (suc k) t ts = ap (joined t) (runs_of-replicate k t ts) ∙ joined_onto (suc k) t (runs_of ts)

abbrev pub cost : List Run → ℕ
cost runs = length (each_text run_text runs)

pub cost-cons : (run : Run) (runs : List Run) → cost (run ∷ runs) ≡ length (unsigned_text run.0) + 1 + cost runs
cost-cons run runs = omega (arith, length-append (run_text run) (each_text run_text runs), length-append (unsigned_text run.0) (type_text run.1))

-- one run more costs its own bytes at most
record Grows (before after : List Run) (bytes : ℕ) : Type 0 where
  pub number : length after ≤ suc (length before)
  pub size : cost after ≤ bytes + cost before

onto_grows : (k : ℕ) (t : ValType) (runs : List Run) → k + length (locals_of runs) ≤ most_locals → Grows runs (onto k t runs) (length (unsigned_text k) + 1)
onto_grows k t [] few = record { number = omega arith; size = let c = cost-cons (k, t) [] in omega arith }
onto_grows k t (run ∷ runs) few = by_test (same_type t run.1)
  where
    by_test : (b : Bool) → Grows (run ∷ runs) (cond b ((run.0 + k, run.1) ∷ runs) ((k, t) ∷ run ∷ runs)) (length (unsigned_text k) + 1)
    by_test true =
        let n = length-locals_of run runs in
        let two = two_bytes (run.0 + k) (omega arith) in
        let one = unsigned_some k in
        let here = cost-cons run runs in
        let there = cost-cons (run.0 + k, run.1) runs in
        record { number = omega arith; size = omega arith }
    by_test false =
        let there = cost-cons (k, t) (run ∷ runs) in
        record { number = omega arith; size = omega arith }

run_least : (run : Run) → Least (SpellsRun run) (run_text run)
run_least run = then_least (SpellsU32 run.0) (SpellsType run.1) (unsigned_text run.0) (type_text run.1) (u32_least run.0) (type_least run.1)

-- some runs, and those of the locals that they stand for
record Fewer (runs : List Run) (text : List ℕ) : Type 0 where
  pub number : length (runs_of (locals_of runs)) ≤ length runs
  pub size : cost (runs_of (locals_of runs)) ≤ length text

fewest_more : (run : Run) (runs : List Run) (text : List ℕ) (s : SpellsEach SpellsRun (run ∷ runs) text) → length (locals_of (run ∷ runs)) ≤ most_locals
    → Fewer runs s.1 → Fewer (run ∷ runs) text
fewest_more run runs text s few rest = by_count run.0 refl
  where
    n : length (locals_of (run ∷ runs)) ≡ run.0 + length (locals_of runs)
    n = length-locals_of run runs

    whole : length text ≡ length s.0 + length s.1
    whole = ap length s.2 ∙ length-append s.0 s.1

    first : length (unsigned_text run.0) + 1 ≤ length s.0
    first = let fewer = (run_least run).unbeaten s.0 s.3 in omega (arith, length-append (unsigned_text run.0) (type_text run.1))

    by_count : (k : ℕ) → run.0 ≡ k → Fewer (run ∷ runs) text
    by_count zero e =
        let same : runs_of (locals_of (run ∷ runs)) ≡ runs_of (locals_of runs) = ap (λ k. runs_of (replicate k run.1 ++ locals_of runs)) e in
        record { number = let l = ap length same in omega (arith, rest.number); size = let l = ap cost same in omega (arith, rest.size, whole) }
    by_count (suc k) e =
        let same : runs_of (locals_of (run ∷ runs)) ≡ onto (suc k) run.1 (runs_of (locals_of runs)) = ap (λ k. runs_of (replicate k run.1 ++ locals_of runs)) e ∙ runs_of-replicate k run.1 (locals_of runs) in
        let back = ap length (locals_back (locals_of runs)) in
        let grows = onto_grows (suc k) run.1 (runs_of (locals_of runs)) (omega (arith, n, back)) in
        let bytes : length (unsigned_text (suc k)) + 1 ≤ length s.0 = subst (λ k. length (unsigned_text k) + 1 ≤ length s.0) e first in
        record { number = let l = ap length same in omega (arith, rest.number, grows.number); size = let l = ap cost same in omega (arith, rest.size, grows.size, bytes, whole) }

fewest : (runs : List Run) (text : List ℕ) → length (locals_of runs) ≤ most_locals → SpellsEach SpellsRun runs text → Fewer runs text
fewest [] text few s = record { number = zero-le; size = zero-le }
fewest (run ∷ runs) text few s =
    let n = length-locals_of run runs in
    fewest_more run runs text s few (fewest runs s.1 (omega (arith, n)) s.4)

locals_unbeaten : (ts : List ValType) (text : List ℕ) → SpellsLocals ts text → length (locals_text ts) ≤ length text
locals_unbeaten ts text s =
    let v = s.3 in
    let fewer = fewest s.0 v.1 (subst (λ l. length l ≤ most_locals) s.1 s.2) v.4 in
    let number : length (runs_of ts) ≤ length s.0 = subst (λ l. length (runs_of l) ≤ length s.0) (sym s.1) fewer.number in
    let size : cost (runs_of ts) ≤ length v.1 = subst (λ l. cost (runs_of l) ≤ length v.1) (sym s.1) fewer.size in
    let count = (u32_least (length s.0)).unbeaten v.0 v.3 in
    let smaller = number_longer (length (runs_of ts)) (length s.0) number in
    let whole : length text ≡ length v.0 + length v.1 = ap length v.2 ∙ length-append v.0 v.1 in
    omega (arith, length-append (unsigned_text (length (runs_of ts))) (each_text run_text (runs_of ts)))

pub locals_least : (ts : List ValType) → Least (SpellsLocals ts) (locals_text ts)
locals_least ts = record {
  spelled = λ other s. locals_spelled ts s.2;
  unbeaten = locals_unbeaten ts;
}

-- ---- the first run, as the code finds it

first_more : (t u : ValType) (us : List ValType) → runs_of (u ∷ us) ≡ (suc (alike u us), u) ∷ runs_of (drop (alike u us) us)
    → runs_of (t ∷ u ∷ us) ≡ (suc (alike t (u ∷ us)), t) ∷ runs_of (drop (alike t (u ∷ us)) (u ∷ us))
first_more t u us ih = ap (joined t) ih ∙ by_test (same_type t u) refl
  where
    by_test : (b : Bool) → same_type t u ≡ b
        → cond b ((suc (alike u us) + 1, u) ∷ runs_of (drop (alike u us) us)) ((1, t) ∷ (suc (alike u us), u) ∷ runs_of (drop (alike u us) us))
        ≡ (suc (cond b (suc (alike t us)) 0), t) ∷ runs_of (drop (cond b (suc (alike t us)) 0) (u ∷ us))
    by_test true e =
        let same : u ≡ t = sym (same_is t u e) in
        let next : suc (alike t us) + 1 ≡ suc (suc (alike t us)) = omega arith in
        ap (λ w. (suc (alike w us) + 1, w) ∷ runs_of (drop (alike w us) us)) same
        ∙ ap (λ n. (n, t) ∷ runs_of (drop (alike t us) us)) next
    by_test false e = ap (λ l. (1, t) ∷ l) (sym ih)

pub runs_of-first : (t : ValType) (ts : List ValType) → runs_of (t ∷ ts) ≡ (suc (alike t ts), t) ∷ runs_of (drop (alike t ts) ts)
runs_of-first t [] = refl
runs_of-first t (u ∷ us) = first_more t u us (runs_of-first u us)
