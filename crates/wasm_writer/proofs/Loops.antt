-- Items and runs, one more at a time.
use Rattle.std.proofs.Common.{◌≡◌, ℕ, suc, ◌+◌, ◌-◌, ◌<◌, ◌≤◌, cond, List, [], ◌∷◌, ◌++◌, length, get_or, take, drop, take_all, drop-cons, length-drop, drop-drop, refl, sym, ap, subst, ◌∙◌, arith, length-append, append_assoc}
use Rattle.leb_bytes.specs.Writing.{unsigned_text}
use Rattle.wasm_types.specs.declared.instr.ValType.{ValType}
use Rattle.wasm_types.specs.declared.instr.ValType.TheVariants.{I32}
use Rattle.module_specs.specs.declared.section.SectionKind.{SectionKind}
use Rattle.module_specs.specs.Spelling.{type_byte}
use Rattle.wasm_writer.specs.Sizes.{unsigned_some}
use Rattle.wasm_writer.specs.Texts.{each_text, type_text}
use Rattle.wasm_writer.specs.ModuleTexts.{items_text}
use Rattle.wasm_writer.specs.CodeTexts.{same_type, runs_of, run_text}
use Rattle.wasm_writer.specs.FlatTexts.{alike, first_run}
use Rattle.wasm_writer.proofs.LeastLocals.{Run, same_self, runs_of-first, cost, cost-cons}

-- what is left begins with this item
pub each_text-drop : {A : Type 0} (text : A → List ℕ) (xs : List A) (i : ℕ) (x : A) → i < length xs → x ≡ get_or xs i x
    → each_text text (drop i xs) ≡ text x ++ each_text text (drop (i + 1) xs)
each_text-drop text xs i x lt is =
    let next : suc i ≡ i + 1 = omega arith in
    ap (each_text text) (drop-cons xs i x lt)
    ∙ ap (λ y. text y ++ each_text text (drop (suc i) xs)) (sym is)
    ∙ ap (λ n. text x ++ each_text text (drop n xs)) next

pub each_text-longer : {A : Type 0} (text : A → List ℕ) → ((x : A) → 0 < length (text x)) → (xs : List A) → length xs ≤ length (each_text text xs)
each_text-longer text some [] = let e : 0 ≤ 0 = omega arith in e
each_text-longer text some (x ∷ xs) =
    let one = some x in
    let rest = each_text-longer text some xs in
    omega (arith, length-append (text x) (each_text text xs))

-- the first run of what is left, and what is left behind it
pub runs_of-drop : (ts : List ValType) (at n : ℕ) (d : ValType) → at < length ts → n ≡ first_run (drop at ts)
    → runs_of (drop at ts) ≡ (n, get_or ts at d) ∷ runs_of (drop (at + n) ts)
runs_of-drop ts at n d lt is =
    let t = get_or ts at d in
    let us = drop (suc at) ts in
    let cons : drop at ts ≡ t ∷ us = drop-cons ts at d lt in
    let count : n ≡ suc (alike t us) = is ∙ ap first_run cons in
    let place : suc at + alike t us ≡ at + n = omega arith in
    let behind : drop (alike t us) us ≡ drop (at + n) ts = drop-drop (alike t us) (suc at) ts ∙ ap (λ k. drop k ts) place in
    ap runs_of cons
    ∙ runs_of-first t us
    ∙ ap (λ l. (suc (alike t us), t) ∷ runs_of l) behind
    ∙ ap (λ k. (k, t) ∷ runs_of (drop (at + n) ts)) (sym count)

-- how many of the locals in front have the type of the first of these
abbrev pub alike_left : List ValType → List ValType → ℕ
alike_left [] left = 0
alike_left (t ∷ ts) left = alike t left

pub first_run-is : (ts : List ValType) → first_run ts ≡ alike_left ts ts
first_run-is [] = refl
first_run-is (t ∷ ts) = ap (λ b. cond b (suc (alike t ts)) 0) (sym (same_self t))

pub alike_left-step : (ts : List ValType) (i : ℕ) (t x : ValType) → i < length ts → t ≡ get_or ts 0 t → x ≡ get_or ts i x
    → alike_left ts (drop i ts) ≡ cond (same_type t x) (suc (alike_left ts (drop (i + 1) ts))) 0
alike_left-step [] i t x lt first is = absurd (omega arith)
alike_left-step (u ∷ ts) i t x lt first is =
    let next : suc i ≡ i + 1 = omega arith in
    ap (alike u) (drop-cons (u ∷ ts) i x lt)
    ∙ ap (λ y. cond (same_type u y) (suc (alike u (drop (suc i) (u ∷ ts)))) 0) (sym is)
    ∙ ap (λ n. cond (same_type u x) (suc (alike u (drop n (u ∷ ts)))) 0) next
    ∙ ap (λ y. cond (same_type y x) (suc (alike u (drop (i + 1) (u ∷ ts)))) 0) (sym first)

-- ---- runs

run_some : (run : Run) → 0 < length (run_text run)
run_some run = let some = unsigned_some run.0 in omega (arith, length-append (unsigned_text run.0) (type_text run.1))

pub runs_few : (ts : List ValType) → length (runs_of ts) ≤ length (each_text run_text (runs_of ts))
runs_few ts = each_text-longer run_text run_some (runs_of ts)

-- what is left, as a slice up to its end
pub whole_slice : {A : Type 0} (xs : List A) (at : ℕ) → take (length xs - at) (drop at xs) ≡ drop at xs
whole_slice xs at = take_all (length xs - at) (drop at xs) (let n = length-drop at xs in omega arith)

pub first_run-slice : (ts : List ValType) (at n : ℕ) → n ≡ first_run (take (length ts - at) (drop at ts)) → n ≡ first_run (drop at ts)
first_run-slice ts at n is = is ∙ ap first_run (whole_slice ts at)

pub within_slice : (ts : List ValType) (at n : ℕ) → n ≤ length (take (length ts - at) (drop at ts)) → n ≤ length (drop at ts)
within_slice ts at n le = subst (λ (l : List ValType). n ≤ length l) (whole_slice ts at) le

-- the first run of what is left is counted
pub record Counts (ts : List ValType) (at n : ℕ) : Type 0 where
  pub place : at + n ≤ length ts
  pub number : length (runs_of (drop at ts)) ≡ 1 + length (runs_of (drop (at + n) ts))
  pub size : cost (runs_of (drop at ts)) ≡ length (unsigned_text n) + 1 + cost (runs_of (drop (at + n) ts))

pub run_counts : (ts : List ValType) (at n : ℕ) → at < length ts → n ≡ first_run (drop at ts) → n ≤ length (drop at ts) → Counts ts at n
run_counts ts at n lt is within =
    let d = I32 in
    let step = runs_of-drop ts at n d lt is in
    let left = length-drop at ts in
    record {
      place = omega arith;
      number = ap length step ∙ omega arith;
      size = ap cost step ∙ cost-cons (n, get_or ts at d) (runs_of (drop (at + n) ts));
    }

-- the first run of what is left is written
pub run_written : (ts : List ValType) (at n : ℕ) (d : ValType) (out one two total : List ℕ) (b : ℕ) → at < length ts → n ≡ first_run (drop at ts)
    → b ≡ type_byte (get_or ts at d) → one ≡ out ++ unsigned_text n → two ≡ one ++ b ∷ []
    → out ++ each_text run_text (runs_of (drop at ts)) ≡ total → two ++ each_text run_text (runs_of (drop (at + n) ts)) ≡ total
run_written ts at n d out one two total b lt is byte first second all =
    let rest = each_text run_text (runs_of (drop (at + n) ts)) in
    let u = unsigned_text n in
    let step = runs_of-drop ts at n d lt is in
    ap (λ l. l ++ rest) (second ∙ ap (λ l. l ++ b ∷ []) first)
    ∙ ap (λ l. l ++ rest) (append_assoc out u (b ∷ []))
    ∙ append_assoc out (u ++ b ∷ []) rest
    ∙ ap (λ y. out ++ ((u ++ y ∷ []) ++ rest)) byte
    ∙ ap (λ r. out ++ each_text run_text r) (sym step)
    ∙ all

-- ---- sections

-- a section is written, and then the rest
pub section_then : {A : Type 0} (k : SectionKind) (text : A → List ℕ) (xs ys : List A) (out one all rest : List ℕ) → xs ≡ ys
    → one ≡ out ++ items_text k text xs → all ≡ one ++ rest → all ≡ out ++ (items_text k text ys ++ rest)
section_then k text xs ys out one all rest same first behind =
    behind ∙ ap (λ l. l ++ rest) (first ∙ ap (λ l. out ++ items_text k text l) same) ∙ append_assoc out (items_text k text ys) rest

pub text_then : (text out one all rest : List ℕ) → one ≡ out ++ text → all ≡ one ++ rest → all ≡ out ++ (text ++ rest)
text_then text out one all rest first behind = behind ∙ ap (λ l. l ++ rest) first ∙ append_assoc out text rest

pub section_last : {A : Type 0} (k : SectionKind) (text : A → List ℕ) (xs ys : List A) (out all : List ℕ) → xs ≡ ys
    → all ≡ out ++ items_text k text xs → all ≡ out ++ items_text k text ys
section_last k text xs ys out all same last = last ∙ ap (λ l. out ++ items_text k text l) same
