-- Reading runs of locals one after the other, as a loop does.
use Rattle.std.proofs.Common.{◌≡◌, ℕ, suc, ◌-◌, ◌+◌, ◌≤◌, ◌<◌, Bool, true, false, List, ◌++◌, length, replicate, Ok, Err, refl, sym, ap, ◌∙◌, append_assoc, length-append, arith}
use Rattle.std.specs.Prelude.{nat_lt}
use Rattle.std.proofs.lemmas.List.{append-nil, length-replicate}
use Rattle.std.proofs.lemmas.Bool.{ltb-false}
use Rattle.module_specs.proofs.Loops.{with_front}
use Rattle.wasm_types.specs.declared.instr.ValType.{ValType}
use Rattle.module_specs.specs.declared.fault.Fault.{Fault}
use Rattle.module_specs.specs.declared.fault.Fault.TheVariants as errors
use Rattle.wasm_code.specs.Runs.{run_at}
use Rattle.module_specs.specs.Reading.{Read, ◌>>=◌, refuse_if, Fails, u32_at, type_at}
use Rattle.module_specs.specs.CodeReading.{runs_at}
use Rattle.module_specs.specs.CodeSpelling.{most_locals}

regroup : {A : Type 0} (front xs : List A) (read : Read (List A)) → with_front front (with_front xs read) ≡ with_front (front ++ xs) read
regroup front xs (Ok x) = ap (λ l. Ok (l, x.1)) (sym (append_assoc front xs x.0))
regroup front xs (Err f) = refl

-- one run behind others, and in front of others
abbrev pub behind_run : List ValType → ℕ → ValType × ℕ → Read (List ValType)
behind_run front count type = Ok (front ++ replicate count type.0, type.1)

abbrev pub before_run : ℕ → ValType → List ValType × ℕ → Read (List ValType)
before_run count type rest = Ok (replicate count type ++ rest.0, rest.1)

-- one run, and then the others
step : (body : ℕ) (b : List ℕ) (n at : ℕ) (front : List ValType) (count : Read ℕ) (type : ℕ → Read ValType) → (go : ℕ → ℕ → Read (List ValType)) → length front ≤ most_locals
    → ((m k : ℕ) → m ≡ k → go m ≡ go k)
    → with_front front (count >>= λ count. refuse_if (nat_lt (most_locals - length front) count.0) (errors.Limit body) >>= λ fine. type count.1 >>= λ type. go (most_locals - length front - count.0) type.1 >>= before_run count.0 type.0)
    ≡ (count >>= λ count. refuse_if (nat_lt (most_locals - length front) count.0) (errors.Limit body) >>= λ fine. type count.1 >>= behind_run front count.0) >>= λ x. with_front x.0 (go (most_locals - length x.0) x.1)
step body b n at front (Err e) type go most same = refl
step body b n at front (Ok count) type go most same = by_test (nat_lt (most_locals - length front) count.0) (λ e. ltb-false _ _ e) (type count.1)
  where
    by_test : (t : Bool) → (t ≡ false → count.0 ≤ most_locals - length front) → (read : Read ValType)
        → with_front front (refuse_if t (errors.Limit body) >>= λ fine. read >>= λ type. go (most_locals - length front - count.0) type.1 >>= before_run count.0 type.0)
        ≡ (refuse_if t (errors.Limit body) >>= λ fine. read >>= behind_run front count.0) >>= λ x. with_front x.0 (go (most_locals - length x.0) x.1)
    by_test true fine read = refl
    by_test false fine (Err e) = refl
    by_test false fine (Ok type) =
        let copies = replicate count.0 type.0 in
        let k : most_locals - length front - count.0 ≡ most_locals - length (front ++ copies) = omega (arith, length-append front copies, length-replicate count.0 type.0) in
        regroup front copies (go (most_locals - length front - count.0) type.1) ∙ ap (λ f. with_front (front ++ copies) (f type.1)) (same _ _ k)

runs_step : (body : ℕ) (b : List ℕ) (n at : ℕ) (front : List ValType) → length front ≤ most_locals
    → with_front front (runs_at body b (most_locals - length front) (suc n) at) ≡ run_at body b front at >>= λ x. with_front x.0 (runs_at body b (most_locals - length x.0) n x.1)
unfolding runs_at run_at
runs_step body b n at front most = step body b n at front (u32_at b at) (type_at b) (λ room at. runs_at body b room n at) most (λ m k e. ap (λ room. λ (at : ℕ). runs_at body b room n at) e)

module _ (body : ℕ) (b : List ℕ) (front : List ValType) (count i at : ℕ) (total : Read (List ValType)) where
  pub goes_on : (front' : List ValType) (next : ℕ) → i < count → length front ≤ most_locals → run_at body b front at ≡ Ok (front', next)
      → with_front front (runs_at body b (most_locals - length front) (count - i) at) ≡ total
      → with_front front' (runs_at body b (most_locals - length front') (count - (i + 1)) next) ≡ total
  goes_on front' next lt most h so_far =
      let k : count - i ≡ suc (count - (i + 1)) = omega arith in
      let one : with_front front (runs_at body b (most_locals - length front) (count - i) at) ≡ with_front front' (runs_at body b (most_locals - length front') (count - (i + 1)) next) =
      ap (λ n. with_front front (runs_at body b (most_locals - length front) n at)) k ∙ runs_step body b (count - (i + 1)) at front most ∙ ap (λ r. r >>= λ x. with_front x.0 (runs_at body b (most_locals - length x.0) (count - (i + 1)) x.1)) h in
      sym one ∙ so_far

  pub ends : (e : Fault) → i < count → length front ≤ most_locals → Fails e (run_at body b front at)
      → with_front front (runs_at body b (most_locals - length front) (count - i) at) ≡ total → Fails e total
  ends errors.Memory lt most h so_far = tt
  ends e lt most h so_far =
      let k : count - i ≡ suc (count - (i + 1)) = omega arith in
      sym so_far ∙ ap (λ n. with_front front (runs_at body b (most_locals - length front) n at)) k ∙ runs_step body b (count - (i + 1)) at front most ∙ ap (λ r. r >>= λ x. with_front x.0 (runs_at body b (most_locals - length x.0) (count - (i + 1)) x.1)) h

  pub is_done : count ≤ i → with_front front (runs_at body b (most_locals - length front) (count - i) at) ≡ total → total ≡ Ok (front, at)
  unfolding runs_at
  is_done le so_far =
      let k : count - i ≡ 0 = omega arith in
      sym so_far ∙ ap (λ n. with_front front (runs_at body b (most_locals - length front) n at)) k ∙ ap (λ l. Ok (l, at)) (append-nil front)
