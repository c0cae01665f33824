-- Reading code token by token, as a loop does.
use Rattle.std.proofs.Common.{◌≡◌, ℕ, suc, ◌+◌, ◌-◌, ◌<◌, ◌≤◌, List, [], length, reverse, Ok, Err, refl, sym, ap, subst, ◌∙◌, arith}
use Rattle.wasm_types.specs.declared.instr.Instr.{Instr}
use Rattle.wasm_types.specs.Nested.{Code}
use Rattle.module_specs.specs.declared.fault.Fault.{Fault}
use Rattle.module_specs.specs.declared.fault.Fault.TheVariants.{Short, Memory}
use Rattle.module_specs.specs.declared.token.Token.{Token}
use Rattle.wasm_code.specs.declared.flat.Pending.{Pending}
use Rattle.wasm_code.specs.declared.flat.Went.TheVariants.{On, Done}
use Rattle.wasm_code.specs.Flat.{flat_act, flattened}
use Rattle.wasm_code.proofs.States.{State, begins, keeps, Agrees}
use Rattle.module_specs.specs.Reading.{Fails}
use Rattle.module_specs.specs.CodeReading.{Open, token_at, act, code_from, code_at}

-- what was read so far stands for open lists of code, and reading on from there gives what reading from the beginning gives
abbrev pub ReadsOn : List ℕ → ℕ → ℕ → ℕ → List Instr → List Pending → Type 0
ReadsOn b at place left code ps =
    (os : List Open) × (list : Code → Code) × State os list code (reverse ps) × (code_from left b place os list ≡ code_at b at)

pub reads_begin : (b : List ℕ) (at left : ℕ) → left ≡ length b → ReadsOn b at at left [] []
reads_begin b at left e = ([], (λ rest. rest), begins, ap (λ n. code_from n b at [] (λ rest. rest)) e)

module _ (b : List ℕ) (at place : ℕ) (code : List Instr) (ps : List Pending) where
  -- a token can't be read
  pub no_token : (left i : ℕ) (e : Fault) → i < left → ReadsOn b at place (left - i) code ps → Fails e (token_at b place) → Fails e (flattened (code_at b at))
  unfolding code_from
  no_token left i Memory lt x h = tt
  no_token left i e lt x h =
      let k : left - i ≡ suc (left - (i + 1)) = omega arith in
      let one : code_from (left - i) b place x.0 x.1 ≡ Err e = rw (k, h) refl in
      ap flattened (sym x.3 ∙ one)

  -- the token was read
  step : (left i : ℕ) (t : Token × ℕ) → i < left → (x : ReadsOn b at place (left - i) code ps) → token_at b place ≡ Ok t
      → code_at b at ≡ act (code_from (left - (i + 1)) b) b place x.0 x.1 t.0 t.1
  unfolding code_from
  step left i t lt x h =
      let k : left - i ≡ suc (left - (i + 1)) = omega arith in
      let one : code_from (left - i) b place x.0 x.1 ≡ act (code_from (left - (i + 1)) b) b place x.0 x.1 t.0 t.1 = rw (k, h) refl in
      sym x.3 ∙ one

  agrees : (left i : ℕ) (t : Token × ℕ) → i < left → ReadsOn b at place (left - i) code ps → token_at b place ≡ Ok t
      → Agrees (code_from (left - (i + 1)) b) (flat_act b place code (reverse ps) t.0 t.1) (code_at b at)
  agrees left i t lt x h =
      subst (Agrees (code_from (left - (i + 1)) b) (flat_act b place code (reverse ps) t.0 t.1)) (sym (step left i t lt x h))
      (keeps (code_from (left - (i + 1)) b) b place t.1 x.0 x.1 code (reverse ps) t.0 x.2)

  -- it can't stand there
  pub refused : (left i : ℕ) (t : Token × ℕ) (e : Fault) → i < left → ReadsOn b at place (left - i) code ps → token_at b place ≡ Ok t
      → Fails e (flat_act b place code (reverse ps) t.0 t.1) → Fails e (flattened (code_at b at))
  refused left i t e lt x h f = by_error e f (agrees left i t lt x h)
    where
      by_error : (e : Fault) → Fails e (flat_act b place code (reverse ps) t.0 t.1)
          → Agrees (code_from (left - (i + 1)) b) (flat_act b place code (reverse ps) t.0 t.1) (code_at b at) → Fails e (flattened (code_at b at))
      by_error Memory f a = tt
      by_error e f a = ap flattened (subst (λ r. Agrees (code_from (left - (i + 1)) b) r (code_at b at)) f a)

  -- it was put
  pub reads_on : (left i next n : ℕ) (t : Token) (code' : List Instr) (ps' : List Pending) → i < left → ReadsOn b at place (left - i) code ps → token_at b place ≡ Ok (t, next)
      → flat_act b place code (reverse ps) t next ≡ Ok (record { code = code'; pending = reverse ps'; went = On n })
      → ReadsOn b at n (left - (i + 1)) code' ps'
  reads_on left i next n t code' ps' lt x h f =
      let a : Agrees (code_from (left - (i + 1)) b) (Ok (record { code = code'; pending = reverse ps'; went = On n })) (code_at b at) = subst (λ r. Agrees (code_from (left - (i + 1)) b) r (code_at b at)) f (agrees left i (t, next) lt x h) in
      (a.0, a.1, a.2, sym a.3)

  pub reads_all : (left i next n : ℕ) (t : Token) (code' : List Instr) (ps' : List Pending) → i < left → ReadsOn b at place (left - i) code ps → token_at b place ≡ Ok (t, next)
      → flat_act b place code (reverse ps) t next ≡ Ok (record { code = code'; pending = reverse ps'; went = Done n })
      → flattened (code_at b at) ≡ Ok (code', n)
  reads_all left i next n t code' ps' lt x h f =
      let a : Agrees (code_from (left - (i + 1)) b) (Ok (record { code = code'; pending = reverse ps'; went = Done n })) (code_at b at) = subst (λ r. Agrees (code_from (left - (i + 1)) b) r (code_at b at)) f (agrees left i (t, next) lt x h) in
      ap flattened a.2 ∙ ap (λ l. Ok (l, n)) (sym a.1)

  pub runs_out : (left i : ℕ) → left ≤ i → ReadsOn b at place (left - i) code ps → flattened (code_at b at) ≡ Err (Short (length b))
  unfolding code_from
  runs_out left i le x =
      let k : left - i ≡ 0 = omega arith in
      let one : code_from (left - i) b place x.0 x.1 ≡ Err (Short (length b)) = rw k refl in
      ap flattened (sym x.3 ∙ one)
