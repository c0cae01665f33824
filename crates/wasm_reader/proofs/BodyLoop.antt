-- Reading bodies one after the other, as a loop does.
use Rattle.std.proofs.Common.{◌≡◌, ℕ, ◌+◌, ◌≤◌, ◌<◌, List, [], ◌∷◌, ◌++◌, length, drop, get_or, map, Ok, Err, refl, sym, ap, subst, ◌∙◌, append_assoc, arith}
use Rattle.std.proofs.lemmas.List.{append-nil, drop_more, length-drop, nil_from_length}
use Rattle.wasm_types.specs.declared.module.Func.{Func}
use Rattle.wasm_types.specs.Modules.{NestedFunc, flat_func}
use Rattle.module_specs.specs.declared.fault.Fault.{Fault}
use Rattle.module_specs.specs.declared.fault.Fault.TheVariants.{Memory}
use Rattle.module_specs.specs.Reading.{Read, ◌>>=◌, Fails}
use Rattle.module_specs.specs.CodeReading.{body_at}
use Rattle.module_specs.specs.ModuleReading.{bodies_at}
use Rattle.module_specs.proofs.Places.{ok_is}
use Rattle.module_specs.proofs.Readers.{cons_read}
use Rattle.module_specs.proofs.Loops.{with_front, fails_of}
use Rattle.wasm_code.specs.Flat.{flat_read}
use Rattle.wasm_reader.specs.Flat.{flat_funcs}

abbrev first_then : (ℕ → Read (List NestedFunc)) → NestedFunc × ℕ → Read (List NestedFunc)
first_then go x = go x.1 >>= cons_read x.0

err_of : (r : Read NestedFunc) (e : Fault) → flat_read r ≡ Err e → r ≡ Err e
err_of (Ok p) e h = absurd cc
err_of (Err d) e h = let same : d ≡ e = cc in ap (λ d. Err d) same

module _ (go : ℕ → Read (List NestedFunc)) (front : List Func) where
  first_fails : (r : Read NestedFunc) (e : Fault) → Fails e (flat_read r) → Fails e (with_front front (flat_funcs (r >>= first_then go)))
  first_fails r Memory h = tt
  first_fails r e h = fails_of e (with_front front (flat_funcs (r >>= first_then go))) (ap (λ r. with_front front (flat_funcs (r >>= first_then go))) (err_of r e h))

  regroup : (f : NestedFunc) (read : Read (List NestedFunc)) → with_front front (flat_funcs (read >>= cons_read f)) ≡ with_front (front ++ flat_func f ∷ []) (flat_funcs read)
  regroup f (Ok xs) = ap (λ l. Ok (l, xs.1)) (sym (append_assoc front (flat_func f ∷ []) (map flat_func xs.0)))
  regroup f (Err e) = refl

  first_goes : (r : Read NestedFunc) (f : Func) (next : ℕ) → flat_read r ≡ Ok (f, next)
      → with_front front (flat_funcs (r >>= first_then go)) ≡ with_front (front ++ f ∷ []) (flat_funcs (go next))
  first_goes (Err e) f next h = absurd cc
  first_goes (Ok p) f next h =
      let made : Func × ℕ = (flat_func p.0, p.1) in
      let same = ok_is made (f, next) h in
      subst (λ (q : Func × ℕ). with_front front (flat_funcs (first_then go p)) ≡ with_front (front ++ q.0 ∷ []) (flat_funcs (go q.1))) same (regroup p.0 (go p.1))

module _ (indices b : List ℕ) (i at : ℕ) (front : List Func) (total : Read (List Func)) (lt : i < length indices) where
  abbrev read_first : Read NestedFunc
  read_first = body_at (get_or indices i 0) b at

  one_more : bodies_at (drop i indices) b at ≡ read_first >>= first_then (bodies_at (drop (i + 1) indices) b)
  unfolding bodies_at
  one_more = ap (λ l. bodies_at l b at) (drop_more indices i 0 lt)

  pub ends : (e : Fault) → Fails e (flat_read read_first) → with_front front (flat_funcs (bodies_at (drop i indices) b at)) ≡ total → Fails e total
  ends e h so_far =
      subst (Fails e) (sym (ap (λ r. with_front front (flat_funcs r)) one_more) ∙ so_far)
      (first_fails (bodies_at (drop (i + 1) indices) b) front read_first e h)

  pub goes_on : (f : Func) (next : ℕ) → flat_read read_first ≡ Ok (f, next) → with_front front (flat_funcs (bodies_at (drop i indices) b at)) ≡ total
      → with_front (front ++ f ∷ []) (flat_funcs (bodies_at (drop (i + 1) indices) b next)) ≡ total
  goes_on f next h so_far =
      sym (ap (λ r. with_front front (flat_funcs r)) one_more ∙ first_goes (bodies_at (drop (i + 1) indices) b) front read_first f next h)
      ∙ so_far

pub is_done : (indices b : List ℕ) (i at : ℕ) (front : List Func) (total : Read (List Func)) → length indices ≤ i → with_front front (flat_funcs (bodies_at (drop i indices) b at)) ≡ total → total ≡ Ok (front, at)
unfolding bodies_at
is_done indices b i at front total le so_far =
    let none : drop i indices ≡ [] = nil_from_length (drop i indices) (omega (arith, length-drop i indices)) in
    sym so_far ∙ ap (λ l. with_front front (flat_funcs (bodies_at l b at))) none ∙ ap (λ l. Ok (l, at)) (append-nil front)
