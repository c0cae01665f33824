-- Flat code with open lists, and the nested code that it stands for.
use Rattle.std.proofs.Common.{◌≡◌, ℕ, suc, ◌+◌, ◌-◌, ◌<◌, ◌≤◌, List, [], ◌∷◌, ◌++◌, length, Option, Some, None, Result, Ok, Err, refl, sym, ap, subst, ◌∙◌, arith, append_assoc, length-append, true, false, Bool, cond}
use Rattle.std.specs.Prelude.{slice_set, IfSome, nat_lt, All, reverse}
use Rattle.std.specs.List.{AllByRecursion}
use Rattle.std.proofs.lemmas.List.Elements.{All-from_recursion}
use Rattle.std.proofs.lemmas.List.{set_at, append-nil, get_or-reverse, length-reverse, reverse-reverse}
use Rattle.wasm_types.specs.declared.instr.ValType.{ValType}
use Rattle.wasm_types.specs.declared.instr.Instr.{Instr}
use Rattle.wasm_types.specs.declared.instr.Instr.TheVariants as instr
use Rattle.wasm_types.specs.Nested.{Code, Nil, Leaf, flat_code, flat_body, size}
use Rattle.wasm_types.proofs.Sizes.{length-flat_code}
use Rattle.module_specs.specs.declared.fault.Fault.{Fault}
use Rattle.module_specs.specs.declared.fault.Fault.TheVariants.{Limit}
use Rattle.module_specs.specs.declared.opcodes.Kind.{Kind}
use Rattle.module_specs.specs.declared.opcodes.Kind.TheVariants as kind
use Rattle.module_specs.specs.declared.token.Token.{Token}
use Rattle.module_specs.specs.declared.token.Token.TheVariants.{Plain, Opens, Else, End}
use Rattle.wasm_code.specs.declared.flat.Pending.{Pending}
use Rattle.wasm_code.specs.declared.flat.Went.{Went}
use Rattle.wasm_code.specs.declared.flat.Went.TheVariants.{On, Done}
use Rattle.wasm_code.specs.Flat.{opener, close, Flat, flat_else, flat_act, Inside, takes_else}
use Rattle.module_specs.specs.Reading.{Read, ◌>>=◌, block_type_at}
use Rattle.module_specs.specs.CodeReading.{Part, First, Second, made, Open, act, after_else}
use Rattle.module_specs.specs.CodeSpelling.{most_nested}

-- What is in front of a list's rest has this flat form, from p on.
abbrev pub Laid : (Code → Code) → ℕ → List Instr → Type 0
Laid f p seg = (rest : Code) → flat_code (f rest) p ≡ seg ++ flat_code rest (p + length seg)

laid_then : (f k : Code → Code) (p : ℕ) (s t : List Instr) → Laid f p s → Laid k (p + length s) t → Laid (λ rest. f (k rest)) p (s ++ t)
laid_then f k p s t x y rest =
    let n : p + length s + length t ≡ p + length (s ++ t) = omega (arith, length-append s t) in
    x (k rest)
    ∙ ap (λ l. s ++ l) (y rest)
    ∙ sym (append_assoc s t (flat_code rest (p + length s + length t)))
    ∙ ap (λ n. (s ++ t) ++ flat_code rest n) n

laid_nothing : (p : ℕ) → Laid (λ rest. rest) p []
laid_nothing p rest = ap (flat_code rest) (let e : p ≡ p + 0 = omega arith in e)

laid_leaf : (i : Instr) (p : ℕ) → Laid (λ rest. Leaf i rest) p (i ∷ [])
laid_leaf i p rest = refl

-- the whole of a list that is closed
laid_whole : (f : Code → Code) (p : ℕ) (s : List Instr) → Laid f p s → s ≡ flat_code (f Nil) p
laid_whole f p s x = sym (x Nil ∙ append-nil s)

laid_first : (k : Kind) (r : Option ValType) (inner : Code) (p : ℕ)
    → Laid (made (First k r) inner) p (opener k r None (p + 1 + size inner) ∷ (flat_code inner (p + 1) ++ instr.End ∷ []))
laid_first k r inner p rest = by_kind k
  where
    e : ℕ
    e = p + 1 + size inner

    joined : (i : Instr) → i ∷ (flat_code inner (p + 1) ++ instr.End ∷ flat_code rest (e + 1))
        ≡ (i ∷ (flat_code inner (p + 1) ++ instr.End ∷ [])) ++ flat_code rest (p + length (i ∷ (flat_code inner (p + 1) ++ instr.End ∷ [])))
    joined i =
        let n : e + 1 ≡ p + length (i ∷ (flat_code inner (p + 1) ++ instr.End ∷ [])) = omega (arith, length-append (flat_code inner (p + 1)) (instr.End ∷ []), length-flat_code inner (p + 1)) in
        ap (λ l. i ∷ l) (sym (append_assoc (flat_code inner (p + 1)) (instr.End ∷ []) (flat_code rest (e + 1))))
        ∙ ap (λ n. (i ∷ (flat_code inner (p + 1) ++ instr.End ∷ [])) ++ flat_code rest n) n

    by_kind : (k : Kind) → flat_code (made (First k r) inner rest) p
        ≡ (opener k r None e ∷ (flat_code inner (p + 1) ++ instr.End ∷ [])) ++ flat_code rest (p + length (opener k r None e ∷ (flat_code inner (p + 1) ++ instr.End ∷ [])))
    by_kind kind.Block = joined (instr.Block r e)
    by_kind kind.Loop = joined (instr.Loop r e)
    by_kind kind.If = joined (instr.If r None e)

-- where the second list of an if begins
abbrev pub else_place : ℕ → Code → ℕ
else_place p first = p + 1 + size first

laid_second : (r : Option ValType) (first inner : Code) (p : ℕ)
    → let q = else_place p first in let e = q + 1 + size inner in
    Laid (made (Second r first) inner) p (instr.If r (Some q) e ∷ (flat_code first (p + 1) ++ instr.Else e ∷ (flat_code inner (q + 1) ++ instr.End ∷ [])))
laid_second r first inner p rest =
    let q = else_place p first in
    let e = q + 1 + size inner in
    let one = flat_code first (p + 1) in
    let two = flat_code inner (q + 1) in
    let hd = instr.If r (Some q) e in
    let all : List Instr = hd ∷ (one ++ instr.Else e ∷ (two ++ instr.End ∷ [])) in
    let n : e + 1 ≡ p + length all = omega (arith, length-append one (instr.Else e ∷ (two ++ instr.End ∷ [])), length-append two (instr.End ∷ []), length-flat_code first (p + 1), length-flat_code inner (q + 1)) in
    ap (λ l. hd ∷ (one ++ instr.Else e ∷ l)) (sym (append_assoc two (instr.End ∷ []) (flat_code rest (e + 1))))
    ∙ ap (λ l. hd ∷ l) (sym (append_assoc one (instr.Else e ∷ (two ++ instr.End ∷ [])) (flat_code rest (e + 1))))
    ∙ ap (λ n. all ++ flat_code rest n) n

-- A list that is open, behind the flat code around it.
abbrev pub Inner : Part → Pending → (Code → Code) → List Instr → List Instr → Type 0
Inner (First k r) p list outer code =
    (seg : List Instr)
    × (p ≡ record { kind = k; result = r; at = length outer; else_at = None })
    × (code ≡ outer ++ opener k r None 0 ∷ seg)
    × Laid list (length outer + 1) seg
Inner (Second r first) p list outer code =
    (seg : List Instr)
    × (p ≡ record { kind = kind.If; result = r; at = length outer; else_at = Some (else_place (length outer) first) })
    × (code ≡ outer ++ instr.If r None 0 ∷ (flat_code first (length outer + 1) ++ instr.Else 0 ∷ seg))
    × Laid list (else_place (length outer) first + 1) seg

-- The flat code so far and the lists that are open are those of this nested code so far.
abbrev pub State : List Open → (Code → Code) → List Instr → List Pending → Type 0
State [] list code [] = Laid list 0 code
State [] list code (p ∷ ps) = ⊥
State (o ∷ os) list code [] = ⊥
State (o ∷ os) list code (p ∷ ps) = (outer : List Instr) × State os o.before outer ps × Inner o.what p list outer code

pub begins : State [] (λ rest. rest) [] []
begins = laid_nothing 0

inner_grows : (what : Part) (p : Pending) (f k : Code → Code) (outer code seg : List Instr) → Inner what p f outer code → Laid k (length code) seg
    → Inner what p (λ rest. f (k rest)) outer (code ++ seg)
inner_grows (First kd r) p f k outer code seg x y =
    let hd = opener kd r None 0 in
    let n : length code ≡ length outer + 1 + length x.0 = ap length x.2 ∙ omega (arith, length-append outer (hd ∷ x.0)) in
    (x.0 ++ seg, x.1, ap (λ l. l ++ seg) x.2 ∙ append_assoc outer (hd ∷ x.0) seg, laid_then f k (length outer + 1) x.0 seg x.3 (subst (λ n. Laid k n seg) n y))
inner_grows (Second r first) p f k outer code seg x y =
    let one = flat_code first (length outer + 1) in
    let hd = instr.If r None 0 in
    let n : length code ≡ else_place (length outer) first + 1 + length x.0 = ap length x.2 ∙ omega (arith, length-append outer (hd ∷ (one ++ instr.Else 0 ∷ x.0)), length-append one (instr.Else 0 ∷ x.0), length-flat_code first (length outer + 1)) in
    (x.0 ++ seg, x.1, ap (λ l. l ++ seg) x.2 ∙ append_assoc outer (hd ∷ (one ++ instr.Else 0 ∷ x.0)) seg ∙ ap (λ l. outer ++ hd ∷ l) (append_assoc one (instr.Else 0 ∷ x.0) seg), laid_then f k (else_place (length outer) first + 1) x.0 seg x.3 (subst (λ n. Laid k n seg) n y))

-- more code at the end of the innermost list
pub grows : (os : List Open) (f k : Code → Code) (code seg : List Instr) (ps : List Pending) → State os f code ps → Laid k (length code) seg
    → State os (λ rest. f (k rest)) (code ++ seg) ps
grows [] f k code seg [] x y = laid_then f k 0 code seg x (subst (λ n. Laid k n seg) (let e : length code ≡ 0 + length code = omega arith in e) y)
grows [] f k code seg (p ∷ ps) x y = absurd x
grows (o ∷ os) f k code seg [] x y = absurd x
grows (o ∷ os) f k code seg (p ∷ ps) x y = (x.0, x.1, inner_grows o.what p f k x.0 code seg x.2 y)

pub same_depth : (os : List Open) (list : Code → Code) (code : List Instr) (ps : List Pending) → State os list code ps → length ps ≡ length os
same_depth [] list code [] x = refl
same_depth [] list code (p ∷ ps) x = absurd x
same_depth (o ∷ os) list code [] x = absurd x
same_depth (o ∷ os) list code (p ∷ ps) x = ap suc (same_depth os o.before x.0 ps x.1)

-- a list opens
opens : (os : List Open) (list : Code → Code) (code : List Instr) (ps : List Pending) (k : Kind) (r : Option ValType) → State os list code ps
    → State (record { what = First k r; before = list } ∷ os) (λ rest. rest) (code ++ opener k r None 0 ∷ []) (record { kind = k; result = r; at = length code; else_at = None } ∷ ps)
opens os list code ps k r x = (code, x, ([], refl, refl, laid_nothing (length code + 1)))

-- a list closes
closes_inner : (what : Part) (p : Pending) (list : Code → Code) (outer code : List Instr) → Inner what p list outer code
    → (seg : List Instr) × (close code p (length code) ++ instr.End ∷ [] ≡ outer ++ seg) × Laid (made what (list Nil)) (length outer) seg
closes_inner (First k r) p list outer code x =
    let inner = list Nil in
    let hd = opener k r None 0 in
    let whole = laid_whole list (length outer + 1) x.0 x.3 in
    let e : length code ≡ length outer + 1 + size inner = ap length x.2 ∙ omega (arith, length-append outer (hd ∷ x.0), ap length whole, length-flat_code inner (length outer + 1)) in
    let last = length outer + 1 + size inner in
    let is : close code p (length code) ≡ outer ++ opener k r None last ∷ flat_code inner (length outer + 1) =
    ap (λ q. close code q (length code)) x.1
    ∙ ap (λ n. slice_set code (length outer) (opener k r None n)) e
    ∙ ap (λ l. slice_set l (length outer) (opener k r None last)) x.2
    ∙ set_at outer hd x.0 (opener k r None last) (length outer) refl
    ∙ ap (λ l. outer ++ opener k r None last ∷ l) whole in
    (opener k r None last ∷ (flat_code inner (length outer + 1) ++ instr.End ∷ []), ap (λ l. l ++ instr.End ∷ []) is ∙ append_assoc outer (opener k r None last ∷ flat_code inner (length outer + 1)) (instr.End ∷ []), laid_first k r inner (length outer))
closes_inner (Second r first) p list outer code x =
    let inner = list Nil in
    let at = length outer in
    let one = flat_code first (at + 1) in
    let q = else_place at first in
    let last = q + 1 + size inner in
    let two = flat_code inner (q + 1) in
    let hd = instr.If r None 0 in
    let new = instr.If r (Some q) last in
    let whole = laid_whole list (q + 1) x.0 x.3 in
    let n : length (outer ++ hd ∷ one) ≡ q = omega (arith, length-append outer (hd ∷ one), length-flat_code first (at + 1)) in
    let regroup : outer ++ hd ∷ (one ++ instr.Else 0 ∷ x.0) ≡ (outer ++ hd ∷ one) ++ instr.Else 0 ∷ x.0 = sym (append_assoc outer (hd ∷ one) (instr.Else 0 ∷ x.0)) in
    let e : length code ≡ last = ap length x.2 ∙ ap length regroup ∙ omega (arith, n, length-append (outer ++ hd ∷ one) (instr.Else 0 ∷ x.0), ap length whole, length-flat_code inner (q + 1)) in
    let set_else : slice_set code q (instr.Else last) ≡ outer ++ hd ∷ (one ++ instr.Else last ∷ two) =
    ap (λ l. slice_set l q (instr.Else last)) (x.2 ∙ regroup)
    ∙ set_at (outer ++ hd ∷ one) (instr.Else 0) x.0 (instr.Else last) q n
    ∙ ap (λ l. (outer ++ hd ∷ one) ++ instr.Else last ∷ l) whole
    ∙ append_assoc outer (hd ∷ one) (instr.Else last ∷ two) in
    let is : close code p (length code) ≡ outer ++ new ∷ (one ++ instr.Else last ∷ two) =
    ap (λ y. close code y (length code)) x.1
    ∙ ap (λ m. slice_set (slice_set code q (instr.Else m)) at (instr.If r (Some q) m)) e
    ∙ ap (λ l. slice_set l at new) set_else
    ∙ set_at outer hd (one ++ instr.Else last ∷ two) new at refl in (
      new ∷ (one ++ instr.Else last ∷ (two ++ instr.End ∷ [])),
      ap (λ l. l ++ instr.End ∷ []) is
          ∙ append_assoc outer (new ∷ (one ++ instr.Else last ∷ two)) (instr.End ∷ [])
          ∙ ap (λ l. outer ++ new ∷ l) (append_assoc one (instr.Else last ∷ two) (instr.End ∷ [])),
      laid_second r first inner at,
    )

closes : (o : Open) (os : List Open) (list : Code → Code) (code : List Instr) (p : Pending) (ps : List Pending) → State (o ∷ os) list code (p ∷ ps)
    → State os (λ rest. o.before (made o.what (list Nil) rest)) (close code p (length code) ++ instr.End ∷ []) ps
closes o os list code p ps x =
    let c = closes_inner o.what p list x.0 code x.2 in
    subst (λ l. State os (λ rest. o.before (made o.what (list Nil) rest)) l ps) (sym c.1) (grows os o.before (made o.what (list Nil)) x.0 c.0 ps x.1 c.2)

-- an else closes the first list of an if
turns : (r : Option ValType) (before list : Code → Code) (os : List Open) (code : List Instr) (p : Pending) (ps : List Pending)
    → State (record { what = First kind.If r; before = before } ∷ os) list code (p ∷ ps)
    → State (record { what = Second r (list Nil); before = before } ∷ os) (λ rest. rest) (code ++ instr.Else 0 ∷ []) (record { kind = p.kind; result = p.result; at = p.at; else_at = Some (length code) } ∷ ps)
turns r before list os code p ps x =
    let outer = x.0 in
    let seg = x.2.0 in
    let hd = instr.If r None 0 in
    let first = list Nil in
    let whole = laid_whole list (length outer + 1) seg x.2.3 in
    let e : length code ≡ else_place (length outer) first = ap length x.2.2 ∙ omega (arith, length-append outer (hd ∷ seg), ap length whole, length-flat_code first (length outer + 1)) in
    let is_p = ap (λ (q : Pending). record { kind = q.kind; result = q.result; at = q.at; else_at = Some (length code) }) x.2.1
    ∙ ap (λ n. record { kind = kind.If; result = r; at = length outer; else_at = Some n }) e in
    let is_code = ap (λ l. l ++ instr.Else 0 ∷ []) (x.2.2 ∙ ap (λ s. outer ++ hd ∷ s) whole)
    ∙ append_assoc outer (hd ∷ flat_code first (length outer + 1)) (instr.Else 0 ∷ []) in
    (outer, x.1, ([], is_p, is_code, laid_nothing (else_place (length outer) first + 1)))

-- what a token does to flat code is what it does to nested code
abbrev pub Goes : (ℕ → List Open → (Code → Code) → Read Code) → Flat → Went → Read Code → Type 0
Goes go f (On next) r = (os : List Open) × (list : Code → Code) × State os list f.code f.pending × (r ≡ go next os list)
Goes go f (Done next) r = (c : Code) × (f.code ≡ flat_body c) × (r ≡ Ok (c, next))

abbrev pub Agrees : (ℕ → List Open → (Code → Code) → Read Code) → Result Flat Fault → Read Code → Type 0
Agrees go (Ok f) r = Goes go f f.went r
Agrees go (Err e) r = r ≡ Err e

module _ (go : ℕ → List Open → (Code → Code) → Read Code) (b : List ℕ) (at next : ℕ) where
  opened_agrees : (t : Bool) (read : Read (Option ValType)) (os : List Open) (list : Code → Code) (code : List Instr) (ps : List Pending) (k : Kind) → State os list code ps
      → Agrees go
      (cond t (read >>= λ r. Ok (record { code = code ++ opener k r.0 None 0 ∷ []; pending = record { kind = k; result = r.0; at = length code; else_at = None } ∷ ps; went = On r.1 })) (Err (Limit at)))
      (cond t (read >>= λ r. go r.1 (record { what = First k r.0; before = list } ∷ os) (λ rest. rest)) (Err (Limit at)))
  opened_agrees false read os list code ps k x = refl
  opened_agrees true (Err e) os list code ps k x = refl
  opened_agrees true (Ok r) os list code ps k x = (record { what = First k r.0; before = list } ∷ os, (λ rest. rest), opens os list code ps k r.0 x, refl)

  else_agrees : (os : List Open) (list : Code → Code) (code : List Instr) (ps : List Pending) → State os list code ps
      → Agrees go (flat_else at code ps next) (after_else (go next) at os list)
  else_agrees [] list code [] x = refl
  else_agrees [] list code (p ∷ ps) x = absurd x
  else_agrees (o ∷ os) list code [] x = absurd x
  else_agrees (o ∷ os) list code (p ∷ ps) x = by_part o.what x.2
    where
      by_part : (what : Part) → Inner what p list x.0 code
          → Agrees go (flat_else at code (p ∷ ps) next) (after_else (go next) at (record { what = what; before = o.before } ∷ os) list)
      by_part (First kind.Block r) y = rw y.1 refl
      by_part (First kind.Loop r) y = rw y.1 refl
      by_part (First kind.If r) y =
          let t : takes_else p.kind p.else_at ≡ true = rw y.1 refl in
          rw t (record { what = Second r (list Nil); before = o.before } ∷ os, (λ rest. rest), turns r o.before list os code p ps (x.0, x.1, y), refl)
      by_part (Second r first) y = rw y.1 refl

  pub keeps : (os : List Open) (list : Code → Code) (code : List Instr) (ps : List Pending) (token : Token) → State os list code ps
      → Agrees go (flat_act b at code ps token next) (act go b at os list token next)
  keeps os list code ps (Plain i) x = (os, (λ rest. list (Leaf i rest)), grows os list (λ rest. Leaf i rest) code (i ∷ []) ps x (laid_leaf i (length code)), refl)
  keeps os list code ps (Opens k) x =
      subst (λ n. Agrees go (flat_act b at code ps (Opens k) next) (cond (nat_lt n most_nested) (block_type_at b next >>= λ r. go r.1 (record { what = First k r.0; before = list } ∷ os) (λ rest. rest)) (Err (Limit at))))
      (same_depth os list code ps x)
      (opened_agrees (nat_lt (length ps) most_nested) (block_type_at b next) os list code ps k x)
  keeps os list code ps Else x = else_agrees os list code ps x
  keeps [] list code [] End x = (list Nil, ap (λ l. l ++ instr.End ∷ []) (laid_whole list 0 code x), refl)
  keeps [] list code (p ∷ ps) End x = absurd x
  keeps (o ∷ os) list code [] End x = absurd x
  keeps (o ∷ os) list code (p ∷ ps) End x = (os, (λ rest. o.before (made o.what (list Nil) rest)), closes o os list code p ps x, refl)

-- the places of open lists lie in the flat code
within : (what : Part) (p : Pending) (list : Code → Code) (outer code : List Instr) → Inner what p list outer code → Inside (length code) p × (length outer < length code)
within (First k r) p list outer code x =
    let n : length outer < length code = omega (arith, ap length x.2, length-append outer (opener k r None 0 ∷ x.0)) in
    (subst (Inside (length code)) (sym x.1) (n, tt), n)
within (Second r first) p list outer code x =
    let one = flat_code first (length outer + 1) in
    let size_is : length code ≡ else_place (length outer) first + 1 + length x.0 = ap length x.2 ∙ omega (arith, length-append outer (instr.If r None 0 ∷ (one ++ instr.Else 0 ∷ x.0)), length-append one (instr.Else 0 ∷ x.0), length-flat_code first (length outer + 1)) in
    let n : length outer < length code = omega arith in
    (subst (Inside (length code)) (sym x.1) (n, omega arith), n)

inside_more : (m n : ℕ) (ps : List Pending) → m ≤ n → AllByRecursion (Inside m) ps → AllByRecursion (Inside n) ps
inside_more m n [] le h = tt
inside_more m n (p ∷ ps) le h = ((omega (arith, h.0.0), else_more p.else_at h.0.1), inside_more m n ps le h.1)
  where
    else_more : (q : Option ℕ) → IfSome q (λ q. q < m) → IfSome q (λ q. q < n)
    else_more None h = tt
    else_more (Some q) h = omega arith

inside_each : (os : List Open) (list : Code → Code) (code : List Instr) (ps : List Pending) → State os list code ps → AllByRecursion (Inside (length code)) ps
inside_each os list code [] x = tt
inside_each [] list code (p ∷ ps) x = absurd x
inside_each (o ∷ os) list code (p ∷ ps) x =
    let w = within o.what p list x.0 code x.2 in
    (w.0, inside_more (length x.0) (length code) ps (omega (arith, w.1)) (inside_each os o.before x.0 ps x.1))

all_reverse : (P : Pending → Type 0) (xs : List Pending) → All P xs → All P (reverse xs)
all_reverse P xs h = λ i d lt. let k : i < length xs = omega (arith, lt, length-reverse xs) in subst P (sym (get_or-reverse xs i d k)) (h (length xs - 1 - i) d (omega arith))

pub all_inside : (os : List Open) (list : Code → Code) (code : List Instr) (ps : List Pending) → State os list code (reverse ps) → All (Inside (length code)) ps
all_inside os list code ps x =
    subst (All (Inside (length code))) (reverse-reverse ps)
    (all_reverse (Inside (length code)) (reverse ps) (All-from_recursion (Inside (length code)) (reverse ps) (inside_each os list code (reverse ps) x)))
